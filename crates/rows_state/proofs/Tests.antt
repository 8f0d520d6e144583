-- The tests of a state, one after the other, and what it means that they passed.
--   stops, goes, passed      a test that fails ends them; after one that passes the others decide; both have passed
--   all-below, below_all     each number is below the bound, and the other way round
--   Started, started, starts a call has begun: what holds of its state, and the other way round
--   Fits, fits, fits-so      a part fits, likewise
--   completes, complete-so   all of A has come, likewise
--   Frodos, frodos, frodo-named   what Frodo's schemes have in common; a state names none but these
--   square                   n n is small
use Rattle.std.proofs.Common.{Some, None, Option}
use Rattle.lists.proofs.Kit.{refl, sym, ap, Bool, true, false, List, ℕ, arith, le_of_eq, mul-le-mul, leb-true, eqb-true}
use Rattle.std.proofs.Common.{◌≡◌, ◌+◌, ◌*◌, ◌%◌, ◌^◌, ◌<◌, ◌≤◌}
use Rattle.lists.proofs.Kit.{eq-eqb, le-leb, lt-leb, leb, length, get_or}
use Rattle.schemes.specs.declared.Scheme.TheVariants.{Bcns, NewHope, Challenge, Classical, Recommended, Paranoid}
use Rattle.schemes.specs.Schemes.{family_of, fixed_of, scheme_of_lem}
use Rattle.schemes.specs.{declared.Fixed.Fixed, declared.Family.Family, declared.Scheme.Scheme}
use Rattle.lists.specs.{Ranges.Below, First.first_over_lem}
use Rattle.lists.proofs.{First.none_found, Table.both_true}
use Rattle.rows_state.specs.State.{frodo_in_lem, frodo_of_lem, tag_of, long, taken, saved_of, ◌and◌, all_below, saved_in, begun, fits_in_lem, complete, Call}
use Rattle.lists.proofs.First as first

pub stops : {t : Bool} (b : Bool) → t ≡ false → false ≡ t and b
unfolding ◌and◌
stops b e = rw e

pub goes : {t b r : Bool} → t ≡ true → r ≡ b → r ≡ t and b
unfolding ◌and◌
goes e d = rw e d

pub passed : (t b : Bool) → t and b ≡ true → (t ≡ true) × (b ≡ true)
unfolding ◌and◌
passed t b e = both_true t b e

pub all-below : (b : ℕ) (xs : List ℕ) → 0 < b → all_below b xs ≡ true → Below b xs
unfolding all_below
all-below b xs o h = first.all-below b xs o (le_of_eq (sym (eqb-true _ _ h)))

pub below_all : (b : ℕ) (xs : List ℕ) → Below b xs → all_below b xs ≡ true
unfolding all_below first_over_lem
below_all b xs h = eq-eqb _ _ (none_found (λ x. leb b x) 0 xs (λ k. lt-leb _ _ (h.below k)))

-- ---- a call has begun

pub record Started (k : Call) (f : Fixed) (st : List ℕ) : Type 0 where
  pub is-long : length st ≡ long f.n
  pub is_call : get_or st 0 0 ≡ tag_of k
  pub at-most : taken st ≤ f.n * f.n
  pub kept_in : saved_in k f.q (saved_of st) ≡ true

pub started : (k : Call) (f : Fixed) (st : List ℕ) → begun k f st ≡ true → Started k f st
unfolding begun
started k f st h =
    let a = passed _ _ h in
    let b = passed _ _ a.1 in
    let d = passed _ _ b.1 in
    record { is-long = eqb-true _ _ a.0; is_call = eqb-true _ _ b.0; at-most = leb-true _ _ d.0; kept_in = d.1 }

pub starts : (k : Call) (f : Fixed) (st : List ℕ) → Started k f st → begun k f st ≡ true
unfolding begun
starts k f st s = sym (goes (eq-eqb _ _ s.is-long) (goes (eq-eqb _ _ s.is_call) (goes (le-leb _ _ s.at-most) (sym s.kept_in))))

pub record Fits (n at m : ℕ) : Type 0 where
  pub in_row : at % n + m ≤ n
  pub in_all : at + m ≤ n * n

pub fits : (n at m : ℕ) → fits_in_lem n at m ≡ true → Fits n at m
unfolding fits_in_lem
fits n at m h = let a = passed _ _ h in record { in_row = leb-true _ _ a.0; in_all = leb-true _ _ a.1 }

pub fits-so : (n at m : ℕ) → Fits n at m → fits_in_lem n at m ≡ true
unfolding fits_in_lem
fits-so n at m f = sym (goes (le-leb _ _ f.in_row) (sym (le-leb _ _ f.in_all)))

pub completes : (k : Call) (f : Fixed) (st : List ℕ) → complete k f st ≡ true → (begun k f st ≡ true) × (taken st ≡ f.n * f.n)
unfolding complete
completes k f st h = let a = passed _ _ h in (a.0, eqb-true _ _ a.1)

pub complete-so : (k : Call) (f : Fixed) (st : List ℕ) → begun k f st ≡ true → taken st ≡ f.n * f.n → complete k f st ≡ true
unfolding complete
complete-so k f st b e = sym (goes b (sym (eq-eqb _ _ e)))

pub square : (n : ℕ) → n ≤ 864 → n * n ≤ 746496
square n h = omega (arith, mul-le-mul {n₁ = n} {m₁ = n} {n₂ = 864} {m₂ = 864} h h)

-- ---- Frodo's schemes

not-bcns : {X : Type 0} → Family.Bcns ≡ Family.Frodo → X
not-bcns e = let z : ◌≡◌ {A = ℕ} 0 1 = cc in absurd (omega arith)

not-newhope : {X : Type 0} → Family.NewHope ≡ Family.Frodo → X
not-newhope e = let z : ◌≡◌ {A = ℕ} 0 1 = cc in absurd (omega arith)

-- what they have in common besides `Frodo` of crate `values`
pub record Frodos (f : Fixed) : Type 0 where
  pub seed : f.seed ≡ 16
  pub coins : f.coins ≡ 0
  pub words : 65536 % f.q ≡ 0
  pub sixteens : f.n % 16 ≡ 0
  pub power : f.q ≡ 2 ^ f.width
  pub coinbits : f.coinbits ≡ 0

pub frodos : (c : Scheme) → family_of c ≡ Family.Frodo → Frodos (fixed_of c)
frodos Bcns e = not-bcns e
frodos NewHope e = not-newhope e
frodos Challenge e = record { seed = refl; coins = refl; words = refl; sixteens = refl; power = refl; coinbits = refl }
frodos Classical e = record { seed = refl; coins = refl; words = refl; sixteens = refl; power = refl; coinbits = refl }
frodos Recommended e = record { seed = refl; coins = refl; words = refl; sixteens = refl; power = refl; coinbits = refl }
frodos Paranoid e = record { seed = refl; coins = refl; words = refl; sixteens = refl; power = refl; coinbits = refl }

unknown-is : {X : Type 0} {c : Scheme} → None ≡ Some c → X
unknown-is e = let z : ◌≡◌ {A = ℕ} 0 1 = cc in absurd (omega arith)

scheme_in : Option Scheme → Scheme → Scheme
scheme_in None d = d
scheme_in (Some c) d = c

pub frodo-in : (x : Option Scheme) (c : Scheme) → frodo_in_lem x ≡ Some c → (x ≡ Some c) × (family_of c ≡ Family.Frodo)
unfolding scheme_in
frodo-in None c e = unknown-is e
frodo-in (Some Bcns) c e = unknown-is e
frodo-in (Some NewHope) c e = unknown-is e
frodo-in (Some Challenge) c e = (e, ap (λ (y : Option Scheme). family_of (scheme_in y c)) (sym e))
frodo-in (Some Classical) c e = (e, ap (λ (y : Option Scheme). family_of (scheme_in y c)) (sym e))
frodo-in (Some Recommended) c e = (e, ap (λ (y : Option Scheme). family_of (scheme_in y c)) (sym e))
frodo-in (Some Paranoid) c e = (e, ap (λ (y : Option Scheme). family_of (scheme_in y c)) (sym e))

pub frodo-named : (k : ℕ) (c : Scheme) → frodo_of_lem k ≡ Some c → family_of c ≡ Family.Frodo
frodo-named k c e = (frodo-in (scheme_of_lem k) c e).1
