-- Where the public numbers come from.
--   Lends, lends              they are lent where some are lent; only-newhope: where none are, the scheme is NewHope, whose are grown
--   lent-passed               what the three lengths that open and answer test one after the other say, behind the verdict v
--   no-publics, no_table      none are refused where none are lent; NewHope has no table
--   numbers-counted           the numbers that Grow makes where it does not refuse: all are there, below q
--   grow-failed, grow-passed  what `grow` gives, by Grow's answer
--   Passes, public-passes     the public numbers of any scheme, lent or grown: all are there, and they pass where what is lent passes
use Rattle.std.proofs.Common.{Ok, Err, Some, None, Option, ◌≡◌}
use Rattle.noise.specs.declared.RuleName.{RuleName}
use Rattle.lists.proofs.Kit.{refl, ◌∙◌, sym, ap, List, [], ℕ, suc, le_refl, arith, length}
use Rattle.schemes.specs.declared.Scheme.TheVariants.{Bcns, NewHope, Challenge, Classical, Recommended, Paranoid}
use Rattle.schemes.specs.{Schemes.fixed_of, declared.Scheme.Scheme}
use Rattle.lists.specs.Ranges.{Below}
use Rattle.lists.proofs.Same.{empty}
use Rattle.noise.proofs.Stream.{by_name-below}
use Rattle.refusals.specs.Refusals.{pass, ◌then◌, length_is_lem, publics_in_lem}
use Rattle.refusals.specs.{Seen.Answer, Seen.told, Seen.shown, Seen.seen, declared.Refusal.Refusal, Refusals.Verdict}
use Rattle.refusals.proofs.Laws.{differ, both, all_pass, length-passed, length-passes, room-passes, below-passes, went_on}
use Rattle.refusals.proofs.Seen.{seen_done}
use Rattle.values.specs.Fit.{Counted}
use Rattle.sampling.specs.{Noise.table_words, Expand.expand_numbers, Expand.grow_numbers, Expand.blocks, Expand.grow_tests, Expand.grow_result}
use Rattle.sampling.proofs.Expanding.{enough-passed, numbers-few}
use Rattle.exchange.specs.{Random.public_lent, Random.public_from, Random.table_order, Random.grown, Random.ruled_in, Inside.Sized}
use Rattle.exchange.proofs.Drawn.{seen-fails, seen-whole}

pub lent-passed : (v : Verdict) (c : Scheme) (k : Option RuleName) (a table random : List ℕ) (n : ℕ) → Below 256 random
    → (v then length_is_lem (length a) (public_lent c) then length_is_lem (length table) (table_words c) then length_is_lem (length random) n) ≡ pass
    → (v ≡ pass) × (ruled_in k ≡ pass → Sized c k a table random n)
lent-passed v c k a table random n b e =
    let r = both _ _ e in
    let t = both _ _ r.0 in
    let p = both _ _ t.0 in (
      p.0,
      λ u. record {
        ruled = u;
        public-long = length-passed _ _ p.1;
        table-long = length-passed _ _ t.1;
        random-long = length-passed _ _ r.1;
        bytes = b;
      },
    )

-- the public numbers y, where a is lent
pub record Passes (c : Scheme) (a y : List ℕ) : Type 0 where
  pub long : length y ≡ (fixed_of c).public
  pub alike : publics_in_lem (fixed_of c).q a ≡ publics_in_lem (fixed_of c).q y

pub record Lends (c : Scheme) (k : Option RuleName) (seed a : List ℕ) : Type 0 where
  pub from : public_from c k seed a ≡ a
  pub none : grown c k seed ≡ pass
  pub long : public_lent c ≡ (fixed_of c).public
  pub some : public_lent c ≡ 0 → ⊥

never : (n : ℕ) → suc n ≡ 0 → ⊥
never n e = omega arith

either_way : {X : Type 0} (c : Scheme) (k : Option RuleName) (seed a : List ℕ) → (Lends c k seed a → X) → (c ≡ NewHope → X) → X
unfolding public_from grown
either_way Bcns k seed a f g = f (record { from = refl; none = refl; long = refl; some = never 1023 })
either_way NewHope k seed a f g = g refl
either_way Challenge k seed a f g = f (record { from = refl; none = refl; long = refl; some = never 123903 })
either_way Classical k seed a f g = f (record { from = refl; none = refl; long = refl; some = never 350463 })
either_way Recommended k seed a f g = f (record { from = refl; none = refl; long = refl; some = never 565503 })
either_way Paranoid k seed a f g = f (record { from = refl; none = refl; long = refl; some = never 746495 })

pub lends : (c : Scheme) (k : Option RuleName) (seed a : List ℕ) → (public_lent c ≡ 0 → ⊥) → Lends c k seed a
lends c k seed a h = either_way c k seed a (λ L. L) (λ d. absurd (h (ap public_lent d)))

pub only-newhope : (c : Scheme) → public_lent c ≡ 0 → c ≡ NewHope
only-newhope c e = either_way c None [] [] (λ L. absurd (L.some e)) (λ d. d)

-- ---- Grow

pub no-publics : (q : ℕ) → publics_in_lem (suc q) [] ≡ pass
no-publics q = below-passes (record { below = λ i. omega arith })

pub no_table : (table : List ℕ) → table_order NewHope table ≡ pass
unfolding table_order
no_table table = refl

-- the numbers that it makes where it does not refuse
pub numbers-counted : (k : Option RuleName) (seed : List ℕ) → ruled_in k ≡ pass → grown NewHope k seed ≡ pass → Counted 1024 12289 (grow_numbers k seed)
unfolding grown expand_numbers
numbers-counted None seed u p = differ u
numbers-counted (Some r) seed u p =
    let xs = grow_numbers (Some r) seed in
    record { long = omega (arith, enough-passed (length xs) _ refl p, numbers-few r (blocks seed)); below = by_name-below r (blocks seed) }

grow-tests : (k : Option RuleName) (seed : List ℕ) → ruled_in k ≡ pass → length seed ≡ 32 → grow_tests k seed 1024 ≡ grown NewHope k seed
unfolding grow_tests grown
grow-tests None seed u l = differ u
grow-tests (Some r) seed u l = went_on _ refl (all_pass (length-passes l) (room-passes (le_refl 1024)))

-- with just the room that it takes, by what it has left in a
module _ (k : Option RuleName) (seed : List ℕ) (u : ruled_in k ≡ pass) (l : length seed ≡ 32) {room : ℕ} (r : room ≡ 1024) (v : Answer) (a : List ℕ)
    (p : seen (told v) a ≡ grow_result k seed room) where
  given : seen (told v) a ≡ shown (grown NewHope k seed) (grow_numbers k seed) 0 1024
  given = rw r at p ∙ ap (λ (w : Verdict). shown w (grow_numbers k seed) 0 1024) (grow-tests k seed u l)

  pub grow-failed : {t : Refusal} → v ≡ Err t → Err t ≡ grown NewHope k seed
  grow-failed {t} f = sym (seen-fails (grow_numbers k seed) 0 1024 (grown NewHope k seed) t 0 a (rw f at given))

  pub grow-passed : {m : ℕ} → v ≡ Ok m → (pass ≡ grown NewHope k seed) × (a ≡ grow_numbers k seed)
  grow-passed {m} f =
      let xs = grow_numbers k seed in
      let g = rw f at given in
      let passed = seen_done xs 0 1024 (grown NewHope k seed) m a g in
      (sym passed, seen-whole xs 0 1024 (grown NewHope k seed) m a (numbers-counted k seed u passed).long g)

-- ---- of any scheme

module _ (c : Scheme) (k : Option RuleName) (seed a : List ℕ) (u : ruled_in k ≡ pass) (l : length a ≡ public_lent c) (g : grown c k seed ≡ pass) where
  as-grown : c ≡ NewHope → Passes c a (public_from c k seed a)
  unfolding public_from
  as-grown e =
      let n = numbers-counted k seed u (rw e at g) in
      let none = empty a (l ∙ ap public_lent e) in
      rw (e, none) (record { long = n.long; alike = no-publics 12288 ∙ sym (below-passes n.below) })

  -- wherever they come from
  pub public-passes : Passes c a (public_from c k seed a)
  public-passes = either_way c k seed a (λ L. rw L.from (record { long = l ∙ L.long; alike = refl })) as-grown
