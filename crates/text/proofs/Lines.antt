-- A number and a line are read as what was written, and nothing else is.
--   number-forth, number-back   the text of a number is read as that number, and nothing else is
--   begins-front                a text that a label stands before begins with it
--   line-forth, line-back       the text of a line is read as its number, and nothing else is
--   told-number, told-within, told-other   what was found at a position
use Rattle.lists.proofs.Kit.{refl, ◌∙◌, sym, ap, ap₂, subst, Bool, true, false, cond, List, [], append_assoc, ℕ, suc}
use Rattle.std.proofs.Common.{Option, Some, None, ◌≡◌, ◌∷◌, ◌++◌, ◌^◌, ◌≤◌, ◌<◌}
use Rattle.lists.proofs.Kit.{pow-le-pow_right, add-one, arith, eqb, length, get_or, take, drop, length-take, take-append_seam, drop_at}
use Rattle.lists.proofs.Kit.{get_or-append_seam, split_at, eqb-true, eq-eqb, le-leb}
use lib.Seq.{drop-append-add}
use Rattle.lists.specs.First.{first_where, both}
use Rattle.text.specs.Text.{LF, digits_up_to, decimal, line, number, other, is_digit_lem, not_digit_lem, run, value_of, well_formed_lem, number_in, begins, field_in}
use Rattle.text.specs.Steps.{read_of, behind, Reads}
use Rattle.text.proofs.Numeral.{Numeral, made, made-length, only, enough, value, small, some, runs, front, taken}
use Rattle.text.proofs.Reading.{Formed, formed-is, formed-room, begins-is}

-- ---- a number

formed-true : (xs : List ℕ) → Formed xs → well_formed_lem xs ≡ true
unfolding well_formed_lem
formed-true xs f =
    rw (le-leb 1 (run xs) f.some, le-leb (run xs) 10 f.ten, eq-eqb (get_or xs (run xs) 0) LF f.stop) (go (eqb (get_or xs 0 0) 48) refl)
  where
    go : (t : Bool) → eqb (get_or xs 0 0) 48 ≡ t → both (cond t (eqb (run xs) 1) true) true ≡ true
    go true e = rw (eq-eqb (run xs) 1 (f.plain (eqb-true (get_or xs 0 0) 48 e)))
    go false e = refl

module _ {ds : List ℕ} {n : ℕ} (r : Numeral ds n) (l : length ds ≤ 10) (ys : List ℕ) where
  run_is : run (ds ++ LF ∷ ys) ≡ length ds
  unfolding run first_where not_digit_lem is_digit_lem
  run_is = runs r (LF ∷ ys) ∙ omega arith

  formed-of : Formed (ds ++ LF ∷ ys)
  formed-of =
      record {
        some = rw run_is (some r);
        ten = rw run_is l;
        plain = λ z. run_is ∙ front r (LF ∷ ys) z;
        stop = rw run_is (get_or-append_seam ds LF ys 0);
      }

  read_back : number_in (ds ++ LF ∷ ys) ≡ number n ys
  unfolding number_in
  read_back = rw (formed-true (ds ++ LF ∷ ys) formed-of, run_is, take-append_seam, value r, ← add-one (length ds), drop-append-add)

number-forth : (n : ℕ) (ys : List ℕ) → n < 10 ^ 10 → number_in (decimal n ++ LF ∷ ys) ≡ number n ys
unfolding decimal
number-forth n ys h = rw (enough 9 20 n h (omega arith)) (read_back (made 9 n h) (made-length 10 n) ys)

number-back : {n : ℕ} {ys : List ℕ} (xs : List ℕ) → number_in xs ≡ number n ys → (xs ≡ decimal n ++ LF ∷ ys) × (n < 10 ^ 10)
unfolding number_in decimal
number-back {n} {ys} xs = go (well_formed_lem xs) refl
  where
    go : (t : Bool) → well_formed_lem xs ≡ t → cond t (number (value_of (take (run xs) xs) 0) (drop (suc (run xs)) xs)) other ≡ number n ys
        → (xs ≡ digits_up_to 20 n ++ LF ∷ ys) × (n < 10 ^ 10)
    go true w e =
        let f = formed-is xs w in
        let r = taken xs f in
        let l = length-take (run xs) xs in
        let v : value_of (take (run xs) xs) 0 ≡ n = cc in
        let d : drop (suc (run xs)) xs ≡ ys = cc in (
          split_at xs (run xs) 0 (formed-room xs f)
              ∙ ap (λ (c : ℕ). take (run xs) xs ++ c ∷ drop (suc (run xs)) xs) f.stop
              ∙ ap₂ (λ (s t : List ℕ). s ++ LF ∷ t) (sym (only r 20 (omega (arith, l, f.ten))) ∙ ap (digits_up_to 20) v) d,
          omega (arith, v, small r, pow-le-pow_right {n = 10} (omega arith) {i = length (take (run xs) xs)} {j = 10} (omega (arith, l, f.ten))),
        )
    go false w e = let z : ◌≡◌ {A = ℕ} 0 1 = cc in absurd (omega arith)

-- ---- a line

pub begins-front : (label zs : List ℕ) → begins label (label ++ zs) ≡ true
unfolding begins
begins-front [] zs = refl
begins-front (c ∷ cs) zs = rw (eq-eqb c c refl) (begins-front cs zs)

line-is : (name : List ℕ) (n : ℕ) (ys : List ℕ) → line name n ++ ys ≡ name ++ (decimal n ++ LF ∷ ys)
unfolding line
line-is name n ys = simp append_assoc

pub line-forth : (name : List ℕ) (n : ℕ) (ys : List ℕ) → n < 10 ^ 10 → field_in name (line name n ++ ys) ≡ number n ys
unfolding field_in
line-forth name n ys h =
    let zs = decimal n ++ LF ∷ ys in
    rw (line-is name n ys, begins-front name zs, drop_at name zs (length name) refl) (number-forth n ys h)

pub line-back : {n : ℕ} {ys : List ℕ} (name xs : List ℕ) → field_in name xs ≡ number n ys → (xs ≡ line name n ++ ys) × (n < 10 ^ 10)
unfolding field_in
line-back {n} {ys} name xs = go (begins name xs) refl
  where
    go : (t : Bool) → begins name xs ≡ t → cond t (number_in (drop (length name) xs)) other ≡ number n ys → (xs ≡ line name n ++ ys) × (n < 10 ^ 10)
    go true b e =
        let r = number-back (drop (length name) xs) e in
        (begins-is name xs b ∙ ap (λ (t : List ℕ). name ++ t) r.0 ∙ sym (line-is name n ys), r.1)
    go false b e = let z : ◌≡◌ {A = ℕ} 0 1 = cc in absurd (omega arith)

-- ---- what was found at a position, in the terms of `field_in`

module _ (name s : List ℕ) (at : ℕ) {f : Option (ℕ × ℕ)} (r : Reads s f (field_in name (drop at s))) where
  pub told-number : {n k : ℕ} → f ≡ Some (n, k) → field_in name (drop at s) ≡ number n (drop k s)
  told-number e = sym r.means ∙ ap (read_of s) e

  pub told-within : {n k : ℕ} → f ≡ Some (n, k) → k ≤ length s
  told-within e = subst (λ (g : Option (ℕ × ℕ)). behind g ≤ length s) e r.within

  pub told-other : f ≡ None → field_in name (drop at s) ≡ other
  told-other e = sym r.means ∙ ap (read_of s) e
