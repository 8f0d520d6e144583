-- Reading: what the functions that take a text apart rest on.
--   less                    below is not at most
--   not-digit, place        what std tests is no digit; the place of the first that is none is the run's length
--   Valued, valued-none, valued-more, valued-all, valued-room   a loop over digits: before, at each turn, after; and its numbers fit
--   few, many, ended, formed   the tests of `well_formed_lem`, the first three failing
--   Formed, formed-is       what it means that all pass
--   begun, begins-is        whether a text begins with a label, as std tests it; and where it does, it is the label and the rest
--   number_size, number-found, number-other   the number at a position, or other text
--   label-room, label-found, label-other   the number of a line with its label at a position, or other text
use Rattle.lists.proofs.Kit.{refl, ◌∙◌, sym, ap, Bool, true, false, cond, not, List, [], ℕ, zero, suc}
use Rattle.std.proofs.Common.{Option, Some, None, ◌≡◌, ◌||◌, ◌&&◌, ◌∷◌, ◌++◌, ◌+◌, ◌*◌, ◌-◌, ◌^◌, ◌≤◌, ◌<◌}
use Rattle.lists.proofs.Kit.{dec_lt, pow-succ', pow-le-pow_right, add-one, arith, eqb, leb, ltb, drop-cons, drop-drop, length, get_or, take, drop}
use Rattle.lists.proofs.Kit.{drop_of_length-le, length-append, length-drop, List·getD-eq-default, leb-true, leb-false, eqb-true, eqb-false, ltb-false, lt-ltb, le-ltb, le-leb, lt-leb}
use Rattle.lists.proofs.Kit.{eq-eqb, ne_eqb}
use Rattle.lists.specs.First.{first_where, both}
use Rattle.lists.proofs.{Table.both_true, Parts.part, Parts.to_end}
use Rattle.text.proofs.Runs.{run-within}
use Rattle.text.specs.Text.{LF, number, is_digit_lem, not_digit_lem, run, value_of, well_formed_lem, number_in, begins, field_in}
use Rattle.text.specs.Steps.{Reads}
use Rattle.std.specs.Char.{is_ascii_digit}
use Rattle.std.specs.Cmp.Lexicographic.{pointwise}
use Rattle.std.specs.List.{position_or_len}
use Rattle.std.specs.Option.{unwrap_or}

-- ---- digits

pub less : (x y : ℕ) → ltb x y ≡ not (leb y x)
less x y = go (leb y x) refl
  where
    go : (t : Bool) → leb y x ≡ t → ltb x y ≡ not t
    go true e = le-ltb x y (leb-true y x e)
    go false e = lt-ltb x y (leb-false y x e)

pub not-digit : (c : ℕ) → not (is_ascii_digit c) ≡ not_digit_lem c
unfolding not_digit_lem is_digit_lem
not-digit c = go (leb 48 c) (leb c 57)
  where
    go : (a b : Bool) → not (a && b) ≡ cond (both a b) false true
    go true true = refl
    go true false = refl
    go false b = refl

run_is : (xs : List ℕ) → position_or_len not_digit_lem xs ≡ run xs
unfolding run first_where
run_is [] = refl
run_is (x ∷ xs) = go (not_digit_lem x) (run_is xs)
  where
    go : (t : Bool) → position_or_len not_digit_lem xs ≡ first_where not_digit_lem xs
        → cond (not t) (1 + position_or_len not_digit_lem xs) 0 ≡ cond t zero (suc (first_where not_digit_lem xs))
    go true e = refl
    go false e = rw e (omega arith)

run-fits : (xs : List ℕ) → run xs ≤ length xs
unfolding run
run-fits xs = run-within not_digit_lem xs

-- the run's length, as std finds it: the place of the first that is no digit, or the length
pub place : (xs : List ℕ)
    → unwrap_or (cond (ltb (position_or_len not_digit_lem xs) (length xs)) (Some (position_or_len not_digit_lem xs)) None) (length xs) ≡ run xs
place xs = rw (run_is xs) (go (ltb (run xs) (length xs)) refl)
  where
    go : (t : Bool) → ltb (run xs) (length xs) ≡ t → unwrap_or (cond t (Some (run xs)) None) (length xs) ≡ run xs
    go true e = refl
    go false e = omega (arith, ltb-false (run xs) (length xs) e, run-fits xs)

pub record Valued (s : List ℕ) (n i : ℕ) : Type 0 where
  pub seen : i ≤ length s
  pub left : value_of s 0 ≡ value_of (drop i s) n
  pub small : n + 23 ≤ 23 * 10 ^ i

pub valued-none : (s : List ℕ) → Valued s 0 0
valued-none s = record { seen = omega arith; left = refl; small = omega arith }

pub valued-more : {s : List ℕ} {n i : ℕ} (d : ℕ) → Valued s n i → i < length s → d ≡ get_or s i 0 - 48 → d ≤ 207 → Valued s (10 * n + d) (i + 1)
unfolding value_of
valued-more {s} {n} {i} d h l e b =
    record {
      seen = omega arith;
      left = h.left ∙ rw (drop-cons s i 0 l, e, add-one);
      small = rw (add-one, pow-succ') (omega (arith, h.small));
    }

pub valued-all : {s : List ℕ} {n i : ℕ} → Valued s n i → length s ≤ i → n ≡ value_of s 0
unfolding value_of
valued-all {s} {n} {i} h l = sym (h.left ∙ ap (λ (r : List ℕ). value_of r n) (drop_of_length-le s l))

pub valued-room : {s : List ℕ} {n i : ℕ} → Valued s n i → i < 10 → n < 23000000000
valued-room {s} {n} {i} h l = omega (arith, h.small, pow-le-pow_right {n = 10} (omega arith) {i = i} {j = 9} (omega arith))

-- ---- a number

module _ (xs : List ℕ) where
  pub few : run xs < 1 → false ≡ well_formed_lem xs
  unfolding well_formed_lem
  few h = rw (lt-leb 1 (run xs) h)

  abbrev plain-front : Bool
  plain-front = cond (eqb (get_or xs 0 0) 48) (eqb (run xs) 1) true

  abbrev LF-behind : Bool
  LF-behind = eqb (get_or xs (run xs) 0) LF

  left_over : 1 ≤ run xs → well_formed_lem xs ≡ both (leb (run xs) 10) (both plain-front LF-behind)
  unfolding well_formed_lem
  left_over h = rw (le-leb 1 (run xs) h)

  pub many : 1 ≤ run xs → 10 < run xs → false ≡ well_formed_lem xs
  many h l = sym (left_over h ∙ rw (lt-leb (run xs) 10 l))

  never : (a : Bool) → both a false ≡ false
  never true = refl
  never false = refl

  pub ended : 1 ≤ run xs → run xs ≤ 10 → length xs ≤ run xs → false ≡ well_formed_lem xs
  ended h l e = sym (left_over h ∙ rw (le-leb (run xs) 10 l, List·getD-eq-default xs 0 e) (never plain-front))

  pub formed : 1 ≤ run xs → run xs ≤ 10 → ((not (eqb (get_or xs 0 0) 48) || eqb (run xs) 1) && eqb (get_or xs (run xs) 0) LF) ≡ well_formed_lem xs
  formed h l = go (eqb (get_or xs 0 0) 48) (eqb (run xs) 1) (eqb (get_or xs (run xs) 0) LF) ∙ sym (left_over h ∙ rw (le-leb (run xs) 10 l))
    where
      go : (a b c : Bool) → ((not a || b) && c) ≡ both (cond a b true) c
      go true true true = refl
      go true true false = refl
      go true false c = refl
      go false b true = refl
      go false b false = refl

  pub record Formed : Type 0 where
    pub some : 1 ≤ run xs
    pub ten : run xs ≤ 10
    pub plain : get_or xs 0 0 ≡ 48 → run xs ≡ 1
    pub stop : get_or xs (run xs) 0 ≡ LF

  pub formed-is : well_formed_lem xs ≡ true → Formed
  unfolding well_formed_lem
  formed-is e =
      let a = both_true (leb 1 (run xs)) (both (leb (run xs) 10) (both plain-front LF-behind)) e in
      let b = both_true (leb (run xs) 10) (both plain-front LF-behind) a.1 in
      let c = both_true plain-front LF-behind b.1 in
      record {
        some = leb-true 1 (run xs) a.0;
        ten = leb-true (run xs) 10 b.0;
        plain = λ z. eqb-true (run xs) 1 (rw (eq-eqb (get_or xs 0 0) 48 z) at c.0);
        stop = eqb-true _ LF c.1;
      }

  -- LF is no byte past the end
  pub formed-room : Formed → run xs < length xs
  formed-room f = go (dec_lt (run xs) (length xs))
    where
      go : Dec (run xs < length xs) → run xs < length xs
      go (yes l) = l
      go (no l) = absurd (omega (arith, f.stop, List·getD-eq-default xs 0 {n = run xs} (omega arith)))

-- the number at a position
module _ (s : List ℕ) (at : ℕ) (h : at ≤ length s) where
  pub number_size : {n : ℕ} → n ≡ run (part s at) → true ≡ well_formed_lem (part s at) → (n ≤ 10) × (n < length (part s at)) × (at + n + 1 ≤ length s)
  number_size r w =
      let f = formed-is (part s at) (sym w) in
      let l = formed-room (part s at) f in
      (omega (arith, f.ten), omega (arith, l), omega (arith, l, ap length (to_end s at), length-drop at s))

  pub number-found : {n v : ℕ} → n ≡ run (part s at) → true ≡ well_formed_lem (part s at) → v ≡ value_of (take n (part s at)) 0
      → Reads s (Some (v, at + n + 1)) (number_in (drop at s))
  unfolding number_in
  number-found {n} {v} r w d =
      record {
        means =
            rw (← to_end s at, ← w, ← r, ← d, to_end s at, drop-drop (suc n) at s)
            (ap (λ (k : ℕ). number v (drop k s)) {x = at + n + 1} {y = at + suc n} (omega arith));
        within = (number_size r w).2;
      }

  pub number-other : false ≡ well_formed_lem (part s at) → Reads s None (number_in (drop at s))
  unfolding number_in
  number-other w = record { means = rw (← to_end s at, ← w); within = omega arith }

-- ---- a label

same_test : (x y : ℕ) → eqb x y ≡ eqb y x
same_test x y = go (eqb y x) refl
  where
    go : (t : Bool) → eqb y x ≡ t → eqb x y ≡ t
    go true e = eq-eqb x y (sym (eqb-true y x e))
    go false e = ne_eqb x y (λ h. eqb-false y x e (sym h))

-- that s begins with a label, as std tests it
pub begun : (label s : List ℕ) → pointwise eqb label (take (length label) s) ≡ begins label s
unfolding begins
begun [] s = refl
begun (c ∷ cs) [] = refl
begun (c ∷ cs) (x ∷ xs) = rw (begun cs xs, same_test c x) (go (eqb x c))
  where
    go : (t : Bool) → (t && begins cs xs) ≡ both t (begins cs xs)
    go true = refl
    go false = refl

pub begins-is : (label xs : List ℕ) → begins label xs ≡ true → xs ≡ label ++ drop (length label) xs
unfolding begins
begins-is [] xs e = refl
begins-is (c ∷ cs) [] e = cc
begins-is (c ∷ cs) (x ∷ xs) e = let t = both_true _ _ e in rw (eqb-true x c t.0) (ap (λ (l : List ℕ). c ∷ l) (begins-is cs xs t.1))

-- the line at a position
module _ (label s : List ℕ) (at : ℕ) (h : at ≤ length s) where
  pub label-room : true ≡ begins label (part s at) → at + length label ≤ length s
  label-room b =
      omega
      (arith, ap length (begins-is label (part s at) (sym b)) ∙ length-append label (drop (length label) (part s at)), ap length (to_end s at), length-drop at s)

  pub label-found : {r : Option (ℕ × ℕ)} → true ≡ begins label (part s at) → Reads s r (number_in (drop (at + length label) s)) → Reads s r (field_in label (drop at s))
  unfolding field_in
  label-found b f = record { means = f.means ∙ rw (← to_end s at, ← b, to_end s at, drop-drop (length label) at s); within = f.within }

  pub label-other : false ≡ begins label (part s at) → Reads s None (field_in label (drop at s))
  unfolding field_in
  label-other b = record { means = rw (← to_end s at, ← b); within = omega arith }
