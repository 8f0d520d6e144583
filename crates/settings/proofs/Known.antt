-- What settings are, as the code tests it.
--   scheme-known, rule-known   a scheme's number, a rule's
--   scheme-small, rule-is, rule-small   and which they are
--   format-some                the format of settings with a label
--   not-allowed                a byte that is no digit and no capital letter, as std tests it
--   place                      how many letters a text begins with, as std finds it
use Rattle.lists.proofs.Kit.{refl, ◌∙◌, inl, inr, Bool, true, false, cond, not, List, [], ℕ, zero, suc, length, arith, eqb, leb, ltb, leb-true}
use Rattle.std.specs.Char.{is_ascii_digit, is_ascii_uppercase}
use Rattle.std.specs.List.{position_or_len}
use Rattle.std.specs.Option.{unwrap_or}
use Rattle.std.proofs.Common.{Some, None, ◌≡◌, ◌∷◌, ◌+◌, ◌⊎◌, ◌||◌, ◌&&◌, ◌≤◌, ◌<◌}
use Rattle.lists.proofs.Kit.{eqb-true, eqb-false, ltb-false, le-leb, lt-leb}
use Rattle.lists.specs.First.{first_where, both}
use Rattle.text.specs.Text.{is_digit_lem}
use Rattle.text.proofs.Runs.{run-within}
use Rattle.settings.specs.Settings.{format_of, is_scheme_lem, is_rule_lem, not_allowed_lem, letters}

-- of a number by a sequence of tests, at the first of them that holds
first-scheme : (a : ℕ) (t0 t1 t2 t3 t4 t5 : Bool)
    → eqb a 0 ≡ t0 → eqb a 1 ≡ t1 → eqb a 2 ≡ t2 → eqb a 3 ≡ t3 → eqb a 4 ≡ t4 → eqb a 5 ≡ t5 → leb a 5 ≡ is_scheme_lem a
unfolding is_scheme_lem
first-scheme a true t1 t2 t3 t4 t5 e0 e1 e2 e3 e4 e5 = rw (e0, le-leb a 5 (omega (arith, eqb-true a 0 e0)))
first-scheme a false true t2 t3 t4 t5 e0 e1 e2 e3 e4 e5 = rw (e0, e1, le-leb a 5 (omega (arith, eqb-true a 1 e1)))
first-scheme a false false true t3 t4 t5 e0 e1 e2 e3 e4 e5 = rw (e0, e1, e2, le-leb a 5 (omega (arith, eqb-true a 2 e2)))
first-scheme a false false false true t4 t5 e0 e1 e2 e3 e4 e5 = rw (e0, e1, e2, e3, le-leb a 5 (omega (arith, eqb-true a 3 e3)))
first-scheme a false false false false true t5 e0 e1 e2 e3 e4 e5 = rw (e0, e1, e2, e3, e4, le-leb a 5 (omega (arith, eqb-true a 4 e4)))
first-scheme a false false false false false true e0 e1 e2 e3 e4 e5 = rw (e0, e1, e2, e3, e4, e5, le-leb a 5 (omega (arith, eqb-true a 5 e5)))
first-scheme a false false false false false false e0 e1 e2 e3 e4 e5 =
    let over : 5 < a =
    omega
    (arith, eqb-false a 0 e0, eqb-false a 1 e1, eqb-false a 2 e2, eqb-false a 3 e3, eqb-false a 4 e4, eqb-false a 5 e5)
    in
    rw (e0, e1, e2, e3, e4, e5, lt-leb a 5 over)

pub scheme-known : (a : ℕ) → leb a 5 ≡ is_scheme_lem a
scheme-known a = first-scheme a (eqb a 0) (eqb a 1) (eqb a 2) (eqb a 3) (eqb a 4) (eqb a 5) refl refl refl refl refl refl

pub scheme-small : (a : ℕ) → is_scheme_lem a ≡ true → a ≤ 5
scheme-small a e = leb-true a 5 (scheme-known a ∙ e)

first-rule : (b : ℕ) (s t : Bool) → eqb b 14 ≡ s → eqb b 16 ≡ t → (s || t) ≡ is_rule_lem b
unfolding is_rule_lem
first-rule b true t e f = rw e
first-rule b false true e f = rw (e, f)
first-rule b false false e f = rw (e, f)

pub rule-known : (b : ℕ) → (eqb b 14 || eqb b 16) ≡ is_rule_lem b
rule-known b = first-rule b (eqb b 14) (eqb b 16) refl refl

one-rule : (b : ℕ) (s t : Bool) → eqb b 14 ≡ s → eqb b 16 ≡ t → (s || t) ≡ true → (b ≡ 14) ⊎ (b ≡ 16)
one-rule b true t e f h = inl (eqb-true b 14 e)
one-rule b false true e f h = inr (eqb-true b 16 f)
one-rule b false false e f h = let z : ◌≡◌ {A = ℕ} 0 1 = cc in absurd (omega arith)

pub rule-is : (b : ℕ) → is_rule_lem b ≡ true → (b ≡ 14) ⊎ (b ≡ 16)
rule-is b e = one-rule b (eqb b 14) (eqb b 16) refl refl (rule-known b ∙ e)

pub rule-small : (b : ℕ) → is_rule_lem b ≡ true → b ≤ 16
rule-small b e = go (rule-is b e)
  where
    go : (b ≡ 14) ⊎ (b ≡ 16) → b ≤ 16
    go (inl p) = omega arith
    go (inr p) = omega arith

pub format-some : (n : ℕ) → (n ≡ 0 → ⊥) → 2 ≡ format_of n
unfolding format_of
format-some zero h = absurd (h refl)
format-some (suc n) h = refl

pub not-allowed : (c : ℕ) → not (is_ascii_digit c || is_ascii_uppercase c) ≡ not_allowed_lem c
unfolding not_allowed_lem is_digit_lem
not-allowed c = go (leb 48 c) (leb c 57) (leb 65 c) (leb c 90)
  where
    go : (s t u v : Bool) → not ((s && t) || (u && v)) ≡ cond (both s t) false (cond (both u v) false true)
    go true true u v = refl
    go true false true true = refl
    go true false true false = refl
    go true false false v = refl
    go false t true true = refl
    go false t true false = refl
    go false t false v = refl

letters-are : (xs : List ℕ) → position_or_len not_allowed_lem xs ≡ letters xs
unfolding letters first_where
letters-are [] = refl
letters-are (x ∷ xs) = go (not_allowed_lem x) (letters-are xs)
  where
    go : (t : Bool) → position_or_len not_allowed_lem xs ≡ first_where not_allowed_lem xs
        → cond (not t) (1 + position_or_len not_allowed_lem xs) 0 ≡ cond t zero (suc (first_where not_allowed_lem xs))
    go true e = refl
    go false e = rw e (omega arith)

letters-fit : (xs : List ℕ) → letters xs ≤ length xs
unfolding letters
letters-fit xs = run-within not_allowed_lem xs

-- how many letters a text begins with, as std finds it: the place of the first byte that is none, or the length
pub place : (xs : List ℕ)
    → unwrap_or (cond (ltb (position_or_len not_allowed_lem xs) (length xs)) (Some (position_or_len not_allowed_lem xs)) None) (length xs) ≡ letters xs
place xs = rw (letters-are xs) (go (ltb (letters xs) (length xs)) refl)
  where
    go : (t : Bool) → ltb (letters xs) (length xs) ≡ t → unwrap_or (cond t (Some (letters xs)) None) (length xs) ≡ letters xs
    go true e = refl
    go false e = omega (arith, ltb-false (letters xs) (length xs) e, letters-fit xs)
