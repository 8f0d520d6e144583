-- What the reader's steps rest on, each in the terms of `Settings`.
--   padded                                 a label in its 16 bytes
--   few, many, unended, formed             the tests of `well_spelled_lem`, the first three failing
--   spelled-size, spelled-setup, spelled-misfit, last-room, last-spelled, last-misfit   the label's line
--   tail-two, tail_none, tail_more, tail-end, end_short   what stands behind the rule
--   given_up                               the error that `?` hands on
--   rule-other, rule-read, rule-bad, scheme-.., format-..   the lines, where they are other text, read, or bad
use Rattle.lists.proofs.Kit.{refl, ◌∙◌, sym, ap, Bool, true, false, List, ℕ, suc, add-one, arith, eqb, leb}
use Rattle.std.specs.Option.{ok_or}
use Rattle.std.proofs.Common.{Option, Some, None, Result, Ok, Err, IsErr, IsErrAnd, ◌≡◌, ◌&&◌, ◌++◌, ◌+◌, ◌-◌, ◌≤◌, ◌<◌}
use Rattle.lists.proofs.Kit.{drop-cons, length, get_or, take, drop, replicate, length-append, length-drop, drop_of_length-le, leb-true, eqb-true, le-leb, lt-leb}
use Rattle.lists.proofs.Kit.{lt-ltb, le-ltb, ne_eqb}
use Rattle.lists.specs.First.{both}
use Rattle.lists.proofs.{Table.both_true, Parts.part, Parts.to_end, Parts.drop-same}
use Rattle.text.specs.{Text.LF, Text.scheme_name, Text.begins, Text.field_in, Steps.Reads}
use Rattle.text.proofs.{Reading.begins-is, Lines.told-number, Lines.told-other}
use Rattle.settings.specs.Settings.{setup_of, format_name, rule_name, label_name, is_scheme_lem, is_rule_lem, letters, setup, newer, misfit, well_spelled_lem, spelled_in}
use Rattle.settings.specs.Settings.{last_in, end_in, tail_in, rule_in, scheme_in, format_in, reads}
use Rattle.settings.specs.Calls.{answer_of}
use Rattle.settings.specs.declared.Misfit as why
use Rattle.settings.specs.declared.Misfit.TheVariants as misfits

-- ---- a label

pub padded : {p : List ℕ} (l : List ℕ) → p ≡ l → p ++ drop (length l) (replicate 16 0) ≡ l ++ replicate (16 - length l) 0
padded l e = rw (e, drop-same)

module _ (xs : List ℕ) where
  pub few : letters xs < 1 → false ≡ well_spelled_lem xs
  unfolding well_spelled_lem
  few h = rw (lt-leb 1 (letters xs) h)

  module _ (h : 1 ≤ letters xs) where
    pub many : 16 < letters xs → false ≡ well_spelled_lem xs
    unfolding well_spelled_lem
    many l = rw (le-leb 1 (letters xs) h, lt-leb (letters xs) 16 l)

    module _ (l : letters xs ≤ 16) where
      pub unended : length xs ≤ letters xs → false ≡ well_spelled_lem xs
      unfolding well_spelled_lem
      unended e = rw (le-leb 1 (letters xs) h, le-leb (letters xs) 16 l, ne_eqb (length xs) (suc (letters xs)) (λ z. omega arith))

      pub formed : (eqb (length xs) (letters xs + 1) && eqb (get_or xs (letters xs) 0) LF) ≡ well_spelled_lem xs
      unfolding well_spelled_lem
      formed =
          rw (le-leb 1 (letters xs) h, le-leb (letters xs) 16 l, add-one)
          (go (eqb (length xs) (suc (letters xs))) (eqb (get_or xs (letters xs) 0) LF))
        where
          go : (s t : Bool) → (s && t) ≡ both s t
          go true true = refl
          go true false = refl
          go false t = refl

module _ (xs : List ℕ) {n : ℕ} (r : n ≡ letters xs) where
  pub spelled-size : true ≡ well_spelled_lem xs → (n ≤ 16) × (n ≤ length xs)
  unfolding well_spelled_lem
  spelled-size w =
      let n = letters xs in
      let stop = eqb (get_or xs n 0) LF in
      let t = both_true (leb 1 n) (both (leb n 16) (both (eqb (length xs) (suc n)) stop)) (sym w) in
      let u = both_true (leb n 16) (both (eqb (length xs) (suc n)) stop) t.1 in
      let v = both_true (eqb (length xs) (suc n)) stop u.1 in
      (omega (arith, leb-true (letters xs) 16 u.0), omega (arith, eqb-true (length xs) (suc (letters xs)) v.0))

  pub spelled-setup : (a b : ℕ) → true ≡ well_spelled_lem xs → setup (setup_of a b (take n xs)) ≡ spelled_in a b xs
  unfolding spelled_in
  spelled-setup a b w = rw (← w, r)

pub spelled-misfit : (a b : ℕ) (xs : List ℕ) → false ≡ well_spelled_lem xs → misfit ≡ spelled_in a b xs
unfolding spelled_in
spelled-misfit a b xs w = rw (← w)

pub last-room : (s : List ℕ) → true ≡ begins label_name s → 6 ≤ length s
last-room s w = omega (arith, ap length (begins-is label_name s (sym w)) ∙ length-append label_name (drop 6 s))

module _ (a b : ℕ) (s : List ℕ) (at : ℕ) where
  pub last-spelled : true ≡ begins label_name (part s at) → spelled_in a b (part (part s at) 6) ≡ last_in a b (drop at s)
  unfolding last_in
  last-spelled w =
      let v : true ≡ begins label_name (drop at s) = rw (to_end s at) at w in
      rw (to_end (part s at) 6, to_end s at, ← v)

  pub last-misfit : false ≡ begins label_name (part s at) → misfit ≡ last_in a b (drop at s)
  unfolding last_in
  last-misfit w =
      let v : false ≡ begins label_name (drop at s) = rw (to_end s at) at w in
      rw (← v)

-- ---- what stands behind the rule

module _ (f a b : ℕ) (s : List ℕ) (at : ℕ) where
  pub tail-two : f ≡ 2 → last_in a b (drop at s) ≡ tail_in f a b (drop at s)
  unfolding tail_in
  tail-two e = rw e

  pub tail_none : (f ≡ 2 → ⊥) → (f ≡ 1 → ⊥) → misfit ≡ tail_in f a b (drop at s)
  unfolding tail_in
  tail_none g h = rw (ne_eqb f 1 h, ne_eqb f 2 g)

  pub tail_more : f ≡ 1 → at < length s → misfit ≡ tail_in f a b (drop at s)
  unfolding tail_in end_in
  tail_more e l = rw (e, drop-cons s at 0 l)

  pub tail-end : f ≡ 1 → length s ≤ at → setup (setup_of a b (part s at)) ≡ tail_in f a b (drop at s)
  unfolding tail_in end_in
  tail-end e l = rw (e, to_end s at, drop_of_length-le s l)

pub end_short : (s : List ℕ) (at : ℕ) → length s ≤ at → length (part s at) ≤ 16
end_short s at l = omega (arith, ap length (to_end s at), length-drop at s)

-- ---- the lines

pub given_up : {A E : Type 0} (r : Result A E) {e : E} → IsErr r × IsErrAnd r (λ y. y ≡ e) → r ≡ Err e
given_up (Ok a) h = absurd h.1
given_up (Err y) h = ap Err h.1

none_found : (g : Option (ℕ × ℕ)) {e : why.Misfit} → Err e ≡ ok_or g misfits.Other → (g ≡ None) × (e ≡ misfits.Other)
none_found None h = (refl, cc)
none_found (Some p) h = cc

module _ (f a : ℕ) (s : List ℕ) (at : ℕ) {g : Option (ℕ × ℕ)} (r : Reads s g (field_in rule_name (drop at s))) where
  pub rule-other : {e : why.Misfit} → Err e ≡ ok_or g misfits.Other → Err e ≡ answer_of (rule_in f a (field_in rule_name (drop at s)))
  unfolding rule_in
  rule-other h = let o = none_found g h in rw (told-other rule_name s at r o.0, o.1)

  module _ {b k : ℕ} (e : g ≡ Some (b, k)) where
    pub rule-read : is_rule_lem b ≡ true → tail_in f a b (drop k s) ≡ rule_in f a (field_in rule_name (drop at s))
    unfolding rule_in
    rule-read z = rw (told-number rule_name s at r e, z)

    pub rule-bad : is_rule_lem b ≡ false → misfit ≡ rule_in f a (field_in rule_name (drop at s))
    unfolding rule_in
    rule-bad z = rw (told-number rule_name s at r e, z)

module _ (f : ℕ) (s : List ℕ) (at : ℕ) {g : Option (ℕ × ℕ)} (r : Reads s g (field_in scheme_name (drop at s))) where
  pub scheme-other : {e : why.Misfit} → Err e ≡ ok_or g misfits.Other → Err e ≡ answer_of (scheme_in f (field_in scheme_name (drop at s)))
  unfolding scheme_in
  scheme-other h = let o = none_found g h in rw (told-other scheme_name s at r o.0, o.1)

  module _ {a k : ℕ} (e : g ≡ Some (a, k)) where
    pub scheme-read : is_scheme_lem a ≡ true → rule_in f a (field_in rule_name (drop k s)) ≡ scheme_in f (field_in scheme_name (drop at s))
    unfolding scheme_in
    scheme-read z = rw (told-number scheme_name s at r e, z)

    pub scheme-bad : is_scheme_lem a ≡ false → misfit ≡ scheme_in f (field_in scheme_name (drop at s))
    unfolding scheme_in
    scheme-bad z = rw (told-number scheme_name s at r e, z)

module _ (reader : ℕ) (s : List ℕ) {g : Option (ℕ × ℕ)} (r : Reads s g (field_in format_name (drop 0 s))) where
  pub format-other : {e : why.Misfit} → Err e ≡ ok_or g misfits.Other → Err e ≡ answer_of (reads reader s)
  unfolding reads format_in
  format-other h = let o = none_found g h in rw (told-other format_name s 0 r o.0, o.1)

  module _ {f k : ℕ} (e : g ≡ Some (f, k)) where
    pub format-newer : reader < f → newer f ≡ reads reader s
    unfolding reads format_in
    format-newer l = rw (told-number format_name s 0 r e, lt-ltb reader f l)

    pub format_read : f ≤ reader → scheme_in f (field_in scheme_name (drop k s)) ≡ reads reader s
    unfolding reads format_in
    format_read l = rw (told-number format_name s 0 r e, le-ltb reader f l)
