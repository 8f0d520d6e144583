-- What the writer's steps rest on.
--   size_is                        how long the text of settings is
--   known-no-scheme, known-no-rule, known_both   its first two tests, as they are made
--   known-fails, length-fails, room-fails, tests-go-on   the tests in their order: where each fails, and where only the last is left
--   Accepted, accepted             what it says of settings that all tests pass
--   label-none, label-left, lines_left   a label's line, and all lines, in parts
--   write-refused, write_done      what is seen where a test fails, and where the lines were written over zeros
--   stored_back                    what the output holds is read as what was written
use Rattle.std.proofs.Common.{Option, Some, None, Err, ◌≡◌, ◌⊎◌, ◌∷◌, ◌++◌, ◌+◌, ◌≤◌}
use Rattle.std.specs.Option.{ok_or}
use Rattle.schemes.specs.{Schemes.scheme_of_lem, declared.Scheme.Scheme}
use Rattle.noise.specs.{Expand.rule_of_lem, declared.RuleName.RuleName}
use Rattle.lists.proofs.Kit.{refl, ◌∙◌, sym, ap, inl, inr, Bool, true, false, cond, List, [], append-nil, ℕ, zero, suc}
use Rattle.lists.proofs.Kit.{arith, length, replicate, length-append, leb-true, ne_eqb}
use Rattle.text.specs.{Text.LF, Text.digits_up_to, Text.decimal, Text.scheme_name, Text.line, Steps.Written}
use Rattle.text.proofs.Writing.{joined, Left, left-all, written_none, one-digit, line-length}
use Rattle.text.proofs.{Answer.answers, Runs.run-within}
use Rattle.refusals.specs.declared.Refusal.TheVariants.{NoScheme, NoRule, Misfit}
use Rattle.refusals.specs.Refusals.{pass}
use Rattle.refusals.specs.Seen.{written, done, refused, shown, seen}
use Rattle.refusals.specs.{Refusals.◌then◌, Refusals.length_up_to_lem, Refusals.room_for_lem, declared.Refusal.Refusal, Refusals.Verdict}
use Rattle.refusals.proofs.Laws.{both, number-zero, differ, failed, went_on, up-to-passed, room-passed}
use Rattle.refusals.proofs.Seen.{shown-failed, written-answer}
use Rattle.settings.specs.Settings.{Setup, format_name, rule_name, label_name, format_of, label_line, text_of, is_scheme_lem, is_rule_lem, not_allowed_lem, letters}
use Rattle.settings.specs.Calls.{scheme_known, rule_known, allowed, write_tests_lem, write_result}
use Rattle.settings.specs.{Shown.Valid, Shown.StoredBack, Steps.size_of}
use Rattle.settings.proofs.{Known.scheme-small, Known.rule-is, Inverse.back}

-- ---- how long

format-digit : (n : ℕ) → length (decimal (format_of n)) ≡ 1
unfolding format_of decimal digits_up_to
format-digit zero = refl
format-digit (suc n) = refl

rule-digits : (b : ℕ) → is_rule_lem b ≡ true → length (decimal b) ≡ 2
unfolding decimal digits_up_to
rule-digits b e = go (rule-is b e)
  where
    go : (b ≡ 14) ⊎ (b ≡ 16) → length (decimal b) ≡ 2
    go (inl p) = ap (λ (n : ℕ). length (decimal n)) p
    go (inr p) = ap (λ (n : ℕ). length (decimal n)) p

label-size : (l : List ℕ) → 26 + length (label_line l) ≡ size_of (length l)
unfolding label_line
label-size [] = refl
label-size (x ∷ l) = rw (ne_eqb (suc (length l)) 0 (λ z. omega arith)) (simp length-append (omega arith))

pub size_is : (x : Setup) → is_scheme_lem x.scheme ≡ true → is_rule_lem x.rule ≡ true → length (text_of x) ≡ size_of (length x.label)
unfolding text_of
size_is x h k =
    let a = x.scheme in
    let l = x.label in
    simp (length-append, line-length)
    (omega (arith, format-digit (length l), ap length (one-digit a (omega (arith, scheme-small a h))), rule-digits x.rule k, label-size l))

-- ---- the tests

module _ (a b : ℕ) where
  pub known-no-scheme : scheme_of_lem a ≡ None → Err NoScheme ≡ scheme_known a then rule_known b
  unfolding ◌then◌ scheme_known is_scheme_lem
  known-no-scheme e = rw e

  module _ {s : Scheme} (e : scheme_of_lem a ≡ Some s) {o : Option RuleName} (f : o ≡ rule_of_lem b) where
    pub known-no-rule : {r : Refusal} → Err r ≡ ok_or o NoRule → Err r ≡ scheme_known a then rule_known b
    unfolding ◌then◌ scheme_known rule_known is_scheme_lem is_rule_lem
    known-no-rule {r} h = go o refl h
      where
        go : (p : Option RuleName) → o ≡ p → Err r ≡ ok_or p NoRule → Err r ≡ scheme_known a then rule_known b
        go None g h = let z : r ≡ NoRule = cc in let n : rule_of_lem b ≡ None = sym f ∙ g in rw (e, n, z)
        go (Some k) g h = cc

    pub known_both : {k : RuleName} → o ≡ Some k → pass ≡ scheme_known a then rule_known b
    unfolding ◌then◌ scheme_known rule_known is_scheme_lem is_rule_lem
    known_both g = let n = sym f ∙ g in rw (e, n)

scheme-passed : (a : ℕ) → scheme_known a ≡ pass → is_scheme_lem a ≡ true
unfolding scheme_known
scheme-passed a = go (is_scheme_lem a)
  where
    go : (t : Bool) → cond t pass (Err NoScheme) ≡ pass → t ≡ true
    go true e = refl
    go false e = differ e

rule-passed : (b : ℕ) → rule_known b ≡ pass → is_rule_lem b ≡ true
unfolding rule_known
rule-passed b = go (is_rule_lem b)
  where
    go : (t : Bool) → cond t pass (Err NoRule) ≡ pass → t ≡ true
    go true e = refl
    go false e = differ e

allowed-passed : (l : List ℕ) → allowed l ≡ pass → letters l ≡ length l
unfolding allowed letters
allowed-passed l e = omega (arith, leb-true (length l) (letters l) (go _ e), run-within not_allowed_lem l)
  where
    go : (t : Bool) → cond t pass (Err Misfit) ≡ pass → t ≡ true
    go true e = refl
    go false e = differ e

-- one test more, behind tests of which one has failed, and behind tests that have passed
falls : {t : Verdict} {r : Refusal} (w : Verdict) → Err r ≡ t → Err r ≡ t then w
falls w e = sym (failed w e refl)

goes : {t w : Verdict} → pass ≡ t → w ≡ t then w
goes e = sym (went_on _ e refl)

module _ (x : Setup) (room : ℕ) where
  pub known-fails : {r : Refusal} → Err r ≡ scheme_known x.scheme then rule_known x.rule → Err r ≡ write_tests_lem x room
  unfolding write_tests_lem
  known-fails e = falls _ (falls _ (falls _ e))

  module _ (k : pass ≡ scheme_known x.scheme then rule_known x.rule) where
    pub length-fails : {r : Refusal} → Err r ≡ length_up_to_lem (length x.label) 16 → Err r ≡ write_tests_lem x room
    unfolding write_tests_lem
    length-fails e = falls _ (falls _ (e ∙ goes k))

    text-long : length (text_of x) ≡ size_of (length x.label)
    text-long = let b = both _ _ (sym k) in size_is x (scheme-passed _ b.0) (rule-passed _ b.1)

    module _ (l : pass ≡ length_up_to_lem (length x.label) 16) {m : ℕ} (s : m ≡ size_of (length x.label)) where
      front : pass ≡ scheme_known x.scheme then rule_known x.rule then length_up_to_lem (length x.label) 16
      front = l ∙ goes k

      room-is : room_for_lem room m ≡ room_for_lem room (length (text_of x))
      room-is = ap (room_for_lem room) (s ∙ sym text-long)

      pub room-fails : {r : Refusal} → Err r ≡ room_for_lem room m → Err r ≡ write_tests_lem x room
      unfolding write_tests_lem
      room-fails e = falls _ (e ∙ room-is ∙ goes front)

      pub tests-go-on : {w : Verdict} → pass ≡ room_for_lem room m → w ≡ allowed x.label → w ≡ write_tests_lem x room
      unfolding write_tests_lem
      tests-go-on e h = h ∙ goes (e ∙ room-is ∙ goes front)

pub record Accepted (x : Setup) (room : ℕ) : Type 0 where
  pub valid : Valid x
  pub fits : length (text_of x) ≤ room

pub accepted : {x : Setup} {room : ℕ} → write_tests_lem x room ≡ pass → Accepted x room
unfolding write_tests_lem
accepted {x} {room} e =
    let a = both _ _ e in
    let b = both _ _ a.0 in
    let c = both _ _ b.0 in
    let d = both _ _ c.0 in
    record {
      valid =
          record {
            scheme = scheme-passed _ d.0;
            rule = rule-passed _ d.1;
            short = up-to-passed _ 16 c.1;
            bytes = allowed-passed x.label a.1;
          };
      fits = room-passed room _ b.1;
    }

-- ---- the lines

pub label-none : (l d : List ℕ) (at : ℕ) → length l ≡ 0 → Written at (label_line l) d d at
unfolding label_line
label-none [] d at e = written_none d at
label-none (x ∷ l) d at e = absurd (omega arith)

label-parts : (l : List ℕ) → (length l ≡ 0 → ⊥) → label_line l ≡ joined (label_name ∷ l ∷ (LF ∷ []) ∷ [])
unfolding label_line joined
label-parts [] n = absurd (n refl)
label-parts (x ∷ l) n = refl

pub label-left : (l d : List ℕ) (at : ℕ) → (length l ≡ 0 → ⊥) → at + length (label_line l) ≤ length d
    → Left at (label_line l) d (label_name ∷ l ∷ (LF ∷ []) ∷ []) d at
label-left l d at n h = left-all at (label_name ∷ l ∷ (LF ∷ []) ∷ []) d (label-parts l n) h

-- with f the format's number
abbrev parts : ℕ → Setup → List (List ℕ)
parts f x = line format_name f ∷ line scheme_name x.scheme ∷ line rule_name x.rule ∷ label_line x.label ∷ []

lines_are : (f : ℕ) (x : Setup) → f ≡ format_of (length x.label) → text_of x ≡ joined (parts f x)
unfolding text_of joined
lines_are f x e =
    ap (λ (k : ℕ). line format_name k ++ (line scheme_name x.scheme ++ (line rule_name x.rule ++ label_line x.label))) (sym e)
    ∙ ap (λ (t : List ℕ). line format_name f ++ (line scheme_name x.scheme ++ (line rule_name x.rule ++ t))) (sym (append-nil (label_line x.label)))

pub lines_left : (x : Setup) (d : List ℕ) {f : ℕ} → f ≡ format_of (length x.label) → length (text_of x) ≤ length d → Left 0 (text_of x) d (parts f x) d 0
lines_left x d {f} e h = left-all 0 (parts f x) d (lines_are f x e) (omega arith)

-- ---- the promise; an output of n bytes has k of them still, once it is zeroed

module _ (x : Setup) {n k : ℕ} (h : k ≡ n) where
  tests : write_tests_lem x n ≡ write_tests_lem x k
  tests = ap (write_tests_lem x) (sym h)

  pub write-refused : {r : Refusal} {out : List ℕ} → Err r ≡ write_tests_lem x k → out ≡ replicate n 0 → seen (refused r 0) out ≡ write_result x n
  write-refused e z = shown-failed _ _ _ (tests ∙ sym e) z

  pub write_done : {old out : List ℕ} {r : ℕ} → pass ≡ write_tests_lem x k → old ≡ replicate n 0 → Written 0 (text_of x) old out r → seen (done r) out ≡ write_result x n
  unfolding shown seen written
  write_done e z w =
      let g = tests ∙ sym e in
      let o = answers n refl (rw z at w) in
      rw (g, o.holds, o.count)

pub stored_back : StoredBack
unfolding shown
stored_back x n z =
    let g = number-zero (write_tests_lem x n) (sym z) in
    rw (written-answer (text_of x) 0 n g) (back x (accepted g).valid)
