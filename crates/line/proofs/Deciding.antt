-- The decision: what the functions between a question's numbers and its verdict rest on.
--   passed                   what it means that all tests pass
--   outside                  what it means that the second fails
--   bcns-shown, bcns-refused, frodo-shown, frodo-refused   the two families' answers, by the tests
--   Ready, ready, fitted     what the numbers of a scheme of Frodo are fit for
--   key-small, peer-small    a key in Frodo has at most two digits
--   beyond                   a number of more than 32 bits names no scheme
--   unnamed, in-family       the answers, by the scheme
--   other_text, some-behind, nothing-behind   the answers, by what was read of the lines
use Rattle.lists.proofs.Kit.{refl, sym, ap, ◌⊎◌, inl, inr, Bool, true, false, cond, List, ℕ, pow-le-pow_right, arith}
use Rattle.std.proofs.Common.{Option, Some, None, Result, Ok, Err, ◌≡◌, ◌*◌, ◌^◌, ◌≤◌, ◌<◌}
use Rattle.lists.proofs.Kit.{eqb, ltb, length, drop_of_length-le, drop-cons, ltb-true, ltb-false, lt-ltb, le-ltb, ne_eqb}
use Rattle.schemes.specs.Schemes.{by_family, family_of, fixed_of, scheme_of_lem}
use Rattle.schemes.specs.{declared.Family.Family, declared.Fixed.Fixed, declared.Scheme.Scheme}
use Rattle.lists.specs.First.{both}
use Rattle.frodo.specs.Shown.{Round}
use Rattle.frodo.proofs.Schemes.{each-scheme}
use Rattle.line.specs.Line.{asked, refusal, bcns_shown, frodo_shown, bcns_answer, frodo_answer, settled_in, settled, answer_to, answered}
use Rattle.std.specs.Option.{ok_or}
use Rattle.line.specs.Steps.{part_of, number_of, tested, Question, Refusal, Unnamed, Value, Text, Coin}
use Rattle.bcns.specs.Rounding as bcns
use Rattle.frodo.specs.Rounding as frodo
use Rattle.frodo.proofs.Entries as frodo-entries

-- ---- the tests

-- what the two tests give by their outcomes, and an answer
abbrev tested-by : Bool → Bool → Result Unit Refusal
tested-by r s = cond r (Err Coin) (cond s (Ok tt) (Err Value))

abbrev answer-by : Bool → Bool → List ℕ → List ℕ
answer-by r s xs = cond r (refusal 9) (cond s xs (refusal 4))

shown_by : (r s : Bool) (xs : List ℕ) {u : Unit} → Ok u ≡ tested-by r s → xs ≡ answer-by r s xs
shown_by true s xs e = cc
shown_by false true xs e = refl
shown_by false false xs e = cc

refused-by : (r s : Bool) (xs : List ℕ) {n : Refusal} → Err n ≡ tested-by r s → refusal (number_of n) ≡ answer-by r s xs
refused-by true s xs e = cc
refused-by false true xs e = cc
refused-by false false xs e = cc

module _ (most q coin v w : ℕ) where
  pub passed : {u : Unit} → Ok u ≡ tested most q coin v w → (coin ≤ most) × (v < q) × (w < q)
  unfolding tested
  passed = go (ltb most coin) (ltb v q) (ltb w q) refl refl refl
    where
      go : (r s t : Bool) {u : Unit} → ltb most coin ≡ r → ltb v q ≡ s → ltb w q ≡ t → Ok u ≡ tested-by r (both s t)
          → (coin ≤ most) × (v < q) × (w < q)
      go true s t a b c e = cc
      go false true true a b c e = (ltb-false most coin a, ltb-true v q b, ltb-true w q c)
      go false true false a b c e = cc
      go false false t a b c e = cc

  pub outside : coin ≤ most → (q ≤ v) ⊎ ((v < q) × (q ≤ w)) → Err Value ≡ tested most q coin v w
  unfolding tested
  outside h (inl l) = rw (le-ltb most coin h, le-ltb v q l)
  outside h (inr l) = rw (le-ltb most coin h, lt-ltb v q l.0, le-ltb w q l.1)

-- ---- the two families, by what the tests gave

module _ (coin v w : ℕ) where
  pub bcns-shown : {u : Unit} → Ok u ≡ tested 3 bcns.q coin v w → bcns_shown coin v w ≡ bcns_answer coin v w
  unfolding bcns_answer tested
  bcns-shown e = shown_by (ltb 3 coin) (both (ltb v bcns.q) (ltb w bcns.q)) (bcns_shown coin v w) e

  pub bcns-refused : {n : Refusal} → Err n ≡ tested 3 bcns.q coin v w → refusal (number_of n) ≡ bcns_answer coin v w
  unfolding bcns_answer tested
  bcns-refused e = refused-by (ltb 3 coin) (both (ltb v bcns.q) (ltb w bcns.q)) (bcns_shown coin v w) e

  -- f is what the scheme's numbers are, g and i what the code has of them
  module _ {f g : Fixed} (o : g ≡ f) where
    pub frodo-shown : {i : ℕ} {u : Unit} → i ≡ frodo.interval f → Ok u ≡ tested 0 g.q coin v w → frodo_shown i g.keybits v w ≡ frodo_answer f coin v w
    unfolding frodo_answer tested
    frodo-shown p e = rw (p, o) (shown_by (ltb 0 coin) (both (ltb v f.q) (ltb w f.q)) (frodo_shown (frodo.interval f) f.keybits v w) (rw o at e))

    pub frodo-refused : {n : Refusal} → Err n ≡ tested 0 g.q coin v w → refusal (number_of n) ≡ frodo_answer f coin v w
    unfolding frodo_answer tested
    frodo-refused e = refused-by (ltb 0 coin) (both (ltb v f.q) (ltb w f.q)) (frodo_shown (frodo.interval f) f.keybits v w) (rw o at e)

pub record Ready (q i b : ℕ) : Type 0 where
  pub round : Round i b
  pub whole : q ≡ i * 2 ^ b

pub ready : (s : Scheme) {g : Fixed} {i : ℕ} → family_of s ≡ Family.Frodo → g ≡ fixed_of s → i ≡ frodo.interval (fixed_of s) → Ready g.q i g.keybits
ready s m o p =
    let r = each-scheme s m in
    rw (o, p) (record { round = r.round; whole = sym r.whole })

-- and the tests have passed
pub fitted : (coin v w : ℕ) {q i b : ℕ} {u : Unit} → Ready q i b → Ok u ≡ tested 0 q coin v w → (v < i * 2 ^ b) × (w < i * 2 ^ b)
fitted coin v w {q} r e = let p = passed 0 q coin v w e in (omega (arith, p, r.whole), omega (arith, p, r.whole))

module _ (I B : ℕ) (b : B ≤ 4) where
  bits : 2 ^ B ≤ 16
  bits = pow-le-pow_right {n = 2} (omega arith) {i = B} {j = 4} b

  pub key-small : (v : ℕ) → frodo.key_of I B v < 16
  key-small v = omega (arith, bits, frodo-entries.key_below I B v)

  pub peer-small : (h w : ℕ) → frodo.peer_of I B h w < 16
  unfolding frodo.peer_of
  peer-small h w = key-small _

-- ---- the schemes

pub beyond : (k : ℕ) → 2 ^ 32 ≤ k → None ≡ scheme_of_lem k
beyond k h =
    let n : (m : ℕ) → m < 2 ^ 32 → eqb k m ≡ false = λ m l. ne_eqb k m (omega arith) in
    rw (n 0 (omega arith), n 1 (omega arith), n 2 (omega arith), n 3 (omega arith), n 4 (omega arith), n 5 (omega arith))

module _ (k coin v w : ℕ) where
  pub unnamed : (o : Option Scheme) {n : Refusal} → o ≡ scheme_of_lem k → Err n ≡ ok_or o Unnamed → refusal (number_of n) ≡ settled k coin v w
  unfolding settled settled_in
  unnamed None {n} e f = let z : n ≡ Unnamed = cc in rw z (ap (λ (m : Option Scheme). settled_in m coin v w) e)
  unnamed (Some s) e f = cc

  pub in-family : {s : Scheme} {F : Family} → Some s ≡ scheme_of_lem k → F ≡ family_of s
      → by_family F (bcns_answer coin v w) (refusal 1) (frodo_answer (fixed_of s) coin v w) ≡ settled k coin v w
  unfolding settled settled_in
  in-family {s} e f = rw f (ap (λ (m : Option Scheme). settled_in m coin v w) e)

-- ---- the answer, by what was read of the lines

module _ (s : List ℕ) where
  pub other_text : (o : Option Question) {n : Refusal} → part_of s o ≡ asked s → Err n ≡ ok_or o Text → refusal (number_of n) ≡ answered s
  unfolding answered answer_to
  other_text None {n} e f = let z : n ≡ Text = cc in rw z (ap answer_to e)
  other_text (Some q) e f = cc

  module _ {o : Option Question} {q : Question} (g : o ≡ Some q) (e : part_of s o ≡ asked s) where
    pub some-behind : q.end < length s → refusal 8 ≡ answered s
    unfolding answered answer_to
    some-behind i = ap answer_to (rw (g, drop-cons s q.end 0 i) at e)

    pub nothing-behind : length s ≤ q.end → settled q.scheme q.coin q.v q.w ≡ answered s
    unfolding answered answer_to
    nothing-behind i = ap answer_to (rw (g, drop_of_length-le s i) at e)
