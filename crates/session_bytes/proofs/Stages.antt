-- The stage of a buffer.
--   staged-at        the whole buffer, by what the code finds behind the key
--   numbers-back     the bytes of the stage that they name
--   Parts, parts     what a buffer that is a session holds
use Rattle.std.proofs.Common.{Some, None, Option, ◌≡◌, ◌+◌, ◌-◌, ◌≤◌}
use Rattle.lists.proofs.Kit.{refl, ◌∙◌, sym, ap, List, Bool, true, false, cond, ℕ, arith, eqb, length, get_or, take, drop, length-drop}
use Rattle.lists.proofs.Kit.{take_all, drop-drop, eq-eqb, eqb-true}
use Rattle.schemes.specs.{Schemes.scheme_of_lem, declared.Scheme.Scheme}
use Rattle.schemes.proofs.Laws.{by-scheme}
use Rattle.blank.specs.Blank.{blank}
use Rattle.session.specs.{declared.Stage.Stage, declared.Stage.TheVariants.Idle, declared.Stage.TheVariants.Offered, declared.Stage.TheVariants.Keyed}
use Rattle.session_bytes.specs.Bytes.{stage_byte_lem, scheme_byte_lem, stage_at, stage_in_lem, key_length_lem, checked, staged}

-- ---- by the bytes behind the key

behind-key : (bs : List ℕ) (n : ℕ) → length bs ≡ 130 → n ≤ 128 → take (130 - (2 + n)) (drop (2 + n) bs) ≡ drop n (drop 2 bs)
behind-key bs n l h =
    take_all (130 - (2 + n)) (drop (2 + n) bs) (omega (arith, length-drop (2 + n) bs, l)) ∙ sym (drop-drop n 2 bs)

-- b is what the code finds of the n bytes behind the key
pub staged-at : (bs : List ℕ) {st : Stage} {n : ℕ} {b : Bool} → length bs ≡ 130 → Some st ≡ stage_in_lem (get_or bs 0 0) (get_or bs 1 0)
    → (n ≡ key_length_lem st) × (n ≤ 128) → b ≡ blank (take (130 - (2 + n)) (drop (2 + n) bs)) → cond b (Some st) None ≡ staged bs
unfolding staged
staged-at bs {st} {n} l i d g =
    let e = g ∙ ap blank (behind-key bs n l d.1 ∙ ap (λ (m : ℕ). drop m (drop 2 bs)) d.0) in
    rw (eq-eqb (length bs) 130 l, ← i, e)

-- ---- and back

apart : {X : Type 0} {st : Stage} → None ≡ Some st → X
apart e = let z : ◌≡◌ {A = ℕ} 0 1 = cc in absurd (omega arith)

offered-numbers : (k : ℕ) (st : Stage) (n : Option Scheme) → scheme_of_lem k ≡ n → stage_at Offered n ≡ Some st → (1 ≡ stage_byte_lem st) × (k ≡ scheme_byte_lem st)
offered-numbers k st None d e = apart e
offered-numbers k st (Some c) d e = let p : Offered c ≡ st = cc in rw (← p) (refl, by-scheme k c d)

keyed-numbers : (k : ℕ) (st : Stage) (n : Option Scheme) → scheme_of_lem k ≡ n → stage_at Keyed n ≡ Some st → (2 ≡ stage_byte_lem st) × (k ≡ scheme_byte_lem st)
keyed-numbers k st None d e = apart e
keyed-numbers k st (Some c) d e = let p : Keyed c ≡ st = cc in rw (← p) (refl, by-scheme k c d)

pub numbers-back : (t k : ℕ) (st : Stage) → stage_in_lem t k ≡ Some st → (t ≡ stage_byte_lem st) × (k ≡ scheme_byte_lem st)
unfolding stage_in_lem
numbers-back t k st = go (eqb t 0) refl (eqb k 0) refl (eqb t 1) refl (eqb t 2) refl
  where
    go : (a : Bool) → eqb t 0 ≡ a → (b : Bool) → eqb k 0 ≡ b → (c : Bool) → eqb t 1 ≡ c → (d : Bool) → eqb t 2 ≡ d
        → cond a (cond b (Some Idle) None) (cond c (stage_at Offered (scheme_of_lem k)) (cond d (stage_at Keyed (scheme_of_lem k)) None)) ≡ Some st
        → (t ≡ stage_byte_lem st) × (k ≡ scheme_byte_lem st)
    go true e true f c g d h z = let p : Idle ≡ st = cc in rw (← p) (eqb-true t 0 e, eqb-true k 0 f)
    go true e false f c g d h z = apart z
    go false e b f true g d h z = let q = offered-numbers k st (scheme_of_lem k) refl z in (eqb-true t 1 g ∙ q.0, q.1)
    go false e b f false g true h z = let q = keyed-numbers k st (scheme_of_lem k) refl z in (eqb-true t 2 h ∙ q.0, q.1)
    go false e b f false g false h z = apart z

checked-back : (f : Option Stage) (key : List ℕ) (st : Stage) → checked f key ≡ Some st → (f ≡ Some st) × (blank (drop (key_length_lem st) key) ≡ true)
checked-back None key st e = apart e
checked-back (Some u) key st e = go (blank (drop (key_length_lem u) key)) refl e
  where
    go : (b : Bool) → blank (drop (key_length_lem u) key) ≡ b → cond b (Some u) None ≡ Some st → (Some u ≡ Some st) × (blank (drop (key_length_lem st) key) ≡ true)
    go true f h = let p : u ≡ st = cc in (h, rw (← p) f)
    go false f h = apart h

pub record Parts (bs : List ℕ) (st : Stage) : Type 0 where
  pub long : length bs ≡ 130
  pub stage : get_or bs 0 0 ≡ stage_byte_lem st
  pub scheme : get_or bs 1 0 ≡ scheme_byte_lem st
  pub behind : blank (drop (key_length_lem st) (drop 2 bs)) ≡ true

pub parts : (bs : List ℕ) (st : Stage) → staged bs ≡ Some st → Parts bs st
unfolding staged
parts bs st = go (eqb (length bs) 130) refl
  where
    go : (b : Bool) → eqb (length bs) 130 ≡ b → cond b (checked (stage_in_lem (get_or bs 0 0) (get_or bs 1 0)) (drop 2 bs)) None ≡ Some st → Parts bs st
    go false e h = apart h
    go true e h =
        let q = checked-back (stage_in_lem (get_or bs 0 0) (get_or bs 1 0)) (drop 2 bs) st h in
        let n = numbers-back (get_or bs 0 0) (get_or bs 1 0) st q.0 in
        record { long = eqb-true (length bs) 130 e; stage = n.0; scheme = n.1; behind = q.1 }
