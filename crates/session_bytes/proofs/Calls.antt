-- A call on bytes, from the same call by value.
--   part-128, part-key, laid   a key out of its place in a buffer, and into it
--   stopped        a buffer that is in no stage
--   long           one that is in a stage has 130 bytes
--   found          one that is a session: it is taken apart, the call made, and the session after it laid out
--   close-bytes    Close
use Rattle.std.proofs.Common.{Some, None, Option, Err, ◌≡◌, ◌∷◌, ◌++◌, ◌≤◌}
use Rattle.lists.proofs.Kit.{◌∙◌, sym, ap, false, List, [], append-nil, ℕ, arith, length, take, drop, replicate, set, length-drop}
use Rattle.lists.proofs.Kit.{drop_of_length-le, take_all, length-take-le}
use Rattle.refusals.specs.{Seen.done, declared.Refusal.TheVariants.OutOfStage}
use Rattle.session.specs.Seen.{CallSeen, of_close, shown_by_lem, turn, moved}
use Rattle.session.specs.{declared.Stage.Stage, declared.Session.Session, Table.Call, Table.closing}
use Rattle.session_bytes.specs.Bytes.{bytes_of, staged, closes, laid_out, moved_bytes}
use Rattle.session_bytes.proofs.{Stages.parts, Bytes.closed, Bytes.untouched}

pub part-128 : (bs : List ℕ) → length bs ≡ 130 → length (take 128 (drop 2 bs)) ≡ 128
part-128 bs l = length-take-le 128 (drop 2 bs) (omega (arith, length-drop 2 bs, l))

pub part-key : (bs : List ℕ) → length bs ≡ 130 → take 128 (drop 2 bs) ≡ drop 2 bs
part-key bs l = take_all 128 (drop 2 bs) (omega (arith, length-drop 2 bs, l))

pub laid : (bs key copied : List ℕ) (a b : ℕ) → length bs ≡ 130 → length key ≡ 128 → copied ≡ key
    → set (set (take 2 bs ++ (copied ++ drop 128 (drop 2 bs))) 0 a) 1 b ≡ a ∷ b ∷ key
laid [] key copied a b l m e = absurd (omega (arith, l))
laid (x ∷ []) key copied a b l m e = absurd (omega (arith, l))
laid (x ∷ y ∷ r) key copied a b l m e =
    let o : length r ≤ 128 = omega (arith, l) in
    ap (λ (t : List ℕ). a ∷ b ∷ (copied ++ t)) (drop_of_length-le r o) ∙ ap (λ (t : List ℕ). a ∷ b ∷ t) (append-nil copied ∙ e)

pub long : (bs : List ℕ) {f : Option Stage} {st : Stage} → f ≡ staged bs → f ≡ Some st → length bs ≡ 130
long bs {st = st} e d = (parts bs st (sym e ∙ d)).long

-- f is what the code finds of the stage
module _ (bs : List ℕ) (x : Call) {t : CallSeen} {f : Option Stage} (e : f ≡ staged bs) where
  pub stopped : f ≡ None → closes x ≡ false → t ≡ shown_by_lem (Err OutOfStage) x → turn bs t ≡ moved_bytes bs x
  stopped d o g = ap (turn bs) g ∙ sym (untouched bs x (sym e ∙ d) o)

  pub found : {st : Stage} {key cs : List ℕ} {z : Session} → f ≡ Some st → key ≡ drop 2 bs
      → turn z t ≡ moved (record { stage = st; key = key }) x → cs ≡ bytes_of z → turn cs t ≡ moved_bytes bs x
  unfolding moved_bytes
  found {st} d h p l =
      rw (sym e ∙ d) (ap (λ (us : List ℕ). turn us t) l ∙ ap laid_out (p ∙ ap (λ (key : List ℕ). moved (record { stage = st; key = key }) x) h))

pub close-bytes : (bs : List ℕ) {cs : List ℕ} → cs ≡ replicate (length bs) 0 → turn cs (of_close (done 0)) ≡ moved_bytes bs closing
close-bytes bs e = ap (λ (us : List ℕ). turn us (of_close (done 0))) e ∙ sym (closed bs)
