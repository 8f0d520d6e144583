-- The theorems of specs/Linked, of sessions as lent bytes: a link of bytes is a link of the sessions that they hold.
--   by_value               a call on the bytes of a session is the call by value
--   ByValue t, by_values   that link
--   laid-link              and back: a link of sessions, laid out
--   linking-bytes, same-key-bytes   as specs/Linked states them
use Rattle.lists.proofs.Kit.{refl, ◌∙◌, sym, ap, subst, false, List, ℕ}
use Rattle.std.proofs.Common.{Some, ◌≡◌}
use Rattle.schemes.specs.declared.Scheme.{Scheme}
use Rattle.refusals.specs.Seen.{answer}
use Rattle.agreement.specs.{Run.Run, Exchange.Rooms}
use Rattle.session.specs.Seen.{CallSeen, number, Turn, turn, moved}
use Rattle.session.specs.{declared.Stage.Stage, declared.Session.Session, Table.Call, Table.step, Sequences.Sound}
use Rattle.session.proofs.Sequences.{step-sound}
use Rattle.session_bytes.specs.{Bytes.bytes_of, Bytes.staged, Bytes.session_in, Bytes.closes, Bytes.laid_out, Bytes.moved_bytes}
use Rattle.session_bytes.proofs.{Stages.parts, Bytes.taken_back, Bytes.laid-back, Bytes.moved-bytes, Bytes.held_by}
use Rattle.meetings.specs.Linked.{Link, LinkBytes, linked_by, LinkingBytes, SameKeyBytes}
use Rattle.meetings.proofs.Linked.{first, second, third, linking, same_key}

by_value : (y : Session) (x : Call) {bs cs : List ℕ} {s : CallSeen} → Sound y → bs ≡ bytes_of y → turn cs s ≡ moved_bytes bs x
    → (turn (step y x) s ≡ moved y x) × (cs ≡ bytes_of (step y x))
unfolding moved
by_value y x h e m =
    let s = m ∙ ap (λ (us : List ℕ). moved_bytes us x) e ∙ moved-bytes y h x in
    (ap (λ (u : Turn (List ℕ) CallSeen). turn (step y x) u.seen) s, ap (λ (u : Turn (List ℕ) CallSeen). u.session) s)

-- the session in a buffer on which a call refuses nothing
held : (bs : List ℕ) (x : Call) {cs : List ℕ} {s : CallSeen} → closes x ≡ false → turn cs s ≡ moved_bytes bs x → number s ≡ 0
    → (y : Session) × (bs ≡ bytes_of y) × Sound y
held bs x f m z = held_by bs x f (sym (ap (λ (u : Turn (List ℕ) CallSeen). number u.seen) m) ∙ z)

record ByValue {c : Scheme} {x : Run} {bs cs : List ℕ} {m : Rooms} (t : LinkBytes c x bs cs m) : Type 0 where
  pub y : Session
  pub z : Session
  pub link : Link c x y z m
  pub first : staged bs ≡ Some y.stage
  pub second : staged cs ≡ Some z.stage
  pub initiator : t.initiator ≡ bytes_of link.initiator
  pub replier : t.replier ≡ bytes_of link.replier
  pub sound : Sound link.initiator

by_values : {c : Scheme} {x : Run} {bs cs : List ℕ} {m : Rooms} (t : LinkBytes c x bs cs m) → ByValue t
unfolding number
by_values {c} {x} {bs} {cs} {m} t =
    let f = held bs (first c x m) refl t.offers t.offer-accepted in
    let g = held cs (second c x m (answer t.offer.out)) refl t.replies t.reply-accepted in
    let after = step-sound f.0 (first c x m) f.2 in
    let o = by_value f.0 (first c x m) f.2 f.1 t.offers in
    let p = by_value g.0 (second c x m (answer t.offer.out)) g.2 g.1 t.replies in
    let q = by_value _ (third c x m (answer t.reply.message)) after o.1 t.finishes in
    record {
      y = f.0;
      z = g.0;
      link =
          record {
            opened = step f.0 (first c x m);
            offer = t.offer;
            offers = o.0;
            offer-accepted = t.offer-accepted;
            replier = step g.0 _;
            reply = t.reply;
            replies = p.0;
            reply-accepted = t.reply-accepted;
            initiator = step _ _;
            finish = t.finish;
            finishes = q.0;
            finish-accepted = t.finish-accepted;
          };
      first = ap staged f.1 ∙ (taken_back f.0 f.2).0;
      second = ap staged g.1 ∙ (taken_back g.0 g.2).0;
      initiator = q.1;
      replier = p.1;
      sound = step-sound _ _ after;
    }

in_bytes : (y : Session) (x : Call) {z : Session} {s : CallSeen} → Sound y → turn z s ≡ moved y x → turn (bytes_of z) s ≡ moved_bytes (bytes_of y) x
in_bytes y x h m = ap (λ (u : Turn Session CallSeen). laid_out u) m ∙ sym (moved-bytes y h x)

laid-link : {c : Scheme} {x : Run} {y z : Session} {m : Rooms} → Sound y → Sound z → Link c x y z m → LinkBytes c x (bytes_of y) (bytes_of z) m
unfolding moved
laid-link {c} {x} {y} {z} {m} h i t =
    let after : Sound t.opened = subst Sound (sym (ap (λ (u : Turn Session CallSeen). u.session) t.offers)) (step-sound y (first c x m) h) in
    record {
      opened = bytes_of t.opened;
      offer = t.offer;
      offers = in_bytes y _ h t.offers;
      offer-accepted = t.offer-accepted;
      replier = bytes_of t.replier;
      reply = t.reply;
      replies = in_bytes z _ i t.replies;
      reply-accepted = t.reply-accepted;
      initiator = bytes_of t.initiator;
      finish = t.finish;
      finishes = in_bytes t.opened _ after t.finishes;
      finish-accepted = t.finish-accepted;
    }

pub linking-bytes : LinkingBytes
linking-bytes c x bs cs m = (
  λ t. let v = by_values t in
      let h = (linking c x _ _ m).0 v.link in
      (v.first ∙ ap Some h.0, v.second ∙ ap Some h.1, h.2, h.3),
  λ h. let y = laid-back bs Stage.Idle h.0 in
      let z = laid-back cs Stage.Idle h.1 in
      let t = laid-link y.1 z.1 ((linking c x (session_in Stage.Idle bs) (session_in Stage.Idle cs) m).1 (refl, refl, h.2, h.3)) in
      subst (λ (us : List ℕ). LinkBytes c x us cs m) y.0 (subst (λ (us : List ℕ). LinkBytes c x (bytes_of (session_in Stage.Idle bs)) us m) z.0 t),
)

pub same-key-bytes : SameKeyBytes
same-key-bytes c x bs cs m t near =
    let v = by_values t in
    let same = same_key c x _ _ m v.link near in
    let i : t.initiator ≡ bytes_of (linked_by c x) = v.initiator ∙ ap bytes_of same.1 in
    let p : t.replier ≡ bytes_of (linked_by c x) = v.replier ∙ ap bytes_of same.2 in
    ((parts t.initiator _ (ap staged v.initiator ∙ (taken_back _ v.sound).0)).long, i ∙ sym p, i, p)
