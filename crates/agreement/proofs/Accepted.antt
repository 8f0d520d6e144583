-- Calls that refuse nothing, by their promises.
--   offer-gave, reply-gave, finish-gave   what a call shows whose tests have passed
--   Gave t, gave     an exchange: its rooms are enough, its inputs in range, and its messages, keys and slack are those of the run
--   none-refused     and back: in any such rooms and on any such inputs no call refuses
--   accepted, numbered, one_number   the theorems of specs/Exchange
use Rattle.lists.proofs.Kit.{refl, sym, ap, ◌∙◌, ℕ, le_refl, arith}
use Rattle.std.proofs.Common.{Some, None, ◌≡◌}
use Rattle.schemes.specs.{Schemes.fixed_of, declared.Scheme.Scheme}
use Rattle.schemes.proofs.Laws.{by_number, by-scheme}
use Rattle.sponge.specs.Sponge.{sha3}
use Rattle.refusals.specs.{Refusals.number_in, Seen.answer, Seen.shown, Refusals.pass}
use Rattle.refusals.proofs.{Laws.number-zero, Seen.written-answer}
use Rattle.offer.specs.Offer.{Offer, offer_tests, offer_message, offer_result}
use Rattle.offer.proofs.Offering.{offer-unknown}
use Rattle.finish.specs.Finish.{Finish, FinishRooms, FinishSeen, finish_rooms_of, finish_tests, finish_key, finish_slack, finish_shown, finish_result}
use Rattle.finish.proofs.Finishing.{finish-passed}
use Rattle.reply.specs.Reply.{Reply, ReplyRooms, reply_rooms_of, reply_tests, reply_message, reply_key, reply_digest, outputs, reply_result}
use Rattle.agreement.specs.Exchange.{Sendable, Rooms, Enough, offers, replies, finishes, Exchange, own_key, peer_key, told_slack, Accepted, Numbered, OneNumber}
use Rattle.agreement.specs.Run.{Run, offering, reply_to, replying, finish_with, finishing}
use Rattle.agreement.proofs.Tests.{sendable-by, offer-passes, reply-passes, finish-passes, offer-room, reply-rooms}

-- ---- what a call gave

offer-gave : (c : Scheme) (x : Offer) (n : ℕ) → offer_tests (Some c) x n ≡ pass → answer (offer_result (Some c) x n).out ≡ offer_message (Some c) x
unfolding shown
offer-gave c x n e = written-answer _ _ _ e

reply-gave : (c : Scheme) (x : Reply) (m : ReplyRooms) → reply_tests (Some c) x m ≡ pass → let t = reply_result (Some c) x m in
    (answer t.message ≡ reply_message (Some c) x) × (answer t.key ≡ reply_key (Some c) x) × (answer t.digest ≡ reply_digest (Some c) x)
unfolding outputs
reply-gave c x m e = (written-answer _ _ _ e, written-answer _ _ _ e, written-answer _ _ _ e)

finish-gave : (c : Scheme) (x : Finish) (m : FinishRooms) → finish_tests (Some c) x m ≡ pass → let t = finish_result (Some c) x m in
    (answer t.key ≡ finish_key (Some c) x) × (answer t.digest ≡ sha3 (finish_key (Some c) x)) × (t.slack ≡ finish_slack (Some c) x)
unfolding finish_shown
finish-gave c x m e = (written-answer _ _ _ e, written-answer _ _ _ e, rw e)

pub record Gave {c : Scheme} {x : Run} (t : Exchange c x) : Type 0 where
  pub enough : Enough c t.rooms
  pub sendable : Sendable c x
  pub opening : answer (offers c x t.rooms).out ≡ offer_message (Some c) (offering x)
  pub message : answer (replies c x t.rooms).message ≡ reply_message (Some c) (replying c x)
  pub own : own_key t ≡ reply_key (Some c) (replying c x)
  pub peer : peer_key t ≡ finish_key (Some c) (finishing c x)
  pub own-digest : answer (replies c x t.rooms).digest ≡ reply_digest (Some c) (replying c x)
  pub peer-digest : answer (finishes c x t.rooms).digest ≡ sha3 (finish_key (Some c) (finishing c x))
  pub slack : told_slack t ≡ finish_slack (Some c) (finishing c x)

pub gave : {c : Scheme} {x : Run} (t : Exchange c x) → Gave t
unfolding shown outputs finish_shown
gave {c} {x} t =
    let m = t.rooms in
    let o = number-zero (offer_tests (Some c) (offering x) m.offer) (sym t.offer-accepted) in
    let opening = offer-gave c (offering x) m.offer o in
    let r = rw opening at (number-zero (reply_tests (Some c) (reply_to x (answer (offers c x m).out)) m.reply) (sym t.reply-accepted)) in
    let replied = reply-gave c (replying c x) m.reply r in
    let f = rw (opening, replied.0) at (number-zero (finish_tests (Some c) (finish_with x (answer (replies c x m).message)) m.finish) (sym t.finish-accepted)) in
    let finished = finish-gave c (finishing c x) m.finish f in
    let last : finishes c x m ≡ finish_result (Some c) (finishing c x) m.finish = rw (opening, replied.0) in
    let rooms = reply-rooms c _ _ r in
    record {
      enough =
          record {
            opening = offer-room c _ _ o;
            reply = rooms.0;
            key = rooms.1;
            digest = rooms.2;
            finish = (finish-passed c _ _ f).1;
          };
      sendable = sendable-by c x _ _ _ o r;
      opening = opening;
      message = rw opening replied.0;
      own = rw opening replied.1;
      peer = rw (opening, replied.0) finished.0;
      own-digest = rw opening replied.2;
      peer-digest = rw (opening, replied.0) finished.1;
      slack = ap (λ (t : FinishSeen). t.slack) last ∙ finished.2;
    }

-- ---- inputs in range

pub none-refused : (c : Scheme) (x : Run) (m : Rooms) → Enough c m → Sendable c x
    → ((offers c x m).number ≡ 0) × ((replies c x m).number ≡ 0) × ((finishes c x m).number ≡ 0)
unfolding shown outputs finish_shown
none-refused c x m h s =
    let o = offer-passes c x s m.offer h.opening in
    let r = reply-passes c x s m.reply h.reply h.key h.digest in
    let f = finish-passes c x s m.finish h.finish in
    let opening = offer-gave c (offering x) m.offer o in
    let replied = (reply-gave c (replying c x) m.reply r).0 in
    (ap number_in o, rw opening (ap number_in r), rw (opening, replied) (ap number_in f))

-- rooms of just what the answers take
fitting : Scheme → Rooms
fitting c =
    let f = fixed_of c in
    record { offer = f.opening; reply = reply_rooms_of f.reply f.key 32; finish = finish_rooms_of f.key 32 }

fit : (c : Scheme) → Enough c (fitting c)
unfolding fitting
fit c = record { opening = le_refl _; reply = le_refl _; key = le_refl _; digest = le_refl _; finish = (le_refl _, le_refl _) }

pub accepted : Accepted
accepted c x = (
  λ t. (gave t).sendable,
  λ s. let z = none-refused c x (fitting c) (fit c) s in
      record { rooms = fitting c; offer-accepted = z.0; reply-accepted = z.1; finish-accepted = z.2 },
)

-- ---- the scheme and its number

pub numbered : Numbered
unfolding shown
numbered (Some c) x room z = (c, refl)
numbered None x room z = let i : ◌≡◌ {A = ℕ} 1 0 = rw (offer-unknown x room refl) at z in absurd (omega arith)

pub one_number : OneNumber
one_number k c = (by-scheme k c, λ e. rw e (by_number c))
