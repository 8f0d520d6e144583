-- Demand 3 for sessions: 02, request a.
--   LinkBy move c x y z m   two sessions of one kind, y and z, whose calls go as `move` promises. In the scheme c, on the inputs x and in the rooms m, y offers
--                    and finishes and z replies, on the bytes that they hand each other, and nothing is refused
--   Link             so of sessions by value
--   LinkBytes        so of sessions as lent bytes
--   linked_by c x     what both then are: keyed with that scheme, and the published bits as key
-- What is shown:
--   Linking          there is a link exactly where both sessions are idle, the rooms are enough and the inputs are sendable
--   SameKey          under demand 3's premise both sessions are then linked_by c x, and so hold the same key
--   LinkingBytes     there is a link of two buffers exactly where both are idle sessions, the rooms are enough and the inputs are sendable
--   SameKeyBytes     under demand 3's premise both buffers are then the same 130 bytes, linked_by c x laid out
use Rattle.std.specs.Prelude.{Some, ◌≡◌, List, ◌↔◌, ℕ, length}
use Rattle.schemes.specs.{Schemes.scheme_number, declared.Scheme.Scheme}
use Rattle.refusals.specs.Seen.{Seen, answer}
use Rattle.finish.specs.Finish.{FinishSeen}
use Rattle.reply.specs.Reply.{ReplySeen}
use Rattle.agreement.specs.{Run.Run, Exchange.Sendable, Exchange.Rooms, Exchange.Enough, Agreement.Near, Agreement.published_key}
use Rattle.session.specs.Seen.{CallSeen, of_offer, of_reply, of_finish, Turn, turn, moved}
use Rattle.session.specs.Table.{Call, offering, replying, finishing, padded}
use Rattle.session.specs.{declared.Session.Session, declared.Stage.TheVariants.Idle, declared.Stage.TheVariants.Keyed}
use Rattle.session_bytes.specs.Bytes.{bytes_of, staged, moved_bytes}
use Rattle.agreement.specs.Run as inputs

-- x has one list of public numbers, which both sessions take, and one secret s, which Offer and Finish take
pub record LinkBy {S : Type 0} (move : S → Call → Turn S CallSeen) (c : Scheme) (x : Run) (y z : S) (m : Rooms) : Type 0 where
  -- one session offers
  pub opened : S
  pub offer : Seen ℕ
  pub offers : turn opened (of_offer offer) ≡ move y (offering (scheme_number c) (inputs.offering x) m.offer)
  pub offer-accepted : offer.number ≡ 0
  -- another replies to the opening as Offer wrote it
  pub replier : S
  pub reply : ReplySeen
  pub replies : turn replier (of_reply reply) ≡ move z (replying (scheme_number c) (inputs.reply_to x (answer offer.out)) m.reply)
  pub reply-accepted : reply.number ≡ 0
  -- and the first finishes with the reply as Reply wrote it
  pub initiator : S
  pub finish : FinishSeen
  pub finishes : turn initiator (of_finish finish) ≡ move opened (finishing (scheme_number c) (inputs.finish_with x (answer reply.message)) m.finish)
  pub finish-accepted : finish.number ≡ 0

abbrev pub Link : Scheme → Run → Session → Session → Rooms → Type 0
Link c x y z m = LinkBy moved c x y z m

abbrev pub LinkBytes : Scheme → Run → List ℕ → List ℕ → Rooms → Type 0
LinkBytes c x bs cs m = LinkBy moved_bytes c x bs cs m

abbrev pub linked_by : Scheme → Run → Session
linked_by c x = record { stage = Keyed c; key = padded (published_key c x) }

-- ---- what is shown

abbrev pub Linking : Type 0
Linking =
    (c : Scheme) (x : Run) (y z : Session) (m : Rooms) → Link c x y z m ↔ ((y.stage ≡ Idle) × (z.stage ≡ Idle) × Enough c m × Sendable c x)

abbrev pub SameKey : Type 0
SameKey =
    (c : Scheme) (x : Run) (y z : Session) (m : Rooms) (t : Link c x y z m) → Near c x
    → (t.initiator.key ≡ t.replier.key) × (t.initiator ≡ linked_by c x) × (t.replier ≡ linked_by c x)

abbrev pub LinkingBytes : Type 0
LinkingBytes =
    (c : Scheme) (x : Run) (bs cs : List ℕ) (m : Rooms)
    → LinkBytes c x bs cs m ↔ ((staged bs ≡ Some Idle) × (staged cs ≡ Some Idle) × Enough c m × Sendable c x)

abbrev pub SameKeyBytes : Type 0
SameKeyBytes =
    (c : Scheme) (x : Run) (bs cs : List ℕ) (m : Rooms) (t : LinkBytes c x bs cs m) → Near c x
    → (length t.initiator ≡ 130) × (t.initiator ≡ t.replier) × (t.initiator ≡ bytes_of (linked_by c x)) × (t.replier ≡ bytes_of (linked_by c x))
