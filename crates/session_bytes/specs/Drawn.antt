-- Open and answer on a session in bytes: the calls from random bytes, in the rows of Offer and Reply. They are allowed when idle; open leads to offered, answer to
-- keyed with its key.
--   idle_at f, ahead bs v    whether a buffer is an idle session; the verdict v of a call's tests on one, and 10 on any other
--   open_moved, answer_moved  the promises: what open and answer on a buffer lead to and show; a refused one leaves the buffer as it was
-- What is shown:
--   Opens      an open that refuses nothing leaves the buffer and shows the message that Offer leaves and shows there, lent what open makes of the random bytes
--   Answers    so of answer and Reply
--   Stays      a refused open or answer leaves the buffer as it was
use Rattle.session.specs.declared.Stage.{Stage}
use Rattle.std.specs.Prelude.{Some, None, Err, Option, ◌≡◌, Bool, false, cond, List, ℕ}
use Rattle.noise.specs.declared.RuleName.{RuleName}
use Rattle.schemes.specs.Schemes.{scheme_of_lem}
use Rattle.lists.specs.Ranges.{Below}
use Rattle.refusals.specs.{Seen.if_passed, declared.Refusal.TheVariants.OutOfStage, Refusals.Verdict}
use Rattle.reply.specs.Reply.{ReplyRooms, ReplySeen, reply_key}
use Rattle.exchange.specs.Open.{OpenLent, OpenRooms, OpenSeen, open_offer, open_tests, open_shown}
use Rattle.exchange.specs.Answer.{AnswerLent, answer_reply, answer_tests, answer_shown}
use Rattle.session.specs.{Table.offering, Table.replying, Table.when_idle, Table.offered, Table.keyed, Seen.of_offer, Seen.of_reply, Seen.Turn, Seen.turn}
use Rattle.session_bytes.specs.Bytes.{bytes_of, staged, moved_bytes}

abbrev pub idle_at : Option Stage → Bool
idle_at (Some st) = when_idle st
idle_at None = false

unfoldable pub ahead : List ℕ → Verdict → Verdict
ahead bs v = cond (idle_at (staged bs)) v (Err OutOfStage)

-- ---- the promises

unfoldable pub open_moved : List ℕ → ℕ → Option RuleName → OpenLent → OpenRooms → Turn (List ℕ) OpenSeen
open_moved bs k r x m =
    let c = scheme_of_lem k in
    let v = ahead bs (open_tests c r x m) in
    turn (if_passed v (bytes_of (offered c)) bs) (open_shown v c r x m)

unfoldable pub answer_moved : List ℕ → ℕ → Option RuleName → AnswerLent → ReplyRooms → Turn (List ℕ) ReplySeen
answer_moved bs k r x m =
    let c = scheme_of_lem k in
    let v = ahead bs (answer_tests c r x m) in
    turn (if_passed v (bytes_of (keyed c (reply_key c (answer_reply c r x)))) bs) (answer_shown v c r x m)

-- ---- what is shown

abbrev pub Opens : Type 0
Opens =
    (bs : List ℕ) (k : ℕ) (r : Option RuleName) (x : OpenLent) (m : OpenRooms) → Below 256 x.random
    → let o = open_moved bs k r x m in
    o.seen.number ≡ 0
    → moved_bytes bs (offering k (open_offer (scheme_of_lem k) r x) m.opening)
    ≡ turn o.session (of_offer (record { number = o.seen.number; place = o.seen.place; out = o.seen.opening }))

abbrev pub Answers : Type 0
Answers =
    (bs : List ℕ) (k : ℕ) (r : Option RuleName) (x : AnswerLent) (m : ReplyRooms) → Below 256 x.random
    → let o = answer_moved bs k r x m in
    o.seen.number ≡ 0 → moved_bytes bs (replying k (answer_reply (scheme_of_lem k) r x) m) ≡ turn o.session (of_reply o.seen)

abbrev pub Stays : Type 0
Stays =
    (bs : List ℕ) (k : ℕ) (r : Option RuleName)
    → ((x : OpenLent) (m : OpenRooms) → ((open_moved bs k r x m).seen.number ≡ 0 → ⊥) → (open_moved bs k r x m).session ≡ bs)
    × ((x : AnswerLent) (m : ReplyRooms) → ((answer_moved bs k r x m).seen.number ≡ 0 → ⊥) → (answer_moved bs k r x m).session ≡ bs)
