-- What the steps of begin and end ask of each other.
--   reply_begin_sizes c x m     the first tests of Reply's begin: of lengths
--   reply_begin_rest c x        those behind them: of the opening, and of the secrets
--   offer_end_sizes c st n, reply_end_sizes c st m     the first tests of end: of its turn, and of rooms
--   verdict_of r               the verdict of an answer
--   Sent r st m message key   what Reply's end answers, and what it leaves of message and key, with the rooms m
use Rattle.std.specs.Prelude.{Ok, Err, Result, ◌≡◌, List, ℕ, length}
use Rattle.reply.specs.declared.ReplyCounts.{ReplyCounts}
use Rattle.refusals.specs.declared.Refusal.{Refusal}
use Rattle.schemes.specs.{Schemes.fixed_of, declared.Scheme.Scheme}
use Rattle.refusals.specs.Refusals.{◌then◌, length_is_lem, room_for_lem, in_turn, not_blank_lem, pass}
use Rattle.refusals.specs.{Seen.if_passed, Seen.output, Seen.written, Refusals.Verdict}
use Rattle.wire.specs.{Wire.opened_in, Steps.reply_secrets_lem}
use Rattle.reply.specs.{Reply.ReplyRooms, Reply.reply_told}
use Rattle.rows_state.specs.{State.long, State.named, State.complete, declared.Call.Call}
use Rattle.rows.specs.Reply.{ReplyBegin, reply_end_tests, reply_end_message, reply_end_key}

unfoldable pub reply_begin_sizes : Scheme → ReplyBegin → ℕ → Verdict
reply_begin_sizes c x m =
    length_is_lem (length x.opening) (fixed_of c).opening then length_is_lem (length x.s') (fixed_of c).secret
    then length_is_lem (length x.e') (fixed_of c).noise then length_is_lem (length x.e'') (fixed_of c).mixed then length_is_lem m (long (fixed_of c).n)

unfoldable pub reply_begin_rest : Scheme → ReplyBegin → Verdict
reply_begin_rest c x = not_blank_lem (opened_in c x.opening) then reply_secrets_lem c x.s' x.e' x.e''

unfoldable pub offer_end_sizes : Scheme → List ℕ → ℕ → Verdict
offer_end_sizes c st n = in_turn (complete Call.Offer (fixed_of c) st) then room_for_lem n (fixed_of c).opening

unfoldable pub reply_end_sizes : Scheme → List ℕ → ReplyRooms → Verdict
reply_end_sizes c st m =
    in_turn (complete Call.Reply (fixed_of c) st) then room_for_lem m.message (fixed_of c).reply then room_for_lem m.key (fixed_of c).key
    then room_for_lem m.digest 32

abbrev pub verdict_of : Result ReplyCounts Refusal → Verdict
verdict_of (Ok n) = pass
verdict_of (Err r) = Err r

pub record Sent (r : Result ReplyCounts Refusal) (st : List ℕ) (m : ReplyRooms) (message key : List ℕ) : Type 0 where
  pub verdict : reply_end_tests (named st) st m ≡ verdict_of r
  pub message-is : output (reply_told r).counts.message message ≡ written (verdict_of r) (reply_end_message (named st) st) 0 m.message
  pub key-is : output (reply_told r).counts.key key ≡ written (verdict_of r) (reply_end_key (named st) st) 0 m.key
  pub digest-is : (reply_told r).counts.digest ≡ if_passed (verdict_of r) 32 0
