-- What answer promises: Reply on inputs that it makes of random bytes, by Grow and Noise. s', e', e'', coins and grown public numbers never leave the call.
--   AnswerLent              what answer is lent: opening message, public a, table, random bytes; its outputs and their rooms are Reply's
--   drawn_reply c a x        what Reply is lent by the public numbers a: s', e', e'' and coins are cut from the random bytes, in this order
--   answer_reply c k x       what Reply is lent: NewHope's public numbers are grown from the opening's seed
--   answer_tests c k x m     its tests in 01's order: 1, 12, 2, 3, 18, 4, 5, 17 of the part that came, 7, 17 of the part about to be sent
--   answer_result c k x m    its promise: what is seen, as a function of what is lent; answer_shown v: by the verdict v of any tests
--   answer_lent              what is lent
use Rattle.std.specs.Prelude.{Err, Some, None, Option, List, [], ℕ, ◌+◌, length}
use Rattle.noise.specs.declared.RuleName.{RuleName}
use Rattle.schemes.specs.{Schemes.fixed_of, declared.Scheme.Scheme}
use Rattle.refusals.specs.Refusals.{◌then◌, length_is_lem, room_for_lem, publics_in_lem, message_in, not_blank_lem}
use Rattle.refusals.specs.{Refusals.Verdict, declared.Refusal.Refusal}
use Rattle.sampling.specs.Noise.{table_words}
use Rattle.wire.specs.Wire.{opened_in, seed_in}
use Rattle.reply.specs.Reply.{Reply, ReplyRooms, ReplySeen, reply, opened_of, replied_part, reply_shown}
use Rattle.exchange.specs.Random.{secret_bytes, mixed_bytes, answer_random, cut, values_in, public_lent, public_from, ruled_in, table_order, grown}

pub record AnswerLent : Type 0 where
  pub opening : List ℕ
  pub a : List ℕ
  pub table : List ℕ
  pub random : List ℕ

unfoldable pub drawn_reply : Scheme → List ℕ → AnswerLent → Reply
drawn_reply c a x =
    reply x.opening a
    (values_in c x.table (cut 0 (secret_bytes c) x.random))
    (values_in c x.table (cut (secret_bytes c) (secret_bytes c) x.random))
    (values_in c x.table (cut (secret_bytes c + secret_bytes c) (mixed_bytes c) x.random))
    (cut (secret_bytes c + secret_bytes c + mixed_bytes c) (fixed_of c).coins x.random)

unfoldable pub answer_reply : Option Scheme → Option RuleName → AnswerLent → Reply
answer_reply None k x = reply [] [] [] [] [] []
answer_reply (Some c) k x = drawn_reply c (public_from c k (seed_in c x.opening) x.a) x

unfoldable pub answer_tests : Option Scheme → Option RuleName → AnswerLent → ReplyRooms → Verdict
answer_tests None k x m = Err Refusal.NoScheme
answer_tests (Some c) k x m =
    let y = answer_reply (Some c) k x in
    ruled_in k
    then length_is_lem (length x.opening) (fixed_of c).opening
    then length_is_lem (length x.a) (public_lent c)
    then length_is_lem (length x.table) (table_words c)
    then length_is_lem (length x.random) (answer_random c)
    then room_for_lem m.message (fixed_of c).reply
    then room_for_lem m.key (fixed_of c).key
    then room_for_lem m.digest 32
    then table_order c x.table
    then publics_in_lem (fixed_of c).q x.a
    then message_in (fixed_of c).q (opened_of c y)
    then not_blank_lem (opened_in c x.opening)
    then grown c k (seed_in c x.opening)
    then not_blank_lem (replied_part c y.a y.s' y.e')

-- ---- the promise

abbrev pub answer_shown : Verdict → Option Scheme → Option RuleName → AnswerLent → ReplyRooms → ReplySeen
answer_shown v c k x m = reply_shown v c (answer_reply c k x) m

abbrev pub answer_result : Option Scheme → Option RuleName → AnswerLent → ReplyRooms → ReplySeen
answer_result c k x m = answer_shown (answer_tests c k x m) c k x m

-- ---- of a call

abbrev pub answer_lent : List ℕ → List ℕ → List ℕ → List ℕ → AnswerLent
answer_lent opening a table random = record { opening = opening; a = a; table = table; random = random }
