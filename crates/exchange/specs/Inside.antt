-- What the steps of open and answer ask of each other, where the tests before them have passed.
--   Draws c n k at random table   n noise values are asked, of k random bytes from the place at on: lengths are right
--   Drew c n table bytes old out  they are those of the bytes, at the front of out, and behind them stands what stood in old
--   open_sizes_lem c k x m, answer_sizes_lem c k x m   the first tests of `open_tests` and `answer_tests` behind the scheme's: of rule, lengths and rooms
--   Sized c k a table random n    what `open_sizes_lem` and `answer_sizes_lem` both say where they have passed: of the rule and lengths, with n random bytes
--   OpenSized c k x m, AnswerSized c k x m   all that they say
--   drawn_opens c x n, drawn_answers c x m   what is seen of Offer and Reply by x's own public numbers, behind the table's test
--   open_shows c k x m             what is seen of open's opening; OpenHolds c k x m old s: what s holds where nothing is refused, which held old
--   came_in c opening              the tests of the opening, which came
use Rattle.std.specs.Prelude.{Some, Option, ◌≡◌, List, ◌++◌, ℕ, ◌+◌, ◌/◌, ◌≤◌, ℤ, length, take, drop}
use Rattle.noise.specs.declared.RuleName.{RuleName}
use Rattle.schemes.specs.{Schemes.fixed_of, declared.Scheme.Scheme}
use Rattle.lists.specs.Ranges.{Below}
use Rattle.refusals.specs.{Refusals.◌then◌, Refusals.length_is_lem, Refusals.room_for_lem, Refusals.received_in, Seen.Seen, Seen.shown, Refusals.Verdict, Refusals.pass}
use Rattle.sampling.specs.Noise.{length_either_lem, bytes_each, table_words}
use Rattle.wire.specs.Wire.{opened_in, numbers_in}
use Rattle.offer.specs.Offer.{offer_tests, offer_message}
use Rattle.reply.specs.Reply.{ReplyRooms, ReplySeen, reply_tests, reply_shown}
use Rattle.exchange.specs.Random.{secret_bytes, mixed_bytes, open_random, answer_random, values_in, public_lent, ruled_in, table_order}
use Rattle.exchange.specs.Open.{OpenLent, OpenRooms, drawn_offer, open_offer, open_tests}
use Rattle.exchange.specs.Answer.{AnswerLent, drawn_reply}

-- ---- noise values

pub record Draws (c : Scheme) (n k at : ℕ) (random table : List ℕ) : Type 0 where
  pub inside : at + k ≤ length random
  pub either : length_either_lem k (secret_bytes c) (mixed_bytes c) ≡ pass
  pub table-long : length table ≡ table_words c
  pub many : n ≡ k / bytes_each c

pub record Drew (c : Scheme) (n : ℕ) (table bytes : List ℕ) (old out : List ℤ) : Type 0 where
  pub whole : out ≡ values_in c table bytes ++ drop n old
  pub front : take n out ≡ values_in c table bytes

-- ---- the first tests, and what they say of bytes where they have passed

unfoldable pub open_sizes_lem : Scheme → Option RuleName → OpenLent → OpenRooms → Verdict
open_sizes_lem c k x m =
    ruled_in k then length_is_lem (length x.a) (public_lent c) then length_is_lem (length x.table) (table_words c)
    then length_is_lem (length x.random) (open_random c) then room_for_lem m.opening (fixed_of c).opening then room_for_lem m.s (fixed_of c).secret

unfoldable pub answer_sizes_lem : Scheme → Option RuleName → AnswerLent → ReplyRooms → Verdict
answer_sizes_lem c k x m =
    ruled_in k then length_is_lem (length x.opening) (fixed_of c).opening then length_is_lem (length x.a) (public_lent c)
    then length_is_lem (length x.table) (table_words c) then length_is_lem (length x.random) (answer_random c) then room_for_lem m.message (fixed_of c).reply
    then room_for_lem m.key (fixed_of c).key then room_for_lem m.digest 32

pub record Sized (c : Scheme) (k : Option RuleName) (a table random : List ℕ) (n : ℕ) : Type 0 where
  pub ruled : ruled_in k ≡ pass
  pub public-long : length a ≡ public_lent c
  pub table-long : length table ≡ table_words c
  pub random-long : length random ≡ n
  pub bytes : Below 256 random

pub record OpenSized (c : Scheme) (k : Option RuleName) (x : OpenLent) (m : OpenRooms) : Type 0 where
  pub sizes : open_sizes_lem c k x m ≡ pass
  pub lent : Sized c k x.a x.table x.random (open_random c)
  pub roomy : (fixed_of c).opening ≤ m.opening
  pub s-roomy : (fixed_of c).secret ≤ m.s

pub record AnswerSized (c : Scheme) (k : Option RuleName) (x : AnswerLent) (m : ReplyRooms) : Type 0 where
  pub sizes : answer_sizes_lem c k x m ≡ pass
  pub lent : Sized c k x.a x.table x.random (answer_random c)
  pub opening-long : length x.opening ≡ (fixed_of c).opening
  pub roomy : (fixed_of c).reply ≤ m.message
  pub key-roomy : (fixed_of c).key ≤ m.key
  pub digest-roomy : 32 ≤ m.digest

-- ---- what is seen

abbrev pub drawn_opens : Scheme → OpenLent → ℕ → Seen ℕ
drawn_opens c x n = let y = drawn_offer c x.a x in shown (table_order c x.table then offer_tests (Some c) y n) (offer_message (Some c) y) 0 n

abbrev pub open_shows : Scheme → Option RuleName → OpenLent → OpenRooms → Seen ℕ
open_shows c k x m = shown (open_tests (Some c) k x m) (offer_message (Some c) (open_offer (Some c) k x)) 0 m.opening

abbrev pub OpenHolds : Scheme → Option RuleName → OpenLent → OpenRooms → List ℤ → List ℤ → Type 0
OpenHolds c k x m old s = open_tests (Some c) k x m ≡ pass → s ≡ (open_offer (Some c) k x).s ++ drop (fixed_of c).secret old

abbrev pub drawn_answers : Scheme → AnswerLent → ReplyRooms → ReplySeen
drawn_answers c x m = let y = drawn_reply c x.a x in reply_shown (table_order c x.table then reply_tests (Some c) y m) (Some c) y m

abbrev pub came_in : Scheme → List ℕ → Verdict
came_in c opening = received_in (fixed_of c).q (opened_in c opening) (numbers_in c (opened_in c opening))
