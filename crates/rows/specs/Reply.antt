-- What begin and end of Reply promise: 02, request e. Coins there are none in Frodo, and refusal 5 cannot arise.
--   ReplyBegin                what begin is lent: opening message, s', e', e''
--   reply_begin_tests c x m     its tests in 01's order, for a state of m numbers: 1 (here not 2 to 5), 2, the state's length last, 17 for a blank opening, and 6
--   value_of c x               V = S'B + E'', which needs the opening alone
--   reply_state c x            the state that it leaves
--   reply_begin_result c x m    its promise: what is seen, as a function of what is lent; refused, the state is zeros
--   reply_end_tests c st m      the tests of end, with the rooms m: 11, 3, and 17 for the part about to be sent
--   reply_end_message, reply_end_key   message and key: that part and the hints of V; the published bits of V
--   reply_end_result st m       its promise, likewise: the state is zeros; refused, it stays as it was
--   reply_begin_lem, reply_begin_of  what is lent, from the slices of a contract, and from lists
use Rattle.std.specs.Prelude.{Err, Some, None, Option, List, [], ◌++◌, ℕ, ℤ, length, replicate}
use Rattle.schemes.specs.{Schemes.fixed_of, declared.Scheme.Scheme}
use Rattle.packing.specs.Packing.{packed}
use Rattle.sponge.specs.Sponge.{sha3}
use Rattle.refusals.specs.Refusals.{◌then◌, length_is_lem, room_for_lem, in_turn, not_blank_lem, secrets_in_lem}
use Rattle.refusals.specs.declared.Refusal.TheVariants.{NoScheme, OutOfTurn}
use Rattle.refusals.specs.{Seen.if_passed, Refusals.Verdict}
use Rattle.values.specs.{Values.mixed_value, Keys.hints, Keys.keys}
use Rattle.wire.specs.Wire.{opened_in, numbers_in, coins_in}
use Rattle.reply.specs.Reply.{ReplyRooms, ReplySeen, outputs}
use Rattle.rows_state.specs.State.{long, named, saved_of, laid, fresh, complete}
use Rattle.rows_state.specs.{Part.StateSeen, Part.state_shown, declared.Call.Call}
use Rattle.rows.specs.Offer.{EndSeen, sent_part}

-- ---- begin

pub record ReplyBegin : Type 0 where
  pub opening : List ℕ
  pub s' : List ℤ
  pub e' : List ℤ
  pub e'' : List ℤ

unfoldable pub reply_begin_tests : Option Scheme → ReplyBegin → ℕ → Verdict
reply_begin_tests None x m = Err NoScheme
reply_begin_tests (Some c) x m =
    length_is_lem (length x.opening) (fixed_of c).opening
    then length_is_lem (length x.s') (fixed_of c).secret
    then length_is_lem (length x.e') (fixed_of c).noise
    then length_is_lem (length x.e'') (fixed_of c).mixed
    then length_is_lem m (long (fixed_of c).n)
    then not_blank_lem (opened_in c x.opening)
    then secrets_in_lem (fixed_of c).largest x.s'
    then secrets_in_lem (fixed_of c).largest x.e'
    then secrets_in_lem (fixed_of c).largest x.e''

unfoldable pub value_of : Scheme → ReplyBegin → List ℕ
value_of c x = mixed_value c (numbers_in c (opened_in c x.opening)) x.s' x.e''

unfoldable pub reply_state : Option Scheme → ReplyBegin → List ℕ
reply_state None x = []
reply_state (Some c) x = laid (fresh Call.Reply c (value_of c x) x.s' x.e')

abbrev pub reply_begin_result : Option Scheme → ReplyBegin → ℕ → StateSeen
reply_begin_result c x m = state_shown (reply_begin_tests c x m) (reply_state c x) (replicate m 0)

-- ---- end

unfoldable pub reply_end_tests : Option Scheme → List ℕ → ReplyRooms → Verdict
reply_end_tests None st m = Err OutOfTurn
reply_end_tests (Some c) st m =
    in_turn (complete Call.Reply (fixed_of c) st)
    then room_for_lem m.message (fixed_of c).reply
    then room_for_lem m.key (fixed_of c).key
    then room_for_lem m.digest 32
    then not_blank_lem (sent_part c st)

unfoldable pub reply_end_message : Option Scheme → List ℕ → List ℕ
reply_end_message None st = []
reply_end_message (Some c) st = sent_part c st ++ packed (fixed_of c).hintbits (hints c (coins_in c []) (saved_of st))

unfoldable pub reply_end_key : Option Scheme → List ℕ → List ℕ
reply_end_key None st = []
reply_end_key (Some c) st = packed (fixed_of c).keybits (keys c (coins_in c []) (saved_of st))

abbrev pub reply_end_result : List ℕ → ReplyRooms → EndSeen ReplySeen
reply_end_result st m =
    let v = reply_end_tests (named st) st m in
    record {
      answer = outputs v (reply_end_message (named st) st) (reply_end_key (named st) st) (sha3 (reply_end_key (named st) st)) m;
      state = if_passed v (replicate (length st) 0) st;
    }

-- ---- of a call

abbrev pub reply_begin_of : List ℕ → List ℤ → List ℤ → List ℤ → ReplyBegin
reply_begin_of opening s' e' e'' = record { opening = opening; s' = s'; e' = e'; e'' = e'' }

abbrev pub reply_begin_lem : List ℕ → List ℤ → List ℤ → List ℤ → ReplyBegin
reply_begin_lem opening s1 e1 e2 = reply_begin_of opening s1 e1 e2
