-- Any sequence of parts and refused ends after a begin, each with the state as the call before left it; then an end: 02, request e. All by what the calls promise
-- and nothing else.
--   Accepts k st p         the part p of the call k is not refused in the state st; next: the state that it leaves, refused or not
--   Refused st st'         a part or an end, of either call, that is refused in the state st and leaves the state st'
--   Parts k st xs st'      accepted parts of the call k, which join into xs, and refused parts and ends among them, from the state st to the state st'
--   joined ps              the parts ps joined into one list
--   Took k st ps st'       the parts ps, each of them accepted, from the state st to the state st'
--   Good k st xs st'       some such parts, which join into xs
--   steps k n st ps        the state st with the parts ps, one after the other
--   WithinRows n at ps     none of the parts ps, of which the first starts at entry `at` of A, runs past the end of its row
--   RunBy begin go end t   a begin of which `begin` is seen and which is not refused, what `go` says from its state to the last, and an end, of which t is seen
--   OfferRun, ReplyRun     a begin of the scheme c on the inputs x, with a state of m numbers, parts whose accepted ones join into a, refused parts and ends
--                          among them, and an end, with room for n bytes or the rooms o, of which t is seen besides the state
--   OfferAccepted, ReplyAccepted   a begin of the scheme c on the inputs x with a state of its fixed length, the parts ps and an end with such rooms, and none
--                          of them refused
use Rattle.std.specs.Prelude.{Some, ◌≡◌, List, [], ◌∷◌, ◌++◌, ℕ, ◌+◌, ◌%◌, ◌≤◌, ◌<◌, length}
use Rattle.schemes.specs.{Schemes.fixed_of, declared.Scheme.Scheme}
use Rattle.refusals.specs.Seen.{Seen}
use Rattle.reply.specs.Reply.{ReplyRooms, ReplySeen}
use Rattle.rows_state.specs.{State.long, State.stepped, Part.StateSeen, Part.part_result, declared.Call.Call}
use Rattle.rows.specs.{Offer.OfferBegin, Offer.offer_begin_result, Offer.offer_end_result, Reply.ReplyBegin, Reply.reply_begin_result, Reply.reply_end_result}

abbrev pub Accepts : Call → List ℕ → List ℕ → Type 0
Accepts k st p = (part_result k st p).number ≡ 0

abbrev pub next : Call → List ℕ → List ℕ → List ℕ
next k st p = (part_result k st p).state

pub data Refused (st : List ℕ) : List ℕ → Type 0 where
  part : (k : Call) (p : List ℕ) → 0 < (part_result k st p).number → Refused st (next k st p)
  offer_end_lem : (n : ℕ) → 0 < (offer_end_result st n).answer.number → Refused st (offer_end_result st n).state
  reply_end_lem : (m : ReplyRooms) → 0 < (reply_end_result st m).answer.number → Refused st (reply_end_result st m).state

pub data Parts (k : Call) : List ℕ → List ℕ → List ℕ → Type 0 where
  none : {st : List ℕ} → Parts k st [] st
  more : {st st' xs : List ℕ} (p : List ℕ) → Accepts k st p → Parts k (next k st p) xs st' → Parts k st (p ++ xs) st'
  again : {st st' st'' xs : List ℕ} → Refused st st' → Parts k st' xs st'' → Parts k st xs st''

unfoldable pub joined : List (List ℕ) → List ℕ
joined [] = []
joined (p ∷ ps) = p ++ joined ps

pub data Took (k : Call) : List ℕ → List (List ℕ) → List ℕ → Type 0 where
  none : {st : List ℕ} → Took k st [] st
  more : {st st' : List ℕ} {ps : List (List ℕ)} (p : List ℕ) → Accepts k st p → Took k (next k st p) ps st' → Took k st (p ∷ ps) st'

abbrev pub Good : Call → List ℕ → List ℕ → List ℕ → Type 0
Good k st xs st' = (ps : List (List ℕ)) × ((joined ps ≡ xs) × Took k st ps st')

unfoldable pub steps : Call → ℕ → List ℕ → List (List ℕ) → List ℕ
steps k n st [] = st
steps k n st (p ∷ ps) = steps k n (stepped k n st p) ps

abbrev pub WithinRows : ℕ → ℕ → List (List ℕ) → Type 0
WithinRows n at [] = Unit
WithinRows n at (p ∷ ps) = (at % n + length p ≤ n) × WithinRows n (at + length p) ps

-- ---- a begin, parts, and an end

pub record RunBy {T : Type 0} (begin : StateSeen) (go : List ℕ → List ℕ → Type 0) (end : List ℕ → T) (t : T) : Type 0 where
  pub begins : begin.number ≡ 0
  pub last : List ℕ
  pub parts : go begin.state last
  pub ends : t ≡ end last

abbrev pub OfferRun : Scheme → OfferBegin → List ℕ → ℕ → Seen ℕ → Type 0
OfferRun c x a n t = (m : ℕ) × RunBy (offer_begin_result (Some c) x m) (λ st st'. Parts Call.Offer st a st') (λ st. (offer_end_result st n).answer) t

abbrev pub ReplyRun : Scheme → ReplyBegin → List ℕ → ReplyRooms → ReplySeen → Type 0
ReplyRun c x a o t = (m : ℕ) × RunBy (reply_begin_result (Some c) x m) (λ st st'. Parts Call.Reply st a st') (λ st. (reply_end_result st o).answer) t

-- ---- none of them refused

abbrev pub OfferAccepted : Scheme → OfferBegin → List (List ℕ) → ℕ → Type 0
OfferAccepted c x ps n =
    RunBy (offer_begin_result (Some c) x (long (fixed_of c).n)) (λ st st'. Took Call.Offer st ps st') (λ st. (offer_end_result st n).answer.number) 0

abbrev pub ReplyAccepted : Scheme → ReplyBegin → List (List ℕ) → ReplyRooms → Type 0
ReplyAccepted c x ps o =
    RunBy (reply_begin_result (Some c) x (long (fixed_of c).n)) (λ st st'. Took Call.Reply st ps st') (λ st. (reply_end_result st o).answer.number) 0
