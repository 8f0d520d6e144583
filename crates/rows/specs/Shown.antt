-- What is shown of Frodo by rows: 02, request e. `Once` holds for any n that 16 divides and any q that divides 2^16, and names no scheme. `SameOffer`, `SameReply`, `OfferTaken` and `ReplyTaken`
-- hold for every scheme of Frodo's; they follow from `Once` and the scheme's numbers, with no case for each scheme.
--   mixed k q n a s e   what the call k sends: AS + E of Offer, S'A + E' of Reply
--   Once              after all parts of A, cut anywhere but across the end of a row, the remainders by q of the sums are these
--   Frodos            a number names a scheme here exactly if it does in the whole-matrix calls and the scheme is one of Frodo's
--   Allowed           a state has at most 32 n + 256 numbers
--   Joining           part after part is the part of both joined, for every cut: where the joined one is accepted, so are both; where both are and do not run past
--                     one row, so is the joined one; and what is seen, from a state of numbers of 32 bits, is the same
--   Empty             an empty part changes nothing
--   Again             a refused part or end changes nothing, so that it can be sent or tried again: the run without them leaves the same state
--   Running           after any parts the count is how many numbers the accepted ones join into, the sums are those of the blocks of sixteen rows that have come whole,
--                     and the numbers behind these are held back
--   blocks n xs       how many numbers those blocks have
--   SameOffer, SameReply   what is seen of end, besides the state, is what Offer and Reply promise on the joined matrix, refusals of room and blank parts included
--   EarlyOffer, EarlyReply   where the parts do not fill the rows, it gives 11, and zeros
--   OfferTaken, ReplyTaken   of parts that do not run past the end of their row, begin, all parts and end are accepted exactly if the whole-matrix call accepts the
--                     joined matrix
use Rattle.std.specs.Prelude.{Err, Some, ◌≡◌, ◌↔◌, true, List, [], ◌++◌, ℕ, ◌+◌, ◌*◌, ◌/◌, ◌%◌, ◌≤◌, ◌<◌, ℤ, length, take, drop, ◌≢◌}
use Rattle.schemes.specs.Schemes.{family_of, fixed_of, scheme_of_lem}
use Rattle.schemes.specs.{declared.Family.Family, declared.Scheme.Scheme}
use Rattle.lists.specs.Ranges.{Below}
use Rattle.matrix.specs.{Matrix.right_mixed, Matrix.left_mixed, Words.words_of, Words.gained, Words.reduced}
use Rattle.parts.specs.Parts.{wrap}
use Rattle.refusals.specs.Refusals.{pass}
use Rattle.refusals.specs.{Seen.Seen, Seen.shown, declared.Refusal.TheVariants.OutOfTurn}
use Rattle.offer.specs.Offer.{offer, offer_tests, offer_result}
use Rattle.reply.specs.Reply.{ReplyRooms, ReplySeen, reply, reply_tests, outputs, reply_result}
use Rattle.rows_state.specs.State.{frodo_of_lem, long, named, taken, secret_of, sums_of, held_of, laid, secret_words_lem, begun, terms}
use Rattle.rows_state.specs.{Part.part_result, declared.Call.Call}
use Rattle.rows.specs.Runs.{Accepts, next, Refused, Parts, Good, joined, steps, WithinRows, OfferRun, ReplyRun, OfferAccepted, ReplyAccepted}
use Rattle.rows.specs.{Offer.OfferBegin, Reply.ReplyBegin}

-- ---- the state

abbrev pub Frodos : Type 0
Frodos = (k : ℕ) (c : Scheme) → (frodo_of_lem k ≡ Some c) ↔ (scheme_of_lem k ≡ Some c) × (family_of c ≡ Family.Frodo)

abbrev pub Allowed : Type 0
Allowed = (n : ℕ) → long n ≤ 32 * n + 256

-- ---- parts

abbrev pub Joining : Type 0
Joining =
    ((k : Call) (st p p' : List ℕ) → Below (wrap * wrap) st → Accepts k st (p ++ p') →
    Accepts k st p × (part_result k (next k st p) p' ≡ part_result k st (p ++ p')))
    × ((k : Call) (c : Scheme) (st p p' : List ℕ) → named st ≡ Some c → Below (wrap * wrap) st →
    taken st % (fixed_of c).n + length (p ++ p') ≤ (fixed_of c).n → Accepts k st p → Accepts k (next k st p) p' →
    part_result k (next k st p) p' ≡ part_result k st (p ++ p'))

abbrev pub Empty : Type 0
Empty = (k : Call) (st : List ℕ) → next k st [] ≡ st

abbrev pub Again : Type 0
Again = ((st st' : List ℕ) → Refused st st' → st' ≡ st) × ((k : Call) (st xs last : List ℕ) → Parts k st xs last → Good k st xs last)

abbrev pub blocks : ℕ → List ℕ → ℕ
blocks n xs = length xs / (16 * n) * (16 * n)

abbrev pub Running : Type 0
Running =
    (k : Call) (c : Scheme) (st xs last : List ℕ) → named st ≡ Some c → begun k (fixed_of c) st ≡ true → taken st ≡ 0 → Below (wrap * wrap) st →
    Parts k st xs last →
    (taken last ≡ length xs)
    × (sums_of (fixed_of c).n last
    ≡ gained wrap (fixed_of c).n (terms k (fixed_of c).n (secret_of (fixed_of c).n st) (take (blocks (fixed_of c).n xs) xs)) (sums_of (fixed_of c).n st))
    × (take (length xs % (16 * (fixed_of c).n)) (held_of (fixed_of c).n last) ≡ drop (blocks (fixed_of c).n xs) xs)

-- ---- once over n and q

abbrev pub mixed : Call → ℕ → ℕ → List ℕ → List ℤ → List ℤ → List ℕ
mixed Call.Offer q n a s e = right_mixed q n n 8 a s e
mixed Call.Reply q n a s e = left_mixed q n n 8 s a e

-- whatever is kept for the end, and whatever words stand where rows are held back
abbrev pub Once : Type 0
Once =
    (k : Call) (n q call scheme : ℕ) (kept held : List ℕ) (s e : List ℤ) (ps : List (List ℕ)) → 0 < n → n % 16 ≡ 0 → 0 < q → wrap % q ≡ 0 →
    length (joined ps) ≡ n * n → Below wrap (joined ps) → length s ≡ 8 * n → length e ≡ 8 * n → length kept ≡ 64 → length held ≡ 16 * n → Below wrap held →
    WithinRows n 0 ps →
    reduced q
    (sums_of n
    (steps k n (laid (record { call = call; scheme = scheme; taken = 0; kept = kept; secret = secret_words_lem k n s; sums = words_of wrap e; held = held })) ps))
    ≡ mixed k q n (joined ps) s e

-- ---- as the whole-matrix calls

abbrev pub SameOffer : Type 0
SameOffer =
    (c : Scheme) (x : OfferBegin) (a : List ℕ) (n : ℕ) (t : Seen ℕ) → family_of c ≡ Family.Frodo → Below 256 x.seed → OfferRun c x a n t →
    length a ≡ (fixed_of c).public → t ≡ offer_result (Some c) (offer a x.s x.e x.seed) n

abbrev pub EarlyOffer : Type 0
EarlyOffer =
    (c : Scheme) (x : OfferBegin) (a : List ℕ) (n : ℕ) (t : Seen ℕ) → family_of c ≡ Family.Frodo → Below 256 x.seed → OfferRun c x a n t →
    length a ≢ (fixed_of c).public → t ≡ shown (Err OutOfTurn) [] 0 n

abbrev pub SameReply : Type 0
SameReply =
    (c : Scheme) (x : ReplyBegin) (a : List ℕ) (m : ReplyRooms) (t : ReplySeen) → family_of c ≡ Family.Frodo → ReplyRun c x a m t →
    length a ≡ (fixed_of c).public → t ≡ reply_result (Some c) (reply x.opening a x.s' x.e' x.e'' []) m

abbrev pub EarlyReply : Type 0
EarlyReply =
    (c : Scheme) (x : ReplyBegin) (a : List ℕ) (m : ReplyRooms) (t : ReplySeen) → family_of c ≡ Family.Frodo → ReplyRun c x a m t →
    length a ≢ (fixed_of c).public → t ≡ outputs (Err OutOfTurn) [] [] [] m

-- ---- accepted as whole

abbrev pub OfferTaken : Type 0
OfferTaken =
    (c : Scheme) (x : OfferBegin) (ps : List (List ℕ)) (n : ℕ) → family_of c ≡ Family.Frodo → Below 256 x.seed → WithinRows (fixed_of c).n 0 ps →
    (offer_tests (Some c) (offer (joined ps) x.s x.e x.seed) n ≡ pass) ↔ OfferAccepted c x ps n

abbrev pub ReplyTaken : Type 0
ReplyTaken =
    (c : Scheme) (x : ReplyBegin) (ps : List (List ℕ)) (m : ReplyRooms) → family_of c ≡ Family.Frodo → WithinRows (fixed_of c).n 0 ps →
    (reply_tests (Some c) (reply x.opening (joined ps) x.s' x.e' x.e'' []) m ≡ pass) ↔ ReplyAccepted c x ps m
