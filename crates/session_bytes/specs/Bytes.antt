-- A session as 130 lent bytes: its stage (0 idle, 1 offered, 2 keyed), its scheme (0 when idle), and the 128 bytes of its key: 02, request a.
--   bytes_of y        a session laid out
--   stage_in_lem t k      the stage of the first two bytes, or that they name none
--   staged bs        the stage of a buffer that is a session; any other is in no stage: one of another length, with another stage or scheme, or with key bytes
--                    where the stage has none or behind the key
--   session_in st bs  then the session
--   moved_bytes bs x  the promise of each call on bytes: what the call x by value leads to and shows, laid out; a buffer that is in no stage gives 10 and stays as
--                    it is, but close zeroes it, however long it is
use Rattle.std.specs.Prelude.{Err, Some, None, Option, Bool, true, false, cond, List, ◌∷◌, ℕ, eqb, length, get_or, drop, replicate}
use Rattle.schemes.specs.{Schemes.scheme_of_lem, Schemes.scheme_number, Schemes.fixed_of, declared.Scheme.Scheme}
use Rattle.blank.specs.Blank.{blank}
use Rattle.refusals.specs.{declared.Refusal.TheVariants.OutOfStage, Refusals.pass}
use Rattle.session.specs.declared.Stage.TheVariants.{Idle, Offered, Keyed}
use Rattle.session.specs.Table.{Call, offering, replying, finishing, closing}
use Rattle.session.specs.{declared.Stage.Stage, declared.Session.Session, Seen.CallSeen, Seen.shown_by_lem, Seen.Turn, Seen.turn, Seen.moved}

-- ---- laid out

abbrev pub stage_byte_lem : Stage → ℕ
stage_byte_lem Idle = 0
stage_byte_lem (Offered c) = 1
stage_byte_lem (Keyed c) = 2

abbrev pub scheme_byte_lem : Stage → ℕ
scheme_byte_lem Idle = 0
scheme_byte_lem (Offered c) = scheme_number c
scheme_byte_lem (Keyed c) = scheme_number c

unfoldable pub bytes_of : Session → List ℕ
bytes_of y = stage_byte_lem y.stage ∷ scheme_byte_lem y.stage ∷ y.key

-- ---- taken apart

abbrev pub stage_at : (Scheme → Stage) → Option Scheme → Option Stage
stage_at stage (Some c) = Some (stage c)
stage_at stage None = None

unfoldable pub stage_in_lem : ℕ → ℕ → Option Stage
stage_in_lem t k =
    cond (eqb t 0) (cond (eqb k 0) (Some Idle) None)
    (cond (eqb t 1) (stage_at Offered (scheme_of_lem k))
    (cond (eqb t 2) (stage_at Keyed (scheme_of_lem k))
    None))

-- how many of the 128 bytes are key
abbrev pub key_length_lem : Stage → ℕ
key_length_lem Idle = 0
key_length_lem (Offered c) = 0
key_length_lem (Keyed c) = (fixed_of c).key

-- behind the key there are zeros
abbrev pub checked : Option Stage → List ℕ → Option Stage
checked None key = None
checked (Some st) key = cond (blank (drop (key_length_lem st) key)) (Some st) None

unfoldable pub staged : List ℕ → Option Stage
staged bs = cond (eqb (length bs) 130) (checked (stage_in_lem (get_or bs 0 0) (get_or bs 1 0)) (drop 2 bs)) None

abbrev pub session_in : Stage → List ℕ → Session
session_in st bs = record { stage = st; key = drop 2 bs }

-- ---- a call

abbrev pub closes : Call → Bool
closes (offering k x n) = false
closes (replying k x m) = false
closes (finishing k x m) = false
closes closing = true

abbrev pub laid_out : Turn Session CallSeen → Turn (List ℕ) CallSeen
laid_out m = turn (bytes_of m.session) m.seen

abbrev pub moved_at : Option Stage → List ℕ → Call → Turn (List ℕ) CallSeen
moved_at (Some st) bs x = laid_out (moved (session_in st bs) x)
moved_at None bs x = cond (closes x) (turn (replicate (length bs) 0) (shown_by_lem pass x)) (turn bs (shown_by_lem (Err OutOfStage) x))

unfoldable pub moved_bytes : List ℕ → Call → Turn (List ℕ) CallSeen
moved_bytes bs x = moved_at (staged bs) bs x
