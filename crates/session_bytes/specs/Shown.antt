-- What is shown of sessions as bytes.
--   TakenBack     taking apart undoes laying out, for every session that a call can leave
--   LaidBack      laying out undoes taking apart; and what is taken apart is a session that a call can leave, so that any other buffer is in no stage
--   Fresh         a buffer of zeros is an idle session
--   Closed        close zeroes a buffer whatever it holds and however long it is, and refuses nothing
--   Untouched     a buffer that is in no stage gives 10 to every other call, and stays as it is
--   RanBytes      a sequence of calls on bytes, each as its function promises
--   RunBytes      over any sequence the bytes are those of the table's run, and the caller sees what the calls by value show
use Rattle.std.specs.Prelude.{Some, None, Err, ◌≡◌, false, List, ℕ, length, replicate}
use Rattle.refusals.specs.{Seen.done, declared.Refusal.TheVariants.OutOfStage}
use Rattle.session.specs.Seen.{CallSeen, of_close, shown_by_lem, turn}
use Rattle.session.specs.Sequences.{RanBy, Ran, Sound}
use Rattle.session.specs.{declared.Stage.Stage, declared.Stage.TheVariants.Idle, declared.Session.Session, Table.Call, Table.closing, Table.run}
use Rattle.session_bytes.specs.Bytes.{bytes_of, staged, session_in, closes, moved_bytes}
use Rattle.session.specs.Table as table

abbrev pub TakenBack : Type 0
TakenBack = (y : Session) → Sound y → (staged (bytes_of y) ≡ Some y.stage) × (session_in y.stage (bytes_of y) ≡ y)

abbrev pub LaidBack : Type 0
LaidBack = (bs : List ℕ) (st : Stage) → staged bs ≡ Some st → (bytes_of (session_in st bs) ≡ bs) × Sound (session_in st bs)

abbrev pub Fresh : Type 0
Fresh = (staged (replicate 130 0) ≡ Some Idle) × (bytes_of table.idle ≡ replicate 130 0)

abbrev pub Closed : Type 0
Closed = (bs : List ℕ) → moved_bytes bs closing ≡ turn (replicate (length bs) 0) (of_close (done 0))

abbrev pub Untouched : Type 0
Untouched = (bs : List ℕ) (x : Call) → staged bs ≡ None → closes x ≡ false → moved_bytes bs x ≡ turn bs (shown_by_lem (Err OutOfStage) x)

abbrev pub RanBytes : List ℕ → List Call → List ℕ → List CallSeen → Type 0
RanBytes bs xs cs ts = RanBy moved_bytes bs xs cs ts

abbrev pub RunBytes : Type 0
RunBytes =
    (y : Session) (xs : List Call) (cs : List ℕ) (ts : List CallSeen) → Sound y → RanBytes (bytes_of y) xs cs ts
    → (cs ≡ bytes_of (run y xs)) × Ran y xs (run y xs) ts
