-- A call for one studio gives the same answers and leaves the same record, whatever calls others make: 02, request k.
--   Asked           a call with its studio's number
--   RanRack         calls of any studios in any order, each as its function promises, with what each caller sees
--   own j xs        the calls of studio j alone
--   views j xs ts   what studio j sees, of what is seen of the calls xs
-- What is shown:
--   Turned          a number over 7 is 16, place 0, with every output zero, and changes nothing, whatever the bytes are: so 16 comes before 10
--   Numbered        an empty rack has each studio's number in its own slot, and a slot that has its number keeps it, whoever calls
--   Slotwise        the table of request a holds in each slot separately: a call moves the 130 bytes behind the slot's number as the session's call does
--   Threads         a session's call on the 130 bytes behind a slot's number is the rack's call for that studio
--   Untouched       a call changes no byte of another slot, and not the length
--   Blind           no byte of another slot decides what a call answers, or what it leaves in its own
--   Wiped           close in a rack leaves the slot's number and 130 zeros, whatever the slot held, and refuses nothing
--   Alone           over any sequence: the bytes of studio j's slot and all that it sees are those of its own 130 bytes under its own calls, the only ones
--   RunRack         over any sequence: a record that held a session holds the run of request a's table under the studio's own calls
--   Emptied         clear leaves eight idle sessions behind their numbers
use Rattle.std.specs.Prelude.{Err, ◌≡◌, cond, List, [], ◌∷◌, ℕ, ◌≤◌, ◌<◌, eqb, length, replicate}
use Rattle.refusals.specs.{Seen.done, declared.Refusal.TheVariants.NoStudio}
use Rattle.session.specs.Seen.{CallSeen, of_close, shown_by_lem, turn}
use Rattle.session.specs.{declared.Session.Session, Table.Call, Table.closing, Table.run, Sequences.RanBy, Sequences.Ran, Sequences.Sound}
use Rattle.session_bytes.specs.{Bytes.bytes_of, Bytes.moved_bytes, Shown.RanBytes}
use Rattle.rack.specs.Slots.{part, inside, Owned, in_rack, moved_in, empty_rack}
use Rattle.session.specs.Table as table

pub record Asked : Type 0 where
  pub by : ℕ
  pub call : Call

abbrev pub RanRack : List ℕ → List Asked → List ℕ → List CallSeen → Type 0
RanRack bs xs cs ts = RanBy (λ (bs : List ℕ) (x : Asked). moved_in bs x.by x.call) bs xs cs ts

unfoldable pub own : ℕ → List Asked → List Call
own j [] = []
own j (x ∷ xs) = cond (eqb x.by j) (x.call ∷ own j xs) (own j xs)

unfoldable pub views : ℕ → List Asked → List CallSeen → List CallSeen
views j [] ts = []
views j (x ∷ xs) [] = []
views j (x ∷ xs) (t ∷ ts) = cond (eqb x.by j) (t ∷ views j xs ts) (views j xs ts)

-- ---- what is shown: one call

abbrev pub Turned : Type 0
Turned = (bs : List ℕ) (i : ℕ) (x : Call) → 8 ≤ i → moved_in bs i x ≡ turn bs (shown_by_lem (Err NoStudio) x)

abbrev pub Numbered : Type 0
Numbered =
    ((j : ℕ) → j < 8 → Owned empty_rack j) × ((bs : List ℕ) (i j : ℕ) (x : Call) → Owned bs j → Owned (moved_in bs i x).session j)

abbrev pub Slotwise : Type 0
Slotwise =
    (bs : List ℕ) (i : ℕ) (x : Call) → Owned bs i
    → turn (inside (moved_in bs i x).session i) (moved_in bs i x).seen ≡ moved_bytes (inside bs i) x

abbrev pub Threads : Type 0
Threads = (bs : List ℕ) (i : ℕ) (x : Call) → Owned bs i → moved_in bs i x ≡ in_rack bs i (moved_bytes (inside bs i) x)

abbrev pub Untouched : Type 0
Untouched =
    (bs : List ℕ) (i j : ℕ) (x : Call) → (i ≡ j → ⊥) → (part (moved_in bs i x).session j ≡ part bs j) × (length (moved_in bs i x).session ≡ length bs)

abbrev pub Blind : Type 0
Blind =
    (bs cs : List ℕ) (i : ℕ) (x : Call) → length bs ≡ length cs → part bs i ≡ part cs i
    → ((moved_in bs i x).seen ≡ (moved_in cs i x).seen) × (part (moved_in bs i x).session i ≡ part (moved_in cs i x).session i)

abbrev pub Wiped : Type 0
Wiped =
    (bs : List ℕ) (i : ℕ) → i < 8 → length bs ≡ 1048
    → ((moved_in bs i closing).seen ≡ of_close (done 0)) × (part (moved_in bs i closing).session i ≡ i ∷ replicate 130 0)

-- ---- over any sequence

abbrev pub Alone : Type 0
Alone =
    (j : ℕ) (bs cs : List ℕ) (xs : List Asked) (ts : List CallSeen) → Owned bs j → RanRack bs xs cs ts
    → RanBytes (inside bs j) (own j xs) (inside cs j) (views j xs ts) × Owned cs j

abbrev pub RunRack : Type 0
RunRack =
    (j : ℕ) → j < 8 → (bs cs : List ℕ) (xs : List Asked) (ts : List CallSeen) (y : Session) → Sound y → length bs ≡ 1048 → part bs j ≡ j ∷ bytes_of y
    → RanRack bs xs cs ts → (part cs j ≡ j ∷ bytes_of (run y (own j xs))) × Ran y (own j xs) (run y (own j xs)) (views j xs ts)

-- ---- clear

abbrev pub Emptied : Type 0
Emptied = (length empty_rack ≡ 1048) × ((i : ℕ) → i < 8 → part empty_rack i ≡ i ∷ bytes_of table.idle)
