-- The theorems of specs/Shown.
--   turned, numbered, slotwise, untouched, blind, wiped, alone, run-rack, emptied; threads is in Calls
use Rattle.std.proofs.Common.{Ok, Err, ◌≡◌, ◌∷◌, ◌<◌}
use Rattle.lists.proofs.Kit.{refl, ◌∙◌, sym, ap, subst, Bool, true, false, cond, List, [], ℕ, zero, suc, arith, eqb, length, get_or, drop, replicate, eqb-true, eqb-false}
use Rattle.refusals.specs.{Seen.if_passed, Seen.done, Refusals.Verdict}
use Rattle.session.specs.{Table.Call, Table.closing, Table.no_key_lem, Sequences.RanBy, Seen.CallSeen, Seen.of_close, Seen.shown_by_lem, Seen.Turn, Seen.turn}
use Rattle.session_bytes.specs.{Bytes.bytes_of, Bytes.closes, Bytes.moved_bytes, Shown.RanBytes}
use Rattle.rack.specs.Shown.{own, views, Turned, Numbered, Slotwise, Untouched, Blind, Wiped, Alone, RunRack, Emptied}
use Rattle.rack.specs.Slots.{part, inside, rack_is, slot_tests, Owned, moved_by, moved_in, empty_from, empty_rack}
use Rattle.rack.proofs.Parts.{slot-none, slot-closes, slot-own, slot-rack, slot-number, slot-takes, part-long, inside-long, slot-long, part_placed}
use Rattle.rack.proofs.Parts.{part-other, placed-long}
use Rattle.session.specs.Table as table
use Rattle.session_bytes.proofs.Bytes as sessions

pub turned : Turned
unfolding moved_in
turned bs i x h = rw (slot-none bs i (closes x) h)

-- a slot's bytes after a call, with what is shown; a session's bytes with its slot's number
abbrev of_slot : ℕ → Turn (List ℕ) CallSeen → Turn (List ℕ) CallSeen
of_slot i m = turn (part m.session i) m.seen

abbrev numbers : ℕ → Turn (List ℕ) CallSeen → Turn (List ℕ) CallSeen
numbers i m = turn (i ∷ m.session) m.seen

-- a call by the verdict v of its slot's tests
module _ (bs : List ℕ) (i : ℕ) (x : Call) where
  other : (j : ℕ) → (i ≡ j → ⊥) → (v : Verdict) → slot_tests bs i (closes x) ≡ v → part (moved_by v bs i x).session j ≡ part bs j
  other j o (Ok _) e =
      let r = slot-rack bs i (closes x) e in part-other bs (i ∷ (moved_bytes (inside bs i) x).session) i r.0 r.1 (slot-long bs i r.0 r.1 x) j o
  other j o (Err q) e = refl

  same : (v : Verdict) → slot_tests bs i (closes x) ≡ v → length (moved_by v bs i x).session ≡ length bs
  same (Ok _) e =
      let r = slot-rack bs i (closes x) e in placed-long bs (i ∷ (moved_bytes (inside bs i) x).session) i r.0 r.1 (slot-long bs i r.0 r.1 x)
  same (Err q) e = refl

  mine : (v : Verdict) → slot_tests bs i (closes x) ≡ v
      → of_slot i (moved_by v bs i x) ≡ if_passed v (numbers i (moved_bytes (inside bs i) x)) (turn (part bs i) (shown_by_lem v x))
  mine (Ok _) e =
      let r = slot-rack bs i (closes x) e in
      ap (λ (s : List ℕ). turn s (moved_bytes (inside bs i) x).seen)
      (part_placed bs (i ∷ (moved_bytes (inside bs i) x).session) i r.0 r.1 (slot-long bs i r.0 r.1 x))
  mine (Err q) e = refl

  moved-long : length (moved_in bs i x).session ≡ length bs
  unfolding moved_in
  moved-long = same (slot_tests bs i (closes x)) refl

  -- its own slot, and what is shown
  own-slot : {v : Verdict} → slot_tests bs i (closes x) ≡ v
      → of_slot i (moved_in bs i x) ≡ if_passed v (numbers i (moved_bytes (inside bs i) x)) (turn (part bs i) (shown_by_lem v x))
  unfolding moved_in
  own-slot {v} e = rw e (mine v e)

pub untouched : Untouched
unfolding moved_in
untouched bs i j x o = (other bs i x j o (slot_tests bs i (closes x)) refl, moved-long bs i x)

-- a slot's bytes and what is shown, as two
both : {s u : List ℕ} {t v : CallSeen} → turn s t ≡ turn u v → (t ≡ v) × (s ≡ u)
both e = (ap (λ (m : Turn (List ℕ) CallSeen). m.seen) e, ap (λ (m : Turn (List ℕ) CallSeen). m.session) e)

-- the tests of a slot look at the length and at the slot
slot_same : (bs cs : List ℕ) (i : ℕ) (b : Bool) → length bs ≡ length cs → part bs i ≡ part cs i → slot_tests bs i b ≡ slot_tests cs i b
unfolding slot_tests rack_is
slot_same bs cs i b l p = rw (l, p)

pub blind : Blind
blind bs cs i x l p =
    both
    (own-slot bs i x (slot_same bs cs i (closes x) l p)
    ∙ ap (λ (s : List ℕ). if_passed (slot_tests cs i (closes x)) (numbers i (moved_bytes (drop 1 s) x)) (turn s (shown_by_lem (slot_tests cs i (closes x)) x))) p
    ∙ sym (own-slot cs i x refl))

pub wiped : Wiped
wiped bs i h l =
    both
    (own-slot bs i closing (slot-closes bs i h l)
    ∙ ap (numbers i) (sessions.closed (inside bs i) ∙ ap (λ (k : ℕ). turn (replicate k 0) (of_close (done 0))) (inside-long bs i h l)))

-- ---- a slot that has its number

-- a call of the studio itself
module _ (bs : List ℕ) (j : ℕ) (x : Call) (o : Owned bs j) where
  own_is : of_slot j (moved_in bs j x) ≡ numbers j (moved_bytes (inside bs j) x)
  own_is = own-slot bs j x (slot-takes bs j (closes x) o)

  own-stays : Owned (moved_in bs j x).session j
  own-stays =
      let r = slot-rack bs j false o in
      slot-own (moved_in bs j x).session j r.0 (moved-long bs j x ∙ r.1) (ap (λ (m : Turn (List ℕ) CallSeen). get_or m.session 0 0) own_is)

pub slotwise : Slotwise
slotwise bs i x o = ap (λ (m : Turn (List ℕ) CallSeen). turn (drop 1 m.session) m.seen) (own_is bs i x o)

-- and of another
other-stays : (bs : List ℕ) (i j : ℕ) (x : Call) → (i ≡ j → ⊥) → Owned bs j → Owned (moved_in bs i x).session j
other-stays bs i j x o p =
    let r = slot-rack bs j false p in
    let u = untouched bs i j x o in
    slot-own (moved_in bs i x).session j r.0 (u.1 ∙ r.1) (ap (λ (s : List ℕ). get_or s 0 0) u.0 ∙ slot-number bs j p)

stays : (bs : List ℕ) (i j : ℕ) (x : Call) → Owned bs j → Owned (moved_in bs i x).session j
stays bs i j x o = go (eqb i j) refl
  where
    go : (b : Bool) → eqb i j ≡ b → Owned (moved_in bs i x).session j
    go true e = ap (λ (k : ℕ). slot_tests (moved_in bs k x).session j false) (eqb-true i j e) ∙ own-stays bs j x o
    go false e = other-stays bs i j x (eqb-false i j e) o

-- ---- over any sequence

pub alone : Alone
unfolding own views
alone j bs _ _ _ o RanBy.none = (RanBy.none, o)
alone j bs ds _ _ o (RanBy.more {z = cs} {x = x} {xs = xs} {t = t} {ts = ts} m r) =
    let k : Owned cs j = ap (λ (u : Turn (List ℕ) CallSeen). slot_tests u.session j false) m ∙ stays bs x.by j x.call o in
    let q = alone j cs ds xs ts k r in (go (eqb x.by j) refl q.0, q.1)
  where
    go : (b : Bool) → eqb x.by j ≡ b → RanBytes (inside cs j) (own j xs) (inside ds j) (views j xs ts)
        → RanBytes (inside bs j) (cond b (x.call ∷ own j xs) (own j xs)) (inside ds j) (cond b (t ∷ views j xs ts) (views j xs ts))
    go true e p =
        RanBy.more
        (ap (λ (u : Turn (List ℕ) CallSeen). turn (inside u.session j) u.seen) (m ∙ ap (λ (i : ℕ). moved_in bs i x.call) (eqb-true x.by j e))
        ∙ slotwise bs j x.call o)
        p
    go false e p =
        subst (λ (s : List ℕ). RanBytes (drop 1 s) (own j xs) (inside ds j) (views j xs ts))
        (ap (λ (u : Turn (List ℕ) CallSeen). part u.session j) m ∙ (untouched bs x.by j x.call (eqb-false x.by j e)).0)
        p

numbered_is : (s : List ℕ) (j : ℕ) → length s ≡ 131 → get_or s 0 0 ≡ j → s ≡ j ∷ drop 1 s
numbered_is [] j l e = absurd (omega (arith, l))
numbered_is (k ∷ r) j l e = ap (λ (n : ℕ). n ∷ r) e

pub run-rack : RunRack
run-rack j h bs cs xs ts y v l e r =
    let o = slot-own bs j h l (ap (λ (s : List ℕ). get_or s 0 0) e) in
    let a = alone j bs cs xs ts o r in
    let w = slot-rack cs j false a.1 in
    let z = sessions.run-bytes y (own j xs) (inside cs j) (views j xs ts) v
    (subst (λ (ps : List ℕ). RanBytes ps (own j xs) (inside cs j) (views j xs ts)) (ap (drop 1) e) a.0) in
    (numbered_is (part cs j) j (part-long cs j h w.1) (slot-number cs j a.1) ∙ ap (λ (ps : List ℕ). j ∷ ps) z.0, z.1)

-- ---- clear

emptied-at : (i : ℕ) → i < 8 → part empty_rack i ≡ i ∷ bytes_of table.idle
unfolding empty_rack empty_from bytes_of no_key_lem
emptied-at zero h = refl
emptied-at (suc zero) h = refl
emptied-at (suc (suc zero)) h = refl
emptied-at (suc (suc (suc zero))) h = refl
emptied-at (suc (suc (suc (suc zero)))) h = refl
emptied-at (suc (suc (suc (suc (suc zero))))) h = refl
emptied-at (suc (suc (suc (suc (suc (suc zero)))))) h = refl
emptied-at (suc (suc (suc (suc (suc (suc (suc zero))))))) h = refl
emptied-at (suc (suc (suc (suc (suc (suc (suc (suc i)))))))) h = absurd (omega (arith, h))

empty-long : length empty_rack ≡ 1048
unfolding empty_rack empty_from
empty-long = refl

pub emptied : Emptied
emptied = (empty-long, emptied-at)

pub numbered : Numbered
numbered = (λ (j : ℕ) (h : j < 8). slot-own empty_rack j h emptied.0 (ap (λ (s : List ℕ). get_or s 0 0) (emptied.1 j h)), stays)
