-- A call on a rack's bytes, from the session's call on the 130 bytes behind the slot's number.
--   stopped         16, and 10
--   served          any other
--   threads         the session's call on the bytes behind the number
--   ends, called    so as the code lends them, where it found the slot
--   close-stopped, closed   Close
--   clear-not, clear-done   Clear; with_numbers, laid-empty   the numbers into zeros
use Rattle.std.proofs.Common.{Err, ◌≡◌, ◌∷◌, ◌++◌, ◌+◌, ◌-◌, ◌*◌, ◌≤◌, ◌<◌}
use Rattle.lists.proofs.Kit.{refl, ◌∙◌, sym, ap, ap₂, true, false, List, ℕ, zero, suc, arith, length, set, take, drop, replicate, eq-eqb, ne_eqb}
use Rattle.refusals.specs.Refusals.{pass}
use Rattle.refusals.specs.{Seen.done, declared.Refusal.Refusal}
use Rattle.session.specs.{Table.Call, Table.closing, Seen.CallSeen, Seen.of_close, Seen.told_by, Seen.shown_by_lem, Seen.turn}
use Rattle.session_bytes.specs.Bytes.{closes, moved_bytes}
use Rattle.rack.specs.Slots.{inside, with_slot, rack_is, slot_tests, Owned, in_rack, moved_in, empty_from, empty_rack, cleared}
use Rattle.rack.specs.Shown.{Threads}
use Rattle.rack.proofs.Parts.{number_at, behind, around, wiped-slot, slot-rack, slot-number, slot-takes, part-long, inside-long}
use Rattle.session_bytes.proofs.Bytes as sessions

module _ (bs : List ℕ) (i : ℕ) (x : Call) where
  pub stopped : {q : Refusal} {t : CallSeen} → slot_tests bs i (closes x) ≡ Err q → t ≡ shown_by_lem (Err q) x → turn bs t ≡ moved_in bs i x
  unfolding moved_in
  stopped e g = rw e (ap (turn bs) g)

  pub served : slot_tests bs i (closes x) ≡ pass → moved_in bs i x ≡ in_rack bs i (moved_bytes (inside bs i) x)
  unfolding moved_in
  served e = rw e

pub threads : Threads
threads bs i x o = served bs i x (slot-takes bs i (closes x) o)

-- n and d are where the code's part begins and how long it is, and `at` is the place that it found
module _ (bs : List ℕ) (i : ℕ) {at : ℕ} (o : Owned bs i) (p : at ≡ 131 * i) where
  abbrev n : ℕ
  n = at + 1

  abbrev d : ℕ
  d = at + 131 - (at + 1)

  n-is : n ≡ suc (131 * i)
  n-is = omega (arith, p)

  d-is : d ≡ 130
  d-is = omega arith

  pub ends : at + 131 ≤ length bs
  ends = let r = slot-rack bs i false o in omega (arith, p, r.0, r.1)

  lent_is : take d (drop n bs) ≡ inside bs i
  lent_is = ap₂ (λ (k m : ℕ). take k (drop m bs)) d-is n-is ∙ behind (131 * i) bs (omega (arith, p, ends))

  back_is : (ps : List ℕ) → take n bs ++ (ps ++ drop d (drop n bs)) ≡ with_slot bs i (i ∷ ps)
  back_is ps =
      let within : 131 * i < length bs = omega (arith, p, ends) in
      ap₂ (λ (m k : ℕ). take m bs ++ (ps ++ drop k (drop m bs))) n-is d-is ∙ around (131 * i) bs ps within
      ∙ ap (λ (k : ℕ). with_slot bs i (k ∷ ps)) (number_at (131 * i) bs within ∙ slot-number bs i o)

  pub called : (x : Call) {t : CallSeen} {ps : List ℕ} → turn ps t ≡ moved_bytes (take d (drop n bs)) x
      → turn (take n bs ++ (ps ++ drop d (drop n bs))) t ≡ moved_in bs i x
  called x {t} {ps} m =
      ap (λ (cs : List ℕ). turn cs t) (back_is ps) ∙ ap (in_rack bs i) (m ∙ ap (λ (us : List ℕ). moved_bytes us x) lent_is)
      ∙ sym (threads bs i x o)

pub close-stopped : (bs : List ℕ) (i : ℕ) {q : Refusal} → slot_tests bs i true ≡ Err q → turn bs (of_close (told_by (Err q))) ≡ moved_in bs i closing
unfolding shown_by_lem
close-stopped bs i e = stopped bs i closing e refl

-- the bytes ps are d zeros
pub closed : (bs : List ℕ) (i : ℕ) {at d : ℕ} {ps : List ℕ} → slot_tests bs i true ≡ pass → at ≡ 131 * i → d ≡ 131 → ps ≡ replicate (length (take d (drop at bs))) 0
    → turn (set (take at bs ++ (ps ++ drop d (drop at bs))) at i) (of_close (done 0)) ≡ moved_in bs i closing
closed bs i {at} {d} {ps} s p f e =
    let o = slot-rack bs i true s in
    let l = o.1 in
    let z : ps ≡ replicate 131 0 = rw (f, p) at e ∙ ap (λ (k : ℕ). replicate k 0) (part-long bs i o.0 l) in
    rw (p, f, z)
    (ap (λ (cs : List ℕ). turn cs (of_close (done 0))) (wiped-slot (131 * i) i bs (omega (arith, o.0, l)))
    ∙ sym (served bs i closing s ∙ ap (in_rack bs i) (sessions.closed (inside bs i) ∙ ap (λ (k : ℕ). turn (replicate k 0) (of_close (done 0))) (inside-long bs i o.0 l))))

-- ---- clear

-- the first n numbers, each at its place
unfoldable pub with_numbers : ℕ → List ℕ → List ℕ
with_numbers zero bs = bs
with_numbers (suc n) bs = set (with_numbers n bs) (131 * n) n

pub laid-empty : with_numbers 8 (replicate 1048 0) ≡ empty_rack
unfolding empty_rack empty_from with_numbers
laid-empty = refl

module _ (bs : List ℕ) where
  pub clear-not : (length bs ≡ 1048 → ⊥) → record { number = 10; place = 0; rack = bs } ≡ cleared bs
  unfolding rack_is
  clear-not h = rw (ne_eqb (length bs) 1048 h)

  pub clear-done : {cs : List ℕ} → length bs ≡ 1048 → cs ≡ empty_rack → record { number = 0; place = 0; rack = cs } ≡ cleared bs
  unfolding rack_is
  clear-done l e = rw (eq-eqb (length bs) 1048 l, e)
