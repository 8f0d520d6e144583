-- A slot in the bytes of a rack.
--   number_at, behind, around, wiped-slot   the first byte, those behind it, what lies around them, and a slot that is zeroed and numbered again; a is its place
--   slot-none, slot-short, slot-closes, slot-own, slot-mine, slot-other   the tests of a slot, by what they find
--   slot-rack, slot-number, slot-takes      what it says that they pass
--   moved-long                              a call keeps the length of a session's bytes
--   part-long, inside-long, front_long, slot-long   how long the parts are
--   part_placed, part-other                 a slot that was written, and another
use Rattle.std.proofs.Common.{Err, Some, None, Option, ◌≡◌, ◌∷◌, ◌++◌, ◌+◌, ◌-◌, ◌*◌, ◌≤◌, ◌<◌}
use Rattle.lists.proofs.Kit.{refl, ◌∙◌, sym, ap, Bool, true, false, cond, List, [], ℕ, zero, suc, arith, dec_lt, length}
use Rattle.lists.proofs.Kit.{get_or, set, take, drop, replicate, length-replicate, length-drop, length-append, take-append-drop, take-append-le, drop-append-le}
use Rattle.lists.proofs.Kit.{drop-drop, length-take-le, drop_at, take_at, eqb-true, ltb-true, eq-eqb, ne_eqb, lt-ltb, le-ltb}
use Rattle.refusals.specs.declared.Refusal.TheVariants.{OutOfStage, NoStudio}
use Rattle.refusals.specs.{Refusals.◌then◌, declared.Refusal.Refusal, Refusals.pass}
use Rattle.refusals.proofs.Laws.{differ, both}
use Rattle.session.specs.{declared.Stage.Stage, Table.Call, Table.step, Seen.CallSeen, Seen.turn, Seen.moved}
use Rattle.session.proofs.Sequences.{step-sound}
use Rattle.session_bytes.specs.Bytes.{bytes_of, staged, session_in, closes, moved_at, moved_bytes}
use Rattle.session_bytes.proofs.Bytes.{taken_back, laid-back}
use Rattle.rack.specs.Slots.{part, inside, with_slot, rack_is, slot_tests, Owned}
use Rattle.lists.proofs.Parts as parts
use Rattle.session_bytes.proofs.Stages as stages

-- ---- one slot, at its place

pub number_at : (a : ℕ) (bs : List ℕ) → a < length bs → get_or bs a 0 ≡ get_or (take 131 (drop a bs)) 0 0
number_at a [] h = absurd (omega (arith, h))
number_at zero (x ∷ r) h = refl
number_at (suc a) (x ∷ r) h = number_at a r (omega (arith, h))

pub behind : (a : ℕ) (bs : List ℕ) → a < length bs → take 130 (drop (suc a) bs) ≡ drop 1 (take 131 (drop a bs))
behind a [] h = absurd (omega (arith, h))
behind zero (x ∷ r) h = refl
behind (suc a) (x ∷ r) h = behind a r (omega (arith, h))

pub around : (a : ℕ) (bs ps : List ℕ) → a < length bs
    → take (suc a) bs ++ (ps ++ drop 130 (drop (suc a) bs)) ≡ take a bs ++ ((get_or bs a 0 ∷ ps) ++ drop 131 (drop a bs))
around a [] ps h = absurd (omega (arith, h))
around zero (x ∷ r) ps h = refl
around (suc a) (x ∷ r) ps h = ap (λ (t : List ℕ). x ∷ t) (around a r ps (omega (arith, h)))

pub wiped-slot : (a i : ℕ) (bs : List ℕ) → a < length bs
    → set (take a bs ++ (replicate 131 0 ++ drop 131 (drop a bs))) a i ≡ take a bs ++ ((i ∷ replicate 130 0) ++ drop 131 (drop a bs))
wiped-slot a i [] h = absurd (omega (arith, h))
wiped-slot zero i (x ∷ r) h = refl
wiped-slot (suc a) i (x ∷ r) h = ap (λ (t : List ℕ). x ∷ t) (wiped-slot a i r (omega (arith, h)))

-- ---- the tests of a slot

asked : (b : Bool) (r : Refusal) → cond b pass (Err r) ≡ pass → b ≡ true
asked true r e = refl
asked false r e = differ e

module _ (bs : List ℕ) (i : ℕ) where
  pub slot-rack : (b : Bool) → slot_tests bs i b ≡ pass → (i < 8) × (length bs ≡ 1048)
  unfolding slot_tests rack_is
  slot-rack b e = let t = both _ _ (both _ _ e).0 in (ltb-true i 8 (asked _ _ t.0), eqb-true (length bs) 1048 (asked _ _ t.1))

  pub slot-number : Owned bs i → get_or (part bs i) 0 0 ≡ i
  unfolding slot_tests
  slot-number e = eqb-true _ _ (asked _ _ (both _ _ e).1)

  module _ (h : i < 8) (l : length bs ≡ 1048) where
    pub slot-closes : slot_tests bs i true ≡ pass
    unfolding slot_tests rack_is ◌then◌
    slot-closes = rw (lt-ltb i 8 h, eq-eqb (length bs) 1048 l)

    pub slot-own : get_or (part bs i) 0 0 ≡ i → Owned bs i
    unfolding slot_tests rack_is ◌then◌
    slot-own e = rw (lt-ltb i 8 h, eq-eqb (length bs) 1048 l, eq-eqb (get_or (part bs i) 0 0) i e)

    first : get_or bs (131 * i) 0 ≡ get_or (part bs i) 0 0
    first = number_at (131 * i) bs (omega (arith, h, l))

    pub slot-mine : get_or bs (131 * i) 0 ≡ i → Owned bs i
    slot-mine e = slot-own (sym first ∙ e)

    pub slot-other : (get_or bs (131 * i) 0 ≡ i → ⊥) → slot_tests bs i false ≡ Err OutOfStage
    unfolding slot_tests rack_is ◌then◌
    slot-other e = rw (lt-ltb i 8 h, eq-eqb (length bs) 1048 l, ne_eqb (get_or (part bs i) 0 0) i (λ f. e (first ∙ f)))

  pub slot-none : (b : Bool) → 8 ≤ i → slot_tests bs i b ≡ Err NoStudio
  unfolding slot_tests ◌then◌
  slot-none b h = rw (le-ltb i 8 h)

  pub slot-short : (b : Bool) → i < 8 → (length bs ≡ 1048 → ⊥) → slot_tests bs i b ≡ Err OutOfStage
  unfolding slot_tests rack_is ◌then◌
  slot-short b h l = rw (lt-ltb i 8 h, ne_eqb (length bs) 1048 l)

  -- a studio's own slot takes every call
  pub slot-takes : (b : Bool) → Owned bs i → slot_tests bs i b ≡ pass
  slot-takes true o = let r = slot-rack false o in slot-closes r.0 r.1
  slot-takes false o = o

-- ---- lengths

spared-long : (b : Bool) (bs : List ℕ) (t u : CallSeen) → length (cond b (turn (replicate (length bs) 0) t) (turn bs u)).session ≡ length bs
spared-long true bs t u = length-replicate {A = ℕ} (length bs) 0
spared-long false bs t u = refl

at_long : (f : Option Stage) (bs : List ℕ) (x : Call) → staged bs ≡ f → length (moved_at f bs x).session ≡ length bs
unfolding moved
at_long None bs x e = spared-long (closes x) bs _ _
at_long (Some st) bs x e =
    let y = session_in st bs in
    let h = step-sound y x (laid-back bs st e).1 in
    (stages.parts (bytes_of (step y x)) (step y x).stage (taken_back (step y x) h).0).long ∙ sym (stages.parts bs st e).long

pub moved-long : (bs : List ℕ) (x : Call) → length (moved_bytes bs x).session ≡ length bs
unfolding moved_bytes
moved-long bs x = at_long (staged bs) bs x refl

module _ (bs : List ℕ) (i : ℕ) (h : i < 8) (l : length bs ≡ 1048) where
  pub front_long : length (take (131 * i) bs) ≡ 131 * i
  front_long = length-take-le (131 * i) bs (omega (arith, l))

  pub part-long : length (part bs i) ≡ 131
  part-long = parts.part-long (131 * i) 131 bs (omega (arith, l))

  pub inside-long : length (inside bs i) ≡ 130
  inside-long = length-drop 1 (part bs i) ∙ omega (arith, part-long)

  pub slot-long : (x : Call) → length (i ∷ (moved_bytes (inside bs i) x).session) ≡ 131
  slot-long x = omega (arith, moved-long (inside bs i) x, inside-long)

-- ---- a slot that was written, and another

module _ (P Q R S : List ℕ) (a : ℕ) (l : length P ≡ a) (m : length Q ≡ 131) (n : length S ≡ 131) where
  below : (j : ℕ) → 131 * j + 131 ≤ a → take 131 (drop (131 * j) (P ++ (Q ++ R))) ≡ take 131 (drop (131 * j) (P ++ (S ++ R)))
  below j h =
      let d : 131 * j ≤ length P = omega arith in
      let e : 131 ≤ length (drop (131 * j) P) = omega (arith, length-drop (131 * j) P) in
      ap (take 131) (drop-append-le (131 * j) P (Q ++ R) d) ∙ take-append-le 131 (drop (131 * j) P) (Q ++ R) e
      ∙ sym (ap (take 131) (drop-append-le (131 * j) P (S ++ R) d) ∙ take-append-le 131 (drop (131 * j) P) (S ++ R) e)

  past : (T : List ℕ) → length T ≡ 131 → (u k : ℕ) → u ≡ a + 131 + k → drop u (P ++ (T ++ R)) ≡ drop k R
  past T t u k e =
      ap (λ (w : ℕ). drop w (P ++ (T ++ R))) e ∙ sym (drop-drop k (a + 131) (P ++ (T ++ R)))
      ∙ ap (drop k) (sym (drop-drop 131 a (P ++ (T ++ R))) ∙ ap (drop 131) (drop_at P (T ++ R) a l) ∙ drop_at T R 131 t)

  above : (j : ℕ) → a + 131 ≤ 131 * j → take 131 (drop (131 * j) (P ++ (Q ++ R))) ≡ take 131 (drop (131 * j) (P ++ (S ++ R)))
  above j h =
      let k = 131 * j - (a + 131) in
      let e : 131 * j ≡ a + 131 + k = omega arith in
      ap (take 131) (past Q m (131 * j) k e ∙ sym (past S n (131 * j) k e))

rejoin : (bs : List ℕ) (a : ℕ) → take a bs ++ (take 131 (drop a bs) ++ drop 131 (drop a bs)) ≡ bs
rejoin bs a = ap (λ (t : List ℕ). take a bs ++ t) (take-append-drop 131 (drop a bs)) ∙ take-append-drop a bs

module _ (bs s : List ℕ) (i : ℕ) (h : i < 8) (l : length bs ≡ 1048) (n : length s ≡ 131) where
  pub part_placed : part (with_slot bs i s) i ≡ s
  part_placed =
      let R = drop 131 (drop (131 * i) bs) in
      ap (take 131) (drop_at (take (131 * i) bs) (s ++ R) (131 * i) (front_long bs i h l)) ∙ take_at s R 131 n

  pub part-other : (j : ℕ) → (i ≡ j → ⊥) → part (with_slot bs i s) j ≡ part bs j
  part-other j o = side (dec_lt i j) ∙ ap (λ (t : List ℕ). part t j) (rejoin bs (131 * i))
    where
      R : List ℕ
      R = drop 131 (drop (131 * i) bs)

      side : Dec (i < j) → part (take (131 * i) bs ++ (s ++ R)) j ≡ part (take (131 * i) bs ++ (part bs i ++ R)) j
      side (yes p) = above (take (131 * i) bs) s R (part bs i) (131 * i) (front_long bs i h l) n (part-long bs i h l) j (omega arith)
      side (no p) = below (take (131 * i) bs) s R (part bs i) (131 * i) (front_long bs i h l) n (part-long bs i h l) j (omega (arith, p))

  pub placed-long : length (with_slot bs i s) ≡ length bs
  placed-long =
      let R = drop 131 (drop (131 * i) bs) in
      length-append (take (131 * i) bs) (s ++ R)
      ∙ omega (arith, front_long bs i h l, length-append s R, n, length-drop 131 (drop (131 * i) bs), length-drop (131 * i) bs, l)
