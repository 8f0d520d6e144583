-- open.
--   open-sized                   what passed sizes say: lengths and rooms
--   open-decides                 its verdict where Grow has not refused: the table's, or Offer's
--   open-unordered, open-drawn   what is seen of Offer by public numbers: where the table is refused, and where it is not
--   open-passed, open-ran-out    what is seen of open's opening, and what s holds, where Grow has not refused, and where it has
--   open-newhope, sized-newhope  the same of a scheme of which no public numbers are lent
--   open_unknown, open-failed    what is seen of open where no scheme is named, and where lengths or rooms are refused
--   open-refused, open_done      what is seen of open behind lengths and rooms, by what is seen of its opening
use Rattle.std.proofs.Common.{Ok, Err, Some, None, Option, ◌≡◌, ◌++◌, ◌+◌, ◌≤◌}
use Rattle.noise.specs.declared.RuleName.{RuleName}
use Rattle.lists.proofs.Kit.{refl, ◌∙◌, sym, ap, List, [], ℕ, arith, ℤ, pos, length, replicate, take, drop}
use Rattle.schemes.specs.{Schemes.fixed_of, declared.Scheme.Scheme, declared.Fixed.Fixed, declared.Scheme.TheVariants.NewHope}
use Rattle.schemes.proofs.Laws.{tied}
use Rattle.lists.specs.Ranges.{Below}
use Rattle.lists.proofs.{Parts.front_long, Same.empty}
use Rattle.refusals.specs.Seen.{Answer, refused, told, Seen, shown, seen}
use Rattle.refusals.specs.Refusals.{pass, ◌then◌, publics_in_lem, not_blank_lem}
use Rattle.refusals.specs.{declared.Refusal.Refusal, declared.Refusal.TheVariants.NoScheme, Refusals.Verdict}
use Rattle.refusals.proofs.Laws.{differ, both, all_pass, length-passes, room-passed, room-passes, within-passes, before-pass, last-passes, then-assoc, failed, went_on}
use Rattle.refusals.proofs.Seen.{written-passed, written-failed, shown-failed, seen_done, seen-refused}
use Rattle.values.specs.Fit.{Small}
use Rattle.offer.specs.{Offer.offer, Offer.offered_part, Offer.offer_tests, Offer.offer_message, Offer.offer_result, Inside.offer_lengths_lem, Inside.offer_ahead}
use Rattle.offer.proofs.Offering.{offer-last-decides}
use Rattle.exchange.specs.Open.{OpenLent, open_lent, OpenRooms, drawn_offer, open_offer, open_tests, open_shown, open_result, open_told, open_seen}
use Rattle.exchange.specs.Inside.{Drew, OpenSized, drawn_opens, open_shows, OpenHolds, open_sizes_lem}
use Rattle.exchange.specs.Random.{secret_bytes, public_from, cut, table_order, grown}
use Rattle.exchange.proofs.Grown.{lent-passed, no_table, no-publics, public-passes, only-newhope}
use Rattle.exchange.proofs.Drawn.{seen-fails, draws-secret, drawn-small}

-- ---- its tests

module _ (c : Scheme) (k : Option RuleName) (x : OpenLent) (m : OpenRooms) where
  pub open-sized : open_sizes_lem c k x m ≡ pass → Below 256 x.random → OpenSized c k x m
  unfolding open_sizes_lem
  open-sized t b =
      let s = both _ _ t in
      let o = both _ _ s.0 in
      let l = lent-passed _ c k x.a x.table x.random _ b o.0 in
      record { sizes = t; lent = l.1 l.0; roomy = room-passed _ _ o.1; s-roomy = room-passed _ _ s.1 }

abbrev seed_of : Scheme → OpenLent → List ℕ
seed_of c x = take (fixed_of c).seed x.random

chain : {S G : Verdict} (T P B : Verdict) → S ≡ pass → G ≡ pass → S then T then P then G then B ≡ T then (P then B)
unfolding ◌then◌
chain T P B s e = rw (s, e, last-passes (T then P)) (then-assoc T P B)

chain-fails : {S T P G : Verdict} (B : Verdict) {r : Refusal} → S ≡ pass → T ≡ pass → P ≡ pass → G ≡ Err r → S then T then P then G then B ≡ Err r
unfolding ◌then◌
chain-fails B s e f g = rw (s, e, f, g)

-- ---- Offer

module _ {c : Scheme} {k : Option RuleName} {x : OpenLent} {m : OpenRooms} (z : OpenSized c k x m) where
  s-small : let y = open_offer (Some c) k x in Small (fixed_of c).secret (fixed_of c).largest y.s × Small (fixed_of c).noise (fixed_of c).largest y.e
  unfolding drawn_offer open_offer
  s-small =
      let l = z.lent in
      let first : (fixed_of c).seed + secret_bytes c ≤ length x.random = omega (arith, l.random-long) in
      let second : (fixed_of c).seed + secret_bytes c + secret_bytes c ≤ length x.random = omega (arith, l.random-long) in (
        drawn-small (draws-secret c first l.table-long refl (sym (tied c).noise)) l.bytes,
        drawn-small (draws-secret c second l.table-long refl refl) l.bytes,
      )

  pub open-decides : grown c k (seed_of c x) ≡ pass
      → open_tests (Some c) k x m ≡ table_order c x.table then offer_tests (Some c) (open_offer (Some c) k x) m.opening
  unfolding open_tests open_sizes_lem offer_ahead offer_lengths_lem drawn_offer open_offer
  open-decides g =
      let y = open_offer (Some c) k x in
      let n = m.opening in
      let p = public-passes c k (seed_of c x) x.a z.lent.ruled z.lent.public-long g in
      let small = all_pass (within-passes s-small.0.within) (within-passes s-small.1.within) in
      let seed : (fixed_of c).seed ≤ length x.random = omega (arith, z.lent.random-long) in
      let offers =
      offer-last-decides c y n
      (all_pass
      (all_pass
      (all_pass (all_pass (all_pass (length-passes p.long) (length-passes s-small.0.long)) (length-passes s-small.1.long))
      (length-passes (front_long _ x.random seed)))
      (room-passes z.roomy))
      (sym (before-pass (publics_in_lem (fixed_of c).q y.a) small) ∙ small))
      refl in
      let T = table_order c x.table in
      let P = publics_in_lem (fixed_of c).q x.a in
      chain T P _ z.sizes g ∙ ap (λ (w : Verdict). T then (w then not_blank_lem (offered_part c y))) p.alike
      ∙ ap (λ (w : Verdict). T then w) (sym offers)

-- by public numbers, which x has
module _ (c : Scheme) (x : OpenLent) (n : ℕ) {v : Verdict} (o : v ≡ table_order c x.table) where
  pub open-unordered : {X : Type 0} {r : Refusal} {opening : List ℕ} → v ≡ Err r → opening ≡ replicate n 0
      → (seen (refused r 0) opening ≡ drawn_opens c x n) × (table_order c x.table ≡ pass → X)
  open-unordered f p = (shown-failed _ 0 n (failed _ o f) p, λ h. differ (sym f ∙ o ∙ h))

  module _ {f : Fixed} (d : f ≡ fixed_of c) {k : ℕ} (b : k ≡ secret_bytes c) {old new s e : List ℤ}
      (g : table_order c x.table ≡ pass → Drew c f.secret x.table (cut f.seed k x.random) old s)
      (h : table_order c x.table ≡ pass → Drew c f.secret x.table (cut (f.seed + k) k x.random) new e) where
    drawn-is : v ≡ pass → offer x.a (take f.secret s) (take f.secret e) (take f.seed x.random) ≡ drawn_offer c x.a x
    unfolding drawn_offer
    drawn-is t = let w = sym o ∙ t in rw ((g w).front, (h w).front, b, d)

    s-holds : v ≡ pass → s ≡ (drawn_offer c x.a x).s ++ drop (fixed_of c).secret old
    unfolding drawn_offer
    s-holds t = rw (b, d) at (g (sym o ∙ t)).whole

    pub open-drawn : {j : Option Scheme} {u : Seen ℕ} → v ≡ pass → j ≡ Some c
        → u ≡ offer_result j (offer x.a (take f.secret s) (take f.secret e) (take f.seed x.random)) n
        → (u ≡ drawn_opens c x n) × (table_order c x.table ≡ pass → s ≡ (drawn_offer c x.a x).s ++ drop (fixed_of c).secret old)
    open-drawn t i p = (
      rw (i, drawn-is t) at p ∙ ap (λ (w : Verdict). shown w (offer_message (Some c) (drawn_offer c x.a x)) 0 n) (sym (went_on _ o t)),
      λ _. s-holds t,
    )

-- ---- by lent or grown public numbers

module _ {c : Scheme} {k : Option RuleName} {x : OpenLent} {m : OpenRooms} (z : OpenSized c k x m) where
  pub open-passed : {a : List ℕ} {u : Seen ℕ} (old : List ℤ) {s : List ℤ} → grown c k (seed_of c x) ≡ pass → a ≡ public_from c k (seed_of c x) x.a
      → (u ≡ drawn_opens c (open_lent a x.table x.random) m.opening)
      × (table_order c x.table ≡ pass → s ≡ (drawn_offer c a (open_lent a x.table x.random)).s ++ drop (fixed_of c).secret old)
      → (u ≡ open_shows c k x m) × OpenHolds c k x m old s
  unfolding drawn_offer open_offer
  open-passed old g e p = (rw (open-decides z g, ← e) p.0, λ t. p.1 (both _ _ (sym (open-decides z g) ∙ t)).0)

module _ {k : Option RuleName} {x : OpenLent} {m : OpenRooms} (z : OpenSized NewHope k x m) {v : Verdict} (o : v ≡ grown NewHope k (seed_of NewHope x)) where
  pub open-ran-out : {r : Refusal} {opening : List ℕ} (old : List ℤ) {s : List ℤ} → v ≡ Err r → opening ≡ replicate m.opening 0
      → (seen (refused r 0) opening ≡ open_shows NewHope k x m) × OpenHolds NewHope k x m old s
  unfolding open_tests open_sizes_lem
  open-ran-out {r} old f p =
      let none : publics_in_lem 12289 x.a ≡ pass = rw (empty x.a z.lent.public-long) (no-publics 12288) in
      let t : open_tests (Some NewHope) k x m ≡ Err r = chain-fails _ z.sizes (no_table x.table) none (sym o ∙ f) in
      (shown-failed _ 0 m.opening t p, λ h. differ (sym t ∙ h))

module _ {c : Scheme} {k : Option RuleName} {a table random : List ℕ} {m : OpenRooms} (z : OpenSized c k (open_lent a table random) m) (e : length a ≡ 0) where
  pub sized-newhope : OpenSized NewHope k (open_lent [] table random) m
  sized-newhope = rw (only-newhope c (sym z.lent.public-long ∙ e), empty a e) at z

  pub open-newhope : {u : Seen ℕ} (old : List ℤ) {s : List ℤ}
      → (u ≡ open_shows NewHope k (open_lent [] table random) m) × OpenHolds NewHope k (open_lent [] table random) m old s
      → (u ≡ open_shows c k (open_lent a table random) m) × OpenHolds c k (open_lent a table random) m old s
  open-newhope old p = rw (only-newhope c (sym z.lent.public-long ∙ e), empty a e) p

-- ---- what is seen

module _ (c : Option Scheme) (k : Option RuleName) (x : OpenLent) (m : OpenRooms) {r : Refusal} {opening : List ℕ} {s : List ℤ} where
  open-fails : open_tests c k x m ≡ Err r → opening ≡ replicate m.opening 0 → s ≡ replicate m.s (pos 0)
      → open_seen (open_told (Err r)) opening s ≡ open_result c k x m
  unfolding open_seen open_shown
  open-fails e o p = rw (← written-failed _ 0 m.opening e o, ← written-failed _ (pos 0) m.s e p, e)

pub open_unknown : {c : Option Scheme} (k : Option RuleName) (x : OpenLent) (m : OpenRooms) {opening : List ℕ} {s : List ℤ} → c ≡ None
    → opening ≡ replicate m.opening 0 → s ≡ replicate m.s (pos 0)
    → open_seen (open_told (Err NoScheme)) opening s ≡ open_result c k x m
unfolding open_tests open_sizes_lem
open_unknown {c} k x m u o p = let t : open_tests c k x m ≡ Err NoScheme = rw u in open-fails c k x m t o p

module _ (c : Scheme) (k : Option RuleName) (x : OpenLent) (m : OpenRooms) where
  pub open-failed : {r : Refusal} {opening : List ℕ} {s : List ℤ} → Err r ≡ open_sizes_lem c k x m
      → opening ≡ replicate m.opening 0 → s ≡ replicate m.s (pos 0)
      → open_seen (open_told (Err r)) opening s ≡ open_result (Some c) k x m
  unfolding open_tests open_sizes_lem
  open-failed e o p = open-fails (Some c) k x m (failed _ refl (failed _ refl (failed _ refl (failed _ e refl)))) o p

  -- behind lengths and rooms
  module _ (v : Answer) (opening : List ℕ) (old : List ℤ) {s : List ℤ} (p : (seen (told v) opening ≡ open_shows c k x m) × OpenHolds c k x m old s) where
    pub open-refused : {r : Refusal} {t : List ℤ} → v ≡ Err r → t ≡ replicate m.s (pos 0)
        → open_seen (open_told (Err r)) opening t ≡ open_result (Some c) k x m
    open-refused {r} f z =
        let q = rw f at p.0 in
        let w = seen-fails _ 0 m.opening (open_tests (Some c) k x m) r 0 opening q in
        open-fails (Some c) k x m w (seen-refused _ 0 m.opening (open_tests (Some c) k x m) r 0 q) z

    pub open_done : {i : ℕ} {f : Fixed} → v ≡ Ok i → f ≡ fixed_of c → old ≡ replicate m.s (pos 0) → OpenSized c k x m
        → open_seen (open_told (Ok (record { opening = i; s = f.secret }))) opening s ≡ open_result (Some c) k x m
    unfolding open_seen open_shown seen shown
    open_done {i} {f} g d z b =
        let q = rw g at p.0 in
        let w = seen_done _ 0 m.opening (open_tests (Some c) k x m) i opening q in
        let y = written-passed (open_offer (Some c) k x).s (pos 0) m.s w old (s-small b).0.long z (p.1 w) in
        rw (← ap (λ (u : Seen ℕ). u.out) q, ← y, w, d)
