-- Where the parts of a message stand.
--   packed-within, seed-within   packed part and seed of an opening lie within it
--   opened-long, replied-long, hints-long   how long the parts of a message are
-- and by the struct f that the code reads the fixed numbers from:
--   starts_by                    where packed part and seed of an opening begin, by the family of the scheme
--   numbers_fit, hints-fit, entries_fit     what `pack` asks of numbers, hints and key entries
--   packed-end, packed-part, opened         the packed part of an opening lies within it, is as long as f says, and is 01's
--   seed-end, seed-fit           so does its seed, which fits there
--   laid, joined-reply           an opening and a reply whose two parts were written, one after the other
--   numbers-hold, taken          a packed part: what the unpack step asks, and what it gives
--   replied, reply-split, reply-front       the packed part of a reply, which lies within it, and what is left for its hints
--   hints-hold, hints-of, coins-hold, coins-of   hints and coins: what `unpack` asks, and what it gives
use Rattle.lists.proofs.Kit.{sym, ap, ap₂, ◌∙◌, List, append-nil, ℕ, le_refl, arith, length, take, drop, length-drop}
use Rattle.std.proofs.Common.{◌≡◌, ◌++◌, ◌+◌, ◌-◌, ◌*◌, ◌^◌, ◌≤◌, ◌<◌}
use Rattle.lists.proofs.Kit.{drop_of_length-le, take_at, drop_at, take_all, length-take-le, put_mid}
use Rattle.schemes.specs.{Schemes.family_of, Schemes.fixed_of, Schemes.by_family, declared.Fixed.Fixed, declared.Family.Family, declared.Scheme.Scheme}
use Rattle.schemes.proofs.{Laws.tied, Sound.sound}
use Rattle.lists.specs.Ranges.{Below}
use Rattle.lists.proofs.Parts.{part-long, joined}
use Rattle.packing.specs.Packing.{packed, unpacked}
use Rattle.refusals.specs.{Refusals.received_in, Refusals.Verdict}
use Rattle.values.specs.Fit.{Counted}
use Rattle.wire.specs.Wire.{opening, packed_at, opened_in, replied_in, numbers_in, hints_in, coins_in, seed_at}
use Rattle.wire.proofs.Whole.{numbers, hints, keys, coins, fit, long, hold}

-- ---- by the family

-- of a packed part of k entries and a seed of j
packed-in : (F : Family) (k j : ℕ) → by_family F 0 0 j + k ≤ k + j
packed-in Family.Bcns k j = omega arith
packed-in Family.NewHope k j = omega arith
packed-in Family.Frodo k j = omega arith

seed-in : (F : Family) (k j : ℕ) → by_family F k k 0 + j ≤ k + j
seed-in Family.Bcns k j = omega arith
seed-in Family.NewHope k j = omega arith
seed-in Family.Frodo k j = omega arith

module _ (c : Scheme) {n : ℕ} (l : n ≡ (fixed_of c).opening) where
  pub packed-within : packed_at c + (fixed_of c).packed ≤ n
  packed-within = rw (l, (tied c).opening) (packed-in (family_of c) (fixed_of c).packed (fixed_of c).seed)

  pub seed-within : seed_at c + (fixed_of c).seed ≤ n
  seed-within = rw (l, (tied c).opening) (seed-in (family_of c) (fixed_of c).packed (fixed_of c).seed)

-- ---- how long the parts are

module _ (c : Scheme) (m : List ℕ) where
  pub opened-long : length m ≡ (fixed_of c).opening → length (opened_in c m) ≡ (fixed_of c).packed
  unfolding opened_in
  opened-long l = part-long (packed_at c) (fixed_of c).packed m (packed-within c l)

  pub replied-long : length m ≡ (fixed_of c).reply → length (replied_in c m) ≡ (fixed_of c).packed
  unfolding replied_in
  replied-long l = length-take-le (fixed_of c).packed m (omega (arith, (tied c).reply))

  pub hints-long : length m ≡ (fixed_of c).reply → length (drop (fixed_of c).packed m) ≡ (fixed_of c).hint
  hints-long l = length-drop (fixed_of c).packed m ∙ omega (arith, (tied c).reply)

-- ---- two parts that lie side by side, p of k entries and s of j, written in either order

module _ {A : Type 0} (k j : ℕ) (d p s : List A) (lp : length p ≡ k) (ls : length s ≡ j) (ld : length d ≡ k + j) where
  front-first : put_mid k j (put_mid 0 k d p) s ≡ p ++ s
  front-first =
      let z = drop_of_length-le (drop k d) {i = j} (omega (arith, length-drop k d)) in
      rw (take_at p (drop k d) k lp, drop_at p (drop k d) k lp, z, append-nil s)

  rear-first : put_mid 0 j (put_mid j k d p) s ≡ s ++ p
  rear-first =
      let z = drop_of_length-le (drop j d) {i = k} (omega (arith, length-drop j d)) in
      rw (drop_at (take j d) (p ++ drop k (drop j d)) j (length-take-le j d (omega arith)), z, append-nil p)

  either : (F : Family) → put_mid (by_family F k k 0) j (put_mid (by_family F 0 0 j) k d p) s ≡ by_family F (p ++ s) (p ++ s) (s ++ p)
  either Family.Bcns = front-first
  either Family.NewHope = front-first
  either Family.Frodo = rear-first

-- ---- by the struct that the code reads them from

module _ (c : Scheme) {f : Fixed} (e : f ≡ fixed_of c) where
  pub starts_by : {F : Family} → family_of c ≡ F → (by_family F 0 0 f.seed ≡ packed_at c) × (by_family F f.packed f.packed 0 ≡ seed_at c)
  starts_by d =
      (ap₂ (λ (F : Family) (g : Fixed). by_family F 0 0 g.seed) (sym d) e, ap₂ (λ (F : Family) (g : Fixed). by_family F g.packed g.packed 0) (sym d) e)

  -- what `pack` asks of numbers, hints and key entries, for a buffer of m bytes
  pub numbers_fit : {xs : List ℕ} {m : ℕ} → Counted (fixed_of c).secret (fixed_of c).q xs → m ≡ f.packed
      → ((0 < f.width) × (f.width ≤ 32) × Below (2 ^ f.width) xs) × (f.width * length xs ≡ 8 * m)
  numbers_fit h l = rw e (fit (numbers c) h (sound c).q_room (rw e at l))

  pub hints-fit : {xs : List ℕ} {m : ℕ} → Counted (fixed_of c).mixed (2 ^ (fixed_of c).hintbits) xs → m ≡ f.hint
      → ((0 < f.hintbits) × (f.hintbits ≤ 32) × Below (2 ^ f.hintbits) xs) × (f.hintbits * length xs ≡ 8 * m)
  hints-fit h l = rw e (fit (hints c) h (le_refl _) (rw e at l))

  pub entries_fit : {xs : List ℕ} {m : ℕ} → Counted (fixed_of c).groups (2 ^ (fixed_of c).keybits) xs → m ≡ (fixed_of c).key
      → ((0 < f.keybits) × (f.keybits ≤ 32) × Below (2 ^ f.keybits) xs) × (f.keybits * length xs ≡ 8 * m)
  entries_fit h l = rw e (fit (keys c) h (le_refl _) l)

  -- ---- an opening d, whose packed part begins at `at` and whose seed begins at `from`

  module _ {at : ℕ} (a : at ≡ packed_at c) where
    pub packed-end : {n : ℕ} → n ≡ (fixed_of c).opening → at + f.packed ≤ n
    packed-end l = rw (a, e) (packed-within c l)

    pub packed-part : (d : List ℕ) → length d ≡ (fixed_of c).opening → length (take (at + f.packed - at) (drop at d)) ≡ f.packed
    packed-part d l = let k : at + f.packed - at ≡ f.packed = omega arith in rw k (part-long at f.packed d (packed-end l))

    pub opened : (d : List ℕ) → take (at + f.packed - at) (drop at d) ≡ opened_in c d
    unfolding opened_in
    opened d = let k : at + f.packed - at ≡ f.packed = omega arith in rw (k, a, e)

  module _ {from : ℕ} (b : from ≡ seed_at c) where
    pub seed-end : {n : ℕ} → n ≡ (fixed_of c).opening → from + f.seed ≤ n
    seed-end l = rw (b, e) (seed-within c l)

    -- after the packed part was written, which left d as long as it was
    pub seed-fit : (d s : List ℕ) {n : ℕ} → length d ≡ n → n ≡ (fixed_of c).opening → length s ≡ (fixed_of c).seed
        → length s ≡ length (take (from + f.seed - from) (drop from d))
    seed-fit d s o l ls =
        let k : from + f.seed - from ≡ f.seed = omega arith in
        let h : length s ≡ f.seed = rw e ls in
        h ∙ sym (rw k (part-long from f.seed d (seed-end (o ∙ l))))

  -- the numbers xs written at `at`, then the seed s at `from`
  pub laid : {at from : ℕ} → at ≡ packed_at c → from ≡ seed_at c → (d xs s : List ℕ) {p s' : List ℕ} → p ≡ packed f.width xs → s' ≡ s
      → Counted (fixed_of c).secret (fixed_of c).q xs → length s ≡ (fixed_of c).seed → length d ≡ (fixed_of c).opening
      → put_mid from (from + f.seed - from) (put_mid at (at + f.packed - at) d p) s' ≡ opening c s (packed (fixed_of c).width xs)
  unfolding opening
  laid {at} {from} a b d xs s ep es h ls ld =
      let k : at + f.packed - at ≡ f.packed = omega arith in
      let j : from + f.seed - from ≡ f.seed = omega arith in
      rw (k, j, a, b, ep, es, e) (either (fixed_of c).packed (fixed_of c).seed d (packed (fixed_of c).width xs) s (long (numbers c) h) ls (ld ∙ (tied c).opening) (family_of c))

  -- ---- a packed part p, into room for k numbers

  module _ {k : ℕ} (l : k ≡ (fixed_of c).secret) {p p' : List ℕ} (d : p ≡ p') where
    pub numbers-hold : length p' ≡ (fixed_of c).packed → (0 < f.width) × (f.width ≤ 32) × (8 * length p ≡ f.width * k)
    numbers-hold o = let h = hold (numbers c) (ap length d ∙ o) l in rw e (h.0.0, h.0.1, h.1)

    -- the verdict v of the unpack step, and the numbers u that it has left
    pub taken : {v : Verdict} {u : List ℕ} → (v ≡ received_in f.q p (unpacked f.width k p)) × (u ≡ unpacked f.width k p)
        → (v ≡ received_in (fixed_of c).q p' (numbers_in c p')) × (u ≡ numbers_in c p')
    unfolding numbers_in
    taken t = rw (← l, ← d, ← e) t

  -- ---- a reply m, whose packed part stands first

  pub replied : (m : List ℕ) → take f.packed m ≡ replied_in c m
  unfolding replied_in
  replied m = rw e

  pub reply-split : {n : ℕ} → n ≡ (fixed_of c).reply → n ≡ f.packed + f.hint
  reply-split l = rw e (l ∙ (tied c).reply)

  pub reply-front : {n : ℕ} → n ≡ (fixed_of c).reply → f.packed ≤ n
  reply-front l = omega (arith, reply-split l)

  -- the numbers xs written at the front of d, then the hints ys behind them
  pub joined-reply : (d xs ys : List ℕ) {p r : List ℕ} → p ≡ packed f.width xs → r ≡ packed f.hintbits ys
      → Counted (fixed_of c).secret (fixed_of c).q xs → Counted (fixed_of c).mixed (2 ^ (fixed_of c).hintbits) ys → length d ≡ (fixed_of c).reply
      → put_mid f.packed (length (p ++ drop f.packed d) - f.packed) (p ++ drop f.packed d) r
      ≡ packed (fixed_of c).width xs ++ packed (fixed_of c).hintbits ys
  joined-reply d xs ys ep er h g l =
      let lp : length (packed f.width xs) ≡ f.packed = rw e (long (numbers c) h) in
      let ld : length d ≡ f.packed + length (packed f.hintbits ys) = rw e (omega (arith, long (hints c) g, (tied c).reply)) in
      joined f.packed d _ _ _ _ ep er lp ld ∙ ap (λ (n : Fixed). packed n.width xs ++ packed n.hintbits ys) e

  -- hints of n bytes, into room for k
  module _ {k : ℕ} (l : k ≡ (fixed_of c).mixed) where
    pub hints-hold : {n : ℕ} → n ≡ f.hint → ((0 < f.hintbits) × (f.hintbits ≤ 32)) × (8 * n ≡ f.hintbits * k)
    hints-hold o = rw e (hold (hints c) (rw e at o) l)

    pub hints-of : (m : List ℕ) → length m ≡ (fixed_of c).reply → unpacked f.hintbits k (take (f.packed + f.hint - f.packed) (drop f.packed m)) ≡ hints_in c m
    unfolding hints_in
    hints-of m o =
        let h : f.packed + f.hint - f.packed ≡ f.hint = omega arith in
        let p : take f.hint (drop f.packed m) ≡ drop f.packed m = take_all f.hint (drop f.packed m) (omega (arith, length-drop f.packed m, reply-split o)) in
        rw (h, p, e, l)

  -- ---- coins, into room for k

  module _ {k : ℕ} (l : k ≡ (fixed_of c).groups) where
    pub coins-hold : {m : ℕ} → 0 < f.coinbits → m ≡ (fixed_of c).coins → ((0 < f.coinbits) × (f.coinbits ≤ 32)) × (8 * m ≡ f.coinbits * k)
    coins-hold s o = rw e (hold (coins c (rw e at s)) o l)

    pub coins-of : (bytes : List ℕ) → unpacked f.coinbits k bytes ≡ coins_in c bytes
    unfolding coins_in
    coins-of bytes = rw (e, l)
