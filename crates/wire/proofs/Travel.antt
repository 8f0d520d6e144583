-- Messages: how long they are, what comes back of them at the other end, and what their numbers, hints and coins are.
--   numbers-long, key-long       the packed numbers of a message, and a key, are as long as the scheme says
--   opening-length, reply-length   so are an opening and a reply
--   numbers-back                 numbers come back from their packed part
--   numbers-blank, told-blank    they are blank where their packed part is, and so says a verdict on them
--   opened-part, opened-back, seed-back      the packed part of an opening, its numbers, and its seed
--   replied-part, replied-back, hints-back   those of a reply, and its hints
--   opening-back, reply-back     what is stated in specs/Again
--   opening-again, reply-again   a message of the scheme's length comes back the same when it is unpacked and packed again
--   hints-given, coins-given     hints and coins are as many as the scheme has, each within its bits
--   message-counted              numbers that are not refused are as many as the scheme has, each below q
use Rattle.lists.proofs.Kit.{sym, ap, ap₂, ◌∙◌, List, ℕ, le_refl, arith, length, take, drop, length-append, length-drop, take-append-drop}
use Rattle.std.proofs.Common.{◌≡◌, ◌++◌, ◌+◌, ◌^◌}
use Rattle.lists.proofs.Kit.{take_at, drop_at, take_all}
use Rattle.schemes.specs.{Schemes.family_of, Schemes.fixed_of, Schemes.by_family, declared.Family.Family, declared.Scheme.Scheme}
use Rattle.schemes.proofs.{Laws.tied, Sound.sound}
use Rattle.lists.specs.Ranges.{Below}
use Rattle.lists.proofs.Parts.{below-take, below-drop}
use Rattle.packing.specs.Packing.{packed, unpacked}
use Rattle.packing.proofs.Laws.{unpacked-length, unpacked-below}
use Rattle.refusals.specs.{Refusals.not_blank_lem, Refusals.received_in, Refusals.Verdict, Refusals.pass}
use Rattle.refusals.proofs.Laws.{both, message-passed}
use Rattle.values.specs.Fit.{Counted}
use Rattle.wire.specs.Wire.{opening, packed_at, opened_in, replied_in, numbers_in, hints_in, coins_in, seed_in}
use Rattle.wire.specs.Again.{OpeningBack, ReplyBack}
use Rattle.wire.proofs.Whole.{numbers, hints, keys, long, back, as-blank, again}
use Rattle.wire.proofs.Places.{opened-long, replied-long, hints-long}

-- ---- an opening of a packed part p of k entries and a seed of j, by the family

module _ (k j : ℕ) (seed p : List ℕ) (ls : length seed ≡ j) (lp : length p ≡ k) where
  laid-long : (F : Family) → length (by_family F (p ++ seed) (p ++ seed) (seed ++ p)) ≡ k + j
  laid-long Family.Bcns = length-append p seed ∙ omega arith
  laid-long Family.NewHope = length-append p seed ∙ omega arith
  laid-long Family.Frodo = length-append seed p ∙ omega arith

  laid-packed : (F : Family) → take k (drop (by_family F 0 0 j) (by_family F (p ++ seed) (p ++ seed) (seed ++ p))) ≡ p
  laid-packed Family.Bcns = take_at p seed k lp
  laid-packed Family.NewHope = take_at p seed k lp
  laid-packed Family.Frodo = ap (take k) (drop_at seed p j ls) ∙ take_all k p (omega arith)

  laid-seed : (F : Family) → take j (drop (by_family F k k 0) (by_family F (p ++ seed) (p ++ seed) (seed ++ p))) ≡ seed
  laid-seed Family.Bcns = ap (take j) (drop_at p seed k lp) ∙ take_all j seed (omega arith)
  laid-seed Family.NewHope = ap (take j) (drop_at p seed k lp) ∙ take_all j seed (omega arith)
  laid-seed Family.Frodo = take_at seed p j ls

laid-again : (k j : ℕ) (m : List ℕ) → length m ≡ k + j → (F : Family)
    → let p = take k (drop (by_family F 0 0 j) m) in let seed = take j (drop (by_family F k k 0) m) in by_family F (p ++ seed) (p ++ seed) (seed ++ p) ≡ m
laid-again k j m l Family.Bcns = ap (λ (s : List ℕ). take k m ++ s) (take_all j (drop k m) (omega (arith, length-drop k m))) ∙ take-append-drop k m
laid-again k j m l Family.NewHope = ap (λ (s : List ℕ). take k m ++ s) (take_all j (drop k m) (omega (arith, length-drop k m))) ∙ take-append-drop k m
laid-again k j m l Family.Frodo = ap (λ (p : List ℕ). take j m ++ p) (take_all k (drop j m) (omega (arith, length-drop j m))) ∙ take-append-drop j m

module _ (c : Scheme) where
  -- ---- how long

  pub opening-length : (seed p : List ℕ) → length seed ≡ (fixed_of c).seed → length p ≡ (fixed_of c).packed → length (opening c seed p) ≡ (fixed_of c).opening
  unfolding opening
  opening-length seed p ls lp = laid-long (fixed_of c).packed (fixed_of c).seed seed p ls lp (family_of c) ∙ sym (tied c).opening

  pub key-long : {entries : List ℕ} → Counted (fixed_of c).groups (2 ^ (fixed_of c).keybits) entries → length (packed (fixed_of c).keybits entries) ≡ (fixed_of c).key
  key-long h = long (keys c) h

  module _ {xs : List ℕ} (h : Counted (fixed_of c).secret (fixed_of c).q xs) where
    pub numbers-long : length (packed (fixed_of c).width xs) ≡ (fixed_of c).packed
    numbers-long = long (numbers c) h

    pub numbers-back : numbers_in c (packed (fixed_of c).width xs) ≡ xs
    unfolding numbers_in
    numbers-back = back (numbers c) h (sound c).q_room

    pub numbers-blank : not_blank_lem (packed (fixed_of c).width xs) ≡ not_blank_lem xs
    numbers-blank = as-blank (numbers c) h (sound c).q_room

    pub told-blank : {v : Verdict} → v ≡ not_blank_lem xs → v ≡ not_blank_lem (packed (fixed_of c).width xs)
    told-blank e = e ∙ sym numbers-blank

    -- ---- an opening

    module _ (seed : List ℕ) (ls : length seed ≡ (fixed_of c).seed) where
      pub seed-back : seed_in c (opening c seed (packed (fixed_of c).width xs)) ≡ seed
      unfolding seed_in opening
      seed-back = laid-seed (fixed_of c).packed (fixed_of c).seed seed (packed (fixed_of c).width xs) ls numbers-long (family_of c)

      part-opened : opened_in c (opening c seed (packed (fixed_of c).width xs)) ≡ packed (fixed_of c).width xs
      unfolding opened_in opening
      part-opened = laid-packed (fixed_of c).packed (fixed_of c).seed seed (packed (fixed_of c).width xs) ls numbers-long (family_of c)

    -- ---- a reply

    module _ {hs : List ℕ} (g : Counted (fixed_of c).mixed (2 ^ (fixed_of c).hintbits) hs) where
      pub reply-length : length (packed (fixed_of c).width xs ++ packed (fixed_of c).hintbits hs) ≡ (fixed_of c).reply
      reply-length = length-append (packed (fixed_of c).width xs) (packed (fixed_of c).hintbits hs) ∙ omega (arith, numbers-long, long (hints c) g, (tied c).reply)

      pub replied-part : replied_in c (packed (fixed_of c).width xs ++ packed (fixed_of c).hintbits hs) ≡ packed (fixed_of c).width xs
      unfolding replied_in
      replied-part = take_at (packed (fixed_of c).width xs) (packed (fixed_of c).hintbits hs) (fixed_of c).packed numbers-long

      pub replied-back : numbers_in c (replied_in c (packed (fixed_of c).width xs ++ packed (fixed_of c).hintbits hs)) ≡ xs
      replied-back = ap (numbers_in c) replied-part ∙ numbers-back

      pub hints-back : hints_in c (packed (fixed_of c).width xs ++ packed (fixed_of c).hintbits hs) ≡ hs
      unfolding hints_in
      hints-back =
          ap (unpacked (fixed_of c).hintbits (fixed_of c).mixed) (drop_at (packed (fixed_of c).width xs) (packed (fixed_of c).hintbits hs) (fixed_of c).packed numbers-long)
          ∙ back (hints c) g (le_refl _)

  module _ (seed : List ℕ) {xs : List ℕ} (ls : length seed ≡ (fixed_of c).seed) (h : Counted (fixed_of c).secret (fixed_of c).q xs) where
    pub opened-part : opened_in c (opening c seed (packed (fixed_of c).width xs)) ≡ packed (fixed_of c).width xs
    opened-part = part-opened h seed ls

    pub opened-back : numbers_in c (opened_in c (opening c seed (packed (fixed_of c).width xs))) ≡ xs
    opened-back = ap (numbers_in c) opened-part ∙ numbers-back h

  -- ---- what is taken from a message

  pub hints-given : (m : List ℕ) → Counted (fixed_of c).mixed (2 ^ (fixed_of c).hintbits) (hints_in c m)
  unfolding hints_in
  hints-given m = record { long = unpacked-length _ _ _; below = unpacked-below _ _ _ }

  pub coins-given : (coins : List ℕ) → Counted (fixed_of c).groups (2 ^ (fixed_of c).coinbits) (coins_in c coins)
  unfolding coins_in
  coins-given coins = record { long = unpacked-length _ _ _; below = unpacked-below _ _ _ }

  -- u, taken from the packed part p with the verdict v
  pub message-counted : (p : List ℕ) {u : List ℕ} {v : Verdict} → u ≡ numbers_in c p → v ≡ received_in (fixed_of c).q p (numbers_in c p) → v ≡ pass
      → Counted (fixed_of c).secret (fixed_of c).q u
  unfolding numbers_in received_in
  message-counted p e t h =
      rw e
      (record {
        long = unpacked-length (fixed_of c).width (fixed_of c).secret p;
        below = message-passed _ _ (omega (arith, (sound c).some)) (both _ _ (sym t ∙ h)).0;
      })

-- ---- there and back

pub opening-back : OpeningBack
opening-back c seed xs ls h = (opened-back c seed ls h, seed-back c h seed ls)

pub reply-back : ReplyBack
reply-back c xs hs h g = (replied-back c h g, hints-back c h g)

-- a packed part of bytes
part-again : (c : Scheme) {p : List ℕ} → Below 256 p → length p ≡ (fixed_of c).packed → packed (fixed_of c).width (numbers_in c p) ≡ p
unfolding numbers_in
part-again c b l = again (numbers c) b l

pub opening-again : (c : Scheme) (m : List ℕ) → length m ≡ (fixed_of c).opening → Below 256 m
    → opening c (seed_in c m) (packed (fixed_of c).width (numbers_in c (opened_in c m))) ≡ m
unfolding opening seed_in opened_in
opening-again c m l b =
    let p = part-again c (below-take (below-drop b (packed_at c)) (fixed_of c).packed) (opened-long c m l) in
    ap (opening c (seed_in c m)) p ∙ laid-again (fixed_of c).packed (fixed_of c).seed m (l ∙ (tied c).opening) (family_of c)

pub reply-again : (c : Scheme) (m : List ℕ) → length m ≡ (fixed_of c).reply → Below 256 m
    → packed (fixed_of c).width (numbers_in c (replied_in c m)) ++ packed (fixed_of c).hintbits (hints_in c m) ≡ m
unfolding replied_in hints_in
reply-again c m l b =
    ap₂ ◌++◌ (part-again c (below-take b (fixed_of c).packed) (replied-long c m l)) (again (hints c) (below-drop b (fixed_of c).packed) (hints-long c m l))
    ∙ take-append-drop (fixed_of c).packed m
