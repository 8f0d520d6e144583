-- The first bit at which two keys differ.
--   same-apart, apart-before, apart-there   of two lists: where they are the same, below the first difference, and at it
--   differing-none     two keys differ at no bit exactly where they are the same
--   differing-at       they differ first at i exactly where i is the first bit that differs
use Rattle.lists.proofs.Kit.{refl, ◌∙◌, sym, ap, subst, Bool, true, false, cond, List, [], ℕ, zero, suc, dec_lt, not-suc-le-zero}
use Rattle.std.proofs.Common.{◌≡◌, ◌↔◌, ◌∷◌, ◌*◌, ◌≤◌, ◌<◌}
use Rattle.lists.proofs.Kit.{le_of_suc-le-suc, arith, eqb, length, get_or, ext_get_or, eqb-true, eqb-false, eq-eqb, lt-ltb, le-ltb}
use Rattle.lists.specs.{Ranges.Below, First.first_apart_lem}
use Rattle.packing.specs.Packing.{packed}
use Rattle.packing.proofs.Laws.{unpacked-length, pack-unpack}
use Rattle.bench.specs.{Bench.bits, Bench.differing, Shown.FirstBit}

-- ---- lists

same-apart : (xs : List ℕ) → first_apart_lem xs xs ≡ length xs
unfolding first_apart_lem
same-apart [] = refl
same-apart (x ∷ xs) = rw (eq-eqb x x refl) (ap suc (same-apart xs))

-- one entry more, where n is the first difference of what follows
module _ (x y : ℕ) (xs ys : List ℕ) (n : ℕ) where
  before_more : (t : Bool) → eqb x y ≡ t → ((j : ℕ) → j < n → get_or xs j 0 ≡ get_or ys j 0)
      → (j : ℕ) → j < cond t (suc n) zero → get_or (x ∷ xs) j 0 ≡ get_or (y ∷ ys) j 0
  before_more true e h zero l = eqb-true x y e
  before_more true e h (suc j) l = h j (le_of_suc-le-suc l)
  before_more false e h j l = absurd (not-suc-le-zero l)

  there-more : (t : Bool) → eqb x y ≡ t → (n < length xs → get_or xs n 0 ≡ get_or ys n 0 → ⊥)
      → cond t (suc n) zero < suc (length xs) → get_or (x ∷ xs) (cond t (suc n) zero) 0 ≡ get_or (y ∷ ys) (cond t (suc n) zero) 0 → ⊥
  there-more true e h l d = h (le_of_suc-le-suc l) d
  there-more false e h l d = eqb-false x y e d

apart-before : (xs ys : List ℕ) (j : ℕ) → j < first_apart_lem xs ys → get_or xs j 0 ≡ get_or ys j 0
unfolding first_apart_lem
apart-before [] ys j l = absurd (not-suc-le-zero l)
apart-before (x ∷ xs) [] j l = absurd (not-suc-le-zero l)
apart-before (x ∷ xs) (y ∷ ys) j l = before_more x y xs ys (first_apart_lem xs ys) (eqb x y) refl (apart-before xs ys) j l

apart-there : (xs ys : List ℕ) → length xs ≡ length ys → first_apart_lem xs ys < length xs → get_or xs (first_apart_lem xs ys) 0 ≡ get_or ys (first_apart_lem xs ys) 0 → ⊥
unfolding first_apart_lem
apart-there [] ys e l = absurd (not-suc-le-zero l)
apart-there (x ∷ xs) [] e l = absurd (omega arith)
apart-there (x ∷ xs) (y ∷ ys) e l = there-more x y xs ys (first_apart_lem xs ys) (eqb x y) refl (apart-there xs ys (omega arith)) l

-- ---- keys

bits-long : (xs : List ℕ) → length (bits xs) ≡ 8 * length xs
unfolding bits
bits-long xs = unpacked-length 1 (8 * length xs) xs

bits_back : (xs : List ℕ) → Below 256 xs → packed 1 (bits xs) ≡ xs
unfolding bits
bits_back xs h = pack-unpack 1 (8 * length xs) xs (omega arith) h

module _ (xs ys : List ℕ) where
  unlike : first_apart_lem (bits xs) (bits ys) < 8 * length xs → differing xs ys ≡ suc (first_apart_lem (bits xs) (bits ys))
  unfolding differing
  unlike l = rw (lt-ltb _ _ l)

  alike : 8 * length xs ≤ first_apart_lem (bits xs) (bits ys) → differing xs ys ≡ 0
  unfolding differing
  alike l = rw (le-ltb _ _ l)

same_none : (xs : List ℕ) → differing xs xs ≡ 0
same_none xs = alike xs xs (omega (arith, same-apart (bits xs), bits-long xs))

-- of one length, and bytes
module _ (xs ys : List ℕ) (e : length xs ≡ length ys) (hx : Below 256 xs) (hy : Below 256 ys) where
  same-long : length (bits xs) ≡ length (bits ys)
  same-long = bits-long xs ∙ ap (λ (n : ℕ). 8 * n) e ∙ sym (bits-long ys)

  same : 8 * length xs ≤ first_apart_lem (bits xs) (bits ys) → xs ≡ ys
  same l =
      sym (bits_back xs hx)
      ∙ ap (packed 1) (ext_get_or 0 (bits xs) (bits ys) same-long (λ i m. apart-before (bits xs) (bits ys) i (omega (arith, bits-long xs))))
      ∙ bits_back ys hy

  first : first_apart_lem (bits xs) (bits ys) < 8 * length xs → FirstBit (first_apart_lem (bits xs) (bits ys)) xs ys
  first l = record { before = apart-before (bits xs) (bits ys); there = apart-there (bits xs) (bits ys) same-long (omega (arith, bits-long xs)) }

  pub differing-none : (differing xs ys ≡ 0) ↔ (xs ≡ ys)
  differing-none = (λ d. go d (dec_lt (first_apart_lem (bits xs) (bits ys)) (8 * length xs)), λ d. subst (λ (zs : List ℕ). differing xs zs ≡ 0) d (same_none xs))
    where
      go : differing xs ys ≡ 0 → Dec (first_apart_lem (bits xs) (bits ys) < 8 * length xs) → xs ≡ ys
      go d (yes l) = absurd (omega (arith, unlike xs ys l))
      go d (no l) = same (omega arith)

  -- two first bits are one
  only : (i j : ℕ) → FirstBit i xs ys → FirstBit j xs ys → i ≡ j
  only i j p q = go (dec_lt i j) (dec_lt j i)
    where
      go : Dec (i < j) → Dec (j < i) → i ≡ j
      go (yes l) m = absurd (p.there (q.before i l))
      go (no l) (yes m) = absurd (q.there (p.before j m))
      go (no l) (no m) = omega arith

  pub differing-at : (i : ℕ) → (differing xs ys ≡ suc i) ↔ FirstBit i xs ys
  differing-at i = (λ d. to d (dec_lt (first_apart_lem (bits xs) (bits ys)) (8 * length xs)), λ p. from p (dec_lt (first_apart_lem (bits xs) (bits ys)) (8 * length xs)))
    where
      to : differing xs ys ≡ suc i → Dec (first_apart_lem (bits xs) (bits ys) < 8 * length xs) → FirstBit i xs ys
      to d (yes l) =
          let k : first_apart_lem (bits xs) (bits ys) ≡ i = omega (arith, unlike xs ys l) in
          subst (λ (n : ℕ). FirstBit n xs ys) k (first l)
      to d (no l) = absurd (omega (arith, alike xs ys (omega arith)))

      from : FirstBit i xs ys → Dec (first_apart_lem (bits xs) (bits ys) < 8 * length xs) → differing xs ys ≡ suc i
      from p (yes l) = unlike xs ys l ∙ ap suc (only _ i (first l) p)
      from p (no l) = absurd (p.there (ap (λ (zs : List ℕ). get_or (bits zs) i 0) (same (omega arith))))
