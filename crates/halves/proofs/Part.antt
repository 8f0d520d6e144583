-- The lengths of a product by halves, and the part of the slice that each of the three products is lent.
--   size-least, size-half, size-even   a length is 32 or more; above that it is twice another
--   size-upto, size-most   a length that passes it is one of those, and at most the largest
--   lent-long              it is as long as the product asks
--   part-product           what the product in a lent part means in the whole
use Rattle.lists.proofs.Kit.{◌≡◌, refl, ◌∙◌, sym, subst, Bool, true, false, List, ℕ, zero, suc, ◌+◌, ◌*◌, ◌-◌, ◌/◌, ◌^◌, ◌<◌, ◌≤◌, pow-suc, arith, eqb}
use Rattle.lists.proofs.Kit.{length, get_or, take, drop, eqb-true}
use Rattle.lists.proofs.Kit.{put_mid}
use Rattle.lists.specs.Ranges.{Stored}
use Rattle.lists.proofs.Parts.{part-long, part_at}
use Rattle.polynomial.proofs.Stores.{put-back}
use Rattle.halves.specs.{Halves.size_up_to, Steps.Size, Steps.Product, Steps.InPart, Steps.Size.least, Steps.Size.twice}
use Rattle.halves.proofs.Moves.{same, times-ext}

pub size-least : {n : ℕ} → Size n → 32 ≤ n
size-least least = omega arith
size-least (twice {h} s) = omega (arith, size-least s)

never : 32 < 32 → ⊥
never p = omega arith

pub size-half : {n : ℕ} → Size n → 32 < n → Size (n / 2)
size-half least p = absurd (never p)
size-half (twice {h} s) p =
    let e : (h + h) / 2 ≡ h = omega arith in
    rw e s

pub size-even : {n : ℕ} → Size n → 32 < n → n ≡ n / 2 + n / 2
size-even least p = absurd (never p)
size-even (twice {h} s) p = omega arith

size-power : (k : ℕ) → Size (32 * 2 ^ k)
size-power zero = least
size-power (suc k) =
    let e : 32 * 2 ^ k + 32 * 2 ^ k ≡ 32 * 2 ^ suc k = omega (arith, pow-suc 2 k) in
    subst Size e (twice (size-power k))

pub size-upto : (k n : ℕ) → size_up_to k n ≡ true → Size n
unfolding size_up_to
size-upto zero n e = subst Size (sym (eqb-true n 32 e)) least
size-upto (suc k) n e = go (size-upto k n) (eqb n (32 * 2 ^ suc k)) refl
  where
    go : (size_up_to k n ≡ true → Size n) → (b : Bool) → eqb n (32 * 2 ^ suc k) ≡ b → Size n
    go g true f = subst Size (sym (eqb-true n (32 * 2 ^ suc k) f)) (size-power (suc k))
    go g false f = g (rw f at e)

pub size-most : (k n : ℕ) → size_up_to k n ≡ true → n ≤ 32 * 2 ^ k
unfolding size_up_to
size-most zero n e = omega (arith, eqb-true n 32 e)
size-most (suc k) n e = go (size-most k n) (eqb n (32 * 2 ^ suc k)) refl
  where
    go : (size_up_to k n ≡ true → n ≤ 32 * 2 ^ k) → (b : Bool) → eqb n (32 * 2 ^ suc k) ≡ b → n ≤ 32 * 2 ^ suc k
    go g true f = omega (arith, eqb-true n (32 * 2 ^ suc k) f)
    go g false f = omega (arith, g (rw f at e), pow-suc 2 k)

-- ---- parts

-- as the code lends it, from `at` to e
pub lent-long : (h at e : ℕ) (w : List ℕ) → e ≡ at + 6 * h → e ≤ length w → 6 * h ≤ length (take (e - at) (drop at w))
lent-long h at e w f r =
    let d : e - at ≡ 6 * h = omega arith in
    rw d (omega (arith, part-long at (6 * h) w (omega arith)))

pub part-product :
    {h at e : ℕ} {w p : List ℕ} → e ≡ at + 6 * h → e ≤ length w → Product (take (e - at) (drop at w)) h p → InPart w at h (put_mid at (e - at) w p)
part-product {h} {at} {e} {w} {p} f r m =
    let d : e - at ≡ 6 * h = omega arith in
    let lent : Product (take (6 * h) (drop at w)) h p = rw d at m in
    let s : Stored 0 w at (6 * h) (λ k. get_or p k 0) (put_mid at (e - at) w p) = put-back at e (6 * h) w p f r (lent.long ∙ part-long at (6 * h) w (omega arith)) in
    record {
      long = s.long;
      inside = λ k l.
          s.inside k (omega arith)
          ∙ lent.at k l
          ∙ times-ext _ w h 0 h at (at + h) k
          (λ j g. part_at at (6 * h) w 0 (0 + j) (omega arith) ∙ same w (omega arith))
          (λ j g. part_at at (6 * h) w 0 (h + j) (omega arith) ∙ same w (omega arith));
      below = s.below;
      above = s.above;
    }

pub product_at : {w w' : List ℕ} {m n : ℕ} → n ≡ m → Product w m w' → Product w n w'
product_at e m = rw e m
