-- Lanes and bytes as strings of bits.
--   lane-is, bytes-is   the lane that bytes make, and the bytes of a lane
use Rattle.lists.proofs.Kit.{refl, sym, ap, ap₂, ◌∙◌, List, [], ℕ, zero, suc, div-one, mod-lt, arith, shr-shr}
use Rattle.std.proofs.Common.{◌≡◌, ◌∷◌, ◌++◌, ◌+◌, ◌*◌, ◌/◌, ◌%◌, ◌^◌, ◌<◌}
use Rattle.lists.proofs.Kit.{length}
use Rattle.lists.specs.{Entries.tab, Ranges.Below}
use Rattle.lists.proofs.{Entries.tab-ext, Parts.below-tail}
use Rattle.packing.specs.Packing.{value, digits}
use Rattle.packing.proofs.Laws.{digits_append, digits_low}
use Rattle.fips.specs.Strings.{string}

-- the bits of a number of which a byte and the rest are known
lowest : (n b v : ℕ) → b < 256 → digits 2 (8 + n) (b + 256 * v) ≡ digits 2 8 b ++ digits 2 n v
lowest n b v h =
    let q : (b + 256 * v) / 256 ≡ v = omega arith in
    digits_append 2 8 n (b + 256 * v) ∙ ap₂ (λ (s : List ℕ) (k : ℕ). s ++ digits 2 n k) (digits_low 2 8 b v (omega arith)) q

pub lane-is : (l : List ℕ) → Below 256 l → digits 2 (8 * length l) (value 256 l) ≡ string l
unfolding value string digits
lane-is [] h = refl
lane-is (b ∷ l) h =
    let n = 8 * length l in
    let e : 8 * suc (length l) ≡ 8 + n = omega arith in
    let f : value 256 l * 256 + b ≡ b + 256 * value 256 l = omega arith in
    ap₂ (λ (k v : ℕ). digits 2 k v) e f ∙ lowest n b (value 256 l) (h.below 0) ∙ ap (λ (s : List ℕ). digits 2 8 b ++ s) (lane-is l (below-tail h))

pub bytes-is : (n a : ℕ) → string (tab n (λ k. a / 2 ^ (8 * k) % 256)) ≡ digits 2 (8 * n) a
unfolding string tab digits
bytes-is zero a = refl
bytes-is (suc n) a =
    let z : a / 2 ^ (8 * 0) % 256 ≡ a % 256 = ap (λ (k : ℕ). k % 256) (div-one a) in
    let e : 8 + 8 * n ≡ 8 * suc n = omega arith in
    let f : a % 256 + 256 * (a / 256) ≡ a = omega arith in
    ap₂ (λ (b : ℕ) (l : List ℕ). digits 2 8 b ++ string l) z
    (tab-ext n (λ k. a / 2 ^ (8 * suc k) % 256) (λ k. a / 256 / 2 ^ (8 * k) % 256)
    (λ k h. let g : 8 * suc k ≡ 8 + 8 * k = omega arith in
    ap (λ (j : ℕ). a / 2 ^ j % 256) g ∙ ap (λ (x : ℕ). x % 256) (sym (shr-shr a 8 (8 * k)))))
    ∙ ap (λ (l : List ℕ). digits 2 8 (a % 256) ++ l) (bytes-is n (a / 256))
    ∙ sym (lowest (8 * n) (a % 256) (a / 256) (mod-lt a (omega arith)))
    ∙ ap₂ (λ (k v : ℕ). digits 2 k v) e f
