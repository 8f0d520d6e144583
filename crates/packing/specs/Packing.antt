-- Numbers of w bits each as bytes, and back: 01, "Bytes on the wire". A list of numbers below b is the digits, lowest first, of one number
-- in base b. Packing takes that number's digits in base 256, and unpacking goes the other way round: so bits lie lowest first, in index order.
--   value b xs        the number whose digits in base b are xs, the lowest first
--   digits b n v      the n lowest digits of v in base b, the lowest first
--   packed w xs       the bytes of numbers of w bits
--   unpacked w n bs   the n numbers of w bits that bytes hold
-- What is shown of them, once over the width (demand 2):
--   UnpackPack        numbers packed and unpacked are the same numbers, wherever they fill whole bytes
--   PackUnpack        bytes unpacked and packed are the same bytes, wherever whole numbers fill them
use Rattle.std.specs.Prelude.{◌≡◌, List, [], ◌∷◌, ℕ, zero, suc, ◌+◌, ◌*◌, ◌/◌, ◌%◌, ◌^◌, length}
use Rattle.lists.specs.Ranges.{Below}

unfoldable pub value : ℕ → List ℕ → ℕ
value b [] = 0
value b (x ∷ xs) = value b xs * b + x

unfoldable pub digits : ℕ → ℕ → ℕ → List ℕ
digits b zero v = []
digits b (suc n) v = v % b ∷ digits b n (v / b)

unfoldable pub packed : ℕ → List ℕ → List ℕ
packed w xs = digits 256 (w * length xs / 8) (value (2 ^ w) xs)

unfoldable pub unpacked : ℕ → ℕ → List ℕ → List ℕ
unpacked w n bs = digits (2 ^ w) n (value 256 bs)

abbrev pub UnpackPack : Type 0
UnpackPack = (w m : ℕ) (xs : List ℕ) → w * length xs ≡ 8 * m → Below (2 ^ w) xs → unpacked w (length xs) (packed w xs) ≡ xs

abbrev pub PackUnpack : Type 0
PackUnpack = (w n : ℕ) (bs : List ℕ) → w * n ≡ 8 * length bs → Below 256 bs → packed w (unpacked w n bs) ≡ bs
