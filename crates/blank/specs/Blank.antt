-- A blank part: 02, request l.
--   blank xs         every number of the list is 0: of a packed part, every byte
-- What is shown of it, once over the width: zero bytes are zero numbers, so that either may be tested for the other.
--   BlankPacked      of numbers that are packed into whole bytes
--   BlankUnpacked    of bytes that whole numbers fill
use Rattle.std.specs.Prelude.{◌≡◌, Bool, true, false, cond, List, [], ◌∷◌, ℕ, ◌*◌, ◌^◌, eqb, length}
use Rattle.lists.specs.Ranges.{Below}
use Rattle.packing.specs.Packing.{packed, unpacked}

unfoldable pub blank : List ℕ → Bool
blank [] = true
blank (x ∷ xs) = cond (eqb x 0) (blank xs) false

abbrev pub BlankPacked : Type 0
BlankPacked = (w m : ℕ) (xs : List ℕ) → w * length xs ≡ 8 * m → Below (2 ^ w) xs → blank (packed w xs) ≡ blank xs

abbrev pub BlankUnpacked : Type 0
BlankUnpacked = (w n : ℕ) (bs : List ℕ) → w * n ≡ 8 * length bs → Below 256 bs → blank (unpacked w n bs) ≡ blank bs
