-- Messages there and back.
--   OpeningBack   the numbers and the seed that an opening was put together from come back
--   ReplyBack     so do the numbers and the hints of a reply
use Rattle.std.specs.Prelude.{◌≡◌, List, ◌++◌, ℕ, ◌^◌, length}
use Rattle.schemes.specs.{Schemes.fixed_of, declared.Scheme.Scheme}
use Rattle.packing.specs.Packing.{packed}
use Rattle.values.specs.Fit.{Counted}
use Rattle.wire.specs.Wire.{opening, opened_in, replied_in, numbers_in, hints_in, seed_in}

abbrev pub OpeningBack : Type 0
OpeningBack =
    (c : Scheme) (seed xs : List ℕ) → length seed ≡ (fixed_of c).seed → Counted (fixed_of c).secret (fixed_of c).q xs
    → (numbers_in c (opened_in c (opening c seed (packed (fixed_of c).width xs))) ≡ xs) × (seed_in c (opening c seed (packed (fixed_of c).width xs)) ≡ seed)

abbrev pub ReplyBack : Type 0
ReplyBack =
    (c : Scheme) (xs hs : List ℕ) → Counted (fixed_of c).secret (fixed_of c).q xs → Counted (fixed_of c).mixed (2 ^ (fixed_of c).hintbits) hs
    → (numbers_in c (replied_in c (packed (fixed_of c).width xs ++ packed (fixed_of c).hintbits hs)) ≡ xs)
    × (hints_in c (packed (fixed_of c).width xs ++ packed (fixed_of c).hintbits hs) ≡ hs)
