-- 01, "Bytes on the wire": NewHope's 1, 2, 3, 4 packs to 01 80 00 30 00 10 00, and back.
use Rattle.lists.proofs.Kit.{refl, []}
use Rattle.std.proofs.Common.{◌≡◌, ◌∷◌}
use Rattle.packing.specs.Packing.{value, digits, packed, unpacked}

newhope : packed 14 (1 ∷ 2 ∷ 3 ∷ 4 ∷ []) ≡ 0x01 ∷ 0x80 ∷ 0x00 ∷ 0x30 ∷ 0x00 ∷ 0x10 ∷ 0x00 ∷ []
unfolding packed value digits
newhope = refl

back : unpacked 14 4 (0x01 ∷ 0x80 ∷ 0x00 ∷ 0x30 ∷ 0x00 ∷ 0x10 ∷ 0x00 ∷ []) ≡ 1 ∷ 2 ∷ 3 ∷ 4 ∷ []
unfolding unpacked value digits
back = refl
