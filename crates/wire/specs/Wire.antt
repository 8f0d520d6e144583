-- Where the parts of a message stand: 01, "Bytes on the wire". Frodo's seed stands first in an opening, the others' last.
--   opening c seed p        an opening from its seed and its packed part
--   packed_at c, seed_at c    where these two begin
--   opened_in c m, seed_in c m   the packed part of an opening, and its seed
--   replied_in c m           the packed part of a reply; its hints stand behind it
--   numbers_in c p           the numbers of a packed part
--   hints_in c m             the hints of a reply
--   coins_in c coins         the coins of all groups
use Rattle.std.specs.Prelude.{List, ◌++◌, ℕ, take, drop}
use Rattle.schemes.specs.{Schemes.family_of, Schemes.fixed_of, Schemes.by_family, declared.Scheme.Scheme}
use Rattle.packing.specs.Packing.{unpacked}

unfoldable pub opening : Scheme → List ℕ → List ℕ → List ℕ
opening c seed p = by_family (family_of c) (p ++ seed) (p ++ seed) (seed ++ p)

abbrev pub packed_at : Scheme → ℕ
packed_at c = by_family (family_of c) 0 0 (fixed_of c).seed

abbrev pub seed_at : Scheme → ℕ
seed_at c = by_family (family_of c) (fixed_of c).packed (fixed_of c).packed 0

unfoldable pub opened_in : Scheme → List ℕ → List ℕ
opened_in c m = take (fixed_of c).packed (drop (packed_at c) m)

unfoldable pub seed_in : Scheme → List ℕ → List ℕ
seed_in c m = take (fixed_of c).seed (drop (seed_at c) m)

unfoldable pub replied_in : Scheme → List ℕ → List ℕ
replied_in c m = take (fixed_of c).packed m

unfoldable pub numbers_in : Scheme → List ℕ → List ℕ
numbers_in c p = unpacked (fixed_of c).width (fixed_of c).secret p

unfoldable pub hints_in : Scheme → List ℕ → List ℕ
hints_in c m = unpacked (fixed_of c).hintbits (fixed_of c).mixed (drop (fixed_of c).packed m)

unfoldable pub coins_in : Scheme → List ℕ → List ℕ
coins_in c coins = unpacked (fixed_of c).coinbits (fixed_of c).groups coins
