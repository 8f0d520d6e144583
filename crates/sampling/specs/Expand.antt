-- What Expand and Grow promise: 01, "The NewHope transform" and "Refusal numbers and their order"; their rule, and Grow, which takes NewHope's public polynomial
-- from its seed: 02, requests g and c.
--   expand_numbers k stream   the numbers that the rule k takes from a stream
--   blocks seed              the stream of a seed: the first 24 blocks of 168 bytes of SHAKE-128
--   grow_numbers k seed       the numbers that the rule k takes from it
--   enough m                 7: the stream ran out, with so many accepted
--   expand_tests k stream n   Expand's tests in 01's order, 12 before them, with room for n numbers
--   expand_result k stream n  what Expand shows
--   grow_tests, grow_result k seed n   Grow's tests, and what it shows
--   ExpandPasses, GrowPasses   no part of what either writes is refused as public numbers of NewHope
--   SameGrown                two boxes that grow from one rule and seed hold the same numbers, whatever room they lend
use Rattle.std.specs.Prelude.{Err, Some, None, Option, ◌≡◌, cond, List, [], ℕ, ◌*◌, leb, length, take, drop}
use Rattle.noise.specs.declared.RuleName.{RuleName}
use Rattle.schemes.specs.Schemes.{new_hope}
use Rattle.noise.specs.{Expand.expanded, Expand.rule}
use Rattle.sponge.specs.Sponge.{shake128}
use Rattle.refusals.specs.Refusals.{◌then◌, length_is_lem, length_up_to_lem, room_for_lem, publics_in_lem}
use Rattle.refusals.specs.declared.Refusal.TheVariants.{RanOut, NoRule}
use Rattle.refusals.specs.{Seen.Seen, Seen.shown, Refusals.Verdict, Refusals.pass}

unfoldable pub expand_numbers : Option RuleName → List ℕ → List ℕ
expand_numbers None stream = []
expand_numbers (Some r) stream = expanded (rule r) stream

abbrev pub blocks : List ℕ → List ℕ
blocks seed = shake128 seed (24 * 168)

abbrev pub grow_numbers : Option RuleName → List ℕ → List ℕ
grow_numbers k seed = expand_numbers k (blocks seed)

unfoldable pub enough : ℕ → Verdict
enough m = cond (leb new_hope.public m) pass (Err (RanOut m))

unfoldable pub expand_tests : Option RuleName → List ℕ → ℕ → Verdict
expand_tests None stream n = Err NoRule
expand_tests (Some r) stream n =
    length_up_to_lem (length stream) 65536 then room_for_lem n new_hope.public then enough (length (expand_numbers (Some r) stream))

abbrev pub expand_result : Option RuleName → List ℕ → ℕ → Seen ℕ
expand_result k stream n = shown (expand_tests k stream n) (expand_numbers k stream) 0 n

unfoldable pub grow_tests : Option RuleName → List ℕ → ℕ → Verdict
grow_tests None seed n = Err NoRule
grow_tests (Some r) seed n =
    length_is_lem (length seed) new_hope.seed then room_for_lem n new_hope.public then enough (length (grow_numbers (Some r) seed))

abbrev pub grow_result : Option RuleName → List ℕ → ℕ → Seen ℕ
grow_result k seed n = shown (grow_tests k seed n) (grow_numbers k seed) 0 n

-- ---- what follows

abbrev pub ExpandPasses : Type 0
ExpandPasses =
    (k : Option RuleName) (stream : List ℕ) (n from many : ℕ) → publics_in_lem new_hope.q (take many (drop from (expand_result k stream n).out.holds)) ≡ pass

abbrev pub GrowPasses : Type 0
GrowPasses =
    (k : Option RuleName) (seed : List ℕ) (n from many : ℕ) → publics_in_lem new_hope.q (take many (drop from (grow_result k seed n).out.holds)) ≡ pass

abbrev pub SameGrown : Type 0
SameGrown =
    (k : Option RuleName) (seed : List ℕ) (n n' : ℕ) → (grow_result k seed n).number ≡ 0 → (grow_result k seed n').number ≡ 0
    → take new_hope.public (grow_result k seed n).out.holds ≡ take new_hope.public (grow_result k seed n').out.holds
