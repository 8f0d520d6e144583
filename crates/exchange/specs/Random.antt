-- How random bytes become the inputs of Offer and Reply: cut from the front, for seed, s, e and for s', e', e'', coins.
--   secret_bytes c, mixed_bytes c   how many bytes the values of s, e, s' or e' take, and those of e''
--   open_random c, answer_random c  how many bytes open and answer are lent
--   cut at n random               n bytes from the place at on
--   values_in c table bytes        the noise values of bytes, as Noise has them
--   public_lent c                  how many public numbers are lent: none in NewHope, whose are grown
--   public_from c k seed a         the public numbers: in NewHope those that the rule k grows from the seed, else a as it is lent
--   ruled_in k                     12, where no rule is named
--   table_order c table            18, in BCNS alone
--   grown c k seed                7, in NewHope alone
use Rattle.std.specs.Prelude.{Err, Some, None, Option, List, ℕ, ◌+◌, ◌*◌, ℤ, length, take, drop}
use Rattle.noise.specs.declared.RuleName.{RuleName}
use Rattle.schemes.specs.{Schemes.fixed_of, Schemes.family_of, Schemes.by_family, declared.Scheme.Scheme}
use Rattle.bcns_noise.specs.Noise.{first_not_above_lem}
use Rattle.refusals.specs.{Refusals.table_in_lem, Refusals.Verdict, Refusals.pass, declared.Refusal.Refusal}
use Rattle.sampling.specs.{Noise.noise, Noise.bytes_each, Noise.noise_values_lem, Expand.enough, Expand.grow_numbers}

abbrev pub secret_bytes : Scheme → ℕ
secret_bytes c = bytes_each c * (fixed_of c).noise

abbrev pub mixed_bytes : Scheme → ℕ
mixed_bytes c = bytes_each c * (fixed_of c).mixed

abbrev pub open_random : Scheme → ℕ
open_random c = (fixed_of c).seed + secret_bytes c + secret_bytes c

abbrev pub answer_random : Scheme → ℕ
answer_random c = secret_bytes c + secret_bytes c + mixed_bytes c + (fixed_of c).coins

abbrev pub cut : ℕ → ℕ → List ℕ → List ℕ
cut at n random = take n (drop at random)

abbrev pub values_in : Scheme → List ℕ → List ℕ → List ℤ
values_in c table bytes = noise_values_lem (Some c) (noise bytes table)

abbrev pub public_lent : Scheme → ℕ
public_lent c = by_family (family_of c) (fixed_of c).public 0 (fixed_of c).public

unfoldable pub public_from : Scheme → Option RuleName → List ℕ → List ℕ → List ℕ
public_from c k seed a = by_family (family_of c) a (grow_numbers k seed) a

abbrev pub ruled_in : Option RuleName → Verdict
ruled_in None = Err Refusal.NoRule
ruled_in (Some r) = pass

unfoldable pub table_order : Scheme → List ℕ → Verdict
table_order c table = by_family (family_of c) (table_in_lem (first_not_above_lem table) 51) pass pass

unfoldable pub grown : Scheme → Option RuleName → List ℕ → Verdict
grown c k seed = by_family (family_of c) pass (enough (length (grow_numbers k seed))) pass
