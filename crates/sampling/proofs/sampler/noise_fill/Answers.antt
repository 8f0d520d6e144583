-- `sampling::sampler::noise_fill` meets its contract: each name has its sampler.
use Rattle.std.proofs.Common.{Some, ◌≡◌, ◌*◌}
use Rattle.lists.proofs.Kit.{List, ℕ, ℤ, length}
use Rattle.schemes.specs.{Schemes.family_of, Schemes.by_family, declared.Scheme.Scheme}
use Rattle.sampling.specs.Noise.{Noise, noise, noise_values_lem}
use Rattle.sampling.proofs.{Noising.takes, Noising.words, Noising.filled}
use Rattle.sampling.proofs.sampler.noise_fill.Goals as goal

-- in every arm, where s is t: the bytes are those of so many values, the words are those of its table, and the values of t are those of s
module _ (s : Scheme) (bytes table : List ℕ) {t : Scheme} (e : s ≡ t) where
  abbrev lent : Noise
  lent = noise bytes table

  bytes_of : (n : ℕ) → length bytes ≡ by_family (family_of s) 25 4 2 * n → length bytes ≡ by_family (family_of t) 25 4 2 * n
  bytes_of n r = takes lent e _ r

  words_of : length table ≡ by_family (family_of s) 153 0 0 → length table ≡ by_family (family_of t) 153 0 0
  words_of r = words lent e r

  values_of : {out : List ℤ} → out ≡ noise_values_lem (Some t) lent → out ≡ noise_values_lem (Some s) lent
  values_of o = filled lent e o

pub values-requires : goal.values-requires
values-requires c = let e = c.in-Bcns.is in (words_of c.args.s c.args.bytes.now c.args.table.now e c.requires.1, bytes_of c.args.s c.args.bytes.now c.args.table.now e _ c.requires.0)

pub newhope-requires : goal.newhope-requires
newhope-requires c = bytes_of c.args.s c.args.bytes.now c.args.table.now c.in-NewHope.is _ c.requires.0

pub frodo-requires : goal.frodo-requires
frodo-requires c = bytes_of c.args.s c.args.bytes.now c.args.table.now c.in-Challenge.is _ c.requires.0

pub frodo-requires-in-Classical : goal.frodo-requires-in-Classical
frodo-requires-in-Classical c = bytes_of c.args.s c.args.bytes.now c.args.table.now c.in-Classical.is _ c.requires.0

pub frodo-requires-in-Recommended : goal.frodo-requires-in-Recommended
frodo-requires-in-Recommended c = bytes_of c.args.s c.args.bytes.now c.args.table.now c.in-Recommended.is _ c.requires.0

pub frodo-requires-in-Paranoid : goal.frodo-requires-in-Paranoid
frodo-requires-in-Paranoid c = bytes_of c.args.s c.args.bytes.now c.args.table.now c.in-Paranoid.is _ c.requires.0

pub returns-in-Bcns : goal.returns-in-Bcns
unfolding noise_values_lem
returns-in-Bcns c = values_of c.args.s c.args.bytes.now c.args.table.now c.in-Bcns.is c.values.ensures

pub returns-in-NewHope : goal.returns-in-NewHope
unfolding noise_values_lem
returns-in-NewHope c = values_of c.args.s c.args.bytes.now c.args.table.now c.in-NewHope.is c.newhope.ensures

pub returns-in-Challenge : goal.returns-in-Challenge
unfolding noise_values_lem
returns-in-Challenge c = values_of c.args.s c.args.bytes.now c.args.table.now c.in-Challenge.is c.frodo.ensures

pub returns-in-Classical : goal.returns-in-Classical
unfolding noise_values_lem
returns-in-Classical c = values_of c.args.s c.args.bytes.now c.args.table.now c.in-Classical.is c.frodo-in-Classical.ensures

pub returns-in-Recommended : goal.returns-in-Recommended
unfolding noise_values_lem
returns-in-Recommended c = values_of c.args.s c.args.bytes.now c.args.table.now c.in-Recommended.is c.frodo-in-Recommended.ensures

pub returns-in-Paranoid : goal.returns-in-Paranoid
unfolding noise_values_lem
returns-in-Paranoid c = values_of c.args.s c.args.bytes.now c.args.table.now c.in-Paranoid.is c.frodo-in-Paranoid.ensures
