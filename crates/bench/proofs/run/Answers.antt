-- `bench::run` meets its contract: the refusal, or the two keys compared.
use Rattle.lists.proofs.Kit.{refl, ap, arith}
use Rattle.std.proofs.Common.{◌≡◌}
use Rattle.schemes.specs.{Schemes.fixed_of, declared.Fixed.Fixed, declared.Scheme.Scheme}
use Rattle.schemes.proofs.Sound.{sound}
use Rattle.refusals.proofs.Ends.{given_up}
use Rattle.bench.specs.Bench.{bench}
use Rattle.bench.proofs.{Answering.bench-refused, Answering.bench-told}
use Rattle.bench.proofs.run.Goals as goal

key-is : (s : Scheme) {f : Fixed} → f ≡ fixed_of s → f.key ≡ (fixed_of s).key
key-is s e = ap (λ (g : Fixed). g.key) e

pub both-requires : goal.both-requires
both-requires c =
    let s = c.args.scheme in
    let k = key-is s c.fixed-f.ensures in
    (omega (arith, k, (sound s).keys), omega (arith, c.requires, k))

pub returns-in_err-slack : goal.returns-in_err-slack
returns-in_err-slack c =
    let a = c.args in
    rw (given_up _ c.from_residual.ensures)
    (bench-refused a.scheme (bench a.a.now a.s.now a.e.now a.seed.now a.s1.now a.e1.now a.e2.now a.coins.now) c.in_err-slack.ensures refl)

pub returns : goal.returns
returns c =
    let a = c.args in
    bench-told a.scheme (bench a.a.now a.s.now a.e.now a.seed.now a.s1.now a.e1.now a.e2.now a.coins.now) c.in_ok-slack.ensures refl
    (key-is a.scheme c.fixed-f.ensures) c.both.ensures
