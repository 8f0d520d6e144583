-- `sampling::sampler::noise_values` meets its contract: the part that is lent is filled, and what lies behind it stays.
use Rattle.lists.proofs.Kit.{◌∙◌, sym, ap, List, ℕ, arith, ℤ, drop, length-take-le}
use Rattle.std.proofs.Common.{◌++◌, ◌*◌}
use Rattle.schemes.specs.Schemes.{family_of, by_family}
use Rattle.sampling.specs.Noise.{noise}
use Rattle.sampling.proofs.{Noising.count, Noising.tests-passed}
use Rattle.sampling.proofs.sampler.noise_values.Goals as goal

pub slice_bounds-noise_fill-end : goal.slice_bounds-noise_fill-end
slice_bounds-noise_fill-end c =
    omega (arith, c.noise_count-n.ensures, (tests-passed c.args.s (noise c.args.bytes.now c.args.table.now) _ c.requires).room)

pub slice_bounds-noise_fill-end-2 : goal.slice_bounds-noise_fill-end-2
slice_bounds-noise_fill-end-2 c =
    sym (length-take-le _ c.args.out.now (omega (arith, c.noise_count-n.ensures, (tests-passed c.args.s (noise c.args.bytes.now c.args.table.now) _ c.requires).room)))

pub noise_fill-requires : goal.noise_fill-requires
noise_fill-requires c =
    let n = c.noise_count-n.ensures in
    let l = length-take-le c.noise_count-n.result c.args.out.now (omega (arith, n, (tests-passed c.args.s (noise c.args.bytes.now c.args.table.now) _ c.requires).room)) in
    ((tests-passed c.args.s (noise c.args.bytes.now c.args.table.now) _ c.requires).whole ∙ ap (λ (k : ℕ). by_family (family_of c.args.s) 25 4 2 * k) (sym (l ∙ n)), (tests-passed c.args.s (noise c.args.bytes.now c.args.table.now) _ c.requires).table)

pub returns : goal.returns
returns c =
    let k = c.noise_count-n in record { value = k.ensures ∙ sym (count c.args.s (noise c.args.bytes.now c.args.table.now)); out_value = ap (λ (xs : List ℤ). xs ++ drop k.result c.args.out.now) c.noise_fill.ensures }
