-- `sampling::sampler::noise_sizes` meets its contract.
use Rattle.lists.proofs.Kit.{ap, arith, mul-le-mul, length, ℕ}
use Rattle.std.proofs.Common.{◌*◌, ◌≡◌}
use Rattle.schemes.specs.declared.Fixed.{Fixed}
use Rattle.schemes.proofs.Sound.{Sound, sound}
use Rattle.refusals.specs.Refusals.{◌then◌}
use Rattle.refusals.proofs.Ends.{given_up}
use Rattle.sampling.specs.{Noise.length_either_lem, Steps.noise_sizes_lem}
use Rattle.sampling.proofs.sampler.noise_sizes.Goals as goal

pub overflow_mul-each : goal.overflow_mul-each
overflow_mul-each c =
    let z : Sound c.fixed-f.result = rw c.fixed-f.ensures (sound c.args.s) in
    record { fits = omega (arith, mul-le-mul c.requires.1 z.noises) }

pub overflow_mul-each-2 : goal.overflow_mul-each-2
overflow_mul-each-2 c =
    let z : Sound c.fixed-f.result = rw c.fixed-f.ensures (sound c.args.s) in
    record { fits = omega (arith, mul-le-mul c.requires.1 z.values) }

-- the two lengths, by the numbers that `fixed` gives
either : (m each : ℕ) {f g : Fixed} → f ≡ g → length_either_lem m (each * f.noise) (each * f.mixed) ≡ length_either_lem m (each * g.noise) (each * g.mixed)
either m each e = ap (λ (g : Fixed). length_either_lem m (each * g.noise) (each * g.mixed)) e

pub returns-in_err-length_either : goal.returns-in_err-length_either
unfolding noise_sizes_lem ◌then◌
returns-in_err-length_either c =
    let g = either (length c.args.bytes.now) c.args.each c.fixed-f.ensures in
    rw (given_up _ c.from_residual.ensures, ← g, ← c.in_err-length_either.ensures)

pub returns-in_err-length_is : goal.returns-in_err-length_is
unfolding noise_sizes_lem ◌then◌
returns-in_err-length_is c =
    let g = either (length c.args.bytes.now) c.args.each c.fixed-f.ensures in
    rw (given_up _ c.from_residual-in_err-length_is.ensures, ← g, ← c.in_ok-length_either.ensures, ← c.in_err-length_is.ensures)

pub returns : goal.returns
unfolding noise_sizes_lem ◌then◌
returns c =
    let g = either (length c.args.bytes.now) c.args.each c.fixed-f.ensures in
    rw (← g, ← c.in_ok-length_either.ensures, ← c.in_ok-length_is.ensures) c.room_for.ensures
