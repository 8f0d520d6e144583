-- `sampling::noise` meets its contract: the output is zeroed first, and then holds what the scheme by its name gives.
use Rattle.lists.proofs.Kit.{pos}
use Rattle.lists.proofs.Same.{zeros-long}
use Rattle.refusals.proofs.Ends.{given_up}
use Rattle.sampling.specs.Noise.{noise}
use Rattle.sampling.proofs.{Noising.noise-unknown, Noising.noise-named}
use Rattle.sampling.proofs.noise.Goals as goal

pub returns-in_err-s : goal.returns-in_err-s
returns-in_err-s c =
    rw (given_up _ c.from_residual.ensures) (noise-unknown (noise c.args.bytes.now c.args.table.now) _ c.in_err-s.ensures (c.fill.ensures.after (λ y e. e)))

pub returns : goal.returns
returns c =
    noise-named (noise c.args.bytes.now c.args.table.now) c.in_ok-s.ensures (zeros-long _ (pos 0) (c.fill.ensures.after (λ y e. e))) c.noise_in.ensures
