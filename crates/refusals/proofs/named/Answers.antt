-- `refusals::named` meets its contract.
use Rattle.lists.proofs.Kit.{length}
use Rattle.lists.proofs.Same.{zeros}
use Rattle.refusals.proofs.named.Goals as goal

pub returns : goal.returns
returns c =
    let z = c.fill.ensures.after (λ y e. e) in
    record { value = (c.try_from.ensures, z); out_value = zeros (length c.args.out.now) 0 z }
