-- `sampling::expand` meets its contract: the output is zeroed first, and then holds what the rule by its name gives.
use Rattle.refusals.proofs.Ends.{given_up}
use Rattle.sampling.proofs.{Expanding.unruled, Expanding.expand-unknown, Expanding.expand-named}
use Rattle.sampling.proofs.expand.Goals as goal

pub returns-in_err-name : goal.returns-in_err-name
returns-in_err-name c =
    let u = unruled c.named.result c.in_err-name.ensures.value in
    rw (given_up _ c.from_residual.ensures, u.1) (expand-unknown c.named.ensures.value.0 _ _ u.0 c.named.ensures.value.1)

pub returns : goal.returns
returns c =
    expand-named c.named.ensures.value.0 _ _ c.in_ok-name.ensures.ok_part c.named.ensures.value.1 c.expand_by.ensures
