-- `hashing::shake128` meets its contract: the output is zeroed after a refusal, and filled where there is none.
use Rattle.lists.proofs.Kit.{◌∙◌, sym}
use Rattle.hashing.proofs.{Hashed.shake-refused, Hashed.shake-done}
use Rattle.hashing.proofs.shake128.Goals as goal

pub returns-in-Err : goal.returns-in-Err
returns-in-Err c =
    shake-refused c.args.input.now _ (sym c.in-Err.is ∙ c.length_up_to.ensures) (c.fill.ensures.after (λ y e. e))

pub returns : goal.returns
returns c = shake-done c.args.input.now _ (sym c.in_default.is ∙ c.length_up_to.ensures) c.shake128.ensures
