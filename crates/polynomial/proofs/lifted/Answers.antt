-- `polynomial::lifted` meets its contract.
use Rattle.lists.proofs.Kit.{sym}
use Rattle.polynomial.proofs.{Halves.lift-low, Halves.lift-high}
use Rattle.polynomial.proofs.lifted.Goals as goal

pub returns-then-x-lt2147450880 : goal.returns-then-x-lt2147450880
returns-then-x-lt2147450880 c = sym (lift-low _ _ c.if-x-lt2147450880.true)

pub returns-else-x-lt2147450880 : goal.returns-else-x-lt2147450880
returns-else-x-lt2147450880 c = sym (lift-high _ _ c.if-x-lt2147450880.false)
