-- `text::value` meets its contract.
use Rattle.lists.proofs.Kit.{arith}
use Rattle.text.proofs.{Reading.valued-none, Reading.valued-more, Reading.valued-all, Reading.valued-room}
use Rattle.text.proofs.value.Goals as goal

pub overflow_mul-n : goal.overflow_mul-n
overflow_mul-n c = omega (arith, valued-room c.loop-c.invariant (omega arith))

pub overflow_add-n : goal.overflow_add-n
overflow_add-n c = omega (arith, valued-room c.loop-c.invariant (omega arith))

pub loop-c-preserved : goal.loop-c-preserved
loop-c-preserved c =
    valued-more _ c.loop-c.invariant (omega arith) c.digit.ensures.0 c.digit.ensures.1

pub returns : goal.returns
returns c = valued-all c.loop-c.invariant c.loop-c-test.false

pub loop-c-init : goal.loop-c-init
loop-c-init c = valued-none _
