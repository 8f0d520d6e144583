-- `line::write` meets its contract.
use Rattle.lists.proofs.Kit.{arith}
use Rattle.line.specs.Line.{refusal}
use Rattle.line.proofs.write.Goals as goal

pub write_line-requires : goal.write_line-requires
unfolding refusal
write_line-requires c = omega (arith, rw (c.in-Err.is, ← c.number.ensures) at c.requires)

pub returns-in-Err : goal.returns-in-Err
unfolding refusal
returns-in-Err c = rw (c.in-Err.is, ← c.number.ensures) c.write_line.ensures
