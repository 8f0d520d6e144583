-- `text::value` meets its contract.
use Rattle.text.proofs.{Reading.Valued}
use Rattle.text.proofs.value.Given as goal

abbrev pub invariant-loop-c : goal.invariant-loop-c
invariant-loop-c l = Valued l.s l.n l.c-index
