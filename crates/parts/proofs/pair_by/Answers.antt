-- `parts::pair_by` meets its contract: it fills with numbers of two words each.
use Rattle.lists.proofs.Kit.{ap₂, ℕ, ◌+◌, ◌*◌, arith}
use Rattle.lists.proofs.Fill.{fill_start, fill-next, fill-whole}
use Rattle.parts.specs.Parts.{pairs}
use Rattle.parts.proofs.pair_by.Goals as goal

pub loop-i-init : goal.loop-i-init
loop-i-init g c = λ ws h. fill_start _ _

pub loop-i-preserved : goal.loop-i-preserved
loop-i-preserved g c = λ ws h.
    fill-next _ (c.loop-i.invariant ws h) (omega arith)
    (ap₂ (λ (a b : ℕ). a + 65536 * b) (h _ _ (omega arith) c.at.ensures) (h _ _ (omega arith) c.at-in-loop-i.ensures))

pub returns : goal.returns
unfolding pairs
returns g c = λ ws e h. fill-whole (c.loop-i.invariant ws h) (omega (arith, e)) (omega arith)
