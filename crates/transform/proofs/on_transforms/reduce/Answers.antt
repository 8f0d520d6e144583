-- `transform::on_transforms::reduce` meets its contract: it fills with the remainders.
use Rattle.lists.proofs.Kit.{◌≡◌, arith, get_or, pos, to_z-of_z, w32}
use Rattle.numbers.specs.Residue.{residue}
use Rattle.lists.specs.Entries.{ints}
use Rattle.lists.proofs.Fill.{fill_start, fill-next, fill-whole}
use Rattle.transform.specs.Level.{reduced}
use Rattle.transform.proofs.on_transforms.reduce.Goals as goal
use Rattle.transform.proofs.on_transforms.reduce.Goals.{After-lifted}

-- what the callee says of the entry that it was handed
remainder : (c : After-lifted)
    → c.lifted.result ≡ residue 12289 (ints c.args.s.now c.loop-k.k)
unfolding ints
remainder c = rw (to_z-of_z {w = w32} {z = get_or c.args.s.now c.loop-k.k (pos 0)} (record { sfits = omega arith })) at c.lifted.ensures

pub loop-k-preserved : goal.loop-k-preserved
loop-k-preserved c = fill-next _ c.loop-k.invariant (omega arith) (remainder (goal.at.loop-k-preserved c).After-lifted)

pub returns : goal.returns
unfolding reduced
returns c = fill-whole c.loop-k.invariant c.requires.2 (omega arith)

pub loop-k-init : goal.loop-k-init
loop-k-init c = fill_start _ _
