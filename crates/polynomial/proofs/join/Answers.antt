-- `polynomial::join` meets its contract.
use Rattle.lists.proofs.Kit.{◌^◌, arith, lit≤, w64}
use Rattle.polynomial.proofs.{Level.added-small, Level.joined, Level.may-add, Stores.sum-stored}
use Rattle.polynomial.proofs.join.Goals as goal

pub add-requires-clause-by_index : goal.add-requires-clause-by_index
add-requires-clause-by_index c = λ z k p. may-add w64 (2 ^ 60) c.args.o.now _ _ z (omega arith) (omega arith) (c.requires.1 _ (omega arith)) (c.requires.1 _ (omega arith)) (lit≤ tt)

pub add-requires-2-clause-by_index : goal.add-requires-2-clause-by_index
add-requires-2-clause-by_index c =
    let s = added-small (sum-stored c.add.ensures) c.requires.1 in
    λ z k p. may-add w64 (2 ^ 61) c.add.new.w _ _ z (omega (arith, c.add.ensures.long)) (omega (arith, c.add.ensures.long)) (s _ (omega arith)) (s _ (omega arith)) (lit≤ tt)

pub returns : goal.returns
returns c = joined (sum-stored c.add.ensures) (sum-stored c.add-2.ensures)
