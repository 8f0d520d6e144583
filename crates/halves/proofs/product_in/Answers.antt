-- `halves::product_in` meets its contract.
use Rattle.lists.proofs.Kit.{sym, length}
use Rattle.lists.proofs.Parts.{front_long}
use Rattle.refusals.proofs.{Ends.given_up}
use Rattle.halves.specs.Halves.{factors}
use Rattle.halves.proofs.{Multiplied.fitting, Multiplied.product-refused, Multiplied.product-done}
use Rattle.halves.proofs.product_in.Goals as goal

pub slice_bounds-multiply-end : goal.slice_bounds-multiply-end
slice_bounds-multiply-end c =
    (fitting (factors c.args.a.now c.args.b.now) _ _ c.product_tests.ensures c.in_ok-product_tests.was).0

pub slice_bounds-multiply-end-2 : goal.slice_bounds-multiply-end-2
slice_bounds-multiply-end-2 c =
    sym (front_long (length c.args.a.now) c.args.out.now (fitting (factors c.args.a.now c.args.b.now) _ _ c.product_tests.ensures c.in_ok-product_tests.was).0)

pub multiply-requires : goal.multiply-requires
multiply-requires c =
    let n = front_long (length c.args.a.now) c.args.out.now (fitting (factors c.args.a.now c.args.b.now) _ _ c.product_tests.ensures c.in_ok-product_tests.was).0 in
    rw n (fitting (factors c.args.a.now c.args.b.now) _ _ c.product_tests.ensures c.in_ok-product_tests.was).1

pub returns-in_err-product_tests : goal.returns-in_err-product_tests
returns-in_err-product_tests c =
    rw (given_up _ c.from_residual.ensures) (product-refused (factors c.args.a.now c.args.b.now) _ _ c.product_tests.ensures c.in_err-product_tests.was c.requires)

pub returns : goal.returns
returns c =
    product-done (factors c.args.a.now c.args.b.now) _ _ c.product_tests.ensures c.args.out.now c.in_ok-product_tests.was c.requires c.multiply.ensures
