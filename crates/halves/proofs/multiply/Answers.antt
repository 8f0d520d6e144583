-- `halves::multiply` meets its contract.
use Rattle.lists.proofs.Kit.{◌*◌, arith, length}
use Rattle.polynomial.proofs.Stores.{copied-front, copied-back}
use Rattle.halves.proofs.{Multiplied.plain-law}
use Rattle.halves.proofs.multiply.Goals as goal

pub returns : goal.returns
returns c =
    let n = length c.args.out.now in
    let r = c.requires in
    let pa = copied-front n c.args.scratch.now _ c.args.a.now r.a-long (omega (arith, r.works)) c.copy_from_slice.ensures.after in
    plain-law n _ _ _ _ _ _ r.a-long r.b-long pa (copied-back n (2 * n) _ _ c.args.b.now (omega (arith, r.b-long)) (omega (arith, r.works, pa.long)) c.copy_from_slice-2.ensures.after) c.halves.ensures c.fold_into.ensures
