-- `text::write_line` meets its contract.
use Rattle.lists.proofs.Kit.{length-set, arith}
use Rattle.text.proofs.{Writing.line-room, Writing.number-room, Writing.Lined, Writing.lined}
use Rattle.text.proofs.write_line.Goals as goal
use Rattle.text.proofs.write_line.Goals.{After-write_number-end}

pub write_text-k-requires : goal.write_text-k-requires
write_text-k-requires c =
    omega (arith, line-room c.args.label.now c.args.n c.args.out.now c.args.at c.requires)

pub write_number-end-requires : goal.write_number-end-requires
write_number-end-requires c =
    number-room c.args.label.now c.args.n c.args.out.now c.args.at c.requires c.write_text-k.ensures

made : (c : After-write_number-end)
    → Lined c.args.label.now c.args.n c.args.out.now c.args.at c.write_number-end.new.out c.write_number-end.result
made c =
    lined c.args.label.now c.args.n c.args.out.now c.args.at c.requires c.write_text-k.ensures c.write_number-end.ensures

pub bounds-out-end : goal.bounds-out-end
bounds-out-end c = (made (goal.at.bounds-out-end c).After-write_number-end).room

pub overflow_add-result : goal.overflow_add-result
overflow_add-result c = let m = made (goal.at.overflow_add-result c).After-write_number-end in omega (arith, m.room, m.long)

pub shape_of-out : goal.shape_of-out
shape_of-out c = simp length-set (made (goal.at.shape_of-out c).After-write_number-end).long

pub returns : goal.returns
returns c = (made (goal.at.returns c).After-write_number-end).done
