-- `trace::write_block` meets its contract.
use Rattle.lists.proofs.Kit.{arith}
use Rattle.text.proofs.Writing.{left-room, left-next, left-none}
use Rattle.trace.proofs.{Writing.block_none, Writing.block-left}
use Rattle.trace.proofs.write_block.Goals as goal

pub returns-then-t-eq0 : goal.returns-then-t-eq0
returns-then-t-eq0 c =
    block_none c.args.scheme c.args.t.sum c.args.t.largest c.args.out.now c.args.at c.if-t-eq0.true

pub write_line-i-requires : goal.write_line-i-requires
write_line-i-requires c =
    let a = c.args in
    let b = block-left a.scheme a.t.count a.t.sum a.t.largest a.out.now a.at c.requires (λ z. omega arith) in
    left-room b

pub write_line-j-requires : goal.write_line-j-requires
write_line-j-requires c =
    let a = c.args in
    let b = block-left a.scheme a.t.count a.t.sum a.t.largest a.out.now a.at c.requires (λ z. omega arith) in
    left-room (left-next b c.write_line-i.ensures)

pub write_line-k-requires : goal.write_line-k-requires
write_line-k-requires c =
    let a = c.args in
    let b = block-left a.scheme a.t.count a.t.sum a.t.largest a.out.now a.at c.requires (λ z. omega arith) in
    left-room (left-next (left-next b c.write_line-i.ensures) c.write_line-j.ensures)

pub write_line-requires : goal.write_line-requires
write_line-requires c =
    let a = c.args in
    let b = block-left a.scheme a.t.count a.t.sum a.t.largest a.out.now a.at c.requires (λ z. omega arith) in
    left-room (left-next (left-next (left-next b c.write_line-i.ensures) c.write_line-j.ensures) c.write_line-k.ensures)

pub returns : goal.returns
returns c =
    let a = c.args in
    let b = block-left a.scheme a.t.count a.t.sum a.t.largest a.out.now a.at c.requires (λ z. omega arith) in
    let m = left-next (left-next b c.write_line-i.ensures) c.write_line-j.ensures in
    left-none (left-next (left-next m c.write_line-k.ensures) c.write_line.ensures)
