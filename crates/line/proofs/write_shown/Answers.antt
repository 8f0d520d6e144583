-- `line::write_shown` meets its contract.
use Rattle.text.proofs.Writing.{left-room, left-next, left-none}
use Rattle.line.proofs.{Showing.shown-left}
use Rattle.line.proofs.write_shown.Goals as goal

pub write_line-i-requires : goal.write_line-i-requires
write_line-i-requires c =
    left-room (shown-left c.args.a.hint c.args.a.key c.args.a.peer c.args.out.now c.requires)

pub write_line-j-requires : goal.write_line-j-requires
write_line-j-requires c =
    left-room (left-next (shown-left c.args.a.hint c.args.a.key c.args.a.peer c.args.out.now c.requires) c.write_line-i.ensures)

pub write_line-requires : goal.write_line-requires
write_line-requires c =
    let i = left-next (shown-left c.args.a.hint c.args.a.key c.args.a.peer c.args.out.now c.requires) c.write_line-i.ensures in
    left-room (left-next i c.write_line-j.ensures)

pub returns : goal.returns
returns c =
    let i = left-next (shown-left c.args.a.hint c.args.a.key c.args.a.peer c.args.out.now c.requires) c.write_line-i.ensures in
    left-none (left-next (left-next i c.write_line-j.ensures) c.write_line.ensures)
