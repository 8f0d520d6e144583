-- `settings::writer::write_lines` meets its contract.
use Rattle.text.proofs.Writing.{left-room, left-next, left-none}
use Rattle.settings.specs.Settings.{setup_of}
use Rattle.settings.proofs.{Store.lines_left}
use Rattle.settings.proofs.writer.write_lines.Goals as goal

pub write_line-i-requires : goal.write_line-i-requires
write_line-i-requires c =
    let l = lines_left (setup_of c.args.scheme c.args.rule c.args.label.now) c.args.out.now c.format_of.ensures c.requires in
    left-room l

pub write_line-j-requires : goal.write_line-j-requires
write_line-j-requires c =
    let l = lines_left (setup_of c.args.scheme c.args.rule c.args.label.now) c.args.out.now c.format_of.ensures c.requires in
    left-room (left-next l c.write_line-i.ensures)

pub write_line-k-requires : goal.write_line-k-requires
write_line-k-requires c =
    let l = lines_left (setup_of c.args.scheme c.args.rule c.args.label.now) c.args.out.now c.format_of.ensures c.requires in
    left-room (left-next (left-next l c.write_line-i.ensures) c.write_line-j.ensures)

pub write_label-requires : goal.write_label-requires
write_label-requires c =
    let l = lines_left (setup_of c.args.scheme c.args.rule c.args.label.now) c.args.out.now c.format_of.ensures c.requires in
    left-room (left-next (left-next (left-next l c.write_line-i.ensures) c.write_line-j.ensures) c.write_line-k.ensures)

pub returns : goal.returns
returns c =
    let l = lines_left (setup_of c.args.scheme c.args.rule c.args.label.now) c.args.out.now c.format_of.ensures c.requires in
    left-none
    (left-next
    (left-next (left-next (left-next l c.write_line-i.ensures) c.write_line-j.ensures) c.write_line-k.ensures)
    c.write_label.ensures)
