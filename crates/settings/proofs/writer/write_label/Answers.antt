-- `settings::writer::write_label` meets its contract.
use Rattle.lists.proofs.Kit.{◌∙◌, sym, eqb-true, eqb-false}
use Rattle.text.proofs.Writing.{left-room, left-next, left-none}
use Rattle.settings.proofs.{Store.label-none, Store.label-left}
use Rattle.settings.proofs.writer.write_label.Goals as goal

pub returns-then-is_empty : goal.returns-then-is_empty
returns-then-is_empty c = label-none c.args.label.now c.args.out.now c.args.at (eqb-true _ 0 (sym c.is_empty.ensures ∙ c.if-is_empty.true))

pub write_text-k-requires : goal.write_text-k-requires
write_text-k-requires c =
    let l = label-left c.args.label.now c.args.out.now c.args.at (eqb-false _ 0 (sym c.is_empty.ensures ∙ c.if-is_empty.false)) c.requires in
    left-room l

pub write_text-end-requires : goal.write_text-end-requires
write_text-end-requires c =
    let l = label-left c.args.label.now c.args.out.now c.args.at (eqb-false _ 0 (sym c.is_empty.ensures ∙ c.if-is_empty.false)) c.requires in
    left-room (left-next l c.write_text-k.ensures)

pub write_text-requires : goal.write_text-requires
write_text-requires c =
    let l = label-left c.args.label.now c.args.out.now c.args.at (eqb-false _ 0 (sym c.is_empty.ensures ∙ c.if-is_empty.false)) c.requires in
    left-room (left-next (left-next l c.write_text-k.ensures) c.write_text-end.ensures)

pub returns : goal.returns
returns c =
    let l = label-left c.args.label.now c.args.out.now c.args.at (eqb-false _ 0 (sym c.is_empty.ensures ∙ c.if-is_empty.false)) c.requires in
    left-none (left-next (left-next (left-next l c.write_text-k.ensures) c.write_text-end.ensures) c.write_text.ensures)
