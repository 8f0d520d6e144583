-- `settings::read_lent` meets its contract: the label is zeroed first, and written where there is room for the one that was read.
use Rattle.lists.proofs.Kit.{◌∙◌, sym, arith}
use Rattle.lists.proofs.Parts.{front_long}
use Rattle.settings.specs.Calls.{read_of}
use Rattle.settings.proofs.{Lending.label-fits, Lending.read-failed, Lending.read_short, Lending.read-laid, Steps.given_up}
use Rattle.settings.proofs.read_lent.Goals as goal

pub returns-in_err-found : goal.returns-in_err-found
returns-in_err-found c =
    rw (given_up _ c.from_residual.ensures)
    (read-failed (read_of c.args.reader c.args.text.now) _ (c.fill.ensures.after (λ y e. e)) c.in_err-found.ensures)

pub returns-then-label-n : goal.returns-then-label-n
returns-then-label-n c =
    read_short (read_of c.args.reader c.args.text.now) _ (c.fill.ensures.after (λ y e. e)) c.in_ok-found.ensures (omega arith)

pub slice_bounds-bytes-end : goal.slice_bounds-bytes-end
slice_bounds-bytes-end c = label-fits c.args.reader c.args.text.now c.in_ok-found.ensures

pub copy_from_slice-requires : goal.copy_from_slice-requires
copy_from_slice-requires c =
    front_long _ _ (omega arith) ∙ sym (front_long _ _ (label-fits c.args.reader c.args.text.now c.in_ok-found.ensures))

pub returns : goal.returns
returns c =
    read-laid (read_of c.args.reader c.args.text.now) _ (c.fill.ensures.after (λ y e. e)) c.in_ok-found.ensures (omega arith)
    c.copy_from_slice.ensures.after c.format_of.ensures
