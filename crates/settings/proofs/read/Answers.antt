-- `settings::read` meets its contract.
use Rattle.lists.proofs.Kit.{◌∙◌, ap, arith}
use Rattle.std.proofs.lemmas.Bool.Decides.{nat_tests}
use Rattle.text.proofs.Lines.{told-within}
use Rattle.settings.specs.{Settings.format_name, Calls.answer_of}
use Rattle.settings.proofs.Steps.{given_up, format-other, format-newer, format_read}
use Rattle.settings.proofs.read.Goals as goal

pub returns-in_err-format : goal.returns-in_err-format
returns-in_err-format c =
    given_up _ c.from_residual.ensures ∙ format-other c.args.reader c.args.text.now c.field.ensures c.in_err-format.ensures.value

pub returns-then-reader-format : goal.returns-then-reader-format
returns-then-reader-format c =
    ap answer_of (format-newer c.args.reader c.args.text.now c.field.ensures c.in_ok-format.ensures.ok_part (grind (arith, nat_tests)))

pub scheme_line-requires : goal.scheme_line-requires
scheme_line-requires c = told-within format_name c.args.text.now 0 c.field.ensures c.in_ok-format.ensures.ok_part

pub returns : goal.returns
returns c =
    c.scheme_line.ensures
    ∙ ap answer_of (format_read c.args.reader c.args.text.now c.field.ensures c.in_ok-format.ensures.ok_part (grind (arith, nat_tests)))
