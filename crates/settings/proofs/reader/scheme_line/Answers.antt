-- `settings::reader::scheme_line` meets its contract.
use Rattle.lists.proofs.Kit.{◌∙◌, sym, ap, arith}
use Rattle.text.specs.Text.{scheme_name}
use Rattle.text.proofs.Lines.{told-within}
use Rattle.settings.specs.Calls.{answer_of}
use Rattle.settings.proofs.Steps.{given_up, scheme-other, scheme-read, scheme-bad}
use Rattle.settings.proofs.{Known.scheme-small}
use Rattle.settings.proofs.reader.scheme_line.Goals as goal

pub overflow_cast-scheme : goal.overflow_cast-scheme
overflow_cast-scheme c = omega (arith, scheme-small _ (sym c.is_scheme.ensures ∙ c.if-is_scheme.true))

pub rule_line-requires : goal.rule_line-requires
rule_line-requires c = told-within scheme_name c.args.s.now c.args.at c.field.ensures c.in_ok-scheme.ensures.ok_part

pub returns-in_err-scheme : goal.returns-in_err-scheme
returns-in_err-scheme c =
    given_up _ c.from_residual.ensures ∙ scheme-other c.args.format c.args.s.now c.args.at c.field.ensures c.in_err-scheme.ensures.value

pub returns-then-is_scheme : goal.returns-then-is_scheme
returns-then-is_scheme c =
    c.rule_line.ensures
    ∙ ap answer_of (scheme-read c.args.format c.args.s.now c.args.at c.field.ensures c.in_ok-scheme.ensures.ok_part (sym c.is_scheme.ensures ∙ c.if-is_scheme.true))

pub returns-else-is_scheme : goal.returns-else-is_scheme
returns-else-is_scheme c =
    ap answer_of (scheme-bad c.args.format c.args.s.now c.args.at c.field.ensures c.in_ok-scheme.ensures.ok_part (sym c.is_scheme.ensures ∙ c.if-is_scheme.false))
