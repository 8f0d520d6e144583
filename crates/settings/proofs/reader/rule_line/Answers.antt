-- `settings::reader::rule_line` meets its contract.
use Rattle.lists.proofs.Kit.{◌∙◌, sym, ap, arith}
use Rattle.text.proofs.Lines.{told-within}
use Rattle.settings.specs.{Settings.rule_name, Calls.answer_of}
use Rattle.settings.proofs.Steps.{given_up, rule-other, rule-read, rule-bad}
use Rattle.settings.proofs.{Known.rule-small}
use Rattle.settings.proofs.reader.rule_line.Goals as goal

pub overflow_cast-rule : goal.overflow_cast-rule
overflow_cast-rule c = omega (arith, rule-small _ (sym c.is_rule.ensures ∙ c.if-is_rule.true))

pub tail-requires : goal.tail-requires
tail-requires c = told-within rule_name c.args.s.now c.args.at c.field.ensures c.in_ok-rule.ensures.ok_part

pub returns-in_err-rule : goal.returns-in_err-rule
returns-in_err-rule c =
    given_up _ c.from_residual.ensures ∙ rule-other c.args.format c.args.scheme c.args.s.now c.args.at c.field.ensures c.in_err-rule.ensures.value

pub returns-then-is_rule : goal.returns-then-is_rule
returns-then-is_rule c =
    c.tail.ensures
    ∙ ap answer_of
    (rule-read c.args.format c.args.scheme c.args.s.now c.args.at c.field.ensures c.in_ok-rule.ensures.ok_part (sym c.is_rule.ensures ∙ c.if-is_rule.true))

pub returns-else-is_rule : goal.returns-else-is_rule
returns-else-is_rule c =
    ap answer_of
    (rule-bad c.args.format c.args.scheme c.args.s.now c.args.at c.field.ensures c.in_ok-rule.ensures.ok_part (sym c.is_rule.ensures ∙ c.if-is_rule.false))
