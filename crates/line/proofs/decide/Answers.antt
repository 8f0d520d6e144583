-- `line::decide` meets its contract.
use Rattle.lists.proofs.Kit.{◌∙◌}
use Rattle.std.proofs.lemmas.Result.{err_from_is_err_and}
use Rattle.line.proofs.Deciding.{other_text, some-behind, nothing-behind}
use Rattle.line.proofs.decide.Goals as goal

pub returns-in_err-q : goal.returns-in_err-q
returns-in_err-q c =
    let p = err_from_is_err_and c.from_residual.result c.from_residual.ensures.1 in
    rw (p.1, p.2) (other_text c.args.s.now c.four_lines.result c.four_lines.ensures c.in_err-q.ensures.value)

pub returns-then-q-s : goal.returns-then-q-s
returns-then-q-s c = some-behind c.args.s.now c.in_ok-q.ensures.ok_part c.four_lines.ensures c.if-q-s.true

pub returns : goal.returns
returns c = c.settle.ensures ∙ nothing-behind c.args.s.now c.in_ok-q.ensures.ok_part c.four_lines.ensures c.if-q-s.false
