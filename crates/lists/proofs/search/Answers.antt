-- `lists::search` meets its contract.
use Rattle.lists.proofs.Kit.{◌∙◌, ap, leb, le-leb, lt-leb}
use Rattle.std.proofs.lemmas.List.{get_or_default}
use Rattle.lists.proofs.{First.passed_none, First.passed-more, First.found, First.missing, First.reached_end}
use Rattle.lists.proofs.search.Goals as goal

pub loop-i-init : goal.loop-i-init
loop-i-init g c = passed_none _ _ _

pub returns-then-q-size : goal.returns-then-q-size
returns-then-q-size g c =
    let t = g.T.Size in
    let x = c.size.ensures ∙ ap t.size_of (c.index-xs-i.is ∙ get_or_default c.args.xs.now c.loop-i.i c.index-xs-i.result t.zero c.loop-i-test.true) in
    found (λ x. leb c.args.q (t.size_of x)) _ t.zero c.loop-i.i c.loop-i.invariant c.loop-i-test.true (le-leb _ _ (rw x at c.if-q-size.true))

pub loop-i-preserved : goal.loop-i-preserved
loop-i-preserved g c =
    let t = g.T.Size in
    let x = c.size.ensures ∙ ap t.size_of (c.index-xs-i.is ∙ get_or_default c.args.xs.now c.loop-i.i c.index-xs-i.result t.zero c.loop-i-test.true) in
    passed-more (λ x. leb c.args.q (t.size_of x)) _ t.zero c.loop-i.i c.loop-i.invariant c.loop-i-test.true (lt-leb _ _ (rw x at c.if-q-size.false))

pub returns : goal.returns
returns g c =
    let t = g.T.Size in
    reached_end c.loop-i.auto.i-end c.loop-i-test.false ∙ missing (λ x. leb c.args.q (t.size_of x)) _ t.zero c.loop-i.i c.loop-i.invariant c.loop-i-test.false
