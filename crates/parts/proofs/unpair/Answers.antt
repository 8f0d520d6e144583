-- `parts::unpair` meets its contract: it fills with the words, two at a time.
use Rattle.lists.proofs.Kit.{◌≡◌, ◌∙◌, sym, ◌+◌, ◌*◌, arith}
use Rattle.lists.proofs.{Entries.tab-getD, Fill.fill_start, Fill.fill-next, Fill.fill-whole}
use Rattle.parts.specs.Parts.{words}
use Rattle.parts.proofs.{Words.words_long, Words.words-even, Words.words-odd}
use Rattle.parts.proofs.unpair.Goals as goal

pub loop-i-preserved : goal.loop-i-preserved
loop-i-preserved c =
    let l = c.loop-i in
    let a = c.args in
    let e : 2 * l.i + 1 + 1 ≡ 2 * (l.i + 1) = omega arith in
    let one = fill-next _ l.invariant (omega arith) (sym (words-even a.xs.now l.i)) in
    let two = fill-next _ one (omega arith) (sym (words-odd a.xs.now l.i)) in
    rw e at two

pub returns : goal.returns
returns c =
    let n = words_long c.args.xs.now in
    fill-whole c.loop-i.invariant (c.requires ∙ sym n) (omega (arith, n)) ∙ tab-getD (words c.args.xs.now) 0

pub loop-i-init : goal.loop-i-init
loop-i-init c = fill_start _ _
