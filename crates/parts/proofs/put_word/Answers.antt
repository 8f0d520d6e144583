-- `parts::put_word` meets its contract: the other word of the number stays.
use Rattle.lists.proofs.Kit.{◌≡◌, ◌∙◌, ap, ℕ, ◌+◌, ◌*◌, ◌/◌, arith, set}
use Rattle.parts.specs.Parts.{words}
use Rattle.parts.proofs.{Words.set-lower, Words.set-upper}
use Rattle.parts.proofs.put_word.Goals as goal

pub returns-then-k-eq0 : goal.returns-then-k-eq0
returns-then-k-eq0 c =
    let g = c.args in
    let e : 2 * (g.k / 2) ≡ g.k = omega arith in
    set-lower g.out.now (g.k / 2) g.w (omega arith) ∙ ap (λ (k : ℕ). set (words g.out.now) k g.w) e

pub returns-else-k-eq0 : goal.returns-else-k-eq0
returns-else-k-eq0 c =
    let g = c.args in
    let e : 2 * (g.k / 2) + 1 ≡ g.k = omega arith in
    set-upper g.out.now (g.k / 2) g.w ∙ ap (λ (k : ℕ). set (words g.out.now) k g.w) e
