-- `parts::put_words` meets its contract: whole numbers at once, or one word at a time.
use Rattle.lists.proofs.Kit.{◌≡◌, ◌∙◌, ap, ◌++◌, ℕ, ◌+◌, ◌*◌, ◌/◌, ◌%◌, arith, length, take, drop}
use Rattle.parts.specs.Parts.{words, pairs}
use Rattle.parts.proofs.{Words.put_whole}
use Rattle.parts.proofs.put_words.Goals as goal

pub returns-then-ws-eq0 : goal.returns-then-ws-eq0
returns-then-ws-eq0 c =
    let g = c.args in
    let e : 2 * (g.at / 2) ≡ g.at = omega arith in
    let even : length g.ws.now % 2 ≡ 0 = c.if-ws-eq0.true in
    put_whole (g.at / 2) (length g.ws.now / 2) g.out.now g.ws.now (omega (arith, even)) c.requires.1 c.pair_numbers.ensures
    ∙ ap (λ (k : ℕ). pairs (take k (words g.out.now) ++ (g.ws.now ++ drop (k + length g.ws.now) (words g.out.now)))) e
