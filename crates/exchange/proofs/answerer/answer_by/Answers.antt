-- `exchange::answerer::answer_by` meets its contract: by public numbers that are grown, or lent.
use Rattle.lists.proofs.Kit.{sym, arith}
use Rattle.exchange.proofs.Answering.{answer-sized, answer-passed, answer-newhope, sized-newhope}
use Rattle.exchange.proofs.{Grown.lends}
use Rattle.exchange.proofs.answerer.answer_by.Goals as goal

pub returns-then-a-eq0 : goal.returns-then-a-eq0
returns-then-a-eq0 c =
    let z = answer-sized c.args.scheme _ _ _ c.requires.digest_value (record { below = λ i. omega (arith, c.type_inv.random i) }) in
    answer-newhope z (omega arith) c.answer_grown.ensures

pub returns-else-a-eq0 : goal.returns-else-a-eq0
returns-else-a-eq0 c =
    let z = answer-sized c.args.scheme _ _ _ c.requires.digest_value (record { below = λ i. omega (arith, c.type_inv.random i) }) in
    let L = lends c.args.scheme _ _ c.args.a.now (λ e. omega (arith, z.lent.public-long)) in
    answer-passed z L.none (sym L.from) c.answer_drawn.ensures

pub answer_grown-requires-clause-answer_sized : goal.answer_grown-requires-clause-answer_sized
answer_grown-requires-clause-answer_sized c =
    sized-newhope (answer-sized c.args.scheme _ _ _ c.requires.digest_value (record { below = λ i. omega (arith, c.type_inv.random i) })) (omega arith)

pub answer_drawn-requires-clause-random_len : goal.answer_drawn-requires-clause-random_len
answer_drawn-requires-clause-random_len c =
    let z = answer-sized c.args.scheme _ _ _ c.requires.digest_value (record { below = λ i. omega (arith, c.type_inv.random i) }) in
    (z.lent.random-long, z.lent.table-long)
