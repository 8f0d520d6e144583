-- `bcns_noise::falls_at` meets its contract: the order of the words is the order of the numbers.
use Rattle.lists.proofs.Kit.{◌∙◌, ap₂, arith}
use Rattle.std.proofs.Common.{◌≡◌}
use Rattle.std.specs.Ordering.{partial_le}
use Rattle.bcns_noise.specs.Noise.{entry_of, falls}
use Rattle.bcns_noise.proofs.{Table.falls-behind, Words.three_cmp, Words.tuple-order}
use Rattle.bcns_noise.proofs.falls_at.Goals as goal

pub returns-then-k-gt0 : goal.returns-then-k-gt0
unfolding entry_of
returns-then-k-gt0 c =
    let fits = c.type_inv.table in
    falls-behind c.args.table.now c.args.k (λ e. omega arith)
    (c.le.ensures ∙ ap₂ (partial_le three_cmp) c.entry.ensures c.entry-then-k-gt0.ensures
    ∙ tuple-order _ _ _ _ _ _ (fits _).fits (fits _).fits (fits _).fits (fits _).fits)

pub returns-else-k-gt0 : goal.returns-else-k-gt0
unfolding falls
returns-else-k-gt0 c = let none : c.args.k ≡ 0 = omega arith in rw none
