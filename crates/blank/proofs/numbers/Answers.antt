-- `blank::numbers` meets its contract.
use Rattle.lists.proofs.Kit.{◌∙◌, rules, eqb, ℕ}
use Rattle.std.proofs.Common.{tests}
use Rattle.std.proofs.lemmas.Iterator.{YieldsList-from_slice}
use Rattle.std.proofs.lemmas.Iterator.Search.{all_from_yields_List}
use Rattle.blank.proofs.Search.{all-zeros}
use Rattle.blank.proofs.numbers.Goals as goal

pub returns : goal.returns
returns c =
    let xs = c.args.xs.now in
    all_from_yields_List (λ (x : ℕ). eqb x 0) _ _ c.all.result c.all.ensures.ran (YieldsList-from_slice xs cc) (λ x b q k. search (rules, tests)) ∙ all-zeros xs
