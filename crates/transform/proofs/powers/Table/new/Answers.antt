-- `transform::powers::Table::new` makes a table: the rule of the table, by one test that is computed over its 2,048 entries.
use Rattle.lists.proofs.Kit.{refl}
use Rattle.transform.proofs.{Seven.table-rule}
use Rattle.transform.proofs.powers.Table.new.Goals as goal

pub invariant_of-result : goal.invariant_of-result
invariant_of-result c = record { rule = table-rule _ tt refl }
