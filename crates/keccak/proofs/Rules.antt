-- The two tables are what the standard's rules give, each by one computed test.
use Rattle.lists.proofs.Kit.{refl}
use Rattle.lists.specs.Entries.{tab}
use Rattle.keccak.specs.Tables.{OffsetsRule, ConstantsRule}

pub offsets-rule : OffsetsRule
unfolding tab
offsets-rule = refl

pub constants-rule : ConstantsRule
unfolding tab
constants-rule = refl
