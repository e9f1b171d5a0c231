use Rattle.std.proofs.Common.{take, Contains}
use Rattle.block_choices.specs.declared.row.BlockRow.{BlockRow}
use Rattle.block_choices.specs.Choices.{IsThere}
use Rattle.choice_values.proofs.asked.all_there.Given as goal

abbrev pub invariant-loop-name : goal.invariant-loop-name
invariant-loop-name l = (x : BlockRow) → Contains (take l.name-index l.names) x → IsThere l.sizes x
