use Rattle.std.proofs.Common.{◌≡◌, suc, List, length}
use Rattle.std.specs.BTreeMap.{get}
use Rattle.cqa_value.specs.declared.value.Value.{Value}
use Rattle.cqa_value.specs.Values.{value_cmp}
use Rattle.range_ask.specs.Ranges.{meets}
use Rattle.range_ask.specs.Groups.{tests_with}
use Rattle.range_ask.specs.Tallying.{AreTallied, IsTallying}
use Rattle.range_ask.proofs.groups.add_block.Given as goal

-- so much of the block is added
abbrev pub invariant-loop-at : goal.invariant-loop-at
invariant-loop-at l =
    (front : List (List (List Value))) → l.number ≡ suc (length front) → AreTallied l.ask.goal.now l.ask.tests.now l.ask.col front l.initial.groups →
    (v : Value) → IsTallying l.ask.goal.now (meets (tests_with l.ask.tests.now l.ask.col v)) l.sure front l.block l.at (get value_cmp l.groups v)
