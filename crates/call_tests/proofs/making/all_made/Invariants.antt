use Rattle.std.proofs.Common.{◌≤◌, length, take}
use Rattle.std.specs.List.{All}
use Rattle.call_tests.proofs.making.all_made.Given as goal

-- the texts so far are short
abbrev pub invariant-loop-text : goal.invariant-loop-text
invariant-loop-text l = All (λ text. length text.now ≤ 1000) (take l.text-index l.texts)
