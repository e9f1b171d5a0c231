use Rattle.std.proofs.Common.{◌≡◌, ◌++◌, take}
use Rattle.plan_rows.proofs.memo.add_row.Given as goal

-- the values so far were added
abbrev pub invariant-loop-value : goal.invariant-loop-value
invariant-loop-value l = l.key ≡ l.initial.key ++ take l.value-index l.value-items
