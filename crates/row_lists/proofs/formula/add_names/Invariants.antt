use Rattle.std.proofs.Common.{◌≡◌, ◌++◌, map}
use Rattle.std.specs.List.{range_with_len}
use Rattle.row_lists.specs.Lists.{name}
use Rattle.row_lists.proofs.formula.add_names.Given as goal

-- the names so far
abbrev pub invariant-loop-at : goal.invariant-loop-at
invariant-loop-at l = l.rows.items ≡ l.fn.rows.items ++ map (name l.table) (range_with_len l.span.start l.at)
