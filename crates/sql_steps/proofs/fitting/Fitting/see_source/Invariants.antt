use Rattle.std.proofs.Common.{◌≡◌, ◌-◌, length}
use Rattle.std.specs.List.{range_with_len}
use Rattle.sql_steps.specs.Variables.{all_below}
use Rattle.sql_steps.specs.Steps.{see_all}
use Rattle.sql_steps.proofs.fitting.Fitting.see_source.Given as goal

-- what is left to be seen
abbrev pub invariant-loop-column : goal.invariant-loop-column
invariant-loop-column l = see_all l.vs l.place (range_with_len l.column (length l.vs - l.column)) l.self ≡ see_all l.vs l.place (all_below (length l.vs)) l.fn.self
