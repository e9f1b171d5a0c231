use Rattle.std.proofs.Common.{◌≡◌, drop}
use Rattle.sql_steps.specs.Steps.{see_all}
use Rattle.sql_steps.proofs.fitting.Fitting.see_all.Given as goal

-- what is left to be seen
abbrev pub invariant-loop-column : goal.invariant-loop-column
invariant-loop-column l = see_all l.vs l.place (drop l.column-index l.columns) l.self ≡ see_all l.vs l.place l.columns l.fn.self
