use Rattle.std.proofs.Common.{◌≡◌, ◌++◌, take}
use Rattle.sql_steps.specs.Steps.{on_of}
use Rattle.sql_steps.proofs.selects.append_on.Given as goal

-- those so far
abbrev pub invariant-loop-child : goal.invariant-loop-child
invariant-loop-child l = l.all ≡ l.fn.all ++ on_of (take l.child-index l.children)
