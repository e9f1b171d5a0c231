use Rattle.std.proofs.Common.{◌≡◌, drop}
use Rattle.sql_steps.specs.Steps.{are_single}
use Rattle.sql_steps.proofs.children.are_single.Given as goal

-- what is left
abbrev pub invariant-loop-part : goal.invariant-loop-part
invariant-loop-part l = are_single l.seen.items (drop l.part-index l.parts) ≡ are_single l.vs l.parts
