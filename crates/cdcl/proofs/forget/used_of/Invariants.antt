use Rattle.std.proofs.Common.{take}
use Rattle.cdcl.specs.Watching.{IsThinned}
use Rattle.cdcl.proofs.forget.used_of.Given as goal

abbrev pub invariant-loop-index : goal.invariant-loop-index
invariant-loop-index l = IsThinned l.permanent (take l.index-index l.list) l.used.items
