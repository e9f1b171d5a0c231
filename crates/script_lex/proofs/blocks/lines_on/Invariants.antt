use Rattle.std.proofs.Common.{◌-◌, length}
use Rattle.script_lex.specs.ScriptParts.{LinesSoFar}
use Rattle.script_lex.proofs.blocks.lines_on.Given as goal

abbrev pub invariant-loop-seen : goal.invariant-loop-seen
invariant-loop-seen l = LinesSoFar l.bytes l.line l.seen

abbrev pub decreases-loop-seen : goal.decreases-loop-seen
decreases-loop-seen l = length l.bytes - l.seen
