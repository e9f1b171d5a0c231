use Rattle.std.proofs.Common.{◌-◌, length}
use Rattle.script_lex.specs.ScriptParts.{Reaches}
use Rattle.script_lex.proofs.modes.region_on.Given as goal

abbrev pub invariant-loop-at : goal.invariant-loop-at
invariant-loop-at l = Reaches l.region l.bytes (record { at = l.at; mode = l.mode })

abbrev pub decreases-loop-at : goal.decreases-loop-at
decreases-loop-at l = length l.bytes - l.at
