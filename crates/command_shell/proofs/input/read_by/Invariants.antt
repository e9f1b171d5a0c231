use Rattle.std.proofs.Common.{length, ◌-◌, ◌≤◌}
use Rattle.std.specs.Io.KnownBytes.{Consumes}
use Rattle.command_shell.proofs.input.read_by.Given as goal

-- the input is what came
abbrev pub invariant-loop-source : goal.invariant-loop-source
invariant-loop-source g l = record {
  within : length l.input.items ≤ 268_435_457;
  took : Consumes (g.S.Source.left l.fn.source) (g.S.Source.left l.source) l.input.items;
  later : g.S.Source.faults l.fn.source ≤ g.S.Source.faults l.source;
}

abbrev pub decreases-loop-source : goal.decreases-loop-source
decreases-loop-source g l = 268_435_457 - length l.input.items
