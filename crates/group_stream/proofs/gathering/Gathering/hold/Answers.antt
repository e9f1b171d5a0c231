use Rattle.std.proofs.Common.{sym, subst}
use Rattle.group_stream.specs.Steps.{IsHeld}
use Rattle.group_stream.proofs.Between.{held_more}
use Rattle.group_stream.proofs.gathering.Gathering.hold.Goals as goal

pub invariant_of-self : goal.invariant_of-self
invariant_of-self c = subst IsHeld (sym c.in-Ok.ensures) (held_more c.self.inside.held.items c.args.bytes.now c.self.invariant c.requires)
