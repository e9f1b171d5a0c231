use Rattle.std.proofs.Common.{take}
use Rattle.search_trail.specs.Trail.{held, EndIs}
use Rattle.search_trail.proofs.implications.Implications.end_of.Given as goal

abbrev pub invariant-loop-lit : goal.invariant-loop-lit
invariant-loop-lit l = EndIs (held l.self.trail.now) (take l.lit-index l.lits) l.end
