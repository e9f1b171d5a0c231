use Rattle.std.proofs.Common.{take}
use Rattle.cnf_form.specs.Literals.{OthersDenied}
use Rattle.search_trail.specs.Trail.{held}
use Rattle.cdcl.proofs.look.free_lit.Given as goal

abbrev pub invariant-loop-lit : goal.invariant-loop-lit
invariant-loop-lit l = OthersDenied (held l.trail) (take l.lit-index l.clause) l.other
