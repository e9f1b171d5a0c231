use Rattle.std.proofs.Common.{List, subst}
use Rattle.search_trail.specs.declared.trail.Entry.{Entry}
use Rattle.search_trail.specs.Trail.{held, ValueIs}
use Rattle.cdcl.proofs.solver.Solver.value_of.Goals as goal

pub returns : goal.returns
returns c = subst (λ (es : List Entry). ValueIs (held es) c.args.var c.value_at.result) c.as_slice.ensures.value c.value_at.ensures
