use Rattle.std.proofs.Common.{Option, ℕ, List, subst}
use Rattle.search_trail.specs.Open.{NextIs}
use Rattle.cdcl.proofs.Values.{open_var_is}
use Rattle.cdcl.proofs.solver.Solver.open_var.Goals as goal

pub returns : goal.returns
returns c =
    open_var_is c.args.self.now c.requires.sound c.first_open.result
    (subst (λ (ps : List (Option ℕ)). NextIs ps c.first_open.result) c.as_slice.ensures.value c.first_open.ensures)
