use Rattle.std.proofs.Common.{sym, subst, true≢false, refl}
use Rattle.weak_pairs.specs.Peeling.{IsOutcome}
use Rattle.pair_refutation.proofs.Assembling.{chosen-not, blocked-none}
use Rattle.pair_refutation.proofs.decide.is_blocked.Goals as goal

pub returns-in-Chosen : goal.returns-in-Chosen
returns-in-Chosen c = (
  λ e. absurd (true≢false (sym e)),
  λ un. absurd (chosen-not c.args.cnf.now c.args.graph.now c.requires c.in-Chosen.field-0.items (subst (IsOutcome c.args.graph.now.start.items c.args.graph.now.edge.items) c.in-Chosen.is c.in_ok-outcome.ensures) un),
)

pub returns : goal.returns
returns c = (
  λ e v sat. blocked-none c.args.cnf.now c.args.graph.now c.requires v sat c.in-Blocked.field-0.items c.in-Blocked.field-1 (subst (IsOutcome c.args.graph.now.start.items c.args.graph.now.edge.items) c.in-Blocked.is c.in_ok-outcome.ensures),
  λ un. refl,
)
