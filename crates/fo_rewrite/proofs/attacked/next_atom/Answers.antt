use Rattle.fo_rewrite.proofs.PlanSteps.{next-from}
use Rattle.fo_rewrite.proofs.attacked.next_atom.Goals as goal

pub returns-in-First-clause-next : goal.returns-in-First-clause-next
returns-in-First-clause-next c = next-from c.args.named.now.query.now c.args.named.now.view c.args.left.now c.args.attacked.now c.requires.left c.requires.attacked c.in-Some.first c.in-Some.ensures.1 c.in-Some.ensures.2
