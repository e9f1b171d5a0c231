use Rattle.std.proofs.Common.{arith}
use Rattle.cqa_model.specs.Graph.{Attacks}
use Rattle.key_closure.specs.Members.{seen}
use Rattle.fo_rewrite.proofs.PlanSteps.{attacked-more}
use Rattle.fo_rewrite.proofs.attacked.attacked_atoms.Goals as goal

pub loop-atom-preserved : goal.loop-atom-preserved
loop-atom-preserved c = attacked-more (Attacks c.args.named.now.query.now (seen c.args.named.now.query.now c.args.named.now.view)) c.loop-atom.attacked c.attack_row-row.result c.union-attacked.result c.loop-atom.atom
    c.loop-atom.invariant c.attack_row-row.ensures c.union-attacked.ensures

pub returns : goal.returns
returns c = λ G. ((λ m. let w = (c.loop-atom.invariant G).0 m in (w.0, w.2)), (λ a. (c.loop-atom.invariant G).1 (a.0, omega (arith, a.1.0.0), a.1)))
