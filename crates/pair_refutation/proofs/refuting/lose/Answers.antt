use Rattle.std.proofs.Common.{◌++◌, ◌∷◌, [], ◌∙◌, ap, arith}
use Rattle.pair_refutation.specs.Graph.{negative}
use Rattle.pair_refutation.proofs.Losing.{lose-step}
use Rattle.pair_refutation.proofs.refuting.lose.Goals as goal

pub returns-clause-so_far : goal.returns-clause-so_far
returns-clause-so_far c =
    let x = c.args.x in
    (lose-step c.args.cnf.now c.args.graph.now c.requires.chained.read c.args.steps.now.items c.args.lost.now c.requires.so_far c.in_ok-id.id c.in_ok-id.ensures.id c.add.new.steps.items c.push.new.self c.in_ok-hints.hints.items c.in_ok-id.ensures.steps
    x c.args.last c.requires.met c.in_ok-hints.ensures (c.in_ok-push.ensures.ok ∙ ap (λ z. z ++ negative x ∷ []) c.new-lits.ensures) (let t = c.requires.there in let s = c.requires.so_far.size in omega (arith, t, s))).0

pub returns-clause-keeps : goal.returns-clause-keeps
returns-clause-keeps c =
    let x = c.args.x in
    (lose-step c.args.cnf.now c.args.graph.now c.requires.chained.read c.args.steps.now.items c.args.lost.now c.requires.so_far c.in_ok-id.id c.in_ok-id.ensures.id c.add.new.steps.items c.push.new.self c.in_ok-hints.hints.items c.in_ok-id.ensures.steps
    x c.args.last c.requires.met c.in_ok-hints.ensures (c.in_ok-push.ensures.ok ∙ ap (λ z. z ++ negative x ∷ []) c.new-lits.ensures) (let t = c.requires.there in let s = c.requires.so_far.size in omega (arith, t, s))).1
