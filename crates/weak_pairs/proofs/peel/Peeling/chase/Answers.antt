use Rattle.std.proofs.Common.{arith, subst, true≢false, sym, ◌∙◌}
use Rattle.weak_pairs.specs.States.{IsStep}
use Rattle.weak_pairs.proofs.Peeling.{chased-go, chased-done, chased-end}
use Rattle.weak_pairs.proofs.peel.Peeling.chase.Goals as goal

pub chase-init : goal.chase-init
chase-init c = record { peeling = c.requires.peeling; block = c.requires.block; settled = λ u l n. c.requires.before u (omega arith) }

pub chase-preserved : goal.chase-preserved
chase-preserved c =
    chased-go c.args.graph.now c.chase.self c.args.first c.chase.at c.chase.invariant c.force.new.self c.in_ok-force.ensures.peeling c.in-Go.next
    (subst (IsStep c.args.graph.now c.chase.self c.force.new.self c.chase.at) c.in-Go.is c.in_ok-force.ensures.step)

pub returns-in-Done-clause-found : goal.returns-in-Done-clause-found
returns-in-Done-clause-found c =
    chased-done c.args.graph.now c.chase.self c.args.first c.chase.at c.chase.invariant c.force.new.self
    (subst (IsStep c.args.graph.now c.chase.self c.force.new.self c.chase.at) c.in-Done.is c.in_ok-force.ensures.step)

pub returns-clause-found : goal.returns-clause-found
returns-clause-found c =
    chased-end c.args.graph.now c.chase.self c.args.first c.chase.at c.chase.invariant
    (λ o. true≢false (sym (c.is_open.ensures.1 o) ∙ c.chase-test.false))
