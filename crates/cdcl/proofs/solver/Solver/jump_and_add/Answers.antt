use Rattle.std.proofs.Common.{◌∙◌, List, sym, subst, arith}
use Rattle.std.specs.Prelude.{Contains, take}
use Rattle.std.proofs.lemmas.Result.{IfOk-weaker}
use Rattle.cnf_form.specs.declared.formula.Lit.{Lit}
use Rattle.cdcl.specs.Settled.{IsSettledClause}
use Rattle.search_trail.specs.Trail.{held, AllLow}
use Rattle.cdcl.specs.Looks.{IsForced}
use Rattle.cdcl.proofs.Jump.{learn_facts, learnt_last}
use Rattle.cdcl.proofs.solver.Solver.jump_and_add.Goals as goal

pub add_learnt-requires-clause-range : goal.add_learnt-requires-clause-range
add_learnt-requires-clause-range c x i =
    let f = learn_facts c.args.self.now c.leave_level.new.self c.backjump.new.self c.args.learnt.now c.requires.ready.watchful c.requires.learnt c.leave_level.ensures.leave c.backjump.ensures.fewer c.backjump.ensures.kept in
    let r = f.line.range x (subst (λ (xs : List Lit). Contains xs x) (c.in_ok-lits.ensures.items ∙ c.as_slice.ensures.value) i) in
    omega (arith, r, c.leave_level.ensures.same.len, c.backjump.ensures.same.len)

pub add_learnt-requires-clause-low : goal.add_learnt-requires-clause-low
add_learnt-requires-clause-low c =
    let f = learn_facts c.args.self.now c.leave_level.new.self c.backjump.new.self c.args.learnt.now c.requires.ready.watchful c.requires.learnt c.leave_level.ensures.leave c.backjump.ensures.fewer c.backjump.ensures.kept in
    subst AllLow (sym (c.in_ok-lits.ensures.items ∙ c.as_slice.ensures.value)) f.line.low

pub add_learnt-requires-clause-forced : goal.add_learnt-requires-clause-forced
add_learnt-requires-clause-forced c =
    let f = learn_facts c.args.self.now c.leave_level.new.self c.backjump.new.self c.args.learnt.now c.requires.ready.watchful c.requires.learnt c.leave_level.ensures.leave c.backjump.ensures.fewer c.backjump.ensures.kept in
    subst (λ (xs : List Lit). IsForced (held c.backjump.new.self.trail.items) xs c.args.learnt.now.asserted) (sym (c.in_ok-lits.ensures.items ∙ c.as_slice.ensures.value)) f.forced

pub add_learnt-requires-clause-settled : goal.add_learnt-requires-clause-settled
add_learnt-requires-clause-settled c s i =
    let f = learn_facts c.args.self.now c.leave_level.new.self c.backjump.new.self c.args.learnt.now c.requires.ready.watchful c.requires.learnt c.leave_level.ensures.leave c.backjump.ensures.fewer c.backjump.ensures.kept in
    subst (λ (xs : List Lit). IsSettledClause (take s (held c.backjump.new.self.trail.items)) xs) (sym (c.in_ok-lits.ensures.items ∙ c.as_slice.ensures.value)) (f.settled s (c.backjump.ensures.below s i))

pub add_learnt-requires-clause-last : goal.add_learnt-requires-clause-last
add_learnt-requires-clause-last c k e =
    let made = c.args.learnt.now in
    let m = learnt_last c.args.self.now c.leave_level.new.self c.backjump.new.self made c.requires.ready.watchful.sound c.requires.learnt c.leave_level.ensures.leave c.backjump.ensures.fewer c.backjump.ensures.kept k e in
    (m.0, subst (λ (xs : List Lit). Contains xs m.0) (sym (c.in_ok-lits.ensures.items ∙ c.as_slice.ensures.value)) m.1, m.2)

pub returns-clause-line : goal.returns-clause-line
returns-clause-line c =
    let f = learn_facts c.args.self.now c.leave_level.new.self c.backjump.new.self c.args.learnt.now c.requires.ready.watchful c.requires.learnt c.leave_level.ensures.leave c.backjump.ensures.fewer c.backjump.ensures.kept in
    IfOk-weaker c.add_learnt.result _ _ (λ _ _. f.line) c.add_learnt.ensures.ready
