use Rattle.std.proofs.Common.{◌≡◌, false, get_or, take, subst, Option, None, rules}
use Rattle.cnf_form.specs.declared.formula.Lit.{Lit}
use Rattle.lrat_check.specs.Marks.{IsOneLeft}
use Rattle.lrat_check.proofs.MarkLemmas.{found_false, found_first, found_same, found_two, found_end}
use Rattle.lrat_check.proofs.marks.Marks.look.Goals as goal

pub loop-lit-preserved-then-is_false : goal.loop-lit-preserved-then-is_false
loop-lit-preserved-then-is_false c = found_false _ _ _ _ _ c.loop-lit-test.true c.loop-lit.invariant (c.is_false.ensures.yes c.if-is_false.true)

pub loop-lit-preserved-in-None : goal.loop-lit-preserved-in-None
loop-lit-preserved-in-None c = found_first _ _ _ _ c.loop-lit-test.true
    (subst (λ (o : Option Lit). IsOneLeft c.args.self.now (take c.loop-lit.lit-index c.args.clause.now) o) c.in-None.is c.loop-lit.invariant)
    (c.is_false.ensures.no c.if-is_false.false)

pub returns-then-ne : goal.returns-then-ne
returns-then-ne c = found_two _ _ _ _ _ c.loop-lit-test.true
    (subst (λ (o : Option Lit). IsOneLeft c.args.self.now (take c.loop-lit.lit-index c.args.clause.now) o) c.in-Some.is c.loop-lit.invariant)
    (search rules)
    (c.is_false.ensures.no c.if-is_false.false)

pub loop-lit-preserved : goal.loop-lit-preserved
loop-lit-preserved c =
    let same : c.in-Some.other ≡ get_or c.args.clause.now c.loop-lit.lit-index (record { var = 0; positive = false }) = search rules in
    found_same _ _ _ _ _ c.loop-lit-test.true
    (subst (λ (o : Option Lit). IsOneLeft c.args.self.now (take c.loop-lit.lit-index c.args.clause.now) o) c.in-Some.is c.loop-lit.invariant)
    same

pub returns-in-None-found : goal.returns-in-None-found
returns-in-None-found c = found_end _ _ c.loop-lit.lit-index None c.loop-lit-test.false
    (subst (λ (o : Option Lit). IsOneLeft c.args.self.now (take c.loop-lit.lit-index c.args.clause.now) o) c.in-None-found.is c.loop-lit.invariant)
