use Rattle.std.proofs.Common.{◌∙◌, length, subst, rules}
use Rattle.std.proofs.lemmas.List.{take_all}
use Rattle.cqa_value.proofs.Words.{Contains-slice_get}
use Rattle.flat_formula.specs.Looks.{HaveTrue}
use Rattle.flat_formula.proofs.Turning.{are_below, true-next}
use Rattle.flat_formula.proofs.units.pass.Goals as goal

pub step-turn-requires : goal.step-turn-requires
step-turn-requires c = are_below (length c.args.values.now.items) (length c.loop-at.values.items) c.args.formula.now c.loop-at.at c.clause.result.now c.requires c.clause.ensures c.loop-at.invariant.len

pub returns-then-eq-clause-kept : goal.returns-then-eq-clause-kept
returns-then-eq-clause-kept c v s a =
    absurd (c.step-turn.ensures.refuted (search rules) c.loop-at.invariant.goes_on v (s c.clause.result.now (Contains-slice_get c.args.formula.now c.loop-at.at c.clause.result.now c.clause.ensures)) (c.loop-at.invariant.kept v s a))

pub returns-then-eq-clause-refuted : goal.returns-then-eq-clause-refuted
returns-then-eq-clause-refuted c e v s a =
    c.step-turn.ensures.refuted (search rules) c.loop-at.invariant.goes_on v (s c.clause.result.now (Contains-slice_get c.args.formula.now c.loop-at.at c.clause.result.now c.clause.ensures)) (c.loop-at.invariant.kept v s a)

pub loop-at-preserved : goal.loop-at-preserved
loop-at-preserved c = record {
  len = c.step-turn.ensures.len ∙ c.loop-at.invariant.len;
  kept = λ v s a. c.step-turn.ensures.kept v (s c.clause.result.now (Contains-slice_get c.args.formula.now c.loop-at.at c.clause.result.now c.clause.ensures)) (c.loop-at.invariant.kept v s a);
  goes_on = search rules;
  holds = λ e. let h = c.step-turn.ensures.holds e in
      true-next c.loop-at.values.items c.step-turn.new.values.items c.args.formula.now c.loop-at.at c.clause.result.now c.clause.ensures (c.loop-at.invariant.holds h.0) h.1 h.2;
}

pub returns-clause-holds : goal.returns-clause-holds
returns-clause-holds c = λ e.
    subst (HaveTrue c.loop-at.values.items) (take_all c.loop-at.at c.args.formula.now (search rules)) (c.loop-at.invariant.holds e)
