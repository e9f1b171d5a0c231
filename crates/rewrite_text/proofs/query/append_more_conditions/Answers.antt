use Rattle.std.proofs.Common.{◌+◌, ◌++◌, ◌∙◌, ap, codes, Contains, drop, subst, sym}
use Rattle.std.specs.List.{flat_map}
use Rattle.std.proofs.lemmas.List.Elements.{Contains-get_or}
use Rattle.rewrite_text.specs.Texts.{condition_text}
use Rattle.rewrite_text.proofs.Drafting.{left_more, left_over, refused_on}
use Rattle.rewrite_text.proofs.query.append_more_conditions.Goals as goal

pub append_condition-requires : goal.append_condition-requires
append_condition-requires c =
    c.requires c.condition-item.result (subst (Contains c.args.conditions.now) (sym c.condition-item.is) (Contains-get_or c.args.conditions.now c.loop-condition.condition-index c.condition-item.result c.loop-condition-test.true))

pub loop-condition-preserved : goal.loop-condition-preserved
loop-condition-preserved c = record {
  text = left_more (condition_text c.args.bound.now.db.now c.args.bound.now.query.now) (codes " and ") c.args.conditions.now c.loop-condition.condition-index c.condition-item.result c.loop-condition.draft.out.items c.append_condition.new.out.items
      (c.args.draft.now.out.items ++ flat_map (λ condition. codes " and " ++ condition_text c.args.bound.now.db.now c.args.bound.now.query.now condition) c.args.conditions.now)
      c.loop-condition-test.true c.condition-item.is c.loop-condition.invariant.text (c.in_ok-append_condition.ensures ∙ ap (λ z. z ++ condition_text c.args.bound.now.db.now c.args.bound.now.query.now c.condition-item.result) c.in_ok-append.ensures);
  start = c.loop-condition.invariant.start;
}

pub returns-in_err-check-clause-over : goal.returns-in_err-check-clause-over
returns-in_err-check-clause-over c =
    let text = left_more (condition_text c.args.bound.now.db.now c.args.bound.now.query.now) (codes " and ") c.args.conditions.now c.loop-condition.condition-index c.condition-item.result c.loop-condition.draft.out.items c.append_condition.new.out.items
    (c.args.draft.now.out.items ++ flat_map (λ condition. codes " and " ++ condition_text c.args.bound.now.db.now c.args.bound.now.query.now condition) c.args.conditions.now)
    c.loop-condition-test.true c.condition-item.is c.loop-condition.invariant.text (c.in_ok-append_condition.ensures ∙ ap (λ z. z ++ condition_text c.args.bound.now.db.now c.args.bound.now.query.now c.condition-item.result) c.in_ok-append.ensures) in
    refused_on (left_over c.append_condition.new.out.items (flat_map (λ condition. codes " and " ++ condition_text c.args.bound.now.db.now c.args.bound.now.query.now condition) (drop (c.loop-condition.condition-index + 1) c.args.conditions.now))
    (c.args.draft.now.out.items ++ flat_map (λ condition. codes " and " ++ condition_text c.args.bound.now.db.now c.args.bound.now.query.now condition) c.args.conditions.now) c.loop-condition.draft.start c.args.draft.now.start text c.loop-condition.invariant.start)
    c.from_residual-in_err-check.result c.in_err-check.field-0.0 c.from_residual-in_err-check.ensures.1 c.in_err-check.ensures.over
