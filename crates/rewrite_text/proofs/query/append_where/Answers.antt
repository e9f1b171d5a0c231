use Rattle.std.proofs.Common.{◌≡◌, ◌∷◌, ◌++◌, ◌∙◌, Contains, ap, codes, refl, rules, subst, sym}
use Rattle.std.specs.List.{flat_map}
use Rattle.cqa_model.proofs.Classic.{mem-head, mem-tail}
use Rattle.rewrite_text.specs.Texts.{condition_text, where_text}
use Rattle.rewrite_text.proofs.Drafting.{three_parts, writes_as, over_as}
use Rattle.rewrite_text.proofs.query.append_where.Goals as goal

pub append_condition-requires : goal.append_condition-requires
append_condition-requires c =
    let e : c.args.conditions.now ≡ c.in-Some.first.now ∷ c.in-Some.rest.now = search rules in
    c.requires c.in-Some.first.now (subst (λ z. Contains z c.in-Some.first.now) (sym e) (mem-head c.in-Some.first.now c.in-Some.rest.now))

pub append_more_conditions-requires : goal.append_more_conditions-requires
append_more_conditions-requires c =
    let e : c.args.conditions.now ≡ c.in-Some.first.now ∷ c.in-Some.rest.now = search rules in
    λ k m. c.requires k (subst (λ z. Contains z k) (sym e) (mem-tail k c.in-Some.first.now c.in-Some.rest.now m))

pub returns-clause-ok : goal.returns-clause-ok
returns-clause-ok c =
    let e : c.args.conditions.now ≡ c.in-Some.first.now ∷ c.in-Some.rest.now = search rules in
    let old = c.args.draft.now in
    let rest = flat_map (λ condition. codes " and " ++ condition_text c.args.bound.now.db.now c.args.bound.now.query.now condition) c.in-Some.rest.now in
    writes_as rest (where_text c.args.bound.now.db.now c.args.bound.now.query.now c.args.conditions.now) old (record { out = c.append_condition.new.out; start = old.start }) c.append_more_conditions.new.draft c.append_more_conditions.result
    (three_parts old.out.items (codes " where ") (condition_text c.args.bound.now.db.now c.args.bound.now.query.now c.in-Some.first.now) rest c.append.new.out.items c.append_condition.new.out.items (c.append_condition.new.out.items ++ rest) c.in_ok-append.ensures c.in_ok-append_condition.ensures refl
    ∙ ap (λ z. old.out.items ++ where_text c.args.bound.now.db.now c.args.bound.now.query.now z) (sym e)) refl c.append_more_conditions.ensures.ok

pub returns-clause-over : goal.returns-clause-over
returns-clause-over c =
    let e : c.args.conditions.now ≡ c.in-Some.first.now ∷ c.in-Some.rest.now = search rules in
    let old = c.args.draft.now in
    let rest = flat_map (λ condition. codes " and " ++ condition_text c.args.bound.now.db.now c.args.bound.now.query.now condition) c.in-Some.rest.now in
    over_as rest (where_text c.args.bound.now.db.now c.args.bound.now.query.now c.args.conditions.now) old (record { out = c.append_condition.new.out; start = old.start }) c.append_more_conditions.result
    (three_parts old.out.items (codes " where ") (condition_text c.args.bound.now.db.now c.args.bound.now.query.now c.in-Some.first.now) rest c.append.new.out.items c.append_condition.new.out.items (c.append_condition.new.out.items ++ rest) c.in_ok-append.ensures c.in_ok-append_condition.ensures refl
    ∙ ap (λ z. old.out.items ++ where_text c.args.bound.now.db.now c.args.bound.now.query.now z) (sym e)) refl c.append_more_conditions.ensures.over
