use Rattle.std.proofs.Common.{◌∙◌, ◌++◌, ap, append_assoc, codes, subst, Contains, List}
use Rattle.cqa_model.specs.declared.query.Cond.{Cond}
use Rattle.cqa_value.specs.Literals.{row_bytes}
use Rattle.rewrite_text.specs.Texts.{asked_text, from_text, where_text, certificate_prove}
use Rattle.rewrite_text.specs.Drafts.{Overruns, Writes}
use Rattle.rewrite_text.proofs.Drafting.{ended_as, ended_over, over_more_so, two_parts_over, refused_on}
use Rattle.rewrite_text.proofs.statements.add_prove.Goals as goal

pub append_where-requires : goal.append_where-requires
append_where-requires c = λ k m n l. c.args.bound.now.query.now.kept.conds_in_range k (subst (λ (z : List Cond). Contains z k) c.as_slice.ensures m) n l

pub returns-clause-ok : goal.returns-clause-ok
returns-clause-ok c =
    let old = c.args.draft.now in
    let w = subst (λ (z : List Cond). Writes (where_text c.args.bound.now.db.now c.args.bound.now.query.now z) (record { out = c.append_claim.new.out; start = old.start }) c.append_where.new.draft) c.as_slice.ensures c.in_ok-append_where.ensures.ok in
    let text = w.text ∙ ap (λ z. z ++ where_text c.args.bound.now.db.now c.args.bound.now.query.now c.args.bound.now.query.now.conds) c.in_ok-append_claim.ensures ∙ append_assoc old.out.items (codes "prove row " ++ row_bytes c.args.row.now ++ codes " for " ++ asked_text c.args.bound.now.db.now c.args.bound.now.query.now c.args.bound.now.query.now.answer ++ from_text c.args.bound.now.db.now c.args.bound.now.query.now.atoms) (where_text c.args.bound.now.db.now c.args.bound.now.query.now c.args.bound.now.query.now.conds) in
    ended_as (certificate_prove c.args.bound.now.db.now c.args.bound.now.query.now c.args.row.now) old c.append_where.new.draft c.end.new.self c.end.result c.requires text w.start c.end.ensures.text c.end.ensures.between c.end.ensures.short c.end.ensures.whole

pub returns-clause-over : goal.returns-clause-over
returns-clause-over c =
    let old = c.args.draft.now in
    let w = subst (λ (z : List Cond). Writes (where_text c.args.bound.now.db.now c.args.bound.now.query.now z) (record { out = c.append_claim.new.out; start = old.start }) c.append_where.new.draft) c.as_slice.ensures c.in_ok-append_where.ensures.ok in
    let text = w.text ∙ ap (λ z. z ++ where_text c.args.bound.now.db.now c.args.bound.now.query.now c.args.bound.now.query.now.conds) c.in_ok-append_claim.ensures ∙ append_assoc old.out.items (codes "prove row " ++ row_bytes c.args.row.now ++ codes " for " ++ asked_text c.args.bound.now.db.now c.args.bound.now.query.now c.args.bound.now.query.now.answer ++ from_text c.args.bound.now.db.now c.args.bound.now.query.now.atoms) (where_text c.args.bound.now.db.now c.args.bound.now.query.now c.args.bound.now.query.now.conds) in
    over_more_so (ended_over (certificate_prove c.args.bound.now.db.now c.args.bound.now.query.now c.args.row.now) old c.append_where.new.draft c.requires text w.start) c.end.result c.end.ensures.over

pub returns-in_err-append_where-clause-over : goal.returns-in_err-append_where-clause-over
returns-in_err-append_where-clause-over c =
    let old = c.args.draft.now in
    let claim = codes "prove row " ++ row_bytes c.args.row.now ++ codes " for " ++ asked_text c.args.bound.now.db.now c.args.bound.now.query.now c.args.bound.now.query.now.answer ++ from_text c.args.bound.now.db.now c.args.bound.now.query.now.atoms in
    refused_on (λ h. two_parts_over claim (where_text c.args.bound.now.db.now c.args.bound.now.query.now c.args.bound.now.query.now.conds) old c.append_claim.new.out.items c.requires c.in_ok-append_claim.ensures (subst (λ (z : List Cond). Overruns (c.append_claim.new.out.items ++ where_text c.args.bound.now.db.now c.args.bound.now.query.now z) old.start) c.as_slice.ensures h))
    c.from_residual-in_err-append_where.result c.in_err-append_where.field-0.0 c.from_residual-in_err-append_where.ensures.1 c.in_err-append_where.ensures.over
