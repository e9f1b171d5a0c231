use Rattle.std.proofs.Common.{length, subst, List}
use Rattle.std.proofs.lemmas.Result.{on_ok_weaker}
use Rattle.cqa_model.specs.declared.query.Atom.{Atom}
use Rattle.rewrite_text.specs.Texts.{certificate_creates}
use Rattle.rewrite_text.specs.Drafts.{AddsStatements, IsTooLongBehind}
use Rattle.rewrite_text.proofs.Drafting.{over_more_so, refused_on}
use Rattle.rewrite_text.proofs.Printing.{tables_there, head_added, creates_over, prove_over, order_over}
use Rattle.rewrite_text.proofs.printed.add_head.Goals as goal

pub add_creates-requires-clause-there : goal.add_creates-requires-clause-there
add_creates-requires-clause-there c = tables_there c.args.bound.now.query.now c.args.bound.now.db.now c.args.bound.now.fits c.as_slice.result.now c.as_slice.ensures

pub returns-clause-ok : goal.returns-clause-ok
returns-clause-ok c =
    let made = subst (λ (z : List Atom). AddsStatements (certificate_creates c.args.bound.now.db.now z) c.args.draft.now c.add_creates.new.draft) c.as_slice.ensures c.in_ok-add_creates.ensures.ok in
    on_ok_weaker c.add_order.result (λ added. head_added c.args.bound.now.db.now c.args.bound.now.query.now c.args.row.now c.args.plan.now c.args.draft.now c.add_creates.new.draft c.add_prove.new.draft c.add_order.new.draft made c.in_ok-add_prove.ensures.ok added) c.add_order.ensures.ok

pub returns-clause-over : goal.returns-clause-over
returns-clause-over c =
    let made = subst (λ (z : List Atom). AddsStatements (certificate_creates c.args.bound.now.db.now z) c.args.draft.now c.add_creates.new.draft) c.as_slice.ensures c.in_ok-add_creates.ensures.ok in
    over_more_so (order_over c.args.bound.now.db.now c.args.bound.now.query.now c.args.row.now c.args.plan.now c.args.draft.now c.add_creates.new.draft c.add_prove.new.draft made c.in_ok-add_prove.ensures.ok) c.add_order.result c.add_order.ensures.over

pub returns-in_err-add_creates-clause-over : goal.returns-in_err-add_creates-clause-over
returns-in_err-add_creates-clause-over c =
    let before = length c.args.draft.now.out.items in
    refused_on (λ h. creates_over c.args.bound.now.db.now c.args.bound.now.query.now c.args.row.now c.args.plan.now before (subst (λ (z : List Atom). IsTooLongBehind before (certificate_creates c.args.bound.now.db.now z)) c.as_slice.ensures h)) c.from_residual.result c.in_err-add_creates.field-0.0 c.from_residual.ensures.1 c.in_err-add_creates.ensures.over

pub returns-in_err-add_prove-clause-over : goal.returns-in_err-add_prove-clause-over
returns-in_err-add_prove-clause-over c =
    let made = subst (λ (z : List Atom). AddsStatements (certificate_creates c.args.bound.now.db.now z) c.args.draft.now c.add_creates.new.draft) c.as_slice.ensures c.in_ok-add_creates.ensures.ok in
    refused_on (prove_over c.args.bound.now.db.now c.args.bound.now.query.now c.args.row.now c.args.plan.now c.args.draft.now c.add_creates.new.draft made)
    c.from_residual-in_err-add_prove.result c.in_err-add_prove.field-0.0 c.from_residual-in_err-add_prove.ensures.1 c.in_err-add_prove.ensures.over
