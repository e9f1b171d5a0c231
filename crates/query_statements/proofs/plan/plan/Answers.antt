use Rattle.std.proofs.Common.{◌≡◌, ◌∙◌, None, IfSome, Contains, inr, refl, ap, subst, length, arith}
use Rattle.std.proofs.lemmas.Slice.Zip.{AllZip-long}
use Rattle.cqa_model.specs.declared.query.Plan.{Plan}
use Rattle.cqa_model.specs.Variables.{whole}
use Rattle.cqa_model.specs.Plan.{IsPlanOf}
use Rattle.cqa_model.proofs.Elimination.{plan-eliminates}
use Rattle.cqa_model.proofs.PlanAtoms.{plan-atoms}
use Rattle.query_resolve.specs.Checks.{query_fault}
use Rattle.query_resolve.specs.Resolved.{IsAtomOf, IsQueryOf}
use Rattle.query_statements.specs.Plan.{names_at}
use Rattle.query_replies.proofs.Found.{none_found}
use Rattle.query_statements.proofs.plan.plan.Goals as goal

pub returns-in_default : goal.returns-in_default
returns-in_default c =
    let select = c.args.select.now in
    let query = c.in_ok-query.query in
    let tables = c.database.ensures.is in
    inr (
      subst (λ db. query_fault db select ≡ None) tables c.in_ok-query.ensures.valid,
      record {
        query = query;
        resolved = subst (λ db. IsQueryOf db select query) tables c.in_ok-query.ensures.is;
        told = c.in_ok-plan.ensures.cycle.0 (none_found c.in_ok-plan.field-0 c.in_default.not-Some);
        keeps = refl;
      },
    )

pub names_of-steps-requires : goal.names_of-steps-requires
names_of-steps-requires c = λ F m.
    let query = c.in_ok-query.query in
    let tables = c.args.select.now.tables in
    let order = c.in-Some.plan.order in
    let is_plan = subst (λ found. IfSome found (λ (plan : Plan). IsPlanOf query plan.order)) c.in-Some.is c.in_ok-plan.ensures.plan in
    let within = plan-atoms query order (plan-eliminates query (whole query) order is_plan) F (subst (λ atoms. Contains atoms F) c.as_slice-2.ensures m) in
    let size : length query.atoms ≡ length tables = AllZip-long (IsAtomOf c.database.result.now) tables query.atoms c.in_ok-query.ensures.is.atoms in
    let names : length c.as_slice.result.now ≡ length tables = ap (λ xs. length xs) c.as_slice.ensures in
    omega (arith, within, size, names)

pub returns : goal.returns
returns c =
    let select = c.args.select.now in
    let query = c.in_ok-query.query in
    let order = c.in-Some.plan.order in
    let tables = c.database.ensures.is in
    let is_plan = subst (λ found. IfSome found (λ (plan : Plan). IsPlanOf query plan.order)) c.in-Some.is c.in_ok-plan.ensures.plan in
    inr (
      subst (λ db. query_fault db select ≡ None) tables c.in_ok-query.ensures.valid,
      record {
        query = query;
        resolved = subst (λ db. IsQueryOf db select query) tables c.in_ok-query.ensures.is;
        told = (order, is_plan, c.in_ok-steps.ensures ∙ ap (λ names. names_at names c.as_slice-2.result.now) c.as_slice.ensures ∙ ap (λ atoms. names_at select.tables atoms) c.as_slice-2.ensures);
        keeps = refl;
      },
    )
