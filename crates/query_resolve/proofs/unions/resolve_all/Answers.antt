use Rattle.std.proofs.Common.{map, length, subst, sym, ap, ◌∙◌, arith, ◌≡◌, None}
use Rattle.refusals.specs.Refusal.{IsRefusedAs}
use Rattle.query_resolve.specs.Checks.{answer_kinds, answers_fault, union_fault}
use Rattle.query_resolve.specs.Resolved.{AreQueriesOf}
use Rattle.query_resolve.proofs.Members.{handed_on}
use Rattle.query_resolve.proofs.Alike.{some_parts, few_parts, all_fit, union_is, are_queries}
use Rattle.query_resolve.proofs.unions.resolve_all.Goals as goal

pub check_answers-requires-clause-some : goal.check_answers-requires-clause-some
check_answers-requires-clause-some c =
    let two = c.args.selects.now.two in
    omega (arith, some_parts c.args.db.now c.as_slice-written.result.now c.in_ok-parts.parts (omega (arith, two, ap length c.as_slice-written.ensures)) c.in_ok-parts.ensures.is, ap length c.as_slice.ensures)

pub check_answers-requires-clause-few : goal.check_answers-requires-clause-few
check_answers-requires-clause-few c =
    omega (arith, few_parts c.args.db.now c.as_slice-written.result.now c.in_ok-parts.parts c.if-written-gt-MOST_SELECTS.false c.in_ok-parts.ensures.is, ap length c.as_slice.ensures)

pub check_answers-requires-clause-fits : goal.check_answers-requires-clause-fits
check_answers-requires-clause-fits c = all_fit c.args.db.now c.as_slice-written.result.now c.in_ok-parts.parts c.as_slice.result.now c.in_ok-parts.ensures.is c.as_slice.ensures

pub returns-in_err-check_answers : goal.returns-in_err-check_answers
returns-in_err-check_answers c =
    let db = c.args.db.now in
    let written = c.as_slice-written.result.now in
    let parts = c.in_ok-parts.parts in
    let is : union_fault db written ≡ answers_fault (map (answer_kinds db) c.as_slice.result.now) =
    union_is db written parts c.if-written-gt-MOST_SELECTS.false c.in_ok-parts.ensures.valid c.in_ok-parts.ensures.is ∙ ap (λ l. answers_fault (map (answer_kinds db) l)) (sym c.as_slice.ensures) in
    handed_on _ _ (union_fault db c.args.selects.now.parts) _ c.from_residual-in_err-check_answers.ensures.1
    (subst (IsRefusedAs _) (sym is ∙ ap (union_fault db) c.as_slice-written.ensures) c.in_err-check_answers.ensures.refused)

pub returns : goal.returns
returns c =
    let db = c.args.db.now in
    let written = c.as_slice-written.result.now in
    let parts = c.in_ok-parts.parts in
    let two = c.args.selects.now.two in
    let alike : answers_fault (map (answer_kinds db) parts) ≡ None = ap (λ l. answers_fault (map (answer_kinds db) l)) (sym c.as_slice.ensures) ∙ c.in_ok-check_answers.ensures.valid in
    record {
      refused = tt;
      valid = ap (union_fault db) (sym c.as_slice-written.ensures) ∙ union_is db written parts c.if-written-gt-MOST_SELECTS.false c.in_ok-parts.ensures.valid c.in_ok-parts.ensures.is ∙ alike;
      is = subst (λ l. AreQueriesOf db l parts) c.as_slice-written.ensures
          (are_queries db written parts (omega (arith, two, ap length c.as_slice-written.ensures)) c.if-written-gt-MOST_SELECTS.false c.in_ok-parts.ensures.is alike);
    }
