use Rattle.std.proofs.Common.{◌≡◌, ◌∙◌, inl, refl, subst, sym, IfErr, IfOk, None, Some}
use Rattle.cqa_model.specs.Unions.{AreParts}
use Rattle.query_resolve.specs.Checks.{union_row_fault}
use Rattle.part_search.specs.Lookups.{HasLengthOf}
use Rattle.union_ask.specs.Reasons.{IsReasonIn, IsStoppedIn}
use Rattle.reason_statements.specs.ExplainUnion.{MayTellUnion}
use Rattle.session_state.proofs.Doing.{unrefused}
use Rattle.reason_statements.proofs.explain_union.check_and_tell.Goals as goal

pub check_union_row-requires : goal.check_union_row-requires
check_union_row-requires c = subst (AreParts c.args.parts.now) (sym c.database-database.ensures.is) c.requires

pub new-bound-requires : goal.new-bound-requires
new-bound-requires c = subst (AreParts c.args.parts.now) (sym c.database-database.ensures.is) c.requires

pub decide_union-found-requires : goal.decide_union-found-requires
decide_union-found-requires c = record { long = subst (λ l. HasLengthOf l c.args.row.now) (sym c.new-bound.ensures.queries) c.in_default.ensures.long }

pub tell-requires-clause-told : goal.tell-requires-clause-told
tell-requires-clause-told c =
    let bound = c.new-bound.result in
    let found = c.decide_union-found.result in
    let old = c.args.session.now in
    let row = c.args.row.now in
    subst (λ l. IfOk found (IsReasonIn old.tables l row old.budget)) c.new-bound.ensures.queries
    (subst (λ db. IfOk found (IsReasonIn db bound.queries.now row old.budget)) (c.new-bound.ensures.db ∙ c.database-database.ensures.is)
    (subst (λ budget. IfOk found (IsReasonIn bound.db.now bound.queries.now row budget)) c.budget.ensures c.decide_union-found.ensures.told))

pub tell-requires-clause-stopped : goal.tell-requires-clause-stopped
tell-requires-clause-stopped c =
    let bound = c.new-bound.result in
    let found = c.decide_union-found.result in
    let old = c.args.session.now in
    let row = c.args.row.now in
    subst (λ l. IfErr found (IsStoppedIn old.tables l row old.budget)) c.new-bound.ensures.queries
    (subst (λ db. IfErr found (IsStoppedIn db bound.queries.now row old.budget)) (c.new-bound.ensures.db ∙ c.database-database.ensures.is)
    (subst (λ budget. IfErr found (IsStoppedIn bound.db.now bound.queries.now row budget)) c.budget.ensures c.decide_union-found.ensures.untold))

pub returns-in-Err : goal.returns-in-Err
returns-in-Err c =
    inl (record {
      refusal = c.in-Err.refusal;
      first = subst (λ db. union_row_fault db c.args.parts.now c.args.row.now ≡ Some c.in-Err.refusal) c.database-database.ensures.is c.in-Err.ensures.checked;
      replies = refl;
      keeps = refl;
    })

pub returns : goal.returns
returns c =
    let old = c.args.session.now in
    let parts = c.args.parts.now in
    let row = c.args.row.now in
    let valid = subst (λ db. union_row_fault db parts row ≡ None) c.database-database.ensures.is c.in_default.ensures.checked in
    unrefused (union_row_fault old.tables parts row) old c.tell.new.session (MayTellUnion old parts row) c.tell.result valid c.tell.ensures
