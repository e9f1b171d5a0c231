use Rattle.std.proofs.Common.{◌≡◌, ◌∙◌, inl, refl, subst, IfErr, IfOk, None, Some}
use Rattle.query_resolve.specs.Checks.{answer_fault}
use Rattle.reason_statements.specs.Against.{IsToldOf, IsUndecidedBy, TellsAgainst}
use Rattle.session_state.proofs.Doing.{unrefused}
use Rattle.reason_statements.proofs.against.check_and_tell.Goals as goal

pub tell-requires-clause-told : goal.tell-requires-clause-told
tell-requires-clause-told c =
    let bound = c.new-bound.result in
    let found = c.against_of-found.result in
    subst (λ q. IfOk found (IsToldOf c.args.session.now.tables q c.args.row.now)) c.new-bound.ensures.query
    (subst (λ db. IfOk found (IsToldOf db bound.query.now c.args.row.now)) (c.new-bound.ensures.db ∙ c.database.ensures.is) c.against_of-found.ensures.told)

pub tell-requires-clause-undecided : goal.tell-requires-clause-undecided
tell-requires-clause-undecided c =
    let bound = c.new-bound.result in
    let found = c.against_of-found.result in
    let tables = c.args.session.now.tables in
    let row = c.args.row.now in
    subst (λ q. IfErr found (IsUndecidedBy tables q row c.args.session.now.budget)) c.new-bound.ensures.query
    (subst (λ db. IfErr found (IsUndecidedBy db bound.query.now row c.args.session.now.budget)) (c.new-bound.ensures.db ∙ c.database.ensures.is)
    (subst (λ budget. IfErr found (IsUndecidedBy bound.db.now bound.query.now row budget)) c.budget.ensures c.against_of-found.ensures.undecided))

pub returns-in-Err : goal.returns-in-Err
returns-in-Err c =
    let bound = c.new-bound.result in
    let row = c.args.row.now in
    let fault = Some c.in-Err.refusal in
    inl (record {
      refusal = c.in-Err.refusal;
      first = subst (λ q. answer_fault c.args.session.now.tables q row ≡ fault) c.new-bound.ensures.query
          (subst (λ db. answer_fault db bound.query.now row ≡ fault) (c.new-bound.ensures.db ∙ c.database.ensures.is) c.in-Err.ensures);
      replies = refl;
      keeps = refl;
    })

pub returns : goal.returns
returns c =
    let bound = c.new-bound.result in
    let old = c.args.session.now in
    let row = c.args.row.now in
    let q = c.args.query.now in
    let valid = subst (λ z. answer_fault old.tables z row ≡ None) c.new-bound.ensures.query
    (subst (λ db. answer_fault db bound.query.now row ≡ None) (c.new-bound.ensures.db ∙ c.database.ensures.is) c.in_default.ensures) in
    unrefused (answer_fault old.tables q row) old c.tell.new.session (TellsAgainst old q row) c.tell.result valid c.tell.ensures
