use Rattle.std.proofs.Common.{◌≡◌, ◌∙◌, inl, refl, subst, None, Some}
use Rattle.query_resolve.specs.Checks.{answer_fault}
use Rattle.reason_statements.specs.Prove.{IsProofOutcome}
use Rattle.reason_statements.proofs.Proving.{proof_replied}
use Rattle.reason_statements.proofs.prove.check_and_prove.Goals as goal

pub returns-in-Err : goal.returns-in-Err
returns-in-Err c =
    let bound = c.new-bound.result in
    let row = c.args.row.now in
    let fault = Some c.in-Err.refusal in
    inl (record {
      refusal = c.in-Err.refusal;
      first = subst (λ q. answer_fault c.args.session.now.tables q row ≡ fault) c.new-bound.ensures.query
          (subst (λ db. answer_fault db bound.query.now row ≡ fault) (c.new-bound.ensures.db ∙ c.database.ensures.is) c.in-Err.ensures);
      replies = refl;
      keeps = refl;
    })

pub returns : goal.returns
returns c =
    let bound = c.new-bound.result in
    let old = c.args.session.now in
    let row = c.args.row.now in
    let q = c.args.query.now in
    let valid = subst (λ z. answer_fault old.tables z row ≡ None) c.new-bound.ensures.query
    (subst (λ db. answer_fault db bound.query.now row ≡ None) (c.new-bound.ensures.db ∙ c.database.ensures.is) c.in_default.ensures) in
    let told = subst (λ z. IsProofOutcome c.proved.result old.tables z row) c.new-bound.ensures.query
    (subst (λ db. IsProofOutcome c.proved.result db bound.query.now row) (c.new-bound.ensures.db ∙ c.database.ensures.is) c.proved.ensures) in
    proof_replied old q row c.proved.result valid told
