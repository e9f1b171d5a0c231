use Rattle.std.proofs.Common.{◌≡◌, ◌∙◌, List, ℕ, None, IsNone, IfSome, inr, refl, sym, subst}
use Rattle.cqa_model.specs.Variables.{whole}
use Rattle.cqa_model.specs.Graph.{HasCycle}
use Rattle.query_resolve.specs.Checks.{query_fault}
use Rattle.query_resolve.specs.Resolved.{IsQueryOf}
use Rattle.query_replies.specs.Names.{query_names}
use Rattle.query_replies.specs.Sql.{IsSqlOf}
use Rattle.query_statements.proofs.sql.sql.Goals as goal

pub returns-in-Some : goal.returns-in-Some
returns-in-Some c =
    let select = c.args.select.now in
    let query = c.in_ok-query.query in
    let text = c.in-Some.text in
    let tables = c.database-database.ensures.is in
    let bound = c.new-bound.result in
    let is = subst (λ found. IfSome found (IsSqlOf bound.query.now (query_names bound.db.now c.as_slice.result.now bound.query.now))) c.in-Some.is c.in_ok-text.ensures.sql in
    let named = subst (λ (names : List (List ℕ)). IsSqlOf bound.query.now (query_names bound.db.now names bound.query.now) text) c.as_slice.ensures is in
    let told = subst (λ q. IsSqlOf q (query_names bound.db.now select.tables q) text) c.new-bound.ensures.query named in
    inr (
      subst (λ db. query_fault db select ≡ None) tables c.in_ok-query.ensures.valid,
      record {
        query = query;
        resolved = subst (λ db. IsQueryOf db select query) tables c.in_ok-query.ensures.is;
        told = subst (λ db. IsSqlOf query (query_names db select.tables query) text) (c.new-bound.ensures.db ∙ tables) told;
        keeps = refl;
      },
    )

pub returns-in-None : goal.returns-in-None
returns-in-None c =
    let select = c.args.select.now in
    let query = c.in_ok-query.query in
    let tables = c.database-database.ensures.is in
    let cyclic = c.in_ok-text.ensures.none (subst IsNone (sym c.in-None.is) refl) in
    inr (
      subst (λ db. query_fault db select ≡ None) tables c.in_ok-query.ensures.valid,
      record {
        query = query;
        resolved = subst (λ db. IsQueryOf db select query) tables c.in_ok-query.ensures.is;
        told = subst (λ q. HasCycle q (whole q)) c.new-bound.ensures.query cyclic;
        keeps = refl;
      },
    )
