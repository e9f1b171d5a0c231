use Rattle.std.proofs.Common.{◌≡◌, List, ℕ, None, inr, refl, subst}
use Rattle.query_resolve.specs.Checks.{query_fault}
use Rattle.query_resolve.specs.Resolved.{IsQueryOf}
use Rattle.query_replies.specs.Classes.{IsClassWith}
use Rattle.query_replies.proofs.Written.{long_as_written}
use Rattle.query_statements.proofs.classify.classify.Goals as goal

pub class_of_query-found-requires : goal.class_of_query-found-requires
class_of_query-found-requires c = long_as_written c.database.result.now c.args.select.now c.in_ok-query.query c.as_slice.result.now c.as_slice.ensures c.in_ok-query.ensures.is

pub returns : goal.returns
returns c =
    let select = c.args.select.now in
    let query = c.in_ok-query.query in
    let tables = c.database.ensures.is in
    inr (
      subst (λ db. query_fault db select ≡ None) tables c.in_ok-query.ensures.valid,
      record {
        query = query;
        resolved = subst (λ db. IsQueryOf db select query) tables c.in_ok-query.ensures.is;
        found = c.in_ok-part.part;
        told = subst (λ (names : List (List ℕ)). IsClassWith query names c.in_ok-part.part) c.as_slice.ensures c.in_ok-part.ensures;
        replies = refl;
        keeps = refl;
      },
    )
