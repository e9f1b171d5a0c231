use Rattle.std.proofs.Common.{◌≡◌, ◌∙◌, None, inr, refl, subst, sym}
use Rattle.cqa_model.specs.Unions.{AreParts}
use Rattle.query_resolve.specs.Checks.{union_fault}
use Rattle.query_resolve.specs.Resolved.{AreQueriesOf}
use Rattle.union_ask.specs.Candidates.{IsPossibleUnionAnswer}
use Rattle.query_statements.proofs.possible_union.possible_union.Goals as goal

pub new-bound-requires : goal.new-bound-requires
new-bound-requires c = let are = c.in_ok-parts.ensures.is in subst (λ l. AreParts l c.database-database.result.now) (sym c.as_slice.ensures) are.parts

pub returns : goal.returns
returns c =
    let selects = c.args.selects.now.parts in
    let parts = c.in_ok-parts.parts in
    let rows = c.in_ok-rows.field-0 in
    let bound = c.new-bound.result in
    let tables = c.database-database.ensures.is in
    inr (
      subst (λ db. union_fault db selects ≡ None) tables c.in_ok-parts.ensures.valid,
      record {
        parts = parts;
        resolved = subst (λ db. AreQueriesOf db selects parts) tables c.in_ok-parts.ensures.is;
        rows = rows;
        possible = subst (λ l. IsPossibleUnionAnswer c.args.session.now.tables l rows) (c.new-bound.ensures.queries ∙ c.as_slice.ensures)
            (subst (λ db. IsPossibleUnionAnswer db bound.queries.now rows) (c.new-bound.ensures.db ∙ tables) c.in_ok-rows.ensures.possible);
        replies = refl;
        keeps = refl;
      },
    )
