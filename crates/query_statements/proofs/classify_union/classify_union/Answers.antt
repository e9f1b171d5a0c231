use Rattle.std.proofs.Common.{◌≡◌, List, None, inr, refl, sym, subst}
use Rattle.spj_syntax.specs.declared.tree.Select.{Select}
use Rattle.cqa_model.specs.declared.query.Query.{Query}
use Rattle.query_resolve.specs.Checks.{union_fault}
use Rattle.query_resolve.specs.Resolved.{AreQueriesOf}
use Rattle.query_replies.specs.Classes.{TellsClasses}
use Rattle.query_statements.proofs.classify_union.classify_union.Goals as goal

pub class_of_parts-reply-requires : goal.class_of_parts-reply-requires
class_of_parts-reply-requires c =
    let db = c.database-database.result.now in
    subst (λ (ss : List Select). AreQueriesOf db ss c.as_slice-2.result.now) (sym c.as_slice.ensures)
    (subst (λ (qs : List Query). AreQueriesOf db c.args.selects.now.parts qs) (sym c.as_slice-2.ensures) c.in_ok-parts.ensures.is)

pub returns : goal.returns
returns c =
    let selects = c.args.selects.now.parts in
    let parts = c.in_ok-parts.parts in
    let reply = c.in_ok-reply.field-0 in
    let tables = c.database-database.ensures.is in
    let db = c.database-database.result.now in
    let told = subst (λ (qs : List Query). TellsClasses db selects qs reply) c.as_slice-2.ensures (subst (λ (ss : List Select). TellsClasses db ss c.as_slice-2.result.now reply) c.as_slice.ensures c.in_ok-reply.ensures) in
    inr (
      subst (λ db. union_fault db selects ≡ None) tables c.in_ok-parts.ensures.valid,
      record {
        parts = parts;
        resolved = subst (λ db. AreQueriesOf db selects parts) tables c.in_ok-parts.ensures.is;
        told = subst (λ db. TellsClasses db selects parts reply) tables told;
        keeps = refl;
      },
    )
