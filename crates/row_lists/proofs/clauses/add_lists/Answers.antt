use Rattle.std.proofs.Common.{◌∙◌, List, ap, subst, arith}
use Rattle.std.proofs.lemmas.List.{map_push}
use Rattle.cnf_form.specs.declared.formula.Clause.{Clause}
use Rattle.cnf_form.specs.Literals.{literals}
use Rattle.cqa_model.specs.declared.query.RowId.{RowId}
use Rattle.row_lists.specs.Encodings.{IsListClause}
use Rattle.row_lists.proofs.Filled.{lists_next}
use Rattle.row_lists.proofs.clauses.add_lists.Goals as goal

pub loop-list-preserved : goal.loop-list-preserved
loop-list-preserved c =
    let frame = c.args.lists.now.frame.now.tables in
    let spans = c.args.blocks.now.spans in
    let w = c.list-item.result in
    let lits = c.in_ok-list_clause.field-0.lits in
    lists_next frame spans c.args.lists.now.lists.now c.loop-list.list-index w (literals c.args.clauses.now.items) (literals c.loop-list.clauses.items) (literals c.push.new.self.items) lits (omega (arith, c.loop-list-test.true)) c.list-item.is
    c.loop-list.invariant (subst (λ (names : List RowId). IsListClause frame spans names lits) c.as_slice.ensures c.in_ok-list_clause.ensures)
    (ap literals c.in_ok-push.ensures.items ∙ map_push (λ (x : Clause). x.lits) c.loop-list.clauses.items c.in_ok-list_clause.field-0)
