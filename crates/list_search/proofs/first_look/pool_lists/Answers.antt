use Rattle.std.proofs.Common.{◌∙◌, ◌++◌, ◌∷◌, [], List, ap, sym, subst, arith, Contains}
use Rattle.std.proofs.lemmas.List.{take_all}
use Rattle.cqa_value.proofs.Words.{Contains-map}
use Rattle.cqa_model.specs.declared.query.RowId.{RowId}
use Rattle.cnf_form.specs.declared.formula.Lit.{Lit}
use Rattle.join_access.specs.declared.witness.Witness.{Witness}
use Rattle.join_access.specs.Listing.{names_of}
use Rattle.row_lists.specs.Encodings.{AddsLists, IsListClause}
use Rattle.row_lists.proofs.Filled.{lists_next}
use Rattle.list_search.proofs.first_look.pool_lists.Goals as goal

pub fill_list-requires-clause-named : goal.fill_list-requires-clause-named
fill_list-requires-clause-named c =
    let w = c.list-item.result in
    let ws = c.args.lists.now.lists.now in
    subst (Contains (names_of ws)) (sym c.as_slice.ensures) (Contains-map (λ (x : Witness). x.rows) ws w (c.loop-list.list-index, omega arith, sym c.list-item.is))

pub loop-list-preserved : goal.loop-list-preserved
loop-list-preserved c =
    let frame = c.args.lists.now.frame.now.tables in
    let spans = c.args.blocks.now.spans in
    let lits = c.fill_list.new.lits.items in
    lists_next frame spans c.args.lists.now.lists.now c.loop-list.list-index c.list-item.result c.args.formula.now c.loop-list.formula c.add.new.self lits (omega arith) c.list-item.is c.loop-list.invariant
    (subst (λ (ns : List RowId). IsListClause frame spans ns lits) c.as_slice.ensures c.in_ok-fill_list.ensures)
    (c.in_ok-add.ensures ∙ ap (λ (ls : List Lit). c.loop-list.formula ++ ls ∷ []) c.as_slice-in-loop-list.ensures.value)

pub returns : goal.returns
returns c =
    let l = c.args.lists.now in
    subst (λ (ws : List Witness). AddsLists l.frame.now.tables c.args.blocks.now.spans (names_of ws) c.args.formula.now c.loop-list.formula) (take_all c.loop-list.list-index l.lists.now (omega arith)) c.loop-list.invariant
