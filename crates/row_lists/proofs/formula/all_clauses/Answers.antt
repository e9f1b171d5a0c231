use Rattle.std.proofs.Common.{◌++◌, ◌∙◌, List, map, ap, sym, subst}
use Rattle.cnf_form.specs.declared.formula.Clause.{Clause}
use Rattle.cnf_form.specs.Literals.{literals}
use Rattle.join_access.specs.Listing.{names_of}
use Rattle.row_lists.specs.Clauses.{positive}
use Rattle.row_lists.specs.Spans.{numbers_in}
use Rattle.row_lists.specs.Encodings.{AddsLists}
use Rattle.row_lists.proofs.formula.all_clauses.Goals as goal

pub returns : goal.returns
returns c =
    let frame = c.args.lists.now.frame.now.tables in
    let lists = names_of c.args.lists.now.lists.now in
    let spans = c.args.blocks.now.spans in
    let blocks = map (map positive) (map numbers_in spans) in
    let first = c.in_ok-add_blocks.ensures ∙ ap (λ (cs : List Clause). literals cs ++ blocks) c.in_ok-clauses.ensures.items in
    subst (λ (cs : List Clause). AddsLists frame spans lists blocks (literals cs)) (sym c.from_vec.ensures)
    (subst (λ cs. AddsLists frame spans lists cs (literals c.add_lists.new.clauses.items)) first c.in_ok-add_lists.ensures)
