use Rattle.std.proofs.Common.{◌++◌, ◌∙◌, List, map, ap, sym, subst}
use Rattle.cnf_form.specs.declared.formula.Clause.{Clause}
use Rattle.cnf_form.specs.Literals.{literals}
use Rattle.join_access.specs.Listing.{names_of}
use Rattle.row_lists.specs.Clauses.{positive}
use Rattle.row_lists.specs.Spans.{numbers_in}
use Rattle.pair_formula.specs.Full.{AddsPairs}
use Rattle.pair_formula.proofs.formula.clauses_of.Goals as goal

pub returns : goal.returns
returns c =
    let spans = c.args.blocks.now.spans in
    let all = names_of c.args.witnesses.now in
    let blocks = map (map positive) (map numbers_in spans) in
    let first = c.in_ok-add_blocks.ensures ∙ ap (λ (cs : List Clause). literals cs ++ blocks) c.in_ok-clauses.ensures.items in
    subst (λ (cs : List Clause). AddsPairs spans all blocks (literals cs)) (sym c.from_vec.ensures)
    (subst (λ cs. AddsPairs spans all cs (literals c.add_pairs.new.clauses.items)) first c.in_ok-add_pairs.ensures)
