use Rattle.std.proofs.Common.{map, ◌∙◌, sym, subst, Contains, List}
use Rattle.cnf_form.specs.Literals.{literals, SatisfiesAll}
use Rattle.join_access.specs.declared.witness.Witness.{Witness}
use Rattle.join_access.specs.Listing.{names_of}
use Rattle.row_lists.specs.Clauses.{positive}
use Rattle.row_lists.specs.Spans.{numbers_in}
use Rattle.cqa_value.proofs.Words.{Contains-map}
use Rattle.row_witnesses.proofs.Told.{all_names}
use Rattle.repair_clauses.proofs.Naming.{named-size}
use Rattle.pair_formula.specs.Full.{AddsPairs}
use Rattle.pair_formula.proofs.FullSpans.{full-graph, full-decides}
use Rattle.pair_formula.proofs.formula.full_formula.Goals as goal

pub full_blocks-requires : goal.full_blocks-requires
full_blocks-requires c = c.requires.two

pub clauses_of-requires : goal.clauses_of-requires
clauses_of-requires c = λ x m.
    let w = c.args.witnesses.now in
    let n = ((all_names w).exactly x.rows).0 (Contains-map (λ (y : Witness). y.rows) w.list x (subst (λ z. Contains z x) c.as_slice.ensures m)) in
    named-size w.bound.now.db.now w.bound.now.query.now.atoms x.rows n.0 n.2 ∙ c.requires.two

pub returns-clause-graph : goal.returns-clause-graph
returns-clause-graph c =
    let w = c.args.witnesses.now in
    let blocks = c.in_ok-blocks.blocks in
    let first = map (map positive) (map numbers_in blocks.spans) in
    let clauses = literals c.in_ok-clauses.clauses in
    let h = subst (λ (ws : List Witness). AddsPairs blocks.spans (names_of ws) first clauses) c.as_slice.ensures c.in_ok-clauses.ensures in
    record {
      blocks = map numbers_in blocks.spans;
      pairs = h.pairs;
      are = h.is;
      graph = full-graph w.bound.now.query.now w.bound.now.db.now w.row.now (names_of w.list) (all_names w) blocks.vars blocks.spans c.in_ok-blocks.ensures w.bound.now.fits w.bound.now.database c.requires first clauses h;
    }

pub returns-clause-certain : goal.returns-clause-certain
returns-clause-certain c =
    let w = c.args.witnesses.now in
    let blocks = c.in_ok-blocks.blocks in
    let first = map (map positive) (map numbers_in blocks.spans) in
    let clauses = literals c.in_ok-clauses.clauses in
    let h = subst (λ (ws : List Witness). AddsPairs blocks.spans (names_of ws) first clauses) c.as_slice.ensures c.in_ok-clauses.ensures in
    let d = full-decides w.bound.now.query.now w.bound.now.db.now w.row.now (names_of w.list) (all_names w) blocks.vars blocks.spans c.in_ok-blocks.ensures w.bound.now.fits w.bound.now.database c.requires first clauses h in
    (λ none. d.0 (λ v sat. none v (subst (SatisfiesAll v) (sym h.is) sat)), λ certain v sat. d.1 certain v (subst (SatisfiesAll v) h.is sat))
