use Rattle.std.proofs.Common.{◌∙◌, sym, subst}
use Rattle.cqa_model.specs.declared.query.Query.{Query}
use Rattle.cqa_model.specs.Query.{FitsDatabase}
use Rattle.union_ask.proofs.Sets.{one-part-in, one-candidates}
use Rattle.union_ask.proofs.candidates.candidates_of_one.Goals as goal

pub new-bound-requires : goal.new-bound-requires
new-bound-requires c =
    let parts = c.args.parts.now in
    let first = c.index-parts-0 in
    subst (λ (q : Query). FitsDatabase q parts.db.now) first.is (parts.parts.fits first.result (one-part-in parts.queries.now first.result c.requires first.is))

pub returns : goal.returns
returns c =
    let parts = c.args.parts.now in
    let first = c.index-parts-0 in
    one-candidates parts.db.now parts.queries.now first.result c.requires first.is c.new-bound.result.db.now c.new-bound.result.query.now c.new-bound.ensures.db (c.new-bound.ensures.query ∙ sym first.is) c.in_ok-list.list c.in_ok-list.ensures.possible c.in_ok-list.ensures.candidates
