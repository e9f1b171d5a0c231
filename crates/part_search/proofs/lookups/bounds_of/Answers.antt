use Rattle.std.proofs.Common.{◌∙◌, ◌+◌, take, sym, subst}
use Rattle.std.proofs.lemmas.List.Elements.{Contains-get_or}
use Rattle.std.proofs.Common.{get_or}
use Rattle.cqa_model.specs.declared.query.Query.{Query}
use Rattle.cqa_model.specs.Query.{FitsDatabase}
use Rattle.part_search.specs.Lookups.{IsBoundTo, AreBoundsOf}
use Rattle.part_search.proofs.Taking.{zip-more, zip-all}
use Rattle.part_search.proofs.lookups.bounds_of.Goals as goal

pub new-requires : goal.new-requires
new-requires c =
    let parts = c.args.parts.now in
    subst (λ (q : Query). FitsDatabase q parts.db.now) (sym c.query-item.is) (parts.parts.fits (get_or parts.queries.now c.loop-query.query-index c.query-item.result) (Contains-get_or parts.queries.now c.loop-query.query-index c.query-item.result c.loop-query-test.true))

pub loop-query-preserved : goal.loop-query-preserved
loop-query-preserved c =
    let parts = c.args.parts.now in
    subst (AreBoundsOf parts.db.now (take (c.loop-query.query-index + 1) parts.queries.now)) (sym c.in_ok-push.ensures.items)
    (zip-more (IsBoundTo parts.db.now) parts.queries.now c.loop-query.bounds.items c.loop-query.query-index c.query-item.result c.new.result c.loop-query-test.true c.loop-query.invariant
    (c.new.ensures.query ∙ c.query-item.is, c.new.ensures.db))

pub returns : goal.returns
returns c =
    let parts = c.args.parts.now in
    zip-all (IsBoundTo parts.db.now) parts.queries.now c.loop-query.bounds.items c.loop-query.query-index c.loop-query-test.false c.loop-query.invariant
