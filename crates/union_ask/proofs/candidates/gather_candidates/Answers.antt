use Rattle.std.proofs.Common.{get_or, sym, subst}
use Rattle.std.proofs.lemmas.List.Elements.{Contains-get_or}
use Rattle.cqa_model.specs.declared.query.Query.{Query}
use Rattle.cqa_model.specs.Query.{FitsDatabase}
use Rattle.union_ask.proofs.Sets.{candidates-none, candidates-more, candidates-all}
use Rattle.union_ask.proofs.candidates.gather_candidates.Goals as goal

pub loop-query-init : goal.loop-query-init
loop-query-init c = candidates-none c.args.parts.now.db.now c.args.parts.now.queries.now c.args.rows.now.items c.requires.none

pub new-bound-requires : goal.new-bound-requires
new-bound-requires c =
    let parts = c.args.parts.now in
    subst (λ (q : Query). FitsDatabase q parts.db.now) (sym c.query-item.is) (parts.parts.fits (get_or parts.queries.now c.loop-query.query-index c.query-item.result) (Contains-get_or parts.queries.now c.loop-query.query-index c.query-item.result c.loop-query-test.true))

pub loop-query-preserved : goal.loop-query-preserved
loop-query-preserved c =
    let parts = c.args.parts.now in
    candidates-more parts.db.now parts.queries.now c.loop-query.query-index c.query-item.result c.new-bound.result.query.now c.new-bound.result.db.now c.loop-query.rows.items c.put_candidates.new.rows.items
    c.loop-query-test.true c.query-item.is c.new-bound.ensures.query c.new-bound.ensures.db c.loop-query.invariant c.in_ok-put_candidates.ensures

pub returns : goal.returns
returns c =
    let parts = c.args.parts.now in
    candidates-all parts.db.now parts.queries.now c.loop-query.query-index c.loop-query.rows.items c.loop-query-test.false c.loop-query.invariant
