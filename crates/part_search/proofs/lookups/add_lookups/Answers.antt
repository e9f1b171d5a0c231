use Rattle.std.proofs.Common.{◌∙◌, ◌+◌, [], get_or, take, sym, subst, arith}
use Rattle.table_blocks.specs.declared.bound.Bound.{Bound}
use Rattle.join_witness.specs.declared.lookup.Lookup.{Lookup}
use Rattle.join_access.proofs.Naming.{zip-length}
use Rattle.part_search.specs.Lookups.{IsBoundTo, AreLookupsOf}
use Rattle.part_search.proofs.Taking.{zip-at, zip-more, zip-all}
use Rattle.part_search.proofs.lookups.add_lookups.Goals as goal

pub loop-at-init : goal.loop-at-init
loop-at-init c = subst (AreLookupsOf c.args.parts.now.db.now []) (sym c.requires.none) tt

pub bounds-bounds-at : goal.bounds-bounds-at
bounds-bounds-at c =
    let size = zip-length (IsBoundTo c.args.parts.now.db.now) c.args.parts.now.queries.now c.args.bounds.now c.requires.bounds in
    let l = c.loop-at-test.true in
    omega (arith, l, size)

pub loop-at-preserved : goal.loop-at-preserved
loop-at-preserved c =
    let parts = c.args.parts.now in
    let bound : Bound = c.index-bounds-at.result in
    let beside = zip-at (IsBoundTo parts.db.now) parts.queries.now c.args.bounds.now c.loop-at.at bound.query.now bound c.requires.bounds c.loop-at-test.true in
    subst (AreLookupsOf parts.db.now (take (c.loop-at.at + 1) parts.queries.now)) (sym c.in_ok-push.ensures.items)
    (zip-more (λ q (lookup : Lookup). IsBoundTo parts.db.now q lookup.bound.now) parts.queries.now c.loop-at.lookups.items c.loop-at.at bound.query.now c.in_ok-lookup_of.field-0 c.loop-at-test.true c.loop-at.invariant
    (subst (IsBoundTo parts.db.now (get_or parts.queries.now c.loop-at.at bound.query.now)) (sym (c.in_ok-lookup_of.ensures ∙ c.index-bounds-at.is)) beside))

pub returns : goal.returns
returns c =
    let parts = c.args.parts.now in
    zip-all (λ q (lookup : Lookup). IsBoundTo parts.db.now q lookup.bound.now) parts.queries.now c.loop-at.lookups.items c.loop-at.at c.loop-at-test.false c.loop-at.invariant
