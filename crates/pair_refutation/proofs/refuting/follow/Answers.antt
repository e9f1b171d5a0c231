use Rattle.std.proofs.Common.{[], length, arith, subst, sym, slice_index}
use Rattle.pair_refutation.specs.Graph.{AreAdjacent}
use Rattle.pair_refutation.specs.Refuting.{IsLastOf, MeetsAlike}
use Rattle.pair_refutation.proofs.Losing.{block-there, its-block, row-there, its-var, its-var-small, alone, alike, marked-more, both-ok}
use Rattle.pair_refutation.proofs.refuting.follow.Goals as goal

pub index-x-requires : goal.index-x-requires
index-x-requires c =
    let n = c.args.place in
    let l = row-there c.args.cnf.now c.args.graph.now c.requires.chained.read c.args.block_of.now c.requires.blocks c.args.order.now n (c.requires.forced n c.requires.place) in
    let k = c.args.graph.now.var.ok.0 in
    omega (arith, l, k)

pub has_pair-requires : goal.has_pair-requires
has_pair-requires c =
    let n = c.args.place in
    let s = its-var-small c.args.cnf.now c.args.graph.now c.requires.chained.read c.args.block_of.now c.requires.blocks c.args.order.now n (c.requires.forced n c.requires.place) c.index-x.result.now c.index-x.ensures in
    let z = c.requires.chained.size in
    omega (arith, s, z)

pub returns-then-not-has_pair-clause-marked : goal.returns-then-not-has_pair-clause-marked
returns-then-not-has_pair-clause-marked c =
    let cnf = c.args.cnf.now in
    let g = c.args.graph.now in
    let order = c.args.order.now in
    let lost = c.args.lost.now in
    let n = c.args.place in
    let x = c.index-x.result.now in
    let f = c.requires.forced n c.requires.place in
    let is = its-var cnf g c.requires.chained.read c.args.block_of.now c.requires.blocks order n f x c.index-x.ensures in
    let s = its-var-small cnf g c.requires.chained.read c.args.block_of.now c.requires.blocks order n f x c.index-x.ensures in
    let z = c.requires.chained.size in
    let none = subst (λ o. IsLastOf g.pairs.items x (length g.pairs.items) o) (c.has_pair.ensures.0 c.if-not-has_pair.true) (c.requires.chained.chains_are.of_last x (omega (arith, s, z))) in
    marked-more g order lost lost n c.requires.marked (λ y k. k)
    (λ b a. absurd (alone cnf g c.requires.chained.read x 0 [] c.args.steps.now.items lost none b (subst (λ k. AreAdjacent g.pairs.items k b) (sym is) a)))

pub bounds-block_of-row : goal.bounds-block_of-row
bounds-block_of-row c =
    let n = c.args.place in
    block-there c.args.cnf.now c.args.graph.now c.requires.chained.read c.args.block_of.now c.requires.blocks c.args.order.now n (c.requires.forced n c.requires.place)

pub shorten-requires-clause-block : goal.shorten-requires-clause-block
shorten-requires-clause-block c =
    let n = c.args.place in
    (its-block c.args.cnf.now c.args.graph.now c.requires.chained.read c.args.block_of.now c.requires.blocks c.args.order.now n (c.requires.forced n c.requires.place)).0

pub lose_all-requires-clause-there : goal.lose_all-requires-clause-there
lose_all-requires-clause-there c =
    let n = c.args.place in
    its-var-small c.args.cnf.now c.args.graph.now c.requires.chained.read c.args.block_of.now c.requires.blocks c.args.order.now n (c.requires.forced n c.requires.place) c.index-x.result.now c.index-x.ensures

pub lose_all-requires-clause-alike : goal.lose_all-requires-clause-alike
lose_all-requires-clause-alike c =
    let cnf = c.args.cnf.now in
    let g = c.args.graph.now in
    let order = c.args.order.now in
    let n = c.args.place in
    let steps = c.shorten.new.steps.items in
    let place = c.requires.place in
    let f = c.requires.forced n place in
    let is = its-var cnf g c.requires.chained.read c.args.block_of.now c.requires.blocks order n f c.index-x.result.now c.index-x.ensures in
    let block = its-block cnf g c.requires.chained.read c.args.block_of.now c.requires.blocks order n f in
    subst (λ k. MeetsAlike cnf steps g.pairs.items k c.in_ok-last.last) (sym is)
    (alike cnf g c.requires.chained.read steps c.args.lost.now c.in_ok-last.ensures.so_far order n (λ q l. c.requires.forced q (omega (arith, l, place))) c.requires.marked f
    (slice_index c.args.block_of.now (slice_index order n)) block.0 block.1 c.in_ok-last.last c.in_ok-last.ensures.left)

pub returns-clause-marked : goal.returns-clause-marked
returns-clause-marked c =
    let g = c.args.graph.now in
    let order = c.args.order.now in
    let n = c.args.place in
    let is = its-var c.args.cnf.now g c.requires.chained.read c.args.block_of.now c.requires.blocks order n (c.requires.forced n c.requires.place) c.index-x.result.now c.index-x.ensures in
    both-ok c.lose_all.result
    (λ stay lost. marked-more g order c.args.lost.now c.lose_all.new.lost n c.requires.marked stay (λ b a. lost b (subst (λ k. AreAdjacent g.pairs.items k b) (sym is) a)))
    c.lose_all.ensures.stay c.lose_all.ensures.lost
