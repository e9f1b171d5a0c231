use Rattle.std.proofs.Common.{◌≡◌, ◌+◌, ◌<◌, None, length, slice_index, ◌∙◌, subst, arith}
use Rattle.std.proofs.lemmas.List.{get_or_default}
use Rattle.weak_pairs.specs.Peeling.{ends_of}
use Rattle.pair_refutation.specs.Edges.{AreEndsSoFar, AddsEnd}
use Rattle.pair_refutation.proofs.Ending.{ends-more, laid-of}
use Rattle.pair_refutation.proofs.ends.edge_ends.Goals as goal

pub loop-i-preserved : goal.loop-i-preserved
loop-i-preserved c =
    let bv : c.loop-v.v + 1 < length c.args.start.now = (let a = c.loop-v-test.true in let b = c.requires.blocks in omega arith) in
    let within = c.requires.rows.within c.loop-v.v bv in
    let e : slice_index c.args.edge.now c.loop-i.i < length c.loop-i.ends.items = (let s = c.requires.rows.small c.loop-i.i (let t = c.loop-i-test.true in omega arith) in let z = c.loop-i.invariant.size in omega arith) in
    let read : c.index.result.now ≡ ends_of c.loop-i.ends.items (slice_index c.args.edge.now c.loop-i.i) =
    c.index.ensures ∙ get_or_default c.loop-i.ends.items (slice_index c.args.edge.now c.loop-i.i) c.index.result.now (record { left = None; right = None }) e in
    ends-more c.args.start.now c.args.edge.now c.args.count c.requires.rows c.requires.two c.loop-i.ends.items c.loop-v.v c.loop-i.i c.loop-i.invariant bv (c.loop-i.auto.i, c.loop-i-test.true) c.with_end.result
    (subst (λ z. AddsEnd z c.loop-v.v c.with_end.result) read c.with_end.ensures)

pub returns : goal.returns
returns c = laid-of c.args.start.now c.args.edge.now c.args.count c.requires.rows c.requires.two c.loop-v.ends.items c.args.blocks c.requires.blocks
    (let e : c.loop-v.v ≡ c.args.blocks = (let a = c.loop-v-test.false in let b = c.loop-v.auto.v-end in omega arith) in
    subst (λ z. AreEndsSoFar c.args.start.now c.args.edge.now c.loop-v.ends.items c.args.count z 0) e c.loop-v.invariant)
