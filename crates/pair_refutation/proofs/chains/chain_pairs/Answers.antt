use Rattle.std.proofs.Common.{◌∙◌, List, ℕ, Option, length, arith, refl, ap}
use Rattle.pair_refutation.specs.Edges.{pair_at}
use Rattle.pair_refutation.proofs.Chaining.{chained-as, next-size}
use Rattle.pair_refutation.proofs.Edging.{pair-below}
use Rattle.pair_refutation.proofs.chains.chain_pairs.Goals as goal

pub chain-requires-clause-left : goal.chain-requires-clause-left
chain-requires-clause-left c = let b = pair-below c.args.pairs.now c.args.vars c.requires c.loop-place.place c.loop-place-test.true in let l = b.0 in let s = c.loop-place.invariant.size in omega (arith, l, s)

pub chain-requires-clause-right : goal.chain-requires-clause-right
chain-requires-clause-right c = let b = pair-below c.args.pairs.now c.args.vars c.requires c.loop-place.place c.loop-place-test.true in let l = b.1 in let s = c.loop-place.invariant.size in omega (arith, l, s)

pub loop-place-preserved : goal.loop-place-preserved
loop-place-preserved c =
    let pairs = c.args.pairs.now in
    let n = c.loop-place.place in
    let p = pair_at pairs n in
    let b = pair-below pairs c.args.vars c.requires n c.loop-place-test.true in
    let s = c.loop-place.invariant.size in
    let l = b.0 in
    let r = b.1 in
    let old = c.loop-place.chains in
    let new = c.chain.new.chains in
    let so = c.loop-place.invariant.chained in
    let next = next-size pairs n old.last.items old.left.items old.right.items so p refl (omega (arith, l, s)) (omega (arith, r, s)) in
    let e = c.in_ok-chain.ensures in
    record {
      chained = chained-as pairs n old.last.items old.left.items old.right.items so p refl (omega (arith, l, s)) (omega (arith, r, s)) new.last.items new.left.items new.right.items e.last e.left e.right;
      size = ap (λ (z : List (Option ℕ)). length z) e.last ∙ (next ∙ s);
    }
