use Rattle.std.proofs.Common.{◌≡◌, ◌∙◌, ◌+◌, set, subst, sym, slice_index, arith}
use Rattle.std.proofs.lemmas.List.{get_or_default}
use Rattle.pair_refutation.specs.Edges.{pair_at, AreLeft}
use Rattle.pair_refutation.proofs.Edging.{least-none, least-more, left-more, pair-below, var-edges}
use Rattle.pair_refutation.proofs.edges.var_edges.Goals as goal

pub least-init : goal.least-init
least-init c = least-none c.args.pairs.now c.args.vars c.requires c.in_ok-edge.edge.items c.in_ok-edge.ensures

pub lower-requires : goal.lower-requires
lower-requires c = let b = pair-below c.args.pairs.now c.args.vars c.requires c.least.pair-index c.least-test.true in let s = c.least.invariant.size in let r = b.1 in omega (arith, r, s)

pub least-preserved : goal.least-preserved
least-preserved c = least-more c.args.pairs.now c.args.vars c.requires c.least.pair-index c.least-test.true c.least.edge.items c.least.invariant c.lower.new.edge.items c.lower.ensures

pub index-requires : goal.index-requires
index-requires c = let b = pair-below c.args.pairs.now c.args.vars c.requires c.left.pair-index c.left-test.true in let s = c.left.invariant.2.size in let r = b.1 in let l = c.left.edge.ok.0 in omega (arith, r, s, l)

pub index_mut-requires : goal.index_mut-requires
index_mut-requires c = let b = pair-below c.args.pairs.now c.args.vars c.requires c.left.pair-index c.left-test.true in let s = c.left.invariant.2.size in let r = b.0 in let l = c.left.edge.ok.0 in omega (arith, r, s, l)

pub left-preserved : goal.left-preserved
left-preserved c =
    let pairs = c.args.pairs.now in
    let k = c.left.pair-index in
    let edge = c.left.edge.items in
    let least = c.left.invariant.0 in
    let f = c.left.invariant.2 in
    let r = (pair-below pairs c.args.vars c.requires k c.left-test.true).1 in
    let s = f.size in
    let x = c.index.result.now in
    let is : x ≡ slice_index edge (pair_at pairs k).right = c.index.ensures ∙ get_or_default edge (pair_at pairs k).right x 0 (omega (arith, r, s)) in (
      least,
      c.left.invariant.1,
      subst (λ z. AreLeft pairs c.args.vars (k + 1) least (set edge (pair_at pairs k).left z)) (sym is) (left-more pairs c.args.vars c.requires least c.left.invariant.1 k c.left-test.true edge f),
    )

pub returns : goal.returns
returns c =
    let f = c.left.invariant.2 in
    let t = c.left-test.false in
    var-edges c.args.pairs.now c.args.vars c.requires c.left.invariant.0 c.left.invariant.1 c.left.edge.items
    (record { size = f.size; right = f.right; left = λ x y s. f.left x y (s.0, (let l = s.2 in omega (arith, t, l)), s.2, s.3, s.4); rest = f.rest })
