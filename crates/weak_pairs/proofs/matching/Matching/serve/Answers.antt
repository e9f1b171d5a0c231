use Rattle.std.proofs.Common.{◌≡◌, ◌<◌, ◌+◌, ℕ, arith, subst, sym}
use native.Mathlib.Decide.{ℕ_discrete}
use Rattle.weak_pairs.specs.Peeling.{IsServed}
use Rattle.weak_pairs.proofs.Peeling.{chosen-of}
use Rattle.weak_pairs.proofs.matching.Matching.serve.Goals as goal

pub loop-v-preserved : goal.loop-v-preserved
loop-v-preserved c = record {
  matching = c.walk.ensures.matching;
  settled = c.walk.ensures.settled;
  served = λ u l. served u l (ℕ_discrete u c.loop-v.v);
}
  where
    served : (u : ℕ) → u < c.loop-v.v + 1 → Dec (u ≡ c.loop-v.v) → IsServed c.walk.new.self.own.items u
    served u l (yes e) = subst (λ z. IsServed c.walk.new.self.own.items z) (sym e) c.walk.ensures.served
    served u l (no n) = c.walk.ensures.more u (c.loop-v.invariant.served u (omega arith))

pub returns : goal.returns
returns c =
    let g = c.args.graph.now in
    let m = c.loop-v.self in
    chosen-of g.start.now g.edge.now g.ends.now m.own.items m.taken.items g.blocks g.counted c.loop-v.invariant.matching
    (λ u l. c.loop-v.invariant.served u (let e = c.loop-v-test.false in omega (arith, l, e)))
