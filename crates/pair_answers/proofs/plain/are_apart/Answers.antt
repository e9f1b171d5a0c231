use Rattle.std.proofs.Common.{◌≡◌, ◌≢◌, ◌<◌, ◌+◌, ℕ, sym, subst, arith}
use native.Mathlib.Decide.{ℕ_discrete}
use Rattle.cqa_model.specs.Variables.{AreLinked}
use Rattle.table_blocks.proofs.Binding.{in-range}
use Rattle.pair_answers.proofs.plain.are_apart.Goals as goal

pub is_apart-requires-clause-first : goal.is_apart-requires-clause-first
is_apart-requires-clause-first c = in-range c.args.bound.now.query.now c.args.atom c.loop-i.i (let t = c.loop-i-test.true in let w = c.width_of-columns.ensures in omega (arith, t, w))

pub is_apart-requires-clause-second : goal.is_apart-requires-clause-second
is_apart-requires-clause-second c = in-range c.args.bound.now.query.now c.args.atom c.loop-j.j (let t = c.loop-j-test.true in let w = c.width_of-columns.ensures in omega (arith, t, w))

pub loop-j-preserved : goal.loop-j-preserved
loop-j-preserved c = λ b l. go b l (ℕ_discrete b c.loop-j.j)
  where
    go : (b : ℕ) → b < c.loop-j.j + 1 → Dec (b ≡ c.loop-j.j) → c.loop-i.i ≢ b → AreLinked c.args.bound.now.query.now (record { atom = c.args.atom; col = c.loop-i.i }) (record { atom = c.args.atom; col = b }) → ⊥
    go b l (yes e) = subst (λ z. c.loop-i.i ≢ z → AreLinked c.args.bound.now.query.now (record { atom = c.args.atom; col = c.loop-i.i }) (record { atom = c.args.atom; col = z }) → ⊥) (sym e) (c.is_apart.ensures c.if-not-is_apart.false)
    go b l (no n) = c.loop-j.invariant b (omega (arith, l, n))

pub loop-i-preserved : goal.loop-i-preserved
loop-i-preserved c = λ a b la lb. go a b la lb (ℕ_discrete a c.loop-i.i)
  where
    go : (a b : ℕ) → a < c.loop-i.i + 1 → b < c.width_of-columns.result → Dec (a ≡ c.loop-i.i) → a ≢ b → AreLinked c.args.bound.now.query.now (record { atom = c.args.atom; col = a }) (record { atom = c.args.atom; col = b }) → ⊥
    go a b la lb (yes e) = subst (λ z. z ≢ b → AreLinked c.args.bound.now.query.now (record { atom = c.args.atom; col = z }) (record { atom = c.args.atom; col = b }) → ⊥) (sym e) (c.loop-j.invariant b (let t = c.loop-j-test.false in omega (arith, lb, t)))
    go a b la lb (no n) = c.loop-i.invariant a b (omega (arith, la, n)) lb

pub returns : goal.returns
returns c = λ _ i j li lj. c.loop-i.invariant i j (let t = c.loop-i-test.false in let w = c.width_of-columns.ensures in omega (arith, li, t, w)) (let w = c.width_of-columns.ensures in omega (arith, lj, w))
