use Rattle.std.proofs.Common.{◌≡◌, ℕ, Bool, length}
use Rattle.cnf_form.specs.Literals.{SatisfiesAll}
use Rattle.flat_formula.specs.Looks.{Agrees}
use Rattle.flat_formula.proofs.units.propagate.Given as goal

-- what the turns so far come to
abbrev pub invariant-loop-turn : goal.invariant-loop-turn
invariant-loop-turn l = record {
  len : length l.values.items ≡ length l.fn.values.items;
  kept : (v : ℕ → Bool) → SatisfiesAll v l.formula → Agrees v l.fn.values.items → Agrees v l.values.items;
}
