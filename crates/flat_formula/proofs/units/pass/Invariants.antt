use Rattle.std.proofs.Common.{◌≡◌, ◌≢◌, ℕ, Bool, length, take}
use Rattle.cnf_form.specs.Literals.{SatisfiesAll}
use Rattle.flat_formula.specs.declared.units.Turn.TheVariants as turn
use Rattle.flat_formula.specs.Looks.{Agrees, HaveTrue}
use Rattle.flat_formula.proofs.units.pass.Given as goal

-- what the clauses so far come to
abbrev pub invariant-loop-at : goal.invariant-loop-at
invariant-loop-at l = record {
  len : length l.values.items ≡ length l.fn.values.items;
  kept : (v : ℕ → Bool) → SatisfiesAll v l.formula → Agrees v l.fn.values.items → Agrees v l.values.items;
  goes_on : l.turn ≢ turn.Refuted;
  holds : l.turn ≡ turn.Holds → HaveTrue l.values.items (take l.at l.formula);
}
