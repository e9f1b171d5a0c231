use Rattle.std.proofs.Common.{◌≡◌, replicate}
use Rattle.cnf_form.specs.declared.formula.Truth.TheVariants as truth
use Rattle.flat_formula.proofs.guess.open_values.Given as goal

-- so many are open
abbrev pub invariant-loop-value : goal.invariant-loop-value
invariant-loop-value l = l.values.items ≡ replicate l._value truth.Open
