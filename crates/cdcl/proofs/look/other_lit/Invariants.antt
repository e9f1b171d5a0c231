use Rattle.std.proofs.Common.{◌≡◌, take}
use Rattle.std.specs.Prelude.{Contains}
use Rattle.cnf_form.specs.declared.formula.Lit.{Lit}
use Rattle.cdcl.proofs.look.other_lit.Given as goal

abbrev pub invariant-loop-lit : goal.invariant-loop-lit
invariant-loop-lit l = (m : Lit) → Contains (take l.lit-index l.clause) m → m ≡ l.first
