use Rattle.std.proofs.Common.{◌≡◌, ◌++◌, map, take}
use Rattle.cnf_form.specs.declared.formula.Lit.{Lit as Literal}
use Rattle.pair_refutation.proofs.graph.append_vars.Given as goal

abbrev pub invariant-loop-lit : goal.invariant-loop-lit
invariant-loop-lit l = l.var.items ≡ l.fn.var.items ++ map (λ (x : Literal). x.var) (take l.lit-index l.clause.lits)
