use Rattle.std.proofs.Common.{◌≡◌, ◌++◌, take}
use Rattle.std.specs.List.{flat_map}
use Rattle.cnf_form.specs.Writing.{lit_bytes}
use Rattle.cnf_form.proofs.writing.append_clause.Given as goal

abbrev pub invariant-loop-lit : goal.invariant-loop-lit
invariant-loop-lit l = l.out.items ≡ l.fn.out.items ++ flat_map lit_bytes (take l.lit-index l.lit-items)
