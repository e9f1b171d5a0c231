use Rattle.std.proofs.Common.{take}
use Rattle.cnf_form.specs.Literals.{literals}
use Rattle.block_lists.specs.Numbers.{AddsLists}
use Rattle.block_lists.proofs.clauses.add_lists.Given as goal

-- the clauses of the lists so far
abbrev pub invariant-loop-at : goal.invariant-loop-at
invariant-loop-at l = AddsLists l.bases (take l.at l.lists) (literals l.fn.clauses.items) (literals l.clauses.items)
