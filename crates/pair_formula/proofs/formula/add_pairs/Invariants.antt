use Rattle.std.proofs.Common.{take}
use Rattle.cnf_form.specs.Literals.{literals}
use Rattle.join_access.specs.Listing.{names_of}
use Rattle.pair_formula.specs.Full.{AddsPairs}
use Rattle.pair_formula.proofs.formula.add_pairs.Given as goal

-- the clauses of the witnesses so far
abbrev pub invariant-loop-witness : goal.invariant-loop-witness
invariant-loop-witness l = AddsPairs l.blocks.spans (names_of (take l.witness-index l.witnesses)) (literals l.fn.clauses.items) (literals l.clauses.items)
