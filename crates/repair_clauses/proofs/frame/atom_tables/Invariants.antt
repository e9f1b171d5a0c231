use Rattle.std.proofs.Common.{◌≡◌, map, take}
use Rattle.cqa_model.specs.declared.query.Atom.{Atom}
use Rattle.repair_clauses.proofs.frame.atom_tables.Given as goal

-- the tables of the atoms so far
abbrev pub invariant-loop-atom : goal.invariant-loop-atom
invariant-loop-atom l = l.tables.items ≡ map (λ (a : Atom). a.table) (take l.atom-index l.query.atoms)
