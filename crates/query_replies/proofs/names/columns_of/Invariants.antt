use Rattle.std.proofs.Common.{◌≡◌, map, take}
use Rattle.cqa_model.specs.declared.query.Atom.{Atom}
use Rattle.query_replies.specs.Names.{column_names}
use Rattle.query_replies.proofs.names.columns_of.Given as goal

-- those of the atoms so far
abbrev pub invariant-loop-atom : goal.invariant-loop-atom
invariant-loop-atom l = l.columns ≡ map (λ (atom : Atom). column_names l.bound.db.now atom.table) (take l.atom-index l.atom-items)
