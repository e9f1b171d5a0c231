use Rattle.std.proofs.Common.{◌≡◌, ◌++◌, codes, take}
use Rattle.std.specs.List.{flat_map}
use Rattle.cqa_model.specs.declared.query.Atom.{Atom}
use Rattle.rewrite_text.specs.Texts.{name_at}
use Rattle.rewrite_text.proofs.query.append_more_tables.Given as goal

-- the names so far are written
abbrev pub invariant-loop-atom : goal.invariant-loop-atom
invariant-loop-atom l = l.out.items ≡ l.fn.out.items ++ flat_map (λ (atom : Atom). codes ", " ++ name_at l.db atom.table) (take l.atom-index l.atoms)
