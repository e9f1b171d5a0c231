use Rattle.std.proofs.Common.{◌≡◌, ◌++◌, codes, take}
use Rattle.std.specs.List.{flat_map}
use Rattle.rewrite_text.specs.Texts.{atom_name}
use Rattle.rewrite_text.proofs.query.append_more_atoms.Given as goal

-- the names so far are written
abbrev pub invariant-loop-atom : goal.invariant-loop-atom
invariant-loop-atom l = l.out.items ≡ l.fn.out.items ++ flat_map (λ F. codes ", " ++ atom_name l.bound.db.now l.bound.query.now F) (take l.atom-index l.atoms)
