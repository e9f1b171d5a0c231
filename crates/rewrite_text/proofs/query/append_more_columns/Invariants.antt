use Rattle.std.proofs.Common.{◌≡◌, ◌++◌, codes, take}
use Rattle.std.specs.List.{flat_map}
use Rattle.rewrite_text.specs.Texts.{qualified_name}
use Rattle.rewrite_text.proofs.query.append_more_columns.Given as goal

-- the names so far are written
abbrev pub invariant-loop-column : goal.invariant-loop-column
invariant-loop-column l = l.out.items ≡ l.fn.out.items ++ flat_map (λ column. codes ", " ++ qualified_name l.bound.db.now l.bound.query.now column) (take l.column-index l.columns)
