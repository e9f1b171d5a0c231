use Rattle.std.proofs.Common.{◌≡◌, ◌++◌, codes, take}
use Rattle.std.specs.List.{flat_map}
use Rattle.schema_text.specs.Text.{column_text}
use Rattle.schema_text.proofs.text.append_columns.Given as goal

-- the columns so far are written
abbrev pub invariant-loop-column : goal.invariant-loop-column
invariant-loop-column l = l.out.items ≡ l.fn.out.items ++ flat_map (λ column. column_text column ++ codes ", ") (take l.column-index l.columns)
