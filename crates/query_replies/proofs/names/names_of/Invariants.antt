use Rattle.std.proofs.Common.{◌≡◌, map, take}
use Rattle.cqa_model.specs.declared.schema.Column.{Column}
use Rattle.query_replies.proofs.names.names_of.Given as goal

-- the names so far
abbrev pub invariant-loop-column : goal.invariant-loop-column
invariant-loop-column l = l.names ≡ map (λ (column : Column). column.name) (take l.column-index l.columns)
