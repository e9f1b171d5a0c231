use Rattle.std.proofs.Common.{◌≡◌, ◌++◌}
use Rattle.std.specs.List.{flat_map}
use Rattle.csv_rows.specs.Ends.{other_rows}
use Rattle.csv_rows.specs.Dumps.{insert_text}
use Rattle.csv_rows.proofs.table.append_inserts.Given as goal

-- the statements so far and those of the rows that are left are all statements
abbrev pub invariant-loop-row : goal.invariant-loop-row
invariant-loop-row l =
    l.out.items ++ flat_map (λ row. insert_text l.name row) (other_rows l.row-iterator) ≡ l.fn.out.items ++ flat_map (λ row. insert_text l.name row) (other_rows l.rows)
