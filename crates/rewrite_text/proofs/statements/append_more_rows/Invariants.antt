use Rattle.std.proofs.Common.{◌≡◌, ◌++◌, codes, drop}
use Rattle.std.specs.List.{flat_map}
use Rattle.cqa_value.specs.Literals.{row_bytes}
use Rattle.rewrite_text.proofs.statements.append_more_rows.Given as goal

-- the rows so far and those that are left are all rows
abbrev pub invariant-loop-at : goal.invariant-loop-at
invariant-loop-at l = record {
  text : l.draft.out.items ++ flat_map (λ row. codes ", " ++ row_bytes row) (drop l.at l.rows) ≡ l.fn.draft.out.items ++ flat_map (λ row. codes ", " ++ row_bytes row) l.rows;
  start : l.draft.start ≡ l.fn.draft.start;
}
