use Rattle.std.proofs.Common.{◌≡◌, ◌++◌, codes, take}
use Rattle.std.specs.List.{flat_map}
use Rattle.cqa_value.specs.Literals.{row_bytes}
use Rattle.reply_text.proofs.text.append_rows.Given as goal

-- the rows so far are written
abbrev pub invariant-loop-row : goal.invariant-loop-row
invariant-loop-row l = l.out.items ≡ l.fn.out.items ++ flat_map (λ row. row_bytes row ++ codes "\n") (take l.row-index l.rows)
