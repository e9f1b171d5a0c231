use Rattle.std.proofs.Common.{◌≡◌, ◌++◌, take, codes}
use Rattle.std.specs.List.{flat_map}
use Rattle.sql_text.specs.declared.syntax.Cell.{Cell}
use Rattle.sql_text.specs.Texts.{cell_text}
use Rattle.sql_text.proofs.shared.append_more_by.Given as goal

-- those so far
abbrev pub invariant-loop-cell : goal.invariant-loop-cell
invariant-loop-cell l = l.out.items ≡ l.fn.out.items ++ flat_map (λ (c : Cell). codes ", " ++ cell_text l.names l.steps l.sources c) (take l.cell-index l.cells)
