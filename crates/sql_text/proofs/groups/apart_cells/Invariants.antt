use Rattle.std.proofs.Common.{◌≡◌, take}
use Rattle.sql_text.specs.Texts.{apart_cells}
use Rattle.sql_text.proofs.groups.apart_cells.Given as goal

-- those so far
abbrev pub invariant-loop-cell : goal.invariant-loop-cell
invariant-loop-cell l = l.list ≡ apart_cells l.by (take l.cell-index l.cells)
