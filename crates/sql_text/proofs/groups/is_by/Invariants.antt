use Rattle.std.proofs.Common.{◌≡◌, false, take}
use Rattle.sql_text.specs.Texts.{is_by}
use Rattle.sql_text.proofs.groups.is_by.Given as goal

-- those so far
abbrev pub invariant-loop-other : goal.invariant-loop-other
invariant-loop-other l = is_by (take l.other-index l.cells) l.cell ≡ false
