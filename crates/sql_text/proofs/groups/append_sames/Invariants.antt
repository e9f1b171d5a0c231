use Rattle.std.proofs.Common.{codes}
use Rattle.sql_text.specs.Texts.{cell_at, same_text}
use Rattle.sql_text.proofs.Steps.{HasParts}
use Rattle.sql_text.proofs.groups.append_sames.Given as goal

-- those so far
abbrev pub invariant-loop-place : goal.invariant-loop-place
invariant-loop-place l = HasParts l.fn.out.items (codes " AND ") (λ i. same_text l.names l.steps l.sources (cell_at l.cells i)) l.place l.out.items
