use Rattle.std.proofs.Common.{codes}
use Rattle.sql_text.specs.Texts.{only_at, only_text}
use Rattle.sql_text.proofs.Steps.{HasParts}
use Rattle.sql_text.proofs.conditions.append_onlys.Given as goal

-- those so far
abbrev pub invariant-loop-place : goal.invariant-loop-place
invariant-loop-place l = HasParts l.fn.out.items (codes " AND ") (λ i. only_text l.names l.steps l.sources (only_at l.onlys i)) l.place l.out.items
