use Rattle.std.proofs.Common.{codes}
use Rattle.sql_text.specs.Texts.{listed_at, listed_text}
use Rattle.sql_text.proofs.Steps.{HasParts}
use Rattle.sql_text.proofs.conditions.append_sources.Given as goal

-- those so far
abbrev pub invariant-loop-place : goal.invariant-loop-place
invariant-loop-place l = HasParts l.fn.out.items (codes " CROSS JOIN ") (λ i. listed_text l.names l.steps (listed_at l.sources i)) l.place l.out.items
