use Rattle.std.proofs.Common.{codes}
use Rattle.sql_text.specs.Texts.{cmp_at, cmp_text}
use Rattle.sql_text.proofs.Steps.{HasParts}
use Rattle.sql_text.proofs.conditions.append_cmps.Given as goal

-- those so far
abbrev pub invariant-loop-place : goal.invariant-loop-place
invariant-loop-place l = HasParts l.fn.out.items (codes " AND ") (λ i. cmp_text l.names l.steps l.sources (cmp_at l.cmps i)) l.place l.out.items
