use Rattle.std.proofs.Common.{codes}
use Rattle.sql_text.specs.Texts.{of_size_text}
use Rattle.sql_text.proofs.Steps.{HasParts}
use Rattle.sql_text.proofs.shared.append_of_sizes.Given as goal

-- those so far
abbrev pub invariant-loop-place : goal.invariant-loop-place
invariant-loop-place l = HasParts l.fn.out.items (codes " AND ") (λ i. of_size_text l.names l.steps l.sources l.by i) l.place l.out.items
