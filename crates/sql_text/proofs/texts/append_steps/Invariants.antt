use Rattle.std.proofs.Common.{codes}
use Rattle.sql_text.specs.Texts.{step_at, step_text}
use Rattle.sql_text.proofs.Steps.{HasParts}
use Rattle.sql_text.proofs.texts.append_steps.Given as goal

-- those so far
abbrev pub invariant-loop-place : goal.invariant-loop-place
invariant-loop-place l = HasParts l.fn.out.items (codes ",\n") (λ i. step_text l.names l.steps (step_at l.steps i)) l.place l.out.items
