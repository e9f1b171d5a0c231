use Rattle.std.proofs.Common.{codes}
use Rattle.sql_text.specs.Texts.{answer_text}
use Rattle.sql_text.proofs.Steps.{HasParts}
use Rattle.sql_text.proofs.texts.append_answer_columns.Given as goal

-- those so far
abbrev pub invariant-loop-place : goal.invariant-loop-place
invariant-loop-place l = HasParts l.fn.out.items (codes ", ") (λ i. answer_text l.query l.names l.steps l.select i) l.place l.out.items
