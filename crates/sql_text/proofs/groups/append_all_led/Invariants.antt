use Rattle.std.proofs.Common.{codes}
use Rattle.sql_text.specs.Texts.{child_at, led_text}
use Rattle.sql_text.proofs.Steps.{HasParts}
use Rattle.sql_text.proofs.groups.append_all_led.Given as goal

-- those so far
abbrev pub invariant-loop-place : goal.invariant-loop-place
invariant-loop-place l = HasParts l.fn.out.items (codes " AND ") (λ i. led_text (child_at l.children i)) l.place l.out.items
