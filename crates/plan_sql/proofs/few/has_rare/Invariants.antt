use Rattle.std.proofs.Common.{◌≡◌, false, take}
use Rattle.std.specs.List.{list_any}
use Rattle.sql_steps.specs.declared.part.Part.{Part}
use Rattle.plan_sql.proofs.few.has_rare.Given as goal

-- those so far
abbrev pub invariant-loop-part : goal.invariant-loop-part
invariant-loop-part l = list_any (λ (p : Part). p.rare) (take l.part-index l.parts) ≡ false
