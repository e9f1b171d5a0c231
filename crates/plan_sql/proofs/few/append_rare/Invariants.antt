use Rattle.std.proofs.Common.{◌≡◌, ◌++◌, take}
use Rattle.plan_sql.specs.Statement.{rare_only}
use Rattle.plan_sql.proofs.few.append_rare.Given as goal

-- those so far
abbrev pub invariant-loop-part : goal.invariant-loop-part
invariant-loop-part l = l.only ≡ l.fn.only ++ rare_only l.shape.query.now l.atom (take l.part-index l.parts)
