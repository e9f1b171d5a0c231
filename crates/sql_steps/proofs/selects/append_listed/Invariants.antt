use Rattle.std.proofs.Common.{◌≡◌, ◌++◌, map, take}
use Rattle.sql_text.specs.declared.syntax.Child.{Child}
use Rattle.sql_steps.proofs.selects.append_listed.Given as goal

-- those so far
abbrev pub invariant-loop-child : goal.invariant-loop-child
invariant-loop-child l = l.sources ≡ l.fn.sources ++ map (λ (c : Child). c.listed) (take l.child-index l.children)
