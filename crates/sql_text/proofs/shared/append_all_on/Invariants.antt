use Rattle.std.proofs.Common.{◌≡◌, ◌++◌, take}
use Rattle.std.specs.List.{flat_map}
use Rattle.sql_text.specs.declared.syntax.Child.{Child}
use Rattle.sql_text.specs.Texts.{more_cmps_text}
use Rattle.sql_text.proofs.shared.append_all_on.Given as goal

-- those so far
abbrev pub invariant-loop-child : goal.invariant-loop-child
invariant-loop-child l = l.out.items ≡ l.fn.out.items ++ flat_map (λ (c : Child). more_cmps_text l.names l.steps l.sources c.on) (take l.child-index l.children)
