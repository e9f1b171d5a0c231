use Rattle.std.proofs.Common.{take}
use Rattle.plan_rows.specs.Grouping.{IsGroupParted}
use Rattle.plan_rows.proofs.grouped.part.Given as goal

-- the atoms so far are parted
abbrev pub invariant-loop-atom : goal.invariant-loop-atom
invariant-loop-atom l = IsGroupParted l.group (take l.atom-index l.atoms) l.fn.order.items l.order.items l.others.items
