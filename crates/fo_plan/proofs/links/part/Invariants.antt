use Rattle.std.proofs.Common.{◌≡◌, ◌+◌, length}
use Rattle.fo_plan.specs.Chaining.{GoesOn}
use Rattle.fo_plan.proofs.links.part.Given as goal

-- each atom so far went to one of the two
abbrev pub invariant-loop-atom : goal.invariant-loop-atom
invariant-loop-atom l = record {
  joined : GoesOn l.atoms l.fn.joined.items l.joined.items;
  others : GoesOn l.atoms l.fn.others.items l.others.items;
  size : length l.joined.items + length l.others.items ≡ length l.fn.joined.items + length l.fn.others.items + l.atom-index;
}
