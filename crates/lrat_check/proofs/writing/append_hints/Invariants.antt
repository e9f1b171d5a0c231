use Rattle.std.proofs.Common.{◌≡◌, ◌++◌, take}
use Rattle.std.specs.List.{flat_map}
use Rattle.lrat_check.specs.Writing.{hint_bytes}
use Rattle.lrat_check.proofs.writing.append_hints.Given as goal

abbrev pub invariant-loop-hint : goal.invariant-loop-hint
invariant-loop-hint l = l.out.items ≡ l.fn.out.items ++ flat_map hint_bytes (take l.hint-index l.hints)
