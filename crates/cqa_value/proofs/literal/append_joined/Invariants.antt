use Rattle.std.proofs.Common.{◌≡◌, ◌++◌, take, codes}
use Rattle.std.specs.List.{flat_map}
use Rattle.cqa_value.specs.Literals.{literal_bytes}
use Rattle.cqa_value.proofs.literal.append_joined.Given as goal

-- the first literal and those so far are written
abbrev pub invariant-loop-value : goal.invariant-loop-value
invariant-loop-value l = l.out.items ≡ l.initial.out.items ++ flat_map (λ value. codes ", " ++ literal_bytes value) (take l.value-index l.rest)
