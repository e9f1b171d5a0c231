use Rattle.std.proofs.Common.{◌≡◌, ◌++◌, take}
use Rattle.cqa_value.specs.Literals.{doubled}
use Rattle.cqa_value.proofs.literal.append_doubled.Given as goal

-- the bytes so far are written
abbrev pub invariant-loop-byte : goal.invariant-loop-byte
invariant-loop-byte l = l.out.items ≡ l.fn.out.items ++ doubled (take l.byte-index l.bytes)
