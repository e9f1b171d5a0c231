use Rattle.std.proofs.Common.{take}
use Rattle.flat_formula.specs.Looks.{IsLook}
use Rattle.flat_formula.proofs.look.look_at.Given as goal

-- the look at the literals so far
abbrev pub invariant-loop-lit : goal.invariant-loop-lit
invariant-loop-lit l = IsLook l.values (take l.lit-index l.clause) l.look
