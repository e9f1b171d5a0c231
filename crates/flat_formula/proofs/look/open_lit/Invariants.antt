use Rattle.std.proofs.Common.{◌<◌, length, IfSome}
use Rattle.flat_formula.proofs.look.open_lit.Given as goal

-- the open literal is of a variable that has a value
abbrev pub invariant-loop-lit : goal.invariant-loop-lit
invariant-loop-lit l = IfSome l.open (λ lit. lit.var < length l.values)
