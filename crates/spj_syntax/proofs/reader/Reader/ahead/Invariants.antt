use Rattle.std.proofs.Common.{◌≤◌}
use Rattle.spj_syntax.proofs.reader.Reader.ahead.Given as goal

-- no more commas than tokens
abbrev pub invariant-loop-count : goal.invariant-loop-count
invariant-loop-count l = l.commas ≤ l.count
