use Rattle.std.proofs.Common.{◌-◌, length}
use Rattle.script_lex.proofs.Spelling.{SoFar}
use Rattle.script_lex.proofs.lexer.tokens_of_short.Given as goal

abbrev pub invariant-pieces : goal.invariant-pieces
invariant-pieces l = SoFar l.text l.at l.found

abbrev pub decreases-pieces : goal.decreases-pieces
decreases-pieces l = length l.text - l.at
