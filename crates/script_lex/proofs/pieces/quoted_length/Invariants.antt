use Rattle.script_lex.proofs.Quotes.{TextSoFar}
use Rattle.script_lex.proofs.pieces.quoted_length.Given as goal

abbrev pub invariant-loop-i : goal.invariant-loop-i
invariant-loop-i l = TextSoFar l.bytes l.i l.inside l.last
