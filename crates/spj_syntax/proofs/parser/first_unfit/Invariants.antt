use Rattle.std.proofs.Common.{take}
use Rattle.spj_syntax.specs.Parsed.{lexemes, PlainFit}
use Rattle.spj_syntax.proofs.parser.first_unfit.Given as goal

abbrev pub invariant-loop-token : goal.invariant-loop-token
invariant-loop-token l = PlainFit (lexemes l.text (take l.token-index l.tokens))
