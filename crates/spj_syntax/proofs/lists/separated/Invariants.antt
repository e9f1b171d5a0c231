use Rattle.std.proofs.Common.{length, ◌<◌, ◌≤◌, ◌+◌}
use Rattle.std.specs.List.{All}
use Rattle.spj_syntax.specs.Shapes.{one, ◌⨾◌, many}
use Rattle.spj_syntax.specs.Limits.{most_tokens}
use Rattle.spj_syntax.specs.Grammar.{separated}
use Rattle.spj_syntax.specs.Reading.{separator, separator_lexeme}
use Rattle.spj_syntax.specs.Written.{between}
use Rattle.spj_syntax.proofs.Steps.{Rest}
use Rattle.spj_syntax.proofs.lists.separated.Given as goal

-- Each item took a token, so there are not too many.
abbrev pub invariant-items : goal.invariant-items
invariant-items g l = record {
  rest : Rest (separated (separator l.token) g.P.Piece.shape) (many (one (separator l.token) ⨾ g.P.Piece.shape)) (between (separator_lexeme l.token) g.P.Piece.tokens l.items) l.fn.reader l.reader;
  started : 0 < length l.items;
  room : length l.items + length l.reader ≤ most_tokens;
  each : All (λ x. g.P.Piece.kept x) l.items;
}

abbrev pub decreases-items : goal.decreases-items
decreases-items g l = length l.reader
