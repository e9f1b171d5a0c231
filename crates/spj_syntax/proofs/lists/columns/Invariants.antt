use Rattle.std.proofs.Common.{length, ◌<◌}
use Rattle.script_lex.specs.declared.kinds.Symbol.TheVariants.{Comma}
use Rattle.spj_syntax.specs.Lexemes.{Mark}
use Rattle.spj_syntax.specs.Shapes.{one, mark, ◌⨾◌, many}
use Rattle.spj_syntax.specs.Grammar.{column}
use Rattle.spj_syntax.specs.Factored.{columns}
use Rattle.spj_syntax.specs.Written.{column_tokens}
use Rattle.cqa_model.specs.Valid.{IsName}
use Rattle.std.specs.List.{All}
use Rattle.spj_syntax.specs.Reading.{each_before}
use Rattle.spj_syntax.proofs.Steps.{Rest}
use Rattle.spj_syntax.proofs.lists.columns.Given as goal

abbrev pub invariant-items : goal.invariant-items
invariant-items l = record {
  rest : Rest columns (many (column ⨾ one (mark Comma))) (each_before (Mark Comma) column_tokens l.items) l.fn.reader l.reader;
  started : 0 < length l.items;
  each : All (λ c. IsName c.name) l.items;
}

abbrev pub decreases-items : goal.decreases-items
decreases-items l = length l.reader
