-- Tokens that spell a text, are a statement and each fit, have a tree.
use Rattle.std.proofs.Common.{Bool, arith}
use Rattle.std.proofs.lemmas.List.{length-map}
use Rattle.script_lex.specs.declared.kinds.TokenKind.TheVariants.{Word, Int, Text, Sym}
use Rattle.spj_syntax.specs.Lexemes.{lexeme}
use Rattle.spj_syntax.specs.Parsed.{lexemes, is_set}
use Rattle.spj_syntax.proofs.Spelled.{spelled_few}
use Rattle.reading_law.specs.Texts.{StatementsHaveTrees}
use Rattle.reading_law.proofs.Combining.{IsLegal}
use Rattle.reading_law.proofs.Legal.{HoldsOfSound, each_spelled}
use Rattle.reading_law.proofs.Statements.{statement_tree}

legal : (set : Bool) → HoldsOfSound set IsLegal
legal set Word bytes sound fits = (sound, fits)
legal set Int bytes sound fits = tt
legal set Text bytes sound fits = tt
legal set (Sym s) bytes sound fits = tt

pub statements_have_trees : StatementsHaveTrees
statements_have_trees text tokens short spelled is fit =
    statement_tree (lexemes text tokens)
    (record {
      each = each_spelled IsLegal text tokens (legal (is_set (lexemes text tokens))) spelled fit;
      few = omega (arith, short, length-map tokens (lexeme text), spelled_few spelled);
    })
    is fit
