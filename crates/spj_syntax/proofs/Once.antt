-- A text is one statement at most, one order and one block.
use Rattle.std.proofs.Common.{◌≡◌, ℕ, List, ap, sym, ◌∙◌}
use Rattle.script_lex.proofs.Spelling.{spells_same}
use Rattle.spj_syntax.specs.Lexemes.{Lexeme}
use Rattle.spj_syntax.specs.Parsed.{lexemes}
use Rattle.spj_syntax.specs.Shapes.{Shape}
use Rattle.spj_syntax.specs.Texts.{IsFormOf, StatementOnce, OrderOnce, BlockOnce}
use Rattle.spj_syntax.proofs.Trees.{statement_same, order_same, block_same}

pub statement_once : StatementOnce
statement_once text a b f g = let v = f.written in let w = g.written in statement_same a b (sym v.tokens ∙ ap (lexemes text) (spells_same f.spelled g.spelled) ∙ w.tokens)

same_tokens : (p : Shape) (text : List ℕ) (a b : List Lexeme) → IsFormOf p text a → IsFormOf p text b → a ≡ b
same_tokens p text a b f g = sym f.is ∙ ap (lexemes text) (spells_same f.spelled g.spelled) ∙ g.is

pub order_once : OrderOnce
order_once text a b f g = order_same a b (same_tokens _ text _ _ f g)

pub block_once : BlockOnce
block_once text a b f g = block_same a b (same_tokens _ text _ _ f g)
