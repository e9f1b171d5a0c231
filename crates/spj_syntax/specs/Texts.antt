-- What the text of a statement is, and that of an order and of a block, which stand in a certificate alone.
use Rattle.std.specs.Prelude.{◌≡◌, ◌≤◌, ℕ, List, length}
use Rattle.script_lex.specs.declared.kinds.Token.{Token}
use Rattle.script_lex.specs.Tokens.{Spells, longest_text}
use Rattle.spj_syntax.specs.declared.tree.RawBlock.{RawBlock}
use Rattle.spj_syntax.specs.declared.tree.Statement.{Statement}
use Rattle.spj_syntax.specs.Grammar.{order, block}
use Rattle.spj_syntax.specs.Lexemes.{Lexeme}
use Rattle.spj_syntax.specs.Parsed.{lexemes, IsStatement, AllLexemesFit, PlainFit}
use Rattle.spj_syntax.specs.Shapes.{Shape, Generates}
use Rattle.spj_syntax.specs.Written.{IsWrittenAs, order_tokens, block_tokens}

-- its tokens are this statement
pub record HasStatement (text : List ℕ) (statement : Statement) : Type 0 where
  pub tokens : List Token
  pub short : length text ≤ longest_text
  pub spelled : Spells text tokens
  pub allowed : IsStatement (lexemes text tokens)
  pub fit : AllLexemesFit (lexemes text tokens)
  pub written : IsWrittenAs statement (lexemes text tokens)

-- The text is of a shape, and it is written as these tokens.
pub record IsFormOf (p : Shape) (text : List ℕ) (written : List Lexeme) : Type 0 where
  pub tokens : List Token
  pub short : length text ≤ longest_text
  pub spelled : Spells text tokens
  pub allowed : Generates p (lexemes text tokens)
  pub fit : PlainFit (lexemes text tokens)
  pub is : lexemes text tokens ≡ written

-- the text is an order of these names
abbrev pub IsOrderText : List ℕ → List (List ℕ) → Type 0
IsOrderText text names = IsFormOf order text (order_tokens names)

-- the text is this block
abbrev pub IsBlockText : List ℕ → RawBlock → Type 0
IsBlockText text raw = IsFormOf block text (block_tokens raw)

-- The law: a text is at most one statement.
abbrev pub StatementOnce : Type 0
StatementOnce = (text : List ℕ) (a b : Statement) → HasStatement text a → HasStatement text b → a ≡ b

-- The law: a text is at most one order.
abbrev pub OrderOnce : Type 0
OrderOnce = (text : List ℕ) (a b : List (List ℕ)) → IsOrderText text a → IsOrderText text b → a ≡ b

-- The law: a text is at most one block.
abbrev pub BlockOnce : Type 0
BlockOnce = (text : List ℕ) (a b : RawBlock) → IsBlockText text a → IsBlockText text b → a ≡ b
