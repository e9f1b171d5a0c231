-- What the text of a statement says.
use Rattle.std.specs.Prelude.{◌≡◌, ◌⊎◌, ◌≤◌, ℕ, List, Result, Ok, Err, length}
use Rattle.cqa_value.specs.declared.memory.Fail.{Fail}
use Rattle.cqa_value.specs.declared.memory.Fail.TheVariants.{NoMemory, Refused}
use Rattle.script_lex.specs.declared.kinds.Token.{Token}
use Rattle.script_lex.specs.declared.kinds.LexFault.{LexFault}
use Rattle.script_lex.specs.declared.kinds.LexFault.TheVariants as lexing
use Rattle.script_lex.specs.Tokens.{Spells, IsFault, longest_text}
use Rattle.spj_syntax.specs.declared.fault.SyntaxFault.{SyntaxFault}
use Rattle.spj_syntax.specs.declared.fault.SyntaxFault.TheVariants as parsing
use Rattle.spj_syntax.specs.declared.tree.Statement.{Statement}
use Rattle.spj_syntax.specs.Parsed.{RefusesTokens}
use Rattle.spj_syntax.specs.Texts.{HasStatement}
use Rattle.refusals.specs.declared.refusal.Refusal.{Refusal}
use Rattle.refusals.specs.declared.refusal.Refusal.TheVariants.{BadByte, Syntax, StatementTooLong, OutOfRange, TextTooLong, Limit}
use Rattle.refusals.specs.declared.refusal.LimitKind.TheVariants.{Name}

-- the refusal that a fault of the tokens, or of the parser, becomes
abbrev pub of_lexing : LexFault → Refusal
of_lexing (lexing.TooLong size) = StatementTooLong size
of_lexing (lexing.BadByte at) = BadByte at

abbrev pub of_parsing : SyntaxFault → Refusal
of_parsing (parsing.At at) = Syntax at
of_parsing (parsing.OutOfRange at) = OutOfRange at
of_parsing (parsing.TextTooLong at) = TextTooLong at
of_parsing (parsing.LongName at) = Limit Name

-- the text is too long, or holds a bad byte
pub record HasNoTokens (text : List ℕ) (refusal : Refusal) : Type 0 where
  pub fault : LexFault
  pub cause : IsFault text fault
  pub is : refusal ≡ of_lexing fault

-- its tokens are no statement, or one of them is out of its limits
pub record SaysNoStatement (text : List ℕ) (refusal : Refusal) : Type 0 where
  pub tokens : List Token
  pub short : length text ≤ longest_text
  pub spelled : Spells text tokens
  pub fault : SyntaxFault
  pub cause : RefusesTokens text tokens fault
  pub is : refusal ≡ of_parsing fault

-- the statement that a text is, or the first of the checks on its form that fails
abbrev pub Says : List ℕ → Result Statement Refusal → Type 0
Says text (Ok statement) = HasStatement text statement
Says text (Err refusal) = HasNoTokens text refusal ⊎ SaysNoStatement text refusal

-- The law: a text says at most one thing.
abbrev pub SaysOneThing : Type 0
SaysOneThing = (text : List ℕ) (a b : Result Statement Refusal) → Says text a → Says text b → a ≡ b

-- The law: a text says something.
abbrev pub SaysSomething : Type 0
SaysSomething = (text : List ℕ) → (said : Result Statement Refusal) × Says text said

-- what a text says was read, or memory ran out
abbrev pub IsReadAs : List ℕ → Result Statement (Fail Refusal) → Type 0
IsReadAs text (Ok statement) = HasStatement text statement
IsReadAs text (Err NoMemory) = Unit {0}
IsReadAs text (Err (Refused refusal)) = Says text (Err refusal)
