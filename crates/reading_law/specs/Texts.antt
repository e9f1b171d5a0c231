-- That each text says something.
use Rattle.std.specs.Prelude.{◌≡◌, ◌⊎◌, ◌≤◌, ℕ, List, length, true, All}
use Rattle.std.specs.List.{AllByRecursion}
use Rattle.cqa_value.specs.declared.value.Value.{Value}
use Rattle.cqa_value.specs.Valid.{IsValidValue, IsValidRow}
use Rattle.script_lex.specs.declared.kinds.Token.{Token}
use Rattle.script_lex.specs.declared.kinds.LexFault.{LexFault}
use Rattle.script_lex.specs.Tokens.{Spells, IsFault, longest_text}
use Rattle.spj_syntax.specs.declared.fault.SyntaxFault.{SyntaxFault}
use Rattle.spj_syntax.specs.declared.tree.RawCond.{RawCond}
use Rattle.spj_syntax.specs.declared.tree.RawCond.TheVariants.{Join, Test}
use Rattle.spj_syntax.specs.declared.tree.Select.{Select}
use Rattle.spj_syntax.specs.declared.tree.Statement.{Statement}
use Rattle.spj_syntax.specs.declared.tree.Statement.TheVariants.{Insert, SetConflicts, Asking}
use Rattle.spj_syntax.specs.declared.tree.Verb.TheVariants.{Prove}
use Rattle.spj_syntax.specs.Lexemes.{Lexeme}
use Rattle.spj_syntax.specs.Limits.{most_conflicts}
use Rattle.spj_syntax.specs.Shapes.{Shape, Generates, FirstFault}
use Rattle.spj_syntax.specs.First.{decided}
use Rattle.spj_syntax.specs.Parsed.{lexemes, IsStatement, AllLexemesFit, RefusesTokens}
use Rattle.spj_syntax.specs.Written.{IsWrittenAs}

-- The law: tokens spell a text that isn't too long, or the text has a fault.
abbrev pub TextsHaveTokens : Type 0
TextsHaveTokens = (text : List ℕ) → ((tokens : List Token) × (length text ≤ longest_text) × Spells text tokens) ⊎ ((fault : LexFault) × IsFault text fault)

-- The law: where one token ahead decides each step of a shape, it generates a list of tokens, or there is their first fault.
abbrev pub ShapesDecide : Type 0
ShapesDecide = (p : Shape) (ls : List Lexeme) → decided p ≡ true → Generates p ls ⊎ ((rest : List Lexeme) × FirstFault p ls rest)

-- The law: the tokens of a text are refused by a fault, or they are a statement and each of them fits.
abbrev pub TokensAreDecided : Type 0
TokensAreDecided = (text : List ℕ) (tokens : List Token) → ((fault : SyntaxFault) × RefusesTokens text tokens fault) ⊎ (IsStatement (lexemes text tokens) × AllLexemesFit (lexemes text tokens))

-- The law: tokens that spell a text which isn't too long, are a statement, and each fit, are those of a tree.
abbrev pub StatementsHaveTrees : Type 0
StatementsHaveTrees = (text : List ℕ) (tokens : List Token) → length text ≤ longest_text → Spells text tokens → IsStatement (lexemes text tokens) → AllLexemesFit (lexemes text tokens)
    → (statement : Statement) × IsWrittenAs statement (lexemes text tokens)

-- What a statement puts into a state can stand there: the values of its rows, and its number of conflicts.
abbrev pub IsStorable : Statement → Type 0
IsStorable (Insert table rows) = All IsValidRow rows
IsStorable (SetConflicts conflicts) = conflicts ≤ most_conflicts
IsStorable _ = Unit {0}

-- The law: what a statement puts into a state can stand there, if its tokens spell a text and each fit.
abbrev pub StatementsAreStorable : Type 0
StatementsAreStorable = (text : List ℕ) (tokens : List Token) (statement : Statement) → Spells text tokens → AllLexemesFit (lexemes text tokens) → IsWrittenAs statement (lexemes text tokens) → IsStorable statement

-- the literal of a condition, where it has one, is valid
abbrev pub HasValidLiteral : RawCond → Type 0
HasValidLiteral (Join left right) = Unit {0}
HasValidLiteral (Test col op value) = IsValidValue value

-- The law: the row that is to be proved and the literals of the query are valid, if the statement's tokens spell a text and each fit.
abbrev pub ProvesOfValidValues : Type 0
ProvesOfValidValues = (text : List ℕ) (tokens : List Token) (row : List Value) (select : Select) → Spells text tokens → AllLexemesFit (lexemes text tokens) → IsWrittenAs (Asking (Prove row) select) (lexemes text tokens)
    → IsValidRow row × AllByRecursion HasValidLiteral select.conds
