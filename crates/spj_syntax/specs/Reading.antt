-- What a part of the parser gives.
use Rattle.std.specs.Prelude.{◌≡◌, ◌≤◌, ℕ, length, List, ◌++◌, Option, Some, None, Result, Ok, Err, false, IsTrue, [], ◌∷◌, codes}
use Rattle.std.specs.List.{slice_range}
use Rattle.std.specs.Str.{IsUtf8}
use Rattle.cqa_value.specs.Literals.{integer_of, are_digits, without_minus}
use Rattle.script_lex.specs.declared.kinds.Token.{Token}
use Rattle.script_lex.specs.declared.kinds.TokenKind.{TokenKind}
use Rattle.script_lex.specs.declared.kinds.TokenKind.TheVariants as kinds
use Rattle.script_lex.specs.Tokens.{IsToken, inside}
use Rattle.spj_syntax.specs.declared.reader.Stop.{Stop}
use Rattle.spj_syntax.specs.declared.reader.Stop.TheVariants.{NoMemory, Syntax}
use Rattle.spj_syntax.specs.declared.reader.Seen.{Seen}
use Rattle.spj_syntax.specs.declared.reader.Seen.TheVariants as sights
use Rattle.spj_syntax.specs.Lexemes.{Lexeme, Word, Number, Quoted, Mark, undoubled, lexeme}
use Rattle.spj_syntax.specs.declared.lists.Between.{Between}
use Rattle.spj_syntax.specs.declared.lists.Between.TheVariants.{Comma, And, Union}
use Rattle.script_lex.specs.declared.kinds.Symbol.TheVariants as s
use Rattle.spj_syntax.specs.Shapes.{Terminal, word, mark, Shape, Generates}
use Rattle.spj_syntax.specs.Parsed.{Fits, PlainFit, AllLexemesFit, IsStatement, RefusesForm, RefusesTokens, fault_of, lexemes, place_of}
use Rattle.cqa_model.specs.declared.schema.Column.{Column}
use Rattle.spj_syntax.specs.Written.{IsWrittenAs, column_tokens, cond_tokens, filtered_tokens, goal_tokens, grouped_tokens, join_goal_tokens, join_grouped_tokens, key_tokens, listed_tokens, name_tokens, select_tokens, selects_tokens, test_tokens, verb_tokens}
use Rattle.spj_syntax.specs.declared.queries.Selected.{Selected}
use Rattle.spj_syntax.specs.declared.queries.Selected.TheVariants as selections
use Rattle.spj_syntax.specs.declared.queries.UnitedVerb.{UnitedVerb}
use Rattle.spj_syntax.specs.declared.queries.UnitedVerb.TheVariants as united_verbs
use Rattle.spj_syntax.specs.declared.tree.Verb.{Verb}
use Rattle.spj_syntax.specs.declared.tree.Verb.TheVariants as verbs
use Rattle.spj_syntax.specs.declared.range_parts.Asked.{Asked}
use Rattle.spj_syntax.specs.declared.range_parts.Asked.TheVariants as aggregates
use Rattle.spj_syntax.specs.declared.range_parts.Tested.{Tested}
use Rattle.spj_syntax.specs.declared.range_parts.Several.{Several}
use Rattle.spj_syntax.specs.declared.range_parts.Rest.{Rest}
use Rattle.spj_syntax.specs.declared.range_parts.Rest.TheVariants as tails
use Rattle.spj_syntax.specs.declared.range_parts.Parts.{Parts}
use Rattle.spj_syntax.specs.declared.range_parts.Parts.TheVariants.{Plain, Dotted}
use Rattle.spj_syntax.specs.declared.tree.Statement.{Statement}
use Rattle.spj_syntax.specs.declared.fault.SyntaxFault.{SyntaxFault}
use Rattle.spj_syntax.specs.declared.fault.SyntaxFault.TheVariants.{At}
use Rattle.cqa_value.specs.declared.memory.Fail.{Fail}
use Rattle.cqa_value.specs.declared.memory.Fail.TheVariants.{Refused, NoMemory as FailNoMemory}
use Rattle.spj_syntax.specs.Walk.{read, Past, Stopped}

-- The old tokens are these and then the new ones.
abbrev pub Takes : List Lexeme → List Lexeme → List Lexeme → Type 0
Takes written old new = PlainFit old → (old ≡ written ++ new) × PlainFit new

pub record Took (p : Shape) (written old new : List Lexeme) : Type 0 where
  pub way : read p old ≡ Past new
  pub takes : Takes written old new

-- The tokens that are left begin where the shape stops, unless memory ran out.
abbrev pub StopsAt : Shape → Stop → List Lexeme → List Lexeme → Type 0
StopsAt p Syntax old new = read p old ≡ Stopped new
StopsAt p NoMemory old new = Unit {0}

pub record Failed (p : Shape) (e : Stop) (old new : List Lexeme) : Type 0 where
  pub way : StopsAt p e old new

-- A value is read where the shape is, and it is written so where all tokens fit.
abbrev pub Reads : {A : Type 0} → Shape → (A → List Lexeme) → Result A Stop → List Lexeme → List Lexeme → Type 0
Reads p written (Ok v) old new = Took p (written v) old new
Reads p written (Err e) old new = Failed p e old new

-- An item is read and stands behind the others.
pub record Pushed {A : Type 0} (p : Shape) (written : A → List Lexeme) (kept : A → Type 0) (items new_items : List A) (old new : List Lexeme) : Type 0 where
  pub item : A
  pub grown : new_items ≡ items ++ item ∷ []
  pub took : Took p (written item) old new
  pub is_kept : kept item

abbrev pub Pushes : {A : Type 0} → Shape → (A → List Lexeme) → (A → Type 0) → Result (Unit {0}) Stop → List A → List A → List Lexeme → List Lexeme → Type 0
Pushes p written kept (Ok _) items new_items old new = Pushed p written kept items new_items old new
Pushes p written kept (Err e) items new_items old new = Failed p e old new

-- what stands between the items of a list
abbrev pub separator : Between → Terminal
separator Comma = mark s.Comma
separator And = word (codes "and")
separator Union = word (codes "union")

abbrev pub separator_lexeme : Between → Lexeme
separator_lexeme Comma = Mark s.Comma
separator_lexeme And = Word (codes "and")
separator_lexeme Union = Word (codes "union")

-- each with a token behind it
abbrev pub each_before : {A : Type 0} → Lexeme → (A → List Lexeme) → List A → List Lexeme
each_before l f [] = []
each_before l f (x ∷ xs) = (f x ++ l ∷ []) ++ each_before l f xs

-- the columns and the key of a table
abbrev pub body_tokens : List Column × List (List ℕ) → List Lexeme
body_tokens (columns, key) = Mark s.Open ∷ (each_before (Mark s.Comma) column_tokens columns ++ (key_tokens key ++ Mark s.Close ∷ []))

-- one query, or the parts of a union
abbrev pub selected_tokens : Selected → List Lexeme
selected_tokens (selections.One q) = select_tokens q
selected_tokens (selections.Union u) = selects_tokens u

-- what is asked of one query or of several
abbrev pub verb_of : UnitedVerb → Verb
verb_of united_verbs.Ask = verbs.Ask
verb_of united_verbs.Possible = verbs.Possible
verb_of united_verbs.Classify = verbs.Classify
verb_of united_verbs.Sql = verbs.Sql
verb_of (united_verbs.Explain row) = verbs.Explain row

abbrev pub united_verb_tokens : UnitedVerb → List Lexeme
united_verb_tokens verb = verb_tokens (verb_of verb)

-- what is asked of the values of a column
abbrev pub aggregate_tokens : Asked → List Lexeme
aggregate_tokens aggregates.Sum = Word (codes "sum") ∷ []
aggregate_tokens aggregates.Min = Word (codes "min") ∷ []
aggregate_tokens aggregates.Max = Word (codes "max") ∷ []

-- what stands behind the first of several tables
abbrev pub behind_tokens : Several → List Lexeme
behind_tokens b = Mark s.Comma ∷ (listed_tokens name_tokens b.others ++ (filtered_tokens cond_tokens b.conds ++ join_grouped_tokens b.group))

-- what stands behind the only table
abbrev pub alone_tokens : Tested → List Lexeme
alone_tokens a = filtered_tokens test_tokens a.tests ++ grouped_tokens a.group

-- what stands behind the first table
abbrev pub tail_tokens : Rest → List Lexeme
tail_tokens (tails.Several behind) = behind_tokens behind
tail_tokens (tails.Tested alone) = alone_tokens alone

-- the tables of a range, with all behind them
abbrev pub from_tokens : List ℕ × Rest → List Lexeme
from_tokens (first, tail) = Word (codes "from") ∷ (name_tokens first ++ tail_tokens tail)

abbrev pub from_behind_tokens : List ℕ × Several → List Lexeme
from_behind_tokens (first, behind) = Word (codes "from") ∷ (name_tokens first ++ behind_tokens behind)

-- a range without its first word
abbrev pub ranged_tokens : Parts → List Lexeme
ranged_tokens (Plain goal first tail) = goal_tokens goal ++ from_tokens (first, tail)
ranged_tokens (Dotted goal first behind) = join_goal_tokens goal ++ from_behind_tokens (first, behind)

abbrev pub front_of : List Lexeme → Option Lexeme
front_of [] = None
front_of (l ∷ ls) = Some l

abbrev pub seen : Seen → Option Lexeme
seen (sights.Word b) = Some (Word b.now)
seen (sights.Int b) = Some (Number (integer_of b.now))
seen (sights.Text b) = Some (Quoted (undoubled b.now))
seen (sights.Sym s) = Some (Mark s)
seen sights.End = None

-- A word is spelled as one, an int has a digit or more, and a text is UTF-8 between its quotes.
abbrev pub IsSound : TokenKind → List ℕ → Type 0
IsSound kinds.Word bytes = IsToken kinds.Word bytes
IsSound kinds.Int bytes = IsTrue (are_digits (without_minus bytes))
IsSound kinds.Text bytes = (2 ≤ length bytes) × IsUtf8 (undoubled (inside bytes))
IsSound (kinds.Sym s) bytes = Unit {0}

-- The token lies in the text, and it is one of its kind.
pub record IsReadable (text : List ℕ) (token : Token) : Type 0 where
  pub ordered : token.span.from ≤ token.span.to
  pub within : token.span.to ≤ length text
  pub sound : IsSound token.kind (slice_range text token.span.from token.span.to)

-- what is known of the bytes that stand first
abbrev pub SeenSound : Seen → Type 0
SeenSound (sights.Word b) = IsToken kinds.Word b.now
SeenSound (sights.Int b) = IsTrue (are_digits (without_minus b.now))
SeenSound (sights.Text b) = IsUtf8 (undoubled b.now)
SeenSound (sights.Sym s) = Unit {0}
SeenSound sights.End = Unit {0}

-- what is wrong with a token alone
pub record IsUnfit (text : List ℕ) (token : Token) (fault : SyntaxFault) : Type 0 where
  pub unfit : ¬ Fits false (lexeme text token)
  pub fault_is : fault ≡ fault_of (lexeme text token) token.span.from

-- the failure of a parse that stopped before these tokens
abbrev pub failure_of : Stop → List ℕ → List Token → Fail SyntaxFault
failure_of Syntax text rest = Refused (At (place_of text rest))
failure_of NoMemory text rest = FailNoMemory

-- the answer of the parser
abbrev pub Parses : List ℕ → List Token → Result Statement (Fail SyntaxFault) → Type 0
Parses text tokens (Ok statement) = IsStatement (lexemes text tokens) × AllLexemesFit (lexemes text tokens) × IsWrittenAs statement (lexemes text tokens)
Parses text tokens (Err FailNoMemory) = Unit {0}
Parses text tokens (Err (Refused fault)) = RefusesTokens text tokens fault

-- the answer of the parser of a form that is no statement
abbrev pub ParsesForm : {A : Type 0} → Shape → (A → List Lexeme) → List ℕ → List Token → Result A (Fail SyntaxFault) → Type 0
ParsesForm p written text tokens (Ok v) = Generates p (lexemes text tokens) × PlainFit (lexemes text tokens) × (lexemes text tokens ≡ written v)
ParsesForm p written text tokens (Err FailNoMemory) = Unit {0}
ParsesForm p written text tokens (Err (Refused fault)) = RefusesForm p text tokens fault
