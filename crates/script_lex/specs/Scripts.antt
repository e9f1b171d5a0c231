-- How a script is cut into statements.
use Rattle.std.specs.Prelude.{◌≡◌, ◌⊎◌, ◌+◌, ◌<◌, ◌≤◌, ◌==◌, ℕ, Bool, true, false, not, ◌&&◌, ◌||◌, List, [], ◌∷◌, ◌++◌, if◌then◌else◌, length, take, drop, slice_range, codes, Option, Some, None, IfSome}
use Rattle.std.specs.Option.{option_map}
use Rattle.std.specs.List.{AllByRecursion}
use Rattle.script_lex.specs.declared.kinds.Span.{Span}
use Rattle.script_lex.specs.declared.cutting.Cut.{Cut}
use Rattle.script_lex.specs.declared.cutting.Cut.TheVariants as cuts
use Rattle.script_lex.specs.declared.modes.Mode.{Mode}
use Rattle.script_lex.specs.declared.modes.Mode.TheVariants.{Outside, Dash, Text, Comment}
use Rattle.script_lex.specs.Bytes.{line_feed, quote, dash, semicolon, is_blank, is_line_blank, is_word_byte, is_not_line_feed, AllPass}

-- Where the byte after this one stands. A `'` outside begins a text and the next one ends it; two dashes outside begin a comment, which ends before a line feed.
abbrev pub after : Mode → ℕ → Mode
after Outside b = if b == quote then Text else (if b == dash then Dash else Outside)
after Dash b = if b == quote then Text else (if b == dash then Comment else Outside)
after Text b = if b == quote then Outside else Text
after Comment b = if b == line_feed then Outside else Comment

-- outside texts and comments
abbrev pub is_outside : Mode → Bool
is_outside Outside = true
is_outside Dash = true
is_outside Text = false
is_outside Comment = false

-- From one mode the bytes lead to another, and each passes a test in its mode.
abbrev pub Leads : (Mode → ℕ → Bool) → Mode → List ℕ → Mode → Type 0
Leads passes from [] to = from ≡ to
Leads passes from (b ∷ bytes) to = (passes from b ≡ true) × Leads passes (after from b) bytes to

-- a blank, or a byte of a comment
abbrev pub is_gap_byte : Mode → ℕ → Bool
is_gap_byte Outside b = is_blank b || b == dash
is_gap_byte Dash b = b == dash
is_gap_byte Text b = false
is_gap_byte Comment b = true

-- any byte but a `;` outside texts and comments
abbrev pub is_text_byte : Mode → ℕ → Bool
is_text_byte mode b = not (is_outside mode && b == semicolon)

-- blanks, and comments with their line feeds
pub record IsGap (bytes : List ℕ) : Type 0 where
  pub leads : Leads is_gap_byte Outside bytes Outside

-- blanks and comments, of which the last may run to the end
pub record IsSpace (bytes : List ℕ) : Type 0 where
  pub ends : Mode
  pub leads : Leads is_gap_byte Outside bytes ends
  pub whole : ends ≡ Dash → ⊥

-- it begins with no blank and no comment
abbrev pub BeginsOutright : List ℕ → Type 0
BeginsOutright [] = Unit {0}
BeginsOutright (a ∷ []) = is_blank a ≡ false
BeginsOutright (a ∷ b ∷ _) = (is_blank a ≡ false) × (a ≡ dash → b ≡ dash → ⊥)

-- the text of a statement: no `;` stands outside its texts and comments, all of which end in it
pub record IsText (text : List ℕ) : Type 0 where
  pub outright : BeginsOutright text
  pub ends : Mode
  pub leads : Leads is_text_byte Outside text ends
  pub closed : is_outside ends ≡ true

-- no letter, digit or `_` stands first
abbrev pub BeginsWithNoWordByte : List ℕ → Type 0
BeginsWithNoWordByte [] = Unit {0}
BeginsWithNoWordByte (b ∷ _) = is_word_byte b ≡ false

-- it begins with the word copy
pub record IsCopy (text : List ℕ) : Type 0 where
  pub more : List ℕ
  pub copy : text ≡ codes "copy" ++ more
  pub word : BeginsWithNoWordByte more

-- the rest of a line that is blank, with its line feed
pub record IsLineEnd (bytes : List ℕ) : Type 0 where
  pub blanks : List ℕ
  pub each : AllPass is_line_blank blanks
  pub is : bytes ≡ blanks ++ line_feed ∷ []

-- What is skipped before a block: the rest of the line where that is blank, else nothing.
pub record Skips (bytes skipped body : List ℕ) : Type 0 where
  pub whole : bytes ≡ skipped ++ body
  pub is : IsLineEnd skipped ⊎ ((skipped ≡ []) × ((line more : List ℕ) → IsLineEnd line → bytes ≡ line ++ more → ⊥))

-- a backslash and a dot, and perhaps a carriage return
abbrev pub IsEndingLine : List ℕ → Type 0
IsEndingLine line = (line ≡ codes "\\.") ⊎ (line ≡ codes "\\.\r")

-- a line of a block
pub record IsBlockLine (line : List ℕ) : Type 0 where
  pub one : AllPass is_not_line_feed line
  pub inner : IsEndingLine line → ⊥

-- the lines, each with its line feed
abbrev pub lines_text : List (List ℕ) → List ℕ
lines_text [] = []
lines_text (line ∷ lines) = line ++ line_feed ∷ lines_text lines

-- an ending line with its line feed, or where the input has ended at its end
abbrev pub EndsBlock : Bool → List ℕ → List ℕ → Type 0
EndsBlock ended bytes rest = (line : List ℕ) × IsEndingLine line × ((bytes ≡ line ++ line_feed ∷ rest) ⊎ ((ended ≡ true) × (bytes ≡ line) × (rest ≡ [])))

-- The bytes are a block, up to the first ending line, that line and a rest.
pub record IsCopyBlock (ended : Bool) (bytes block rest : List ℕ) : Type 0 where
  pub lines : List (List ℕ)
  pub each : AllByRecursion IsBlockLine lines
  pub is : block ≡ lines_text lines
  pub tail : List ℕ
  pub whole : bytes ≡ block ++ tail
  pub ends : EndsBlock ended tail rest

-- What follows the `;` of a statement: the rest, or for a copy what is skipped, its block and the rest.
abbrev pub Follows : Bool → List ℕ → Option (List ℕ × List ℕ) → List ℕ → List ℕ → Type 0
Follows ended text None bytes rest = (IsCopy text → ⊥) × (bytes ≡ rest)
Follows ended text (Some (skipped, block)) bytes rest = IsCopy text × (body : List ℕ) × Skips bytes skipped body × IsCopyBlock ended body block rest

-- The bytes begin with a complete statement: a gap, its text, a `;`, what is skipped and its block where it has one. A rest follows.
pub record First (ended : Bool) (bytes gap text : List ℕ) (block : Option (List ℕ × List ℕ)) (rest : List ℕ) : Type 0 where
  pub is_gap : IsGap gap
  pub is_text : IsText text
  pub more : List ℕ
  pub whole : bytes ≡ gap ++ (text ++ semicolon ∷ more)
  pub follows : Follows ended text block more rest

-- a statement's text, and its block if it has one
abbrev pub Statement : Type 0
Statement = List ℕ × Option (List ℕ)

-- the statement between these places
abbrev pub statement_at : List ℕ → Span → Option Span → Statement
statement_at bytes text block = (slice_range bytes text.from text.to, option_map (λ b. slice_range bytes b.from b.to) block)

-- the bytes begin with this statement, and this rest follows
pub record StartsWith (ended : Bool) (bytes : List ℕ) (statement : Statement) (rest : List ℕ) : Type 0 where
  pub gap : List ℕ
  pub block : Option (List ℕ × List ℕ)
  pub first : First ended bytes gap statement.0 block rest
  pub is_block : statement.1 ≡ option_map (λ p. p.1) block

-- no complete statement stands first
abbrev pub HasNoStatement : Bool → List ℕ → Type 0
HasNoStatement ended bytes = (statement : Statement) (rest : List ℕ) → StartsWith ended bytes statement rest → ⊥

-- the input is these statements, one after another, and a rest
abbrev pub Begins : Bool → List ℕ → List Statement → List ℕ → Type 0
Begins ended input [] rest = input ≡ rest
Begins ended input (statement ∷ statements) rest = (mid : List ℕ) × StartsWith ended input statement mid × Begins ended mid statements rest

-- The cut of an input, which has ended or not: all its complete statements, and a rest without any.
pub record Cuts (ended : Bool) (input : List ℕ) (statements : List Statement) (rest : List ℕ) : Type 0 where
  pub begins : Begins ended input statements rest
  pub over : HasNoStatement ended rest

-- The law: at most one cut exists for an input and its end.
abbrev pub AtMostOneCut : Type 0
AtMostOneCut = (ended : Bool) (input : List ℕ) (s t : List Statement) (r q : List ℕ) → Cuts ended input s r → Cuts ended input t q → (s ≡ t) × (r ≡ q)

-- The law: what is cut of an input that hasn't ended stands, whatever follows.
abbrev pub CutsGoOn : Type 0
CutsGoOn = (ended : Bool) (input more : List ℕ) (s t : List Statement) (r q : List ℕ) → Cuts false input s r → Cuts ended (input ++ more) t q → (later : List Statement) × (t ≡ s ++ later)

-- the spans of a statement stand in their order, within so many bytes
pub record InOrder (size : ℕ) (text : Span) (block : Option Span) (rest : ℕ) : Type 0 where
  pub begins : text.from ≤ text.to
  pub ends : text.to < rest
  pub within : rest ≤ size
  pub block_within : IfSome block (λ b. (text.to < b.from) × (b.from ≤ b.to) × (b.to ≤ rest))

-- what is skipped before a block, and the block
abbrev pub block_at : List ℕ → ℕ → Option Span → Option (List ℕ × List ℕ)
block_at bytes to block = option_map (λ b. (slice_range bytes (to + 1) b.from, slice_range bytes b.from b.to)) block

-- What stands first in some bytes: a statement between its places, blanks and comments alone, or more than these and no complete statement.
abbrev pub IsCut : Bool → List ℕ → Cut → Type 0
IsCut ended bytes (cuts.Statement text block rest) = InOrder (length bytes) text block rest
    × First ended bytes (take text.from bytes) (slice_range bytes text.from text.to) (block_at bytes text.to block) (drop rest bytes)
IsCut ended bytes cuts.Blank = IsSpace bytes
IsCut ended bytes cuts.Part = (IsSpace bytes → ⊥) × HasNoStatement ended bytes
