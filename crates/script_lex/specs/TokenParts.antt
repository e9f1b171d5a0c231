-- What the parts of the lexer answer.
use Rattle.std.specs.Prelude.{◌<◌, ◌≤◌, ◌==◌, ℕ, Bool, true, not, ◌||◌, List, if◌then◌else◌, length, take, Option, Some, None}
use Rattle.cqa_value.specs.declared.memory.Fail.{Fail}
use Rattle.cqa_value.specs.declared.memory.Fail.TheVariants.{NoMemory, Refused}
use Rattle.script_lex.specs.declared.kinds.LexFault.{LexFault}
use Rattle.script_lex.specs.declared.kinds.LexFault.TheVariants.{TooLong, BadByte}
use Rattle.script_lex.specs.declared.pieces.PieceKind.{PieceKind}
use Rattle.script_lex.specs.Bytes.{quote}
use Rattle.script_lex.specs.Tokens.{IsQuoted, IsLongest, NoPiece, IsBadByte}

-- the bad byte
abbrev pub RefusesByte : List ℕ → Fail LexFault → Type 0
RefusesByte text NoMemory = Unit {0}
RefusesByte text (Refused (TooLong size)) = ⊥
RefusesByte text (Refused (BadByte at)) = IsBadByte text at

-- the piece that stands first, with its length, or none
abbrev pub Found : List ℕ → Option (PieceKind × ℕ) → Type 0
Found bytes None = NoPiece bytes
Found bytes (Some p) = IsLongest p.0 p.1 bytes × (0 < p.1)

-- a byte that is a symbol and begins no other
abbrev pub is_single : ℕ → Bool
is_single b = ((b == 40 || b == 41) || (b == 44 || b == 46)) || b == 61

-- whether a text is open behind one more byte, if the byte belongs to it
abbrev pub step_of : Bool → ℕ → Option Bool
step_of open_ b = if b == quote then Some (not open_) else (if open_ then Some true else None)

-- Of the bytes behind a quote the first so many end a text, and no more do; 0 if none do.
pub record EndsQuoted (bytes : List ℕ) (n : ℕ) : Type 0 where
  pub within : n ≤ length bytes
  pub ends : 0 < n → IsQuoted (take n bytes)
  pub longest : (m : ℕ) → n < m → m ≤ length bytes → IsQuoted (take m bytes) → ⊥
