-- Short tokens are within their limits.
use Rattle.std.proofs.Common.{◌≤◌, ◌-◌, ℕ, false, List, length, drop, arith, length-take}
use Rattle.std.specs.List.{slice_range}
use Rattle.script_lex.specs.declared.kinds.Token.{Token}
use Rattle.script_lex.specs.declared.kinds.TokenKind.{TokenKind}
use Rattle.script_lex.specs.declared.kinds.TokenKind.TheVariants.{Word, Int, Text, Sym}
use Rattle.script_lex.specs.Tokens.{inside}
use Rattle.spj_syntax.specs.Lexemes.{of_kind, lexeme}
use Rattle.spj_syntax.specs.Parsed.{Fits}
use Rattle.spj_syntax.specs.Reading.{IsSound, IsReadable}
use Rattle.spj_syntax.proofs.Values.{short_in_range, undoubled_no_longer}

no_longer : (bytes : List ℕ) (from to : ℕ) → length (slice_range bytes from to) ≤ to - from
no_longer bytes from to = omega (arith, length-take (to - from) (drop from bytes))

bytes_fit : (kind : TokenKind) (bytes : List ℕ) → IsSound kind bytes → length bytes ≤ 18 → Fits false (of_kind kind bytes)
bytes_fit Word bytes sound few = omega (arith, few)
bytes_fit Int bytes sound few = short_in_range bytes sound few
bytes_fit Text bytes sound few = omega (arith, few, undoubled_no_longer (inside bytes), no_longer bytes 1 (length bytes - 1))
bytes_fit (Sym s) bytes sound few = tt

-- A token of few bytes is within its limits.
pub short_fits : (text : List ℕ) (token : Token) → IsReadable text token → token.span.to - token.span.from ≤ 18 → Fits false (lexeme text token)
short_fits text token h few =
    bytes_fit token.kind (slice_range text token.span.from token.span.to) h.sound (omega (arith, few, no_longer text token.span.from token.span.to))
