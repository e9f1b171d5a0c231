-- What each token of a text keeps to.
use Rattle.std.proofs.Common.{ℕ, Bool, List, [], ◌∷◌}
use Rattle.std.specs.List.{AllByRecursion, slice_range}
use Rattle.std.proofs.lemmas.List.Elements.{recursion_from_All}
use Rattle.script_lex.specs.declared.kinds.Token.{Token}
use Rattle.script_lex.specs.declared.kinds.TokenKind.{TokenKind}
use Rattle.script_lex.specs.Tokens.{Spells}
use Rattle.spj_syntax.specs.Lexemes.{Lexeme, of_kind}
use Rattle.spj_syntax.specs.Parsed.{lexemes, is_set, Fits, AllLexemesFit}
use Rattle.spj_syntax.specs.Reading.{IsSound, IsReadable}
use Rattle.spj_syntax.proofs.Spelled.{spelled_readable}

-- what holds of each token that is spelled right and fits
abbrev pub HoldsOfSound : Bool → (Lexeme → Type 0) → Type 0
HoldsOfSound set P = (kind : TokenKind) (bytes : List ℕ) → IsSound kind bytes → Fits set (of_kind kind bytes) → P (of_kind kind bytes)

each_sound : (set : Bool) (P : Lexeme → Type 0) → HoldsOfSound set P → (text : List ℕ) (tokens : List Token) → AllByRecursion (IsReadable text) tokens → AllByRecursion (Fits set) (lexemes text tokens) → AllByRecursion P (lexemes text tokens)
each_sound set P holds text [] readable fit = tt
each_sound set P holds text (token ∷ tokens) readable fit =
    (holds token.kind (slice_range text token.span.from token.span.to) readable.0.sound fit.0, each_sound set P holds text tokens readable.1 fit.1)

pub each_spelled : (P : Lexeme → Type 0) (text : List ℕ) (tokens : List Token) → HoldsOfSound (is_set (lexemes text tokens)) P → Spells text tokens → AllLexemesFit (lexemes text tokens) → AllByRecursion P (lexemes text tokens)
each_spelled P text tokens holds spelled fit = each_sound (is_set (lexemes text tokens)) P holds text tokens (recursion_from_All (IsReadable text) tokens (spelled_readable spelled)) fit
