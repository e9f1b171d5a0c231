-- A word that the grammar takes as a name is a name.
use Rattle.std.proofs.Common.{◌≡◌, ◌≤◌, ℕ, true, false, List, [], ◌∷◌, length, refl, subst, arith, codes}
use Rattle.std.specs.List.{list_all}
use Rattle.std.proofs.lemmas.Bool.Decides.{nat_tests}
use Rattle.std.proofs.lemmas.Bool.{and_from}
use Rattle.script_lex.specs.declared.kinds.TokenKind.TheVariants as token
use Rattle.script_lex.specs.Tokens.{IsToken}
use Rattle.script_lex.specs.Bytes.{AllPass, is_word_byte}
use Rattle.script_lex.specs.Bytes as lexed
use Rattle.cqa_model.specs.Valid.{IsName, is_letter, is_letter_or_digit, is_word}
use Rattle.spj_syntax.specs.Lexemes.{Word}
use Rattle.spj_syntax.specs.Shapes.{name, matches}

letter_same : (b : ℕ) → lexed.is_letter b ≡ true → is_letter b ≡ true
letter_same b h = grind (arith, nat_tests)

byte_same : (b : ℕ) → is_word_byte b ≡ true → is_letter_or_digit b ≡ true
byte_same b h = grind (arith, nat_tests)

bytes_same : (bs : List ℕ) → AllPass is_word_byte bs → list_all is_letter_or_digit bs ≡ true
bytes_same [] h = refl
bytes_same (b ∷ bs) h = and_from _ _ (byte_same b h.0) (bytes_same bs h.1)

word_same : (w : List ℕ) → IsToken token.Word w → is_word w ≡ true
word_same [] h = absurd h
word_same (b ∷ bs) h = and_from _ _ (letter_same b h.0) (bytes_same bs h.1)

pub is_name : (w : List ℕ) → IsToken token.Word w → matches name (Word w) ≡ true → length w ≤ 64 → IsName w
is_name w h m s = record {
  word = word_same w h;
  free = λ e. absurd (let never : false ≡ true = subst (λ z. matches name (Word z) ≡ true) e m in cc);
  short = s;
}

pub placeholder : IsName (codes "_")
placeholder = record { word = refl; free = λ e. (cc); short = omega arith }
