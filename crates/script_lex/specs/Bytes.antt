-- Sets of bytes.
use Rattle.std.specs.Prelude.{◌≡◌, ◌<◌, ◌≤◌, ◌==◌, ℕ, Bool, true, not, ◌&&◌, ◌||◌, nat_le, List, length, take}
use Rattle.std.specs.List.{AllByRecursion}
use Rattle.script_lex.specs.declared.bytes.Class.{Class}
use Rattle.script_lex.specs.declared.bytes.Class.TheVariants.{Blank, LineBlank, Letter, Digit, WordByte, NotLineFeed, NotQuote, Plain}

-- bytes that have a meaning outside words and numbers
abbrev pub tab : ℕ
tab = 9

abbrev pub line_feed : ℕ
line_feed = 10

abbrev pub carriage_return : ℕ
carriage_return = 13

abbrev pub space : ℕ
space = 32

abbrev pub quote : ℕ
quote = 39

abbrev pub dash : ℕ
dash = 45

abbrev pub semicolon : ℕ
semicolon = 59

-- a space, a tab, a line feed or a carriage return
abbrev pub is_blank : ℕ → Bool
is_blank b = ((b == space || b == tab) || b == line_feed) || b == carriage_return

-- a blank that ends no line
abbrev pub is_line_blank : ℕ → Bool
is_line_blank b = (b == space || b == tab) || b == carriage_return

-- A to Z, a to z, or _
abbrev pub is_letter : ℕ → Bool
is_letter b = ((nat_le 65 b && nat_le b 90) || (nat_le 97 b && nat_le b 122)) || b == 95

-- 0 to 9
abbrev pub is_digit : ℕ → Bool
is_digit b = nat_le 48 b && nat_le b 57

abbrev pub is_word_byte : ℕ → Bool
is_word_byte b = is_letter b || is_digit b

-- what a comment goes on with
abbrev pub is_not_line_feed : ℕ → Bool
is_not_line_feed b = not (b == line_feed)

-- what a text goes on with
abbrev pub is_not_quote : ℕ → Bool
is_not_quote b = not (b == quote)

-- neither a quote, nor a dash, nor a `;`
abbrev pub is_plain : ℕ → Bool
is_plain b = (not (b == quote) && not (b == dash)) && not (b == semicolon)

abbrev pub test_of : Class → ℕ → Bool
test_of Blank b = is_blank b
test_of LineBlank b = is_line_blank b
test_of Letter b = is_letter b
test_of Digit b = is_digit b
test_of WordByte b = is_word_byte b
test_of NotLineFeed b = is_not_line_feed b
test_of NotQuote b = is_not_quote b
test_of Plain b = is_plain b

-- each byte passes the test
abbrev pub AllPass : (ℕ → Bool) → List ℕ → Type 0
AllPass test = AllByRecursion (λ b. test b ≡ true)

-- Of the bytes the first so many are of the class, and no more.
pub record Runs (class : Class) (bytes : List ℕ) (n : ℕ) : Type 0 where
  pub within : n ≤ length bytes
  pub each : AllPass (test_of class) (take n bytes)
  pub stop : (m : ℕ) → n < m → m ≤ length bytes → AllPass (test_of class) (take m bytes) → ⊥
