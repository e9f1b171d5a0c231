-- Bytes that lead from outside texts and comments to there again, without a `;` on the way.
use Rattle.std.proofs.Common.{◌≡◌, ◌==◌, ◌||◌, not, ℕ, Bool, true, false, List, [], ◌∷◌, ◌++◌, refl, sym, subst, arith, if◌then◌else◌}
use Rattle.std.proofs.lemmas.Bool.Decides.{nat_tests}
use Rattle.std.specs.List.{list_all}
use Rattle.cqa_value.specs.Literals.{doubled}
use Rattle.script_lex.specs.declared.modes.Mode.TheVariants.{Outside, Dash, Text}
use Rattle.script_lex.specs.Bytes.{is_letter, is_digit, is_word_byte, AllPass}
use Rattle.script_lex.specs.Scripts.{after, is_text_byte, Leads}
use Rattle.script_lex.proofs.Leading.{Leads-append}
use Rattle.script_lex.proofs.Quotes.{is_39}
use Rattle.reading_law.proofs.Quotes.{quoted}

-- neither a quote nor a dash nor a `;`
abbrev pub is_plain : ℕ → Bool
is_plain b = not ((b == 39 || b == 45) || b == 59)

abbrev pub Quiet : List ℕ → Type 0
Quiet bytes = Leads is_text_byte Outside bytes Outside

no_quote : (b : ℕ) → is_plain b ≡ true → (b == 39) ≡ false
no_quote b h = grind (arith, nat_tests)

no_dash : (b : ℕ) → is_plain b ≡ true → (b == 45) ≡ false
no_dash b h = grind (arith, nat_tests)

no_semicolon : (b : ℕ) → is_plain b ≡ true → (b == 59) ≡ false
no_semicolon b h = grind (arith, nat_tests)

pub word_plain : (b : ℕ) → is_word_byte b ≡ true → is_plain b ≡ true
word_plain b h = grind (arith, nat_tests)

pub letter_plain : (b : ℕ) → is_letter b ≡ true → is_plain b ≡ true
letter_plain b h = grind (arith, nat_tests)

pub digit_plain : (b : ℕ) → is_digit b ≡ true → is_plain b ≡ true
digit_plain b h = grind (arith, nat_tests)

pub mono : (p q : ℕ → Bool) → ((b : ℕ) → p b ≡ true → q b ≡ true) → (bytes : List ℕ) → AllPass p bytes → AllPass q bytes
mono p q h [] a = tt
mono p q h (b ∷ bytes) a = (h b a.0, mono p q h bytes a.1)

-- from a mode in which bytes are read as outside
after_plain : (b : ℕ) → is_plain b ≡ true → after Outside b ≡ Outside
after_plain b h = rw (no_quote b h, no_dash b h) refl

after_dash : (b : ℕ) → is_plain b ≡ true → after Dash b ≡ Outside
after_dash b h = rw (no_quote b h, no_dash b h) refl

passes : (b : ℕ) → is_plain b ≡ true → is_text_byte Outside b ≡ true
passes b h = rw (no_semicolon b h) refl

passes_dash : (b : ℕ) → is_plain b ≡ true → is_text_byte Dash b ≡ true
passes_dash b h = rw (no_semicolon b h) refl

pub quiet_plain : (bytes : List ℕ) → AllPass is_plain bytes → Quiet bytes
quiet_plain [] a = refl
quiet_plain (b ∷ bytes) a = (passes b a.0, subst (λ m. Leads is_text_byte m bytes Outside) (sym (after_plain b a.0)) (quiet_plain bytes a.1))

pub quiet_both : (xs ys : List ℕ) → Quiet xs → Quiet ys → Quiet (xs ++ ys)
quiet_both xs ys a b = Leads-append is_text_byte Outside xs ys Outside Outside a b

all_of : (bytes : List ℕ) → list_all is_plain bytes ≡ true → AllPass is_plain bytes
all_of [] e = tt
all_of (b ∷ bytes) e = go (is_plain b) refl (λ h. all_of bytes h) e
  where
    go : (t : Bool) → is_plain b ≡ t → (list_all is_plain bytes ≡ true → AllPass is_plain bytes) → list_all is_plain (b ∷ bytes) ≡ true → AllPass is_plain (b ∷ bytes)
    go true k f e = (k, f (rw k at e))
    go false k f e = absurd (cc (rw k at e))

-- what is tested to be plain
pub quiet_words : (bytes : List ℕ) → list_all is_plain bytes ≡ true → Quiet bytes
quiet_words bytes e = quiet_plain bytes (all_of bytes e)

-- a number with a dash before it
pub quiet_minus : (b : ℕ) (bytes : List ℕ) → AllPass is_plain (b ∷ bytes) → Quiet (45 ∷ b ∷ bytes)
quiet_minus b bytes a = (refl, (passes_dash b a.0, subst (λ m. Leads is_text_byte m bytes Outside) (sym (after_dash b a.0)) (quiet_plain bytes a.1)))

inner : (b : ℕ) → (b == 39) ≡ false → after Text b ≡ Text
inner b h = rw h refl

within : (v : List ℕ) → Leads is_text_byte Text (doubled v) Text
within [] = refl
within (b ∷ v) = go (b == 39) refl (within v)
  where
    go : (t : Bool) → (b == 39) ≡ t → Leads is_text_byte Text (doubled v) Text → Leads is_text_byte Text ((if t then b ∷ b ∷ [] else b ∷ []) ++ doubled v) Text
    go true e h = rw (is_39 b e) (refl, (refl, h))
    go false e h = (refl, subst (λ m. Leads is_text_byte m (doubled v) Text) (sym (inner b e)) h)

pub quiet_text : (v : List ℕ) → Quiet (quoted v)
quiet_text v = (refl, Leads-append is_text_byte Text (doubled v) (39 ∷ []) Text Outside (within v) (refl, refl))
