-- Written tokens and lines are cut where they end.
use Rattle.std.proofs.Common.{◌≡◌, ℕ, ◌<◌, ◌==◌, ◌||◌, ◌&&◌, Bool, true, false, cond, List, [], ◌∷◌, ◌++◌, refl, ◌∙◌, ap, arith, length, nat_eq}
use Rattle.std.specs.Cmp.Lexicographic.{pointwise}
use Rattle.std.proofs.lemmas.Bool.{ne_eqb, or_parts}
use Rattle.cnf_form.specs.Lines.{begins_blank, front, is_blank, is_comment, lines, tokens}
use Rattle.cnf_form.specs.Formulas.{is_lrat}
use Rattle.cnf_form.proofs.Numerals.{NoEnds}

-- one byte more of a token
more_token : (b : ℕ) (rest : List ℕ) → is_blank b ≡ false → tokens (b ∷ rest) ≡ cond (begins_blank rest) ((b ∷ []) ∷ tokens rest) (front b (tokens rest))
more_token b rest h = ap (λ (c : Bool). cond c (tokens rest) (cond (begins_blank rest) ((b ∷ []) ∷ tokens rest) (front b (tokens rest)))) h

pub token_space : (t rest : List ℕ) → 0 < length t → NoEnds t → tokens (t ++ 32 ∷ rest) ≡ t ∷ tokens rest
token_space [] rest h n = absurd (omega (arith, h))
token_space (b ∷ []) rest h n = more_token b (32 ∷ rest) (or_parts (is_blank b) (b == 10) n.0).0
token_space (b ∷ x ∷ xs) rest h n =
    more_token b (x ∷ (xs ++ 32 ∷ rest)) (or_parts (is_blank b) (b == 10) n.0).0
    ∙ ap (λ (c : Bool). cond c ((b ∷ []) ∷ tokens (x ∷ (xs ++ 32 ∷ rest))) (front b (tokens (x ∷ (xs ++ 32 ∷ rest))))) (or_parts (is_blank x) (x == 10) n.1.0).0
    ∙ ap (front b) (token_space (x ∷ xs) rest (omega arith) n.1)

pub token_last : (t : List ℕ) → 0 < length t → NoEnds t → tokens t ≡ t ∷ []
token_last [] h n = absurd (omega (arith, h))
token_last (b ∷ []) h n = more_token b [] (or_parts (is_blank b) (b == 10) n.0).0
token_last (b ∷ x ∷ xs) h n =
    more_token b (x ∷ xs) (or_parts (is_blank b) (b == 10) n.0).0
    ∙ ap (λ (c : Bool). cond c ((b ∷ []) ∷ tokens (x ∷ xs)) (front b (tokens (x ∷ xs)))) (or_parts (is_blank x) (x == 10) n.1.0).0
    ∙ ap (front b) (token_last (x ∷ xs) (omega arith) n.1)

-- no byte is an LF
abbrev pub NoLf : List ℕ → Type 0
NoLf [] = Unit {0}
NoLf (b ∷ bs) = ((b == 10) ≡ false) × NoLf bs

pub no_lf : (t : List ℕ) → NoEnds t → NoLf t
no_lf [] n = tt
no_lf (b ∷ bs) n = ((or_parts (is_blank b) (b == 10) n.0).1, no_lf bs n.1)

pub no_lf_both : (s t : List ℕ) → NoLf s → NoLf t → NoLf (s ++ t)
no_lf_both [] t a b = b
no_lf_both (x ∷ s) t a b = (a.0, no_lf_both s t a.1 b)

pub line_cut : (l rest : List ℕ) → NoLf l → lines (l ++ 10 ∷ rest) ≡ l ∷ lines rest
line_cut [] rest n = refl
line_cut (b ∷ bs) rest n = ap (λ (c : Bool). cond c ([] ∷ lines (bs ++ 10 ∷ rest)) (front b (lines (bs ++ 10 ∷ rest)))) n.0 ∙ ap (front b) (line_cut bs rest n.1)

-- a line that begins with no `c` and no `l` is no comment and no `lrat` line
pub no_mark : (l bs : List ℕ) (b : ℕ) → l ≡ b ∷ bs → (b ≡ 99 → ⊥) → (b ≡ 108 → ⊥) → (is_comment l ≡ false) × (is_lrat l ≡ false)
no_mark l bs b e c m = (
  ap is_comment e ∙ ne_eqb b 99 c,
  ap is_lrat e ∙ go (nat_eq b 108) (ne_eqb b 108 m),
)
  where
    go : (x : Bool) → x ≡ false → (x && pointwise nat_eq bs (114 ∷ 97 ∷ 116 ∷ [])) || (x && pointwise nat_eq bs (114 ∷ 97 ∷ 116 ∷ 13 ∷ [])) ≡ false
    go true e = absurd (cc)
    go false e = refl
