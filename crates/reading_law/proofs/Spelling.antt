-- A text has tokens that spell it, or a fault.
use Rattle.std.proofs.Common.{◌≡◌, ◌⊎◌, inl, inr, ◌+◌, ◌-◌, ◌<◌, ◌≤◌, ℕ, zero, suc, List, [], ◌∷◌, ◌++◌, length, take, drop, Option, Some, None, IsUtf8, refl, subst, arith}
use Rattle.std.specs.Str.{is_utf8, IsValidUpTo}
use Rattle.std.proofs.lemmas.Bool.{cases_lt, cases_eq, cases_Bool}
use Rattle.std.proofs.lemmas.List.{take_all}
use Rattle.std.proofs.lemmas.Str.{IsUtf8-from_is_utf8, is_utf8-from_IsUtf8, IsUtf8-nil}
use Rattle.cqa_value.proofs.Words.{clash}
use Rattle.script_lex.specs.declared.kinds.Token.{Token}
use Rattle.script_lex.specs.declared.kinds.TokenKind.TheVariants.{Word, Int, Text, Sym}
use Rattle.script_lex.specs.declared.kinds.LexFault.TheVariants.{TooLong, BadByte}
use Rattle.script_lex.specs.declared.pieces.Piece.{Piece}
use Rattle.script_lex.specs.declared.pieces.PieceKind.{PieceKind}
use Rattle.script_lex.specs.declared.pieces.PieceKind.TheVariants.{Blank, Comment, Token as OfToken}
use Rattle.script_lex.specs.TokenParts.{Found}
use Rattle.script_lex.specs.Tokens.{longest_text, inside_of, kept, IsClean, IsUnclean, Spells, IsBadByte}
use Rattle.script_lex.proofs.Spelling.{SoFar, piece_at, SoFar-piece, SoFar-bad, SoFar-none, SoFar-whole}
use Rattle.reading_law.specs.Texts.{TextsHaveTokens}
use Rattle.reading_law.proofs.Pieces.{first_piece}

dec_utf8 : (bs : List ℕ) → Dec (IsUtf8 bs)
dec_utf8 bs = elim (cases_Bool (is_utf8 bs)) [
  | inl e ↦ yes (IsUtf8-from_is_utf8 bs e)
  | inr e ↦ no (λ u. clash (is_utf8 bs) (is_utf8-from_IsUtf8 bs u) e)
]

front_none : (bs : List ℕ) → IsUtf8 (take 0 bs)
front_none [] = IsUtf8-nil
front_none (b ∷ bs) = IsUtf8-nil

-- the longest front that is UTF-8, up to a length beyond which none is
valid_to : (bs : List ℕ) (m : ℕ) → m < length bs → ((k : ℕ) → m < k → IsUtf8 (take k bs) → ⊥) → (n : ℕ) × IsValidUpTo bs n
valid_to bs zero lt none = (0, record { short = lt; front = front_none bs; longest = none })
valid_to bs (suc m) lt none =
    go (dec_utf8 (take (suc m) bs))
    (λ here. valid_to bs m (omega arith) (λ k more u. elim (cases_eq k (suc m)) [ inl e ↦ here (subst (λ z. IsUtf8 (take z bs)) e u) | inr differs ↦ none k (omega arith) u ]))
  where
    go : Dec (IsUtf8 (take (suc m) bs)) → ((IsUtf8 (take (suc m) bs) → ⊥) → (n : ℕ) × IsValidUpTo bs n) → (n : ℕ) × IsValidUpTo bs n
    go (yes u) further = (suc m, record { short = lt; front = u; longest = none })
    go (no here) further = further here

valid_up_to : (bs : List ℕ) → (IsUtf8 bs → ⊥) → (n : ℕ) × IsValidUpTo bs n
valid_up_to [] not = absurd (not IsUtf8-nil)
valid_up_to (b ∷ bs) not = valid_to (b ∷ bs) (length bs) (omega arith) (λ k more u. not (subst IsUtf8 (take_all k (b ∷ bs) (omega arith)) u))

-- a piece is clean, or there is its first byte that isn't UTF-8
clean_or_not : (text : List ℕ) (p : Piece) → IsClean text p ⊎ ((at : ℕ) × IsUnclean text p at)
clean_or_not text p = go p.kind refl (dec_utf8 (inside_of text p))
  where
    go : (kind : PieceKind) → p.kind ≡ kind → Dec (IsUtf8 (inside_of text p)) → IsClean text p ⊎ ((at : ℕ) × IsUnclean text p at)
    go kind e (yes u) = inl (record { utf8 = λ k. u })
    go (OfToken Text) e (no not) =
        let v = valid_up_to (inside_of text p) not in
        inr ((p.span.from + 1) + v.0, record { is_text = e; not_utf8 = not; count = v.0; valid = v.1; place = refl })
    go Blank e (no not) = inl (record { utf8 = λ k. absurd (cc) })
    go Comment e (no not) = inl (record { utf8 = λ k. absurd (cc) })
    go (OfToken Word) e (no not) = inl (record { utf8 = λ k. absurd (cc) })
    go (OfToken Int) e (no not) = inl (record { utf8 = λ k. absurd (cc) })
    go (OfToken (Sym s)) e (no not) = inl (record { utf8 = λ k. absurd (cc) })

-- tokens spell the text, or a byte of it is the first bad one
abbrev Lexes : List ℕ → Type 0
Lexes text = ((tokens : List Token) × Spells text tokens) ⊎ ((at : ℕ) × IsBadByte text at)

-- one piece more
one_more : (text : List ℕ) (at : ℕ) (tokens : List Token) → at < length text → SoFar text at tokens → (found : Option (PieceKind × ℕ)) → Found (take (length text - at) (drop at text)) found
    → ((n : ℕ) (more : List Token) → 0 < n → SoFar text (at + n) more → Lexes text) → Lexes text
one_more text at tokens lt h None f further = inr (at, SoFar-none text at tokens h lt f)
one_more text at tokens lt h (Some (kind, n)) f further = elim (clean_or_not text (piece_at at kind n)) [
  | inl clean ↦ further n (tokens ++ kept kind (record { from = at; to = at + n })) f.1 (SoFar-piece text at tokens (tokens ++ kept kind (record { from = at; to = at + n })) kind n h f clean refl)
  | inr bad ↦ inr (bad.0, SoFar-bad text at bad.0 tokens kind n h f bad.1)
]

lexes_from : (text : List ℕ) (left at : ℕ) (tokens : List Token) → length text ≤ left + at → SoFar text at tokens → Lexes text
lexes_from text zero at tokens le h = inl (tokens, SoFar-whole text at tokens h (omega (arith, le)))
lexes_from text (suc left) at tokens le h = elim (cases_lt at (length text)) [
  | inl lt ↦
      let found = first_piece (take (length text - at) (drop at text)) in
      one_more text at tokens lt h found.0 found.1 (λ n more some k. lexes_from text left (at + n) more (omega (arith, le)) k)
  | inr over ↦ inl (tokens, SoFar-whole text at tokens h over)
]

pub texts_have_tokens : TextsHaveTokens
texts_have_tokens text = elim (cases_lt longest_text (length text)) [
  | inl long ↦ inr (TooLong (length text), (refl, long))
  | inr short ↦ elim (lexes_from text (length text) 0 [] (omega arith) (record { pieces = []; splits = refl; clean = tt; within = omega arith; tokens_are = refl })) [
    | inl spelled ↦ inl (spelled.0, short, spelled.1)
    | inr bad ↦ inr (BadByte bad.0, (short, bad.1))
  ]
]
