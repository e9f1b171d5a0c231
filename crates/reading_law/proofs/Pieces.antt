-- The longest piece that stands first in some bytes, or that there is none.
use Rattle.std.proofs.Common.{◌≡◌, inl, inr, ◌+◌, ◌<◌, ◌≤◌, ℕ, zero, suc, Bool, true, false, List, [], ◌∷◌, map, length, take, get_or, Option, Some, None, Contains, refl, sym, ◌∙◌, subst, arith, length-take, if◌then◌else◌}
use mathlib.Core.List.{List-discrete}
use native.Mathlib.Decide.{ℕ_discrete}
use Rattle.std.proofs.lemmas.Bool.{cases_lt, cases_eq}
use Rattle.std.proofs.lemmas.List.{take_all}
use Rattle.cqa_model.proofs.Classic.{dec_both, dec_three, dec_or, dec_some}
use Rattle.cqa_model.proofs.Values.{dec_by}
use Rattle.script_lex.specs.declared.kinds.Symbol.TheVariants.{Open, Close, Comma, Dot, Eq, Ne, Lt, Le, Gt, Ge}
use Rattle.script_lex.specs.declared.kinds.TokenKind.{TokenKind}
use Rattle.script_lex.specs.declared.kinds.TokenKind.TheVariants.{Word, Int, Text, Sym}
use Rattle.script_lex.specs.declared.pieces.PieceKind.{PieceKind}
use Rattle.script_lex.specs.declared.pieces.PieceKind.TheVariants.{Blank, Comment, Token as OfToken}
use Rattle.script_lex.specs.Bytes.{quote, dash, is_blank, is_letter, is_digit, is_word_byte, is_not_line_feed, AllPass}
use Rattle.script_lex.specs.TokenParts.{Found, step_of, EndsQuoted}
use Rattle.script_lex.specs.Tokens.{symbol_bytes, IsNumber, IsQuoted, IsToken, IsPiece, NoPiece}
use Rattle.script_lex.proofs.FirstBytes.{none_empty}
use Rattle.script_lex.proofs.Quotes.{TextSoFar, text_starts, text_goes, text_stuck, text_over, no_quoted}

dec_true : (b : Bool) → Dec (b ≡ true)
dec_true true = yes refl
dec_true false = no (λ e. (cc))

dec_pass : (test : ℕ → Bool) (bs : List ℕ) → Dec (AllPass test bs)
dec_pass test [] = yes tt
dec_pass test (b ∷ bs) = dec_both (dec_true (test b)) (dec_pass test bs)

dec_number : (bs : List ℕ) → Dec (IsNumber bs)
dec_number [] = no (λ h. h)
dec_number (b ∷ bs) = dec_pass is_digit (b ∷ bs)

-- how many bytes behind a quote end a text at most
ends_quoted : (bytes : List ℕ) → (n : ℕ) × EndsQuoted bytes n
ends_quoted bytes = go (length bytes) 0 true 0 (omega arith) (text_starts bytes)
  where
    step : (i : ℕ) (o : Bool) (last : ℕ) → i < length bytes → TextSoFar bytes i o last → (next : Option Bool) → step_of o (get_or bytes i 0) ≡ next
        → ((now : Bool) (new : ℕ) → TextSoFar bytes (i + 1) now new → (n : ℕ) × EndsQuoted bytes n) → (n : ℕ) × EndsQuoted bytes n
    step i o last lt h None e further = (last, text_stuck bytes i o last lt h e)
    step i o last lt h (Some now) e further = further now _ (text_goes bytes i o now last (if now then last else i + 1) lt h e refl)

    go : (left i : ℕ) (o : Bool) (last : ℕ) → left + i ≡ length bytes → TextSoFar bytes i o last → (n : ℕ) × EndsQuoted bytes n
    go zero i o last e h = (last, text_over bytes o last (subst (λ z. TextSoFar bytes z o last) (omega (arith, e)) h))
    go (suc left) i o last e h = step i o last (omega (arith, e)) h (step_of o (get_or bytes i 0)) refl (λ now new k. go left (i + 1) now new (omega (arith, e)) k)

dec_quoted : (bs : List ℕ) → Dec (IsQuoted bs)
dec_quoted [] = no no_quoted
dec_quoted (b ∷ bs) = let e = ends_quoted (b ∷ bs) in go (b ∷ bs) e.0 (omega arith) e.1 (ℕ_discrete e.0 (length (b ∷ bs)))
  where
    go : (bytes : List ℕ) (n : ℕ) → 0 < length bytes → EndsQuoted bytes n → Dec (n ≡ length bytes) → Dec (IsQuoted bytes)
    go bytes n some e (yes same) = yes (subst IsQuoted (take_all n bytes (omega arith)) (e.ends (omega arith)))
    go bytes n some e (no differs) = no (λ q. e.longest (length bytes) (omega (arith, e.within)) (omega arith) (subst IsQuoted (sym (take_all (length bytes) bytes (omega arith))) q))

dec_token : (kind : TokenKind) (bs : List ℕ) → Dec (IsToken kind bs)
dec_token Word [] = no (λ h. h)
dec_token Word (b ∷ bs) = dec_both (dec_true (is_letter b)) (dec_pass is_word_byte bs)
dec_token Int [] = no (λ h. h)
dec_token Int (b ∷ bs) = dec_or (dec_both (ℕ_discrete b dash) (dec_number bs)) (dec_number (b ∷ bs))
dec_token Text [] = no (λ h. h)
dec_token Text (b ∷ bs) = dec_both (ℕ_discrete b quote) (dec_quoted bs)
dec_token (Sym s) bs = List-discrete ℕ_discrete bs (symbol_bytes s)

dec_piece : (kind : PieceKind) (bs : List ℕ) → Dec (IsPiece kind bs)
dec_piece Blank [] = no (λ h. h)
dec_piece Blank (b ∷ bs) = dec_both (dec_true (is_blank b)) (List-discrete ℕ_discrete bs [])
dec_piece Comment [] = no (λ h. h)
dec_piece Comment (a ∷ []) = no (λ h. h)
dec_piece Comment (a ∷ b ∷ bs) = dec_three (ℕ_discrete a dash) (ℕ_discrete b dash) (dec_pass is_not_line_feed bs)
dec_piece (OfToken kind) bs = dec_token kind bs

-- the kinds are finitely many
abbrev kinds : List PieceKind
kinds = Blank ∷ Comment ∷ OfToken Word ∷ OfToken Int ∷ OfToken Text ∷ map (λ s. OfToken (Sym s)) (Open ∷ Close ∷ Comma ∷ Dot ∷ Eq ∷ Ne ∷ Lt ∷ Le ∷ Gt ∷ Ge ∷ [])

among : (kind : PieceKind) → Contains kinds kind
among Blank = (0, omega arith, refl)
among Comment = (1, omega arith, refl)
among (OfToken Word) = (2, omega arith, refl)
among (OfToken Int) = (3, omega arith, refl)
among (OfToken Text) = (4, omega arith, refl)
among (OfToken (Sym Open)) = (5, omega arith, refl)
among (OfToken (Sym Close)) = (6, omega arith, refl)
among (OfToken (Sym Comma)) = (7, omega arith, refl)
among (OfToken (Sym Dot)) = (8, omega arith, refl)
among (OfToken (Sym Eq)) = (9, omega arith, refl)
among (OfToken (Sym Ne)) = (10, omega arith, refl)
among (OfToken (Sym Lt)) = (11, omega arith, refl)
among (OfToken (Sym Le)) = (12, omega arith, refl)
among (OfToken (Sym Gt)) = (13, omega arith, refl)
among (OfToken (Sym Ge)) = (14, omega arith, refl)

-- the bytes are some piece, or none
some_piece : (bs : List ℕ) → Dec ((kind : PieceKind) × IsPiece kind bs)
some_piece bs = dec_by (λ h. (h.0, h.2)) (λ h. (h.0, among h.0, h.1)) (dec_some (λ kind. IsPiece kind bs) (λ kind. dec_piece kind bs) kinds)

piece_some : (kind : PieceKind) (bs : List ℕ) → IsPiece kind bs → 0 < length bs
piece_some kind [] p = absurd (none_empty kind p)
piece_some kind (b ∷ bs) p = omega arith

no_piece : (bytes : List ℕ) → ((n : ℕ) (kind : PieceKind) → 0 < n → n ≤ length bytes → IsPiece kind (take n bytes) → ⊥) → NoPiece bytes
no_piece bytes none m kind p =
    let some = piece_some kind (take m bytes) p in
    elim (cases_lt (length bytes) m) [
      | inl beyond ↦
          let same : take m bytes ≡ take (length bytes) bytes = take_all m bytes (omega arith) ∙ sym (take_all (length bytes) bytes (omega arith)) in
          none (length bytes) kind (omega (arith, some, length-take m bytes)) (omega arith) (subst (IsPiece kind) same p)
      | inr within ↦ none m kind (omega (arith, some, length-take m bytes)) within p
    ]

-- the longest up to a length, where no longer front is one
longest_to : (bytes : List ℕ) (m : ℕ) → m ≤ length bytes → ((n : ℕ) (kind : PieceKind) → m < n → n ≤ length bytes → IsPiece kind (take n bytes) → ⊥) → (found : Option (PieceKind × ℕ)) × Found bytes found
longest_to bytes zero le none = (None, no_piece bytes none)
longest_to bytes (suc m) le none =
    go (some_piece (take (suc m) bytes))
    (λ here. longest_to bytes m (omega arith) (λ n kind lt within p. elim (cases_eq n (suc m)) [
      | inl e ↦ here (kind, subst (λ z. IsPiece kind (take z bytes)) e p)
      | inr differs ↦ none n kind (omega arith) within p
    ]))
  where
    go : Dec ((kind : PieceKind) × IsPiece kind (take (suc m) bytes)) → ((((kind : PieceKind) × IsPiece kind (take (suc m) bytes)) → ⊥) → (found : Option (PieceKind × ℕ)) × Found bytes found)
        → (found : Option (PieceKind × ℕ)) × Found bytes found
    go (yes p) further = (Some (p.0, suc m), (record { within = le; piece = p.1; longest = λ n kind lt within q. none n kind lt within q }, omega arith))
    go (no here) further = further here

-- Some piece is the longest that stands first in these bytes, or none stands first.
pub first_piece : (bytes : List ℕ) → (found : Option (PieceKind × ℕ)) × Found bytes found
first_piece bytes = longest_to bytes (length bytes) (omega arith) (λ n kind lt within p. absurd (omega arith))
