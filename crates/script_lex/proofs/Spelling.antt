-- Texts and the tokens that spell them.
use Rattle.std.proofs.Common.{◌≡◌, ◌⊎◌, inl, inr, ◌+◌, ◌-◌, ◌<◌, ◌≤◌, ℕ, true, List, [], ◌∷◌, ◌++◌, length, take, drop, get_or, Some, None, Result, Ok, Err, MatchResult, refl, sym, ◌∙◌, ap, subst, arith, append_assoc, append-nil, length-take, length-drop}
use Rattle.std.proofs.lemmas.Bool.Decides.{nat_tests}
use Rattle.std.proofs.lemmas.Bool.{cases_order}
use Rattle.std.proofs.lemmas.Str.{utf8_valid_len-IsValidUpTo}
use Rattle.std.specs.List.{AllByRecursion}
use Rattle.std.specs.Str.Lossy.{utf8_valid_len}
use Rattle.std.proofs.lemmas.List.{take_rest}
use Rattle.cqa_value.specs.declared.memory.Fail.{Fail}
use Rattle.cqa_value.specs.declared.memory.Fail.TheVariants.{NoMemory, Refused}
use Rattle.script_lex.specs.declared.kinds.Span.{Span}
use Rattle.script_lex.specs.declared.kinds.Symbol.{Symbol}
use Rattle.script_lex.specs.declared.kinds.Symbol.TheVariants.{Open, Close, Comma, Dot, Eq, Ne, Lt, Le, Gt, Ge}
use Rattle.script_lex.specs.declared.kinds.TokenKind.{TokenKind}
use Rattle.script_lex.specs.declared.kinds.TokenKind.TheVariants.{Word, Int, Text, Sym}
use Rattle.script_lex.specs.declared.kinds.Token.{Token}
use Rattle.script_lex.specs.declared.kinds.LexFault.{LexFault}
use Rattle.script_lex.specs.declared.kinds.LexFault.TheVariants.{TooLong, BadByte}
use Rattle.script_lex.specs.declared.pieces.PieceKind.{PieceKind}
use Rattle.script_lex.specs.declared.pieces.PieceKind.TheVariants.{Blank, Comment, Token as OfToken}
use Rattle.script_lex.specs.declared.pieces.Piece.{Piece}
use Rattle.script_lex.specs.Bytes.{is_digit}
use Rattle.script_lex.specs.TokenParts.{RefusesByte, Found}
use Rattle.script_lex.specs.Tokens.{longest_text, symbol_bytes, IsQuoted, IsPiece, IsLongest, NoPiece, Splits, inside_of, IsClean, IsUnclean, kept, tokens_of, Spells, IsBadAt, IsBadByte, IsFault}
use Rattle.script_lex.proofs.FirstBytes.{begins, first_of, none_empty}
use Rattle.script_lex.proofs.Quotes.{no_quoted}

-- one piece more
pub Splits-push : (text : List ℕ) (at : ℕ) (ps : List Piece) (mid : ℕ) (p : Piece) → Splits text at ps mid → p.span.from ≡ mid → mid < p.span.to → IsLongest p.kind (p.span.to - mid) (drop mid text) → Splits text at (ps ++ p ∷ []) p.span.to
Splits-push text at [] mid p h f lt s = (f ∙ sym h, subst (λ z. z < p.span.to) (sym h) lt, subst (λ z. IsLongest p.kind (p.span.to - z) (drop z text)) (sym h) s, refl)
Splits-push text at (q ∷ ps) mid p h f lt s = (h.0, h.1, h.2, Splits-push text q.span.to ps mid p h.3 f lt s)

pub tokens_of-push : (ps : List Piece) (p : Piece) → tokens_of (ps ++ p ∷ []) ≡ tokens_of ps ++ kept p.kind p.span
tokens_of-push [] p = append-nil (kept p.kind p.span)
tokens_of-push (q ∷ ps) p = ap (λ z. kept q.kind q.span ++ z) (tokens_of-push ps p) ∙ sym (append_assoc (kept q.kind q.span) (tokens_of ps) (kept p.kind p.span))

-- up to an offset the text is pieces, of which these are the tokens
pub record SoFar (text : List ℕ) (at : ℕ) (tokens : List Token) : Type 0 where
  pub pieces : List Piece
  pub splits : Splits text 0 pieces at
  pub clean : AllByRecursion (IsClean text) pieces
  pub within : at ≤ length text
  pub tokens_are : tokens ≡ tokens_of pieces

clean-push : (text : List ℕ) (ps : List Piece) (p : Piece) → AllByRecursion (IsClean text) ps → IsClean text p → AllByRecursion (IsClean text) (ps ++ p ∷ [])
clean-push text [] p h c = (c, tt)
clean-push text (q ∷ ps) p h c = (h.0, clean-push text ps p h.1 c)

-- the piece that was found
abbrev pub piece_at : ℕ → PieceKind → ℕ → Piece
piece_at at kind n = record { kind = kind; span = record { from = at; to = at + n } }

pub SoFar-piece : (text : List ℕ) (at : ℕ) (tokens new : List Token) (kind : PieceKind) (n : ℕ) → SoFar text at tokens → Found (take (length text - at) (drop at text)) (Some (kind, n)) → IsClean text (piece_at at kind n)
    → new ≡ tokens ++ kept kind (record { from = at; to = at + n }) → SoFar text (at + n) new
SoFar-piece text at tokens new kind n h f c e =
    let found = rw take_rest at f in
    let p : Piece = piece_at at kind n in
    let w : n ≤ length (drop at text) = found.0.within in
    let k : n ≡ (at + n) - at = omega arith in
    record {
      pieces = h.pieces ++ p ∷ [];
      splits = Splits-push text 0 h.pieces at p h.splits refl (omega (arith, found.1)) (subst (λ z. IsLongest kind z (drop at text)) k found.0);
      clean = clean-push text h.pieces p h.clean c;
      within = omega (arith, length-drop at text, h.within);
      tokens_are = e ∙ ap (λ z. z ++ kept kind (record { from = at; to = at + n })) h.tokens_are ∙ sym (tokens_of-push h.pieces p);
    }

-- a piece that is no token
pub not_kept : (tokens : List Token) (kind : PieceKind) (span : Span) → ((k : TokenKind) → kind ≡ OfToken k → ⊥) → tokens ≡ tokens ++ kept kind span
not_kept tokens Blank span n = sym (append-nil tokens)
not_kept tokens Comment span n = sym (append-nil tokens)
not_kept tokens (OfToken k) span n = absurd (n k refl)

quoted_some : (bs : List ℕ) → IsQuoted bs → 0 < length bs
quoted_some [] q = absurd (no_quoted q)
quoted_some (b ∷ bs) q = omega arith

text_two : (bs : List ℕ) → IsPiece (OfToken Text) bs → 2 ≤ length bs
text_two [] p = absurd p
text_two (b ∷ bs) p = let h = quoted_some bs p.1 in omega (arith, h)

pub text_wide : (text : List ℕ) (at : ℕ) (kind : PieceKind) (n : ℕ) → at ≤ length text → Found (take (length text - at) (drop at text)) (Some (kind, n)) → kind ≡ (OfToken Text) → (at + 2 ≤ at + n) × (at + n ≤ length text)
text_wide text at kind n le f e =
    let s = rw take_rest at f in
    let w : n ≤ length (drop at text) = s.0.within in
    let two = text_two (take n (drop at text)) (subst (λ z. IsPiece z (take n (drop at text))) e s.0.piece) in
    (omega (arith, two, length-take n (drop at text)), omega (arith, length-drop at text, w))

pub SoFar-bad : (text : List ℕ) (at place : ℕ) (tokens : List Token) (kind : PieceKind) (n : ℕ) → SoFar text at tokens → Found (take (length text - at) (drop at text)) (Some (kind, n))
    → IsUnclean text (piece_at at kind n) place → IsBadByte text place
SoFar-bad text at place tokens kind n h f u =
    let s = rw take_rest at f in
    let k : n ≡ (at + n) - at = omega arith in
    record {
      pieces = h.pieces;
      end = at;
      splits = h.splits;
      clean = h.clean;
      bad = inr (piece_at at kind n, (refl, omega (arith, s.1), subst (λ z. IsLongest kind z (drop at text)) k s.0, refl), u);
    }

pub SoFar-none : (text : List ℕ) (at : ℕ) (tokens : List Token) → SoFar text at tokens → at < length text → Found (take (length text - at) (drop at text)) None → IsBadByte text at
SoFar-none text at tokens h lt f = record { pieces = h.pieces; end = at; splits = h.splits; clean = h.clean; bad = inl (refl, lt, rw take_rest at f) }

pub SoFar-whole : (text : List ℕ) (at : ℕ) (tokens : List Token) → SoFar text at tokens → length text ≤ at → Spells text tokens
SoFar-whole text at tokens h le =
    let e : at ≡ length text = omega (arith, h.within, le) in
    record { pieces = h.pieces; splits = subst (λ z. Splits text 0 h.pieces z) e h.splits; clean = h.clean; tokens_are = h.tokens_are }

symbol_same : (s r : Symbol) → symbol_bytes s ≡ symbol_bytes r → s ≡ r
symbol_same Open Open e = refl
symbol_same Close Close e = refl
symbol_same Comma Comma e = refl
symbol_same Dot Dot e = refl
symbol_same Eq Eq e = refl
symbol_same Ne Ne e = refl
symbol_same Lt Lt e = refl
symbol_same Le Le e = refl
symbol_same Gt Gt e = refl
symbol_same Ge Ge e = refl
symbol_same _ _ e = absurd (omega (arith, ap (λ z. get_or z 0 0) e, ap (λ z. get_or z 1 0) e))

dash_no_digit : (b : ℕ) → b ≡ 45 → is_digit b ≡ true → ⊥
dash_no_digit b h k = grind (arith, nat_tests)

comment_int : (bs : List ℕ) → IsPiece Comment bs → IsPiece (OfToken Int) bs → ⊥
comment_int [] p q = p
comment_int (a ∷ []) p q = p
comment_int (a ∷ b ∷ bs) p q = elim q [ inl k ↦ dash_no_digit b p.1 k.1.0 | inr k ↦ dash_no_digit a p.0 k.0 ]

-- bytes are a piece of one kind at most
agree : (k j : PieceKind) (b : ℕ) (bs : List ℕ) → IsPiece k (b ∷ bs) → IsPiece j (b ∷ bs) → k ≡ j
agree Blank Blank b bs p q = refl
agree Comment Comment b bs p q = refl
agree (OfToken Word) (OfToken Word) b bs p q = refl
agree (OfToken Int) (OfToken Int) b bs p q = refl
agree (OfToken Text) (OfToken Text) b bs p q = refl
agree (OfToken (Sym s)) (OfToken (Sym r)) b bs p q = ap (λ z. OfToken (Sym z)) (symbol_same s r (sym p ∙ q))
agree Comment (OfToken Int) b bs p q = absurd (comment_int (b ∷ bs) p q)
agree (OfToken Int) Comment b bs p q = absurd (comment_int (b ∷ bs) q p)
agree k j b bs p q =
    let h : begins k b ≡ true = first_of k b bs p in
    let l : begins j b ≡ true = first_of j b bs q in
    absurd (grind (arith, nat_tests))

kinds_agree : (k j : PieceKind) (bs : List ℕ) → IsPiece k bs → IsPiece j bs → k ≡ j
kinds_agree k j [] p q = absurd (none_empty k p)
kinds_agree k j (b ∷ bs) p q = agree k j b bs p q

same_length : (k j : PieceKind) (n m : ℕ) (bytes : List ℕ) → IsLongest k n bytes → IsLongest j m bytes → n ≡ m
same_length k j n m bytes s r = elim (cases_order n m) [
  | inl e ↦ e
  | inr h ↦ elim h [ inl lt ↦ absurd (s.longest m j lt r.within r.piece) | inr lt ↦ absurd (r.longest n k lt s.within s.piece) ]
]

same_kind : (k j : PieceKind) (n m : ℕ) (bytes : List ℕ) → IsLongest k n bytes → IsLongest j m bytes → k ≡ j
same_kind k j n m bytes s r =
    kinds_agree k j (take n bytes) s.piece (subst (λ z. IsPiece j (take z bytes)) (sym (same_length k j n m bytes s r)) r.piece)

-- nothing clean stands there
abbrev Done : List ℕ → ℕ → Type 0
Done text at = (p : Piece) → p.span.from ≡ at → at < p.span.to → IsLongest p.kind (p.span.to - at) (drop at text) → IsClean text p → ⊥

piece_same : (p q : Piece) → p.kind ≡ q.kind → p.span.from ≡ q.span.from → p.span.to ≡ q.span.to → p ≡ q
piece_same p q a b c = λ i. record { kind = a i; span = record { from = b i; to = c i } }

-- two pieces that stand in one place are one
stand_same : (text : List ℕ) (at : ℕ) (p q : Piece) → p.span.from ≡ at → at < p.span.to → IsLongest p.kind (p.span.to - at) (drop at text) → q.span.from ≡ at → at < q.span.to → IsLongest q.kind (q.span.to - at) (drop at text) → p ≡ q
stand_same text at p q f lp s g lq r =
    let n : p.span.to - at ≡ q.span.to - at = same_length p.kind q.kind (p.span.to - at) (q.span.to - at) (drop at text) s r in
    let to : p.span.to ≡ q.span.to = omega arith in
    piece_same p q (same_kind p.kind q.kind (p.span.to - at) (q.span.to - at) (drop at text) s r) (f ∙ sym g) to

splits_same : (text : List ℕ) (at : ℕ) (ps qs : List Piece) (e f : ℕ) → Splits text at ps e → AllByRecursion (IsClean text) ps → Done text e → Splits text at qs f → AllByRecursion (IsClean text) qs → Done text f → (ps ≡ qs) × (e ≡ f)
splits_same text at [] [] e f h a d k b g = (refl, sym h ∙ k)
splits_same text at [] (q ∷ qs) e f h a d k b g = absurd (subst (λ z. Done text z) (sym h) d q k.0 k.1 k.2 b.0)
splits_same text at (p ∷ ps) [] e f h a d k b g = absurd (subst (λ z. Done text z) (sym k) g p h.0 h.1 h.2 a.0)
splits_same text at (p ∷ ps) (q ∷ qs) e f h a d k b g =
    let here = stand_same text at p q h.0 h.1 h.2 k.0 k.1 k.2 in
    let to : p.span.to ≡ q.span.to = ap (λ z. z.span.to) here in
    let r = splits_same text p.span.to ps qs e f h.3 a.1 d (subst (λ z. Splits text z qs f) (sym to) k.3) b.1 g in
    (ap (λ z. z ∷ ps) here ∙ ap (λ z. q ∷ z) r.0, r.1)

done_end : (text : List ℕ) → Done text (length text)
done_end text p f lt s c = let w : p.span.to - length text ≤ length (drop (length text) text) = s.within in absurd (omega (arith, length-drop (length text) text))

done_bad : (text : List ℕ) (end at : ℕ) → IsBadAt text end at → Done text end
done_bad text end at b p f lt s c = elim b [
  | inl h ↦ h.2 (p.span.to - end) p.kind s.piece
  | inr h ↦
      let same = stand_same text end h.0 p h.1.0 h.1.1 h.1.2 f lt s in
      h.2.not_utf8 ((subst (λ z. IsClean text z) (sym same) c).utf8 h.2.is_text)
]

-- what spells a text is one list of tokens
pub spells_same : {text : List ℕ} {ts us : List Token} → Spells text ts → Spells text us → ts ≡ us
spells_same {text = text} h k =
    let r = splits_same text 0 h.pieces k.pieces (length text) (length text) h.splits h.clean (done_end text) k.splits k.clean (done_end text) in
    h.tokens_are ∙ ap (λ z. tokens_of z) r.0 ∙ sym k.tokens_are

bad_within : (text : List ℕ) (end at : ℕ) → IsBadAt text end at → end < length text
bad_within text end at b = elim b [
  | inl h ↦ h.1
  | inr h ↦
      let w : (h.0).span.to - end ≤ length (drop end text) = h.1.2.within in
      let lt : end < (h.0).span.to = h.1.1 in
      omega (arith, length-drop end text, w, lt)
]

-- a text with a bad byte is not spelled
pub spelled_not_bad : {text : List ℕ} {ts : List Token} {at : ℕ} → Spells text ts → IsBadByte text at → ⊥
spelled_not_bad {text = text} {at = at} h k =
    let r = splits_same text 0 h.pieces k.pieces (length text) k.end h.splits h.clean (done_end text) k.splits k.clean (done_bad text k.end at k.bad) in
    let lt = bad_within text k.end at k.bad in
    absurd (omega (arith, r.1, lt))

-- the bad byte is one alone
pub bad_same : {text : List ℕ} {a b : ℕ} → IsBadByte text a → IsBadByte text b → a ≡ b
bad_same {text = text} {a = a} {b = b} h k =
    let ends = (splits_same text 0 h.pieces k.pieces h.end k.end h.splits h.clean (done_bad text h.end a h.bad) k.splits k.clean (done_bad text k.end b k.bad)).1 in
    at_same k.end (subst (λ z. IsBadAt text z a) ends h.bad) k.bad
  where
    -- an unclean piece stands where no piece does
    apart : (end at : ℕ) → NoPiece (drop end text) → (p : Piece) × Splits text end (p ∷ []) p.span.to × IsUnclean text p at → ⊥
    apart end at n h = n (h.0.span.to - end) h.0.kind h.1.2.piece

    count_same : (p q : Piece) → p ≡ q → IsUnclean text p a → IsUnclean text q b → a ≡ b
    count_same p q e x y =
        let front : utf8_valid_len (inside_of text p) ≡ utf8_valid_len (inside_of text q) = ap (λ z. utf8_valid_len (inside_of text z)) e in
        let from : p.span.from ≡ q.span.from = ap (λ z. z.span.from) e in
        omega (arith, x.place, y.place, front, from, utf8_valid_len-IsValidUpTo (inside_of text p) x.count x.valid, utf8_valid_len-IsValidUpTo (inside_of text q) y.count y.valid)

    at_same : (end : ℕ) → IsBadAt text end a → IsBadAt text end b → a ≡ b
    at_same end x y = elim x [
      | inl p ↦ elim y [ inl q ↦ p.0 ∙ sym q.0 | inr q ↦ absurd (apart end b p.2 q) ]
      | inr p ↦ elim y [ inl q ↦ absurd (apart end a q.2 p) | inr q ↦ count_same p.0 q.0 (stand_same text end p.0 q.0 p.1.0 p.1.1 p.1.2 q.1.0 q.1.1 q.1.2) p.2 q.2 ]
    ]

-- the tokens that spell the text, or the bad byte
abbrev pub Right : List ℕ → Result (List Token) (Fail LexFault) → Type 0
Right text r = MatchResult r (Spells text) (RefusesByte text)

pub only_tokens : (text : List ℕ) (r : Result (List Token) (Fail LexFault)) → length text ≤ longest_text → Right text r
    → (tokens : List Token) → length text ≤ longest_text → Spells text tokens → MatchResult r (λ v. v ≡ tokens) (λ e. e ≡ NoMemory)
only_tokens text (Ok v) size h tokens le s = spells_same h s
only_tokens text (Err NoMemory) size h tokens le s = refl
only_tokens text (Err (Refused (BadByte at))) size h tokens le s = absurd (spelled_not_bad s h)
only_tokens text (Err (Refused (TooLong n))) size h tokens le s = absurd h

pub fault_same : (text : List ℕ) (f g : LexFault) → IsFault text f → IsFault text g → f ≡ g
fault_same text (TooLong m) (TooLong n) h k = ap TooLong (h.0 ∙ sym k.0)
fault_same text (TooLong m) (BadByte at) h k = let lt = h.1 in let le = k.0 in absurd (omega arith)
fault_same text (BadByte at) (TooLong n) h k = let lt = k.1 in let le = h.0 in absurd (omega arith)
fault_same text (BadByte at) (BadByte to) h k = ap BadByte (bad_same h.1 k.1)

pub spelled_no_fault : (text : List ℕ) (tokens : List Token) (f : LexFault) → length text ≤ longest_text → Spells text tokens → IsFault text f → ⊥
spelled_no_fault text tokens (TooLong m) le s h = let lt = h.1 in absurd (omega arith)
spelled_no_fault text tokens (BadByte at) le s h = spelled_not_bad s h.1

pub only_fault : (text : List ℕ) (r : Result (List Token) (Fail LexFault)) → length text ≤ longest_text → Right text r
    → (fault : LexFault) → IsFault text fault → MatchResult r (λ _. ⊥) (λ e. (e ≡ Refused fault) ⊎ (e ≡ NoMemory))
only_fault text (Ok v) size h fault k = spelled_no_fault text v fault size h k
only_fault text (Err NoMemory) size h fault k = inr refl
only_fault text (Err (Refused (BadByte at))) size h fault k = inl (ap Refused (fault_same text (BadByte at) fault (size, h) k))
only_fault text (Err (Refused (TooLong n))) size h fault k = absurd h
