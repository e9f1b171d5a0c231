-- Where the tokens of a text stand.
use Rattle.std.proofs.Common.{◌≡◌, ◌-◌, ◌<◌, ◌≤◌, ℕ, List, [], ◌∷◌, ◌++◌, length, take, drop, Result, Ok, Err, IfOk, All, sym, subst, arith, length-drop}
use Rattle.std.proofs.lemmas.List.Elements.{All-from_recursion}
use Rattle.std.specs.List.{AllByRecursion}
use Rattle.cqa_value.specs.declared.memory.Fail.{Fail}
use Rattle.script_lex.specs.declared.kinds.Span.{Span}
use Rattle.script_lex.specs.declared.kinds.Token.{Token}
use Rattle.script_lex.specs.declared.kinds.LexFault.{LexFault}
use Rattle.script_lex.specs.declared.pieces.PieceKind.{PieceKind}
use Rattle.script_lex.specs.declared.pieces.PieceKind.TheVariants.{Blank, Comment, Token as OfToken}
use Rattle.script_lex.specs.declared.pieces.Piece.{Piece}
use Rattle.script_lex.specs.Tokens.{IsPiece, IsLongest, Splits, kept, tokens_of, Spells, LiesIn, IsSpelled, Rise}
use Rattle.script_lex.proofs.Spelling.{Right}

-- a fact of each token that a piece is, and of more
each_kept : (P : Token → Type 0) (kind : PieceKind) (span : Span) (tokens : List Token) → AllByRecursion P (kept kind span) → AllByRecursion P tokens → AllByRecursion P (kept kind span ++ tokens)
each_kept P Blank span tokens h k = k
each_kept P Comment span tokens h k = k
each_kept P (OfToken kind) span tokens h k = (h.0, k)

lies_kept : (text : List ℕ) (kind : PieceKind) (span : Span) → span.from < span.to → span.to ≤ length text → AllByRecursion (LiesIn text) (kept kind span)
lies_kept text Blank span lt le = tt
lies_kept text Comment span lt le = tt
lies_kept text (OfToken kind) span lt le = (record { some = lt; within = le }, tt)

-- a piece ends in the text
ends_within : (text : List ℕ) (at : ℕ) (p : Piece) → p.span.from ≡ at → at < p.span.to → IsLongest p.kind (p.span.to - at) (drop at text) → p.span.to ≤ length text
ends_within text at p from lt h = let w = h.within in omega (arith, length-drop at text)

lie_from : (text : List ℕ) (at end : ℕ) (ps : List Piece) → Splits text at ps end → AllByRecursion (LiesIn text) (tokens_of ps)
lie_from text at end [] h = tt
lie_from text at end (p ∷ ps) h =
    each_kept (LiesIn text) p.kind p.span (tokens_of ps) (lies_kept text p.kind p.span (omega (arith, h.0, h.1)) (ends_within text at p h.0 h.1 h.2)) (lie_from text p.span.to end ps h.3)

spelled_kept : (text : List ℕ) (kind : PieceKind) (span : Span) → IsPiece kind (take (span.to - span.from) (drop span.from text)) → AllByRecursion (IsSpelled text) (kept kind span)
spelled_kept text Blank span h = tt
spelled_kept text Comment span h = tt
spelled_kept text (OfToken kind) span h = (record { spelled = h }, tt)

spelled_from : (text : List ℕ) (at end : ℕ) (ps : List Piece) → Splits text at ps end → AllByRecursion (IsSpelled text) (tokens_of ps)
spelled_from text at end [] h = tt
spelled_from text at end (p ∷ ps) h =
    each_kept (IsSpelled text) p.kind p.span (tokens_of ps) (spelled_kept text p.kind p.span (subst (λ z. IsPiece p.kind (take (p.span.to - z) (drop z text))) (sym h.0) h.2.piece)) (spelled_from text p.span.to end ps h.3)

Rise-later : (a b : ℕ) (tokens : List Token) → a ≤ b → Rise b tokens → Rise a tokens
Rise-later a b [] le h = tt
Rise-later a b (t ∷ tokens) le h = (omega (arith, h.0), h.1)

rise_kept : (at : ℕ) (kind : PieceKind) (span : Span) (tokens : List Token) → span.from ≡ at → at < span.to → Rise span.to tokens → Rise at (kept kind span ++ tokens)
rise_kept at Blank span tokens e lt h = Rise-later at span.to tokens (omega arith) h
rise_kept at Comment span tokens e lt h = Rise-later at span.to tokens (omega arith) h
rise_kept at (OfToken kind) span tokens e lt h = (omega arith, h)

rise_from : (text : List ℕ) (at end : ℕ) (ps : List Piece) → Splits text at ps end → Rise at (tokens_of ps)
rise_from text at end [] h = tt
rise_from text at end (p ∷ ps) h = rise_kept at p.kind p.span (tokens_of ps) h.0 h.1 (rise_from text p.span.to end ps h.3)

pub lie_in : (text : List ℕ) (tokens : List Token) → Spells text tokens → All (LiesIn text) tokens
lie_in text tokens h = All-from_recursion (LiesIn text) tokens (subst (AllByRecursion (LiesIn text)) (sym h.tokens_are) (lie_from text 0 (length text) h.pieces h.splits))

pub spelled : (text : List ℕ) (tokens : List Token) → Spells text tokens → All (IsSpelled text) tokens
spelled text tokens h = All-from_recursion (IsSpelled text) tokens (subst (AllByRecursion (IsSpelled text)) (sym h.tokens_are) (spelled_from text 0 (length text) h.pieces h.splits))

pub rise : (text : List ℕ) (tokens : List Token) → Spells text tokens → Rise 0 tokens
rise text tokens h = subst (Rise 0) (sym h.tokens_are) (rise_from text 0 (length text) h.pieces h.splits)

-- what follows from the spelling holds of an answer
pub of_answer : (P : List Token → Type 0) (text : List ℕ) (r : Result (List Token) (Fail LexFault)) → ((tokens : List Token) → Spells text tokens → P tokens) → Right text r → IfOk r P
of_answer P text (Ok tokens) f h = f tokens h
of_answer P text (Err e) f h = tt
