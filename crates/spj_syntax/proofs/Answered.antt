-- What follows from the parser's answer.
use Rattle.std.proofs.Common.{◌≡◌, ◌⊎◌, inl, inr, ◌-◌, ℕ, Bool, List, [], ◌∷◌, ◌++◌, ◌≤◌, false, length, drop, arith, sym, ◌∙◌, ap, subst, refl, append_assoc, Result, Ok, Err, MatchResult, OnOk, IfOk}
use Rattle.std.proofs.lemmas.Bool.{cases_lt}
use Rattle.std.proofs.lemmas.List.{length-map, length-drop, drop_all, append-nil}
use Rattle.std.specs.List.{AllByRecursion}
use Rattle.script_lex.specs.declared.kinds.Token.{Token}
use Rattle.cqa_value.specs.declared.memory.Fail.{Fail}
use Rattle.cqa_value.specs.declared.memory.Fail.TheVariants.{Refused, NoMemory as FailNoMemory}
use Rattle.spj_syntax.specs.declared.tree.Statement.{Statement}
use Rattle.spj_syntax.specs.declared.fault.SyntaxFault.{SyntaxFault}
use Rattle.spj_syntax.specs.declared.fault.SyntaxFault.TheVariants.{At, OutOfRange, TextTooLong, LongName}
use Rattle.spj_syntax.specs.Lexemes.{Lexeme, lexeme}
use Rattle.spj_syntax.specs.Shapes.{Shape, FirstFault, Generates, BeginsShape, Stuck}
use Rattle.spj_syntax.specs.Grammar as grammar
use Rattle.spj_syntax.specs.Parsed.{IsStatement, IsFaultOf, Fits, AllLexemesFit, IsFirstUnfit, RefusesForm, RefusesTokens, fault_of, is_set, lexemes, place_of}
use Rattle.script_lex.specs.Tokens.{Spells, longest_text}
use Rattle.script_lex.proofs.Spelling.{spells_same}
use Rattle.spj_syntax.specs.Reading.{Parses, ParsesForm}
use Rattle.spj_syntax.specs.Texts.{IsFormOf}
use Rattle.spj_syntax.specs.Written.{IsWrittenAs}
use Rattle.spj_syntax.proofs.Trees.{statement_same}

-- lexemes that a shape generates have no first fault
pub fault_not : (p : Shape) (ls rest : List Lexeme) → FirstFault p ls rest → Generates p ls → ⊥
fault_not p ls [] f g = f.stuck (subst (λ z. Generates p z) (f.split ∙ append-nil f.front) g)
fault_not p ls (t ∷ rest) f g = f.stuck (rest, subst (λ z. Generates p z) (f.split ∙ sym (append_assoc f.front (t ∷ []) rest)) g)

fit_there : (set : Bool) (text : List ℕ) (front : List Token) (token : Token) (rest : List Token) → AllByRecursion (Fits set) (lexemes text (front ++ token ∷ rest)) → Fits set (lexeme text token)
fit_there set text [] token rest a = a.0
fit_there set text (t ∷ front) token rest a = fit_there set text front token rest a.1

unfit_absurd : (set : Bool) (text : List ℕ) (tokens : List Token) (fault : SyntaxFault) → IsFirstUnfit set text tokens fault → AllByRecursion (Fits set) (lexemes text tokens) → ⊥
unfit_absurd set text tokens fault f a = f.unfit (fit_there set text f.front f.token f.rest (subst (λ z. AllByRecursion (Fits set) (lexemes text z)) f.split a))

-- why tokens are refused, with the two kinds of causes apart
abbrev Cause : Shape → Bool → List ℕ → List Token → SyntaxFault → Type 0
Cause p set text tokens fault = ((at : ℕ) × (fault ≡ At at) × IsFaultOf p text tokens at) ⊎ (Generates p (lexemes text tokens) × IsFirstUnfit set text tokens fault)

cause : (text : List ℕ) (tokens : List Token) (fault : SyntaxFault) → RefusesTokens text tokens fault → Cause grammar.statement (is_set (lexemes text tokens)) text tokens fault
cause text tokens (At at) h = inl (at, refl, h)
cause text tokens (OutOfRange at) h = let s = h.0 in inr (s.generated, h.1)
cause text tokens (TextTooLong at) h = let s = h.0 in inr (s.generated, h.1)
cause text tokens (LongName at) h = let s = h.0 in inr (s.generated, h.1)

form_cause : (p : Shape) (text : List ℕ) (tokens : List Token) (fault : SyntaxFault) → RefusesForm p text tokens fault → Cause p false text tokens fault
form_cause p text tokens (At at) h = inl (at, refl, h)
form_cause p text tokens (OutOfRange at) h = inr h
form_cause p text tokens (TextTooLong at) h = inr h
form_cause p text tokens (LongName at) h = inr h

at_not : (p : Shape) (text : List ℕ) (tokens : List Token) (at : ℕ) → IsFaultOf p text tokens at → Generates p (lexemes text tokens) → ⊥
at_not p text tokens at h g = fault_not p (lexemes text tokens) (drop h.count (lexemes text tokens)) h.first g

cause_not : (p : Shape) (set : Bool) (text : List ℕ) (tokens : List Token) (fault : SyntaxFault) → Cause p set text tokens fault → Generates p (lexemes text tokens) → AllByRecursion (Fits set) (lexemes text tokens) → ⊥
cause_not p set text tokens fault h g a = elim h [
  | inl k ↦ at_not p text tokens k.0 k.2 g
  | inr k ↦ unfit_absurd set text tokens fault k.1 a
]

not_refused : (text : List ℕ) (tokens : List Token) (fault : SyntaxFault) → RefusesTokens text tokens fault → IsStatement (lexemes text tokens) → AllLexemesFit (lexemes text tokens) → ⊥
not_refused text tokens fault h s a = cause_not grammar.statement (is_set (lexemes text tokens)) text tokens fault (cause text tokens fault h) s.generated a

pub ok_statement : (text : List ℕ) (tokens : List Token) (r : Result Statement (Fail SyntaxFault)) → Parses text tokens r → OnOk r (IsStatement (lexemes text tokens))
ok_statement text tokens (Ok v) h = h.0
ok_statement text tokens (Err e) h = tt

pub ok_fit : (text : List ℕ) (tokens : List Token) (r : Result Statement (Fail SyntaxFault)) → Parses text tokens r → OnOk r (AllLexemesFit (lexemes text tokens))
ok_fit text tokens (Ok v) h = h.1
ok_fit text tokens (Err e) h = tt

pub ok_written : (text : List ℕ) (tokens : List Token) (r : Result Statement (Fail SyntaxFault)) → Parses text tokens r → IfOk r (λ v. IsWrittenAs v (lexemes text tokens))
ok_written text tokens (Ok v) h = h.2
ok_written text tokens (Err e) h = tt

pub err_refuses : (text : List ℕ) (tokens : List Token) (r : Result Statement (Fail SyntaxFault)) → Parses text tokens r → (fault : SyntaxFault) → r ≡ Err (Refused fault) → RefusesTokens text tokens fault
err_refuses text tokens (Ok v) h fault e = absurd (cc)
err_refuses text tokens (Err FailNoMemory) h fault e = absurd (cc)
err_refuses text tokens (Err (Refused f)) h fault e = let g : f ≡ fault = cc in subst (λ z. RefusesTokens text tokens z) g h

pub statement_read : (text : List ℕ) (tokens : List Token) (r : Result Statement (Fail SyntaxFault)) → Parses text tokens r → IsStatement (lexemes text tokens) → AllLexemesFit (lexemes text tokens)
    → MatchResult r (λ _. Unit {0}) (λ e. e ≡ FailNoMemory)
statement_read text tokens (Ok v) h s a = tt
statement_read text tokens (Err FailNoMemory) h s a = refl
statement_read text tokens (Err (Refused fault)) h s a = absurd (not_refused text tokens fault h s a)

pub only_statement : (text : List ℕ) (tokens : List Token) (r : Result Statement (Fail SyntaxFault)) → Parses text tokens r → (v : Statement) → IsWrittenAs v (lexemes text tokens) → IfOk r (λ u. u ≡ v)
only_statement text tokens (Ok u) h v w = let k = h.2 in statement_same u v (sym k.tokens ∙ w.tokens)
only_statement text tokens (Err e) h v w = tt

-- There is one first fault.

-- what stands in one list at the seam of another
abbrev Longer : {A : Type 0} → List A → List A → List A → List A → Type 0
Longer {A = A} front rest more left = (t : A) × (mid : List A) × (rest ≡ t ∷ (mid ++ left)) × (more ≡ front ++ t ∷ mid)

compared : {A : Type 0} (f r g s : List A) → f ++ r ≡ g ++ s → (r ≡ s) ⊎ (Longer f r g s ⊎ Longer g s f r)
compared [] r [] s e = inl e
compared [] r (y ∷ g) s e = inr (inl (y, g, e, refl))
compared (x ∷ f) r [] s e = inr (inr (x, f, sym e, refl))
compared (x ∷ f) r (y ∷ g) s e =
    let head : x ≡ y = cc in
    let tail : f ++ r ≡ g ++ s = cc in
    elim (compared f r g s tail) [
      | inl h ↦ inl h
      | inr k ↦ elim k [
        | inl h ↦ inr (inl (h.0, h.1, h.2, ap (λ z. y ∷ z) h.3 ∙ ap (λ z. z ∷ (f ++ h.0 ∷ h.1)) (sym head)))
        | inr h ↦ inr (inr (h.0, h.1, h.2, ap (λ z. x ∷ z) h.3 ∙ ap (λ z. z ∷ (g ++ h.0 ∷ h.1)) head))
      ]
    ]

-- no further than where it is stuck
past_fault : (p : Shape) (f r g s : List Lexeme) → Stuck p f r → BeginsShape p g → Longer f r g s → ⊥
past_fault p f [] g s k b l = absurd (let e : [] ≡ l.0 ∷ (l.1 ++ s) = l.2 in cc)
past_fault p f (t ∷ r) g s k b l =
    let e : t ≡ l.0 = let h : t ∷ r ≡ l.0 ∷ (l.1 ++ s) = l.2 in cc in
    k (l.1 ++ b.0, subst (λ z. Generates p z) (ap (λ z. z ++ b.0) (l.3 ∙ ap (λ z. f ++ z ∷ l.1) (sym e)) ∙ append_assoc f (t ∷ l.1) b.0 ∙ sym (append_assoc f (t ∷ []) (l.1 ++ b.0))) b.1)

rest_same : (p : Shape) (ls r s : List Lexeme) → FirstFault p ls r → FirstFault p ls s → r ≡ s
rest_same p ls r s f g = elim (compared f.front r g.front s (sym f.split ∙ g.split)) [
  | inl h ↦ h
  | inr k ↦ elim k [
    | inl h ↦ absurd (past_fault p f.front r g.front s f.stuck g.begins h)
    | inr h ↦ absurd (past_fault p g.front s f.front r g.stuck f.begins h)
  ]
]

drops_same : {A : Type 0} (c d : ℕ) (xs : List A) → length xs - c ≡ length xs - d → drop c xs ≡ drop d xs
drops_same c d xs e = elim (cases_lt c (length xs)) [
  | inl h ↦ let k : c ≡ d = omega arith in ap (λ z. drop z xs) k
  | inr h ↦ drop_all c xs h ∙ sym (drop_all d xs (omega arith))
]

at_same : (p : Shape) (text : List ℕ) (tokens : List Token) (a b : ℕ) → IsFaultOf p text tokens a → IsFaultOf p text tokens b → a ≡ b
at_same p text tokens a b f g =
    let ls = lexemes text tokens in
    let e : drop f.count ls ≡ drop g.count ls = rest_same p ls (drop f.count ls) (drop g.count ls) f.first g.first in
    let n : length tokens - f.count ≡ length tokens - g.count = omega (arith, ap length e, length-drop f.count ls, length-drop g.count ls, length-map tokens (lexeme text)) in
    f.place ∙ ap (λ z. place_of text z) (drops_same f.count g.count tokens n) ∙ sym g.place

-- no further than the first token that doesn't fit
past_unfit : (set : Bool) (text : List ℕ) (front : List Token) (token : Token) (rest more left : List Token) → ¬ Fits set (lexeme text token) → AllByRecursion (Fits set) (lexemes text more) → Longer front (token ∷ rest) more left → ⊥
past_unfit set text front token rest more left n a l =
    let e : token ≡ l.0 = let h : token ∷ rest ≡ l.0 ∷ (l.1 ++ left) = l.2 in cc in
    n (fit_there set text front token l.1 (subst (λ z. AllByRecursion (Fits set) (lexemes text z)) (l.3 ∙ ap (λ z. front ++ z ∷ l.1) (sym e)) a))

unfit_same : (set : Bool) (text : List ℕ) (tokens : List Token) (a b : SyntaxFault) → IsFirstUnfit set text tokens a → IsFirstUnfit set text tokens b → a ≡ b
unfit_same set text tokens a b f g = elim (compared f.front (f.token ∷ f.rest) g.front (g.token ∷ g.rest) (sym f.split ∙ g.split)) [
  | inl h ↦ let e : f.token ≡ g.token = cc h in f.fault_is ∙ ap (λ t. fault_of (lexeme text t) t.span.from) e ∙ sym g.fault_is
  | inr k ↦ elim k [
    | inl h ↦ absurd (past_unfit set text f.front f.token f.rest g.front (g.token ∷ g.rest) f.unfit g.fit h)
    | inr h ↦ absurd (past_unfit set text g.front g.token g.rest f.front (f.token ∷ f.rest) g.unfit f.fit h)
  ]
]

cause_same : (p : Shape) (set : Bool) (text : List ℕ) (tokens : List Token) (a b : SyntaxFault) → Cause p set text tokens a → Cause p set text tokens b → a ≡ b
cause_same p set text tokens a b (inl h) (inl k) = h.1 ∙ ap At (at_same p text tokens h.0 k.0 h.2 k.2) ∙ sym k.1
cause_same p set text tokens a b (inl h) (inr k) = absurd (at_not p text tokens h.0 h.2 k.0)
cause_same p set text tokens a b (inr h) (inl k) = absurd (at_not p text tokens k.0 k.2 h.0)
cause_same p set text tokens a b (inr h) (inr k) = unfit_same set text tokens a b h.1 k.1

fault_same : (text : List ℕ) (tokens : List Token) (a b : SyntaxFault) → RefusesTokens text tokens a → RefusesTokens text tokens b → a ≡ b
fault_same text tokens a b f g = cause_same grammar.statement (is_set (lexemes text tokens)) text tokens a b (cause text tokens a f) (cause text tokens b g)

pub only_fault : (text : List ℕ) (tokens : List Token) (r : Result Statement (Fail SyntaxFault)) → Parses text tokens r → (fault : SyntaxFault) → RefusesTokens text tokens fault
    → MatchResult r (λ _. ⊥) (λ e. (e ≡ Refused fault) ⊎ (e ≡ FailNoMemory))
only_fault text tokens (Ok v) h fault f = not_refused text tokens fault f h.0 h.1
only_fault text tokens (Err FailNoMemory) h fault f = inr refl
only_fault text tokens (Err (Refused g)) h fault f = inl (ap Refused (fault_same text tokens g fault h f))

-- What follows from the answer of the parser of a form.

pub form_read : {A : Type 0} (p : Shape) (w : A → List Lexeme) (text : List ℕ) (tokens : List Token) (r : Result A (Fail SyntaxFault)) → length text ≤ longest_text → Spells text tokens → ParsesForm p w text tokens r
    → IfOk r (λ v. IsFormOf p text (w v))
form_read p w text tokens (Ok v) short spelled h = record { tokens = tokens; short = short; spelled = spelled; allowed = h.0; fit = h.1; is = h.2 }
form_read p w text tokens (Err e) short spelled h = tt

pub form_refuses : {A : Type 0} (p : Shape) (w : A → List Lexeme) (text : List ℕ) (tokens : List Token) (r : Result A (Fail SyntaxFault)) → ParsesForm p w text tokens r → (fault : SyntaxFault) → r ≡ Err (Refused fault) → RefusesForm p text tokens fault
form_refuses p w text tokens (Ok v) h fault e = absurd (cc)
form_refuses p w text tokens (Err FailNoMemory) h fault e = absurd (cc)
form_refuses p w text tokens (Err (Refused f)) h fault e = let g : f ≡ fault = cc in subst (λ z. RefusesForm p text tokens z) g h

pub form_complete : {A : Type 0} (p : Shape) (w : A → List Lexeme) → ((a b : A) → w a ≡ w b → a ≡ b) → (text : List ℕ) (tokens : List Token) (r : Result A (Fail SyntaxFault)) → Spells text tokens → ParsesForm p w text tokens r
    → (v : A) → IsFormOf p text (w v) → MatchResult r (λ u. u ≡ v) (λ e. e ≡ FailNoMemory)
form_complete p w same text tokens (Ok u) spelled h v f = same u v (sym h.2 ∙ ap (lexemes text) (spells_same spelled f.spelled) ∙ f.is)
form_complete p w same text tokens (Err FailNoMemory) spelled h v f = refl
form_complete p w same text tokens (Err (Refused fault)) spelled h v f =
    let e = ap (lexemes text) (spells_same f.spelled spelled) in
    absurd (cause_not p false text tokens fault (form_cause p text tokens fault h) (subst (Generates p) e f.allowed) (subst (AllByRecursion (Fits false)) e f.fit))

pub form_only_fault : {A : Type 0} (p : Shape) (w : A → List Lexeme) (text : List ℕ) (tokens : List Token) (r : Result A (Fail SyntaxFault)) → ParsesForm p w text tokens r → (fault : SyntaxFault) → RefusesForm p text tokens fault
    → MatchResult r (λ _. ⊥) (λ e. (e ≡ Refused fault) ⊎ (e ≡ FailNoMemory))
form_only_fault p w text tokens (Ok v) h fault f = cause_not p false text tokens fault (form_cause p text tokens fault f) h.0 h.1
form_only_fault p w text tokens (Err FailNoMemory) h fault f = inr refl
form_only_fault p w text tokens (Err (Refused g)) h fault f = inl (ap Refused (cause_same p false text tokens g fault (form_cause p text tokens g h) (form_cause p text tokens fault f)))
