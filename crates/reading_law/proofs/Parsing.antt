-- Tokens are a statement, or they have a first fault.
use Rattle.std.proofs.Common.{◌≡◌, ◌⊎◌, inl, inr, ◌-◌, ◌≤◌, ℕ, ℤ, pos, negsuc, Bool, true, false, List, [], ◌∷◌, length, drop, refl, ap, arith}
use Rattle.std.specs.List.{AllByRecursion}
use Rattle.std.proofs.lemmas.Bool.{cases_lt, cases_Bool}
use Rattle.std.proofs.lemmas.Int.{ints}
use Rattle.cqa_value.proofs.Words.{clash}
use Rattle.cqa_value.specs.Literals.{is_in_range}
use Rattle.cqa_value.specs.declared.name.TheConstants.{LONGEST_TEXT_VALUE}
use Rattle.cqa_model.specs.declared.limits.TheConstants.{LONGEST_NAME}
use Rattle.script_lex.specs.declared.kinds.Token.{Token}
use Rattle.spj_syntax.specs.declared.fault.SyntaxFault.{SyntaxFault}
use Rattle.spj_syntax.specs.declared.fault.SyntaxFault.TheVariants.{At}
use Rattle.spj_syntax.specs.Lexemes.{Lexeme, Word, Number, Quoted, Mark, lexeme}
use Rattle.spj_syntax.specs.Shapes.{Generates, FirstFault}
use Rattle.spj_syntax.specs.Factored as factored
use Rattle.spj_syntax.specs.Limits.{most_conflicts}
use Rattle.spj_syntax.specs.Parsed.{lexemes, place_of, is_set, IsIntInRange, Fits, fault_of, IsStatement, IsFirstUnfit}
use Rattle.spj_syntax.specs.Walk.{Outcome, Past, Stopped, read}
use Rattle.spj_syntax.proofs.Exact.{whole, too_many, stopped}
use Rattle.spj_syntax.proofs.Factoring.{from_factored}
use Rattle.spj_syntax.proofs.Table.{statement_decided}
use Rattle.spj_syntax.proofs.Whole.{fault_at, refused}
use Rattle.reading_law.specs.Texts.{ShapesDecide, TokensAreDecided}

pub shapes_decide : ShapesDecide
shapes_decide p ls one_ahead = go (read p ls) refl
  where
    go : (outcome : Outcome) → read p ls ≡ outcome → Generates p ls ⊎ ((rest : List Lexeme) × FirstFault p ls rest)
    go (Past []) e = inl (whole p ls one_ahead e)
    go (Past (t ∷ rest)) e = inr (t ∷ rest, too_many p ls t rest one_ahead e)
    go (Stopped rest) e = inr (rest, stopped p ls rest one_ahead e)

int_fits : (set : Bool) (z : ℤ) → Dec (IsIntInRange set z)
int_fits true (pos n) = elim (cases_lt most_conflicts n) [
  | inl over ↦ no (λ h. absurd (omega (arith, ints, h.1)))
  | inr within ↦ yes (omega (arith, ints), omega (arith, ints))
]
int_fits true (negsuc n) = no (λ h. absurd (omega (arith, ints, h.0)))
int_fits false z = elim (cases_Bool (is_in_range z)) [ inl e ↦ yes e | inr e ↦ no (λ h. clash (is_in_range z) h e) ]

short_fits : (most n : ℕ) → Dec (n ≤ most)
short_fits most n = elim (cases_lt most n) [ inl over ↦ no (λ h. absurd (omega arith)) | inr within ↦ yes within ]

fits : (set : Bool) (l : Lexeme) → Dec (Fits set l)
fits set (Word w) = short_fits LONGEST_NAME (length w)
fits set (Number z) = int_fits set z
fits set (Quoted t) = short_fits LONGEST_TEXT_VALUE (length t)
fits set (Mark s) = yes tt

-- all tokens fit, or one of them is the first that doesn't
first_unfit : (set : Bool) (text : List ℕ) (tokens : List Token) → AllByRecursion (Fits set) (lexemes text tokens) ⊎ ((fault : SyntaxFault) × IsFirstUnfit set text tokens fault)
first_unfit set text [] = inl tt
first_unfit set text (token ∷ tokens) = go (fits set (lexeme text token)) (first_unfit set text tokens)
  where
    go : Dec (Fits set (lexeme text token)) → AllByRecursion (Fits set) (lexemes text tokens) ⊎ ((fault : SyntaxFault) × IsFirstUnfit set text tokens fault)
        → AllByRecursion (Fits set) (lexemes text (token ∷ tokens)) ⊎ ((fault : SyntaxFault) × IsFirstUnfit set text (token ∷ tokens) fault)
    go (no unfit) rest = inr (fault_of (lexeme text token) token.span.from, record { front = []; token = token; rest = tokens; split = refl; fit = tt; unfit = unfit; fault_is = refl })
    go (yes fit) (inl all) = inl (fit, all)
    go (yes fit) (inr later) =
        let u = later.1 in
        inr (later.0, record { front = token ∷ u.front; token = u.token; rest = u.rest; split = ap (λ z. token ∷ z) u.split; fit = (fit, u.fit); unfit = u.unfit; fault_is = u.fault_is })

pub tokens_are_decided : TokensAreDecided
tokens_are_decided text tokens = elim (shapes_decide factored.statement (lexemes text tokens) statement_decided) [
  | inl generated ↦
      let statement : IsStatement (lexemes text tokens) = record { generated = from_factored (lexemes text tokens) generated } in
      elim (first_unfit (is_set (lexemes text tokens)) text tokens) [
        | inl fit ↦ inr (statement, fit)
        | inr unfit ↦ inl (unfit.0, refused text tokens unfit.0 refl unfit.1 statement)
      ]
  | inr fault ↦ inl (At (place_of text (drop (length tokens - length fault.0) tokens)), fault_at text tokens fault.0 (length fault.0) (place_of text (drop (length tokens - length fault.0) tokens)) fault.1 refl refl)
]
