-- Tokens of clauses, one by one.
use Rattle.std.proofs.Common.{◌≡◌, ℕ, ◌-◌, zero, suc, Bool, true, false, cond, List, [], ◌∷◌, ◌++◌, refl, sym, ◌∙◌, ap, subst, arith, append_assoc, Option, Some, None, Ok, Err}
use Rattle.std.proofs.lemmas.Bool.{eq-eqb}
use Rattle.std.specs.Prelude.{Result}
use Rattle.std.proofs.lemmas.Bool.{ne_eqb}
use Rattle.cnf_form.specs.declared.formula.Lit.{Lit}
use Rattle.cnf_form.specs.declared.formula.Clause.{Clause}
use Rattle.cnf_form.specs.Literals.{literals}
use Rattle.cnf_form.specs.declared.body.Body.{Body}
use Rattle.cnf_form.specs.Reading.{Goes, outcome}
use Rattle.cnf_form.specs.Numbers.{signed_of}
use Rattle.cnf_form.specs.Formulas.{Token, tagged, number_then, by_number, numbers, literal, clauses_after, clauses_from}

zero_then : (done : List (List Lit)) (partial : List Lit) (z : Bool × ℕ) (r : Result (List (Bool × ℕ)) ℕ) → z.1 ≡ 0 → clauses_from done partial (number_then z r) ≡ clauses_from (done ++ partial ∷ []) [] r
zero_then done partial z (Ok zs) e = ap (λ (cs : List (List Lit)). Ok cs)
    (ap (λ (b : Bool). done ++ cond b (partial ∷ clauses_after [] zs) (clauses_after (partial ++ literal z ∷ []) zs)) (eq-eqb z.1 0 e) ∙ sym (append_assoc done (partial ∷ []) (clauses_after [] zs)))
zero_then done partial z (Err n) e = refl

other_then : (done : List (List Lit)) (partial : List Lit) (z : Bool × ℕ) (r : Result (List (Bool × ℕ)) ℕ) → (z.1 ≡ 0 → ⊥) → clauses_from done partial (number_then z r) ≡ clauses_from done (partial ++ literal z ∷ []) r
other_then done partial z (Ok zs) e = ap (λ (cs : List (List Lit)). Ok cs)
    (ap (λ (b : Bool). done ++ cond b (partial ∷ clauses_after [] zs) (clauses_after (partial ++ literal z ∷ []) zs)) (ne_eqb z.1 0 e))
other_then done partial z (Err n) e = refl

pub zero_goes : (limit missing todo m n : ℕ) (done : List (List Lit)) (partial : List Lit) (t : List ℕ) (later : List Token) (z : Bool × ℕ) → todo ≡ suc m → Some z ≡ signed_of limit t → z.1 ≡ 0
    → clauses_from done partial (numbers limit missing todo ((n, t) ∷ later)) ≡ clauses_from (done ++ partial ∷ []) [] (numbers limit missing m later)
zero_goes limit missing todo m n done partial t later z td s e =
    ap (λ (k : ℕ). clauses_from done partial (numbers limit missing k ((n, t) ∷ later))) td
    ∙ ap (λ (o : Option (Bool × ℕ)). clauses_from done partial (by_number n o (numbers limit missing m later) (numbers limit missing (suc m) later))) (sym s)
    ∙ ap (λ (b : Bool). clauses_from done partial (number_then z (cond b (numbers limit missing m later) (numbers limit missing (suc m) later)))) (eq-eqb z.1 0 e)
    ∙ zero_then done partial z (numbers limit missing m later) e

pub other_goes : (limit missing todo m n : ℕ) (done : List (List Lit)) (partial : List Lit) (t : List ℕ) (later : List Token) (z : Bool × ℕ) → todo ≡ suc m → Some z ≡ signed_of limit t → (z.1 ≡ 0 → ⊥)
    → clauses_from done partial (numbers limit missing todo ((n, t) ∷ later)) ≡ clauses_from done (partial ++ literal z ∷ []) (numbers limit missing todo later)
other_goes limit missing todo m n done partial t later z td s e =
    ap (λ (k : ℕ). clauses_from done partial (numbers limit missing k ((n, t) ∷ later))) td
    ∙ ap (λ (o : Option (Bool × ℕ)). clauses_from done partial (by_number n o (numbers limit missing m later) (numbers limit missing (suc m) later))) (sym s)
    ∙ ap (λ (b : Bool). clauses_from done partial (number_then z (cond b (numbers limit missing m later) (numbers limit missing (suc m) later)))) (ne_eqb z.1 0 e)
    ∙ other_then done partial z (numbers limit missing (suc m) later) e
    ∙ ap (λ (k : ℕ). clauses_from done (partial ++ literal z ∷ []) (numbers limit missing k later)) (sym td)

pub literals_more : (cs : List Clause) (c : Clause) → literals (cs ++ c ∷ []) ≡ literals cs ++ c.lits ∷ []
literals_more [] c = refl
literals_more (d ∷ cs) c = ap (λ (r : List (List Lit)). d.lits ∷ r) (literals_more cs c)

pub zero_body : (limit missing todo n : ℕ) (cs new : List Clause) (c : Clause) (partial next : List Lit) (t : List ℕ) (later : List Token) (z : Bool × ℕ)
    → (todo ≡ 0 → ⊥) → Some z ≡ signed_of limit t → z.1 ≡ 0 → new ≡ cs ++ c ∷ [] → c.lits ≡ partial → next ≡ []
    → clauses_from (literals cs) partial (numbers limit missing todo ((n, t) ∷ later)) ≡ clauses_from (literals new) next (numbers limit missing (todo - 1) later)
zero_body limit missing todo n cs new c partial next t later z td s e en el ex =
    let p : todo ≡ suc (todo - 1) = omega (arith, td) in
    let d : literals cs ++ partial ∷ [] ≡ literals new = sym (ap literals en ∙ literals_more cs c ∙ ap (λ (x : List Lit). literals cs ++ x ∷ []) el) in
    zero_goes limit missing todo (todo - 1) n (literals cs) partial t later z p s e
    ∙ ap (λ (x : List (List Lit)). clauses_from x [] (numbers limit missing (todo - 1) later)) d
    ∙ ap (λ (x : List Lit). clauses_from (literals new) x (numbers limit missing (todo - 1) later)) (sym ex)

-- a token that is no number is a fault
pub other_bad : (limit missing n : ℕ) (b : Body) (t : List ℕ) (later : List Token) → signed_of limit t ≡ None → outcome limit missing b ((n, t) ∷ later) ≡ Err n
other_bad limit missing n b t later s = go b.todo
  where
    go : (m : ℕ) → clauses_from (literals b.clauses.items) b.partial.items (numbers limit missing m ((n, t) ∷ later)) ≡ Err n
    go zero = refl
    go (suc m) = ap (λ (o : Option (Bool × ℕ)). clauses_from (literals b.clauses.items) b.partial.items (by_number n o (numbers limit missing m later) (numbers limit missing (suc m) later))) s

-- the tokens of a line come to what the rest of them come to
abbrev pub LineSame : ℕ → Body → List (List ℕ) → Body → List (List ℕ) → Type 0
LineSame vars start all body rest = (missing n : ℕ) (later : List Token) → outcome vars missing start (tagged n all ++ later) ≡ outcome vars missing body (tagged n rest ++ later)

pub line_token : (vars : ℕ) (start body : Body) (all rest ts : List (List ℕ)) (t : List ℕ) → rest ≡ t ∷ ts → LineSame vars start all body rest
    → (missing n : ℕ) (later : List Token) → outcome vars missing start (tagged n all ++ later) ≡ outcome vars missing body ((n, t) ∷ (tagged n ts ++ later))
line_token vars start body all rest ts t e s missing n later = s missing n later ∙ ap (λ (r : List (List ℕ)). outcome vars missing body (tagged n r ++ later)) e

pub goes_bad : (whole rest : Result (List (List Lit)) ℕ) (n : ℕ) (ok : Bool) → ok ≡ false → Goes whole n rest ok → whole ≡ Err n
goes_bad whole rest n ok e g = subst (λ (b : Bool). Goes whole n rest b) e g

pub goes_on : (whole rest : Result (List (List Lit)) ℕ) (n : ℕ) (ok : Bool) → ok ≡ true → Goes whole n rest ok → whole ≡ rest
goes_on whole rest n ok e g = subst (λ (b : Bool). Goes whole n rest b) e g
