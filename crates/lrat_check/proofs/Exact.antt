-- A log passes or has one fault, and never both.
use Rattle.std.proofs.Common.{◌≡◌, ℕ, zero, suc, ℤ, pos, negsuc, List, [], ◌∷◌, ◌⊎◌, map, inl, inr, refl, sym, ◌∙◌, ap, subst, arith, length, Option, Some, None, Result, Ok, Err, IfErr, IsErrAnd, MatchResult}
use Rattle.cqa_value.specs.declared.memory.Fail.{Fail}
use Rattle.cqa_value.specs.declared.memory.Fail.TheVariants as fail
use Rattle.cnf_form.specs.declared.fault.FormatFault.{FormatFault}
use Rattle.cnf_form.specs.declared.fault.Part.TheVariants as part
use Rattle.cnf_form.specs.declared.formula.Lit.{Lit}
use Rattle.cnf_form.specs.declared.formula.Cnf.{Cnf}
use Rattle.cnf_form.specs.declared.log.Step.{Step}
use Rattle.cnf_form.specs.declared.log.Step.TheVariants.{Add, Delete}
use Rattle.lrat_check.specs.declared.fault.LogCause.{LogCause}
use Rattle.lrat_check.specs.declared.fault.LogCause.TheVariants.{HintNotUnit}
use Rattle.lrat_check.specs.declared.fault.LogFault.{LogFault}
use Rattle.cnf_form.specs.Literals.{literals, opposite, IsUnit}
use Rattle.cnf_form.specs.Logs.{Live, HintsPass, AdditionPasses, without, DeletionPasses, StepPasses, live_after, top_after, StepsPass, numbered, Refutes}
use Rattle.cnf_form.proofs.Lits.{equal_or_not}
use Rattle.lrat_check.specs.Checked.{Checked, TextChecked}
use Rattle.lrat_check.specs.Failing.{AdditionFails, DeletionFails, FailsAt, HasTwoFree, HintsFail, Refused, StepFails}

unit_same : (held c : List Lit) (l m : Lit) → IsUnit held c l → IsUnit held c m → l ≡ m
unit_same held c l m a b = elim (equal_or_not m l) [ inl e ↦ sym e | inr n ↦ absurd (b.free (a.others m b.inside n)) ]

unit_or_two : (held c : List Lit) (l : Lit) → IsUnit held c l → HasTwoFree held c → ⊥
unit_or_two held c l a t = elim (equal_or_not t.one l) [
  | inl e ↦ elim (equal_or_not t.other l) [
    | inl f ↦ t.apart (e ∙ sym f)
    | inr n ↦ t.other_free (a.others t.other t.other_inside n)
  ]
  | inr n ↦ t.one_free (a.others t.one t.one_inside n)
]

same_clause : (live : Live) (id : ℕ) (c d : List Lit) → live id ≡ Some c → live id ≡ Some d → d ≡ c
same_clause live id c d a b = cc

dead_or_live : (live : Live) (id : ℕ) (c : List Lit) → live id ≡ Some c → live id ≡ None → ⊥
dead_or_live live id c a b = cc

-- what a failing hint's clause comes to, at the clause that is known
abbrev Stops : Live → List Lit → List Lit → List ℤ → LogCause → Type 0
Stops live held c hints cause = (HasTwoFree held c × (cause ≡ HintNotUnit)) ⊎ ((l : Lit) × IsUnit held c l × HintsFail live (l ∷ held) hints cause)

at_clause : (live : Live) (held : List Lit) (id : ℕ) (hints : List ℤ) (cause : LogCause) (c : List Lit) → live id ≡ Some c → HintsFail live held (pos id ∷ hints) cause → Stops live held c hints cause
at_clause live held id hints cause c e (inl n) = absurd (dead_or_live live id c e n.0)
at_clause live held id hints cause c e (inr f) = subst (λ (d : List Lit). Stops live held d hints cause) (same_clause live id c f.0 e f.1) f.2

hints_not_both : (live : Live) (held : List Lit) (hints : List ℤ) (cause : LogCause) → HintsPass live held hints → HintsFail live held hints cause → ⊥
hints_not_both live held [] cause p f = p
hints_not_both live held (negsuc n ∷ hints) cause p f = p
hints_not_both live held (pos id ∷ hints) cause p f = elim (at_clause live held id hints cause p.0 p.1 f) [
  | inl two ↦ elim p.2 [
    | inl all ↦ two.0.one_free (all two.0.one two.0.one_inside)
    | inr u ↦ unit_or_two held p.0 u.0 u.1 two.0
  ]
  | inr g ↦ elim p.2 [
    | inl all ↦ g.1.free (all g.0 g.1.inside)
    | inr u ↦ hints_not_both live (u.0 ∷ held) hints cause u.2
        (subst (λ (l : Lit). HintsFail live (l ∷ held) hints cause) (unit_same held p.0 g.0 u.0 g.1 u.1) g.2)
  ]
]

hints_one : (live : Live) (held : List Lit) (hints : List ℤ) (a b : LogCause) → HintsFail live held hints a → HintsFail live held hints b → a ≡ b
hints_one live held [] a b f g = f ∙ sym g
hints_one live held (negsuc n ∷ hints) a b f g = f ∙ sym g
hints_one live held (pos id ∷ hints) a b (inl x) g = elim g [
  | inl y ↦ x.1 ∙ sym y.1
  | inr y ↦ absurd (dead_or_live live id y.0 y.1 x.0)
]
hints_one live held (pos id ∷ hints) a b (inr x) g = elim (at_clause live held id hints b x.0 x.1 g) [
  | inl two ↦ elim x.2 [
    | inl other ↦ other.1 ∙ sym two.1
    | inr u ↦ absurd (unit_or_two held x.0 u.0 u.1 two.0)
  ]
  | inr y ↦ elim x.2 [
    | inl two ↦ absurd (unit_or_two held x.0 y.0 y.1 two.0)
    | inr u ↦ hints_one live (u.0 ∷ held) hints a b u.2
        (subst (λ (l : Lit). HintsFail live (l ∷ held) hints b) (unit_same held x.0 y.0 u.0 y.1 u.1) y.2)
  ]
]

addition_not_both : (live : Live) (c : List Lit) (hints : List ℤ) (cause : LogCause) → AdditionPasses live c hints → AdditionFails live c hints cause → ⊥
addition_not_both live c hints cause (inl b) f = f.0 b
addition_not_both live c hints cause (inr h) f = hints_not_both live (map opposite c) hints cause h f.1

deletion_not_both : (live : Live) (ids : List ℕ) → DeletionPasses live ids → DeletionFails live ids → ⊥
deletion_not_both live [] p f = f
deletion_not_both live (id ∷ ids) p (inl n) = p.0 n
deletion_not_both live (id ∷ ids) p (inr f) = deletion_not_both (without live id) ids p.1 f.1

step_not_both : (live : Live) (top : ℕ) (step : Step) (cause : LogCause) → StepPasses live top step → StepFails live top step cause → ⊥
step_not_both live top (Add id clause hints) cause p (inl r) = omega (arith, p.0, r.0)
step_not_both live top (Add id clause hints) cause p (inr f) = addition_not_both live clause.lits hints cause p.1 f.1
step_not_both live top (Delete ids) cause p f = deletion_not_both live ids p f.0

step_one : (live : Live) (top : ℕ) (step : Step) (a b : LogCause) → StepFails live top step a → StepFails live top step b → a ≡ b
step_one live top (Add id clause hints) a b (inl x) (inl y) = x.1 ∙ sym y.1
step_one live top (Add id clause hints) a b (inl x) (inr y) = absurd (omega (arith, x.0, y.0))
step_one live top (Add id clause hints) a b (inr x) (inl y) = absurd (omega (arith, x.0, y.0))
step_one live top (Add id clause hints) a b (inr x) (inr y) = hints_one live (map opposite clause.lits) hints a b x.1.1 y.1.1
step_one live top (Delete ids) a b x y = x.1 ∙ sym y.1

steps_not_both : (live : Live) (top : ℕ) (steps : List Step) (n : ℕ) (cause : LogCause) → StepsPass live top steps → FailsAt live top steps n cause → ⊥
steps_not_both live top [] n cause p f = f
steps_not_both live top (step ∷ steps) zero cause p f = step_not_both live top step cause p.0 f
steps_not_both live top (step ∷ steps) (suc n) cause p f = steps_not_both (live_after live step) (top_after top step) steps n cause p.1 f.1

fails_once : (live : Live) (top : ℕ) (steps : List Step) (m n : ℕ) (a b : LogCause) → FailsAt live top steps m a → FailsAt live top steps n b → (m ≡ n) × (a ≡ b)
fails_once live top [] m n a b f g = absurd f
fails_once live top (step ∷ steps) zero zero a b f g = (refl, step_one live top step a b f g)
fails_once live top (step ∷ steps) zero (suc n) a b f g = absurd (step_not_both live top step a g.0 f)
fails_once live top (step ∷ steps) (suc m) zero a b f g = absurd (step_not_both live top step b f.0 g)
fails_once live top (step ∷ steps) (suc m) (suc n) a b f g =
    let r : (m ≡ n) × (a ≡ b) = fails_once (live_after live step) (top_after top step) steps m n a b f.1 g.1 in
    (ap suc r.0, r.1)

pub not_both : (cnf : Cnf) (steps : List Step) (fault : LogFault) → Refutes cnf steps → Refused cnf steps fault → ⊥
not_both cnf steps fault r (inl f) = steps_not_both (numbered (literals cnf.clauses)) (length cnf.clauses) steps f.0 fault.cause r.0 f.2
not_both cnf steps fault r (inr e) = e.1 r.1

same_fault : (x y : LogFault) → x.step ≡ y.step → x.cause ≡ y.cause → x ≡ y
same_fault x y e p =
    ap (λ (n : ℕ). let r : LogFault = record { step = n; cause = x.cause } in r) e
    ∙ ap (λ (b : LogCause). let r : LogFault = record { step = y.step; cause = b } in r) p

pub one_first : (cnf : Cnf) (steps : List Step) (a b : LogFault) → Refused cnf steps a → Refused cnf steps b → a ≡ b
one_first cnf steps a b (inl f) (inl g) =
    let r : (f.0 ≡ g.0) × (a.cause ≡ b.cause) = fails_once (numbered (literals cnf.clauses)) (length cnf.clauses) steps f.0 g.0 a.cause b.cause f.2 g.2 in
    same_fault a b (f.1 ∙ ap suc r.0 ∙ sym g.1) r.1
one_first cnf steps a b (inl f) (inr e) = absurd (steps_not_both (numbered (literals cnf.clauses)) (length cnf.clauses) steps f.0 a.cause e.0 f.2)
one_first cnf steps a b (inr e) (inl g) = absurd (steps_not_both (numbered (literals cnf.clauses)) (length cnf.clauses) steps g.0 b.cause e.0 g.2)
one_first cnf steps a b (inr e) (inr g) = same_fault a b (e.2 ∙ sym g.2) (e.3 ∙ sym g.3)

-- ---- so an answer is the only one

pub only_yes : (cnf : Cnf) (steps : List Step) (result : Result (Unit {0}) (Fail LogFault)) → Checked cnf steps result → Refutes cnf steps → IfErr result (λ e. e ≡ fail.NoMemory)
only_yes cnf steps (Ok done) is refutes = tt
only_yes cnf steps (Err (fail.Refused fault)) is refutes = absurd (not_both cnf steps fault refutes is)
only_yes cnf steps (Err fail.NoMemory) is refutes = refl

pub only_fault : (cnf : Cnf) (steps : List Step) (result : Result (Unit {0}) (Fail LogFault)) → Checked cnf steps result
    → (fault : LogFault) → Refused cnf steps fault → IsErrAnd result (λ e. (e ≡ fail.Refused fault) ⊎ (e ≡ fail.NoMemory))
only_fault cnf steps (Ok done) is fault fails = not_both cnf steps fault is fails
only_fault cnf steps (Err (fail.Refused found)) is fault fails = inl (ap fail.Refused (one_first cnf steps found fault is fails))
only_fault cnf steps (Err fail.NoMemory) is fault fails = inr refl

read_yes : (cnf : Cnf) (steps : List Step) (result : Result (Option LogFault) (Fail FormatFault)) → TextChecked cnf (Ok steps) result → Refutes cnf steps
    → MatchResult result (λ f. f ≡ None) (λ e. e ≡ fail.NoMemory)
read_yes cnf steps (Ok None) is refutes = refl
read_yes cnf steps (Ok (Some fault)) is refutes = absurd (not_both cnf steps fault refutes is)
read_yes cnf steps (Err (fail.Refused fault)) is refutes = absurd is
read_yes cnf steps (Err fail.NoMemory) is refutes = refl

read_fault : (cnf : Cnf) (steps : List Step) (result : Result (Option LogFault) (Fail FormatFault)) → TextChecked cnf (Ok steps) result
    → (fault : LogFault) → Refused cnf steps fault → MatchResult result (λ f. f ≡ Some fault) (λ e. e ≡ fail.NoMemory)
read_fault cnf steps (Ok None) is fault fails = absurd (not_both cnf steps fault is fails)
read_fault cnf steps (Ok (Some found)) is fault fails = ap Some (one_first cnf steps found fault is fails)
read_fault cnf steps (Err (fail.Refused line)) is fault fails = absurd is
read_fault cnf steps (Err fail.NoMemory) is fault fails = refl

read_line : (cnf : Cnf) (line : ℕ) (result : Result (Option LogFault) (Fail FormatFault)) → TextChecked cnf (Err line) result
    → IsErrAnd result (λ e. (e ≡ fail.Refused (record { line = line; part = part.Log })) ⊎ (e ≡ fail.NoMemory))
read_line cnf line (Ok end) is = is
read_line cnf line (Err (fail.Refused fault)) is = inl (ap fail.Refused is)
read_line cnf line (Err fail.NoMemory) is = inr refl

pub text_only_yes : (cnf : Cnf) (said : Result (List Step) ℕ) (result : Result (Option LogFault) (Fail FormatFault)) → TextChecked cnf said result
    → (steps : List Step) → said ≡ Ok steps → Refutes cnf steps → MatchResult result (λ f. f ≡ None) (λ e. e ≡ fail.NoMemory)
text_only_yes cnf said result is steps e = read_yes cnf steps result (subst (λ (r : Result (List Step) ℕ). TextChecked cnf r result) e is)

pub text_only_fault : (cnf : Cnf) (said : Result (List Step) ℕ) (result : Result (Option LogFault) (Fail FormatFault)) → TextChecked cnf said result
    → (steps : List Step) (fault : LogFault) → said ≡ Ok steps → Refused cnf steps fault → MatchResult result (λ f. f ≡ Some fault) (λ e. e ≡ fail.NoMemory)
text_only_fault cnf said result is steps fault e = read_fault cnf steps result (subst (λ (r : Result (List Step) ℕ). TextChecked cnf r result) e is) fault

pub text_only_line : (cnf : Cnf) (said : Result (List Step) ℕ) (result : Result (Option LogFault) (Fail FormatFault)) → TextChecked cnf said result
    → (line : ℕ) → said ≡ Err line → IsErrAnd result (λ e. (e ≡ fail.Refused (record { line = line; part = part.Log })) ⊎ (e ≡ fail.NoMemory))
text_only_line cnf said result is line e = read_line cnf line result (subst (λ (r : Result (List Step) ℕ). TextChecked cnf r result) e is)
