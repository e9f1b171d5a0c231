-- What passes follows.
use Rattle.std.proofs.Common.{◌≡◌, ℕ, zero, suc, ℤ, pos, negsuc, Bool, true, false, List, [], ◌∷◌, ◌⊎◌, map, inl, inr, sym, ◌∙◌, ap, subst, arith, length, Some, None}
use Rattle.std.specs.Prelude.{Contains}
use Rattle.std.proofs.lemmas.Bool.{cases_eq}
use Rattle.std.proofs.lemmas.Map.{update_here, update_apart}
use Rattle.cqa_value.proofs.Words.{mem-tail, mem-cases, mem-head}
use Rattle.cnf_form.specs.declared.formula.Lit.{Lit}
use Rattle.cnf_form.specs.declared.formula.Cnf.{Cnf}
use Rattle.cnf_form.specs.declared.log.Step.{Step}
use Rattle.cnf_form.specs.declared.log.Step.TheVariants.{Add, Delete}
use Rattle.cnf_form.specs.Literals.{negated, opposite, AllDenied, OthersDenied, MakesTrue, Satisfies}
use Rattle.cnf_form.specs.Logs.{Live, HintsPass, AdditionPasses, numbered, with_clause, without, after_deletion, StepsPass, Passes, added, Refutes}
use Rattle.cnf_form.proofs.Lits.{bool_cases, equal_or_not}
use Rattle.cnf_form.specs.Literals.{HasBothSigns, SatisfiesAll, literals}

not_negated : (b : Bool) → b ≡ negated b → ⊥
not_negated true e = cc
not_negated false e = cc

abbrev pub Models : (ℕ → Bool) → Live → Type 0
Models v live = (id : ℕ) (c : List Lit) → live id ≡ Some c → Satisfies v c

abbrev pub MakesAllTrue : (ℕ → Bool) → List Lit → Type 0
MakesAllTrue v held = (l : Lit) → Contains held l → MakesTrue v l

not_both : (v : ℕ → Bool) (l : Lit) → MakesTrue v l → MakesTrue v (opposite l) → ⊥
not_both v l a b = not_negated l.positive (sym a ∙ b)

none_true : (v : ℕ → Bool) (held c : List Lit) → MakesAllTrue v held → AllDenied held c → Satisfies v c → ⊥
none_true v held c t d s = not_both v s.0 s.2 (t (opposite s.0) (d s.0 s.1))

unit_true : (v : ℕ → Bool) (held c : List Lit) (l : Lit) → MakesAllTrue v held → OthersDenied held c l → Satisfies v c → MakesTrue v l
unit_true v held c l t d s = elim (equal_or_not s.0 l) [
  | inl e ↦ subst (λ (x : Lit). MakesTrue v x) e s.2
  | inr n ↦ absurd (not_both v s.0 s.2 (t (opposite s.0) (d s.0 s.1 n)))
]

true_more : (v : ℕ → Bool) (held : List Lit) (l : Lit) → MakesAllTrue v held → MakesTrue v l → MakesAllTrue v (l ∷ held)
true_more v held l t m x i = elim (mem-cases x l held i) [
  | inl e ↦ subst (λ (y : Lit). MakesTrue v y) e m
  | inr r ↦ t x r
]

hints_sound : (v : ℕ → Bool) (live : Live) (held : List Lit) (hints : List ℤ) → Models v live → MakesAllTrue v held → HintsPass live held hints → ⊥
hints_sound v live held [] m t h = h
hints_sound v live held (negsuc n ∷ hints) m t h = h
hints_sound v live held (pos id ∷ hints) m t h =
    let s : Satisfies v h.0 = m id h.0 h.1 in
    elim h.2 [
      | inl d ↦ none_true v held h.0 t d s
      | inr u ↦ hints_sound v live (u.0 ∷ held) hints m (true_more v held u.0 t (unit_true v held h.0 u.0 t u.1.others s)) u.2
    ]

true_or_opposed : (v : ℕ → Bool) (c : List Lit) → Satisfies v c ⊎ MakesAllTrue v (map opposite c)
true_or_opposed v [] = inr (λ l i. absurd (omega (arith, i.1)))
true_or_opposed v (l ∷ c) = elim (bool_cases (v l.var) l.positive) [
  | inl e ↦ inl (l, mem-head l c, e)
  | inr e ↦ elim (true_or_opposed v c) [
    | inl s ↦ inl (s.0, mem-tail s.0 l c s.1, s.2)
    | inr t ↦ inr (true_more v (map opposite c) (opposite l) t e)
  ]
]

both_signs_true : (v : ℕ → Bool) (c : List Lit) → HasBothSigns c → Satisfies v c
both_signs_true v c b = elim (bool_cases (v b.0.var) b.0.positive) [
  | inl e ↦ (b.0, b.1, e)
  | inr e ↦ (opposite b.0, b.2, e)
]

addition_sound : (v : ℕ → Bool) (live : Live) (c : List Lit) (hints : List ℤ) → Models v live → AdditionPasses live c hints → Satisfies v c
addition_sound v live c hints m p = elim p [
  | inl b ↦ both_signs_true v c b
  | inr h ↦ elim (true_or_opposed v c) [
    | inl s ↦ s
    | inr t ↦ absurd (hints_sound v live (map opposite c) hints m t h)
  ]
]

some_same : (a b : List Lit) → Some a ≡ Some b → a ≡ b
some_same a b e = cc

models_more : (v : ℕ → Bool) (live : Live) (id : ℕ) (c : List Lit) → Models v live → Satisfies v c → Models v (with_clause live id c)
models_more v live id c m s k d e = elim (cases_eq k id) [
  | inl q ↦ subst (λ (x : List Lit). Satisfies v x) (some_same c d (sym (update_here live id (Some c)) ∙ sym (ap (with_clause live id c) q) ∙ e)) s
  | inr n ↦ m k d (sym (update_apart live id (Some c) k n) ∙ e)
]

none_some : (d : List Lit) → None ≡ Some d → ⊥
none_some d e = cc

models_without : (v : ℕ → Bool) (live : Live) (id : ℕ) → Models v live → Models v (without live id)
models_without v live id m k d e = elim (cases_eq k id) [
  | inl q ↦ absurd (none_some d (sym (update_here live id None) ∙ sym (ap (without live id) q) ∙ e))
  | inr n ↦ m k d (sym (update_apart live id None k n) ∙ e)
]

models_after : (v : ℕ → Bool) (live : Live) (ids : List ℕ) → Models v live → Models v (after_deletion live ids)
models_after v live [] m = m
models_after v live (id ∷ ids) m = models_after v (without live id) ids (models_without v live id m)

steps_sound : (v : ℕ → Bool) (live : Live) (top : ℕ) (steps : List Step) → Models v live → StepsPass live top steps → (c : List Lit) → Contains (added steps) c → Satisfies v c
steps_sound v live top [] m p c i = absurd (omega (arith, i.1))
steps_sound v live top (Add id clause hints ∷ steps) m p c i =
    let s : Satisfies v clause.lits = addition_sound v live clause.lits hints m p.0.1 in
    elim (mem-cases c clause.lits (added steps) i) [
      | inl e ↦ subst (λ (x : List Lit). Satisfies v x) e s
      | inr r ↦ steps_sound v (with_clause live id clause.lits) id steps (models_more v live id clause.lits m s) p.1 c r
    ]
steps_sound v live top (Delete ids ∷ steps) m p c i =
    steps_sound v (after_deletion live ids) top steps (models_after v live ids m) p.1 c i

numbered_models : (v : ℕ → Bool) (cs : List (List Lit)) → SatisfiesAll v cs → Models v (numbered cs)
numbered_models v cs s zero d e = absurd (none_some d e)
numbered_models v [] s (suc k) d e = absurd (none_some d e)
numbered_models v (c ∷ cs) s (suc zero) d e = subst (λ (x : List Lit). Satisfies v x) (some_same c d e) (s c (mem-head c cs))
numbered_models v (c ∷ cs) s (suc (suc k)) d e = numbered_models v cs (λ x i. s x (mem-tail x c cs i)) (suc k) d e

-- what a passing log adds follows from the formula
pub additions_follow : (cnf : Cnf) (steps : List Step) → Passes cnf steps → (c : List Lit) → Contains (added steps) c → (v : ℕ → Bool) → SatisfiesAll v (literals cnf.clauses) → Satisfies v c
additions_follow cnf steps p c i v s = steps_sound v (numbered (literals cnf.clauses)) (length cnf.clauses) steps (numbered_models v (literals cnf.clauses) s) p c i

-- nothing satisfies a formula that a log refutes
pub refutation_sound : (cnf : Cnf) (steps : List Step) → Refutes cnf steps → (v : ℕ → Bool) → SatisfiesAll v (literals cnf.clauses) → ⊥
refutation_sound cnf steps r v s = let t = additions_follow cnf steps r.0 [] r.1 v s in omega (arith, t.1.1)
