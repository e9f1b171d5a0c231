-- Clauses whose numbers rise, and are those of variables: the solver takes them.
use Rattle.std.proofs.Common.{◌≡◌, ℕ, ◌<◌, ◌≤◌, ◌+◌, inl, inr, List, [], ◌∷◌, ◌++◌, map, subst, arith, refl, Contains, Less}
use Rattle.std.specs.List.Sorted.{IsStrictlySortedBy}
use Rattle.std.specs.Ordering.{nat_cmp}
use Rattle.std.proofs.lemmas.List.Elements.{Contains-append_cases}
use Rattle.cqa_value.proofs.Words.{Contains-map, Contains-from_map, member_by_recursion}
use Rattle.cnf_form.specs.declared.formula.Lit.{Lit}
use Rattle.cnf_form.specs.declared.formula.Cnf.{Cnf}
use Rattle.cnf_form.specs.Literals.{AreVarsInRange, literals}
use Rattle.cnf_form.specs.Spent.{NoVarTwice}
use Rattle.cdcl.specs.Outcomes.{IsOnce}
use Rattle.row_lists.specs.Clauses.{positive, negative, Rises}
use Rattle.row_lists.proofs.Order.{from_less, rises_of}

pub no-var-twice : (c : List Lit) → IsStrictlySortedBy nat_cmp (map (λ (l : Lit). l.var) c) → NoVarTwice c
unfolding IsStrictlySortedBy
no-var-twice [] s = tt
no-var-twice (l ∷ c) s = (
  λ h.
      let less = member_by_recursion (λ y. nat_cmp l.var y ≡ Less) (map (λ (m : Lit). m.var) c) s.0 h.0.var (Contains-map (λ (m : Lit). m.var) c h.0 h.1) in
      let below = from_less l.var h.0.var less in
      let same = h.2 in
      absurd (omega (arith, below, same)),
  no-var-twice c s.1,
)

-- the numbers rise, and are from 1 to n
abbrev pub RiseTo : ℕ → List ℕ → Type 0
RiseTo n numbers = IsStrictlySortedBy nat_cmp numbers × ((k : ℕ) → Contains numbers k → (1 ≤ k) × (k < 1 + n))

-- clauses of lists of numbers that do
pub rises_to : (n : ℕ) (blocks lists : List (List ℕ)) (cs : List (List Lit)) → cs ≡ map (map positive) blocks ++ map (map negative) lists → ((ns : List ℕ) → Contains blocks ns → RiseTo n ns) → ((ns : List ℕ) → Contains lists ns → RiseTo n ns) →
    (cl : List Lit) → Contains cs cl → Rises n cl
rises_to n blocks lists cs is of_blocks of_lists cl mc = elim (Contains-append_cases (map (map positive) blocks) (map (map negative) lists) cl (subst (λ ds. Contains ds cl) is mc)) [
  | inl b ↦ let p = Contains-from_map (map positive) blocks cl b in let r = of_blocks p.0 p.1 in rises_of n positive (λ k. refl) p.0 cl p.2 r.0 r.1
  | inr w ↦ let p = Contains-from_map (map negative) lists cl w in let r = of_lists p.0 p.1 in rises_of n negative (λ k. refl) p.0 cl p.2 r.0 r.1
]

module _ (cnf : Cnf) (cs : List (List Lit)) (n : ℕ) (are : literals cnf.clauses ≡ cs) (vars : cnf.vars ≡ n) (rise : (cl : List Lit) → Contains cs cl → Rises n cl) where
  pub rising-range : AreVarsInRange cnf
  rising-range cl m l ml =
      let r = (rise cl (subst (λ ds. Contains ds cl) are m)).in_range l ml in
      let low = r.0 in
      let high = r.1 in
      (low, omega (arith, high, vars))

  pub rising-once : IsOnce cnf
  rising-once cl m = no-var-twice cl (rise cl (subst (λ ds. Contains ds cl) are m)).rises
