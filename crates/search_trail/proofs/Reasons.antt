-- Why the entries of a trail are there, as a type keeps it.
use Rattle.std.proofs.Common.{◌≡◌, ◌<◌, ℕ, List, [], ◌∷◌, ◌⊎◌, inl, inr, subst, sym, ◌∙◌, arith, length, get_or, take, Option, None, Some}
use Rattle.std.specs.Prelude.{Contains, ⊤, MatchOption}
use Rattle.std.proofs.Props.{props}
use Rattle.std.proofs.Math.Logic.{∥∥₁_elim}
use Rattle.std.proofs.lemmas.Option.{same_Some}
use Rattle.cqa_value.proofs.Words.{mem-tail, mem-cases, mem-head}
use Rattle.cnf_form.specs.declared.formula.Clause.{Clause}
use Rattle.cnf_form.specs.declared.formula.Lit.{Lit}
use Rattle.cnf_form.specs.Literals.{literals, opposite, OthersDenied}
use Rattle.cnf_form.proofs.Lits.{equal_or_not}
use Rattle.search_trail.specs.declared.trail.Entry.{Entry}
use Rattle.search_trail.specs.Trail.{At, held}
use Rattle.search_trail.specs.Analysis.{AreReasons, IsForcedBy}
use Rattle.search_trail.proofs.Works.{At-get_or, At-same, literals_length}

pub contains_or_not : (t : List Lit) (l : Lit) → Contains t l ⊎ (Contains t l → ⊥)
contains_or_not [] l = inr (λ i. omega (arith, i.1))
contains_or_not (x ∷ t) l = elim (equal_or_not x l) [
  | inl e ↦ inl (subst (λ (y : Lit). Contains (x ∷ t) y) e (mem-head x t))
  | inr n ↦ elim (contains_or_not t l) [
    | inl i ↦ inl (mem-tail l x t i)
    | inr o ↦ inr (λ i. elim (mem-cases l x t i) [ inl e ↦ n e | inr j ↦ o j ])
  ]
]

-- what is known to be in a list is found there
found : (t : List Lit) (l : Lit) → ((Contains t l → ⊥) → ⊥) → Contains t l
found t l some = elim (contains_or_not t l) [ inl i ↦ i | inr o ↦ absurd (some o) ]

-- The clause is the one at the index, and it holds the literal: so an entry is forced in a way that can be told.
pub told : (db : List (List Lit)) (trail : List Entry) → ∥ AreReasons db trail ∥₁ → AreReasons db trail
told db trail known p e r a is = record {
  reason = r;
  clause = clause;
  is = is;
  there = there;
  inside = found clause e.lit (λ o. ∥∥₁_elim known (hlevel props) (λ are. o (by_reason (are p e r a is)).0));
  others = λ m i n. found _ (opposite m) (λ o. ∥∥₁_elim known (hlevel props) (λ are. o ((by_reason (are p e r a is)).1 m i n)));
}
  where
    clause : List Lit
    clause = get_or db r []

    there : At db r clause
    there = At-get_or db r [] (∥∥₁_elim known (hlevel props) (λ are. let f = are p e r a is in subst (λ (n : ℕ). n < length db) (same_Some _ _ (sym f.is ∙ is)) (f.there.0)))

    by_reason : IsForcedBy db (held trail) p e → Contains clause e.lit × OthersDenied (take p (held trail)) clause e.lit
    by_reason f =
        let at : At db r f.clause = subst (λ (n : ℕ). At db n f.clause) (same_Some _ _ (sym f.is ∙ is)) f.there in
        let same : f.clause ≡ clause = At-same db r f.clause clause at there in
        (subst (λ (c : List Lit). Contains c e.lit) same f.inside, subst (λ (c : List Lit). OthersDenied (take p (held trail)) c e.lit) same f.others)

-- the clause that an entry names is one of the clauses
pub reason_in : (clauses : List Clause) (trail : List Entry) (at : ℕ) (e : Entry) → ∥ AreReasons (literals clauses) trail ∥₁ → At trail at e
    → (o : Option ℕ) → e.reason ≡ o → MatchOption o ⊤ (λ reason. reason < length clauses)
reason_in clauses trail at e known a None is = tt
reason_in clauses trail at e known a (Some r) is =
    let f = told (literals clauses) trail known at e r a is in
    literals_length clauses r (subst (λ (n : ℕ). n < length (literals clauses)) (same_Some _ _ (sym f.is ∙ is)) (f.there.0))
