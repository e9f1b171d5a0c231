-- The links of the atoms of an order, where it is known that there are such.
use Rattle.std.proofs.Common.{◌≡◌, ℕ, List, ◌∷◌, ◌++◌, refl, subst, Contains}
use native.Mathlib.Decide.{ℕ_discrete}
use Rattle.std.proofs.Math.Logic.{∥∥₁_elim}
use Rattle.std.proofs.Props.{props}
use Rattle.cqa_model.specs.declared.query.Query.{Query}
use Rattle.cqa_model.specs.Database.{Table}
use Rattle.cqa_model.proofs.Classic.{dec_some}
use Rattle.table_blocks.specs.Once.{value_set}
use Rattle.plan_rows.specs.Links.{AreLinks, AreWays, atoms_on, links_at}
use Rattle.plan_rows.specs.declared.links.Link.{Link}

module _ (q : Query) (db : List Table) (order : List ℕ) (ways : List (List Link)) (h : ∥ AreWays q db order ways ∥₁) (F : ℕ) where
  links_once : (links : List Link) → IsProp (AreLinks q db links)
  links_once links = hlevel (value_set, props)

  pub ways-links : AreLinks q db (links_at ways F)
  ways-links = ∥∥₁_elim h (links_once (links_at ways F)) (λ w. w.links F)

  pub ways-behind : (front rest : List ℕ) → order ≡ front ++ F ∷ rest → (G : ℕ) → Contains (atoms_on (links_at ways F)) G → Contains rest G
  ways-behind front rest place G m = go (dec_some (λ H. H ≡ G) (λ H. ℕ_discrete H G) rest)
    where
      go : Dec ((H : ℕ) × Contains rest H × (H ≡ G)) → Contains rest G
      go (yes k) = subst (Contains rest) k.2 k.1
      go (no n) = absurd (∥∥₁_elim h (λ x y. absurd x) (λ w. n (G, w.behind front rest F place G m, refl)))
