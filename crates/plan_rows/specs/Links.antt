-- Rows of later atoms that lead from the rows taken to a row of an atom, and the atoms by which they do.
use Rattle.std.specs.Prelude.{◌≡◌, ℕ, ◌<◌, List, [], ◌∷◌, ◌++◌, length, map, slice_index_or, Option, IfSome, Contains}
use Rattle.cqa_value.specs.declared.value.Value.{Value}
use Rattle.cqa_model.specs.declared.query.Query.{Query}
use Rattle.cqa_model.specs.Query.{rows_of}
use Rattle.cqa_model.specs.Database.{Table, stored}
use Rattle.cqa_model.specs.Plan.{Placed, Fits, PlanHolds}
use Rattle.plan_rows.specs.Knowing.{MayFit}
use Rattle.plan_rows.specs.declared.links.Link.{Link}

-- stored rows of these atoms, one after the other, each of which may fit those before it, after which y may fit as a row of F
abbrev pub LeadsTo : Query → List (List (List Value)) → Option (List Value) → List Placed → List ℕ → ℕ → List Value → Type 0
LeadsTo q tables row before [] F y = MayFit q row before F y
LeadsTo q tables row before (G ∷ links) F y =
    (z : List Value) × Contains (rows_of q tables G) z × MayFit q row before G z × LeadsTo q tables row (record { atom = G; row = z } ∷ before) links F y

-- the places of F's rows to which rows of links lead are among these
abbrev pub HasReached : Query → List (List (List Value)) → Option (List Value) → List Placed → List ℕ → ℕ → List ℕ → Type 0
HasReached q tables row taken links F found =
    (i : ℕ) → i < length (rows_of q tables F) → LeadsTo q tables row taken links F (slice_index_or (rows_of q tables F) i []) → Contains found i

-- a row of F fits, and the rest of the plan holds once it is taken
abbrev pub RowHolds : Query → List (List (List Value)) → List Value → List Placed → ℕ → List ℕ → List Value → Type 0
RowHolds q tables row taken F plan y = Fits q row taken F y × PlanHolds q tables row (record { atom = F; row = y } ∷ taken) plan

-- the atoms of links, one after the other
abbrev pub atoms_on : List Link → List ℕ
atoms_on links = map (λ l. l.atom) links

-- links are of atoms of the query, and their indexes are of these atoms' rows
abbrev pub AreLinks : Query → List Table → List Link → Type 0
AreLinks q db links = (l : Link) → Contains links l → (l.atom < length q.atoms) × IfSome l.path (λ x. x.rows ≡ rows_of q (stored db) l.atom)

-- the links of an atom
abbrev pub links_at : List (List Link) → ℕ → List Link
links_at ways F = slice_index_or ways F []

-- links of atoms, each behind its atom in an order
pub record AreWays (q : Query) (db : List Table) (order : List ℕ) (ways : List (List Link)) : Type 0 where
  pub links : (F : ℕ) → AreLinks q db (links_at ways F)
  pub behind : (front rest : List ℕ) (F : ℕ) → order ≡ front ++ F ∷ rest → (G : ℕ) → Contains (atoms_on (links_at ways F)) G → Contains rest G
