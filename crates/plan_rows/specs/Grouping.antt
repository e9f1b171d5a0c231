-- Orders of the same atoms, parted where no column of one part is linked to one of the other.
use Rattle.std.specs.Prelude.{◌≡◌, ℕ, ◌<◌, ◌⊎◌, ◌↔◌, List, [], ◌∷◌, ◌++◌, length, Contains}
use Rattle.cqa_value.specs.declared.value.Value.{Value}
use Rattle.cqa_model.specs.declared.query.Query.{Query}
use Rattle.cqa_model.specs.Query.{atom_at}
use Rattle.cqa_model.specs.Variables.{AreLinked}
use Rattle.cqa_model.specs.Plan.{Placed, PlanHolds}
use Rattle.key_closure.specs.declared.atom_set.AtomSet.{AtomSet}
use Rattle.key_closure.specs.Sets.{HasAtom}

-- no column of an atom is linked to one of another
abbrev pub AreUnlinked : Query → ℕ → ℕ → Type 0
AreUnlinked q F G = (i j : ℕ) → i < (atom_at q F).width → j < (atom_at q G).width → AreLinked q (record { atom = F; col = i }) (record { atom = G; col = j }) → ⊥

-- nor of these atoms to one of the others
abbrev pub AreSeparate : Query → List ℕ → List ℕ → Type 0
AreSeparate q part others = (F G : ℕ) → Contains part F → Contains others G → AreUnlinked q F G

-- no atom of a group is linked to one of these outside of it
abbrev pub IsClosed : Query → AtomSet → List ℕ → Type 0
IsClosed q group atoms = (F G : ℕ) → F < length q.atoms → HasAtom group F → Contains atoms G → (HasAtom group G → ⊥) → AreUnlinked q F G

-- an order is parted in two, in each of which its atoms keep their order
abbrev pub IsMerge : List ℕ → List ℕ → List ℕ → Type 0
IsMerge part others [] = (part ≡ []) × (others ≡ [])
IsMerge part others (F ∷ order) = ((rest : List ℕ) × (part ≡ F ∷ rest) × IsMerge rest others order) ⊎ ((rest : List ℕ) × (others ≡ F ∷ rest) × IsMerge part rest order)

-- atoms are parted into those of a group, by which a list goes on, and the others
pub record IsGroupParted (group : AtomSet) (atoms old new others : List ℕ) : Type 0 where
  pub part : List ℕ
  pub grows : new ≡ old ++ part
  pub merge : IsMerge part others atoms
  pub inside : (F : ℕ) → Contains part F → HasAtom group F
  pub outside : (F : ℕ) → Contains others F → HasAtom group F → ⊥

-- atoms are parted into some by which a list goes on, and others that are not linked to these
pub record IsAtomSplit (q : Query) (atoms old new others : List ℕ) : Type 0 where
  pub part : List ℕ
  pub grows : new ≡ old ++ part
  pub merge : IsMerge part others atoms
  pub apart : AreSeparate q part others

-- two orders have the same atoms, and hold for the same candidates over the same tables, whatever rows were taken
pub record AreAlikeOrders (q : Query) (order other : List ℕ) : Type 0 where
  pub atoms : (F : ℕ) → Contains order F ↔ Contains other F
  pub holds : (tables : List (List (List Value))) (row : List Value) (taken : List Placed) → PlanHolds q tables row taken order ↔ PlanHolds q tables row taken other

-- a list goes on by an order that is like another
abbrev pub GoesOnAlike : Query → List ℕ → List ℕ → List ℕ → Type 0
GoesOnAlike q atoms old new = (more : List ℕ) × (new ≡ old ++ more) × AreAlikeOrders q atoms more

-- two orders have the same first atom, and what is behind it is alike
abbrev pub IsRegrouped : Query → List ℕ → List ℕ → Type 0
IsRegrouped q [] other = other ≡ []
IsRegrouped q (F ∷ order) other = (rest : List ℕ) × (other ≡ F ∷ rest) × AreAlikeOrders q order rest
