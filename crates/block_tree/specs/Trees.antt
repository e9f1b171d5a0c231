-- Trees of blocks: the rewriting of a query, written out for one row (Koutris and Wijsen, ACM TODS 2017).
use Rattle.std.specs.Prelude.{◌≡◌, ℕ, ◌<◌, ◌↔◌, List, [], ◌∷◌, length, flat_map, Contains, slice_index_or}
use Rattle.std.specs.List.{AllZip}
use Rattle.cqa_value.specs.declared.value.Value.{Value}
use Rattle.cqa_model.specs.declared.query.Query.{Query}
use Rattle.cqa_model.specs.Shape.{AreDistinct}
use Rattle.cqa_model.specs.Repairs.{SharesKey}
use Rattle.cqa_model.specs.Query.{atom_at, atom_key, rows_of}
use Rattle.cqa_model.specs.Plan.{Placed, Fits}
use Rattle.block_tree.specs.declared.node.Node.{Node}

-- one or more rows, all different, that share a key
pub record IsBlockOf (key : List ℕ) (rows : List (List Value)) : Type 0 where
  pub some : 0 < length rows
  pub alike : (x y : List Value) → Contains rows x → Contains rows y → SharesKey key x y
  pub differ : (i j : ℕ) → i < j → j < length rows → slice_index_or rows i [] ≡ slice_index_or rows j [] → ⊥

-- each of these rows fits the rows taken and the candidate
abbrev pub FitEach : Query → List Value → List Placed → ℕ → List (List Value) → Type 0
FitEach q row taken F rows = (x : List Value) → Contains rows x → Fits q row taken F x

-- one list behind the other
abbrev pub listing : List (List Node) → List Node
listing parts = flat_map (λ part. part) parts

-- A tree for an order of atoms, where rows of other atoms were taken: a block of the order's first atom, each of whose rows
-- fits, and behind it, for each of its rows, a tree for the rest of the order with that row taken. For no atoms, nothing.
abbrev pub IsTree : Query → List Value → List Placed → List ℕ → List Node → Type 0
IsTree q row taken [] nodes = nodes ≡ []
IsTree q row taken (F ∷ order) nodes =
    (rows : List (List Value)) × (parts : List (List Node)) × (nodes ≡ (record { atom = F; rows = rows }) ∷ listing parts) × IsBlockOf (atom_key q F) rows × FitEach q row taken F rows ×
    AllZip (λ x part. IsTree q row (record { atom = F; row = x } ∷ taken) order part) rows parts

-- an order names each atom of the query once
pub record IsOrderOf (q : Query) (order : List ℕ) : Type 0 where
  pub inside : (F : ℕ) → Contains order F → F < length q.atoms
  pub all : (F : ℕ) → F < length q.atoms → Contains order F
  pub apart : AreDistinct order

-- the first row of a block
abbrev pub first_row : Node → List Value
first_row n = slice_index_or n.rows 0 []

-- blocks of one atom and key list the same rows in the same order
abbrev pub ListAlike : Query → Node → Node → Type 0
ListAlike q a b = a.atom ≡ b.atom → SharesKey (atom_key q a.atom) (first_row a) (first_row b) → a.rows ≡ b.rows

abbrev pub AllAlike : Query → List Node → Type 0
AllAlike q nodes = (a b : Node) → Contains nodes a → Contains nodes b → ListAlike q a b

-- a row, an order and a tree pass for a query
pub record PassesFor (q : Query) (row : List Value) (order : List ℕ) (nodes : List Node) : Type 0 where
  pub long : length row ≡ length q.answer
  pub once : IsOrderOf q order
  pub tree : IsTree q row [] order nodes
  pub alike : AllAlike q nodes

-- tables have the blocks: the rows of an atom's table that share the key of a listed row are the rows that are listed with it
abbrev pub HasListedBlocks : Query → List (List (List Value)) → List Node → Type 0
HasListedBlocks q tables nodes = (n : Node) → Contains nodes n → (x y : List Value) → Contains n.rows x →
    Contains n.rows y ↔ (Contains (rows_of q tables n.atom) y × SharesKey (atom_key q n.atom) x y)

-- two queries differ in the places of their tables alone
pub record SameButPlaces (q p : Query) : Type 0 where
  pub size : length p.atoms ≡ length q.atoms
  pub widths : (F : ℕ) → (atom_at p F).width ≡ (atom_at q F).width
  pub keys : (F : ℕ) → atom_key p F ≡ atom_key q F
  pub conds : p.conds ≡ q.conds
  pub answer : p.answer ≡ q.answer
