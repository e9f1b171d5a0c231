-- The nodes of a tree: blocks of the query's tables.
use Rattle.std.proofs.Common.{inl, inr, ℕ, List, [], ◌∷◌, Contains, subst}
use Rattle.cqa_value.specs.declared.value.Value.{Value}
use Rattle.cqa_value.proofs.Words.{Contains-from_flat_map, mem-head, mem-tail, mem-nil, mem-cases, all_zip_right}
use Rattle.cqa_model.specs.declared.query.Query.{Query}
use Rattle.cqa_model.specs.Plan.{Placed}
use Rattle.cqa_model.specs.Query.{atom_key}
use Rattle.block_tree.specs.declared.node.Node.{Node}
use Rattle.block_tree.specs.Trees.{IsTree, IsBlockOf, listing}

-- a block of an atom of an order
abbrev pub IsNodeOf : Query → List ℕ → Node → Type 0
IsNodeOf q order n = Contains order n.atom × IsBlockOf (atom_key q n.atom) n.rows

pub in_tree : (q : Query) (row : List Value) (order : List ℕ) (taken : List Placed) (nodes : List Node) → IsTree q row taken order nodes → (n : Node) → Contains nodes n → IsNodeOf q order n
in_tree q row [] taken nodes tree n m = absurd (mem-nil n (subst (λ z. Contains z n) tree m))
in_tree q row (F ∷ order) taken nodes (rows, parts, is, block, fit, under) n m = elim (mem-cases n (record { atom = F; rows = rows }) (listing parts) (subst (λ z. Contains z n) is m)) [
  | inl e ↦ subst (IsNodeOf q (F ∷ order)) e (mem-head F order, block)
  | inr k ↦
      let part = Contains-from_flat_map (λ p. p) parts n k in
      let x = all_zip_right (λ x part. IsTree q row (record { atom = F; row = x } ∷ taken) order part) rows parts part.0 under part.1 in
      let h = in_tree q row order (record { atom = F; row = x.0 } ∷ taken) part.0 x.2 n part.2 in
      (mem-tail n.atom F order h.0, h.1)
]
