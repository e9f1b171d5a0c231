-- The first blocks of their atoms and keys.
use Rattle.std.specs.Prelude.{◌≡◌, ℕ, ◌<◌, ◌≤◌, Some, None, List, [], ◌∷◌, length, pos, slice_index_or}
use Rattle.std.specs.BTreeMap.{BTreeMap, get}
use Rattle.cqa_value.specs.declared.value.Value.{Value}
use Rattle.cqa_value.specs.declared.value.Value.TheVariants.{Int}
use Rattle.cqa_value.specs.Values.{row_cmp}
use Rattle.cqa_model.specs.declared.query.Query.{Query}
use Rattle.cqa_model.specs.Database.{key_of}
use Rattle.cqa_model.specs.Query.{atom_key}
use Rattle.cqa_model.specs.Repairs.{SharesKey}
use Rattle.block_tree.specs.declared.node.Node.{Node}
use Rattle.block_tree.specs.Trees.{first_row}

-- the block at a place
abbrev pub nth_node : List Node → ℕ → Node
nth_node nodes at = slice_index_or nodes at (record { atom = 0; rows = [] })

-- blocks of one atom and key
abbrev pub OneKey : Query → Node → Node → Type 0
OneKey q a b = (a.atom ≡ b.atom) × SharesKey (atom_key q a.atom) (first_row a) (first_row b)

-- by what a block is known: its atom, and its first row's values in the key
abbrev pub node_key : Query → Node → List Value
node_key q n = Int (pos n.atom) ∷ key_of (atom_key q n.atom) (first_row n)

-- the block at v is the first of the atom and the key of the block at i
pub record IsFirstOfKey (q : Query) (nodes : List Node) (i : ℕ) (v : ℕ) : Type 0 where
  pub within : v ≤ i
  pub like : OneKey q (nth_node nodes v) (nth_node nodes i)
  pub none : (j : ℕ) → j < v → OneKey q (nth_node nodes j) (nth_node nodes i) → ⊥

-- what is known of so many blocks: the first of each, and by each key the first that has it
pub record KnowsFirsts (q : Query) (nodes : List Node) (n : ℕ) (known : BTreeMap (List Value) ℕ) (firsts : List ℕ) : Type 0 where
  pub size : length firsts ≡ n
  pub each : (i : ℕ) → i < n → IsFirstOfKey q nodes i (slice_index_or firsts i 0)
  pub found : (k : List Value) (v : ℕ) → get row_cmp known k ≡ Some v → (v < n) × (node_key q (nth_node nodes v) ≡ k) × ((j : ℕ) → j < v → node_key q (nth_node nodes j) ≡ k → ⊥)
  pub missing : (k : List Value) → get row_cmp known k ≡ None → (j : ℕ) → j < n → node_key q (nth_node nodes j) ≡ k → ⊥
