-- The full blocks of a row, those of whose rows each is in a witness, and the numbers of their rows.
use Rattle.cqa_model.specs.declared.limits.TheConstants.{MOST_ROWS}
use Rattle.std.specs.Prelude.{◌≡◌, ◌⊎◌, ℕ, suc, ◌+◌, ◌-◌, ◌*◌, ◌<◌, ◌≤◌, ◌++◌, ◌∷◌, List, [], Option, Some, None, length, map, Contains, slice_index, slice_index_or}
use Rattle.std.specs.List.Sorted.{IsStrictlySortedBy}
use Rattle.cqa_value.specs.declared.value.Value.{Value}
use Rattle.cqa_model.specs.declared.query.Query.{Query}
use Rattle.cqa_model.specs.declared.query.RowId.{RowId}
use Rattle.cqa_model.specs.Database.{Table, stored}
use Rattle.cqa_model.specs.Repairs.{SharesKey}
use Rattle.cqa_model.specs.Query.{atom_key, rows_of}
use Rattle.cnf_form.specs.declared.formula.Lit.{Lit}
use Rattle.row_lists.specs.declared.span.Span.{Span}
use Rattle.row_lists.specs.Spans.{at, Covers, HasSpan, IsInSpan, IsWholeBlock, span_cmp, AreBasedTo}
use Rattle.repair_clauses.specs.Spans.{IsNamed}
use Rattle.row_witnesses.specs.Columns.{place_at}
use Rattle.row_witnesses.specs.Columns.{AreColumn}
use Rattle.row_lists.specs.Loose.{HasFreePlace}
use Rattle.pair_refutation.specs.declared.graph.Pair.{Pair}
use Rattle.pair_refutation.specs.Graph.{not_both}

-- the row at a place is the next one of the same block
abbrev pub FollowsInBlock : List ℕ → List (List Value) → ℕ → ℕ → Type 0
FollowsInBlock key rows p r = (r ≡ p + 1) × SharesKey key (slice_index_or rows p []) (slice_index_or rows r [])

-- the rows at the places from i on, before j, stand side by side, and are of one block
abbrev pub IsInRow : List ℕ → List (List Value) → List ℕ → ℕ → ℕ → Type 0
IsInRow key rows places i j = (k : ℕ) → i ≤ k → k < j →
    (slice_index places k ≡ slice_index places i + (k - i)) × SharesKey key (slice_index_or rows (slice_index places i) []) (slice_index_or rows (slice_index places k) [])

-- the block of the row at a place has a row right before it, or at the end
abbrev pub HasNeighbour : List ℕ → List (List Value) → ℕ → ℕ → Type 0
HasNeighbour key rows start end =
    ((0 < start) × SharesKey key (slice_index_or rows start []) (slice_index_or rows (start - 1) [])) ⊎
    ((end < length rows) × SharesKey key (slice_index_or rows start []) (slice_index_or rows end []))

-- the block of a run of rows is added, exactly where it has no more
abbrev pub IsRunAdded : List ℕ → List (List Value) → ℕ → ℕ → ℕ → ℕ → List Span → ℕ → List Span → Type 0
IsRunAdded key rows atom base start end old vars new =
    (HasNeighbour key rows start end × (vars ≡ base) × (new ≡ old)) ⊎
    ((HasNeighbour key rows start end → ⊥) × (vars ≡ base + (end - start)) × (new ≡ old ++ record { slot = atom; start = start; count = end - start; base = base } ∷ []))

-- a whole block of a table, all of whose rows are at places
pub record IsFullRun (key : List ℕ) (rows : List (List Value)) (atom : ℕ) (places : List ℕ) (s : Span) : Type 0 where
  pub of_atom : s.slot ≡ atom
  pub whole : IsWholeBlock key rows s
  pub full : (p : ℕ) → Covers s p → Contains places p

-- exactly these blocks of a table, numbered from a base on
pub record AreFullRuns (key : List ℕ) (rows : List (List Value)) (atom base : ℕ) (places : List ℕ) (vars : ℕ) (spans : List Span) : Type 0 where
  pub in_order : IsStrictlySortedBy span_cmp spans
  pub based : AreBasedTo base spans vars
  pub small : vars ≤ base + length rows
  pub each : (s : Span) → Contains spans s → IsFullRun key rows atom places s
  pub every : (p : ℕ) → Contains places p → ((s : Span) × Contains spans s × Covers s p) ⊎ HasFreePlace key rows places p

-- exactly the full blocks of an atom, numbered from a base on
abbrev pub AreFullOf : Query → List Table → List (List RowId) → ℕ → ℕ → ℕ → List Span → Type 0
AreFullOf q db all F base vars spans = (places : List ℕ) × AreColumn all F places × AreFullRuns (atom_key q F) (rows_of q (stored db) F) F base places vars spans

-- a whole block of an atom, all of whose rows are in witnesses
pub record IsFullSpan (q : Query) (db : List Table) (all : List (List RowId)) (s : Span) : Type 0 where
  pub there : s.slot < length q.atoms
  pub whole : IsWholeBlock (atom_key q s.slot) (rows_of q (stored db) s.slot) s
  pub full : (p : ℕ) → s.start ≤ p → p < s.start + s.count → IsNamed all s.slot p

-- the block of the row at a place of an atom has a row that is in no witness
abbrev pub HasFreeRow : Query → List Table → List (List RowId) → ℕ → ℕ → Type 0
HasFreeRow q db all F p = (places : List ℕ) × AreColumn all F places × HasFreePlace (atom_key q F) (rows_of q (stored db) F) places p

-- exactly the full blocks, and how many rows they have, at most `2 * MOST_ROWS`
pub record AreFullSpans (q : Query) (db : List Table) (all : List (List RowId)) (vars : ℕ) (spans : List Span) : Type 0 where
  pub in_order : IsStrictlySortedBy span_cmp spans
  pub based : AreBasedTo 0 spans vars
  pub small : vars ≤ 2 * MOST_ROWS
  pub each : (s : Span) → Contains spans s → IsFullSpan q db all s
  pub every : (F p : ℕ) → F < length q.atoms → IsNamed all F p → HasSpan spans F p ⊎ HasFreeRow q db all F p

-- the number of the row at a place of an atom, if it is in one of the spans
abbrev pub IsRowNumber : List Span → ℕ → ℕ → Option ℕ → Type 0
IsRowNumber spans F p None = (s : Span) → Contains spans s → IsInSpan s (at F p) → ⊥
IsRowNumber spans F p (Some n) = (s : Span) × Contains spans s × IsInSpan s (at F p) × (n ≡ suc (s.base + (p - s.start)))

-- the numbers of the rows of a witness
abbrev pub IsRowPair : List Span → List RowId → Pair → Type 0
IsRowPair spans names p = IsRowNumber spans 0 (place_at names 0) (Some p.left) × IsRowNumber spans 1 (place_at names 1) (Some p.right)

-- the clause of a witness is added, exactly where both of its rows have numbers
abbrev pub AddsPair : List Span → List RowId → List (List Lit) → List (List Lit) → Type 0
AddsPair spans names old new =
    ((p : Pair) × IsRowPair spans names p × (new ≡ old ++ not_both p ∷ [])) ⊎ (((p : Pair) → IsRowPair spans names p → ⊥) × (new ≡ old))

-- the clauses of these witnesses are added, exactly where both rows have numbers
pub record AddsPairs (spans : List Span) (all : List (List RowId)) (old new : List (List Lit)) : Type 0 where
  pub pairs : List Pair
  pub is : new ≡ old ++ map not_both pairs
  pub each : (p : Pair) → Contains pairs p → (names : List RowId) × Contains all names × IsRowPair spans names p
  pub every : (names : List RowId) → Contains all names → ((p : Pair) × Contains pairs p × IsRowPair spans names p) ⊎ ((p : Pair) → IsRowPair spans names p → ⊥)
