-- What holds of a matching and of a peeling of a graph's blocks, and what a step of each changes.
use Rattle.std.specs.Prelude.{◌≡◌, ◌≢◌, ℕ, ◌<◌, ◌⊎◌, slice_index, Option, None, MatchOption}
use Rattle.weak_pairs.specs.declared.graph.Graph.{Graph}
use Rattle.weak_pairs.specs.declared.matching.Matching.{Matching}
use Rattle.weak_pairs.specs.declared.peel.Peeling.{Peeling}
use Rattle.weak_pairs.specs.declared.peel.Watch.{Watch}
use Rattle.weak_pairs.specs.declared.peel.Left.{Left}
use Rattle.weak_pairs.specs.declared.peel.Left.TheVariants.{Zero, One, Two}
use Rattle.weak_pairs.specs.declared.peel.Step.{Step}
use Rattle.weak_pairs.specs.declared.peel.Step.TheVariants.{Stuck, Done, Go}
use Rattle.weak_pairs.specs.Peeling.{IsBlockNumber, In, IsTaken, IsFreeEdge, row_of, IsServed, open_count, IsMatchingState, HasTwo, IsSettledBlock, HasTakenRow, AreRowsSeen, IsStuck, ArePeeled}

-- blocks of the graph took rows of their own whose edges are taken and differ
abbrev pub IsMatching : Graph → Matching → Type 0
IsMatching g m = IsMatchingState g.start.now g.edge.now g.ends.now m.own.items m.taken.items

-- a block took no row yet
abbrev pub IsUnmatched : Matching → ℕ → Type 0
IsUnmatched m v = row_of m.own.items v ≡ None

-- a block took a row, or two free edges are left to it
abbrev pub IsSettledIn : Graph → Matching → ℕ → Type 0
IsSettledIn g m v = IsSettledBlock g.start.now g.edge.now m.own.items m.taken.items v

-- each block is settled
abbrev pub AllSettled : Graph → Matching → Type 0
AllSettled g m = (u : ℕ) → IsBlockNumber g.start.now u → IsSettledIn g m u

-- which of two rows to keep: none where both edges are free and differ, and else one such that the other's edge is taken or the same
abbrev pub IsKept : Graph → Matching → ℕ → ℕ → Option ℕ → Type 0
IsKept g m keep next result =
    MatchOption result
    (IsFreeEdge m.taken.items (slice_index g.edge.now keep) × IsFreeEdge m.taken.items (slice_index g.edge.now next) × (slice_index g.edge.now keep ≢ slice_index g.edge.now next))
    (λ row. ((row ≡ keep) × (IsTaken m.taken.items (slice_index g.edge.now next) ⊎ (slice_index g.edge.now next ≡ slice_index g.edge.now keep))) ⊎ ((row ≡ next) × IsTaken m.taken.items (slice_index g.edge.now keep)))

-- the second of two matchings of a graph is the first after a block took a row
abbrev pub HasTaken : Graph → Matching → Matching → ℕ → ℕ → Option ℕ → Type 0
HasTaken g m n at row other = HasTakenRow g.start.now g.edge.now g.ends.now m.own.items m.taken.items n.own.items n.taken.items at row other

-- blocks took rows by a walk from a block, which has one now; all blocks are settled
pub record HasWalked (g : Graph) (m n : Matching) (first : ℕ) : Type 0 where
  pub matching : IsMatching g n
  pub settled : AllSettled g n
  pub served : IsServed n.own.items first
  pub more : (u : ℕ) → IsServed m.own.items u → IsServed n.own.items u

-- rows that were taken one after the other, each forced
abbrev pub IsPeeling : Graph → Peeling → Type 0
IsPeeling g p = ArePeeled g.start.now g.edge.now g.ends.now p.matching.own.items p.matching.taken.items p.watch.items p.order.items

-- a block was looked at so far
abbrev pub IsSeenTo : Graph → Matching → ℕ → Watch → Type 0
IsSeenTo g m v seen = AreRowsSeen g.start.now g.edge.now m.taken.items v seen.keep seen.next

-- what is left to a block
abbrev pub IsLeft : Graph → Matching → ℕ → Left → Type 0
IsLeft g m v Zero = (i : ℕ) → In g.start.now v i → IsTaken m.taken.items (slice_index g.edge.now i)
IsLeft g m v (One i) =
    In g.start.now v i × IsFreeEdge m.taken.items (slice_index g.edge.now i) ×
    ((j : ℕ) → In g.start.now v j → IsTaken m.taken.items (slice_index g.edge.now j) ⊎ (slice_index g.edge.now j ≡ slice_index g.edge.now i))
IsLeft g m v Two = HasTwo g.start.now g.edge.now m.taken.items v

-- what a forced step leaves
abbrev pub IsStep : Graph → Peeling → Peeling → ℕ → Step → Type 0
IsStep g p q at Stuck = IsStuck g.start.now g.edge.now q.order.items at
IsStep g p q at Done = (u : ℕ) → (u ≡ at) ⊎ IsSettledIn g p.matching u → IsSettledIn g q.matching u
IsStep g p q at (Go w) =
    IsBlockNumber g.start.now w × (open_count q.matching.own.items < open_count p.matching.own.items) ×
    ((u : ℕ) → u ≢ w → (u ≡ at) ⊎ IsSettledIn g p.matching u → IsSettledIn g q.matching u)

-- the first blocks, so many, are settled
abbrev pub AreSettled : Graph → Matching → ℕ → Type 0
AreSettled g m n = (u : ℕ) → u < n → IsSettledIn g m u

-- the first blocks, so many, are settled, or nothing is left to the block that was found
abbrev pub IsPeeledTo : Graph → Peeling → ℕ → Option ℕ → Type 0
IsPeeledTo g p n found = MatchOption found (AreSettled g p.matching n) (IsStuck g.start.now g.edge.now p.order.items)
