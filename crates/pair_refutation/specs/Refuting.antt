-- Refuting the formula of a certain row: the clauses that a log adds, and the variables that it finds to be false.
use Rattle.std.specs.Prelude.{◌≡◌, ◌⊎◌, ℕ, ◌+◌, ◌<◌, ◌≤◌, ℤ, pos, List, [], ◌∷◌, ◌++◌, length, map, flat_map, Contains, slice_index, slice_index_or, Option, Some, None, MatchOption}
use Rattle.cnf_form.specs.declared.formula.Lit.{Lit}
use Rattle.cnf_form.specs.declared.formula.Cnf.{Cnf}
use Rattle.cnf_form.specs.declared.log.Step.{Step}
use Rattle.cnf_form.specs.declared.log.Step.TheVariants.{Add, Delete}
use Rattle.cnf_form.specs.Literals.{literals, opposite}
use Rattle.cnf_form.specs.Logs.{HintsPass, numbered, added}
use Rattle.weak_pairs.specs.Peeling.{IsBlockNumber, In}
use Rattle.pair_refutation.specs.declared.graph.Pair.{Pair}
use Rattle.pair_refutation.specs.declared.graph.Graph.{Graph}
use Rattle.pair_refutation.specs.declared.chains.Chains.{Chains}
use Rattle.pair_refutation.specs.Graph.{positive, negative, AreAdjacent}
use Rattle.pair_refutation.specs.Edges.{pair_at}
use Rattle.pair_refutation.specs.Formulas.{IsReadTo}

-- ---- the pairs of each variable

-- a pair is of a variable
abbrev pub IsOf : Pair → ℕ → Type 0
IsOf p x = (p.left ≡ x) ⊎ (p.right ≡ x)

-- the last of the first n pairs that is of a variable
abbrev pub IsLastOf : List Pair → ℕ → ℕ → Option ℕ → Type 0
IsLastOf pairs x n last =
    MatchOption last ((t : ℕ) → t < n → IsOf (pair_at pairs t) x → ⊥)
    (λ k. (k < n) × IsOf (pair_at pairs k) x × ((t : ℕ) → k < t → t < n → IsOf (pair_at pairs t) x → ⊥))

abbrev pub option_at : List (Option ℕ) → ℕ → Option ℕ
option_at xs i = slice_index_or xs i None

-- of the first n pairs: the last one of each variable, and of each the ones before it
pub record AreChained (pairs : List Pair) (n : ℕ) (last left right : List (Option ℕ)) : Type 0 where
  pub lefts : length left ≡ n
  pub rights : length right ≡ n
  pub of_last : (x : ℕ) → x < length last → IsLastOf pairs x n (option_at last x)
  pub of_left : (t : ℕ) → t < n → IsLastOf pairs (pair_at pairs t).left t (option_at left t)
  pub of_right : (t : ℕ) → t < n → IsLastOf pairs (pair_at pairs t).right t (option_at right t)

abbrev pub AreChains : List Pair → Chains → Type 0
AreChains pairs chains = AreChained pairs (length pairs) chains.last.items chains.left.items chains.right.items

-- ---- clauses under ids

-- the clauses of a formula and those that a log adds, in the order of their ids
abbrev pub all_clauses : Cnf → List Step → List (List Lit)
all_clauses cnf steps = literals cnf.clauses ++ added steps

-- an id is the clause's
abbrev pub IsIdOf : Cnf → List Step → ℕ → List Lit → Type 0
IsIdOf cnf steps id c = numbered (all_clauses cnf steps) id ≡ Some c

-- no id changes its clause
abbrev pub Keeps : Cnf → List Step → List Step → Type 0
Keeps cnf old new = (id : ℕ) (c : List Lit) → IsIdOf cnf old id c → IsIdOf cnf new id c

-- a step that adds a clause under the next id, by hints that pass
abbrev pub StepFollows : List (List Lit) → Step → Type 0
StepFollows cs (Add id clause hints) = (id ≡ length cs + 1) × HintsPass (numbered cs) (map opposite clause.lits) hints
StepFollows cs (Delete ids) = ⊥

abbrev pub StepsFollow : List (List Lit) → List Step → Type 0
StepsFollow cs [] = Unit {0}
StepsFollow cs (step ∷ steps) = StepFollows cs step × StepsFollow (cs ++ added (step ∷ [])) steps

-- a variable has the id of a clause that says that it is false
abbrev pub IsLost : List (Option ℕ) → ℕ → Type 0
IsLost lost x = (id : ℕ) × (option_at lost x ≡ Some id)

abbrev pub StayLost : List (Option ℕ) → List (Option ℕ) → Type 0
StayLost old new = (x : ℕ) → IsLost old x → IsLost new x

-- a log that follows so far, and variables that it says to be false
pub record IsSoFar (cnf : Cnf) (steps : List Step) (lost : List (Option ℕ)) : Type 0 where
  pub follow : StepsFollow (literals cnf.clauses) steps
  pub size : length lost ≡ cnf.vars + 1
  pub named : (x id : ℕ) → option_at lost x ≡ Some id → IsIdOf cnf steps id (negative x ∷ [])

-- ---- hints

-- the hints are the clauses of pairs of a variable, from a place on of all of them
pub record ArePairHints (pairs : List Pair) (blocks x from : ℕ) (hints : List ℤ) : Type 0 where
  pub each : (h : ℤ) → Contains hints h → (t : ℕ) × (t < length pairs) × IsOf (pair_at pairs t) x × (h ≡ pos (blocks + t + 1))
  pub all : (t : ℕ) → from ≤ t → t < length pairs → IsOf (pair_at pairs t) x → Contains hints (pos (blocks + t + 1))

-- the pairs of a variable, and then an id
abbrev pub AreHintsOf : Graph → ℕ → ℕ → List ℤ → Type 0
AreHintsOf g x last hints = (hs : List ℤ) × ArePairHints g.pairs.items g.blocks x 0 hs × (hints ≡ hs ++ pos last ∷ [])

-- the id by which a variable is lost, if it is
abbrev pub id_hint : Option ℕ → List ℤ
id_hint None = []
id_hint (Some id) = pos id ∷ []

-- the ids by which some variables are lost
abbrev pub lost_hints : List (Option ℕ) → List ℕ → List ℤ
lost_hints lost vars = flat_map (λ x. id_hint (option_at lost x)) vars

-- the literal of a variable, if it isn't lost
abbrev pub left_literal : ℕ → Option ℕ → List Lit
left_literal x None = positive x ∷ []
left_literal x (Some id) = []

-- those of some variables
abbrev pub left_literals : List (Option ℕ) → List ℕ → List Lit
left_literals lost vars = flat_map (λ x. left_literal x (option_at lost x)) vars

-- ---- what the steps say

-- the id is that of a clause of rows of the block that are not lost
abbrev pub IsLeftOf : Cnf → List Step → Graph → List (Option ℕ) → ℕ → ℕ → Type 0
IsLeftOf cnf steps g lost v id =
    (c : List Lit) × IsIdOf cnf steps id c ×
    ((m : Lit) → Contains c m → (i : ℕ) × In g.start.items v i × (option_at lost (slice_index g.var.items i) ≡ None) × (m ≡ positive (slice_index g.var.items i)))

-- the id is that of a clause of variables that all meet this one
abbrev pub IsMet : Cnf → List Step → List Pair → ℕ → ℕ → Type 0
IsMet cnf steps pairs x id = (c : List Lit) × IsIdOf cnf steps id c × ((m : Lit) → Contains c m → (y : ℕ) × AreAdjacent pairs y x × (m ≡ positive y))

-- the id is that of a clause of variables that all meet each one that this one meets
abbrev pub MeetsAlike : Cnf → List Step → List Pair → ℕ → ℕ → Type 0
MeetsAlike cnf steps pairs x id = (c : List Lit) × IsIdOf cnf steps id c × ((m : Lit) → Contains c m → (y : ℕ) × ((b : ℕ) → AreAdjacent pairs x b → AreAdjacent pairs y b) × (m ≡ positive y))

-- all that meet the variables of the first n rows of the order are lost
abbrev pub AreMarked : Graph → List ℕ → List (Option ℕ) → ℕ → Type 0
AreMarked g order lost n = (q b : ℕ) → q < n → AreAdjacent g.pairs.items (slice_index g.var.items (slice_index order q)) b → IsLost lost b

-- the graph of a formula, with the pairs of each of its variables
pub record IsChainedTo (cnf : Cnf) (g : Graph) (chains : Chains) : Type 0 where
  pub read : IsReadTo cnf g
  pub chains_are : AreChains g.pairs.items chains
  pub size : length chains.last.items ≡ cnf.vars + 1

-- the block of each row
pub record AreBlocksOf (start : List ℕ) (rows : ℕ) (block_of : List ℕ) : Type 0 where
  pub size : length block_of ≡ rows
  pub each : (i : ℕ) → i < rows → IsBlockNumber start (slice_index block_of i) × In start (slice_index block_of i) i
