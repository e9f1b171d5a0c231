-- The attack graph of a query: attacks, and cycles of attacks (Koutris and Wijsen, ACM TODS 2017).
use Rattle.std.specs.Prelude.{◌≡◌, ℕ, ◌<◌, ◌≢◌, ◌⊎◌, List, [], ◌∷◌, length}
use Rattle.cqa_model.specs.declared.query.ColRef.{ColRef}
use Rattle.cqa_model.specs.declared.query.Query.{Query}
use Rattle.cqa_model.specs.Variables.{View, IsVar, IsKeyVar, whole}
use Rattle.cqa_model.specs.Closures.{InClosure, InPlus}

-- two variables of one atom of the view
abbrev pub AreTogether : Query → View → ColRef → ColRef → Type 0
AreTogether q view u v = (H : ℕ) × view.has H × IsVar q view H u × IsVar q view H v

-- variables outside F+ that end in v, the last first: they start in vars(F), and neighbours are together in some atom
abbrev pub IsSequence : Query → View → ℕ → ColRef → List ColRef → Type 0
IsSequence q view F v [] = (InPlus q view F v → ⊥) × IsVar q view F v
IsSequence q view F v (u ∷ us) = (InPlus q view F v → ⊥) × AreTogether q view u v × IsSequence q view F u us

-- v is reached from F: such a sequence ends in v, which witnesses an attack of F on each other atom that has v (Koutris and
-- Wijsen, ACM TODS 2017)
abbrev pub IsReached : Query → View → ℕ → ColRef → Type 0
IsReached q view F v = (us : List ColRef) × IsSequence q view F v us

-- F attacks another atom G: such a sequence leads from vars(F) to vars(G)
abbrev pub Attacks : Query → View → ℕ → ℕ → Type 0
Attacks q view F G = view.has F × view.has G × (F ≢ G) × ((v : ColRef) × IsReached q view F v × IsVar q view G v)

-- an attack of F on G is weak if the dependencies of all atoms derive key(G) from key(F), and strong otherwise
abbrev pub IsWeak : Query → View → ℕ → ℕ → Type 0
IsWeak q view F G = (v : ColRef) → IsKeyVar q view G v → InClosure q view view.has (IsKeyVar q view F) v

-- along attacks, given as a relation: F attacks the first of these atoms, each the next, and the last G
abbrev pub IsWalk : (ℕ → ℕ → Type 0) → ℕ → List ℕ → ℕ → Type 0
IsWalk attacks F [] G = attacks F G
IsWalk attacks F (H ∷ Hs) G = attacks F H × IsWalk attacks H Hs G

-- one of the attacks of such a walk is strong, which is to say not weak
abbrev pub HasStrongStep : (ℕ → ℕ → Type 0) → ℕ → List ℕ → ℕ → Type 0
HasStrongStep weak F [] G = weak F G → ⊥
HasStrongStep weak F (H ∷ Hs) G = (weak F H → ⊥) ⊎ HasStrongStep weak H Hs G

-- a walk comes back to its first atom
abbrev pub IsCyclic : (ℕ → ℕ → Type 0) → Type 0
IsCyclic attacks = (F : ℕ) × (Hs : List ℕ) × IsWalk attacks F Hs F

-- a walk with a strong attack comes back to its first atom
abbrev pub IsStronglyCyclic : (ℕ → ℕ → Type 0) → (ℕ → ℕ → Type 0) → Type 0
IsStronglyCyclic attacks weak = (F : ℕ) × (Hs : List ℕ) × IsWalk attacks F Hs F × HasStrongStep weak F Hs F

-- the attack graph has a cycle. No atom attacks itself, so it has at least two atoms
abbrev pub HasCycle : Query → View → Type 0
HasCycle q view = IsCyclic (Attacks q view)

-- the attack graph has a strong cycle: at least one of its attacks is strong (Koutris and Wijsen, ACM TODS 2017)
abbrev pub HasStrongCycle : Query → View → Type 0
HasStrongCycle q view = IsStronglyCyclic (Attacks q view) (IsWeak q view)

-- two atoms, each of which attacks the other weakly: no plan finds the certain rows, but polynomial time does (Koutris and Wijsen, ACM TODS 2017)
pub record IsPair (q : Query) : Type 0 where
  pub two : length q.atoms ≡ 2
  pub weakly : (F G : ℕ) → F < 2 → G < 2 → F ≢ G → Attacks q (whole q) F G × IsWeak q (whole q) F G
