-- Cycles of attacks, and the class of a query by them (Koutris and Wijsen, ACM TODS 2017).
use Rattle.std.specs.Prelude.{ℕ, List}
use Rattle.cqa_model.specs.declared.query.Query.{Query}
use Rattle.cqa_model.specs.Variables.{View}
use Rattle.cqa_model.specs.Graph.{Attacks as IsAttack, IsWeak, IsWalk, IsCyclic, IsStronglyCyclic}
use Rattle.attack_graph.specs.declared.graph.Attacks.{Attacks}
use Rattle.attack_graph.specs.Attacking.{HasAttack, HasWeakAttack}
use Rattle.complexity_class.specs.declared.class.Class.{Class}
use Rattle.complexity_class.specs.declared.class.Class.TheVariants.{FirstOrder, Polynomial, CoNp}

-- the class by attacks and weak attacks, each given as a relation: first-order without a cycle, polynomial where no cycle is
-- strong, conp-complete otherwise (Koutris and Wijsen, ACM TODS 2017)
abbrev pub IsClassBy : (ℕ → ℕ → Type 0) → (ℕ → ℕ → Type 0) → Class → Type 0
IsClassBy attacks weak FirstOrder = IsCyclic attacks → ⊥
IsClassBy attacks weak Polynomial = IsCyclic attacks × (IsStronglyCyclic attacks weak → ⊥)
IsClassBy attacks weak CoNp = IsStronglyCyclic attacks weak

-- the class of a view of a query
abbrev pub IsClass : Query → View → Class → Type 0
IsClass q view class = IsClassBy (IsAttack q view) (IsWeak q view) class

-- the class of a graph
abbrev pub IsClassOf : Attacks → Class → Type 0
IsClassOf a class = IsClassBy (HasAttack a) (HasWeakAttack a) class

-- in a graph, a walk leads from F to G
abbrev pub Reaches : Attacks → ℕ → ℕ → Type 0
Reaches a F G = (Hs : List ℕ) × IsWalk (HasAttack a) F Hs G

-- a strong attack
abbrev pub IsStrong : Attacks → ℕ → ℕ → Type 0
IsStrong a F G = HasAttack a F G × (HasWeakAttack a F G → ⊥)
