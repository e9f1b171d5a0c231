-- A graph of attacks against the attacks of a query (Koutris and Wijsen, ACM TODS 2017).
use Rattle.std.specs.Prelude.{ℕ, ◌↔◌}
use Rattle.cqa_model.specs.declared.query.ColRef.{ColRef}
use Rattle.cqa_model.specs.declared.query.Query.{Query}
use Rattle.cqa_model.specs.Variables.{View as Rest, IsVar}
use Rattle.cqa_model.specs.Graph.{Attacks as IsAttack, IsWeak}
use Rattle.key_closure.specs.declared.variable_set.VarSet.{VarSet}
use Rattle.key_closure.specs.declared.view.View.{View}
use Rattle.key_closure.specs.Members.{IsIn, seen}
use Rattle.attack_graph.specs.declared.graph.Attacks.{Attacks}
use Rattle.attack_graph.specs.Pairs.{HasPair}

-- in the graph, F attacks G
abbrev pub HasAttack : Attacks → ℕ → ℕ → Type 0
HasAttack a F G = HasPair a.by F G

-- in the graph, F attacks G weakly
abbrev pub HasWeakAttack : Attacks → ℕ → ℕ → Type 0
HasWeakAttack a F G = HasPair a.weak F G

-- the graph has exactly the attacks of a view of a query, and those of them are weak in it that are weak
pub record AreAttacks (q : Query) (view : Rest) (a : Attacks) : Type 0 where
  pub by : (F G : ℕ) → HasAttack a F G ↔ IsAttack q view F G
  pub weak : (F G : ℕ) → IsAttack q view F G → HasWeakAttack a F G ↔ IsWeak q view F G

-- a variable of K is in the set
abbrev pub IsTouched : Query → View → VarSet → ℕ → Type 0
IsTouched q view s K = (c : ColRef) × IsIn q s c × IsVar q (seen q view) K c
