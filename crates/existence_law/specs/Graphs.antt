-- What the attacks of a query are is decided, and with it how its rows are decided.
use Rattle.std.specs.Prelude.{ℕ, ◌<◌, ◌⊎◌, length}
use Rattle.cqa_model.specs.declared.query.Query.{Query}
use Rattle.cqa_model.specs.Variables.{whole}
use Rattle.cqa_model.specs.Graph.{Attacks, IsWeak, HasStrongCycle, IsPair}
use Rattle.query_strategy.specs.Strategies.{NeedsSearch}

-- Which atoms attack which, which atom attacks weakly, and whether a cycle has a strong attack.
pub record AttacksAreDecided : Type 0 where
  pub attacks : (q : Query) (F G : ℕ) → Attacks q (whole q) F G ⊎ (Attacks q (whole q) F G → ⊥)
  pub weak : (q : Query) (F G : ℕ) → F < length q.atoms → IsWeak q (whole q) F G ⊎ (IsWeak q (whole q) F G → ⊥)
  pub strong_cycle : (q : Query) → HasStrongCycle q (whole q) ⊎ (HasStrongCycle q (whole q) → ⊥)

-- Whether a query is a pair, and whether it needs search.
pub record MethodsAreDecided : Type 0 where
  pub pair : (q : Query) → IsPair q ⊎ (IsPair q → ⊥)
  pub search : (q : Query) → NeedsSearch q ⊎ (NeedsSearch q → ⊥)
