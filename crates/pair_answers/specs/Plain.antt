-- Where the query alone tells that each row of an atom fits by itself.
use Rattle.std.specs.Prelude.{◌≡◌, ◌≢◌, ℕ, ◌<◌, Bool, IsTrue, All, length}
use Rattle.std.proofs.Props.{props}
use Rattle.cqa_model.specs.declared.query.Cond.{Cond}
use Rattle.cqa_model.specs.declared.query.Cond.TheVariants.{Join, Test}
use Rattle.cqa_model.specs.declared.query.Query.{Query}
use Rattle.cqa_model.specs.Query.{atom_at}
use Rattle.cqa_model.specs.Variables.{AreLinked}

-- a condition is a join
abbrev pub IsJoin : Cond → Type 0
IsJoin (Join c d) = Unit {0}
IsJoin (Test d op y) = ⊥

-- different columns of an atom are of different variables
abbrev pub AreColumnsApart : Query → ℕ → Type 0
AreColumnsApart q F = (i j : ℕ) → i < (atom_at q F).width → j < (atom_at q F).width → i ≢ j → AreLinked q (record { atom = F; col = i }) (record { atom = F; col = j }) → ⊥

-- the query has no answer columns and no tests, and the atom no two columns of one variable
pub record IsPlain (q : Query) (F : ℕ) : Type 0 where
  pub none : length q.answer ≡ 0
  pub joins : All IsJoin q.conds
  pub apart : AreColumnsApart q F

join_once : (c : Cond) → IsProp (IsJoin c)
join_once (Join c d) = hlevel props
join_once (Test d op y) = hlevel props

-- it is told so in one way at most
pub plain_once : (all_fit : Bool) (q : Query) (F : ℕ) → IsProp (IsTrue all_fit → IsPlain q F)
plain_once all_fit q F = hlevel (join_once, props)
