-- Taking the unattacked atoms of a query one after the other (Koutris and Wijsen, ACM TODS 2017).
use Rattle.std.specs.Prelude.{ℕ, ◌<◌}
use Rattle.cqa_model.specs.declared.query.Query.{Query}
use Rattle.cqa_model.specs.Variables.{View}
use Rattle.cqa_model.specs.Graph.{Attacks}
use Rattle.cqa_model.specs.Plan.{IsUnattacked}

-- some atom attacks G
abbrev pub IsAttacked : Query → View → ℕ → Type 0
IsAttacked q view G = (F : ℕ) × Attacks q view F G

-- every atom of the view is attacked
abbrev pub IsStuck : Query → View → Type 0
IsStuck q view = (G : ℕ) → view.has G → IsAttacked q view G

-- an atom of the view that none attacks
pub record IsNext (q : Query) (view : View) (G : ℕ) : Type 0 where
  pub has : view.has G
  pub free : IsUnattacked q view G

-- each atom of the view before G is attacked
abbrev pub IsFirstUnattacked : Query → View → ℕ → Type 0
IsFirstUnattacked q view G = (H : ℕ) → H < G → view.has H → IsAttacked q view H
