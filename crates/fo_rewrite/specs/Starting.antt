-- What a query's elimination orders begin with.
use Rattle.std.specs.Prelude.{ℕ, ◌↔◌}
use Rattle.cqa_model.specs.Variables.{whole}
use Rattle.key_closure.specs.Sets.{HasAtom}
use Rattle.key_closure.specs.Members.{AreSame, seen}
use Rattle.fo_rewrite.specs.declared.planning.Outset.{Outset}
use Rattle.fo_rewrite.specs.Planning.{IsAttacked}

-- the view is of the whole query, and these are the atoms that are attacked
pub record StartsWhole (o : Outset) : Type 0 where
  pub whole : AreSame (whole o.named.now.query.now) (seen o.named.now.query.now o.named.now.view)
  pub attacked : (G : ℕ) → HasAtom o.attacked G ↔ IsAttacked o.named.now.query.now (seen o.named.now.query.now o.named.now.view) G
