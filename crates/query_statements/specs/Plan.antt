-- `plan`
use Rattle.std.specs.Prelude.{◌≡◌, ℕ, List, [], map, slice_index_or}
use Rattle.cqa_model.specs.declared.query.Query.{Query}
use Rattle.cqa_model.specs.Variables.{whole}
use Rattle.cqa_model.specs.Graph.{HasCycle}
use Rattle.cqa_model.specs.Plan.{IsPlanOf}
use Rattle.spj_syntax.specs.declared.tree.Select.{Select}
use Rattle.query_resolve.specs.Resolved.{IsQueryOf}
use Rattle.reply_text.specs.declared.reply.Reply.{Reply}
use Rattle.reply_text.specs.declared.reply.Reply.TheVariants.{Steps, NoPlan}
use Rattle.session_state.specs.State.{State}

-- the names of some atoms
abbrev pub names_at : List (List ℕ) → List ℕ → List (List ℕ)
names_at names atoms = map (λ F. slice_index_or names F []) atoms

-- the names of the tables of the query's plan, in its order
abbrev pub AreSteps : Query → List (List ℕ) → List (List ℕ) → Type 0
AreSteps q names steps = (plan : List ℕ) × IsPlanOf q plan × (steps ≡ names_at names plan)

-- what is told of a query's plan: its steps, or that there is none, since the attacks have a cycle
abbrev pub TellsPlan : Query → List (List ℕ) → Reply → Type 0
TellsPlan q names (Steps steps) = AreSteps q names steps
TellsPlan q names NoPlan = HasCycle q (whole q)
TellsPlan q names _ = ⊥

-- The reply has the steps of the query's plan, or says that there is none.
pub record ShowsPlan (state : State) (select : Select) (reply : Reply) (new : State) : Type 0 where
  pub query : Query
  pub resolved : IsQueryOf state.tables select query
  pub told : TellsPlan query select.tables reply
  pub keeps : new ≡ state
