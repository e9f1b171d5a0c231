-- What is answered to `explain`: a block or a repair by a plan; else a refutation, that there are too many witnesses for one, or a repair. A
-- refutation may have any length, so none has to be spent.
use Rattle.std.proofs.Common.{◌<◌, inl, inr, ℕ, List, [], ◌∷◌, length, get_or, map, Some, refl, arith}
use Rattle.cqa_value.specs.declared.value.Value.{Value}
use Rattle.cqa_model.specs.declared.query.Query.{Query}
use Rattle.cqa_model.specs.Query.{atom_at, atom_key, FitsDatabase}
use Rattle.cqa_model.specs.Certain.{IsCertain}
use Rattle.cqa_model.specs.Database.{key_of}
use Rattle.cqa_model.specs.Plan.{IsPlanOf}
use Rattle.cqa_model.specs.Variables.{whole}
use Rattle.cqa_model.proofs.Cycles.{plan_or_cycle}
use Rattle.cqa_model.proofs.Elimination.{plan-eliminates}
use Rattle.existence_law.proofs.Answering.{rows_are_decided}
use Rattle.existence_law.proofs.Attacking.{methods_are_decided}
use Rattle.existence_law.proofs.Blocking.{first_blocks_exist}
use Rattle.existence_law.proofs.Encoding.{certain_is_refuted}
use Rattle.existence_law.proofs.Naming.{witnesses_are_listed}
use Rattle.existence_law.proofs.Rejecting.{rejections_exist}
use Rattle.join_access.specs.Listing.{HasTooMany}
use Rattle.plan_reasons.specs.Reasons.{first_of_plan, IsByBlock}
use Rattle.query_replies.specs.Names.{table_name_at}
use Rattle.query_strategy.specs.Strategies.{HasNoPlan, NeedsSearch}
use Rattle.refusals.specs.declared.refusal.Refusal.TheVariants.{WitnessLimit}
use Rattle.reply_text.specs.declared.reply.Proof.{Proof}
use Rattle.reply_text.specs.declared.reply.Reply.TheVariants.{ByBlock, ByRefutation, Rejected, Refused}
use Rattle.cqa_model.specs.Graph.{IsPair}
use Rattle.session_state.specs.State.{State, IsState}
use Rattle.reason_statements.specs.Explain.{MayTell}
use Rattle.query_replies.specs.Kept.{kept_line}
use Rattle.command_shell.specs.Changing.{GoesOnTo}

-- a proof that is kept leaves a state as it was
pub kept_proof : (old : State) (proof : Proof) → IsState old → IsState (record old { last_log = Some proof })
kept_proof old proof is = record { database = is.database; valid = is.valid; budget = is.budget }

-- the first atom of a plan is the query's
first_inside : (q : Query) (plan : List ℕ) → IsPlanOf q plan → first_of_plan plan < length q.atoms
first_inside q [] is = absurd (is 0 (let some = q.kept.size.0 in omega (arith, some)))
first_inside q (F ∷ plan) is = is.0

module _ (old : State) (q : Query) (row : List Value) (is : IsState old) (fits : FitsDatabase q old.tables) where
  rejected : (NeedsSearch q → HasTooMany q old.tables row → ⊥) → (IsCertain old.tables q row → ⊥) → GoesOnTo (MayTell old q row)
  rejected few uncertain =
      let r = rejections_exist old.tables q row fits uncertain in
      (Rejected (map (kept_line old.tables) r.0), old, (((r.0, (r.1.0, few, r.1.1), refl), refl), is))

  by_block : (plan : List ℕ) → IsPlanOf q plan → IsCertain old.tables q row → GoesOnTo (MayTell old q row)
  by_block plan is_plan certain =
      let block = first_blocks_exist old.tables q row plan is.database fits is_plan certain in
      let F = first_of_plan plan in
      let key = key_of (atom_key q F) (get_or block.0 0 []) in
      let by : IsByBlock old.tables q row (atom_at q F).table key = record { certain = certain; plan = plan; is_plan = is_plan; block = block.0; first = block.1; of_first = refl; keyed = refl } in
      (ByBlock (table_name_at old.tables (atom_at q F).table) key, old, ((((atom_at q F).table, (by, fits.there F (first_inside q plan is_plan)), refl), refl), is))

  by_refutation : HasNoPlan q → (HasTooMany q old.tables row → ⊥) → IsCertain old.tables q row → GoesOnTo (MayTell old q row)
  by_refutation cycle few certain =
      let r = certain_is_refuted old.tables q row fits certain in
      let proof : Proof = record { cnf = r.0.cnf; log = record { steps = r.1 } } in
      (ByRefutation proof, record old { last_log = Some proof }, (((cycle, few, record { rows = r.0.rows; formula = r.2.0; refutes = r.2.1 }), refl), kept_proof old proof is))

  over_limit : HasNoPlan q → HasTooMany q old.tables row → (IsPair q → IsCertain old.tables q row) → GoesOnTo (MayTell old q row)
  over_limit cycle over certain = (Refused (WitnessLimit row), old, ((refl, (cycle, over, certain), refl), is))

  by_plan : (plan : List ℕ) → IsPlanOf q plan → GoesOnTo (MayTell old q row)
  by_plan plan is_plan = elim (rows_are_decided.certain old.tables q row) [
    | inl certain ↦ by_block plan is_plan certain
    | inr uncertain ↦ rejected (λ needs over. plan_or_cycle.not_both q plan (plan-eliminates q (whole q) plan is_plan) needs.0) uncertain
  ]

  by_pair : HasNoPlan q → IsPair q → GoesOnTo (MayTell old q row)
  by_pair cycle pair = elim (rows_are_decided.certain old.tables q row) [
    | inr uncertain ↦ rejected (λ needs over. needs.1 pair) uncertain
    | inl certain ↦ elim (witnesses_are_listed.count old.tables q row) [
      | inl over ↦ over_limit cycle over (λ p. certain)
      | inr few ↦ by_refutation cycle few certain
    ]
  ]

  by_search : HasNoPlan q → (IsPair q → ⊥) → GoesOnTo (MayTell old q row)
  by_search cycle none = elim (witnesses_are_listed.count old.tables q row) [
    | inl over ↦ over_limit cycle over (λ pair. absurd (none pair))
    | inr few ↦ elim (rows_are_decided.certain old.tables q row) [
      | inl certain ↦ by_refutation cycle few certain
      | inr uncertain ↦ rejected (λ needs. few) uncertain
    ]
  ]

pub reasons_are_told : (old : State) (q : Query) (row : List Value) → IsState old → FitsDatabase q old.tables → GoesOnTo (MayTell old q row)
reasons_are_told old q row is fits = elim (plan_or_cycle.either q) [
  | inl plan ↦ by_plan old q row is fits plan.0 plan.1
  | inr cycle ↦ elim (methods_are_decided.pair q) [
    | inl pair ↦ by_pair old q row is fits cycle pair
    | inr none ↦ by_search old q row is fits cycle none
  ]
]
