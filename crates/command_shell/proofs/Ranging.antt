-- What is answered to `range`: both ends, those of each group, or that there are too many witnesses.
use Rattle.std.proofs.Common.{◌≡◌, inl, inr, ℕ, List, [], Option, Some, None, map, refl, sym, subst}
use Rattle.aggregate_range.specs.declared.aggregate.Goal.{Goal}
use Rattle.cqa_model.specs.declared.query.ColRef.{ColRef}
use Rattle.cqa_model.specs.Database.{Table}
use Rattle.existence_law.proofs.Naming.{witnesses_are_listed}
use Rattle.existence_law.proofs.Ranging.{ranges_exist}
use Rattle.join_access.specs.Listing.{HasTooMany}
use Rattle.query_resolve.specs.declared.range.RangeQuery.{RangeQuery}
use Rattle.query_resolve.specs.Resolved.{IsRangeOf}
use Rattle.existence_law.specs.JoinRanges.{CanBeRanged}
use Rattle.existence_law.proofs.Grouping.{groups_exist}
use Rattle.existence_law.proofs.Joining.{join_ranges_exist}
use Rattle.existence_law.proofs.JoinGrouping.{join_groups_exist}
use Rattle.refusals.specs.declared.refusal.Refusal.TheVariants.{WitnessLimit}
use Rattle.reply_text.specs.declared.reply.Reply.{Reply}
use Rattle.reply_text.specs.declared.reply.Reply.TheVariants as replies
use Rattle.spj_syntax.specs.declared.tree.RawRange.{RawRange}
use Rattle.table_blocks.specs.declared.test.ColumnTest.{ColumnTest}
use Rattle.session_state.specs.State.{State, IsState}
use Rattle.query_statements.specs.Range.{chosen_lines, group_line, TellsOf}
use Rattle.query_statements.specs.RangeOfJoin.{TellsJoin, TellsJoinBy, sought_of}
use Rattle.command_shell.specs.Changing.{GoesOnTo}

pub ranges_are_told : (db : List Table) (table : ℕ) (goal : Goal) (tests : List ColumnTest) (col : Option ℕ) → (reply : Reply) × TellsOf db table goal tests col reply
ranges_are_told db table goal tests None =
    let r = ranges_exist db table goal tests in
    (replies.Range r.0.least (chosen_lines db r.0.low) r.0.greatest (chosen_lines db r.0.high), record { range = r.0; is = r.1; replies = refl })
ranges_are_told db table goal tests (Some col) =
    let g = groups_exist db table goal tests col in
    (replies.Groups (map group_line g.0), record { groups = g.0; are = g.1; replies = refl })

module _ (old : State) (raw : RawRange) (range : RangeQuery) (is : IsState old) (resolved : IsRangeOf old.tables raw range) (few : HasTooMany range.query old.tables [] → ⊥) where
  can : CanBeRanged old.tables range.query range.lax (sought_of range)
  can = record { database = is.database; fits = resolved.fits; inside = resolved.inside; strict = resolved.strict; goal_inside = resolved.goal_inside }

  told : (group : Option ColRef) → range.group ≡ group → GoesOnTo (TellsJoin old range)
  told None e =
      let r = join_ranges_exist old.tables range.query range.lax (sought_of range) can in
      let reply : Reply = replies.Range r.0.least (chosen_lines old.tables r.0.low) r.0.greatest (chosen_lines old.tables r.0.high) in
      (reply, old, ((subst (λ g. TellsJoinBy old.tables range.query range.lax (sought_of range) g reply) (sym e) (record { range = r.0; is = r.1; replies = refl }), few, refl), is))
  told (Some col) e =
      let g = join_groups_exist old.tables range.query range.lax (sought_of range) col can in
      let reply : Reply = replies.Groups (map group_line g.0) in
      (reply, old, ((subst (λ g. TellsJoinBy old.tables range.query range.lax (sought_of range) g reply) (sym e) (record { groups = g.0; are = g.1; replies = refl }), few, refl), is))

pub join_ranges_are_told : (old : State) (raw : RawRange) (range : RangeQuery) → IsState old → IsRangeOf old.tables raw range → GoesOnTo (TellsJoin old range)
join_ranges_are_told old raw range is resolved = elim (witnesses_are_listed.count old.tables range.query []) [
  | inl over ↦ (replies.Refused (WitnessLimit []), old, ((refl, over, refl), is))
  | inr few ↦ told old raw range is resolved few range.group refl
]
