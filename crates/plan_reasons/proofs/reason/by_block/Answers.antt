use Rattle.std.proofs.Common.{◌≡◌, ◌<◌, ◌≤◌, ◌∙◌, length, get_or, sym, ap, subst, []}
use Rattle.std.proofs.lemmas.Option.{get_or_from_slice_get}
use Rattle.cqa_model.specs.Database.{key_of}
use Rattle.cqa_model.specs.Query.{atom_at, atom_key}
use Rattle.cqa_model.specs.Variables.{whole}
use Rattle.cqa_model.proofs.Elimination.{plan-eliminates}
use Rattle.cqa_model.proofs.PlanAtoms.{plan-all, plan-atoms}
use Rattle.plan_reasons.specs.Reasons.{first_of_plan, IsByBlock}
use Rattle.plan_reasons.proofs.Blocks.{first-some, first-atom}
use Rattle.plan_reasons.proofs.Keys.{few-keys}
use Rattle.plan_reasons.proofs.reason.by_block.Goals as goal

pub block_of-requires-clause-plan : goal.block_of-requires-clause-plan
block_of-requires-clause-plan c = plan-atoms c.args.bound.now.query.now c.args.plan.now.order (plan-eliminates c.args.bound.now.query.now (whole c.args.bound.now.query.now) c.args.plan.now.order c.requires.plan)

pub block_of-requires-clause-all : goal.block_of-requires-clause-all
block_of-requires-clause-all c = plan-all c.args.bound.now.query.now (whole c.args.bound.now.query.now) c.args.plan.now.order (plan-eliminates c.args.bound.now.query.now (whole c.args.bound.now.query.now) c.args.plan.now.order c.requires.plan)

pub get-requires : goal.get-requires
get-requires c = first-some c.args.bound.now.db.now c.args.bound.now.query.now c.args.row.now c.args.plan.now.order c.in-Some.block c.in-Some.ensures.1

pub values_of-requires : goal.values_of-requires
values_of-requires c =
    let q = c.args.bound.now.query.now in
    let order = c.args.plan.now.order in
    let F = get_or c.as_slice.result.now 0 0 in
    let at : F ≡ first_of_plan order = ap (λ xs. get_or xs 0 0) c.as_slice.ensures in
    let inside : F < length q.atoms = subst (λ G. G < length q.atoms) (sym at) (first-atom c.args.bound.now.db.now q c.args.row.now order c.in-Some.block c.in-Some.ensures.1 (plan-atoms q order (plan-eliminates q (whole q) order c.requires.plan))) in
    subst (λ ks. length ks ≤ 16) (sym c.key_of.ensures) (few-keys q F inside)

pub returns-clause-found : goal.returns-clause-found
returns-clause-found c =
    let q = c.args.bound.now.query.now in
    let db = c.args.bound.now.db.now in
    let row = c.args.row.now in
    let order = c.args.plan.now.order in
    let block = c.in-Some.block in
    let at : get_or c.as_slice.result.now 0 0 ≡ first_of_plan order = ap (λ xs. get_or xs 0 0) c.as_slice.ensures in
    let first = sym (get_or_from_slice_get block 0 c.get.result.now [] c.get.ensures) in
    let by : IsByBlock db q row c.table_of-table.result c.in_ok-key.key = record {
      certain = (c.requires.exact db row c.args.bound.now.fits c.requires.long).0 c.in-Some.ensures.0;
      plan = order;
      is_plan = c.requires.plan;
      block = block;
      first = c.in-Some.ensures.1;
      of_first = c.table_of-table.ensures.table ∙ ap (λ G. (atom_at q G).table) at;
      keyed = c.in_ok-key.ensures ∙ (ap (λ ks. key_of ks c.get.result.now) (c.key_of.ensures ∙ ap (atom_key q) at) ∙ ap (key_of (atom_key q (first_of_plan order))) first);
    } in
    (by, c.table_of-table.ensures.there)
