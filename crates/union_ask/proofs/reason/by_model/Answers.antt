use Rattle.std.proofs.Common.{List, sym, subst}
use Rattle.std.proofs.lemmas.Result.{IfOk-weaker}
use Rattle.cqa_model.specs.declared.query.RowId.{RowId}
use Rattle.table_blocks.specs.Tables.{AreStored}
use Rattle.union_ask.specs.Repairs.{AreUnionPicks}
use Rattle.union_ask.proofs.Rejecting.{names-stored, union_model_rejects}
use Rattle.union_ask.proofs.reason.by_model.Goals as goal

pub union_repair-requires-clause-there : goal.union_repair-requires-clause-there
union_repair-requires-clause-there c =
    subst (AreStored c.args.parts.now.db.now) (sym c.as_slice.ensures) (names-stored c.args.parts.now.db.now c.args.parts.now.queries.now c.args._row.now c.args.formula.now c.requires.formula)

pub returns-clause-rejected : goal.returns-clause-rejected
returns-clause-rejected c =
    let parts = c.args.parts.now in
    let kept = c.in_ok-kept.kept.rows in
    let picks = subst (λ (listed : List RowId). AreUnionPicks parts.db.now parts.queries.now listed c.args.model.now kept) c.as_slice.ensures c.in_ok-kept.ensures.picks in
    IfOk-weaker c.chosen.result _ _
    (λ names e. (kept, union_model_rejects parts.db.now parts.queries.now c.args._row.now c.args.formula.now c.args.model.now kept parts.database parts.parts.fits c.requires.formula c.requires.model c.in_ok-kept.ensures.repair picks, e))
    c.chosen.ensures.names
