use Rattle.std.proofs.Common.{sym, subst, List}
use Rattle.std.proofs.lemmas.Result.{IfOk-weaker}
use Rattle.cqa_model.specs.declared.query.RowId.{RowId}
use Rattle.repair_back.specs.Results.{ArePicks}
use Rattle.table_blocks.specs.Tables.{AreStored}
use Rattle.union_ask.proofs.Modelled.{names-stored, model-rejects}
use Rattle.union_ask.proofs.query_reason.by_model.Goals as goal

pub from_model-requires-clause-there : goal.from_model-requires-clause-there
from_model-requires-clause-there c =
    subst (AreStored c.args.bound.now.db.now) (sym c.as_slice.ensures) (names-stored c.args.bound.now.query.now c.args.bound.now.db.now c.args._row.now c.args.formula.now c.args.model.now c.requires.formula c.requires.model c.args.bound.now.fits)

pub returns-clause-rejected : goal.returns-clause-rejected
returns-clause-rejected c =
    let q = c.args.bound.now.query.now in
    let db = c.args.bound.now.db.now in
    let kept = c.in_ok-repair.repair.kept in
    let of = c.in_ok-repair.ensures.repair in
    let picks = subst (λ (listed : List RowId). ArePicks q db listed c.args.model.now kept) c.as_slice.ensures c.in_ok-repair.ensures.picks in
    IfOk-weaker c.chosen.result _ _
    (λ names e. (kept, model-rejects q db c.args._row.now c.args.formula.now c.args.model.now c.requires.formula c.requires.model c.args.bound.now.fits kept of.0 of.1 of.2 picks, e))
    c.chosen.ensures.names
