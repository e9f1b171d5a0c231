use Rattle.std.proofs.Common.{◌∙◌, List, ℕ, sym, subst}
use Rattle.std.proofs.lemmas.Result.{IfOk-weaker}
use Rattle.repair_back.specs.Flags.{AreTablesOf}
use Rattle.repair_back.specs.Results.{IsRepairOver, AreTablePicks}
use Rattle.repair_back.specs.declared.repair.Repair.{Repair}
use Rattle.repair_back.proofs.Naming.{repair-of, picks-of}
use Rattle.repair_back.proofs.Starting.{query-tables}
use Rattle.repair_back.proofs.from_models.from_model.Goals as goal

pub tables_from_model-found-requires-clause-tables : goal.tables_from_model-found-requires-clause-tables
tables_from_model-found-requires-clause-tables c =
    let b = c.args.bound.now in
    subst (AreTablesOf b.db.now) (sym (c.as_slice.ensures ∙ c.in_ok-tables.ensures)) (query-tables b.query.now b.db.now b.fits)

pub returns-clause-repair : goal.returns-clause-repair
returns-clause-repair c =
    let b = c.args.bound.now in
    let same = c.as_slice.ensures ∙ c.in_ok-tables.ensures in
    IfOk-weaker c.tables_from_model-found.result _ _
    (λ (repair : Repair) h. repair-of b.query.now b.db.now b.fits repair.kept (subst (λ (tables : List ℕ). IsRepairOver b.db.now tables repair.kept) same h))
    c.tables_from_model-found.ensures.repair

pub returns-clause-picks : goal.returns-clause-picks
returns-clause-picks c =
    let b = c.args.bound.now in
    let same = c.as_slice.ensures ∙ c.in_ok-tables.ensures in
    IfOk-weaker c.tables_from_model-found.result _ _
    (λ (repair : Repair) h. picks-of b.query.now b.db.now b.fits repair.kept c.args.listed.now c.args.model.now (subst (λ (tables : List ℕ). AreTablePicks b.db.now tables c.args.listed.now c.args.model.now repair.kept) same h))
    c.tables_from_model-found.ensures.picks
