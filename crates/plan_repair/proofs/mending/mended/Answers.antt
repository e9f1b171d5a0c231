use Rattle.std.proofs.Common.{refl, sym, subst, true≢false}
use Rattle.cqa_model.proofs.Databases.{rewriting_is_exact}
use Rattle.plan_rows.proofs.Sharing.{underway-starts}
use Rattle.repair_back.specs.Flags.{AreTablesOf, AreTableFlags}
use Rattle.repair_back.specs.Results.{Rejects, names_kept}
use Rattle.table_blocks.specs.Tables.{AreStored}
use Rattle.plan_repair.proofs.Rejecting.{named-rejects, not-certain}
use Rattle.repair_back.proofs.Naming.{named-stored}
use Rattle.repair_back.proofs.Starting.{atom-flags, table-flags, query-tables}
use Rattle.plan_repair.proofs.mending.mended.Goals as goal

pub settle_all-requires-clause-tables : goal.settle_all-requires-clause-tables
settle_all-requires-clause-tables c =
    let b = c.args.way.now.course.now.setting.bound.now in
    subst (AreTablesOf b.db.now) (sym c.requires.tables) (query-tables b.query.now b.db.now b.fits)

pub mend_all-requires-clause-here : goal.mend_all-requires-clause-here
mend_all-requires-clause-here c = record {
  underway = underway-starts c.args.way.now.course.now;
  taken_fit = tt;
  plan = c.requires.plan;
}

pub mend_all-requires-clause-chosen : goal.mend_all-requires-clause-chosen
mend_all-requires-clause-chosen c =
    let b = c.args.way.now.course.now.setting.bound.now in
    atom-flags b.query.now b.db.now b.fits c.settle_all.new.kept (subst (λ tables. AreTableFlags b.db.now tables c.settle_all.new.kept) c.requires.tables c.settle_all.ensures.chosen)

pub returns-then-not-mend_all-clause-certain : goal.returns-then-not-mend_all-clause-certain
returns-then-not-mend_all-clause-certain c =
    let way = c.args.way.now in
    let setting = way.course.now.setting in
    ((λ e. (rewriting_is_exact setting.bound.now.db.now setting.bound.now.query.now way.row.now way.course.now.order.now setting.bound.now.fits way.long c.requires.plan).0 (c.mend_all.ensures.holds c.if-not-mend_all.true)), (λ h. refl))

pub named-requires-clause-tables : goal.named-requires-clause-tables
named-requires-clause-tables c =
    let b = c.args.way.now.course.now.setting.bound.now in
    subst (AreTablesOf b.db.now) (sym c.requires.tables) (query-tables b.query.now b.db.now b.fits)

pub named-requires-clause-chosen : goal.named-requires-clause-chosen
named-requires-clause-chosen c =
    let b = c.args.way.now.course.now.setting.bound.now in
    subst (λ tables. AreTableFlags b.db.now tables c.mend_all.new.kept) (sym c.requires.tables) (table-flags b.query.now b.db.now b.fits c.mend_all.new.kept c.mend_all.ensures.chosen)

pub returns-clause-certain : goal.returns-clause-certain
returns-clause-certain c =
    let setting = c.args.way.now.course.now.setting in (
      (λ e. absurd (true≢false e)),
      (λ h. absurd (not-certain setting.bound.now.query.now setting.bound.now.db.now setting.bound.now.fits c.mend_all.new.kept c.mend_all.ensures.chosen c.args.way.now.row.now (c.mend_all.ensures.mended c.if-not-mend_all.false) h)),
    )

pub returns-clause-rejects : goal.returns-clause-rejects
returns-clause-rejects c =
    let b = c.args.way.now.course.now.setting.bound.now in
    subst (Rejects b.query.now b.db.now c.args.way.now.row.now) (sym c.in_ok-repair.ensures)
    (subst (λ tables. Rejects b.query.now b.db.now c.args.way.now.row.now (names_kept tables c.mend_all.new.kept)) (sym c.requires.tables)
    (named-rejects b.query.now b.db.now b.fits c.mend_all.new.kept c.mend_all.ensures.chosen c.args.way.now.row.now (c.mend_all.ensures.mended c.if-not-mend_all.false)))

pub returns-clause-stored : goal.returns-clause-stored
returns-clause-stored c =
    let b = c.args.way.now.course.now.setting.bound.now in
    let tables = subst (AreTablesOf b.db.now) (sym c.requires.tables) (query-tables b.query.now b.db.now b.fits) in
    let chosen = subst (λ tables. AreTableFlags b.db.now tables c.mend_all.new.kept) (sym c.requires.tables) (table-flags b.query.now b.db.now b.fits c.mend_all.new.kept c.mend_all.ensures.chosen) in
    subst (AreStored b.db.now) (sym c.in_ok-repair.ensures) (named-stored b.db.now c.args.tables.now tables c.mend_all.new.kept chosen)
