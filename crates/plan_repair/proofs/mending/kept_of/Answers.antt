use Rattle.std.proofs.Common.{subst, sym}
use Rattle.repair_back.specs.Flags.{IsFlagged}
use Rattle.plan_repair.proofs.Mended.{kept-in-block, flags-read}
use Rattle.plan_repair.proofs.mending.kept_of.Goals as goal

pub kept_in-requires : goal.kept_in-requires
kept_in-requires c =
    let q = c.args.setting.now.bound.now.query.now in
    let p = kept-in-block q c.args.setting.now.bound.now.db.now c.args.kept.now c.requires.chosen c.args.atom c.requires.atom c.args.start c.args.end c.requires.block in
    let e = flags-read q c.args.setting.now.bound.now.db.now c.args.setting.now.bound.now.fits c.args.kept.now c.requires.chosen.size c.args.atom c.requires.atom c.table_of.result c.table_of.ensures.table c.index-kept-table_of.result c.index-kept-table_of.is in
    record { some = (p.0, p.1, p.2, subst (λ f. IsFlagged f p.0) (sym e) p.3) }
