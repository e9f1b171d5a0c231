use Rattle.repair_back.proofs.Starting.{blank-none, blank-more}
use Rattle.repair_back.proofs.kept.add_blank.Goals as goal

pub loop-table-init : goal.loop-table-init
loop-table-init c = blank-none c.args.db.now c.args.tables.now c.args.kept.now.items c.requires

pub loop-table-preserved : goal.loop-table-preserved
loop-table-preserved c =
    blank-more c.args.db.now c.args.tables.now c.loop-table.table c.loop-table.kept.items c.push.new.self.items c.count_in.result c.in_ok-blank.field-0
    c.loop-table.invariant c.in_ok-blank.ensures c.in_ok-push.ensures.items c.count_in.ensures
