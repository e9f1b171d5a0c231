use Rattle.std.proofs.Common.{arith}
use Rattle.repair_back.specs.declared.repair.Repair.{Repair}
use Rattle.repair_back.specs.Results.{IsRepairOver, AreTablePicks, names_kept}
use Rattle.table_blocks.specs.Tables.{AreStored}
use Rattle.repair_back.proofs.Answering.{ok-map, marked-long, named-repair, named-picks}
use Rattle.repair_back.proofs.Naming.{named-stored}
use Rattle.repair_back.proofs.from_models.picked.Goals as goal

pub mark-requires-clause-there : goal.mark-requires-clause-there
mark-requires-clause-there c = λ name m. let l = (c.requires.there name m).0 in let size = c.requires.blank.long.size in omega (arith, l, size)

pub settle_all-requires-clause-long : goal.settle_all-requires-clause-long
settle_all-requires-clause-long c = marked-long c.args.db.now c.args.tables.now c.args.kept.now c.mark.new.kept c.requires.blank c.mark.ensures.size c.mark.ensures.long

pub returns-clause-repair : goal.returns-clause-repair
returns-clause-repair c =
    let db = c.args.db.now in
    let tables = c.args.tables.now in
    ok-map c.named.result (λ (repair : Repair). repair.kept) (names_kept tables c.settle_all.new.kept) (IsRepairOver db tables) c.named.ensures (named-repair db tables c.requires.tables c.settle_all.new.kept c.settle_all.ensures.chosen)

pub returns-clause-picks : goal.returns-clause-picks
returns-clause-picks c =
    let db = c.args.db.now in
    let tables = c.args.tables.now in
    ok-map c.named.result (λ (repair : Repair). repair.kept) (names_kept tables c.settle_all.new.kept) (AreTablePicks db tables c.args.listed.now c.args.model.now) c.named.ensures
    (named-picks db tables c.args.kept.now c.mark.new.kept c.settle_all.new.kept c.args.listed.now c.args.model.now c.requires.blank c.mark.ensures.is c.settle_all.ensures.picks)

pub returns-clause-stored : goal.returns-clause-stored
returns-clause-stored c =
    let db = c.args.db.now in
    let tables = c.args.tables.now in
    ok-map c.named.result (λ (repair : Repair). repair.kept) (names_kept tables c.settle_all.new.kept) (AreStored db) c.named.ensures (named-stored db tables c.requires.tables c.settle_all.new.kept c.settle_all.ensures.chosen)
