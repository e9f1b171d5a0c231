use Rattle.std.proofs.Common.{sym, subst}
use Rattle.std.proofs.lemmas.Result.{IfOk-weaker}
use Rattle.table_blocks.specs.Tables.{AreStored}
use Rattle.repair_back.proofs.Stored.{contested-stored}
use Rattle.repair_back.proofs.rivals.chosen.Goals as goal

pub returns-clause-stored : goal.returns-clause-stored
returns-clause-stored c =
    let db = c.args.db.now in
    IfOk-weaker c.contested-names.result _ _ (λ names e. subst (AreStored db) (sym e) (contested-stored db c.args.repair.kept c.requires)) c.contested-names.ensures
