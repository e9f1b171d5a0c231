use Rattle.std.proofs.Common.{refl}
use Rattle.std.proofs.lemmas.Result.{IfOk-weaker}
use Rattle.query_replies.proofs.Written.{planned}
use Rattle.query_replies.proofs.Sharing.{shared_told}
use Rattle.query_replies.proofs.unions.told_of.Goals as goal

pub returns-in-None : goal.returns-in-None
returns-in-None c = (c.requires.texts, c.in-None.ensures.none refl)

pub shares_of-requires-clause-parts : goal.shares_of-requires-clause-parts
shares_of-requires-clause-parts c = c.requires.parts.parts

pub returns-in-Some : goal.returns-in-Some
returns-in-Some c =
    let db = c.args.database.now in
    let selects = c.args._selects.now in
    let parts = c.args.parts.now in
    IfOk-weaker c.shares_of.result _ _ (shared_told db selects parts (planned db selects parts c.args.texts c.requires.texts)) c.shares_of.ensures
