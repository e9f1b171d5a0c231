use Rattle.std.proofs.Common.{subst}
use Rattle.std.proofs.lemmas.Result.{IfOk-weaker}
use Rattle.query_replies.specs.Parts.{HasCyclicAttacks}
use Rattle.query_replies.proofs.Written.{has_text}
use Rattle.query_replies.proofs.unions.text_of_part.Goals as goal

pub new-bound-requires : goal.new-bound-requires
new-bound-requires c = c.requires.fits

pub returns-clause-sql : goal.returns-clause-sql
returns-clause-sql c =
    let bound = c.new-bound.result in
    IfOk-weaker c.sql_of_query.result _ _ (λ found told. has_text c.args.database.now c.args.select.now c.args.query.now bound.db.now bound.query.now c.as_slice.result.now found c.new-bound.ensures.db c.new-bound.ensures.query c.as_slice.ensures c.requires told)
    c.sql_of_query.ensures.sql

pub returns-clause-none : goal.returns-clause-none
returns-clause-none c = IfOk-weaker c.sql_of_query.result _ _ (λ found told u. subst HasCyclicAttacks c.new-bound.ensures.query (told u)) c.sql_of_query.ensures.none
