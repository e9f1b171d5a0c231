use Rattle.cqa_model.proofs.Databases.{elimination_is_exact}
use Rattle.fo_rewrite.proofs.passes.elimination_in.Goals as goal

pub returns-in-Some-clause-exact : goal.returns-in-Some-clause-exact
returns-in-Some-clause-exact c = λ db row fits long. elimination_is_exact db c.args.named.now.query.now row c.cheapest.result.order fits long c.cheapest.ensures
