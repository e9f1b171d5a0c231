use Rattle.cqa_model.proofs.ClassNames.{untold}
use Rattle.key_closure.proofs.Members.{var-set, var-proper}
use Rattle.key_closure.proofs.named.Named.var_set.Goals as goal

pub returns : goal.returns
returns c = record {
  is = var-set c.args.self.now.query.now c.args.self.now.variables.now (untold c.args.self.now.query.now c.args.self.now.variables.now c.args.self.now.are) c.args.self.now.view c.args.atom c.requires c.var_classes.result c.var_classes.ensures;
  proper = var-proper c.args.self.now.query.now c.args.self.now.variables.now (untold c.args.self.now.query.now c.args.self.now.variables.now c.args.self.now.are) c.args.self.now.view c.args.atom c.requires c.var_classes.result c.var_classes.ensures;
}
