use Rattle.cqa_model.proofs.ClassNames.{untold}
use Rattle.key_closure.proofs.Members.{key-set, key-proper}
use Rattle.key_closure.proofs.named.Named.key_set.Goals as goal

pub returns : goal.returns
returns c = record {
  is = key-set c.args.self.now.query.now c.args.self.now.variables.now (untold c.args.self.now.query.now c.args.self.now.variables.now c.args.self.now.are) c.args.self.now.view c.args.atom c.requires c.key_classes.result c.key_classes.ensures;
  proper = key-proper c.args.self.now.query.now c.args.self.now.variables.now (untold c.args.self.now.query.now c.args.self.now.variables.now c.args.self.now.are) c.args.self.now.view c.args.atom c.requires c.key_classes.result c.key_classes.ensures;
}
