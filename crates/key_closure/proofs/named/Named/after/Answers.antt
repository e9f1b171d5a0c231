use Rattle.key_closure.proofs.Growing.{union-proper}
use Rattle.key_closure.proofs.Sameness.{view-after}
use Rattle.key_closure.proofs.named.Named.after.Goals as goal

pub returns : goal.returns
returns c = record {
  is = view-after c.args.self.now.query.now c.args.self.now.view (record { gone = c.insert_if.new.self; fixed = c.union.result }) c.args.atom c.var_set-vars.result c.insert_if.ensures c.var_set-vars.ensures.is c.union.ensures;
  proper = λ h. union-proper c.args.self.now.query.now c.args.self.now.view.fixed c.var_set-vars.result c.union.result c.union.ensures h c.var_set-vars.ensures.proper;
}
