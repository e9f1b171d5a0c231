use Rattle.key_closure.proofs.Growing.{grown-start, grown-more, grown-end}
use Rattle.key_closure.proofs.named.Named.closure.Goals as goal

pub grow-init : goal.grow-init
grow-init c = grown-start c.args.self.now.query.now c.args.self.now.view c.args.start.now c.args.atoms.now

pub grow-preserved : goal.grow-preserved
grow-preserved c = let h = c.in-Some.ensures in
    grown-more c.args.self.now.query.now c.args.self.now.view c.args.start.now c.args.atoms.now c.grow.set c.grow.waiting c.in-Some.atom c.var_set-vars.result c.union-set.result c.remove.new.self
    c.grow.invariant h.0 h.1 c.var_set-vars.ensures.is c.var_set-vars.ensures.proper c.union-set.ensures c.remove.ensures.is

pub returns : goal.returns
returns c = record {
  is = grown-end c.args.self.now.query.now c.args.self.now.view c.args.start.now c.args.atoms.now c.grow.set c.grow.waiting c.grow.invariant c.in_default.ensures;
  proper = c.grow.invariant.proper;
}
