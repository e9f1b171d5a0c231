use Rattle.std.proofs.Common.{◌<◌, length, arith, length-set}
use Rattle.cqa_model.specs.Graph.{IsWeak}
use Rattle.key_closure.specs.Members.{seen}
use Rattle.attack_graph.proofs.Rows.{rows-more}
use Rattle.attack_graph.proofs.building.weak_rows.Goals as goal

pub loop-atom-preserved : goal.loop-atom-preserved
loop-atom-preserved c = record {
  size = simp length-set c.loop-atom.invariant.size;
  rows = rows-more (λ F G. (G < length c.args.named.now.query.now.atoms) × IsWeak c.args.named.now.query.now (seen c.args.named.now.query.now c.args.named.now.view) F G) c.loop-atom.rows c.loop-atom.atom c.weak_row.result c.loop-atom.invariant.size (omega (arith, c.args.named.now.query.now.kept.size.1))
      c.loop-atom.invariant.rows c.weak_row.ensures;
}
