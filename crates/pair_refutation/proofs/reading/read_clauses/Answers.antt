use Rattle.std.proofs.Common.{length, sym, ap, subst, ◌∙◌, ◌^◌, arith, Contains, ℕ, List}
use Rattle.weak_pairs.specs.Starts.{starts_from}
use Rattle.weak_pairs.proofs.Begins.{ends-length}
use Rattle.pair_refutation.specs.Graph.{ArePaired, IsGraph, graph_clauses, all_of}
use Rattle.pair_refutation.specs.Edges.{AreOfVars}
use Rattle.pair_refutation.proofs.Collecting.{var-next, start-next-is, few-next, vars-few, blocks-read, pairs-read}
use Rattle.pair_refutation.proofs.Rowing.{var-small, blocks-few}
use Rattle.pair_refutation.proofs.reading.read_clauses.Goals as goal

pub append_block-requires : goal.append_block-requires
append_block-requires c = λ e.
    let few = vars-few c.args.vars c.args.clauses.now c.requires in
    let v = c.ranges.vars.fits in
    few-next c.args.clauses.now c.loop-clause.clause-index c.clause-item.result c.loop-clause-test.true c.clause-item.is (2 ^ 32) (omega (arith, few, v)) c.loop-clause.var.items c.loop-clause.invariant.var e

pub loop-clause-preserved : goal.loop-clause-preserved
loop-clause-preserved c = record {
  var = var-next c.args.clauses.now c.loop-clause.clause-index c.clause-item.result c.loop-clause-test.true c.clause-item.is c.loop-clause.var.items c.append_block.new.var.items c.loop-clause.invariant.var c.in_ok-append_block.ensures.var;
  start = start-next-is c.args.clauses.now c.loop-clause.clause-index c.clause-item.result c.loop-clause-test.true c.clause-item.is c.loop-clause.start.items c.append_block.new.start.items c.loop-clause.var.items c.loop-clause.invariant.var c.loop-clause.invariant.start c.in_ok-append_block.ensures.start;
}

pub overflow_cast-blocks : goal.overflow_cast-blocks
overflow_cast-blocks c =
    let read = blocks-read c.args.vars c.args.clauses.now c.requires c.loop-clause.clause-index c.loop-clause-test.false in
    let e = ap (λ (z : List ℕ). length z) (c.loop-clause.invariant.start ∙ ap (starts_from 0) read) in
    let n = ends-length 0 c.requires.blocks in
    let b = blocks-few c.args.vars c.requires.blocks c.requires.pairs c.requires.graph in
    let f = c.requires.graph.few in
    let l = c.len.ensures in
    let v = c.ranges.vars.fits in
    let k = c.loop-clause.start.ok in
    omega (arith, e, n, b, f, l, v, k)

pub row_edges-requires-clause-paired : goal.row_edges-requires-clause-paired
row_edges-requires-clause-paired c =
    subst (λ z. ArePaired c.args.vars z) (sym (c.deref.ensures.value ∙ (c.in_ok-pairs.ensures ∙ pairs-read c.args.vars c.args.clauses.now c.requires))) c.requires.graph.paired

pub row_edges-requires-clause-small : goal.row_edges-requires-clause-small
row_edges-requires-clause-small c = λ x m.
    let read = blocks-read c.args.vars c.args.clauses.now c.requires c.loop-clause.clause-index c.loop-clause-test.false in
    var-small c.args.vars c.requires.blocks c.requires.pairs c.requires.graph x (subst (λ z. Contains z x) (c.deref-2.ensures.value ∙ (c.loop-clause.invariant.var ∙ ap all_of read)) m)

pub returns : goal.returns
returns c =
    let read = blocks-read c.args.vars c.args.clauses.now c.requires c.loop-clause.clause-index c.loop-clause-test.false in
    let pairs-are = c.in_ok-pairs.ensures ∙ pairs-read c.args.vars c.args.clauses.now c.requires in
    record {
      blocks = c.requires.blocks;
      are = c.requires.are ∙ ap (graph_clauses c.requires.blocks) (sym pairs-are);
      graph = subst (λ z. IsGraph c.args.vars c.requires.blocks z) (sym pairs-are) c.requires.graph;
      start = c.loop-clause.invariant.start ∙ ap (starts_from 0) read;
      count = (let e = ap (λ (z : List ℕ). length z) c.loop-clause.invariant.start in let l = c.len.ensures in let k = c.loop-clause.start.ok in omega (arith, e, l, k));
      var = c.loop-clause.invariant.var ∙ ap all_of read;
      edges = subst (λ z. AreOfVars z c.args.vars c.loop-clause.var.items c.in_ok-edge.edge.items) c.deref.ensures.value (subst (λ z. AreOfVars c.deref.result.now c.args.vars z c.in_ok-edge.edge.items) c.deref-2.ensures.value c.in_ok-edge.ensures);
    }
