use Rattle.std.proofs.Common.{◌≡◌, ◌↔◌, ◌+◌, ◌<◌, IsTrue, length, slice_index_or, rules, sym, ap, ◌∙◌, subst}
use Rattle.std.specs.Vec.{vec_len}
use Rattle.std.proofs.lemmas.List.{get_or_read}
use Rattle.cqa_model.specs.Query.{atom_key}
use Rattle.block_tree.specs.Trees.{IsBlockOf}
use Rattle.block_check.specs.declared.marking.Mark.{Mark}
use Rattle.block_check.specs.Firsts.{IsFirstOfKey}
use Rattle.block_check.specs.Walking.{HasMarks}
use Rattle.block_check.proofs.Marked.{marked_more}
use Rattle.block_check.proofs.marking.marks.Goals as goal

pub loop-node-preserved : goal.loop-node-preserved
loop-node-preserved c =
    let q = c.args.query.now in
    let nodes = c.args.nodes.now in
    let n = c.loop-node.node-index in
    let firsts = c.in_ok-seen.seen.firsts.items in
    let node = c.node-item.result in
    let long : vec_len c.loop-node.marks ≡ length c.loop-node.marks.items = search rules in
    let at : c.len.result ≡ n = c.len.ensures ∙ long ∙ c.loop-node.invariant.size in
    let eq : c.index-first.result.now ≡ slice_index_or firsts n 0 = get_or_read firsts n c.index-first.result.now (subst (λ z. n < z) (sym c.in_ok-seen.ensures.size) c.loop-node-test.true) (c.index-first.ensures ∙ ap (λ z. slice_index_or firsts z c.index-first.result.now) at) 0 in
    let first : IsFirstOfKey q nodes n c.index-first.result.now = subst (IsFirstOfKey q nodes n) (sym eq) (c.in_ok-seen.ensures.each n c.loop-node-test.true) in
    let m : Mark = record { is_block = c.in_ok-is_block.is_block; first = c.index-first.result.now } in
    let b1 : IsTrue m.is_block ↔ IsBlockOf (atom_key q node.atom) c.as_slice.result.now = subst (λ z. IsTrue m.is_block ↔ IsBlockOf z c.as_slice.result.now) c.columns_of_key.ensures c.in_ok-is_block.ensures in
    let block : IsTrue m.is_block ↔ IsBlockOf (atom_key q node.atom) node.rows = subst (λ z. IsTrue m.is_block ↔ IsBlockOf (atom_key q node.atom) z) c.as_slice.ensures b1 in
    subst (HasMarks q nodes (n + 1)) (sym c.in_ok-push.ensures.items) (marked_more q nodes n c.loop-node.marks.items node m c.loop-node-test.true c.node-item.is c.loop-node.invariant first block)
