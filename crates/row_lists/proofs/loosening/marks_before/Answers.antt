use Rattle.std.proofs.Common.{◌+◌, ◌<◌, length, slice_index, sym, subst, arith}
use Rattle.row_lists.specs.Loose.{HasFreePlace}
use Rattle.row_lists.proofs.Loose.{Says, says-push, loose-below, below-more}
use Rattle.row_lists.proofs.loosening.marks_before.Goals as goal

pub loop-at-preserved : goal.loop-at-preserved
loop-at-preserved c =
    let key = c.args.key.now in
    let rows = c.args.rows.now in
    let places = c.args.places.now in
    let n = c.loop-at.at in
    let i = c.loop-at.invariant in
    let e = c.is_loose_before-last.ensures in
    let last = c.is_loose_before-last.result in
    let l : n < length places = omega arith in
    record {
      size = let z = i.size in let k = c.in_ok-push.ensures.len in omega (arith, z, k);
      loose = subst (Says (λ j. HasFreePlace key rows places (slice_index places j)) (n + 1)) (sym c.in_ok-push.ensures.items)
          (says-push (λ j. HasFreePlace key rows places (slice_index places j)) n c.loop-at.loose.items last i.size i.loose
          (loose-below key rows places c.requires n c.loop-at.next c.loop-at.last last l i.last e.again e.near));
      last = below-more key rows places c.requires n c.loop-at.next c.loop-at.last last l i.last e.again e.near;
    }
