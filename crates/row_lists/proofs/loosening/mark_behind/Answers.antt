use Rattle.std.proofs.Common.{◌≡◌, ◌+◌, ◌-◌, ◌<◌, false, length, slice_index, sym, ◌∙◌, arith, length-set}
use Rattle.std.proofs.lemmas.List.{get_or_default}
use Rattle.row_lists.specs.Loose.{HasFreePlace}
use Rattle.row_lists.proofs.Loose.{says-set, loose-above, above-more}
use Rattle.row_lists.proofs.loosening.mark_behind.Goals.{then-index, else-index}
use Rattle.row_lists.proofs.loosening.mark_behind.Goals as goal

pub loop-at-preserved : goal.loop-at-preserved
loop-at-preserved c =
    let key = c.args.key.now in
    let rows = c.args.rows.now in
    let places = c.args.places.now in
    let marks = c.loop-at.loose.items in
    let n = c.loop-at.at - 1 in
    let i = c.loop-at.invariant in
    let e = c.is_loose_behind-last.ensures in
    let last = c.is_loose_behind-last.result in
    let next : c.loop-at.at ≡ n + 1 = let t = c.loop-at-test.true in omega (arith, t) in
    let within = i.within in
    let l : n < length places = omega (arith, next, within) in
    let set : n < length marks = let z = i.size in omega (arith, z, l) in
    let found = loose-above key rows places c.requires.places n c.loop-at.at c.loop-at.end c.loop-at.last last l next i.last e.again e.near in
    record {
      size = length-set marks n c.if-index.is_marked ∙ i.size;
      within = omega (arith, l);
      loose = says-set (λ j. HasFreePlace key rows places (slice_index places j)) (length places) n marks c.if-index.is_marked set i.loose (λ t. elim c.if-index.branch [
        | then-index w ↦ i.loose n l (get_or_default marks n false c.index.result.now set ∙ (sym c.index.ensures ∙ w.if-index.true))
        | else-index w ↦ found (sym w.is_marked-is ∙ t)
      ]);
      last = above-more key rows places c.requires.places n c.loop-at.at c.loop-at.end c.loop-at.last last l next i.last e.again e.near;
    }
