use Rattle.std.proofs.Common.{◌≡◌, ◌+◌, ◌<◌, ◌≤◌, [], ◌∷◌, length, take, drop, get_or, sym, ap, subst, ◌∙◌, arith}
use Rattle.std.proofs.lemmas.List.{length-append, length-drop, drop_all, drop_more, take_all, take_at}
use Rattle.row_pieces.specs.Inserted.{with_item, with_items, AreRising}
use Rattle.row_pieces.specs.Joined.{joined, ArePlaced}
use Rattle.row_pieces.proofs.Putting.{last_drop, length-with_items, open_lower, rising_drop, rising_most, rising_order}
use Rattle.row_pieces.proofs.put.put_each.Goals as goal

pub loop-row-init : goal.loop-row-init
loop-row-init c =
    let ps = c.args.pieces.now.items in
    let rows = c.args.rows.now.items in
    let places = c.args.places.now in
    let end = c.len-end.ensures in
    let kept = c.args.pieces.now.ok.0 in
    let whole : take c.len-end.result ps ≡ ps = take_all c.len-end.result ps (omega (arith, end, kept)) in
    let some = c.requires.some in
    let each = c.requires.each in
    record {
      few = omega arith;
      taken = sym (take_all (length rows) rows (omega arith));
      put = sym (ap (λ xs. with_items (joined ps) xs (drop (length rows) places)) (drop_all (length rows) rows (omega arith)));
      within = omega (arith, end, kept);
      numbered = subst (λ qs. ArePlaced 0 qs) (sym whole) c.requires.numbered;
      opened = λ k l. record {
        some = omega (arith, end, kept, some);
        within = omega (arith, end, kept);
        numbered = subst (λ qs. ArePlaced 0 qs) (sym whole) c.requires.numbered;
        there = subst (λ qs. get_or places k 0 ≤ length (joined qs)) (sym whole) (rising_most 0 (length (joined ps)) places k 0 c.requires.rising (omega (arith, l, each))).1;
      };
    }

pub make_room-room-requires-clause-fits : goal.make_room-room-requires-clause-fits
make_room-room-requires-clause-fits c =
    let start = joined c.args.pieces.now.items in
    let rows = c.args.rows.now.items in
    let places = c.args.places.now in
    let n = length c.loop-row.rows.items in
    let each = c.requires.each in
    let a = length-drop n rows in
    let b = length-drop n places in
    let long = length-with_items start (drop n rows) (drop n places) 0 (omega (arith, a, b, each)) (rising_drop 0 (length start) places n c.requires.rising) in
    let same = ap length c.loop-row.invariant.put in
    let few = c.requires.fits in
    omega (arith, same, long, a, few)

pub loop-row-preserved : goal.loop-row-preserved
loop-row-preserved c =
    let start = joined c.args.pieces.now.items in
    let rows = c.args.rows.now.items in
    let places = c.args.places.now in
    let old = c.loop-row.rows.items in
    let new = c.pop.new.self.items in
    let row = c.in-Some.row in
    let each = c.requires.each in
    let parts = c.in-Some.ensures.items in
    let one = ap length parts in
    let sum = length-append new (row ∷ []) in
    let next : length old ≡ length new + 1 = omega (arith, one, sum) in
    let few = c.loop-row.invariant.few in
    let last = last_drop rows new row (length old) (sym parts ∙ c.loop-row.invariant.taken) next in
    let len = c.len-at.ensures in
    let kept = c.pop.new.self.ok.0 in
    let at_is : c.len-at.result ≡ length new = omega (arith, len, kept) in
    let inside : length new < length places = omega (arith, next, few, each) in
    record {
      few = omega (arith, next, few);
      taken = last.1;
      put = c.in-Ok.ensures.put
          ∙ ap (λ xs. with_item (get_or places c.len-at.result 0) row xs) (c.make_room-room.ensures.joined ∙ c.loop-row.invariant.put)
          ∙ ap (λ k. with_item (get_or places k 0) row (with_items start (drop (length old) rows) (drop (length old) places))) at_is
          ∙ ap (λ k. with_item (get_or places (length new) 0) row (with_items start (drop (length old) rows) (drop k places))) next
          ∙ ap (λ ps. with_items start (row ∷ drop (length old) rows) ps) (sym (drop_more places (length new) 0 inside))
          ∙ ap (λ xs. with_items start xs (drop (length new) places)) (sym last.0);
      within = c.in-Ok.ensures.opened.within;
      numbered = c.in-Ok.ensures.opened.numbered;
      opened = λ k l. open_lower c.put_in.new.pieces.items c.in-Ok.next (get_or places c.len-at.result 0) (get_or places k 0)
          (rising_order 0 (length start) places k c.len-at.result 0 c.requires.rising (omega (arith, l, at_is)) (omega (arith, at_is, inside))) c.in-Ok.ensures.opened;
    }

pub returns-in-Err-clause-err : goal.returns-in-Err-clause-err
returns-in-Err-clause-err c =
    let start = joined c.args.pieces.now.items in
    let rows = c.args.rows.now.items in
    let places = c.args.places.now in
    let old = c.loop-row.rows.items in
    let new = c.pop.new.self.items in
    let parts = c.in-Some.ensures.items in
    let one = ap length parts in
    let sum = length-append new (c.in-Some.row ∷ []) in
    let next : length old ≡ length new + 1 = omega (arith, one, sum) in
    let len = c.len-at.ensures in
    let kept = c.pop.new.self.ok.0 in
    let each = c.requires.each in
    let at_is : c.len-at.result + 1 ≡ length old = omega (arith, len, kept, next) in
    let behind : c.split_at.result.1.now ≡ drop (length old) places = c.split_at.ensures.back ∙ ap (λ k. drop k places) at_is in
    let back = c.take_back.new.pieces in
    let ps = c.put_in.new.pieces.items in
    let was : joined c.as_mut_slice.result.now ≡ with_items start (drop (length old) rows) c.split_at.result.1.now =
    ap joined c.as_mut_slice.ensures.value
    ∙ c.in-Err.ensures.err
    ∙ c.make_room-room.ensures.joined
    ∙ c.loop-row.invariant.put
    ∙ ap (λ qs. with_items start (drop (length old) rows) qs) (sym behind)
    in
    let a = length-drop (length old) rows in
    let b = length-drop (length old) places in
    let d = ap length behind in
    let done = c.take_back.ensures (drop (length old) rows) start was (omega (arith, a, b, d, each)) (subst (λ qs. AreRising 0 (length start) qs) (sym behind) (rising_drop 0 (length start) places (length old) c.requires.rising)) in
    let full = c.take_back.auto.pieces in
    let seen = ap length c.as_mut_slice.ensures.value in
    let held = c.put_in.new.pieces.ok.0 in
    ap joined (take_at back (drop (length back) ps) c.put_in.new.pieces.len (omega (arith, full, seen, held))) ∙ done
