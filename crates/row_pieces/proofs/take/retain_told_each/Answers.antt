use Rattle.std.proofs.Common.{◌-◌, ◌+◌, ◌<◌, ◌++◌, length, take, drop, get_or, set, refl, ap, subst, sym, ◌∙◌, arith}
use Rattle.std.proofs.lemmas.List.{get_or_default, take-set-le}
use Rattle.std.proofs.lemmas.Grind.{common_steps}
use Rattle.row_pieces.specs.declared.piece.Piece.{Piece}
use Rattle.row_pieces.specs.Joined.{joined, ArePlaced}
use Rattle.row_pieces.proofs.Joining.{joined_parts, numbered_take}
use Rattle.row_pieces.proofs.Retaining.{fewer_set, first_begins, retained_first, retained_next, retained_none}
use Rattle.row_pieces.proofs.Telling.{told_first, told_next, told_of}
use Rattle.row_pieces.proofs.take.retain_told_each.Goals as goal

pub returns-then-high-eq0-clause-kept : goal.returns-then-high-eq0-clause-kept
returns-then-high-eq0-clause-kept c p k =
    let ps = c.loop-at.pieces in
    let at = c.loop-at.at in
    let test = c.loop-at-test.true in
    let long = c.loop-at.auto.pieces in
    let there : at < length ps = omega (arith, test, long) in
    let old = get_or ps at c.index-pieces-at.result in
    let is = get_or_default ps at c.index-pieces-at.result old there in
    let new : Piece = record { start = old.start; rows = c.retain_told_some-rest.new.rows } in
    let i = c.loop-at.invariant.kept p k in
    let len = c.len-len.ensures in
    let low = c.saturating_sub-low.ensures in
    let high = c.saturating_sub-high.ensures in
    let order = c.loop-at.invariant.order in
    let none = c.if-high-eq0.true in
    let here = c.retain_told_some-rest.ensures.kept p (joined (drop (at + 1) ps)) (told_of ps at old new there is p c.loop-at.rest.now c.loop-at.low c.loop-at.high i.0) in
    let next = retained_next ps at old new there is p c.loop-at.low c.loop-at.high c.saturating_sub-low.result c.saturating_sub-high.result _ (omega (arith, low, len)) (omega (arith, high, len)) here.1 i.1 in
    sym (
    next
    ∙ ap (λ xs. joined (take (at + 1) (set ps at new)) ++ xs) (retained_none p c.saturating_sub-low.result c.saturating_sub-high.result (joined (drop (at + 1) (set ps at new))) (omega (arith, none, low, high, order)) none)
    ∙ sym (joined_parts (set ps at new) (at + 1))
    )

pub returns-then-high-eq0-clause-fewer : goal.returns-then-high-eq0-clause-fewer
returns-then-high-eq0-clause-fewer c =
    let ps = c.loop-at.pieces in
    let at = c.loop-at.at in
    let test = c.loop-at-test.true in
    let long = c.loop-at.auto.pieces in
    let there : at < length ps = omega (arith, test, long) in
    let old = get_or ps at c.index-pieces-at.result in
    let is = get_or_default ps at c.index-pieces-at.result old there in
    let new : Piece = record { start = old.start; rows = c.retain_told_some-rest.new.rows } in
    let so_far = c.loop-at.invariant.fewer in
    let less = fewer_set ps at old new there is c.retain_told_some-rest.ensures.fewer in
    omega (arith, so_far, less)

pub returns-then-high-eq0-clause-numbered : goal.returns-then-high-eq0-clause-numbered
returns-then-high-eq0-clause-numbered c =
    let ps = c.loop-at.pieces in
    let at = c.loop-at.at in
    let old = get_or ps at c.index-pieces-at.result in
    let new : Piece = record { start = old.start; rows = c.retain_told_some-rest.new.rows } in
    let first = c.piece_of-first.result in
    let front = take-set-le first ps at new c.loop-at.invariant.begun ∙ c.loop-at.invariant.front in
    subst (λ qs. ArePlaced 0 qs) (sym front) (numbered_take 0 c.args.pieces.now first c.requires.numbered)

pub returns-clause-numbered : goal.returns-clause-numbered
returns-clause-numbered c = subst (λ qs. ArePlaced 0 qs) (sym c.loop-at.invariant.front) (numbered_take 0 c.args.pieces.now c.piece_of-first.result c.requires.numbered)

pub loop-at-preserved : goal.loop-at-preserved
loop-at-preserved c =
    let ps = c.loop-at.pieces in
    let at = c.loop-at.at in
    let test = c.loop-at-test.true in
    let long = c.loop-at.auto.pieces in
    let there : at < length ps = omega (arith, test, long) in
    let old = get_or ps at c.index-pieces-at.result in
    let is = get_or_default ps at c.index-pieces-at.result old there in
    let new : Piece = record { start = old.start; rows = c.retain_told_some-rest.new.rows } in
    let len = c.len-len.ensures in
    let low = c.saturating_sub-low.ensures in
    let high = c.saturating_sub-high.ensures in
    let order = c.loop-at.invariant.order in
    let so_far = c.loop-at.invariant.fewer in
    let less = fewer_set ps at old new there is c.retain_told_some-rest.ensures.fewer in
    let begun = c.loop-at.invariant.begun in
    record {
      begun = omega (arith, begun);
      front = take-set-le c.piece_of-first.result ps at new begun ∙ c.loop-at.invariant.front;
      order = omega (arith, low, high, order);
      each = (let each = c.retain_told_some-rest.ensures.each in omega (arith, each, low, high, len));
      fewer = omega (arith, so_far, less);
      kept = λ p k. (let i = c.loop-at.invariant.kept p k in
          let here = c.retain_told_some-rest.ensures.kept p (joined (drop (at + 1) ps)) (told_of ps at old new there is p c.loop-at.rest.now c.loop-at.low c.loop-at.high i.0) in
          (told_next ps at old new there is p c.retain_told_some-rest.result.now c.loop-at.low c.loop-at.high c.saturating_sub-low.result c.saturating_sub-high.result (omega (arith, low, len)) (omega (arith, high, len)) here.0, retained_next ps at old new there is p c.loop-at.low c.loop-at.high c.saturating_sub-low.result c.saturating_sub-high.result _ (omega (arith, low, len)) (omega (arith, high, len)) here.1 i.1));
    }

pub overflow_sub-low : goal.overflow_sub-low
overflow_sub-low c =
    let ps = c.args.pieces.now in
    let empty = c.is_empty.ensures in
    let test = c.if-is_empty.false in
    let some : 0 < length ps = grind (arith, common_steps) in
    let within = c.requires.within in
    let found = c.piece_of-first.ensures 0 c.requires.numbered (omega arith) (omega (arith, within)) some in
    (first_begins ps c.args.from c.piece_of-first.result c.index-pieces-first.result c.requires.numbered found).1

pub overflow_sub-high : goal.overflow_sub-high
overflow_sub-high c =
    let ps = c.args.pieces.now in
    let empty = c.is_empty.ensures in
    let test = c.if-is_empty.false in
    let some : 0 < length ps = grind (arith, common_steps) in
    let within = c.requires.within in
    let order = c.requires.order in
    let found = c.piece_of-first.ensures 0 c.requires.numbered (omega arith) (omega (arith, within)) some in
    let begun = (first_begins ps c.args.from c.piece_of-first.result c.index-pieces-first.result c.requires.numbered found).1 in
    omega (arith, begun, order)

pub loop-at-init : goal.loop-at-init
loop-at-init c =
    let ps = c.args.pieces.now in
    let first = c.piece_of-first.result in
    let empty = c.is_empty.ensures in
    let test = c.if-is_empty.false in
    let some : 0 < length ps = grind (arith, common_steps) in
    let within = c.requires.within in
    let order = c.requires.order in
    let found = c.piece_of-first.ensures 0 c.requires.numbered (omega arith) (omega (arith, within)) some in
    let begins = first_begins ps c.args.from first c.index-pieces-first.result c.requires.numbered found in
    let start = begins.0 in
    let begun = begins.1 in
    record {
      begun = omega arith;
      front = refl;
      order = omega (arith, order);
      each = (let each = c.requires.each in omega (arith, each, start, begun, order));
      fewer = omega arith;
      kept = λ p k. (told_first p c.args.stays.now ps first order (omega (arith, start, begun)) (omega (arith, start)) (omega (arith, start)) k, retained_first {low = c.args.from - (get_or ps first c.index-pieces-first.result).start} {high = c.args.to - (get_or ps first c.index-pieces-first.result).start} p ps first order (omega (arith, start, begun)) (omega (arith, start)) (omega (arith, start)));
    }
