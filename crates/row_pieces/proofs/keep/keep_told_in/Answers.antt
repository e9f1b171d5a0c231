use Rattle.std.proofs.Common.{◌+◌, ◌-◌, ◌++◌, map, take, drop, sym, ap, ◌∙◌, arith}
use Rattle.std.proofs.lemmas.List.{length-take-le, length-drop, take-append-le, drop-map}
use Rattle.std.specs.List.{take-map}
use Rattle.row_pieces.specs.Marks.{row_mark}
use Rattle.row_pieces.proofs.Marking.{map-put_mid}
use Rattle.std.proofs.lemmas.Slice.{drop-put_mid}
use Rattle.std.proofs.Math.Seq.{take-append-add}
use borrow.Rule.Slice.PartMut.{put_mid, post_of}
use Rattle.row_pieces.proofs.keep.keep_told_in.Goals as goal

pub returns-clause-kept : goal.returns-clause-kept
returns-clause-kept c p k =
    let xs = c.args.rows.now in
    let ys = c.keep_told.new.rows in
    let from = c.args.from in
    let size = c.args.to - from in
    let count = c.keep_told.result in
    let within = c.requires.within in
    let order = c.requires.order in
    let front = length-take-le from xs (omega (arith, order, within)) in
    let fits = c.keep_told.ensures.within in
    let same = c.keep_told.auto.rows in
    ap (λ n. take (n + count) (put_mid from size xs ys)) (sym front)
    ∙ take-append-add (take from xs) (ys ++ post_of from size xs) count
    ∙ ap (λ zs. take from xs ++ zs) (take-append-le count ys (post_of from size xs) (omega (arith, fits, same)))
    ∙ ap (λ zs. take from xs ++ zs) (c.keep_told.ensures.kept p k)

pub returns-clause-behind : goal.returns-clause-behind
returns-clause-behind c =
    let order = c.requires.order in
    let within = c.requires.within in
    let behind = length-drop c.args.from c.args.rows.now in
    let long = length-take-le (c.args.to - c.args.from) (drop c.args.from c.args.rows.now) (omega (arith, behind, within)) in
    drop-put_mid c.args.from (c.args.to - c.args.from) c.args.rows.now c.keep_told.new.rows c.args.to (omega (arith, order)) (omega (arith, order, within)) (c.keep_told.auto.rows ∙ long)

pub keep_told-requires-clause-marked : goal.keep_told-requires-clause-marked
keep_told-requires-clause-marked c =
    let from = c.args.from in
    let size = c.args.to - from in
    ap (λ zs. take size (drop from zs)) c.requires.marked
    ∙ ap (take size) (drop-map row_mark from c.args.rows.now)
    ∙ take-map row_mark size (drop from c.args.rows.now)

pub returns-clause-marked : goal.returns-clause-marked
returns-clause-marked c =
    let from = c.args.from in
    let size = c.args.to - from in
    ap (λ zs. put_mid from size zs c.keep_told.new.marks) c.requires.marked
    ∙ ap (put_mid from size (map row_mark c.args.rows.now)) c.keep_told.ensures.marked
    ∙ map-put_mid row_mark from size c.args.rows.now c.keep_told.new.rows
