use Rattle.std.proofs.Common.{◌++◌, ◌∷◌, [], map, take, ap, ◌∙◌, arith, sym}
use Rattle.std.proofs.lemmas.List.{append-nil, append_assoc, take_all}
use Rattle.row_pieces.specs.Marks.{row_mark}
use Rattle.row_pieces.proofs.Marking.{map-more}
use Rattle.row_pieces.proofs.marked.push_marks.Goals as goal

pub loop-at-init : goal.loop-at-init
loop-at-init c = record {
  pushed = sym (append-nil c.args.marks.now.items);
  room = (let room = c.requires in omega (arith, room));
}

pub push_reserved-requires : goal.push_reserved-requires
push_reserved-requires c =
    let room = c.loop-at.invariant.room in
    let test = c.loop-at-test.true in
    omega (arith, room, test)

pub loop-at-preserved : goal.loop-at-preserved
loop-at-preserved c =
    let rows = c.args.rows.now in
    let at = c.loop-at.at in
    let row = c.index-rows-at.result in
    let before = c.args.marks.now.items in
    let room = c.loop-at.invariant.room in
    let test = c.loop-at-test.true in
    let len = c.push_reserved.ensures.len in
    let same = c.push_reserved.ensures.capacity in
    record {
      pushed = c.push_reserved.ensures.items
          ∙ ap (λ zs. zs ++ c.mark_of_row.result ∷ []) c.loop-at.invariant.pushed
          ∙ append_assoc before (map row_mark (take at rows)) (c.mark_of_row.result ∷ [])
          ∙ ap (λ m. before ++ (map row_mark (take at rows) ++ m ∷ [])) c.mark_of_row.ensures
          ∙ ap (λ zs. before ++ zs) (map-more row_mark rows at row test c.index-rows-at.is);
      room = omega (arith, room, test, len, same);
    }

pub returns : goal.returns
returns c =
    let rows = c.args.rows.now in
    let at = c.loop-at.at in
    let done = c.loop-at-test.false in
    c.loop-at.invariant.pushed ∙ ap (λ zs. c.args.marks.now.items ++ map row_mark zs) (take_all at rows (omega (arith, done)))
