use Rattle.std.proofs.Common.{◌+◌, ◌-◌, ◌++◌, length, take, arith, ap, sym, ◌∙◌}
use Rattle.std.proofs.lemmas.List.{length-drop, length-append, drop-append-le}
use Rattle.row_pieces.specs.Joined.{joined}
use Rattle.row_pieces.proofs.Joining.{drop_past, drop_viewed, few_taken}
use Rattle.row_pieces.proofs.rows.Rows.behind.Goals as goal

pub invariant_of-result : goal.invariant_of-result
invariant_of-result c =
    let r = c.self.inside in
    let at = c.args.at in
    let js = joined r.pieces.now in
    let from = r.place + length r.front.now in
    let past = c.if-at-self.false in
    let enough = c.self.invariant.enough in
    let least = few_taken r.count at (r.front.now ++ js) c.args.self.now c.self.view_is c.requires in
    let part = c.part_at.ensures from c.self.invariant.numbered (omega (arith, past)) (omega (arith, enough, least)) in
    let fits = c.self.invariant.fits in
    let same = ap length part.0 in
    let long = length-drop (r.place + at - from) js in
    let sum = length-append c.part_at.result.0.now (joined c.part_at.result.1.now) in
    record {
      numbered = part.1;
      enough = omega (arith, same, long, sum, enough, past, least);
      fits = omega (arith, fits, least);
    }

pub returns-then-at-self : goal.returns-then-at-self
returns-then-at-self c =
    let r = c.self.inside in
    let at = c.args.at in
    let js = joined r.pieces.now in
    ap (λ xs. take (r.count - at) (xs ++ js)) c.split_at.ensures.back
    ∙ ap (take (r.count - at)) (sym (drop-append-le at r.front.now js c.if-at-self.true))
    ∙ drop_viewed r.count at (r.front.now ++ js) c.args.self.now c.self.view_is c.requires

pub returns-else-at-self : goal.returns-else-at-self
returns-else-at-self c =
    let r = c.self.inside in
    let at = c.args.at in
    let js = joined r.pieces.now in
    let from = r.place + length r.front.now in
    let past = c.if-at-self.false in
    let enough = c.self.invariant.enough in
    let least = few_taken r.count at (r.front.now ++ js) c.args.self.now c.self.view_is c.requires in
    let part = c.part_at.ensures from c.self.invariant.numbered (omega (arith, past)) (omega (arith, enough, least)) in
    ap (take (r.count - at)) (sym part.0)
    ∙ ap (take (r.count - at)) (sym (drop_past r.front.now js (r.place + at - from) at (omega (arith, past))))
    ∙ drop_viewed r.count at (r.front.now ++ js) c.args.self.now c.self.view_is c.requires
