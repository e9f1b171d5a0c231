use Rattle.std.proofs.Common.{◌∙◌}
use Rattle.row_pieces.specs.Joined.{joined}
use Rattle.row_pieces.proofs.Putting.{back_one}
use Rattle.row_pieces.proofs.put.take_back.Goals as goal

pub loop-place-preserved : goal.loop-place-preserved
loop-place-preserved c rows items e same rising =
    let one = back_one items rows c.args.places.now c.loop-place.place-index same rising c.loop-place-test.true (joined c.loop-place.pieces) (c.loop-place.invariant rows items e same rising) in
    c.take_out.ensures one.0 ∙ one.1
