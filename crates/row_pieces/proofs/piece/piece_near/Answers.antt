use Rattle.std.proofs.Common.{subst, sym, leb, rules}
use Rattle.std.proofs.lemmas.List.Sorted.{IsPartitionPoint-from_clause}
use Rattle.row_pieces.specs.Joined.{IsPieceOf}
use Rattle.row_pieces.proofs.Joining.{parted, found}
use Rattle.row_pieces.proofs.piece.piece_near.Goals as goal

pub returns : goal.returns
returns c from n low high some =
    let ps = c.args.pieces.now in
    let place = c.args.place in
    let point = IsPartitionPoint-from_clause (λ piece. leb piece.start place) ps c.partition_point.result c.partition_point.ensures.partitioned (parted from ps n place) (λ a r f' k. search rules) in
    subst (λ i. IsPieceOf from ps place i) (sym c.saturating_sub.ensures) (found from ps n place c.partition_point.result c.partition_point.ensures.bound low high some point)
