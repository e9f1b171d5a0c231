use Rattle.std.proofs.Common.{ap, ◌∙◌, rules}
use Rattle.std.proofs.lemmas.Fn.{filter_same}
use Rattle.row_pieces.specs.Joined.{joined}
use Rattle.row_pieces.proofs.Joining.{has_rows, joined_kept}
use Rattle.row_pieces.proofs.take.drop_empty.Goals as goal

pub returns : goal.returns
returns c =
    ap joined (filter_same _ has_rows _ (λ x b f' k. search rules) c.args.pieces.now.items c.retain.new.self.items c.retain.ensures.filtered)
    ∙ joined_kept c.args.pieces.now.items
