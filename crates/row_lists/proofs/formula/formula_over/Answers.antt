use Rattle.std.proofs.Common.{refl}
use Rattle.join_access.specs.Listing.{names_of}
use Rattle.row_lists.specs.declared.formula.Encoded.{Encoded}
use Rattle.row_lists.proofs.Framing.{is_frame}
use Rattle.row_lists.proofs.Encoding.{list_encoded}
use Rattle.row_lists.proofs.formula.formula_over.Goals as goal

pub returns : goal.returns
returns c =
    let l = c.args.lists.now in
    let frame = l.frame.now in
    let blocks = c.args.blocks.now in
    let e : Encoded = record { cnf = record { vars = blocks.vars; clauses = c.in_ok-clauses.clauses }; rows = c.in_ok-rows.rows } in
    list_encoded l.db.now frame.tables (names_of l.lists.now) (is_frame l.db.now frame.tables frame.slots frame.kept l.wide) blocks.vars blocks.spans c.requires e refl c.in_ok-rows.ensures c.in_ok-clauses.ensures
