use Rattle.std.proofs.Common.{◌++◌, ◌∷◌, ◌∙◌, [], List, ℕ, length, length-append, get_or, ap, sym, subst, arith}
use Rattle.join_access.specs.Listing.{names_of}
use Rattle.row_lists.specs.Frames.{AreColumnsOfFrame, AreTablePlaces}
use Rattle.row_lists.proofs.Placed.{frame_columns_more}
use Rattle.row_lists.proofs.lists_over.columns_of.Goals as goal

pub loop-table-preserved : goal.loop-table-preserved
loop-table-preserved c =
    let frame = c.args.frame.now.tables in
    let lists = names_of c.args.lists.now in
    let old = c.loop-table.columns.items in
    let i = c.loop-table.invariant in
    let places = c.in_ok-column.field-0.items in
    let pushed = c.in_ok-push.ensures.items ∙ ap (λ ps. old ++ ps ∷ []) c.from_vec.ensures in
    record {
      size = let long = ap length pushed in let more = length-append old (places ∷ []) in let size = i.size in omega (arith, long, more, size);
      columns = subst (AreColumnsOfFrame frame lists) (sym pushed) (frame_columns_more frame lists old places c.loop-table.table-index i.size i.columns
          (subst (λ (ts : List ℕ). AreTablePlaces lists (get_or ts c.loop-table.table-index 0) places) c.as_slice-tables.ensures c.in_ok-column.ensures));
    }
