use Rattle.std.proofs.Common.{◌≡◌, ◌<◌, ◌∙◌, ℕ, List, [], ap, length, get_or, sym, subst, arith}
use Rattle.std.proofs.lemmas.List.{get_or_default}
use Rattle.join_access.specs.Listing.{names_of}
use Rattle.row_lists.specs.Formulas.{table_at}
use Rattle.row_lists.specs.Frames.{AreTablePlaces}
use Rattle.row_lists.proofs.Placed.{untold_column}
use Rattle.row_lists.proofs.lists_over.RowLists.column.Goals as goal

pub returns-clause-column : goal.returns-clause-column
returns-clause-column c =
    let l = c.args.self.now in
    let slot = c.args.slot in
    let columns = c.as_slice.result.now in
    let full = l.full in
    let below = c.requires in
    let there : slot < length l.columns = omega (arith, full, below) in
    let read : slot < length columns = subst (λ (cs : List (List ℕ)). slot < length cs) (sym c.as_slice.ensures) there in
    let same : c.as_slice-2.result.now ≡ get_or l.columns slot [] =
    c.as_slice-2.ensures ∙ (c.index-as_slice-slot.is ∙ (get_or_default columns slot c.index-as_slice-slot.result [] read ∙ ap (λ (cs : List (List ℕ)). get_or cs slot []) c.as_slice.ensures)) in
    subst (AreTablePlaces (names_of l.lists.now) (table_at l.frame.now.tables slot)) (sym same) (untold_column l.frame.now.tables (names_of l.lists.now) l.columns l.sorted slot there)
