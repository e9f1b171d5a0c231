use Rattle.std.proofs.Common.{◌≡◌, ◌<◌, ◌∙◌, ℕ, List, [], ap, length, get_or, sym, subst, arith}
use Rattle.std.proofs.lemmas.List.{get_or_default}
use Rattle.join_access.specs.Listing.{names_of}
use Rattle.row_witnesses.specs.Columns.{AreColumn}
use Rattle.row_witnesses.proofs.Told.{untold_column}
use Rattle.row_witnesses.proofs.found.RowWitnesses.column.Goals as goal

pub returns-clause-column : goal.returns-clause-column
returns-clause-column c =
    let w = c.args.self.now in
    let at = c.args.atom in
    let columns = c.as_slice.result.now in
    let wide = w.wide in
    let below = c.requires in
    let there : at < length w.columns = omega (arith, wide, below) in
    let read : at < length columns = subst (λ (cs : List (List ℕ)). at < length cs) (sym c.as_slice.ensures) there in
    let same : c.as_slice-2.result.now ≡ get_or w.columns at [] =
    c.as_slice-2.ensures ∙ (c.index-as_slice-atom.is ∙ (get_or_default columns at c.index-as_slice-atom.result [] read ∙ ap (λ (cs : List (List ℕ)). get_or cs at []) c.as_slice.ensures)) in
    subst (AreColumn (names_of w.list) at) (sym same) (untold_column (names_of w.list) w.columns w.sorted at there)
