-- What is said of lists over a frame is said of the row.
use Rattle.std.proofs.Common.{◌≡◌, List, ℕ, sym, subst}
use Rattle.cqa_model.specs.declared.query.RowId.{RowId}
use Rattle.cqa_model.specs.Database.{Table}
use Rattle.join_access.specs.declared.witness.Witness.{Witness}
use Rattle.join_access.specs.Listing.{names_of}
use Rattle.row_lists.specs.declared.frame.Frame.{Frame}

-- the same of lists that are of a database, a frame and witnesses
pub of-lists : (P : List Table → List ℕ → List (List RowId) → Type 0) (db own : List Table) (frame mine : Frame) (lists these : List Witness) → own ≡ db → mine ≡ frame → these ≡ lists →
    P own mine.tables (names_of these) → P db frame.tables (names_of lists)
of-lists P db own frame mine lists these e f g h =
    subst (λ (ws : List Witness). P db frame.tables (names_of ws)) g (subst (λ (x : Frame). P db x.tables (names_of these)) f (subst (λ (t : List Table). P t mine.tables (names_of these)) e h))

-- and back
pub to-lists : (P : List Table → List ℕ → List (List RowId) → Type 0) (db own : List Table) (frame mine : Frame) (lists these : List Witness) → own ≡ db → mine ≡ frame → these ≡ lists →
    P db frame.tables (names_of lists) → P own mine.tables (names_of these)
to-lists P db own frame mine lists these e f g h = of-lists P own db mine frame these lists (sym e) (sym f) (sym g) h
