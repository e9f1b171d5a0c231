-- The rows that are in lists are stored, and the tables of a frame are those of its slots.
use Rattle.std.proofs.Common.{ℕ, ◌<◌, ◌≤◌, List, length, arith}
use Rattle.cqa_model.specs.declared.limits.TheConstants.{MOST_ROWS}
use Rattle.cqa_model.specs.declared.query.RowId.{RowId}
use Rattle.cqa_model.specs.Database.{Table, IsDatabase}
use Rattle.join_access.specs.Listing.{names_of}
use Rattle.row_lists.proofs.Framing.{few_below}
use Rattle.row_lists.specs.declared.lists_over.RowLists.{RowLists}
use Rattle.row_lists.specs.Lists.{name, IsIn, AreStoredLists}
use Rattle.row_lists.specs.Formulas.{IsFrame, AreWithin}
use Rattle.row_lists.specs.Frames.{AreTablePlaces}
use Rattle.row_lists.proofs.Framing.{is_frame, within_frame}
use Rattle.row_lists.proofs.Reading.{rows-few}

-- a row of a list has a place below the most rows
pub listed_few : (db : List Table) (lists : List (List RowId)) → IsDatabase db → AreStoredLists db lists → (t p : ℕ) → IsIn lists (name t p) → p < MOST_ROWS
listed_few db lists d st t p i =
    let l = (st (name t p) i).1 in
    let r = rows-few db t in
    let f = d.few_rows in
    omega (arith, l, r, f)

-- so a column is no longer
pub column_few : (db : List Table) (lists : List (List RowId)) → IsDatabase db → AreStoredLists db lists → (t : ℕ) (ps : List ℕ) → AreTablePlaces lists t ps → length ps ≤ MOST_ROWS
column_few db lists d st t ps c = few_below ps MOST_ROWS c.in_order (λ p m. listed_few db lists d st t p ((c.exactly p).0 m))

module _ (l : RowLists) where
  -- the frame is one of the database, and has the tables of the lists
  pub frame_is : IsFrame l.db.now l.frame.now.tables
  frame_is = is_frame l.db.now l.frame.now.tables l.frame.now.slots l.frame.now.kept l.wide

  pub within : AreWithin l.frame.now.tables (names_of l.lists.now)
  within = within_frame l.frame.now.tables l.frame.now.slots (names_of l.lists.now) l.within
