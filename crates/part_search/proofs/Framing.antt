-- The lists of a row's witnesses are within a frame for the parts, and of stored rows.
use Rattle.std.proofs.Common.{ℕ, ◌<◌, List, length, sym, subst}
use Rattle.cqa_value.specs.declared.value.Value.{Value}
use Rattle.cqa_value.proofs.Words.{member_place}
use Rattle.cqa_model.specs.declared.query.Query.{Query}
use Rattle.cqa_model.specs.declared.query.RowId.{RowId}
use Rattle.cqa_model.specs.Database.{Table}
use Rattle.row_lists.specs.Lists.{AreStoredLists, IsIn}
use Rattle.row_lists.specs.Formulas.{AreWithin}
use Rattle.table_blocks.specs.Tables.{rows_at}
use Rattle.part_search.specs.Parts.{AreNamesIn, IsFrameFor, IsTableIn}
use Rattle.row_lists.proofs.Naming.{named-place}
use Rattle.part_search.proofs.Forced.{names_of_parts}

module _ (db : List Table) (parts : List Query) (tables : List ℕ) (f : IsFrameFor db parts tables) (row : List Value) (all : List (List RowId)) (h : AreNamesIn parts db row all) where
  place : (id : RowId) → IsIn all id → IsTableIn parts id.table × (id.place < length (rows_at db id.table))
  place id (names, m, i) =
      let s = (names_of_parts db parts row all h names).0 m in
      let p = named-place db s.0.atoms names s.2.0 s.2.2 id i in
      ((s.0, s.1, (p.0, p.1, sym p.2)), p.3)

  pub lists-within : AreWithin tables all
  lists-within id i = let p = member_place tables id.table 0 (f.all id.table (place id i).0) in (p.0, p.1, p.2)

  pub lists-stored : AreStoredLists db all
  lists-stored id i = let p = lists-within id i in (subst (λ t. t < length db) p.2 (f.is.there p.0 p.1), (place id i).1)
