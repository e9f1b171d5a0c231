-- What a choice without a witness says of a row.
use Rattle.std.proofs.Common.{◌≡◌, ℕ, ◌<◌, Bool, List, [], length, subst, Contains}
use Rattle.cqa_value.specs.declared.value.Value.{Value}
use Rattle.cqa_model.specs.declared.query.Query.{Query}
use Rattle.cqa_model.specs.Database.{Table, stored}
use Rattle.cqa_model.specs.Query.{atom_at, rows_of, row_at, IsWitness, FitsDatabase}
use Rattle.cqa_model.specs.Certain.{IsCertain}
use Rattle.cqa_model.proofs.Classic.{mem-nil}
use Rattle.repair_back.specs.Flags.{kept_tables, tables_in, AreRepairFlags, AreTableFlags}
use Rattle.repair_back.specs.Results.{names_kept, Rejects}
use Rattle.repair_back.proofs.Keeping.{ShownOver, shown-over}
use Rattle.repair_back.proofs.Naming.{kept-named, kept-of}
use Rattle.repair_back.proofs.Starting.{table-in, query-tables, table-flags}
use Rattle.plan_repair.specs.Mending.{HasNone}

module _ (q : Query) (db : List Table) (fits : FitsDatabase q db) (flags : List (List Bool)) (chosen : AreRepairFlags q db flags) where
  chosen_tables : AreTableFlags db (tables_in q) flags
  chosen_tables = table-flags q db fits flags chosen

  showing : ShownOver db (tables_in q) (query-tables q db fits) flags chosen_tables
  showing = shown-over db (tables_in q) (query-tables q db fits) flags chosen_tables

  same-atom : (F : ℕ) → F < length q.atoms → rows_of q showing.0 F ≡ rows_of q (kept_tables (stored db) flags) F
  same-atom F l = showing.2 (atom_at q F).table (table-in q db fits F l)

  module _ (row : List Value) (none : HasNone db q row [] flags) where
    kept-none : (r : List (List (List Value))) → ((F : ℕ) → F < length q.atoms → rows_of q r F ≡ rows_of q (kept_tables (stored db) flags) F) → (w : List (List Value)) → IsWitness q r row w → ⊥
    kept-none r same w h = none w (record {
      size = h.size;
      keeps = λ F l. subst (λ rows. Contains rows (row_at w F)) (same F l) (h.kept F l);
      holds = h.holds;
      answers = h.answers;
      extends = λ t m. absurd (mem-nil t m);
    })

    pub named-rejects : Rejects q db row (names_kept (tables_in q) flags)
    named-rejects =
        (showing.0, showing.1, kept-of q db fits (names_kept (tables_in q) flags) showing.0 (kept-named db (tables_in q) flags chosen_tables showing.0 showing.2), kept-none showing.0 same-atom)

    pub not-certain : IsCertain db q row → ⊥
    not-certain certain = let w = certain showing.0 showing.1 in kept-none showing.0 same-atom w.0 w.1
