-- What a query needs of a list of tables, by their keys and rows.
use Rattle.std.proofs.Common.{◌≡◌, false, ℕ, ◌<◌, List, [], length, get_or, sym, ◌∙◌, subst}
use Rattle.std.proofs.lemmas.List.{length-map}
use Rattle.cqa_value.specs.declared.value.Value.{Value}
use Rattle.cqa_model.specs.declared.query.Query.{Query}
use Rattle.cqa_model.specs.Database.{Table, AreConsistent, IsDatabase, stored, keys_of, marks_of}
use Rattle.cqa_model.specs.Repairs.{IsRepairBy}
use Rattle.cqa_model.specs.Query.{atom_at, atom_key, rows_of, IsStrict, IsWitness, FitsDatabase}
use Rattle.cqa_model.proofs.Places.{consistent-at}

-- the atoms are tables of these, with their keys, and no two rows of a strict one share its key
pub record FitsTables (q : Query) (keys : List (List ℕ)) (tables : List (List (List Value))) : Type 0 where
  pub in_tables : (F : ℕ) → F < length q.atoms → (atom_at q F).table < length tables
  pub keyed : (F : ℕ) → F < length q.atoms → atom_key q F ≡ get_or keys (atom_at q F).table []
  pub strict : (F : ℕ) → F < length q.atoms → IsStrict q F → AreConsistent (atom_key q F) (rows_of q tables F)

-- every repair of tables with these keys holds some witness
abbrev pub IsCertainBy : List (List ℕ) → Query → List (List (List Value)) → List Value → Type 0
IsCertainBy keys q tables row = (kept : List (List (List Value))) → IsRepairBy keys tables kept → (w : List (List Value)) × IsWitness q kept row w

pub fits_tables : (q : Query) (db : List Table) → FitsDatabase q db → FitsTables q (keys_of db) (stored db)
fits_tables q db fits = record {
  in_tables = λ F l. subst (λ n. (atom_at q F).table < n) (sym (length-map db (λ (table : Table). table.rows))) (fits.there F l);
  keyed = fits.keyed;
  strict = fits.strict;
}

-- in a database the rows of a strict atom are consistent, since its key and its mark are those of its table
pub strict-consistent : (db : List Table) → IsDatabase db → (q : Query) (F : ℕ) → (atom_at q F).table < length db → atom_key q F ≡ get_or (keys_of db) (atom_at q F).table [] →
    (atom_at q F).strict ≡ get_or (marks_of db) (atom_at q F).table false → IsStrict q F → AreConsistent (atom_key q F) (rows_of q (stored db) F)
strict-consistent db valid q F there keyed marked strict =
    subst (λ key. AreConsistent key (rows_of q (stored db) F)) (sym keyed) (consistent-at db valid (atom_at q F).table there (sym marked ∙ strict))
