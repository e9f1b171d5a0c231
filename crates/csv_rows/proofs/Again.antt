-- What is written of rows is read as the same rows.
use Rattle.std.proofs.Common.{◌≡◌, ◌≤◌, ◌∷◌, [], List, All, map, length, refl, ap, subst, arith}
use Rattle.std.proofs.lemmas.List.Elements.{All-head, All-tail}
use Rattle.std.proofs.lemmas.List.Folds.{flat_map-map}
use Rattle.std.specs.List.{AllZip, flat_map}
use Rattle.csv.specs.Reading.{AreRecords, default_config, strip_bom}
use Rattle.csv.specs.declared.parser.State.TheVariants.{StartRecord}
use Rattle.cqa_value.specs.declared.value.Kind.{Kind}
use Rattle.cqa_value.specs.declared.value.Value.{Value}
use Rattle.cqa_value.specs.declared.value.Value.TheVariants.{Int, Text}
use Rattle.cqa_value.specs.Values.{kind_of}
use Rattle.cqa_value.specs.Valid.{IsValidRow, IsValidValue}
use Rattle.csv_rows.specs.Blocks.{HoldsRows, IsFieldOf, IsRecordOf}
use Rattle.csv_rows.specs.Texts.{record_bytes, rows_bytes, value_bytes}
use Rattle.cqa_value.proofs.Integers.{written, fits_to}
use Rattle.csv_rows.proofs.Quoting.{HaveFields, written_read}

field_again : (value : Value) → IsValidValue value → IsFieldOf (kind_of value) (value_bytes value) value
field_again (Int n) s = (refl, written n (fits_to n s))
field_again (Text b) s = (refl, refl, s)

record_again : (row : List Value) → IsValidRow row → IsRecordOf (map kind_of row) (map value_bytes row) row
record_again [] s = tt
record_again (value ∷ values) s = (field_again value (All-head IsValidValue value values s), record_again values (All-tail IsValidValue value values s))

records_again : (kinds : List Kind) (rows : List (List Value)) → All (λ row. map kind_of row ≡ kinds) rows → All IsValidRow rows → AllZip (IsRecordOf kinds) (map (map value_bytes) rows) rows
records_again kinds [] a s = tt
records_again kinds (row ∷ rows) a s = (
  subst (λ k. IsRecordOf k (map value_bytes row) row) (All-head (λ row. map kind_of row ≡ kinds) row rows a) (record_again row (All-head IsValidRow row rows s)),
  records_again kinds rows (All-tail (λ row. map kind_of row ≡ kinds) row rows a) (All-tail IsValidRow row rows s),
)

have_fields : (kinds : List Kind) (rows : List (List Value)) → 1 ≤ length kinds → All (λ row. map kind_of row ≡ kinds) rows → HaveFields (map (map value_bytes) rows)
have_fields kinds [] l a = tt
have_fields kinds ([] ∷ rows) l a = absurd (omega (arith, l, ap length (All-head (λ row. map kind_of row ≡ kinds) [] rows a)))
have_fields kinds ((value ∷ values) ∷ rows) l a = have_fields kinds rows l (All-tail (λ row. map kind_of row ≡ kinds) (value ∷ values) rows a)

pub rows_again : (kinds : List Kind) (rows : List (List Value)) → 1 ≤ length kinds → All (λ row. map kind_of row ≡ kinds) rows → All IsValidRow rows → HoldsRows kinds (rows_bytes rows) rows
rows_again kinds rows l a s =
    let records = map (map value_bytes) rows in
    let text : flat_map record_bytes records ≡ rows_bytes rows = flat_map-map record_bytes (map value_bytes) rows in
    record {
      records = records;
      are_all = subst (λ t. AreRecords default_config StartRecord (strip_bom t) records) text (written_read records (have_fields kinds rows l a));
      are_rows = records_again kinds rows a s;
    }
