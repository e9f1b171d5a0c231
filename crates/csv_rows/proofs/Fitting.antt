-- The row of a record fits the columns: its values are of their kinds, and valid; and rows of the kinds of a table's columns fit them.
use Rattle.std.proofs.Common.{◌≡◌, ◌+◌, ◌∷◌, ℕ, zero, suc, ℤ, Bool, true, false, ◌&&◌, List, [], length, map, Contains, Some, None, refl, sym, subst, arith}
use Rattle.std.specs.Prelude.{if◌then◌else◌, FitsSigned}
use mir.Syntax.{w64}
use Rattle.std.proofs.lemmas.List.{length-map}
use Rattle.std.proofs.lemmas.Bool.{and_parts, eq-eqb}
use Rattle.std.proofs.lemmas.Option.{none-some, same_Some}
use Rattle.cqa_value.specs.declared.value.Kind.{Kind}
use Rattle.cqa_value.specs.declared.value.Kind.TheVariants as column_kinds
use Rattle.cqa_value.specs.declared.value.Value.{Value}
use Rattle.cqa_value.specs.declared.value.Value.TheVariants.{Int, Text}
use Rattle.cqa_value.specs.Literals.{are_digits, without_minus, integer_of, is_in_range, int_of}
use Rattle.cqa_value.specs.Valid.{IsValidText, IsValidValue, IsValidRow}
use Rattle.cqa_value.specs.Values.{kind_of}
use Rattle.cqa_value.proofs.Integers.{fits_from}
use Rattle.cqa_value.proofs.Words.{all_zip_right, mem-head, mem-tail}
use Rattle.refusals.specs.Kinds.{same_kind, kind_fault, row_fault, rows_fault}
use Rattle.csv_rows.specs.Blocks.{IsFieldOf, IsRecordOf, HoldsRows}

valid_int : (text : List ℕ) (n : ℤ) → int_of text ≡ Some n → FitsSigned w64 n
valid_int text n e = go (are_digits (without_minus text) && is_in_range (integer_of text)) refl e
  where
    go : (b : Bool) → (are_digits (without_minus text) && is_in_range (integer_of text)) ≡ b → (if b then Some (integer_of text) else None) ≡ Some n → FitsSigned w64 n
    go true p q = fits_from n (subst (λ z. is_in_range z ≡ true) (same_Some (integer_of text) n q) (and_parts (are_digits (without_minus text)) (is_in_range (integer_of text)) p).1)
    go false p q = absurd (none-some n q)

field_valid : (kind : Kind) (field : List ℕ) (value : Value) → IsFieldOf kind field value → IsValidValue value
field_valid kind field (Int n) h = valid_int field n h.1
field_valid kind field (Text bytes) h = subst IsValidText (sym h.1) h.2

pub record_valid : (kinds : List Kind) (fields : List (List ℕ)) (row : List Value) → IsRecordOf kinds fields row → IsValidRow row
record_valid [] [] [] h i d inside = absurd (omega (arith, inside))
record_valid [] [] (value ∷ values) h i d inside = absurd h
record_valid [] (field ∷ fields) row h i d inside = absurd h
record_valid (kind ∷ kinds) [] row h i d inside = absurd h
record_valid (kind ∷ kinds) (field ∷ fields) [] h i d inside = absurd h
record_valid (kind ∷ kinds) (field ∷ fields) (value ∷ values) h zero d inside = field_valid kind field value h.0
record_valid (kind ∷ kinds) (field ∷ fields) (value ∷ values) h (suc i) d inside = record_valid kinds fields values h.1 i d (omega (arith, inside))

field_kind : (kind : Kind) (field : List ℕ) (value : Value) → IsFieldOf kind field value → kind_of value ≡ kind
field_kind kind field (Int n) h = sym h.0
field_kind kind field (Text bytes) h = sym h.0

record_fits : (kinds : List Kind) (fields : List (List ℕ)) (row : List Value) → IsRecordOf kinds fields row → map kind_of row ≡ kinds
record_fits [] [] [] h = refl
record_fits [] [] (value ∷ values) h = absurd h
record_fits [] (field ∷ fields) row h = absurd h
record_fits (kind ∷ kinds) [] row h = absurd h
record_fits (kind ∷ kinds) (field ∷ fields) [] h = absurd h
record_fits (kind ∷ kinds) (field ∷ fields) (value ∷ values) h = (λ i. field_kind kind field value h.0 i ∷ record_fits kinds fields values h.1 i)

module _ (kinds : List Kind) (block : List ℕ) (rows : List (List Value)) (held : HoldsRows kinds block rows) (row : List Value) (there : Contains rows row) where
  -- each row that a block holds is that of a record
  from : (fields : List (List ℕ)) × Contains held.records fields × IsRecordOf kinds fields row
  from = all_zip_right (IsRecordOf kinds) held.records rows row held.are_rows there

  pub held_fits : map kind_of row ≡ kinds
  held_fits = record_fits kinds from.0 row from.2

  pub held_valid : IsValidRow row
  held_valid = record_valid kinds from.0 row from.2

-- ---- rows of the kinds of columns

pub same_self : (k : Kind) → same_kind k k ≡ true
same_self column_kinds.Int = refl
same_self column_kinds.Text = refl

kinds_fit : (number column : ℕ) (row : List Value) → kind_fault number column (map kind_of row) row ≡ None
kinds_fit number column [] = refl
kinds_fit number column (v ∷ row) = rw (same_self (kind_of v)) (kinds_fit number (column + 1) row)

pub row_fits : (kinds : List Kind) (number : ℕ) (row : List Value) → map kind_of row ≡ kinds → row_fault kinds number row ≡ None
row_fits kinds number row e =
    subst (λ ks. row_fault ks number row ≡ None) e (rw (eq-eqb (length row) (length (map kind_of row)) (sym (length-map row kind_of))) (kinds_fit number 1 row))

pub rows_fit : (kinds : List Kind) (number : ℕ) (rows : List (List Value)) → ((row : List Value) → Contains rows row → map kind_of row ≡ kinds) → rows_fault kinds number rows ≡ None
rows_fit kinds number [] h = refl
rows_fit kinds number (row ∷ rows) h =
    rw (row_fits kinds number row (h row (mem-head row rows))) (rows_fit kinds (number + 1) rows (λ x m. h x (mem-tail x row rows m)))
