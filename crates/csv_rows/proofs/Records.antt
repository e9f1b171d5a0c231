-- A record and the row of its fields' values.
use Rattle.std.proofs.Common.{◌≡◌, ◌++◌, ◌∷◌, ◌<◌, [], ℕ, zero, suc, List, Some, None, refl, sym, ap, subst, length, take, slice_index_or, arith}
use Rattle.std.proofs.lemmas.Option.{same_Some}
use Rattle.csv.specs.Records.{field_at}
use Rattle.cqa_value.specs.declared.value.Value.{Value}
use Rattle.cqa_model.specs.declared.schema.Column.{Column}
use Rattle.csv_rows.specs.Blocks.{IsFieldOf, IsRecordOf, kinds}

-- a record has a field for each column
pub field_count : (columns : List Column) (fields : List (List ℕ)) (row : List Value) → IsRecordOf (kinds columns) fields row → length fields ≡ length columns
field_count [] [] [] h = refl
field_count [] [] (v ∷ vs) h = absurd h
field_count [] (f ∷ fs) row h = absurd h
field_count (c ∷ cs) [] row h = absurd h
field_count (c ∷ cs) (f ∷ fs) [] h = absurd h
field_count (c ∷ cs) (f ∷ fs) (v ∷ vs) h = ap suc (field_count cs fs vs h.1)

-- each field of a record gives its column a value
pub field_value : (columns : List Column) (fields : List (List ℕ)) (row : List Value) (i : ℕ) (column d : Column) (field : List ℕ) → IsRecordOf (kinds columns) fields row
    → i < length columns → slice_index_or columns i d ≡ column → field_at fields i ≡ Some field → (value : Value) × IsFieldOf column.kind field value
unfolding field_at
field_value [] fields row i column d field h l e f = absurd (omega (arith, l))
field_value (c ∷ cs) [] row i column d field h l e f = absurd h
field_value (c ∷ cs) (f ∷ fs) [] i column d field h l e g = absurd h
field_value (c ∷ cs) (f ∷ fs) (v ∷ vs) zero column d field h l e g = (v, subst (λ x. IsFieldOf x.kind field v) e (subst (λ x. IsFieldOf c.kind x v) (same_Some f field g) h.0))
field_value (c ∷ cs) (f ∷ fs) (v ∷ vs) (suc i) column d field h l e g = field_value cs fs vs i column d field h.1 (omega (arith, l)) e g

-- a field is there at each place before the end
pub field_there : (fields : List (List ℕ)) (i : ℕ) → i < length fields → field_at fields i ≡ None → ⊥
unfolding field_at
field_there [] i l e = omega (arith, l)
field_there (f ∷ fs) zero l e = cc e
field_there (f ∷ fs) (suc i) l e = field_there fs i (omega (arith, l)) e

none_yet : (values : List Value) → IsRecordOf [] [] values → values ≡ []
none_yet [] h = refl
none_yet (v ∷ vs) h = absurd h

-- one more value of a record
pub record_more : (columns : List Column) (fields : List (List ℕ)) (values : List Value) (i : ℕ) (column d : Column) (field : List ℕ) (value : Value)
    → i < length columns → slice_index_or columns i d ≡ column → field_at fields i ≡ Some field → IsFieldOf column.kind field value
    → IsRecordOf (take i (kinds columns)) (take i fields) values → IsRecordOf (take (suc i) (kinds columns)) (take (suc i) fields) (values ++ value ∷ [])
unfolding field_at
record_more [] fields values i column d field value l e g is h = absurd (omega (arith, l))
record_more (c ∷ cs) [] values zero column d field value l e g is h = absurd (cc g)
record_more (c ∷ cs) [] values (suc i) column d field value l e g is h = absurd h
record_more (c ∷ cs) (f ∷ fs) values zero column d field value l e g is h =
    rw (none_yet values h) (subst (λ x. IsFieldOf x.kind f value) (sym e) (subst (λ x. IsFieldOf column.kind x value) (sym (same_Some f field g)) is), tt)
record_more (c ∷ cs) (f ∷ fs) [] (suc i) column d field value l e g is h = absurd h
record_more (c ∷ cs) (f ∷ fs) (v ∷ vs) (suc i) column d field value l e g is h = (h.0, record_more cs fs vs i column d field value (omega (arith, l)) e g is h.1)
