-- What is written of records is read as the same records.
use Rattle.std.proofs.Common.{◌≡◌, ◌==◌, ◌++◌, ◌∷◌, ◌∙◌, [], ℕ, List, Some, None, refl, sym, ap, false, inl, inr, append_assoc}
use Rattle.std.proofs.lemmas.Bool.{cases_Bool, ne_eqb, eqb-true}
use Rattle.std.specs.List.{flat_map}
use Rattle.csv.specs.Machine.{next_record}
use Rattle.csv.specs.Reading.{AreRecords, Reached, default_config, strip_bom}
use Rattle.csv.specs.Writing as spec
use Rattle.csv.specs.declared.parser.State.TheVariants as st
use Rattle.csv.proofs.RoundTrip.{quoted-run, after-quote-same}
use Rattle.csv_rows.specs.Texts.{quotes_doubled, field_bytes, quoting, record_bytes}

-- the fields after the first, each behind a comma, and the line feed
abbrev pub tail_bytes : List (List ℕ) → List ℕ
tail_bytes [] = 10 ∷ []
tail_bytes (field ∷ fields) = 44 ∷ (field_bytes field ++ tail_bytes fields)

doubled_is : (field : List ℕ) → spec.escaped quoting field ≡ quotes_doubled field
unfolding spec.escaped
doubled_is [] = refl
doubled_is (b ∷ bs) = elim (cases_Bool (b == 34)) [
  | inl same ↦ rw (same, doubled_is bs) (ap (λ c. 34 ∷ c ∷ quotes_doubled bs) (eqb-true b 34 same))
  | inr other ↦ rw (other, doubled_is bs) refl
]

doubled_default : (field : List ℕ) → spec.escaped spec.default_writer field ≡ quotes_doubled field
unfolding spec.escaped
doubled_default [] = refl
doubled_default (b ∷ bs) = elim (cases_Bool (b == 34)) [
  | inl same ↦ rw (same, doubled_default bs) (ap (λ c. 34 ∷ c ∷ quotes_doubled bs) (eqb-true b 34 same))
  | inr other ↦ rw (other, doubled_default bs) refl
]

field_is : (field : List ℕ) → spec.field_text quoting field ≡ field_bytes field
field_is field = ap (λ t. 34 ∷ (t ++ 34 ∷ [])) (doubled_is field)

fields_are : (fields : List (List ℕ)) → spec.fields_text quoting fields ++ 10 ∷ [] ≡ tail_bytes fields
unfolding spec.fields_text
fields_are [] = refl
fields_are (f ∷ fs) = ap (λ t. 44 ∷ t) (append_assoc (spec.field_text quoting f) (spec.fields_text quoting fs) (10 ∷ []) ∙ (ap (λ t. spec.field_text quoting f ++ t) (fields_are fs) ∙ ap (λ t. t ++ tail_bytes fs) (field_is f)))

not_blank : (f : List ℕ) (fs : List (List ℕ)) → spec.is_blank quoting (f ∷ fs) ≡ false
unfolding spec.is_blank
not_blank f [] = ne_eqb _ 0 (λ e. cc e)
not_blank f (g ∷ gs) = refl

-- what stands behind a comma each, as one text
behind : (fields : List (List ℕ)) → flat_map (λ f. (44 ∷ []) ++ field_bytes f) fields ++ 10 ∷ [] ≡ tail_bytes fields
behind [] = refl
behind (f ∷ fs) = ap (λ t. 44 ∷ t) (append_assoc (field_bytes f) (flat_map (λ f. (44 ∷ []) ++ field_bytes f) fs) (10 ∷ []) ∙ ap (λ t. field_bytes f ++ t) (behind fs))

pub record_parts : (f : List ℕ) (fs : List (List ℕ)) → record_bytes (f ∷ fs) ≡ field_bytes f ++ tail_bytes fs
record_parts f fs = append_assoc (field_bytes f) (flat_map (λ f. (44 ∷ []) ++ field_bytes f) fs) (10 ∷ []) ∙ ap (λ t. field_bytes f ++ t) (behind fs)

pub record_is : (fields : List (List ℕ)) → spec.row_text quoting fields ≡ record_bytes fields
unfolding spec.is_blank
record_is [] = refl
record_is (f ∷ fs) = rw (not_blank f fs) (append_assoc (spec.field_text quoting f) (spec.fields_text quoting fs) (10 ∷ []) ∙ (ap (λ t. spec.field_text quoting f ++ t) (fields_are fs) ∙ ap (λ t. t ++ tail_bytes fs) (field_is f)) ∙ sym (record_parts f fs))

-- a field, up to a byte that is no quote
field_read : (fields : List (List ℕ)) (f : List ℕ) (c : ℕ) (tail : List ℕ) → (c == 34) ≡ false
    → next_record default_config st.StartField fields [] (field_bytes f ++ c ∷ tail) ≡ next_record default_config st.InField fields f (c ∷ tail)
unfolding next_record
field_read fields f c tail n =
    rw (append_assoc (quotes_doubled f) (34 ∷ []) (c ∷ tail), ← doubled_default f) (quoted-run fields [] f (c ∷ tail) ∙ after-quote-same fields f c tail n)

field_read_on : (fields : List (List ℕ)) (f : List ℕ) (fs : List (List ℕ)) (tail : List ℕ)
    → next_record default_config st.StartField fields [] (field_bytes f ++ (tail_bytes fs ++ tail)) ≡ next_record default_config st.InField fields f (tail_bytes fs ++ tail)
field_read_on fields f [] tail = field_read fields f 10 tail refl
field_read_on fields f (g ∷ gs) tail = field_read fields f 44 ((field_bytes g ++ tail_bytes gs) ++ tail) refl

rest_read : (fields : List (List ℕ)) (f : List ℕ) (fs : List (List ℕ)) (tail : List ℕ)
    → next_record default_config st.InField fields f (tail_bytes fs ++ tail) ≡ Some (fields ++ f ∷ fs, st.StartRecord, tail)
unfolding next_record
rest_read fields f [] tail = refl
rest_read fields f (g ∷ gs) tail =
    ap (λ t. next_record default_config st.StartField (fields ++ f ∷ []) [] t) (append_assoc (field_bytes g) (tail_bytes gs) tail)
    ∙ (field_read_on (fields ++ f ∷ []) g gs tail ∙ (rest_read (fields ++ f ∷ []) g gs tail ∙ ap (λ r. Some (r, st.StartRecord, tail)) (append_assoc fields (f ∷ []) (g ∷ gs))))

starts : (tail : List ℕ) → next_record default_config st.StartRecord [] [] (34 ∷ tail) ≡ next_record default_config st.StartField [] [] (34 ∷ tail)
unfolding next_record
starts tail = refl

record_read : (f : List ℕ) (fs : List (List ℕ)) (tail : List ℕ)
    → next_record default_config st.StartRecord [] [] (record_bytes (f ∷ fs) ++ tail) ≡ Some (f ∷ fs, st.StartRecord, tail)
record_read f fs tail =
    ap (λ t. next_record default_config st.StartRecord [] [] (t ++ tail)) (record_parts f fs)
    ∙ (ap (λ t. next_record default_config st.StartRecord [] [] t) (append_assoc (field_bytes f) (tail_bytes fs) tail)
    ∙ (starts _ ∙ (field_read_on [] f fs tail ∙ rest_read [] f fs tail)))

-- each record has a field
abbrev pub HaveFields : List (List (List ℕ)) → Type 0
HaveFields [] = Unit {0}
HaveFields ([] ∷ records) = ⊥
HaveFields ((field ∷ fields) ∷ records) = HaveFields records

no_more : next_record default_config st.StartRecord [] [] [] ≡ None
unfolding next_record
no_more = refl

reached : (records : List (List (List ℕ))) → HaveFields records → Reached default_config st.StartRecord (flat_map record_bytes records) records st.StartRecord []
unfolding Reached
reached [] h = (refl, refl)
reached ([] ∷ records) h = absurd h
reached ((f ∷ fs) ∷ records) h = ((f ∷ fs, st.StartRecord, flat_map record_bytes records), record_read f fs (flat_map record_bytes records), refl, reached records h)

quote_first : (t : List ℕ) → strip_bom (34 ∷ t) ≡ 34 ∷ t
unfolding strip_bom
quote_first [] = refl
quote_first (b ∷ []) = refl
quote_first (b ∷ c ∷ rest) = refl

no_bom : (records : List (List (List ℕ))) → strip_bom (flat_map record_bytes records) ≡ flat_map record_bytes records
unfolding strip_bom
no_bom [] = refl
no_bom ([] ∷ records) = quote_first _
no_bom ((f ∷ fs) ∷ records) = quote_first _

-- all records of what is written of records are these
pub written_read : (records : List (List (List ℕ))) → HaveFields records → AreRecords default_config st.StartRecord (strip_bom (flat_map record_bytes records)) records
written_read records h = rw (no_bom records) (st.StartRecord, [], reached records h, no_more)
