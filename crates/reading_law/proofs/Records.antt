-- The records of a block of CSV: all of them are rows, or there is a first that isn't.
use Rattle.std.proofs.Common.{◌≡◌, ◌∙◌, ◌<◌, ◌+◌, ◌⊎◌, ◌∷◌, ◌++◌, ℕ, zero, suc, inl, inr, Bool, true, false, true≢false, List, [], length, Option, Some, None, refl, sym, ap, subst, arith, append_assoc, IsUtf8}
use Rattle.std.specs.Prelude.{if◌then◌else◌, ℤ}
use Rattle.std.specs.List.{AllZip}
use Rattle.std.specs.Str.{is_utf8}
use Rattle.std.proofs.lemmas.Bool.{cases_Bool}
use Rattle.std.proofs.lemmas.Option.{none-some, same_Some}
use Rattle.std.proofs.lemmas.Str.{IsUtf8-from_is_utf8, is_utf8-from_IsUtf8}
use native.Mathlib.Decide.{dec_lt}
use Rattle.csv.specs.Machine.{Read, next_record, step, is_end, fields_after, field_after, ends_at_end}
use Rattle.csv.specs.Reading.{AreRecords, Reached, default_config, strip_bom}
use Rattle.csv.specs.declared.parser.State.{State}
use Rattle.csv.specs.declared.parser.State.TheVariants.{StartRecord}
use Rattle.cqa_value.specs.declared.name.TheConstants.{LONGEST_TEXT_VALUE}
use Rattle.cqa_value.specs.declared.value.Kind.{Kind}
use Rattle.cqa_value.specs.declared.value.Kind.TheVariants.{Int as IntKind, Text as TextKind}
use Rattle.cqa_value.specs.declared.value.Value.{Value}
use Rattle.cqa_value.specs.declared.value.Value.TheVariants.{Int, Text}
use Rattle.cqa_value.specs.Literals.{int_of}
use Rattle.cqa_value.specs.Valid.{IsValidRow, IsValidText}
use Rattle.cqa_value.proofs.Words.{mem-nil, mem-cases, dec_both}
use Rattle.cqa_model.proofs.Values.{dec_by}
use Rattle.csv_rows.specs.Blocks.{IsFieldOf, IsRecordOf}
use Rattle.csv_rows.proofs.Fitting.{record_valid}
use Rattle.table_blocks.specs.Tables.{AreValidRows}
use Rattle.reading_law.specs.CsvBlocks.{BlocksAreRead}

-- ---- the value of a field, and the row of a record

dec_text : (bytes : List ℕ) → Dec (IsValidText bytes)
dec_text bytes = dec_by (λ h. record { utf8 = h.0; short = (let l = h.1 in omega (arith, l)) }) (λ v. (v.utf8, (let l = v.short in omega (arith, l)))) (dec_both (utf8 (cases_Bool (is_utf8 bytes))) (dec_lt (length bytes) (LONGEST_TEXT_VALUE + 1)))
  where
    utf8 : (is_utf8 bytes ≡ true) ⊎ (is_utf8 bytes ≡ false) → Dec (IsUtf8 bytes)
    utf8 (inl e) = yes (IsUtf8-from_is_utf8 bytes e)
    utf8 (inr e) = no (λ u. true≢false (sym (is_utf8-from_IsUtf8 bytes u) ∙ e))

dec_field : (kind : Kind) (field : List ℕ) → Dec ((value : Value) × IsFieldOf kind field value)
dec_field IntKind field = go (int_of field) refl
  where
    none : int_of field ≡ None → (value : Value) → IsFieldOf IntKind field value → ⊥
    none e (Int n) h = none-some n (sym e ∙ h.1)
    none e (Text bytes) h = cc h.0

    go : (o : Option ℤ) → int_of field ≡ o → Dec ((value : Value) × IsFieldOf IntKind field value)
    go None e = no (λ h. none e h.0 h.1)
    go (Some n) e = yes (Int n, (refl, e))
dec_field TextKind field = go (dec_text field)
  where
    none : (IsValidText field → ⊥) → (value : Value) → IsFieldOf TextKind field value → ⊥
    none f (Int n) h = cc h.0
    none f (Text bytes) h = f h.2

    go : Dec (IsValidText field) → Dec ((value : Value) × IsFieldOf TextKind field value)
    go (yes v) = yes (Text field, (refl, refl, v))
    go (no f) = no (λ h. none f h.0 h.1)

dec_record : (kinds : List Kind) (fields : List (List ℕ)) → Dec ((row : List Value) × IsRecordOf kinds fields row)
dec_record [] [] = yes ([], tt)
dec_record [] (field ∷ fields) = no (λ h. h.1)
dec_record (kind ∷ kinds) [] = no (λ h. h.1)
dec_record (kind ∷ kinds) (field ∷ fields) = go (dec_field kind field) (dec_record kinds fields)
  where
    no_head : (((value : Value) × IsFieldOf kind field value) → ⊥) → (row : List Value) → IsRecordOf (kind ∷ kinds) (field ∷ fields) row → ⊥
    no_head f [] h = h
    no_head f (value ∷ values) h = f (value, h.0)

    no_tail : (((row : List Value) × IsRecordOf kinds fields row) → ⊥) → (row : List Value) → IsRecordOf (kind ∷ kinds) (field ∷ fields) row → ⊥
    no_tail f [] h = h
    no_tail f (value ∷ values) h = f (values, h.1)

    go : Dec ((value : Value) × IsFieldOf kind field value) → Dec ((row : List Value) × IsRecordOf kinds fields row) → Dec ((row : List Value) × IsRecordOf (kind ∷ kinds) (field ∷ fields) row)
    go (yes v) (yes r) = yes (v.0 ∷ r.0, (v.1, r.1))
    go (no f) r = no (λ h. no_head f h.0 h.1)
    go (yes v) (no f) = no (λ h. no_tail f h.0 h.1)

-- ---- all records of a text

-- what is left behind a record is shorter, or the text has ended
left_after : (s : State) (fields : List (List ℕ)) (field xs : List ℕ) (p : Read) → next_record default_config s fields field xs ≡ Some p → (length p.2 < length xs) ⊎ ((p.1 ≡ StartRecord) × (p.2 ≡ []))
unfolding next_record
left_after s fields field [] p e = go (ends_at_end s) e
  where
    go : (b : Bool) → (if b then Some (fields ++ (field ∷ []), StartRecord, []) else None) ≡ Some p → (length p.2 < 0) ⊎ ((p.1 ≡ StartRecord) × (p.2 ≡ []))
    go true q = let same = same_Some (fields ++ (field ∷ []), StartRecord, []) p q in inr (sym (ap (λ (r : Read). r.1) same), sym (ap (λ (r : Read). r.2) same))
    go false q = absurd (none-some p q)
left_after s fields field (c ∷ rest) p e =
    go (λ q. left_after (step default_config s c).0 (fields_after (step default_config s c).1 fields field) (field_after (step default_config s c).1 c field) rest p q) (is_end (step default_config s c).1) e
  where
    go : (next_record default_config (step default_config s c).0 (fields_after (step default_config s c).1 fields field) (field_after (step default_config s c).1 c field) rest ≡ Some p → (length p.2 < length rest) ⊎ ((p.1 ≡ StartRecord) × (p.2 ≡ []))) →
        (b : Bool) → (if b then Some (fields_after (step default_config s c).1 fields field, (step default_config s c).0, rest)
        else next_record default_config (step default_config s c).0 (fields_after (step default_config s c).1 fields field) (field_after (step default_config s c).1 c field) rest) ≡ Some p →
        (length p.2 < suc (length rest)) ⊎ ((p.1 ≡ StartRecord) × (p.2 ≡ []))
    go more true q =
        let same : length rest ≡ length p.2 = ap (λ (r : Read). length r.2) (same_Some (fields_after (step default_config s c).1 fields field, (step default_config s c).0, rest) p q) in
        inl (omega (arith, same))
    go more false q = elim (more q) [
      | inl short ↦ inl (omega (arith, short))
      | inr end ↦ inr end
    ]

nothing_more : (p : Read) → p.1 ≡ StartRecord → p.2 ≡ [] → next_record default_config p.1 [] [] p.2 ≡ None
unfolding next_record
nothing_more p a b = λ i. next_record default_config (a i) [] [] (b i)

all_read : (n : ℕ) (s : State) (xs : List ℕ) → length xs < n → (records : List (List (List ℕ))) × AreRecords default_config s xs records
unfolding Reached
all_read zero s xs l = absurd (omega (arith, l))
all_read (suc n) s xs l = go (λ t ys h. all_read n t ys h) (next_record default_config s [] [] xs) refl
  where
    behind : ((t : State) (ys : List ℕ) → length ys < n → (records : List (List (List ℕ))) × AreRecords default_config t ys records) → (p : Read) → next_record default_config s [] [] xs ≡ Some p → (records : List (List (List ℕ))) × AreRecords default_config p.1 p.2 records
    behind more p e = elim (left_after s [] [] xs p e) [
      | inl short ↦ more p.1 p.2 (omega (arith, l, short))
      | inr end ↦ ([], (p.1, p.2, (refl, refl), nothing_more p end.0 end.1))
    ]

    go : ((t : State) (ys : List ℕ) → length ys < n → (records : List (List (List ℕ))) × AreRecords default_config t ys records) → (o : Option Read) → next_record default_config s [] [] xs ≡ o → (records : List (List (List ℕ))) × AreRecords default_config s xs records
    go below None e = ([], (s, xs, (refl, refl), e))
    go below (Some p) e = let more = behind below p e in (p.0 ∷ more.0, (more.1.0, more.1.1, (p, e, refl, more.1.2), more.1.3))

front_reached : (s : State) (xs : List ℕ) (rs qs : List (List (List ℕ))) (s2 : State) (ys : List ℕ) → Reached default_config s xs (rs ++ qs) s2 ys → (state : State) × (rest : List ℕ) × Reached default_config s xs rs state rest
unfolding Reached
front_reached s xs [] qs s2 ys h = (s, xs, (refl, refl))
front_reached s xs (r ∷ rs) qs s2 ys h = let more = front_reached h.0.1 h.0.2 rs qs s2 ys h.3 in (more.0, more.1, (h.0, h.1, h.2, more.2))

-- ---- the first record that is no row

record HasBad (kinds : List Kind) (records : List (List (List ℕ))) : Type 0 where
  pub before : List (List (List ℕ))
  pub bad : List (List ℕ)
  pub after : List (List (List ℕ))
  pub rows : List (List Value)
  pub parts : records ≡ before ++ bad ∷ after
  pub are_rows : AllZip (IsRecordOf kinds) before rows
  pub no_row : (row : List Value) → IsRecordOf kinds bad row → ⊥

sifted : (kinds : List Kind) (records : List (List (List ℕ))) → ((rows : List (List Value)) × AllZip (IsRecordOf kinds) records rows × AreValidRows rows) ⊎ HasBad kinds records
sifted kinds [] = inl ([], tt, λ row m. absurd (mem-nil row m))
sifted kinds (fields ∷ records) = go (dec_record kinds fields) (sifted kinds records)
  where
    go : Dec ((row : List Value) × IsRecordOf kinds fields row) → ((rows : List (List Value)) × AllZip (IsRecordOf kinds) records rows × AreValidRows rows) ⊎ HasBad kinds records →
        ((rows : List (List Value)) × AllZip (IsRecordOf kinds) (fields ∷ records) rows × AreValidRows rows) ⊎ HasBad kinds (fields ∷ records)
    go (no f) more = inr (record { before = []; bad = fields; after = records; rows = []; parts = refl; are_rows = tt; no_row = λ row h. f (row, h) })
    go (yes r) (inl rs) = inl (r.0 ∷ rs.0, (r.1, rs.1), λ row m. elim (mem-cases row r.0 rs.0 m) [ inl e ↦ subst IsValidRow e (record_valid kinds fields r.0 r.1) | inr n ↦ rs.2 row n ])
    go (yes r) (inr b) = inr (record { before = fields ∷ b.before; bad = b.bad; after = b.after; rows = r.0 ∷ b.rows; parts = ap (λ l. fields ∷ l) b.parts; are_rows = (r.1, b.are_rows); no_row = b.no_row })

pub blocks_are_read : BlocksAreRead
blocks_are_read kinds block =
    let text = strip_bom block in
    let all = all_read (length text + 1) StartRecord text (omega arith) in
    elim (sifted kinds all.0) [
      | inl rows ↦ inl (rows.0, record { records = all.0; are_all = all.1; are_rows = rows.1 }, rows.2)
      | inr b ↦
          let whole : Reached default_config StartRecord text ((b.before ++ b.bad ∷ []) ++ b.after) all.1.0 all.1.1 =
          subst (λ l. Reached default_config StartRecord text l all.1.0 all.1.1) (b.parts ∙ sym (append_assoc b.before (b.bad ∷ []) b.after)) all.1.2 in
          let front = front_reached StartRecord text (b.before ++ b.bad ∷ []) b.after all.1.0 all.1.1 whole in
          inr (
            length b.before + 1,
            record { before = b.before; rows = b.rows; bad = b.bad; state = front.0; rest = front.1; begins = front.2; are_rows = b.are_rows; no_row = b.no_row; counted = refl },
          )
    ]
