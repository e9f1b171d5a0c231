-- Databases whose tables are made and changed.
use Rattle.std.proofs.Common.{◌≡◌, ◌⊎◌, inl, inr, ℕ, zero, suc, ◌+◌, ◌<◌, ◌≤◌, nat_lt, Bool, true, false, List, [], ◌∷◌, ◌++◌, length, length-append, get_or, slice_get, slice_set, take, Contains, Some, refl, sym, ap, ◌∙◌, subst, arith, rules}
use Rattle.std.specs.List.Sorted.{IsStrictlySortedBy}
use Rattle.std.proofs.lemmas.List.{map-append, length-map, length-set, get_or_append_left}
use Rattle.std.proofs.Math.Seq.{get_or-append_seam}
use Rattle.std.proofs.lemmas.List.Elements.{Contains-append_cases, Contains-get_or}
use Rattle.std.proofs.lemmas.Option.{slice_get_within}
use Rattle.cqa_value.specs.declared.value.Value.{Value}
use Rattle.cqa_value.proofs.Words.{mem-tail, mem-cases, mem-head, mem-nil}
use Rattle.std.proofs.Props.{props}
use Rattle.cqa_model.specs.declared.schema.Column.{Column}
use Rattle.cqa_model.specs.declared.schema.Schema.{Schema}
use Rattle.cqa_model.specs.Shape.{IsSchema}
use Rattle.cqa_model.specs.Database.{Table, IsTable, IsDatabase, names_of, row_total}
use Rattle.table_blocks.specs.Tables.{AreValidRows, AreValidTables, with_rows, with_mark, rows_at}

pub without_rows : (schema : Schema) → IsTable (record { schema = schema; rows = [] })
unfolding IsStrictlySortedBy
without_rows schema = record { in_order = tt; of_schema = λ row h. absurd (mem-nil row h); strict = λ t x y m. absurd (mem-nil x m) }

no_tables : IsDatabase []
no_tables = record { few_tables = omega arith; each = λ t h. absurd (mem-nil t h); names_differ = λ i j a b e. absurd (omega (arith, a)); few_rows = omega arith }

pub none_stored : AreValidTables []
none_stored = record { database = no_tables; valid = λ t h. absurd (mem-nil t h) }

-- one table holds no more rows than all
pub rows_within : (db : List Table) (i : ℕ) → length (rows_at db i) ≤ row_total db
rows_within [] i = omega arith
rows_within (t ∷ db) zero = omega arith
rows_within (t ∷ db) (suc i) = let h = rows_within db i in omega (arith, h)

some_is : (a b : Table) → Some a ≡ Some b → a ≡ b
some_is a b e = (cc)

-- the table at a place gets other rows: its schema stays
pub set_with_rows : (t w : Table) → w.schema ≡ t.schema → (db : List Table) (i : ℕ) → slice_get db i ≡ Some t → slice_set db i w ≡ with_rows db i w.rows
set_with_rows t w same [] i e = refl
set_with_rows t w same (u ∷ db) zero e = let is : u ≡ t = some_is u t e in (λ k. record { schema = (same ∙ ap (λ z. z.schema) (sym is)) k; rows = w.rows } ∷ db)
set_with_rows t w same (u ∷ db) (suc i) e = ap (λ l. u ∷ l) (set_with_rows t w same db i e)

-- the table at a place gets another mark
pub set_with_mark : (t : Table) (strict : Bool) (db : List Table) (i : ℕ) → slice_get db i ≡ Some t → slice_set db i (record t { schema = record t.schema { strict = strict } }) ≡ with_mark db i strict
set_with_mark t strict [] i e = refl
set_with_mark t strict (u ∷ db) zero e = ap (λ (z : Table). record z { schema = record z.schema { strict = strict } } ∷ db) (sym (some_is u t e))
set_with_mark t strict (u ∷ db) (suc i) e = ap (λ l. u ∷ l) (set_with_mark t strict db i e)

pub names_set : (t w : Table) → w.schema.name ≡ t.schema.name → (db : List Table) (i : ℕ) → slice_get db i ≡ Some t → names_of (slice_set db i w) ≡ names_of db
names_set t w same [] i e = refl
names_set t w same (u ∷ db) zero e = ap (λ name. name ∷ names_of db) (same ∙ ap (λ z. z.schema.name) (sym (some_is u t e)))
names_set t w same (u ∷ db) (suc i) e = ap (λ l. u.schema.name ∷ l) (names_set t w same db i e)

pub total_set : (t w : Table) (db : List Table) (i : ℕ) → slice_get db i ≡ Some t → row_total (slice_set db i w) + length t.rows ≡ row_total db + length w.rows
total_set t w [] i e = absurd (omega (arith, slice_get_within [] i t e))
total_set t w (u ∷ db) zero e = let is : length u.rows ≡ length t.rows = ap (λ z. length z.rows) (some_is u t e) in omega (arith, is)
total_set t w (u ∷ db) (suc i) e = let more = total_set t w db i e in omega (arith, more)

member_set : (w : Table) (db : List Table) (i : ℕ) (x : Table) → Contains (slice_set db i w) x → (w ≡ x) ⊎ Contains db x
member_set w [] i x h = inr h
member_set w (u ∷ db) zero x h = elim (mem-cases x w db h) [ inl e ↦ inl e | inr l ↦ inr (mem-tail x u db l) ]
member_set w (u ∷ db) (suc i) x h = elim (mem-cases x u (slice_set db i w) h) [
  | inl e ↦ inr (subst (Contains (u ∷ db)) e (mem-head u db))
  | inr l ↦ elim (member_set w db i x l) [ inl e ↦ inl e | inr m ↦ inr (mem-tail x u db m) ]
]

database_set : (t w : Table) → w.schema.name ≡ t.schema.name → (db : List Table) (i : ℕ) → slice_get db i ≡ Some t → IsDatabase db → IsTable w → row_total (slice_set db i w) ≤ 1_000_000 → IsDatabase (slice_set db i w)
database_set t w same db i e d table few =
    let names = names_set t w same db i e in
    let long = length-set db i w in
    let before = d.few_tables in
    record {
      few_tables = omega (arith, long, before);
      each = λ x h. elim (member_set w db i x h) [ inl q ↦ subst IsTable q table | inr m ↦ d.each x m ];
      names_differ = λ j k a b q. d.names_differ j k (omega (arith, a, long)) (omega (arith, b, long)) (ap (λ l. get_or l j []) (sym names) ∙ q ∙ ap (λ l. get_or l k []) names);
      few_rows = few;
    }

-- tables stay stored where one is changed, which keeps its name and has valid values
pub stored_set : (t w : Table) → w.schema.name ≡ t.schema.name → (db : List Table) (i : ℕ) → slice_get db i ≡ Some t → AreValidTables db → IsTable w → AreValidRows w.rows → row_total (slice_set db i w) ≤ 1_000_000 → AreValidTables (slice_set db i w)
stored_set t w same db i e s table valid few = record {
  database = database_set t w same db i e s.database table few;
  valid = λ x h. elim (member_set w db i x h) [ inl q ↦ subst (λ z. AreValidRows z.rows) q valid | inr m ↦ s.valid x m ];
}

-- a table that is put where it stands changes nothing
pub set_same : (db : List Table) (i : ℕ) (t : Table) → slice_get db i ≡ Some t → slice_set db i t ≡ db
set_same [] i t e = refl
set_same (u ∷ db) zero t e = ap (λ z. z ∷ db) (sym (some_is u t e))
set_same (u ∷ db) (suc i) t e = ap (λ l. u ∷ l) (set_same db i t e)

pub total_push : (db : List Table) (t : Table) → row_total (db ++ t ∷ []) ≡ row_total db + length t.rows
total_push [] t = omega arith
total_push (u ∷ db) t = let more = total_push db t in omega (arith, more)

-- a name that is no table's is told from each of them
new_name : (names : List (List ℕ)) (name : List ℕ) (i j : ℕ) → (Contains names name → ⊥) → i < length names + 1 → j < length names + 1
    → ((i j : ℕ) → i < length names → j < length names → get_or names i [] ≡ get_or names j [] → i ≡ j) → get_or (names ++ name ∷ []) i [] ≡ get_or (names ++ name ∷ []) j [] → i ≡ j
new_name names name i j other a b apart e = go (nat_lt i (length names)) refl (nat_lt j (length names)) refl
  where
    early : (k : ℕ) → k < length names → get_or (names ++ name ∷ []) k [] ≡ get_or names k []
    early k h = get_or_append_left names (name ∷ []) [] k h

    last : (k : ℕ) → k ≡ length names → get_or (names ++ name ∷ []) k [] ≡ name
    last k h = ap (λ n. get_or (names ++ name ∷ []) n []) h ∙ get_or-append_seam names name [] []

    there : (k : ℕ) → k < length names → get_or names k [] ≡ name → ⊥
    there k h q = other (subst (Contains names) q (Contains-get_or names k [] h))

    go : (s : Bool) → nat_lt i (length names) ≡ s → (t : Bool) → nat_lt j (length names) ≡ t → i ≡ j
    go true p true q = let x : i < length names = search (rules, p) in let y : j < length names = search (rules, q) in
        apart i j x y (sym (early i x) ∙ e ∙ early j y)
    go true p false q = let x : i < length names = search (rules, p) in let y : length names ≤ j = search (rules, q) in
        absurd (there i x (sym (early i x) ∙ e ∙ last j (omega (arith, y, b))))
    go false p true q = let x : length names ≤ i = search (rules, p) in let y : j < length names = search (rules, q) in
        absurd (there j y (sym (early j y) ∙ sym e ∙ last i (omega (arith, x, a))))
    go false p false q = let x : length names ≤ i = search (rules, p) in let y : length names ≤ j = search (rules, q) in omega (arith, a, b, x, y)

database_push : (db : List Table) (schema : Schema) → IsDatabase db → length db < 64 → (Contains (names_of db) schema.name → ⊥) → IsDatabase (db ++ (record { schema = schema; rows = [] }) ∷ [])
database_push db schema d room other =
    let t : Table = record { schema = schema; rows = [] } in
    let long = length-append db (t ∷ []) in
    let total = total_push db t in
    let before = d.few_rows in
    let names : names_of (db ++ t ∷ []) ≡ names_of db ++ schema.name ∷ [] = map-append (λ (x : Table). x.schema.name) db (t ∷ []) in
    let many : length (names_of db) ≡ length db = length-map db (λ (x : Table). x.schema.name) in
    record {
      few_tables = omega (arith, long, room);
      each = λ x h. elim (Contains-append_cases db (t ∷ []) x h) [
        | inl l ↦ d.each x l
        | inr r ↦ elim (mem-cases x t [] r) [ inl q ↦ subst IsTable q (without_rows schema) | inr n ↦ absurd (mem-nil x n) ]
      ];
      names_differ = λ i j a b q. new_name (names_of db) schema.name i j other (omega (arith, a, long, many)) (omega (arith, b, long, many))
          (λ k l c f p. d.names_differ k l (omega (arith, c, many)) (omega (arith, f, many)) p) (ap (λ l. get_or l i []) (sym names) ∙ q ∙ ap (λ l. get_or l j []) names);
      few_rows = omega (arith, total, before);
    }

pub stored_push : (db : List Table) (schema : Schema) → AreValidTables db → length db < 64 → (Contains (names_of db) schema.name → ⊥) → AreValidTables (db ++ (record { schema = schema; rows = [] }) ∷ [])
stored_push db schema s room other =
    let t : Table = record { schema = schema; rows = [] } in
    record {
      database = database_push db schema s.database room other;
      valid = λ x h. elim (Contains-append_cases db (t ∷ []) x h) [
        | inl l ↦ s.valid x l
        | inr r ↦ elim (mem-cases x t [] r) [ inl q ↦ subst (λ z. AreValidRows z.rows) q (λ row m. absurd (mem-nil row m)) | inr n ↦ absurd (mem-nil x n) ]
      ];
    }

-- the rows of one table more
pub total_more : (db : List Table) (i : ℕ) → i < length db → row_total (take (i + 1) db) ≡ row_total (take i db) + length (rows_at db i)
total_more db i h = ap (λ n. row_total (take n db)) (plus_one i) ∙ go db i h
  where
    plus_one : (n : ℕ) → n + 1 ≡ suc n
    plus_one n = omega arith

    go : (db : List Table) (i : ℕ) → i < length db → row_total (take (suc i) db) ≡ row_total (take i db) + length (rows_at db i)
    go [] i h = absurd (omega (arith, h))
    go (t ∷ db) zero h = omega arith
    go (t ∷ db) (suc i) h = let more = go db i (omega (arith, h)) in omega (arith, more)

-- the first tables hold no more rows than all
pub total_within : (db : List Table) (i : ℕ) → row_total (take i db) ≤ row_total db
total_within [] zero = omega arith
total_within [] (suc i) = omega arith
total_within (t ∷ db) zero = omega arith
total_within (t ∷ db) (suc i) = let more = total_within db i in omega (arith, more)

pub length-with_rows : (db : List Table) (i : ℕ) (rows : List (List Value)) → length (with_rows db i rows) ≡ length db
length-with_rows [] i rows = refl
length-with_rows (t ∷ db) zero rows = refl
length-with_rows (t ∷ db) (suc i) rows = ap suc (length-with_rows db i rows)

pub rows_at-with_rows : (db : List Table) (i : ℕ) (rows : List (List Value)) → i < length db → rows_at (with_rows db i rows) i ≡ rows
rows_at-with_rows [] i rows h = absurd (omega (arith, h))
rows_at-with_rows (t ∷ db) zero rows h = refl
rows_at-with_rows (t ∷ db) (suc i) rows h = rows_at-with_rows db i rows (omega (arith, h))

pub kept_once : (columns : List Column) (key : List ℕ) → IsProp (IsSchema columns key)
kept_once columns key = hlevel props

-- a schema that is marked is the schema with the mark
pub marked_table : (schema : Schema) (rows : List (List Value)) (strict : Bool) (kept : IsSchema schema.columns schema.key)
    → ◌≡◌ {A = Table} (record { schema = record { name = schema.name; columns = schema.columns; key = schema.key; strict = strict; kept = kept }; rows = rows }) (record { schema = record schema { strict = strict }; rows = rows })
marked_table schema rows strict kept =
    ap {B = Table} (λ k. record { schema = record { name = schema.name; columns = schema.columns; key = schema.key; strict = strict; kept = k }; rows = rows }) (kept_once schema.columns schema.key kept schema.kept)
