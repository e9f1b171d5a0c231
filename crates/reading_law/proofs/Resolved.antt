-- The names of a valid schema resolve to it.
use Rattle.std.proofs.Common.{◌≡◌, ◌+◌, ◌<◌, ◌≤◌, ◌&&◌, nat_eq, nat_lt, nat_le, is_some, is_none, ℕ, zero, suc, Bool, true, false, not, List, [], ◌∷◌, ◌++◌, Option, Some, None, length, map, get_or, refl, sym, ap, ◌∙◌, subst, arith, append_assoc, length-append}
use mathlib.Core.HLevel.{is_prop→PathP}
use Rattle.std.proofs.Math.Seq.{get_or-append_seam}
use Rattle.std.proofs.lemmas.Bool.Decides.{nat_tests}
use Rattle.std.proofs.lemmas.List.{length-map, map-append, get_or_append_left}
use Rattle.std.proofs.lemmas.List.Elements.{recursion_from_All}
use Rattle.std.specs.Cmp.Lexicographic.{pointwise}
use Rattle.std.specs.List.{AllByRecursion, position}
use Rattle.std.proofs.lemmas.Option.{same_Some}
use Rattle.cqa_value.specs.declared.value.Kind.TheVariants.{Int}
use Rattle.refusals.specs.declared.refusal.Refusal.{Refusal}
use Rattle.refusals.specs.declared.refusal.Refusal.TheVariants.{TableExists, DuplicateColumn, BadKey, Limit}
use Rattle.refusals.specs.declared.refusal.LimitKind.TheVariants.{Tables, Columns}
use Rattle.cqa_model.specs.declared.schema.Column.{Column}
use Rattle.cqa_model.specs.declared.schema.Schema.{Schema}
use Rattle.cqa_model.specs.Database.{Table, names_of}
use Rattle.refusals.specs.Refusal.{first_of}
use Rattle.cqa_model.specs.Shape.{column_at, IsSchema}
use Rattle.cqa_model.specs.Valid.{HasNames}
use Rattle.table_blocks.specs.Tables.{table_named}
use Rattle.table_blocks.proofs.Changing.{kept_once}
use Rattle.query_resolve.specs.Names.{name_place, column_named, has_column}
use Rattle.query_resolve.specs.Checks.{fault_unless, first_fault, table_fault, duplicate_fault, key_fault, names_fault, schema_fault}
use Rattle.query_resolve.specs.Resolved.{ArePlacesOf, IsSchemaOf}
use Rattle.query_resolve.proofs.Lookups.{named_at, named_nowhere}
use Rattle.query_resolve.proofs.Members.{neither}
use Rattle.reading_law.proofs.WrittenStatements.{key_names, raw_of}

-- members with names, found by them
module _ {A : Type 0} (f : A → List ℕ) (d : A) where
  -- where names differ, a name is found where it stands
  pub found : (xs : List A) (i : ℕ) (name : List ℕ) → ((j : ℕ) → j < length xs → f (get_or xs j d) ≡ name → j ≡ i) → i < length xs → f (get_or xs i d) ≡ name → position (λ x. pointwise nat_eq name (f x)) xs ≡ Some i
  found xs i name differ inside is = go (position (λ x. pointwise nat_eq name (f x)) xs) refl
    where
      go : (o : Option ℕ) → position (λ x. pointwise nat_eq name (f x)) xs ≡ o → position (λ x. pointwise nat_eq name (f x)) xs ≡ Some i
      go None e = absurd (named_nowhere f d xs name i e inside is)
      go (Some j) e = let h = named_at f d xs name j e in e ∙ ap Some (differ j h.0 h.1)

  -- a name that no member has isn't found
  pub missing : (xs : List A) (name : List ℕ) → ((j : ℕ) → j < length xs → f (get_or xs j d) ≡ name → ⊥) → position (λ x. pointwise nat_eq name (f x)) xs ≡ None
  missing xs name none = go (position (λ x. pointwise nat_eq name (f x)) xs) refl
    where
      go : (o : Option ℕ) → position (λ x. pointwise nat_eq name (f x)) xs ≡ o → position (λ x. pointwise nat_eq name (f x)) xs ≡ None
      go None e = e
      go (Some j) e = let h = named_at f d xs name j e in absurd (none j h.0 h.1)

-- a list each of whose members passes behind those before it
pub none_fails : {A : Type 0} (check : List A → A → Option Refusal) (before xs : List A) → ((front : List A) (x : A) (back : List A) → before ++ xs ≡ front ++ x ∷ back → check front x ≡ None) → first_fault check before xs ≡ None
none_fails check before [] h = refl
none_fails check before (x ∷ xs) h =
    neither (check before x) (first_fault check (before ++ x ∷ []) xs) (h before x xs refl) (none_fails check (before ++ x ∷ []) xs (λ front y back e. h front y back (sym (append_assoc before (x ∷ []) xs) ∙ e)))

pub passing : (b : Bool) (refusal : Refusal) → b ≡ true → fault_unless b refusal ≡ None
passing true refusal e = refl
passing false refusal e = absurd (cc e)

module _ (columns : List Column) (key : List ℕ) (kept : IsSchema columns key) where
  abbrev name_at : ℕ → List ℕ
  name_at place = (column_at columns place).name

  pub column_found : (p : ℕ) → p < length columns → column_named columns (name_at p) ≡ Some p
  column_found p l = found (λ (c : Column). c.name) (record { name = []; kind = Int }) columns p (name_at p) (λ j m e. kept.names_differ j p m l e) l refl

  fresh_column : (front : List Column) (c : Column) (back : List Column) → columns ≡ front ++ c ∷ back → duplicate_fault front c ≡ None
  fresh_column front c back e =
      let none : column_named front c.name ≡ None = missing (λ (x : Column). x.name) (record { name = []; kind = Int }) front c.name (λ j l same.
      let here : (column_at columns (length front)).name ≡ c.name = ap (λ z. (column_at z (length front)).name) e ∙ ap (λ (x : Column). x.name) (get_or-append_seam front c back (record { name = []; kind = Int })) in
      let there : (column_at columns j).name ≡ c.name = ap (λ z. (column_at z j).name) e ∙ ap (λ (x : Column). x.name) (get_or_append_left front (c ∷ back) (record { name = []; kind = Int }) j l) ∙ same in
      let long : length columns ≡ length front + length (c ∷ back) = ap length e ∙ length-append front (c ∷ back) in
      let meet = kept.names_differ j (length front) (omega (arith, long, l)) (omega (arith, long)) (there ∙ sym here) in
      omega (arith, meet, l)) in
      passing (not (has_column front c.name)) (DuplicateColumn c.name) (ap (λ o. not (is_some o)) none)

  get_or_map : (xs : List ℕ) (k : ℕ) → k < length xs → get_or (map (λ place. name_at place) xs) k [] ≡ name_at (get_or xs k 0)
  get_or_map [] k l = absurd (omega arith)
  get_or_map (x ∷ xs) zero l = refl
  get_or_map (x ∷ xs) (suc k) l = get_or_map xs k (omega arith)

  below : (k : ℕ) → k < length key → get_or key k 0 < length columns
  below k l = kept.key_in_range k 0 l

  fresh_name : (front : List (List ℕ)) (name : List ℕ) (back : List (List ℕ)) → map (λ place. name_at place) key ≡ front ++ name ∷ back → key_fault columns front name ≡ None
  fresh_name front name back e =
      let k = length front in
      let long : length key ≡ length front + length (name ∷ back) = sym (length-map key (λ place. name_at place)) ∙ ap length e ∙ length-append front (name ∷ back) in
      let inside : k < length key = omega (arith, long) in
      let is : name_at (get_or key k 0) ≡ name = sym (get_or_map key k inside) ∙ ap (λ z. get_or z k []) e ∙ get_or-append_seam front name back [] in
      let there : column_named columns name ≡ Some (get_or key k 0) = subst (λ z. column_named columns z ≡ Some (get_or key k 0)) is (column_found (get_or key k 0) (below k inside)) in
      let none : name_place front name ≡ None = missing (λ (z : List ℕ). z) [] front name (λ j l same.
      let early : name_at (get_or key j 0) ≡ name = sym (get_or_map key j (omega (arith, long, l))) ∙ ap (λ z. get_or z j []) e ∙ get_or_append_left front (name ∷ back) [] j l ∙ same in
      let one = kept.names_differ (get_or key j 0) (get_or key k 0) (below j (omega (arith, long, l))) (below k inside) (early ∙ sym is) in
      let meet = kept.key_apart j k (omega (arith, long, l)) inside one in
      omega (arith, meet, l)) in
      passing (has_column columns name && is_none (name_place front name)) (BadKey name) (rw (there, none) refl)

  places_found : (xs : List ℕ) → AllByRecursion (λ p. p < length columns) xs → ArePlacesOf columns (map (λ place. name_at place) xs) xs
  places_found [] a = tt
  places_found (p ∷ xs) a = (column_found p a.0, places_found xs a.1)

places_once : (columns : List Column) (names : List (List ℕ)) (xs ys : List ℕ) → ArePlacesOf columns names xs → ArePlacesOf columns names ys → xs ≡ ys
places_once columns [] [] [] a b = refl
places_once columns [] [] (y ∷ ys) a b = absurd b
places_once columns [] (x ∷ xs) ys a b = absurd a
places_once columns (n ∷ names) [] ys a b = absurd a
places_once columns (n ∷ names) (x ∷ xs) [] a b = absurd b
places_once columns (n ∷ names) (x ∷ xs) (y ∷ ys) a b =
    let e = same_Some x y (sym a.0 ∙ b.0) in
    let r = places_once columns names xs ys a.1 b.1 in
    λ i. e i ∷ r i

pub schema_is : (schema : Schema) (h : HasNames schema) → IsSchemaOf (raw_of schema h) schema
schema_is schema h = record {
  name = refl;
  columns = refl;
  key = places_found schema.columns schema.key schema.kept schema.key (recursion_from_All (λ p. p < length schema.columns) schema.key schema.kept.key_in_range);
  strict = refl;
}

pub schema_once : (schema other : Schema) (h : HasNames schema) → IsSchemaOf (raw_of schema h) other → other ≡ schema
schema_once schema other h k =
    let n = k.name in
    let c = k.columns in
    let p : other.key ≡ schema.key = places_once schema.columns (key_names schema) other.key schema.key k.key (schema_is schema h).key in
    let s = k.strict in
    λ i. record { name = n i; columns = c i; key = p i; strict = s i; kept = is_prop→PathP (λ j. IsSchema (c j) (p j)) (λ j. kept_once (c j) (p j)) other.kept schema.kept i }

-- no check of the schema fails where its name is free and there is room
pub schema_fits : (db : List Table) (schema : Schema) (h : HasNames schema) → table_named db schema.name ≡ None → length db < 64 → schema_fault db (raw_of schema h) ≡ None
schema_fits db schema h free room =
    let named : fault_unless (is_none (table_named db schema.name)) (TableExists schema.name) ≡ None = passing (is_none (table_named db schema.name)) (TableExists schema.name) (ap is_none free) in
    let fewer : nat_lt (length db) 64 ≡ true = grind (arith, nat_tests) in
    let width = schema.kept.size.1 in
    let narrow : nat_le (length schema.columns) 16 ≡ true = grind (arith, nat_tests) in
    neither (table_fault db (raw_of schema h)) (first_of (first_fault duplicate_fault [] schema.columns) (names_fault schema.columns (key_names schema)))
    (neither (fault_unless (is_none (table_named db schema.name)) (TableExists schema.name)) (first_of (fault_unless (nat_lt (length db) 64) (Limit Tables)) (fault_unless (nat_le (length schema.columns) 16) (Limit Columns))) named
    (neither (fault_unless (nat_lt (length db) 64) (Limit Tables)) (fault_unless (nat_le (length schema.columns) 16) (Limit Columns)) (passing (nat_lt (length db) 64) (Limit Tables) fewer) (passing (nat_le (length schema.columns) 16) (Limit Columns) narrow)))
    (neither (first_fault duplicate_fault [] schema.columns) (names_fault schema.columns (key_names schema))
    (none_fails duplicate_fault [] schema.columns (λ front c back e. fresh_column schema.columns schema.key schema.kept front c back e))
    (none_fails (key_fault schema.columns) [] (key_names schema) (λ front name back e. fresh_name schema.columns schema.key schema.kept front name back e)))

-- names of tables: all differ
abbrev pub Differ : List (List ℕ) → Type 0
Differ names = (i j : ℕ) → i < length names → j < length names → get_or names i [] ≡ get_or names j [] → i ≡ j

pub last_free : (done : List Table) (t : Table) (rest : List Table) → Differ (names_of (done ++ t ∷ rest)) → table_named done t.schema.name ≡ None
last_free done t rest differ =
    let names : names_of (done ++ t ∷ rest) ≡ names_of done ++ t.schema.name ∷ names_of rest = map-append (λ (x : Table). x.schema.name) done (t ∷ rest) in
    let long : length (names_of (done ++ t ∷ rest)) ≡ length (names_of done) + length (t.schema.name ∷ names_of rest) = ap length names ∙ length-append (names_of done) (t.schema.name ∷ names_of rest) in
    missing (λ (z : List ℕ). z) [] (names_of done) t.schema.name (λ j l same.
    let here : get_or (names_of (done ++ t ∷ rest)) (length (names_of done)) [] ≡ t.schema.name = ap (λ z. get_or z (length (names_of done)) []) names ∙ get_or-append_seam (names_of done) t.schema.name (names_of rest) [] in
    let there : get_or (names_of (done ++ t ∷ rest)) j [] ≡ t.schema.name = ap (λ z. get_or z j []) names ∙ get_or_append_left (names_of done) (t.schema.name ∷ names_of rest) [] j l ∙ same in
    let meet = differ j (length (names_of done)) (omega (arith, long, l)) (omega (arith, long)) (there ∙ sym here) in
    omega (arith, meet, l))

-- a name that no table has is found at the table that gets it last
pub last_found : (done : List Table) (t : Table) → table_named done t.schema.name ≡ None → table_named (done ++ t ∷ []) t.schema.name ≡ Some (length done)
last_found done t free =
    let names : names_of (done ++ t ∷ []) ≡ names_of done ++ t.schema.name ∷ [] = map-append (λ (x : Table). x.schema.name) done (t ∷ []) in
    let many : length (names_of done) ≡ length done = length-map done (λ (x : Table). x.schema.name) in
    let long : length (names_of (done ++ t ∷ [])) ≡ length (names_of done) + 1 = ap length names ∙ length-append (names_of done) (t.schema.name ∷ []) in
    let here : get_or (names_of (done ++ t ∷ [])) (length done) [] ≡ t.schema.name = ap (λ z. get_or z (length done) []) names ∙ ap (λ n. get_or (names_of done ++ t.schema.name ∷ []) n []) (sym many) ∙ get_or-append_seam (names_of done) t.schema.name [] [] in
    found (λ (z : List ℕ). z) [] (names_of (done ++ t ∷ [])) (length done) t.schema.name (λ j l same. only j (omega (arith, l, long, many)) (sym (ap (λ z. get_or z j []) names) ∙ same) (nat_lt j (length done)) refl) (omega (arith, long, many)) here
  where
    only : (j : ℕ) → j < length done + 1 → get_or (names_of done ++ t.schema.name ∷ []) j [] ≡ t.schema.name → (b : Bool) → nat_lt j (length done) ≡ b → j ≡ length done
    only j l same true e =
        let lt : j < length done = grind (arith, nat_tests) in
        let many : length (names_of done) ≡ length done = length-map done (λ (x : Table). x.schema.name) in
        absurd (named_nowhere (λ (z : List ℕ). z) [] (names_of done) t.schema.name j free (omega (arith, lt, many)) (sym (get_or_append_left (names_of done) (t.schema.name ∷ []) [] j (omega (arith, lt, many))) ∙ same))
    only j l same false e = let ge : length done ≤ j = grind (arith, nat_tests) in omega (arith, l, ge)
