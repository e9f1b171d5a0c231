-- The tables of a map from names, and the list that they are.
use Rattle.std.proofs.Common.{◌≡◌, arith, ◌≤◌, ◌<◌, ◌+◌, ℕ, zero, suc, List, [], ◌∷◌, ◌++◌, Option, Some, None, Bool, true, false, ◌||◌, cond, length, refl, sym, ap, ◌∙◌, subst, true≢false, Contains, nat_eq, slice_set, slice_get}
use Rattle.std.specs.Option.{MatchOption}
use Rattle.std.specs.List.{list_any}
use Rattle.std.specs.Map.{keys_of, values_of, lookup}
use Rattle.std.specs.Cmp.Lexicographic.{pointwise, same_text}
use Rattle.indexmap.specs.IndexMap.{set_value_at}
use Rattle.std.proofs.lemmas.List.{map-append}
use Rattle.indexmap.proofs.CallerLemmas.{Contains-list_any}
use Rattle.cqa_model.specs.declared.schema.Schema.{Schema}
use Rattle.cqa_model.specs.Database.{Table, IsTable, names_of, row_total}
use Rattle.cqa_model.proofs.Places.{key-at, rows-at}
use Rattle.cqa_value.specs.declared.value.Value.{Value}
use Rattle.table_blocks.specs.Tables.{AreValidRows, AreValidTables, key_at, rows_at}
use Rattle.table_blocks.proofs.Changing.{rows_within, names_set, stored_set, stored_push, total_set}

lookup_none : {K X : Type 0} (test : K → Bool) (es : List (K × X)) → list_any test (keys_of es) ≡ false → lookup test es ≡ None
lookup_none test [] h = refl
lookup_none {X = X} test (e ∷ es) h = go (test e.0) refl (lookup_none test es)
  where
    go : (b : Bool) → test e.0 ≡ b → (list_any test (keys_of es) ≡ false → lookup test es ≡ None) → cond (test e.0) (Some e.1) (lookup test es) ≡ None
    go true q more = absurd (true≢false (sym (ap (λ c. c || list_any test (keys_of es)) q) ∙ h))
    go false q more = rw q (more (sym (ap (λ c. c || list_any test (keys_of es)) q) ∙ h))

pub name_absent : {X : Type 0} (name : List ℕ) (es : List (List ℕ × X)) → (Contains (keys_of es) name → ⊥) → lookup (pointwise nat_eq name) es ≡ None
name_absent name es h = go (list_any (pointwise nat_eq name) (keys_of es)) refl
  where
    go : (b : Bool) → list_any (pointwise nat_eq name) (keys_of es) ≡ b → lookup (pointwise nat_eq name) es ≡ None
    go true q = absurd (h (Contains-list_any (pointwise nat_eq) (λ x y e. same_text x y (sym e)) (keys_of es) name q))
    go false q = lookup_none (pointwise nat_eq name) es q

-- a new entry goes last among the keys and the values
pub keys_last : {K X : Type 0} (es : List (K × X)) (k : K) (x : X) → keys_of (es ++ (k, x) ∷ []) ≡ keys_of es ++ k ∷ []
keys_last es k x = map-append (λ e. e.0) es ((k, x) ∷ [])

pub values_last : {K X : Type 0} (es : List (K × X)) (k : K) (x : X) → values_of (es ++ (k, x) ∷ []) ≡ values_of es ++ x ∷ []
values_last es k x = map-append (λ e. e.1) es ((k, x) ∷ [])

pub values_set : {K X : Type 0} (es : List (K × X)) (i : ℕ) (w : X) → values_of (set_value_at es i w) ≡ slice_set (values_of es) i w
values_set [] i w = refl
values_set (e ∷ es) zero w = refl
values_set (e ∷ es) (suc i) w = ap (λ xs. e.1 ∷ xs) (values_set es i w)

-- the tables stand under their names, as a database
abbrev pub AreNamed : List (List ℕ × Table) → Type 0
AreNamed es = (keys_of es ≡ names_of (values_of es)) × AreValidTables (values_of es)

keys_set : {K X : Type 0} (es : List (K × X)) (i : ℕ) (w : X) → keys_of (set_value_at es i w) ≡ keys_of es
keys_set [] i w = refl
keys_set (e ∷ es) zero w = refl
keys_set (e ∷ es) (suc i) w = ap (λ ks. e.0 ∷ ks) (keys_set es i w)

pub named_set : (es : List (List ℕ × Table)) (i : ℕ) (t w : Table) → AreNamed es → slice_get (values_of es) i ≡ Some t → w.schema.name ≡ t.schema.name → IsTable w → AreValidRows w.rows → row_total (slice_set (values_of es) i w) ≤ 1_000_000 → AreNamed (set_value_at es i w)
named_set es i t w named here same table valid few =
    let is = values_set es i w in (
      keys_set es i w ∙ named.0 ∙ sym (ap names_of is ∙ names_set t w same (values_of es) i here),
      subst AreValidTables (sym is) (stored_set t w same (values_of es) i here named.1 table valid few),
    )

-- a table without rows under a new name
pub named_push : (es after : List (List ℕ × Table)) (name : List ℕ) (schema : Schema) (t : Table) → AreNamed es → length (values_of es) < 64 → (Contains (names_of (values_of es)) schema.name → ⊥)
    → name ≡ schema.name → t ≡ record { schema = schema; rows = [] } → after ≡ es ++ (name, t) ∷ []
    → AreNamed after × (values_of after ≡ values_of es ++ (record { schema = schema; rows = [] }) ∷ [])
named_push es after name schema t named room other called is e =
    let w : Table = record { schema = schema; rows = [] } in
    let vs : values_of after ≡ values_of es ++ w ∷ [] = ap (λ l. values_of l) e ∙ values_last es name t ∙ ap (λ x. values_of es ++ x ∷ []) is in
    let ks : keys_of after ≡ keys_of es ++ schema.name ∷ [] = ap (λ l. keys_of l) e ∙ keys_last es name t ∙ ap (λ x. keys_of es ++ x ∷ []) called in
    let ns : names_of (values_of es ++ w ∷ []) ≡ names_of (values_of es) ++ schema.name ∷ [] = map-append (λ (x : Table). x.schema.name) (values_of es) (w ∷ []) in
    ((ks ∙ ap (λ l. l ++ schema.name ∷ []) named.0 ∙ sym (ap names_of vs ∙ ns), subst AreValidTables (sym vs) (stored_push (values_of es) schema named.1 room other)), vs)

-- a table gets more rows, as many as there is room for
pub named_more : (es : List (List ℕ × Table)) (i : ℕ) (t w : Table) (more : ℕ) → AreNamed es → slice_get (values_of es) i ≡ Some t → w.schema.name ≡ t.schema.name → IsTable w → AreValidRows w.rows
    → length w.rows ≡ length t.rows + more → row_total (values_of es) + more ≤ 1_000_000 → AreNamed (set_value_at es i w)
named_more es i t w more named here same table valid count room =
    let total = total_set t w (values_of es) i here in
    named_set es i t w named here same table valid (omega (arith, total, count, room))

-- what is said of the table that was found is said of the table at the place
pub at_place : (P : List ℕ → List (List Value) → Type 0) (db : List Table) (i : ℕ) (t : Table) → slice_get db i ≡ Some t → P t.schema.key t.rows → P (key_at db i) (rows_at db i)
at_place P db i t here p = subst (λ key. P key (rows_at db i)) (sym (key-at db i t here)) (subst (P t.schema.key) (sym (rows-at db i t here)) p)

-- a table that was found has at most as many rows as all may have
pub found_few : (db : List Table) (i : ℕ) (t : Table) → slice_get db i ≡ Some t → row_total db ≤ 1_000_000 → length t.rows ≤ 1_000_000
found_few db i t here all = let within = rows_within db i in subst (λ rows. length rows ≤ 1_000_000) (rows-at db i t here) (omega (arith, within, all))

-- what a change gives where no rows clash, or else, told as something weaker
pub match_weaker : {A : Type 0} (o : Option A) {P Q : Type 0} {R S : Type 0} → (P → Q) → (R → S) → MatchOption o P (λ _. R) → MatchOption o Q (λ _. S)
match_weaker None f g m = f m
match_weaker (Some a) f g m = g m

-- a table gets no more rows
pub named_less : (es : List (List ℕ × Table)) (i : ℕ) (t w : Table) → AreNamed es → slice_get (values_of es) i ≡ Some t → w.schema.name ≡ t.schema.name → IsTable w → AreValidRows w.rows → length w.rows ≤ length t.rows → AreNamed (set_value_at es i w)
named_less es i t w named here same table valid fewer =
    let total = total_set t w (values_of es) i here in
    let all = named.1.database.few_rows in
    named_set es i t w named here same table valid (omega (arith, total, fewer, all))

-- the table that is found in a map stands at the place in the database
pub found_in : (vs db : List Table) (i : ℕ) (t : Table) → vs ≡ db → Some t ≡ slice_get vs i → slice_get db i ≡ Some t
found_in vs db i t e found = subst (λ l. slice_get l i ≡ Some t) e (sym found)
