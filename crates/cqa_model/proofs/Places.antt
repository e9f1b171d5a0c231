-- What a database has at the place of a table.
use Rattle.std.proofs.Common.{◌≡◌, IsTrue, false, ℕ, ◌<◌, inl, inr, List, [], length, get_or, slice_get, map, Some, ap, sym, ◌∙◌, subst, arith, Contains}
use Rattle.std.proofs.lemmas.Option.{slice_get-map, slice_get_cases, get_or_from_slice_get}
use Rattle.cqa_model.specs.Database.{Table, AreConsistent, IsDatabase, kinds_of, stored, keys_of, marks_of, column_kinds}

-- what a map gives at the place of x
pub map-at : {A B : Type 0} (f : A → B) (xs : List A) (i : ℕ) (x : A) (d : B) → slice_get xs i ≡ Some x → get_or (map f xs) i d ≡ f x
map-at f xs i x d e = get_or_from_slice_get (map f xs) i (f x) d (slice_get-map f xs i ∙ ap (λ o. Rattle.std.specs.Option.option_map f o) e)

module _ (db : List Table) (t : ℕ) (table : Table) (here : slice_get db t ≡ Some table) where
  pub rows-at : get_or (stored db) t [] ≡ table.rows
  rows-at = map-at (λ (u : Table). u.rows) db t table [] here

  pub key-at : get_or (keys_of db) t [] ≡ table.schema.key
  key-at = map-at (λ (u : Table). u.schema.key) db t table [] here

  pub mark-at : get_or (marks_of db) t false ≡ table.schema.strict
  mark-at = map-at (λ (u : Table). u.schema.strict) db t table false here

  pub kinds-at : get_or (column_kinds db) t [] ≡ kinds_of table.schema
  kinds-at = map-at (λ (u : Table). kinds_of u.schema) db t table [] here

-- the rows of a strict table of a database are consistent with its key
pub consistent-at : (db : List Table) → IsDatabase db → (t : ℕ) → t < length db → IsTrue (get_or (marks_of db) t false) →
    AreConsistent (get_or (keys_of db) t []) (get_or (stored db) t [])
consistent-at db valid t inside marked = elim (slice_get_cases db t).1 [ inl h ↦ at h.0 h.2 (t, h.1, h.3) | inr h ↦ absurd (omega (arith, inside, h.0)) ]
  where
    at : (table : Table) → slice_get db t ≡ Some table → Contains db table → AreConsistent (get_or (keys_of db) t []) (get_or (stored db) t [])
    at table here within =
        subst (λ key. AreConsistent key (get_or (stored db) t [])) (sym (key-at db t table here))
        (subst (λ rows. AreConsistent table.schema.key rows) (sym (rows-at db t table here))
        ((valid.each table within).strict (sym (mark-at db t table here) ∙ marked)))
