-- The laws of preferred rows: no block gets empty, and so a repair of what is kept is a repair of what was stored.
use Rattle.std.proofs.Common.{◌≡◌, inl, inr, ◌<◌, ℕ, zero, suc, Bool, true, false, ◌&&◌, List, [], ◌∷◌, length, get_or, set, slice_get, Some, Contains, refl, sym, ap, subst, ◌∙◌, arith, length-set, get_or-set_same, get_or-set_other, true≢false}
use native.Mathlib.Decide.{ℕ_discrete}
use Rattle.std.specs.List.{list_any}
use Rattle.std.specs.List.Sorted.{IsStrictlySortedBy}
use Rattle.std.proofs.lemmas.Option.{slice_get_cases}
use Rattle.cqa_value.specs.declared.value.Value.{Value}
use Rattle.cqa_model.specs.Database.{Table, IsDatabase, SharesKey, block_cmp, stored, keys_of}
use Rattle.cqa_model.specs.Repairs.{IsSublist, IsTableRepair, IsRepair}
use Rattle.cqa_model.proofs.Classic.{dec_mem, kept_by, kept_by-stored, kept_by-keeps}
use Rattle.cqa_model.proofs.Places.{rows-at, key-at}
use Rattle.cqa_model.proofs.Repairs.{kept_by-sublist, shares-self, shares-sym, shares-trans}
use Rattle.row_order.proofs.Reordering.{order_is}
use Rattle.table_blocks.specs.Keys.{same_key}
use Rattle.table_blocks.specs.Tables.{key_at, rows_at, with_rows}
use Rattle.table_blocks.specs.declared.test.ColumnTest.{ColumnTest}
use Rattle.table_blocks.proofs.Keeping.{sublist-sorted}
use Rattle.table_blocks.proofs.Sharing.{same_decides}
use Rattle.table_changes.specs.Preferred.{IsPreferred, Prefers}
use Rattle.table_changes.specs.Laws.{PreferredRepairs, PreferringKeeps}
use Rattle.table_changes.proofs.Preferring.{and_both, any_from, any_to, both, passing, passing-decides}

-- ---- some of the rows, in their order

sublist-trans : (xs ys zs : List (List Value)) → IsSublist xs ys → IsSublist ys zs → IsSublist xs zs
sublist-trans [] ys zs s t = tt
sublist-trans (x ∷ xs) [] zs s t = absurd s
sublist-trans (x ∷ xs) (y ∷ ys) [] s t = absurd t
sublist-trans (x ∷ xs) (y ∷ ys) (z ∷ zs) (inl (e, h)) (inl (f, k)) = inl (e ∙ f, sublist-trans xs ys zs h k)
sublist-trans (x ∷ xs) (y ∷ ys) (z ∷ zs) (inr h) (inl (f, k)) = inr (sublist-trans (x ∷ xs) ys zs h k)
sublist-trans (x ∷ xs) (y ∷ ys) (z ∷ zs) s (inr k) = inr (sublist-trans (x ∷ xs) (y ∷ ys) zs s k)

-- rows in block order that all stand among others in block order
within-sublist : (key : List ℕ) (rows some : List (List Value)) → IsStrictlySortedBy (block_cmp key) rows → IsStrictlySortedBy (block_cmp key) some → ((x : List Value) → Contains some x → Contains rows x) → IsSublist some rows
within-sublist key rows some s t h =
    let picked = kept_by (dec_mem some) rows in
    let sub : IsSublist picked rows = kept_by-sublist (dec_mem some) rows in
    let same : some ≡ picked =
    order_is key some picked t (λ x. (λ m. kept_by-keeps (dec_mem some) rows x (h x m) m, λ m. (kept_by-stored (dec_mem some) rows x m).1))
    ∙ sym (order_is key picked picked (sublist-sorted key picked rows sub s) (λ x. (λ m. m, λ m. m)))
    in
    subst (λ xs. IsSublist xs rows) (sym same) sub

-- ---- one table

module _ (key : List ℕ) (rows : List (List Value)) (tests : List ColumnTest) (preferred : List (List Value)) (is : IsPreferred key rows tests preferred) where
  abbrev rival : List Value → List Value → Bool
  rival x other = same_key key x other && passing tests other

  -- each block keeps a row
  keeps_one : (x : List Value) → Contains rows x → (y : List Value) × Contains preferred y × SharesKey key x y
  keeps_one x m = go (list_any (rival x) rows) refl
    where
      go : (b : Bool) → list_any (rival x) rows ≡ b → (y : List Value) × Contains preferred y × SharesKey key x y
      go true e =
          let r = any_from (rival x) rows e in
          let w = both (same_key key x r.0) (passing tests r.0) r.2 in
          (r.0, (is.members r.0).1 (r.1, inl ((passing-decides tests r.0).0 w.1)), (same_decides key x r.0).0 w.0)
      go false e = (
        x,
        (is.members x).1 (m, inr (λ other n s t. true≢false (sym (any_to (rival x) rows other n (and_both (same_key key x other) (passing tests other) ((same_decides key x other).1 s) ((passing-decides tests other).1 t))) ∙ e))),
        shares-self key x,
      )

  repair_of : (kept : List (List Value)) → IsStrictlySortedBy (block_cmp key) rows → IsTableRepair key preferred kept → IsTableRepair key rows kept
  repair_of kept s r = record {
    stored = sublist-trans kept preferred rows r.stored (within-sublist key rows preferred s is.in_order (λ x m. ((is.members x).0 m).0));
    one = λ x m. (let y = keeps_one x m in
        let o = r.one y.0 y.1 in
        record {
          row = o.row;
          is_kept = o.is_kept;
          shares = shares-trans key x y.0 o.row y.2 o.shares;
          only = λ z n t. o.only z n (shares-trans key y.0 x z (shares-sym key x y.0 y.2) t);
        });
  }

pub preferred_repairs : PreferredRepairs
preferred_repairs key rows tests preferred kept s is r = repair_of key rows tests preferred is kept s r

-- ---- a database

stored-with_rows : (db : List Table) (at : ℕ) (rows : List (List Value)) → stored (with_rows db at rows) ≡ set (stored db) at rows
stored-with_rows [] at rows = refl
stored-with_rows (t ∷ db) zero rows = refl
stored-with_rows (t ∷ db) (suc at) rows = ap (λ l. t.rows ∷ l) (stored-with_rows db at rows)

keys-with_rows : (db : List Table) (at : ℕ) (rows : List (List Value)) → keys_of (with_rows db at rows) ≡ keys_of db
keys-with_rows [] at rows = refl
keys-with_rows (t ∷ db) zero rows = refl
keys-with_rows (t ∷ db) (suc at) rows = ap (λ l. t.schema.key ∷ l) (keys-with_rows db at rows)

long : (db : List Table) → length (stored db) ≡ length db
long [] = refl
long (t ∷ db) = ap suc (long db)

-- the rows of a database's table are in block order
in_order-at : (db : List Table) → IsDatabase db → (at : ℕ) → at < length db → IsStrictlySortedBy (block_cmp (key_at db at)) (rows_at db at)
in_order-at db valid at inside = elim (slice_get_cases db at).1 [ inl h ↦ here h.0 h.2 (at, h.1, h.3) | inr h ↦ absurd (omega (arith, inside, h.0)) ]
  where
    here : (table : Table) → slice_get db at ≡ Some table → Contains db table → IsStrictlySortedBy (block_cmp (key_at db at)) (rows_at db at)
    here table e m =
        subst (λ key. IsStrictlySortedBy (block_cmp key) (rows_at db at)) (sym (key-at db at table e))
        (subst (λ rows. IsStrictlySortedBy (block_cmp table.schema.key) rows) (sym (rows-at db at table e)) (valid.each table m).in_order)

repairs_stay : (old : List Table) (table : ℕ) (tests : List ColumnTest) (new : List Table) (count : ℕ) (kept : List (List (List Value))) →
    IsDatabase old → table < length old → Prefers old table tests new count → IsRepair new kept → IsRepair old kept
repairs_stay old table tests new count kept valid there p r = record {
  size = r.size ∙ ap length tables ∙ length-set (stored old) table p.rows;
  each = λ t l. (let few = ap length tables ∙ length-set (stored old) table p.rows in one t l (r.each t (omega (arith, l, few))) (ℕ_discrete t table));
}
  where
    tables : stored new ≡ set (stored old) table p.rows
    tables = ap stored p.changed ∙ stored-with_rows old table p.rows

    keys : keys_of new ≡ keys_of old
    keys = ap keys_of p.changed ∙ keys-with_rows old table p.rows

    one : (t : ℕ) → t < length (stored old) → IsTableRepair (get_or (keys_of new) t []) (get_or (stored new) t []) (get_or kept t []) → Dec (t ≡ table) → IsTableRepair (get_or (keys_of old) t []) (get_or (stored old) t []) (get_or kept t [])
    one t l h (yes e) =
        let is : get_or (stored new) t [] ≡ p.rows = ap (λ ts. get_or ts t []) tables ∙ ap (λ n. get_or (set (stored old) n p.rows) t []) (sym e) ∙ get_or-set_same (stored old) t p.rows [] l in
        let moved : IsTableRepair (get_or (keys_of old) t []) p.rows (get_or kept t []) = subst (λ ks. IsTableRepair (get_or ks t []) p.rows (get_or kept t [])) keys (subst (λ rows. IsTableRepair (get_or (keys_of new) t []) rows (get_or kept t [])) is h) in
        let many = long old in
        preferred_repairs (get_or (keys_of old) t []) (get_or (stored old) t []) tests p.rows (get_or kept t []) (in_order-at old valid t (omega (arith, l, many))) (subst (λ n. IsPreferred (key_at old n) (rows_at old n) tests p.rows) (sym e) p.preferred) moved
    one t l h (no n) =
        let is : get_or (stored new) t [] ≡ get_or (stored old) t [] = ap (λ ts. get_or ts t []) tables ∙ get_or-set_other (stored old) table t p.rows [] n in
        subst (λ ks. IsTableRepair (get_or ks t []) (get_or (stored old) t []) (get_or kept t [])) keys (subst (λ rows. IsTableRepair (get_or (keys_of new) t []) rows (get_or kept t [])) is h)

pub preferring_keeps : PreferringKeeps
preferring_keeps = record {
  repairs = repairs_stay;
  certain = λ old table tests new count q row valid there p c kept r. c kept (repairs_stay old table tests new count kept valid there p r);
  possible = λ old table tests new count q row valid there p h. (h.0, repairs_stay old table tests new count h.0 valid there p h.1, h.2);
}
