-- Every repair keeps a list whole exactly where no assignment of names satisfies the lists.
use Rattle.std.proofs.Common.{◌≡◌, ℕ, ◌<◌, ◌⊎◌, inl, inr, List, [], length, get_or, Some, refl, sym, ◌∙◌, ap, subst, Contains, Bool, true, false}
use Rattle.std.proofs.Math.Bool.{Bool-discrete}
use Rattle.std.proofs.lemmas.List.{length-map}
use Rattle.std.proofs.lemmas.List.Elements.{Contains-get_or}
use Rattle.std.proofs.lemmas.Option.{slice_get-get_or, get_or_from_slice_get}
use Rattle.cqa_value.specs.declared.value.Value.{Value}
use Rattle.cqa_value.proofs.Words.{clash, yes_of, no_of, is_yes, dec_one_below}
use Rattle.cqa_model.specs.declared.query.RowId.{RowId}
use Rattle.cqa_model.specs.Database.{Table, IsDatabase, stored, keys_of}
use Rattle.cqa_model.specs.Repairs.{SharesKey, HasOne, IsRepairBy, IsTableRepair}
use Rattle.cqa_model.proofs.Classic.{stable, dec_both, dec_each, dec_some, dec_mem, find_in}
use Rattle.cqa_model.proofs.Values.{row_discrete}
use Rattle.cqa_model.proofs.Repairs.{sublist-stored}
use Rattle.cqa_model.proofs.Preferring.{preferring}
use Rattle.table_blocks.specs.Tables.{rows_at, key_at}
use Rattle.join_access.proofs.Naming.{stand-once, same-name}
use Rattle.row_lists.proofs.Numbers.{place_of}
use Rattle.row_lists.specs.Lists.{name, named, IsStored, KeepsAll, IsForced, IsIn, AreStoredLists, IsOfBlock, SatisfiesNames}
use Rattle.row_lists.specs.Laws.{NamesDecide}

module _ (db : List Table) (lists : List (List RowId)) (d : IsDatabase db) (st : AreStoredLists db lists) where
  -- a table of a name is one that a repair repairs
  within : (t : ℕ) → t < length db → t < length (stored db)
  within t l = subst (λ n. t < n) (sym (length-map db (λ (table : Table). table.rows))) l

  unsatisfied : IsForced db lists → (a : RowId → Bool) → SatisfiesNames db lists a → ⊥
  unsatisfied forced a s = go (preferring (keys_of db) (stored db) IsTrueRow dec_true)
    where
      IsTrueRow : ℕ → List Value → Type 0
      IsTrueRow t x = (p : ℕ) × (p < length (rows_at db t)) × ((get_or (rows_at db t) p [] ≡ x) × (a (name t p) ≡ true))

      dec_true : (t : ℕ) (x : List Value) → Dec (IsTrueRow t x)
      dec_true t x = dec_one_below (λ p. (get_or (rows_at db t) p [] ≡ x) × (a (name t p) ≡ true)) (λ p. dec_both (row_discrete (get_or (rows_at db t) p []) x) (Bool-discrete (a (name t p)) true)) (length (rows_at db t))

      go : (r : List (List (List Value))) × IsRepairBy (keys_of db) (stored db) r × ((t : ℕ) → t < length (stored db) → (x z : List Value) → Contains (get_or (stored db) t []) x → IsTrueRow t x →
          Contains (get_or r t []) z → SharesKey (get_or (keys_of db) t []) z x → IsTrueRow t z) → ⊥
      go (r, hr, prefers) = of_list (forced r hr)
        where
          of_list : ((names : List RowId) × Contains lists names × KeepsAll db r names) → ⊥
          of_list (names, m, keeps) = of_name (s.each names m)
            where
              of_name : ((id : RowId) × Contains names id × (a id ≡ false)) → ⊥
              of_name (id, mid, ea) = of_block (s.blocks id (names, m, mid))
                where
                  sid : IsStored db id
                  sid = st id (names, m, mid)

                  of_row : IsTrueRow id.table (named db id) → ⊥
                  of_row (p, l, (e, ep)) =
                      let same : p ≡ id.place = stand-once db d id.table p id.place (named db id) (slice_get-get_or (rows_at db id.table) p [] l ∙ ap Some e) (slice_get-get_or (rows_at db id.table) id.place [] sid.1) in
                      clash (a id) (subst (λ r. a (name id.table r) ≡ true) same ep) ea

                  of_block : ((n : RowId) × IsStored db n × IsOfBlock db id n × (a n ≡ true)) → ⊥
                  of_block (n, sn, b, en) =
                      let is : n ≡ name id.table n.place = same-name n (name id.table n.place) (sym b.0) refl in
                      let x = named db (name id.table n.place) in
                      let l : n.place < length (rows_at db id.table) = subst (λ t. n.place < length (rows_at db t)) (sym b.0) sn.1 in
                      of_row (prefers id.table (within id.table sid.0) x (named db id) (Contains-get_or (rows_at db id.table) n.place [] l)
                      (n.place, l, (refl, subst (λ z. a z ≡ true) is en)) (keeps id mid) (subst (λ z. SharesKey (key_at db id.table) (named db id) (named db z)) is b.1))

  forced_of : ((a : RowId → Bool) → SatisfiesNames db lists a → ⊥) → IsForced db lists
  forced_of unsat kept hr =
      stable (dec_some (KeepsAll db kept) (λ names. dec_each (λ id. IsKept id) dec_kept names) lists)
      (λ none. unsat a (record { blocks = block; each = λ names m. missing names m none (find_in (λ id. IsKept id) dec_kept names) }))
    where
      IsKept : RowId → Type 0
      IsKept id = Contains (get_or kept id.table []) (named db id)

      dec_kept : (id : RowId) → Dec (IsKept id)
      dec_kept id = dec_mem (get_or kept id.table []) (named db id)

      a : RowId → Bool
      a id = is_yes (dec_kept id)

      block : (id : RowId) → IsIn lists id → (n : RowId) × IsStored db n × IsOfBlock db id n × (a n ≡ true)
      block id i = of_one (rep.one (named db id) (Contains-get_or (rows_at db id.table) id.place [] sid.1))
        where
          sid : IsStored db id
          sid = st id i

          rep : IsTableRepair (key_at db id.table) (rows_at db id.table) (get_or kept id.table [])
          rep = hr.each id.table (within id.table sid.0)

          of_one : HasOne (key_at db id.table) (get_or kept id.table []) (named db id) → (n : RowId) × IsStored db n × IsOfBlock db id n × (a n ≡ true)
          of_one o =
              let p = place_of (rows_at db id.table) o.row (sublist-stored (get_or kept id.table []) (rows_at db id.table) rep.stored o.row o.is_kept) in
              let n = name id.table p.0 in
              let is : named db n ≡ o.row = get_or_from_slice_get (rows_at db id.table) p.0 o.row [] p.2 in (
                n,
                (sid.0, p.1),
                (refl, subst (λ z. SharesKey (key_at db id.table) (named db id) z) (sym is) o.shares),
                yes_of (dec_kept n) (subst (λ z. Contains (get_or kept id.table []) z) (sym is) o.is_kept),
              )

      missing : (names : List RowId) → Contains lists names → (((names : List RowId) × Contains lists names × KeepsAll db kept names) → ⊥) →
          ((id : RowId) → Contains names id → IsKept id) ⊎ ((id : RowId) × Contains names id × (IsKept id → ⊥)) → (id : RowId) × Contains names id × (a id ≡ false)
      missing names m none (inl all) = absurd (none (names, m, all))
      missing names m none (inr (id, mid, f)) = (id, mid, no_of (dec_kept id) f)

pub names_decide : NamesDecide
names_decide db lists d st = (unsatisfied db lists d st, forced_of db lists d st)
