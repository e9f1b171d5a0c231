-- Rows exclude a row where they hit each of its witnesses, and a witness that they don't hit is kept with them.
use Rattle.std.proofs.Common.{◌≡◌, ◌<◌, ◌⊎◌, inl, inr, ℕ, List, [], ◌++◌, length, get_or, Some, sym, ◌∙◌, ap, subst, Contains, slice_get}
use Rattle.std.proofs.lemmas.List.{length-map}
use Rattle.std.proofs.lemmas.List.Elements.{Contains-append_cases, Contains-append_left, Contains-append_right}
use Rattle.std.proofs.lemmas.Option.{slice_get_within}
use native.Mathlib.Decide.{ℕ_discrete}
use Rattle.cqa_value.specs.declared.value.Value.{Value}
use Rattle.cqa_value.proofs.Words.{dec_both}
use Rattle.cqa_model.specs.declared.query.Query.{Query}
use Rattle.cqa_model.specs.declared.query.RowId.{RowId}
use Rattle.cqa_model.specs.Database.{Table, stored, keys_of, IsDatabase}
use Rattle.cqa_model.specs.Repairs.{SharesKey, IsRepair}
use Rattle.cqa_model.specs.Query.{atom_at, rows_of, row_at, IsWitness, FitsDatabase}
use Rattle.cqa_model.proofs.Classic.{dec_some}
use Rattle.cqa_model.proofs.Fitting.{fits_tables}
use Rattle.cqa_model.proofs.Repairs.{dec_shares, one_of_block, shares-sym}
use Rattle.cqa_model.proofs.Values.{dec_not}
use Rattle.cqa_model.proofs.Witnesses.{witness-stored}
use Rattle.join_access.specs.Listing.{AreAllNames, AreNamesOf}
use Rattle.join_access.specs.Witnesses.{AreNamedRows}
use Rattle.join_access.proofs.Naming.{same-name, stand-once}
use Rattle.table_blocks.specs.Tables.{AreStored}
use Rattle.row_witnesses.specs.Columns.{place_at}
use Rattle.rows_against.specs.Against.{row_named, KeepsName, Excludes, AreOfOneBlock, AreOfDifferentBlocks}
use Rattle.rows_against.specs.Hits.{IsRival, Hits, AreHit}
use Rattle.rows_against.specs.Laws.{AgainstIsUncertain, RowsExcludeByHits}
use Rattle.rows_against.proofs.Own.{IsOwn, own_of, own_at, named, row_read, row_there, kept_together}

pub dec_rival : (db : List Table) (a b : RowId) → Dec (IsRival db a b)
dec_rival db a b = dec_both (dec_both (ℕ_discrete a.table b.table) (dec_shares (get_or (keys_of db) a.table []) (row_named db a) (row_named db b))) (dec_not (ℕ_discrete a.place b.place))

dec_hits : (db : List Table) (name : RowId) (ids : List RowId) → Dec (Hits db name ids)
dec_hits db name ids = dec_some (IsRival db name) (dec_rival db name) ids

pub block_sym : (db : List Table) (a b : RowId) → AreOfOneBlock db a b → AreOfOneBlock db b a
block_sym db a b h = (
  sym h.0,
  shares-sym (get_or (keys_of db) b.table []) (row_named db a) (row_named db b) (subst (λ t. SharesKey (get_or (keys_of db) t []) (row_named db a) (row_named db b)) h.0 h.1),
)

module _ (db : List Table) (q : Query) (row : List Value) (valid : IsDatabase db) (fits : FitsDatabase q db) where
  -- rows that a repair keeps of one block stand at one place
  pub one_place : (kept : List (List (List Value))) → IsRepair db kept → (a b : RowId) (x y : List Value) → slice_get (get_or (stored db) a.table []) a.place ≡ Some x →
      slice_get (get_or (stored db) b.table []) b.place ≡ Some y → a.table ≡ b.table → a.table < length (stored db) → SharesKey (get_or (keys_of db) a.table []) x y →
      Contains (get_or kept a.table []) x → Contains (get_or kept a.table []) y → a.place ≡ b.place
  one_place kept repair a b x y ax by ab there shares kx ky =
      let same : x ≡ y = one_of_block (get_or (keys_of db) a.table []) (get_or (stored db) a.table []) (get_or kept a.table []) (repair.each a.table there) x y kx ky shares in
      stand-once db valid a.table a.place b.place y (subst (λ z. slice_get (get_or (stored db) a.table []) a.place ≡ Some z) same ax) (subst (λ t. slice_get (get_or (stored db) t []) b.place ≡ Some y) (sym ab) by)

  tables : length (stored db) ≡ length db
  tables = length-map db (λ (table : Table). table.rows)

  -- a repair that keeps a row holds no witness that the row hits
  missed : (kept : List (List (List Value))) → IsRepair db kept → (w : List (List Value)) → IsWitness q kept row w → (ids : List RowId) → AreNamedRows db q.atoms ids w →
      (name : RowId) → slice_get (get_or (stored db) name.table []) name.place ≡ Some (row_named db name) → name.table < length (stored db) → KeepsName db kept name → Hits db name ids → ⊥
  missed kept repair w is ids named name read there keeps (own, mo, rival) =
      let o = own_of db q.atoms ids w named own mo in
      let F = o.0 in
      let table : name.table ≡ (atom_at q F).table = rival.0.0 ∙ o.1.table in
      let shares = subst (λ z. SharesKey (get_or (keys_of db) name.table []) (row_named db name) z) (row_read db own (row_at w F) o.1.row) rival.0.1 in
      rival.1 (one_place kept repair name own (row_named db name) (row_at w F) read o.1.row rival.0.0 there shares keeps
      (subst (λ t. Contains (get_or kept t []) (row_at w F)) (sym table) (is.kept F o.1.there)))

  module _ (all : List (List RowId)) (h : AreAllNames q db row all) (names : List RowId) (s : AreStored db names) where
    -- rows that hit each witness exclude the row
    pub excludes : AreHit db all names → Excludes db q row names
    excludes hit kept repair keeps w is =
        let stays : IsWitness q (stored db) row w = witness-stored q (keys_of db) (stored db) (fits_tables q db fits) row kept repair w is in
        let ids = named db q.atoms w stays.size stays.kept in
        let one = hit ids.0 ((h.exactly ids.0).1 (w, stays, ids.1)) in
        let there : one.0.table < length (stored db) = subst (λ n. one.0.table < n) (sym tables) (s one.0 one.1).0 in
        missed kept repair w is ids.0 ids.1 one.0 (row_there db names s one.0 one.1) there (keeps one.0 one.1) one.2

    module _ (apart : AreOfDifferentBlocks db names) (ids : List RowId) (m : Contains all ids) (free : (name : RowId) → Contains names name → Hits db name ids → ⊥) where
      abbrev its : AreNamesOf q db row ids
      its = (h.exactly ids).0 m

      abbrev w : List (List Value)
      w = its.0

      own : (a : RowId) → Contains ids a → (F : ℕ) × IsOwn db q.atoms ids w F a
      own a ma = own_of db q.atoms ids w its.2 a ma

      both-stored : AreStored db (names ++ ids)
      both-stored a ma = elim (Contains-append_cases names ids a ma) [
        | inl n ↦ s a n
        | inr n ↦ let o = own a n in (
          subst (λ t. t < length db) (sym o.1.table) (fits.there o.0 o.1.there),
          slice_get_within (get_or (stored db) a.table []) a.place (row_at w o.0) o.1.row,
        )
      ]

      both-own : (a b : RowId) → Contains ids a → Contains ids b → AreOfOneBlock db a b → a ≡ b
      both-own a b ma mb block =
          let oa = own a ma in
          let ob = own b mb in
          let atoms : oa.0 ≡ ob.0 = q.kept.apart oa.0 ob.0 oa.1.there ob.1.there (sym oa.1.table ∙ block.0 ∙ ob.1.table) in
          same-name a b block.0 (oa.1.place ∙ ap (place_at ids) atoms ∙ sym ob.1.place)

      name-own : (a b : RowId) → Contains names a → Contains ids b → AreOfOneBlock db a b → a ≡ b
      name-own a b ma mb block = go (ℕ_discrete a.place b.place)
        where
          go : Dec (a.place ≡ b.place) → a ≡ b
          go (yes e) = same-name a b block.0 e
          go (no ne) = absurd (free a ma (b, mb, (block, ne)))

      both-apart : AreOfDifferentBlocks db (names ++ ids)
      both-apart a b ma mb block = go (Contains-append_cases names ids a ma) (Contains-append_cases names ids b mb)
        where
          go : Contains names a ⊎ Contains ids a → Contains names b ⊎ Contains ids b → a ≡ b
          go (inl na) (inl nb) = apart a b na nb block
          go (inl na) (inr ib) = name-own a b na ib block
          go (inr ia) (inl nb) = sym (name-own b a nb ia (block_sym db a b block))
          go (inr ia) (inr ib) = both-own a b ia ib block

      -- a repair keeps the rows and holds a witness that they don't hit
      pub kept_with : (kept : List (List (List Value))) × IsRepair db kept × ((name : RowId) → Contains names name → KeepsName db kept name) × ((w : List (List Value)) × IsWitness q kept row w)
      kept_with = held (kept_together db (names ++ ids) both-stored both-apart)
        where
          held : (kept : List (List (List Value))) × IsRepair db kept × ((name : RowId) → Contains (names ++ ids) name → KeepsName db kept name) →
              (kept : List (List (List Value))) × IsRepair db kept × ((name : RowId) → Contains names name → KeepsName db kept name) × ((w : List (List Value)) × IsWitness q kept row w)
          held (kept, repair, keeps) = (kept, repair, (λ name n. keeps name (Contains-append_left names ids name n)), (w, record { size = its.1.size; kept = stays; holds = its.1.holds; answers = its.1.answers }))
            where
              stays : (F : ℕ) → F < length q.atoms → Contains (rows_of q kept F) (row_at w F)
              stays F l =
                  let o = own_at db q.atoms ids w its.2 F l in
                  let k : Contains (get_or kept o.0.table []) (row_named db o.0) = keeps o.0 (Contains-append_right names ids o.0 o.1) in
                  subst (λ t. Contains (get_or kept t []) (row_at w F)) o.2.table (subst (λ x. Contains (get_or kept o.0.table []) x) (row_read db o.0 (row_at w F) o.2.row) k)

    -- rows of different blocks that exclude the row hit each witness
    pub hit_each : AreOfDifferentBlocks db names → Excludes db q row names → AreHit db all names
    hit_each apart excluded ids m = go (dec_some (λ name. Hits db name ids) (λ name. dec_hits db name ids) names)
      where
        go : Dec ((name : RowId) × Contains names name × Hits db name ids) → (name : RowId) × Contains names name × Hits db name ids
        go (yes hit) = hit
        go (no none) = let k = kept_with apart ids m (λ name n hit. none (name, n, hit)) in absurd (excluded k.0 k.1 k.2 k.3.0 k.3.1)

pub rows_exclude_by_hits : RowsExcludeByHits
rows_exclude_by_hits db q row all names valid fits h s apart = (hit_each db q row valid fits all h names s apart, excludes db q row valid fits all h names s)

pub against_is_uncertain : AgainstIsUncertain
against_is_uncertain db q row names h certain =
    let kept = kept_together db names h.stored h.apart in
    let w = certain kept.0 kept.1 in
    h.excludes kept.0 kept.1 kept.2 w.0 w.1
