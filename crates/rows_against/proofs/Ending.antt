-- Few of the rows that hit each witness tell why a row isn't certain.
use Rattle.std.proofs.Common.{◌≡◌, ◌≢◌, ◌<◌, ℕ, Bool, not, List, [], length, map, get_or, Option, Some, None, refl, sym, ◌∙◌, ap, subst, arith, Contains}
use Rattle.std.specs.List.{filter}
use Rattle.std.proofs.lemmas.List.{get_or-map, length-map}
use Rattle.std.proofs.lemmas.List.Elements.{Contains-get_or}
use Rattle.cqa_value.specs.declared.value.Value.{Value}
use Rattle.cqa_value.proofs.Words.{is_yes, no_of, clash_not, yes_of, member_place, Contains-map, Contains-from_map, Contains-filter}
use Rattle.cqa_model.specs.declared.query.Query.{Query}
use Rattle.cqa_model.specs.declared.query.RowId.{RowId}
use Rattle.cqa_model.specs.Database.{Table, keys_of, IsDatabase}
use Rattle.cqa_model.specs.Repairs.{SharesKey, IsRepair}
use Rattle.cqa_model.specs.Query.{IsWitness, FitsDatabase}
use Rattle.cqa_model.proofs.Repairs.{shares-trans}
use Rattle.join_access.specs.Listing.{AreAllNames, AreNamesOf, no_name}
use Rattle.join_access.proofs.Naming.{same-name}
use Rattle.row_witnesses.specs.Columns.{place_at}
use Rattle.row_witnesses.proofs.Told.{name_discrete}
use Rattle.table_blocks.specs.Tables.{AreStored}
use Rattle.rows_against.specs.Against.{row_named, KeepsName, AreOfOneBlock, ComesBefore, IsAgainst}
use Rattle.rows_against.specs.Hits.{IsRival, Hits, AreHit, IsHitBy}
use Rattle.rows_against.specs.Chosen.{AreChosenAgainst}
use Rattle.rows_against.specs.Fewest.{HasHit, AreFewest, IsNeeded}
use Rattle.rows_against.specs.Numbers.{row_name, AreHits}
use Rattle.rows_against.specs.Parts.{kept_name_at}
use Rattle.rows_against.proofs.Own.{own_of, own_at}
use Rattle.rows_against.proofs.Hitting.{block_sym, excludes, kept_with}
use Rattle.rows_against.proofs.Walking.{distinct}

block_trans : (db : List Table) (a b c : RowId) → AreOfOneBlock db a b → AreOfOneBlock db b c → AreOfOneBlock db a c
block_trans db a b c h k = (
  h.0 ∙ k.0,
  shares-trans (get_or (keys_of db) a.table []) (row_named db a) (row_named db b) (row_named db c) h.1 (subst (λ t. SharesKey (get_or (keys_of db) t []) (row_named db b) (row_named db c)) (sym h.0) k.1),
)

module _ (db : List Table) (q : Query) (row : List Value) (valid : IsDatabase db) (fits : FitsDatabase q db) (all : List (List RowId)) (h : AreAllNames q db row all) (names : List RowId)
    (chosen : AreChosenAgainst db q all names) (hits : List (List (Option ℕ))) (atoms : length hits ≡ length q.atoms) (are : AreHits db q all names hits) where
  abbrev ids_at : ℕ → List RowId
  ids_at i = get_or all i []

  its : (i : ℕ) → i < length all → AreNamesOf q db row (ids_at i)
  its i l = (h.exactly (ids_at i)).0 (Contains-get_or all i [] l)

  hit_by : (F : ℕ) → F < length hits → (i : ℕ) → i < length all → (found : Option ℕ) → get_or (get_or hits F []) i None ≡ found → IsHitBy db names (row_name q F (place_at (ids_at i) F)) found
  hit_by F lF i l found e = subst (IsHitBy db names (row_name q F (place_at (ids_at i) F))) e (are F lF i l)

  -- a number that hits a witness is that of a row that does
  pub hits_from : (i : ℕ) → i < length all → (k : ℕ) → HasHit hits i k → (k < length names) × Hits db (kept_name_at names k) (ids_at i)
  hits_from i l k (F, lF, e) =
      let by = hit_by F lF i l (Some k) e in
      let n = its i l in
      let own = own_at db q.atoms (ids_at i) n.0 n.2 F (omega (arith, lF, atoms)) in
      let is : own.0 ≡ row_name q F (place_at (ids_at i) F) = same-name own.0 (row_name q F (place_at (ids_at i) F)) own.2.table own.2.place in
      (by.0, (own.0, own.1, subst (IsRival db (kept_name_at names k)) (sym is) by.1))

  -- a row that hits a witness has a number that does
  pub hits_to : (i : ℕ) → i < length all → (name : RowId) → Contains names name → Hits db name (ids_at i) → (k : ℕ) × HasHit hits i k × (kept_name_at names k ≡ name)
  hits_to i l name m (own, mo, rival) =
      let n = its i l in
      let o = own_of db q.atoms (ids_at i) n.0 n.2 own mo in
      let lo = o.1.there in
      let is : own ≡ row_name q o.0 (place_at (ids_at i) o.0) = same-name own (row_name q o.0 (place_at (ids_at i) o.0)) o.1.table o.1.place in
      go o.0 (omega (arith, lo, atoms)) (subst (IsRival db name) is rival) (get_or (get_or hits o.0 []) i None) refl
    where
      go : (F : ℕ) → F < length hits → IsRival db name (row_name q F (place_at (ids_at i) F)) → (found : Option ℕ) → get_or (get_or hits F []) i None ≡ found → (k : ℕ) × HasHit hits i k × (kept_name_at names k ≡ name)
      go F lF r None e = absurd (hit_by F lF i l None e name m r)
      go F lF r (Some k) e =
          let by = hit_by F lF i l (Some k) e in
          let own' = row_name q F (place_at (ids_at i) F) in
          let block = block_trans db (kept_name_at names k) own' name by.1.0 (block_sym db name own' r.0) in
          (k, (F, lF, e), chosen.apart (kept_name_at names k) name (Contains-get_or names k no_name by.0) m block)

  pub each_hit : (i : ℕ) → i < length all → (k : ℕ) × HasHit hits i k
  each_hit i l =
      let one = chosen.hit (ids_at i) (Contains-get_or all i [] l) in
      let k = hits_to i l one.0 one.1 one.2 in
      (k.0, k.1)

  module _ (numbers : List ℕ) (few : AreFewest hits (length all) numbers) where
    abbrev result : List RowId
    result = map (λ number. get_or names number no_name) numbers

    pub below : (k : ℕ) → Contains numbers k → k < length names
    below k m = let n = few.needed k m in (hits_from n.witness n.there k n.last.0).0

    in_result : (name : RowId) → Contains result name → (k : ℕ) × Contains numbers k × (kept_name_at names k ≡ name)
    in_result name m = Contains-from_map (λ number. get_or names number no_name) numbers name m

    in_names : (name : RowId) → Contains result name → Contains names name
    in_names name m = let k = in_result name m in subst (Contains names) k.2 (Contains-get_or names k.0 no_name (below k.0 k.1))

    result_stored : AreStored db result
    result_stored name m = chosen.stored name (in_names name m)

    result_hit : AreHit db all result
    result_hit ids m = go (member_place all ids [] m)
      where
        go : (i : ℕ) × (i < length all) × (ids_at i ≡ ids) → (name : RowId) × Contains result name × Hits db name ids
        go (i, l, e) =
            let k = few.hit i l in
            (kept_name_at names k.0, Contains-map (λ number. get_or names number no_name) numbers k.0 k.2, subst (Hits db (kept_name_at names k.0)) e (hits_from i l k.0 k.1).1)

    -- the witness that a row is needed for is hit by no other
    module _ (name : RowId) (m : Contains result name) where
      abbrev number : ℕ
      number = (in_result name m).0

      needed : IsNeeded hits (length all) numbers number
      needed = few.needed number (in_result name m).1

      other_than : RowId → Bool
      other_than other = not (is_yes (name_discrete other name))

      abbrev others : List RowId
      others = filter other_than result

      in_others : (other : RowId) → Contains others other → Contains result other × (other ≢ name)
      unfolding other_than
      in_others other k = let f = (Contains-filter other_than result other).0 k in (f.0, λ e. clash_not (is_yes (name_discrete other name)) f.1 (yes_of (name_discrete other name) e))

      into_others : (other : RowId) → Contains result other → other ≢ name → Contains others other
      unfolding other_than
      into_others other k ne = (Contains-filter other_than result other).1 (k, ap not (no_of (name_discrete other name) ne))

      free : (other : RowId) → Contains others other → Hits db other (ids_at needed.witness) → ⊥
      free other k hit =
          let o = in_others other k in
          let a = hits_to needed.witness needed.there other (in_names other o.0) hit in
          let b = in_result other o.0 in
          let la = (hits_from needed.witness needed.there a.0 a.1).0 in
          let same : a.0 ≡ b.0 = distinct db q fits all names chosen a.0 b.0 la (below b.0 b.1) (a.2 ∙ sym b.2) in
          let alone : a.0 ≡ number = needed.alone a.0 a.1 (subst (Contains numbers) (sym same) b.1) in
          o.1 (sym a.2 ∙ ap (kept_name_at names) alone ∙ (in_result name m).2)

      others_stored : AreStored db others
      others_stored other k = result_stored other (in_others other k).0

      left_out : (kept : List (List (List Value))) × IsRepair db kept × ((other : RowId) → Contains result other → other ≢ name → KeepsName db kept other) × ((w : List (List Value)) × IsWitness q kept row w)
      left_out =
          let k = kept_with db q row valid fits all h others others_stored (λ a b ma mb block. chosen.apart a b (in_names a (in_others a ma).0) (in_names b (in_others b mb).0) block)
          (ids_at needed.witness) (Contains-get_or all needed.witness [] needed.there) free in
          (k.0, k.1, (λ other mo ne. k.2 other (into_others other mo ne)), k.3)

    pub against : IsAgainst db q row result
    against = record {
      stored = result_stored;
      chosen = λ name m. chosen.contested name (in_names name m);
      apart = λ a b ma mb block. chosen.apart a b (in_names a ma) (in_names b mb) block;
      in_order = order;
      excludes = excludes db q row valid fits all h result result_stored result_hit;
      minimal = left_out;
    }
      where
        at : (i : ℕ) → i < length numbers → get_or result i no_name ≡ kept_name_at names (get_or numbers i 0)
        at i l = get_or-map (λ number. get_or names number no_name) numbers i 0 no_name l

        order : (i j : ℕ) → i < j → j < length result → ComesBefore q (get_or result i no_name) (get_or result j no_name)
        order i j l lj =
            let size = length-map numbers (λ number. get_or names number no_name) in
            let li : i < length numbers = omega (arith, l, lj, size) in
            let lk : j < length numbers = omega (arith, lj, size) in
            subst (λ b. ComesBefore q (get_or result i no_name) b) (sym (at j lk)) (subst (λ a. ComesBefore q a (kept_name_at names (get_or numbers j 0))) (sym (at i li))
            (chosen.in_order (get_or numbers i 0) (get_or numbers j 0) (few.rising i j l lk) (below (get_or numbers j 0) (Contains-get_or numbers j 0 lk))))
