-- The rows that a repair without a witness had to choose hit each witness, and few of them do.
use Rattle.std.proofs.Common.{◌≡◌, ◌<◌, ℕ, List, [], length, get_or, Option, Some, None, sym, subst}
use Rattle.cqa_value.proofs.Words.{dec_one_below, member_place}
use Rattle.cqa_model.specs.declared.query.Query.{Query}
use Rattle.cqa_model.specs.declared.query.RowId.{RowId}
use Rattle.cqa_model.specs.Database.{Table}
use Rattle.cqa_model.proofs.Classic.{choose}
use Rattle.existence_law.proofs.Rejecting.{rejections_exist}
use Rattle.join_access.specs.Listing.{AreAllNames, no_name}
use Rattle.join_witness.proofs.Listing.{all_names}
use Rattle.row_witnesses.specs.Columns.{place_at}
use Rattle.rows_against.specs.Against.{IsAgainst}
use Rattle.rows_against.specs.Chosen.{AreChosenAgainst}
use Rattle.rows_against.specs.Hits.{IsRival, IsHitBy}
use Rattle.rows_against.specs.Numbers.{row_name, AreHitsAt, AreHits}
use Rattle.rows_against.specs.Parts.{kept_name_at}
use Rattle.rows_against.proofs.Ending.{hits_from, each_hit, against}
use Rattle.rows_against.proofs.Rejecting.{rejecting_chosen}
use Rattle.rows_against.proofs.Hitting.{dec_rival}
use Rattle.existence_law.specs.Against.{RowsAgainstExist}
use Rattle.existence_law.proofs.Choosing.{fewest}

-- the number of the one that hits a row, if one does
hit_by : (db : List Table) (names : List RowId) (own : RowId) → (found : Option ℕ) × IsHitBy db names own found
hit_by db names own = go (dec_one_below (λ k. IsRival db (kept_name_at names k) own) (λ k. dec_rival db (kept_name_at names k) own) (length names))
  where
    go : Dec ((k : ℕ) × (k < length names) × IsRival db (kept_name_at names k) own) → (found : Option ℕ) × IsHitBy db names own found
    go (yes (k, l, r)) = (Some k, (l, r))
    go (no f) = (None, λ name m r. let p = member_place names name no_name m in f (p.0, p.1, subst (λ (x : RowId). IsRival db x own) (sym p.2) r))

module _ (db : List Table) (q : Query) (all : List (List RowId)) (names : List RowId) where
  hits_at : (F : ℕ) → (found : List (Option ℕ)) × AreHitsAt db q all names F found
  hits_at F =
      let own : ℕ → RowId = λ i. row_name q F (place_at (get_or all i []) F) in
      let c = choose None (length all) (λ i found. IsHitBy db names (own i) found) (λ i l. hit_by db names (own i)) in
      (c.0, c.2)

  hits : (hits : List (List (Option ℕ))) × (length hits ≡ length q.atoms) × AreHits db q all names hits
  hits = go (choose [] (length q.atoms) (AreHitsAt db q all names) (λ F l. hits_at F))
    where
      go : (xs : List (List (Option ℕ))) × (length xs ≡ length q.atoms) × ((F : ℕ) → F < length q.atoms → AreHitsAt db q all names F (get_or xs F [])) →
          (hits : List (List (Option ℕ))) × (length hits ≡ length q.atoms) × AreHits db q all names hits
      go (xs, size, each) = (xs, size, λ F l. each F (subst (λ n. F < n) size l))

pub rows_against_exist : RowsAgainstExist
rows_against_exist db q row valid fits uncertain =
    let all = all_names db q row in
    let rejecting = rejections_exist db q row fits uncertain in
    of_names all.0 all.1 rejecting.0 (rejecting_chosen db q row valid fits all.0 all.1 rejecting.0 rejecting.1.0)
  where
    of_names : (all : List (List RowId)) → AreAllNames q db row all → (names : List RowId) → AreChosenAgainst db q all names → (names : List RowId) × IsAgainst db q row names
    of_names all h names chosen = of_hits (hits db q all names)
      where
        of_hits : (hits : List (List (Option ℕ))) × (length hits ≡ length q.atoms) × AreHits db q all names hits → (names : List RowId) × IsAgainst db q row names
        of_hits (hs, size, are) =
            let few = fewest hs (length all) (length names) (λ i l k has. (hits_from db q row valid fits all h names chosen hs size are i l k has).0) (λ i l. each_hit db q row valid fits all h names chosen hs size are i l) in
            (_, against db q row valid fits all h names chosen hs size are few.0 few.1)
