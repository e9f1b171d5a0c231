-- Lists that free rows keep from being whole.
use Rattle.std.proofs.Common.{◌≡◌, List, length, refl, Contains, Bool, true, false}
use Rattle.cqa_value.proofs.Words.{yes_of, no_of, is_yes, dec_one_below}
use Rattle.cqa_model.specs.declared.query.RowId.{RowId}
use Rattle.cqa_model.specs.Database.{Table}
use Rattle.cqa_model.specs.Repairs.{SharesKey}
use Rattle.cqa_model.proofs.Classic.{dec_both}
use Rattle.cqa_model.proofs.Values.{dec_by, dec_not}
use Rattle.cqa_model.proofs.Repairs.{dec_shares}
use Rattle.table_blocks.specs.Tables.{rows_at, key_at}
use Rattle.row_lists.specs.Lists.{name, named, IsStored, IsIn, AreStoredLists, IsOfBlock, HasFree, SatisfiesNames}
use Rattle.row_lists.specs.Laws.{AvoidedByFree}
use Rattle.row_lists.proofs.Words.{dec_in, block-self}
use Rattle.row_lists.proofs.Lists.{names_decide}

module _ (db : List Table) (lists : List (List RowId)) (st : AreStoredLists db lists) where
  dec_free : (id : RowId) → Dec (HasFree db lists id)
  dec_free id = dec_by (λ h. record { free = h.0; there = h.1; shares = h.2.0; apart = h.2.1 }) (λ h. (h.free, h.there, (h.shares, h.apart)))
      (dec_one_below (λ p. SharesKey (key_at db id.table) (named db id) (named db (name id.table p)) × (IsIn lists (name id.table p) → ⊥))
      (λ p. dec_both (dec_shares (key_at db id.table) (named db id) (named db (name id.table p))) (dec_not (dec_in lists (name id.table p)))) (length (rows_at db id.table)))

  -- all rows but the loose ones stay
  dec_stays : (id : RowId) → Dec ((IsIn lists id × HasFree db lists id) → ⊥)
  dec_stays id = dec_not (dec_both (dec_in lists id) (dec_free id))

  stays : RowId → Bool
  stays id = is_yes (dec_stays id)

  satisfied : ((names : List RowId) → Contains lists names → (id : RowId) × Contains names id × HasFree db lists id) → SatisfiesNames db lists (λ id. is_yes (dec_stays id))
  satisfied h = record { blocks = λ id i. block id i (dec_free id); each = list }
    where
      block : (id : RowId) → IsIn lists id → Dec (HasFree db lists id) → (n : RowId) × IsStored db n × IsOfBlock db id n × (is_yes (dec_stays n) ≡ true)
      block id i (no f) = (id, st id i, block-self db id, yes_of (dec_stays id) (λ q. f q.1))
      block id i (yes g) = (name id.table g.free, ((st id i).0, g.there), (refl, g.shares), yes_of (dec_stays (name id.table g.free)) (λ q. g.apart q.0))

      list : (names : List RowId) → Contains lists names → (id : RowId) × Contains names id × (is_yes (dec_stays id) ≡ false)
      list names m = let p = h names m in (p.0, p.1, no_of (dec_stays p.0) (λ g. g ((names, m, p.1), p.2)))

pub avoided_by_free : AvoidedByFree
avoided_by_free db lists d st h forced = (names_decide db lists d st).0 forced (λ id. is_yes (dec_stays db lists st id)) (satisfied db lists st h)
