-- Repairs that keep preferred rows: of each block that has one, a preferred row.
use Rattle.std.proofs.Common.{◌≡◌, ℕ, ◌<◌, ◌⊎◌, inl, inr, List, [], length, get_or, Contains}
use Rattle.cqa_value.specs.declared.value.Value.{Value}
use Rattle.cqa_model.specs.Repairs.{SharesKey, HasOne, IsTableRepair, IsRepairBy}
use Rattle.cqa_model.proofs.Classic.{dec_both, dec_or, dec_some, dec_mem, kept_by, kept_by-stored, kept_by-keeps, choose}
use Rattle.cqa_model.proofs.Values.{dec_not}
use Rattle.cqa_model.proofs.Repairs.{kept_by-sublist, sublist-stored, shares-sym, shares-trans, dec_shares, one_of_block}
use Rattle.cqa_model.proofs.Existence.{last_rows, last_rows-repair}

-- a repair of one table that keeps a preferred row of each block that has one
module _ (key : List ℕ) (rows : List (List Value)) (P : List Value → Type 0) (d : (x : List Value) → Dec (P x)) where
  abbrev preferred : List (List Value)
  preferred = last_rows key (kept_by d rows)

  abbrev IsChosen : List Value → Type 0
  IsChosen x = Contains preferred x ⊎ (Contains (last_rows key rows) x × (((y : List Value) × Contains preferred y × SharesKey key x y) → ⊥))

  dec_preferred : (x : List Value) → Dec ((y : List Value) × Contains preferred y × SharesKey key x y)
  dec_preferred x = dec_some (λ y. SharesKey key x y) (λ y. dec_shares key x y) preferred

  dec_chosen : (x : List Value) → Dec (IsChosen x)
  dec_chosen x = dec_or (dec_mem preferred x) (dec_both (dec_mem (last_rows key rows) x) (dec_not (dec_preferred x)))

  abbrev chosen : List (List Value)
  chosen = kept_by dec_chosen rows

  first : IsTableRepair key (kept_by d rows) preferred
  first = last_rows-repair key (kept_by d rows)

  second : IsTableRepair key rows (last_rows key rows)
  second = last_rows-repair key rows

  preferred-stored : (x : List Value) → Contains preferred x → Contains rows x × P x
  preferred-stored x m = kept_by-stored d rows x (sublist-stored preferred (kept_by d rows) first.stored x m)

  out : (x : List Value) → Contains chosen x → IsChosen x
  out x m = (kept_by-stored dec_chosen rows x m).1

  chosen-repair : IsTableRepair key rows chosen
  chosen-repair = record { stored = kept_by-sublist dec_chosen rows; one = λ x m. go x m (dec_preferred x) }
    where
      go : (x : List Value) → Contains rows x → Dec ((y : List Value) × Contains preferred y × SharesKey key x y) → HasOne key chosen x
      go x m (yes (y, my, xy)) = record {
        row = y;
        is_kept = kept_by-keeps dec_chosen rows y (preferred-stored y my).0 (inl my);
        shares = xy;
        only = λ z mz xz. elim (out z mz) [
          | inl n ↦ one_of_block key (kept_by d rows) preferred first z y n my (shares-trans key z x y (shares-sym key x z xz) xy)
          | inr n ↦ absurd (n.1 (y, my, shares-trans key z x y (shares-sym key x z xz) xy))
        ];
      }
      go x m (no f) =
          let o : HasOne key (last_rows key rows) x = second.one x m in
          record {
            row = o.row;
            is_kept = kept_by-keeps dec_chosen rows o.row (sublist-stored (last_rows key rows) rows second.stored o.row o.is_kept) (inr (o.is_kept, λ h. f (h.0, h.1, shares-trans key x o.row h.0 o.shares h.2)));
            shares = o.shares;
            only = λ z mz xz. elim (out z mz) [ inl n ↦ absurd (f (z, n, xz)) | inr n ↦ o.only z n.0 xz ];
          }

  -- where the block has a preferred row, one is kept
  chosen-prefers : (x z : List Value) → Contains rows x → P x → Contains chosen z → SharesKey key z x → P z
  chosen-prefers x z mx px mz zx = elim (out z mz) [
    | inl n ↦ (preferred-stored z n).1
    | inr n ↦ let o : HasOne key preferred x = first.one x (kept_by-keeps d rows x mx px) in absurd (n.1 (o.row, o.is_kept, shares-trans key z x o.row zx o.shares))
  ]

-- a repair of all tables that keeps, of each block that has a preferred row, a preferred one
pub preferring : (keys : List (List ℕ)) (tables : List (List (List Value))) (P : ℕ → List Value → Type 0) → ((t : ℕ) (x : List Value) → Dec (P t x)) →
    (r : List (List (List Value))) × IsRepairBy keys tables r × ((t : ℕ) → t < length tables → (x z : List Value) → Contains (get_or tables t []) x → P t x →
    Contains (get_or r t []) z → SharesKey (get_or keys t []) z x → P t z)
preferring keys tables P d = made (choose [] (length tables) Good (λ t l. (
  chosen (get_or keys t []) (get_or tables t []) (P t) (d t),
  (chosen-repair (get_or keys t []) (get_or tables t []) (P t) (d t), chosen-prefers (get_or keys t []) (get_or tables t []) (P t) (d t)),
)))
  where
    Good : ℕ → List (List Value) → Type 0
    Good t kept = IsTableRepair (get_or keys t []) (get_or tables t []) kept × ((x z : List Value) → Contains (get_or tables t []) x → P t x → Contains kept z → SharesKey (get_or keys t []) z x → P t z)

    made : (r : List (List (List Value))) × (length r ≡ length tables) × ((t : ℕ) → t < length tables → Good t (get_or r t [])) →
        (r : List (List (List Value))) × IsRepairBy keys tables r × ((t : ℕ) → t < length tables → (x z : List Value) → Contains (get_or tables t []) x → P t x →
        Contains (get_or r t []) z → SharesKey (get_or keys t []) z x → P t z)
    made (r, size, h) = (r, record { size = size; each = λ t l. (h t l).0 }, λ t l. (h t l).1)
