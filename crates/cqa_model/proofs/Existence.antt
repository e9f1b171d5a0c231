-- There is a repair: the last row of each block.
use Rattle.std.proofs.Common.{◌≡◌, ℕ, ◌<◌, inl, inr, List, [], ◌∷◌, length, get_or, refl, sym, subst, Contains}
use Rattle.cqa_value.specs.declared.value.Value.{Value}
use Rattle.cqa_model.specs.Repairs.{SharesKey, HasOne, IsTableRepair, IsRepairBy}
use Rattle.cqa_model.proofs.Classic.{mem-head, mem-tail, mem-nil, mem-cases, dec_some, choose}
use Rattle.cqa_model.proofs.Repairs.{sublist-drop, shares-self, shares-sym, shares-trans, dec_shares, one_of_block}

abbrev pub unless : {A : Type 0} → Dec A → List Value → List (List Value) → List (List Value)
unless (yes a) x xs = xs
unless (no f) x xs = x ∷ xs

abbrev pub dec_shared : (key : List ℕ) (kept : List (List Value)) (x : List Value) → Dec ((y : List Value) × Contains kept y × SharesKey key x y)
dec_shared key kept x = dec_some (λ y. SharesKey key x y) (λ y. dec_shares key x y) kept

abbrev pub last_rows : List ℕ → List (List Value) → List (List Value)
last_rows key [] = []
last_rows key (x ∷ xs) = unless (dec_shared key (last_rows key xs) x) x (last_rows key xs)

pub last_rows-repair : (key : List ℕ) (rows : List (List Value)) → IsTableRepair key rows (last_rows key rows)
last_rows-repair key [] = record { stored = tt; one = λ x m. absurd (mem-nil x m) }
last_rows-repair key (a ∷ rows) = go (last_rows key rows) (last_rows-repair key rows) (dec_shared key (last_rows key rows) a)
  where
    go : (kept : List (List Value)) → IsTableRepair key rows kept → (d : Dec ((y : List Value) × Contains kept y × SharesKey key a y)) → IsTableRepair key (a ∷ rows) (unless d a kept)
    go kept r (yes (y, m, s)) = record {
      stored = sublist-drop kept rows a r.stored;
      one = λ x mx. elim (mem-cases x a rows mx) [
        | inl e ↦ subst (λ z. HasOne key kept z) e (record {
          row = y;
          is_kept = m;
          shares = s;
          only = λ w mw sw. one_of_block key rows kept r w y mw m (shares-trans key w a y (shares-sym key a w sw) s);
        })
        | inr n ↦ r.one x n
      ];
    }
    go kept r (no f) = record {
      stored = inl (refl, r.stored);
      one = λ x mx. elim (mem-cases x a rows mx) [
        | inl e ↦ subst (λ z. HasOne key (a ∷ kept) z) e (record {
          row = a;
          is_kept = mem-head a kept;
          shares = shares-self key a;
          only = λ w mw sw. elim (mem-cases w a kept mw) [ inl g ↦ sym g | inr n ↦ absurd (f (w, n, sw)) ];
        })
        | inr n ↦ more x (r.one x n)
      ];
    }
      where
        more : (x : List Value) → HasOne key kept x → HasOne key (a ∷ kept) x
        more x o = record {
          row = o.row;
          is_kept = mem-tail o.row a kept o.is_kept;
          shares = o.shares;
          only = λ w mw sw. elim (mem-cases w a kept mw) [
            | inl g ↦ absurd (f (o.row, o.is_kept, shares-trans key a x o.row (shares-sym key x a (subst (λ z. SharesKey key x z) (sym g) sw)) o.shares))
            | inr n ↦ o.only w n sw
          ];
        }

pub some_repair : (keys : List (List ℕ)) (tables : List (List (List Value))) → (r : List (List (List Value))) × IsRepairBy keys tables r
some_repair keys tables = make (choose [] (length tables) (λ t kept. IsTableRepair (get_or keys t []) (get_or tables t []) kept)
    (λ t l. (last_rows (get_or keys t []) (get_or tables t []), last_rows-repair (get_or keys t []) (get_or tables t []))))
  where
    make : (r : List (List (List Value))) × (length r ≡ length tables) × ((t : ℕ) → t < length tables → IsTableRepair (get_or keys t []) (get_or tables t []) (get_or r t [])) →
        (r : List (List (List Value))) × IsRepairBy keys tables r
    make (r, l, h) = (r, record { size = l; each = h })
