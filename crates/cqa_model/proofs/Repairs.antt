-- Repairs: what they keep, one row exchanged for another of its block, and that there is one.
use Rattle.std.proofs.Common.{◌≡◌, ℕ, ◌<◌, ◌≢◌, ◌⊎◌, inl, inr, List, [], ◌∷◌, length, get_or, set, refl, sym, ◌∙◌, subst, Contains, length-set, get_or-set_same, get_or-set_other}
use native.Mathlib.Decide.{ℕ_discrete}
use Rattle.cqa_value.specs.declared.value.Value.{Value}
use Rattle.cqa_model.specs.Repairs.{SharesKey, IsSublist, HasOne, IsTableRepair, IsRepairBy}
use Rattle.cqa_model.specs.Database.{nothing}
use Rattle.cqa_model.proofs.Classic.{mem-head, mem-tail, mem-nil, mem-cases, mem-eq, dec_both, dec_or, dec_if, dec_each, dec_mem, keep, kept_by, kept_by-stored, kept_by-keeps}
use Rattle.cqa_model.proofs.Values.{value_discrete, row_discrete}

pub sublist-stored : (xs ys : List (List Value)) → IsSublist xs ys → (x : List Value) → Contains xs x → Contains ys x
sublist-stored [] ys s x m = absurd (mem-nil x m)
sublist-stored (a ∷ xs) [] s x m = absurd s
sublist-stored (a ∷ xs) (b ∷ ys) (inl p) x m = elim (mem-cases x a xs m) [
  | inl e ↦ mem-eq b x (b ∷ ys) (sym p.0 ∙ e) (mem-head b ys)
  | inr n ↦ mem-tail x b ys (sublist-stored xs ys p.1 x n)
]
sublist-stored (a ∷ xs) (b ∷ ys) (inr s) x m = mem-tail x b ys (sublist-stored (a ∷ xs) ys s x m)

pub sublist-drop : (xs ys : List (List Value)) (y : List Value) → IsSublist xs ys → IsSublist xs (y ∷ ys)
sublist-drop [] ys y s = tt
sublist-drop (x ∷ xs) ys y s = inr s

pub kept_by-sublist : {P : List Value → Type 0} (d : (x : List Value) → Dec (P x)) (xs : List (List Value)) → IsSublist (kept_by d xs) xs
kept_by-sublist d [] = tt
kept_by-sublist {P} d (y ∷ ys) = go (d y) (kept_by-sublist d ys)
  where
    go : (c : Dec (P y)) → IsSublist (kept_by d ys) ys → IsSublist (keep c y (kept_by d ys)) (y ∷ ys)
    go (yes p) s = inl (refl, s)
    go (no f) s = sublist-drop (kept_by d ys) ys y s

pub shares-self : (key : List ℕ) (x : List Value) → SharesKey key x x
shares-self key x p m = refl

pub shares-sym : (key : List ℕ) (x y : List Value) → SharesKey key x y → SharesKey key y x
shares-sym key x y s p m = sym (s p m)

pub shares-trans : (key : List ℕ) (x y z : List Value) → SharesKey key x y → SharesKey key y z → SharesKey key x z
shares-trans key x y z s t p m = s p m ∙ t p m

pub shares-eq : (key : List ℕ) (x y : List Value) → x ≡ y → SharesKey key x y
shares-eq key x y e = subst (λ z. SharesKey key x z) e (shares-self key x)

pub dec_shares : (key : List ℕ) (x y : List Value) → Dec (SharesKey key x y)
dec_shares key x y = dec_each (λ p. get_or x p nothing ≡ get_or y p nothing) (λ p. value_discrete (get_or x p nothing) (get_or y p nothing)) key

-- two kept rows of one block are one
pub one_of_block : (key : List ℕ) (rows kept : List (List Value)) → IsTableRepair key rows kept → (x y : List Value) →
    Contains kept x → Contains kept y → SharesKey key x y → x ≡ y
one_of_block key rows kept r x y mx my s =
    let o : HasOne key kept x = r.one x (sublist-stored kept rows r.stored x mx) in
    o.only x mx (shares-self key x) ∙ sym (o.only y my s)

-- what is kept once b stands for a
abbrev pub IsExchanged : List (List Value) → List Value → List Value → List Value → Type 0
IsExchanged kept a b x = (x ≡ b) ⊎ (Contains kept x × (x ≡ a → ⊥))

pub dec_exchanged : (kept : List (List Value)) (a b x : List Value) → Dec (IsExchanged kept a b x)
dec_exchanged kept a b x = dec_or (row_discrete x b) (dec_both (dec_mem kept x) (dec_if (row_discrete x a) (no (λ e. e))))

abbrev pub exchanged_rows : List (List Value) → List (List Value) → List Value → List Value → List (List Value)
exchanged_rows rows kept a b = kept_by (dec_exchanged kept a b) rows

pub exchanged_repair : (key : List ℕ) (rows kept : List (List Value)) → IsTableRepair key rows kept → (a b : List Value) →
    Contains kept a → Contains rows b → SharesKey key a b → IsTableRepair key rows (exchanged_rows rows kept a b)
exchanged_repair key rows kept r a b ma mb ab =
    record { stored = kept_by-sublist (dec_exchanged kept a b) rows; one = λ x mx. go x mx (r.one x mx) (row_discrete (r.one x mx).row a) }
  where
    into : (x : List Value) → Contains rows x → IsExchanged kept a b x → Contains (exchanged_rows rows kept a b) x
    into x mx p = kept_by-keeps (dec_exchanged kept a b) rows x mx p

    out : (x : List Value) → Contains (exchanged_rows rows kept a b) x → IsExchanged kept a b x
    out x m = (kept_by-stored (dec_exchanged kept a b) rows x m).1

    stored : (x : List Value) → Contains kept x → Contains rows x
    stored x m = sublist-stored kept rows r.stored x m

    go : (x : List Value) → Contains rows x → (o : HasOne key kept x) → Dec (o.row ≡ a) → HasOne key (exchanged_rows rows kept a b) x
    go x mx o (yes e) = record {
      row = b;
      is_kept = into b mb (inl refl);
      shares = shares-trans key x a b (subst (λ z. SharesKey key x z) e o.shares) ab;
      only = λ y my s. elim (out y my) [ inl h ↦ h | inr h ↦ absurd (h.1 (o.only y h.0 s ∙ e)) ];
    }
    go x mx o (no f) = record {
      row = o.row;
      is_kept = into o.row (stored o.row o.is_kept) (inr (o.is_kept, f));
      shares = o.shares;
      only = λ y my s. elim (out y my) [
        | inl h ↦ absurd (f (sym (o.only a ma (shares-trans key x b a (subst (λ z. SharesKey key x z) h s) (shares-sym key a b ab)))))
        | inr h ↦ o.only y h.0 s
      ];
    }

-- a whole repair with b for a in the table at t
abbrev pub exchange : List (List (List Value)) → List (List (List Value)) → ℕ → List Value → List Value → List (List (List Value))
exchange tables kept t a b = set kept t (exchanged_rows (get_or tables t []) (get_or kept t []) a b)

module _ (keys : List (List ℕ)) (tables kept : List (List (List Value))) (r : IsRepairBy keys tables kept) (t : ℕ) (in' : t < length tables) (a b : List Value)
    (ma : Contains (get_or kept t []) a) (mb : Contains (get_or tables t []) b) (ab : SharesKey (get_or keys t []) a b) where
  at_kept : t < length kept
  at_kept = subst (λ n. t < n) (sym r.size) in'

  same_at : get_or (exchange tables kept t a b) t [] ≡ exchanged_rows (get_or tables t []) (get_or kept t []) a b
  same_at = let l : t < length kept = at_kept in rw get_or-set_same

  pub exchange-elsewhere : (u : ℕ) → u ≢ t → get_or (exchange tables kept t a b) u [] ≡ get_or kept u []
  exchange-elsewhere u ne = rw get_or-set_other

  pub exchange-repair : IsRepairBy keys tables (exchange tables kept t a b)
  exchange-repair = record { size = length-set kept t _ ∙ r.size; each = λ u l. go u l (ℕ_discrete u t) }
    where
      go : (u : ℕ) → u < length tables → Dec (u ≡ t) → IsTableRepair (get_or keys u []) (get_or tables u []) (get_or (exchange tables kept t a b) u [])
      go u l (no ne) = subst (λ z. IsTableRepair (get_or keys u []) (get_or tables u []) z) (sym (exchange-elsewhere u ne)) (r.each u l)
      go u l (yes e) =
          subst (λ v. IsTableRepair (get_or keys v []) (get_or tables v []) (get_or (exchange tables kept t a b) v [])) (sym e)
          (subst (λ z. IsTableRepair (get_or keys t []) (get_or tables t []) z) (sym same_at)
          (exchanged_repair (get_or keys t []) (get_or tables t []) (get_or kept t []) (r.each t in') a b ma mb ab))

  pub exchange-out : (x : List Value) → Contains (get_or (exchange tables kept t a b) t []) x → IsExchanged (get_or kept t []) a b x
  exchange-out x m = (kept_by-stored (dec_exchanged (get_or kept t []) a b) (get_or tables t []) x (subst (λ z. Contains z x) same_at m)).1

  pub exchange-into : (x : List Value) → Contains (get_or tables t []) x → IsExchanged (get_or kept t []) a b x → Contains (get_or (exchange tables kept t a b) t []) x
  exchange-into x m p = subst (λ z. Contains z x) (sym same_at) (kept_by-keeps (dec_exchanged (get_or kept t []) a b) (get_or tables t []) x m p)
