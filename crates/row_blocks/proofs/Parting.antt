-- The blocks of rows in block order, taken from the front.
use Rattle.std.proofs.Common.{◌≡◌, ◌<◌, ◌≤◌, ◌+◌, ℕ, suc, zero, inl, inr, Bool, true, false, length, List, [], ◌∷◌, ◌++◌, flat_map, take, drop, get_or, Contains, refl, sym, ap, subst, ◌∙◌, arith, true≢false, if◌then◌else◌, le_of_suc-le-suc, suc-le-suc}
use Rattle.std.specs.List.Sorted.{IsStrictlySortedBy}
use Rattle.std.proofs.lemmas.List.Elements.{Contains-get_or}
use Rattle.std.proofs.lemmas.List.{get_or_default}
use Rattle.cqa_value.specs.declared.value.Value.{Value}
use Rattle.cqa_value.specs.Values.{row_eq, row_decides}
use Rattle.cqa_value.proofs.Words.{Contains-flat_map}
use Rattle.cqa_model.specs.Database.{key_of, block_cmp}
use Rattle.cqa_model.specs.Repairs.{SharesKey}
use Rattle.cqa_model.specs.Blocks.{AreBlocks}
use Rattle.cqa_model.proofs.BlockOrder.{grouped, shares-from_key, key-from_shares}
use Rattle.cqa_model.proofs.Repairs.{shares-sym, shares-trans}
use Rattle.cqa_model.proofs.Classic.{mem-head, mem-tail, mem-nil, mem-cases}
use Rattle.row_blocks.specs.Blocks.{blocks_with_row, blocks_of}

module _ (key : List ℕ) where
  shares_of : (x y : List Value) → row_eq (key_of key x) (key_of key y) ≡ true → SharesKey key x y
  shares_of x y e = shares-from_key key x y ((row_decides (key_of key x) (key_of key y)).0 e)

  of_shares : (x y : List Value) → SharesKey key x y → row_eq (key_of key x) (key_of key y) ≡ true
  of_shares x y s = (row_decides (key_of key x) (key_of key y)).1 (key-from_shares key x y s)

  of_apart : (x y : List Value) → (SharesKey key x y → ⊥) → row_eq (key_of key x) (key_of key y) ≡ false
  of_apart x y h = go (row_eq (key_of key x) (key_of key y)) refl
    where
      go : (b : Bool) → row_eq (key_of key x) (key_of key y) ≡ b → b ≡ false
      go true e = absurd (h (shares_of x y e))
      go false e = refl

  -- the first block begins with the first row
  begins : (x : List Value) (bs : List (List (List Value))) → (b : List (List Value)) × (cs : List (List (List Value))) × (blocks_with_row key x bs ≡ (x ∷ b) ∷ cs)
  begins x [] = ([], [], refl)
  begins x ([] ∷ bs) = ([], bs, refl)
  begins x ((y ∷ b) ∷ bs) = go (row_eq (key_of key x) (key_of key y))
    where
      go : (t : Bool) → (c : List (List Value)) × (cs : List (List (List Value))) × ((if t then (x ∷ y ∷ b) ∷ bs else (x ∷ []) ∷ (y ∷ b) ∷ bs) ≡ (x ∷ c) ∷ cs)
      go true = (y ∷ b, bs, refl)
      go false = ([], (y ∷ b) ∷ bs, refl)

  -- rows that share the first one's key up to a place, and the row there doesn't
  first-of : (x : List Value) (ys : List (List Value)) (m : ℕ) → m ≤ length ys → ((i : ℕ) → i < m → SharesKey key x (get_or ys i [])) → (m < length ys → SharesKey key x (get_or ys m []) → ⊥) →
      blocks_of key (x ∷ ys) ≡ (x ∷ take m ys) ∷ blocks_of key (drop m ys)
  first-of x [] zero w h stop = refl
  first-of x [] (suc m) w h stop = absurd (omega (arith, w))
  first-of x (y ∷ ys) zero w h stop =
      let p = begins y (blocks_of key ys) in
      rw (p.2, of_apart x y (stop (omega arith))) refl
  first-of x (y ∷ ys) (suc m) w h stop =
      let s = h 0 (omega arith) in
      let next = first-of y ys m (omega (arith, w))
      (λ i l. shares-trans key y x (get_or ys i []) (shares-sym key x y s) (h (suc i) (suc-le-suc l)))
      (λ l t. stop (suc-le-suc l) (shares-trans key x y (get_or ys m []) s t)) in
      rw (next, of_shares x y s) refl

  pub first_block-is : (rows : List (List Value)) (n : ℕ) → 0 < n → n ≤ length rows → ((i : ℕ) → i < n → SharesKey key (get_or rows 0 []) (get_or rows i [])) →
      (n < length rows → SharesKey key (get_or rows 0 []) (get_or rows n []) → ⊥) → blocks_of key rows ≡ take n rows ∷ blocks_of key (drop n rows)
  first_block-is [] n some w h stop = absurd (omega (arith, some, w))
  first_block-is (x ∷ ys) zero some w h stop = absurd (omega (arith, some))
  first_block-is (x ∷ ys) (suc m) some w h stop = first-of x ys m (omega (arith, w)) (λ i l. h (suc i) (suc-le-suc l)) (λ l s. stop (suc-le-suc l) s)

  -- rows of one key stand side by side
  abbrev pub SideBySide : List (List Value) → Type 0
  SideBySide [] = Unit {0}
  SideBySide (x ∷ []) = Unit {0}
  SideBySide (x ∷ y ∷ rows) = ((z : List Value) → Contains (y ∷ rows) z → SharesKey key x z → SharesKey key x y) × SideBySide (y ∷ rows)

  pub side_by_side : (rows : List (List Value)) → IsStrictlySortedBy (block_cmp key) rows → SideBySide rows
  unfolding IsStrictlySortedBy
  side_by_side [] s = tt
  side_by_side (x ∷ []) s = tt
  side_by_side (x ∷ y ∷ rows) s = (
    (λ z m t. grouped key (x ∷ y ∷ rows) s 0 1 (suc m.0) (omega arith) (omega arith) (suc-le-suc m.1)
        (subst (SharesKey key x) (sym (get_or_default (y ∷ rows) m.0 [] z m.1 ∙ m.2)) t)),
    side_by_side (y ∷ rows) s.1,
  )

  module _ (x : List Value) (rows : List (List Value)) where
    alone : (bs : List (List (List Value))) → AreBlocks key rows bs → ((z : List Value) → Contains rows z → SharesKey key x z → ⊥) → AreBlocks key (x ∷ rows) ((x ∷ []) ∷ bs)
    alone bs h off = record {
      joined = ap (λ zs. x ∷ zs) h.joined;
      some = λ b m. elim (mem-cases b (x ∷ []) bs m) [ inl e ↦ subst (λ c. 0 < length c) e (omega arith) | inr l ↦ h.some b l ];
      alike = λ b m. elim (mem-cases b (x ∷ []) bs m) [
        | inl e ↦ (λ u v mu mv. let same = one u (subst (λ c. Contains c u) (sym e) mu) in let other = one v (subst (λ c. Contains c v) (sym e) mv) in subst (SharesKey key u) (same ∙ sym other) (λ p k. refl))
        | inr l ↦ h.alike b l
      ];
      apart = between;
    }
      where
        one : (u : List Value) → Contains (x ∷ []) u → u ≡ x
        one u m = elim (mem-cases u x [] m) [ inl e ↦ sym e | inr l ↦ absurd (mem-nil u l) ]

        between : (i j : ℕ) → i < j → j < length ((x ∷ []) ∷ bs) → (u v : List Value) → Contains (get_or ((x ∷ []) ∷ bs) i []) u → Contains (get_or ((x ∷ []) ∷ bs) j []) v → SharesKey key u v → ⊥
        between i zero l k u v mu mv t = absurd (omega (arith, l))
        between zero (suc j) l k u v mu mv t =
            off v (subst (λ zs. Contains zs v) h.joined (Contains-flat_map (λ b. b) bs (get_or bs j []) v (Contains-get_or bs j [] (le_of_suc-le-suc k)) mv)) (subst (λ w. SharesKey key w v) (one u mu) t)
        between (suc i) (suc j) l k u v mu mv t = h.apart i j (le_of_suc-le-suc l) (le_of_suc-le-suc k) u v mu mv t

    joining : (y : List Value) (b : List (List Value)) (bs : List (List (List Value))) → AreBlocks key rows ((y ∷ b) ∷ bs) → SharesKey key x y → AreBlocks key (x ∷ rows) ((x ∷ y ∷ b) ∷ bs)
    joining y b bs h t = record {
      joined = ap (λ zs. x ∷ zs) h.joined;
      some = λ c m. elim (mem-cases c (x ∷ y ∷ b) bs m) [ inl e ↦ subst (λ d. 0 < length d) e (omega arith) | inr l ↦ h.some c (mem-tail c (y ∷ b) bs l) ];
      alike = λ c m. elim (mem-cases c (x ∷ y ∷ b) bs m) [
        | inl e ↦ (λ u v mu mv. shares-trans key u y v (shares-sym key y u (to u (subst (λ d. Contains d u) (sym e) mu))) (to v (subst (λ d. Contains d v) (sym e) mv)))
        | inr l ↦ h.alike c (mem-tail c (y ∷ b) bs l)
      ];
      apart = between;
    }
      where
        to : (u : List Value) → Contains (x ∷ y ∷ b) u → SharesKey key y u
        to u m = elim (mem-cases u x (y ∷ b) m) [
          | inl e ↦ subst (SharesKey key y) e (shares-sym key x y t)
          | inr l ↦ h.alike (y ∷ b) (mem-head (y ∷ b) bs) y u (mem-head y b) l
        ]

        between : (i j : ℕ) → i < j → j < length ((x ∷ y ∷ b) ∷ bs) → (u v : List Value) → Contains (get_or ((x ∷ y ∷ b) ∷ bs) i []) u → Contains (get_or ((x ∷ y ∷ b) ∷ bs) j []) v → SharesKey key u v → ⊥
        between i zero l k u v mu mv s = absurd (omega (arith, l))
        between zero (suc j) l k u v mu mv s = h.apart 0 (suc j) (omega arith) k y v (mem-head y b) mv (shares-trans key y u v (to u mu) s)
        between (suc i) (suc j) l k u v mu mv s = h.apart (suc i) (suc j) l k u v mu mv s

    with-row : (bs : List (List (List Value))) → AreBlocks key rows bs → SideBySide (x ∷ rows) → AreBlocks key (x ∷ rows) (blocks_with_row key x bs)
    with-row [] h side = alone [] h (λ z m t. mem-nil z (subst (λ zs. Contains zs z) (sym h.joined) m))
    with-row ([] ∷ bs) h side = (let none = h.some [] (mem-head [] bs) in absurd (omega (arith, none)))
    with-row ((y ∷ b) ∷ bs) h side = go (row_eq (key_of key x) (key_of key y)) refl
      where
        off : (SharesKey key x y → ⊥) → (rest : List (List Value)) → y ∷ (b ++ flat_map (λ b. b) bs) ≡ rest → SideBySide (x ∷ rest) → (z : List Value) → Contains rest z → SharesKey key x z → ⊥
        off n [] e s z m t = mem-nil z m
        off n (w ∷ rest) e s z m t = n (subst (SharesKey key x) (sym (first y w (b ++ flat_map (λ b. b) bs) rest e)) (s.0 z m t))
          where
            first : (a c : List Value) (us vs : List (List Value)) → a ∷ us ≡ c ∷ vs → a ≡ c
            first a c us vs e = cc

        go : (t : Bool) → row_eq (key_of key x) (key_of key y) ≡ t → AreBlocks key (x ∷ rows) (if t then (x ∷ y ∷ b) ∷ bs else (x ∷ []) ∷ (y ∷ b) ∷ bs)
        go true e = joining y b bs h (shares_of x y e)
        go false e = alone ((y ∷ b) ∷ bs) h (off (λ t. true≢false (sym (of_shares x y t) ∙ e)) rows h.joined side)

  side_tail : (x : List Value) (rows : List (List Value)) → SideBySide (x ∷ rows) → SideBySide rows
  side_tail x [] s = tt
  side_tail x (y ∷ rows) s = s.1

  pub blocks-are : (rows : List (List Value)) → SideBySide rows → AreBlocks key rows (blocks_of key rows)
  blocks-are [] s = record { joined = refl; some = λ b m. absurd (mem-nil b m); alike = λ b m. absurd (mem-nil b m); apart = λ i j l k. absurd (omega (arith, k)) }
  blocks-are (x ∷ rows) s = with-row x rows (blocks_of key rows) (blocks-are rows (side_tail x rows s)) s

  with-row-few : (x : List Value) (bs : List (List (List Value))) → length (blocks_with_row key x bs) ≤ length bs + 1
  with-row-few x [] = omega arith
  with-row-few x ([] ∷ bs) = omega arith
  with-row-few x ((y ∷ b) ∷ bs) = go (row_eq (key_of key x) (key_of key y))
    where
      go : (t : Bool) → length (if t then (x ∷ y ∷ b) ∷ bs else (x ∷ []) ∷ (y ∷ b) ∷ bs) ≤ length ((y ∷ b) ∷ bs) + 1
      go true = omega arith
      go false = omega arith

  -- no more blocks than rows
  pub blocks-few : (rows : List (List Value)) → length (blocks_of key rows) ≤ length rows
  blocks-few [] = omega arith
  blocks-few (x ∷ rows) =
      let step = with-row-few x (blocks_of key rows) in
      let few = blocks-few rows in
      omega (arith, step, few)
