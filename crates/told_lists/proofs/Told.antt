-- Lists told by numbers decide as the lists do.
use Rattle.std.proofs.Common.{◌≡◌, ℕ, zero, suc, ◌<◌, ◌≤◌, ◌+◌, ◌⊎◌, inl, inr, List, [], ◌∷◌, get_or, Some, None, Option, slice_get, refl, sym, ◌∙◌, ap, subst, arith, Contains, Bool, true, false}
use Rattle.std.proofs.Math.Bool.{Bool-discrete}
use Rattle.cqa_value.proofs.Words.{clash, yes_of, no_of, is_yes, mem-head, mem-tail}
use Rattle.cqa_model.specs.declared.query.RowId.{RowId}
use Rattle.cqa_model.specs.Database.{Table, IsDatabase}
use Rattle.row_lists.specs.Lists.{IsForced, IsIn, IsStored, AreStoredLists, IsOfBlock, SatisfiesNames}
use Rattle.row_lists.proofs.Words.{block-self}
use Rattle.row_lists.proofs.Lists.{names_decide}
use Rattle.block_choices.specs.declared.row.BlockRow.{BlockRow}
use Rattle.block_choices.specs.Choices.{IsChoice, Chooses, HoldsWhole, HoldsSome, IsForcedBy}
use Rattle.block_lists.proofs.Decisions.{Option-dec, dec_each, dec_some, find_in, stable}
use Rattle.told_lists.specs.Telling.{row_of, IsTelling, AreTold, AreListsTold}
use Rattle.told_lists.specs.Laws.{ToldDecide}

-- ---- options

option-case : (o : Option BlockRow) → (o ≡ None) ⊎ ((x : BlockRow) × (o ≡ Some x))
option-case None = inl refl
option-case (Some x) = inr (x, refl)

abbrev nil : List ℕ
nil = []

none-some : (b r : ℕ) → slice_get nil b ≡ Some r → ⊥
none-some b r e = cc

nat-inj : (x y : ℕ) → Some x ≡ Some y → x ≡ y
nat-inj x y e = cc

same-row : (x : BlockRow) (b r : ℕ) → b ≡ x.block → r ≡ x.row → row_of b r ≡ x
same-row x b r e f = ap (λ z. row_of z r) e ∙ ap (row_of x.block) f

-- ---- choices

-- a choice has a row of each block
choice-at : (sizes c : List ℕ) (b : ℕ) → IsChoice sizes c → 0 < get_or sizes b 0 → (r : ℕ) × (slice_get c b ≡ Some r) × (r < get_or sizes b 0)
choice-at [] c b k l = absurd (omega (arith, l))
choice-at (s ∷ sizes) [] b k l = absurd k
choice-at (s ∷ sizes) (r ∷ c) zero k l = (r, refl, k.0)
choice-at (s ∷ sizes) (r ∷ c) (suc b) k l = choice-at sizes c b k.1 l

-- rows that are picked, block by block
chosen-by : (P : ℕ → ℕ → Type 0) (sizes : List ℕ) (n : ℕ) → ((b : ℕ) → 0 < get_or sizes b 0 → (r : ℕ) × (r < get_or sizes b 0) × P (n + b) r) → ((s : ℕ) → Contains sizes s → 0 < s) →
    (c : List ℕ) × IsChoice sizes c × ((b r : ℕ) → slice_get c b ≡ Some r → P (n + b) r)
chosen-by P [] n pick some = ([], tt, λ b r e. absurd (none-some b r e))
chosen-by P (s ∷ sizes) n pick some =
    let here = pick 0 (some s (mem-head s sizes)) in
    let rest = chosen-by P sizes (n + 1) (λ b l. let p = pick (suc b) l in (p.0, p.1, subst (λ m. P m p.0) (omega arith) p.2)) (λ t m. some t (mem-tail t s sizes m)) in
    (here.0 ∷ rest.0, (here.1, rest.1), λ b r e. at here rest b r e)
  where
    at : (here : (r : ℕ) × (r < s) × P (n + 0) r) (rest : (c : List ℕ) × IsChoice sizes c × ((b r : ℕ) → slice_get c b ≡ Some r → P (n + 1 + b) r)) (b r : ℕ) → slice_get (here.0 ∷ rest.0) b ≡ Some r → P (n + b) r
    at here rest zero r e = subst (P (n + 0)) (nat-inj here.0 r e) here.2
    at here rest (suc b) r e = subst (λ m. P m r) (omega arith) (rest.2 b r e)

module _ (db : List Table) (sizes : List ℕ) (told : RowId → Option BlockRow) (all : List (List RowId)) (lists : List (List BlockRow)) (d : IsDatabase db) (st : AreStoredLists db all) (t : IsTelling db sizes told)
    (l : AreListsTold db told all lists) where
  dec_chooses : (c : List ℕ) (x : BlockRow) → Dec (Chooses c x)
  dec_chooses c x = Option-dec (slice_get c x.block) x.row

  dec_holds : (c : List ℕ) → Dec (HoldsSome c lists)
  dec_holds c = dec_some (HoldsWhole c) (λ names. dec_each (Chooses c) (dec_chooses c) names) lists

  some-size : (id : RowId) (x : BlockRow) → IsStored db id → told id ≡ Some x → 0 < get_or sizes x.block 0
  some-size id x s e = let w = t.within id x s e in omega (arith, w)

  -- ---- from repairs to choices
  module _ (c : List ℕ) (k : IsChoice sizes c) where
    abbrev stays : Option BlockRow → Bool
    stays None = true
    stays (Some x) = is_yes (dec_chooses c x)

    satisfied : (HoldsSome c lists → ⊥) → SatisfiesNames db all (λ id. stays (told id))
    satisfied none = record { blocks = λ id i. block id i (option-case (told id)); each = λ names m. list names (l.each names m) }
      where
        block : (id : RowId) → IsIn all id → (told id ≡ None) ⊎ ((x : BlockRow) × (told id ≡ Some x)) → (n : RowId) × IsStored db n × IsOfBlock db id n × (stays (told n) ≡ true)
        block id i (inl e) = (id, st id i, block-self db id, ap stays e)
        block id i (inr (x, e)) =
            let r = choice-at sizes c x.block k (some-size id x (st id i) e) in
            let n = t.every x.block r.0 r.2 in
            (n.0, n.1, (t.block id n.0 x (row_of x.block r.0) (st id i) n.1 e n.2).1 refl, ap stays n.2 ∙ yes_of (dec_chooses c (row_of x.block r.0)) r.1)

        list : (names : List RowId) → ((rows : List BlockRow) × Contains lists rows × AreTold told names rows) → (id : RowId) × Contains names id × (stays (told id) ≡ false)
        list names (rows, m, are) = go (find_in (Chooses c) (dec_chooses c) rows)
          where
            go : ((x : BlockRow) → Contains rows x → Chooses c x) ⊎ ((x : BlockRow) × Contains rows x × (Chooses c x → ⊥)) → (id : RowId) × Contains names id × (stays (told id) ≡ false)
            go (inl held) = absurd (none (rows, m, held))
            go (inr (x, mx, f)) = let h = (are x).0 mx in (h.0, h.1, ap stays h.2 ∙ no_of (dec_chooses c x) f)

  forced : IsForced db all → IsForcedBy sizes lists
  forced f c k = stable (dec_holds c) (λ none. (names_decide db all d st).0 f (λ id. stays c k (told id)) (satisfied c k none))

  -- ---- from choices to repairs
  module _ (a : RowId → Bool) (s : SatisfiesNames db all a) where
    -- the row of these numbers is true
    abbrev IsTrueAt : ℕ → ℕ → Type 0
    IsTrueAt b r = (id : RowId) × IsStored db id × (told id ≡ Some (row_of b r)) × (a id ≡ true)

    dec_true : (b r : ℕ) → r < get_or sizes b 0 → Dec (IsTrueAt b r)
    dec_true b r h = go (Bool-discrete (a n.0) true)
      where
        n : (id : RowId) × IsStored db id × (told id ≡ Some (row_of b r))
        n = t.every b r h

        go : Dec (a n.0 ≡ true) → Dec (IsTrueAt b r)
        go (yes e) = yes (n.0, n.1, n.2, e)
        go (no f) = no (λ h. f (subst (λ z. a z ≡ true) (t.apart h.0 n.0 (row_of b r) h.1 n.1 h.2 n.2) h.3))

    -- the row is true, or none of its block is
    abbrev IsPicked : ℕ → ℕ → Type 0
    IsPicked b r = IsTrueAt b r ⊎ ((q : ℕ) → q < get_or sizes b 0 → IsTrueAt b q → ⊥)

    seek : (b n : ℕ) → n ≤ get_or sizes b 0 → ((r : ℕ) × (r < get_or sizes b 0) × IsTrueAt b r) ⊎ ((q : ℕ) → q < n → IsTrueAt b q → ⊥)
    seek b zero h = inr (λ q l i. absurd (omega (arith, l)))
    seek b (suc n) h = go (dec_true b n (omega (arith, h))) (seek b n (omega (arith, h)))
      where
        go : Dec (IsTrueAt b n) → ((r : ℕ) × (r < get_or sizes b 0) × IsTrueAt b r) ⊎ ((q : ℕ) → q < n → IsTrueAt b q → ⊥) → ((r : ℕ) × (r < get_or sizes b 0) × IsTrueAt b r) ⊎ ((q : ℕ) → q < suc n → IsTrueAt b q → ⊥)
        go (yes i) f = inl (n, omega (arith, h), i)
        go (no g) (inl f) = inl f
        go (no g) (inr f) = inr (λ q l i. elim (cases q l) [
          | inl k ↦ f q k i
          | inr e ↦ g (subst (IsTrueAt b) e i)
        ])
          where
            cases : (q : ℕ) → q < suc n → (q < n) ⊎ (q ≡ n)
            cases q l = grind (arith, l)

    pick : (b : ℕ) → 0 < get_or sizes b 0 → (r : ℕ) × (r < get_or sizes b 0) × IsPicked b r
    pick b h = elim (seek b (get_or sizes b 0) (omega arith)) [
      | inl f ↦ (f.0, f.1, inl f.2)
      | inr f ↦ (0, h, inr f)
    ]

    shifted : (b : ℕ) → 0 < get_or sizes b 0 → (r : ℕ) × (r < get_or sizes b 0) × IsPicked (0 + b) r
    shifted b h = let p = pick b h in let e : b ≡ 0 + b = omega arith in (p.0, p.1, subst (λ m. IsPicked m p.0) e p.2)

    unsatisfied : IsForcedBy sizes lists → ⊥
    unsatisfied f = held (f c.0 c.1)
      where
        c : (c : List ℕ) × IsChoice sizes c × ((b r : ℕ) → slice_get c b ≡ Some r → IsPicked (0 + b) r)
        c = chosen-by IsPicked sizes 0 shifted t.some

        held : HoldsSome c.0 lists → ⊥
        held (rows, m, whole) = of_list (l.only rows m)
          where
            of_list : ((names : List RowId) × Contains all names × AreTold told names rows) → ⊥
            of_list (names, mn, are) = of_row (s.each names mn)
              where
                of_row : ((id : RowId) × Contains names id × (a id ≡ false)) → ⊥
                of_row (id, mid, ea) = of_case (option-case (told id)) (s.blocks id (names, mn, mid))
                  where
                    sid : IsStored db id
                    sid = st id (names, mn, mid)

                    of_pick : (x : BlockRow) → told id ≡ Some x → (n : RowId) → IsStored db n → IsOfBlock db id n → a n ≡ true → (y : BlockRow) → told n ≡ Some y → IsPicked x.block x.row → ⊥
                    of_pick x e n sn b en y ey (inl i) =
                        clash (a id) (subst (λ z. a z ≡ true) (t.apart i.0 id (row_of x.block x.row) i.1 sid i.2 e) i.3) ea
                    of_pick x e n sn b en y ey (inr none) =
                        let same : x.block ≡ y.block = (t.block id n x y sid sn e ey).0 b in
                        none y.row (subst (λ z. y.row < get_or sizes z 0) (sym same) (t.within n y sn ey)) (n, sn, ey ∙ ap Some (sym (same-row y x.block y.row same refl)), en)

                    of_case : (told id ≡ None) ⊎ ((x : BlockRow) × (told id ≡ Some x)) → ((n : RowId) × IsStored db n × IsOfBlock db id n × (a n ≡ true)) → ⊥
                    of_case (inl e) (n, sn, b, en) = clash (a id) (subst (λ z. a z ≡ true) (l.clean id (names, mn, mid) e n sn b) en) ea
                    of_case (inr (x, e)) (n, sn, b, en) =
                        let y = t.whole id n x sid sn e b in
                        let z : 0 + x.block ≡ x.block = omega arith in of_pick x e n sn b en y.0 y.1 (subst (λ m. IsPicked m x.row) z (c.2 x.block x.row (whole x ((are x).1 (id, mid, e)))))

  back : IsForcedBy sizes lists → IsForced db all
  back f = (names_decide db all d st).1 (λ a s. unsatisfied a s f)

pub told_decide : ToldDecide
told_decide db sizes told all lists d st t l = (forced db sizes told all lists d st t l, back db sizes told all lists d st t l)
