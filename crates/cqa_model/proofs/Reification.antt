-- Reification: a row of a witness is exchanged for that of another repair, and no key comes.
use Rattle.std.proofs.Common.{◌≡◌, ℕ, zero, suc, ◌<◌, ◌≢◌, ◌⊎◌, inl, inr, List, [], ◌∷◌, ◌++◌, length, get_or, map, refl, ap, sym, ◌∙◌, subst, arith, Contains}
use native.Mathlib.Decide.{ℕ_discrete}
use Rattle.std.proofs.lemmas.List.Elements.{Contains-append_left, Contains-append_right}
use Rattle.cqa_model.specs.declared.query.Query.{Query}
use Rattle.cqa_value.specs.declared.value.Value.{Value}
use Rattle.cqa_value.proofs.Words.{Contains-map}
use Rattle.cqa_model.specs.Query.{atom_at, atom_key, rows_of, IsStrict, row_at}
use Rattle.cqa_model.specs.Repairs.{SharesKey, HasOne, IsRepairBy}
use Rattle.cqa_model.proofs.Fitting.{FitsTables}
use Rattle.cqa_model.specs.Closures.{CountsFor}
use Rattle.cqa_model.specs.Plan.{Placed, IsUnattacked}
use Rattle.cqa_model.specs.Partial.{view_of, AllFit, IsPartial}
use Rattle.cqa_model.proofs.Classic.{Classically, mem-head, mem-tail, mem-nil, mem-cases, mem-eq}
use Rattle.cqa_model.proofs.Repairs.{shares-self, shares-trans, sublist-stored, exchange, exchange-elsewhere, exchange-repair, exchange-out, exchange-into}
use Rattle.cqa_model.proofs.Views.{view-in_range}
use Rattle.cqa_model.proofs.Agreement.{one_of_atom}
use Rattle.cqa_model.proofs.Exchange.{exchanged}

-- a list without one of its elements
pub remove : {A : Type 0} (xs : List A) (x : A) → Contains xs x →
    (ys : List A) × (length xs ≡ suc (length ys)) × ((y : A) → Contains xs y → (x ≡ y) ⊎ Contains ys y)
remove [] x m = absurd (mem-nil x m)
remove {A} (a ∷ xs) x m = elim (mem-cases x a xs m) [
  | inl e ↦ (xs, refl, λ y my. elim (mem-cases y a xs my) [ inl f ↦ inl (sym e ∙ f) | inr n ↦ inr n ])
  | inr n ↦ more (remove xs x n)
]
  where
    more : (ys : List A) × (length xs ≡ suc (length ys)) × ((y : A) → Contains xs y → (x ≡ y) ⊎ Contains ys y) →
        (ys : List A) × (length (a ∷ xs) ≡ suc (length ys)) × ((y : A) → Contains (a ∷ xs) y → (x ≡ y) ⊎ Contains ys y)
    more (ys, l, h) = (
      a ∷ ys,
      ap suc l,
      λ y my. elim (mem-cases y a xs my) [
        | inl f ↦ inr (mem-eq a y (a ∷ ys) f (mem-head a ys))
        | inr n ↦ elim (h y n) [ inl e ↦ inl e | inr k ↦ inr (mem-tail y a ys k) ]
      ],
    )

abbrev pub placed : ℕ → List Value → Placed
placed F x = record { atom = F; row = x }

module _ (q : Query) (keys : List (List ℕ)) (tables : List (List (List Value))) (fits : FitsTables q keys tables)
    (row : List Value) (taken : List Placed) (all : AllFit q row taken) where
  -- a row that a repair keeps is stored
  pub kept-stored : (r : List (List (List Value))) → IsRepairBy keys tables r → (K : ℕ) → K < length q.atoms → (x : List Value) → Contains (rows_of q r K) x → Contains (rows_of q tables K) x
  kept-stored r hr K l x m = sublist-stored (rows_of q r K) (rows_of q tables K) (hr.each (atom_at q K).table (fits.in_tables K l)).stored x m

  -- the row that a repair keeps in the block of a stored row
  abbrev pub IsInBlock : List (List (List Value)) → ℕ → List Value → List Value → Type 0
  IsInBlock r K x y = Contains (rows_of q r K) y × SharesKey (atom_key q K) x y

  pub row_of_block : (r : List (List (List Value))) → IsRepairBy keys tables r → (K : ℕ) → K < length q.atoms → (x : List Value) → Contains (rows_of q tables K) x → (y : List Value) × IsInBlock r K x y
  row_of_block r hr K l x m =
      let o : HasOne (get_or keys (atom_at q K).table []) (rows_of q r K) x = (hr.each (atom_at q K).table (fits.in_tables K l)).one x m in
      (o.row, (o.is_kept, subst (λ k. SharesKey k x o.row) (sym (fits.keyed K l)) o.shares))

  -- the exchange of a for b in the block of K, by atoms
  module _ (r : List (List (List Value))) (hr : IsRepairBy keys tables r) (K : ℕ) (lK : K < length q.atoms) (a b : List Value)
      (ma : Contains (rows_of q r K) a) (mb : Contains (rows_of q tables K) b) (ab : SharesKey (atom_key q K) a b) where
    abbrev pub replaced : List (List (List Value))
    replaced = exchange tables r (atom_at q K).table a b

    ab' : SharesKey (get_or keys (atom_at q K).table []) a b
    ab' = subst (λ k. SharesKey k a b) (fits.keyed K lK) ab

    pub replaced-repair : IsRepairBy keys tables replaced
    replaced-repair = exchange-repair keys tables r hr (atom_at q K).table (fits.in_tables K lK) a b ma mb ab'

    pub replaced-elsewhere : (H : ℕ) → H < length q.atoms → H ≢ K → rows_of q replaced H ≡ rows_of q r H
    replaced-elsewhere H l ne = exchange-elsewhere keys tables r hr (atom_at q K).table (fits.in_tables K lK) a b ma mb ab' (atom_at q H).table (λ e. ne (q.kept.apart H K l lK e))

    pub replaced-out : (x : List Value) → Contains (rows_of q replaced K) x → (x ≡ b) ⊎ (Contains (rows_of q r K) x × (x ≡ a → ⊥))
    replaced-out x m = exchange-out keys tables r hr (atom_at q K).table (fits.in_tables K lK) a b ma mb ab' x m

    pub replaced-into : (x : List Value) → Contains (rows_of q tables K) x → (x ≡ b) ⊎ (Contains (rows_of q r K) x × (x ≡ a → ⊥)) → Contains (rows_of q replaced K) x
    replaced-into x m p = exchange-into keys tables r hr (atom_at q K).table (fits.in_tables K lK) a b ma mb ab' x m p

  module _ (F : ℕ) (hF : (view_of q taken).has F) (free : IsUnattacked q (view_of q taken) F) where
    -- each key of r2 is one of r1
    abbrev pub IsBelow : List (List (List Value)) → List (List (List Value)) → Type 0
    IsBelow r2 r1 = (w : List (List Value)) → IsPartial q row taken r2 w →
        Classically ((u : List (List Value)) × IsPartial q row taken r1 u × SharesKey (atom_key q F) (row_at w F) (row_at u F))

    abbrev pub LacksKey : List (List (List Value)) → List Value → Type 0
    LacksKey r x = (w : List (List Value)) → IsPartial q row taken r w → SharesKey (atom_key q F) x (row_at w F) → ⊥

    pub below-self : (r : List (List (List Value))) → IsBelow r r
    below-self r w hw k = k (w, hw, shares-self (atom_key q F) (row_at w F))

    pub below-trans : (r1 r2 r3 : List (List (List Value))) → IsBelow r3 r2 → IsBelow r2 r1 → IsBelow r3 r1
    below-trans r1 r2 r3 h g w hw k = h w hw (λ p. g p.0 p.1 (λ o. k (o.0, o.1, shares-trans (atom_key q F) (row_at w F) (row_at p.0 F) (row_at o.0 F) p.2 o.2)))

    pub lacks-below : (r1 r2 : List (List (List Value))) (x : List Value) → IsBelow r2 r1 → LacksKey r1 x → LacksKey r2 x
    lacks-below r1 r2 x h no_key w hw sh = h w hw (λ p. no_key p.0 p.1 (shares-trans (atom_key q F) x (row_at w F) (row_at p.0 F) sh p.2))

    -- a row of a witness may be exchanged without a new key
    pub replaced-below : (r : List (List (List Value))) (hr : IsRepairBy keys tables r) (S : List (List Value)) → IsPartial q row taken r S →
        (K : ℕ) (hK : (view_of q taken).has K) (lK : K < length q.atoms) (b : List Value)
        (ma : Contains (rows_of q r K) (row_at S K)) (mb : Contains (rows_of q tables K) b) (ab : SharesKey (atom_key q K) (row_at S K) b) →
        IsBelow (replaced r hr K lK (row_at S K) b ma mb ab) r
    replaced-below r hr S hS K hK lK b ma mb ab T hT k =
        elim (replaced-out r hr K lK (row_at S K) b ma mb ab (row_at T K) (hT.keeps K hK)) [
          | inl e ↦ exchanged q keys tables fits row taken all r (replaced r hr K lK (row_at S K) b ma mb ab) hr S T hS hT K hK elsewhere
              (subst (λ z. SharesKey (atom_key q K) (row_at S K) z) (sym e) ab) F hF free k
          | inr n ↦ k (T, record { size = hT.size; keeps = λ H has. stays n.0 H has (ℕ_discrete H K); holds = hT.holds; answers = hT.answers; extends = hT.extends }, shares-self (atom_key q F) (row_at T F))
        ]
      where
        others : (H : ℕ) → (view_of q taken).has H → H ≢ K → (x : List Value) → Contains (rows_of q (replaced r hr K lK (row_at S K) b ma mb ab) H) x → Contains (rows_of q r H) x
        others H has ne x m = subst (λ z. Contains z x) (replaced-elsewhere r hr K lK (row_at S K) b ma mb ab H (view-in_range q taken H has) ne) m

        -- in a strict table the row and b are one
        same : IsStrict q K → row_at S K ≡ b
        same strict = fits.strict K lK strict (row_at S K) b (kept-stored r hr K lK (row_at S K) ma) mb ab

        own : IsStrict q K → (x : List Value) → Contains (rows_of q (replaced r hr K lK (row_at S K) b ma mb ab) K) x → Contains (rows_of q r K) x
        own strict x m = elim (replaced-out r hr K lK (row_at S K) b ma mb ab x m) [ inl e ↦ subst (λ z. Contains (rows_of q r K) z) (same strict ∙ sym e) ma | inr n ↦ n.0 ]

        elsewhere : (H : ℕ) → CountsFor q (view_of q taken) K H → (x : List Value) → Contains (rows_of q (replaced r hr K lK (row_at S K) b ma mb ab) H) x → Contains (rows_of q r H) x
        elsewhere H counts x m = go (ℕ_discrete H K) counts.1
          where
            go : Dec (H ≡ K) → (H ≢ K) ⊎ IsStrict q K → Contains (rows_of q r H) x
            go (no ne) c = others H counts.0 ne x m
            go (yes e) (inl ne) = absurd (ne e)
            go (yes e) (inr strict) =
                subst (λ z. Contains (rows_of q r z) x) (sym e) (own strict x (subst (λ z. Contains (rows_of q (replaced r hr K lK (row_at S K) b ma mb ab) z) x) e m))

        stays : Contains (rows_of q r K) (row_at T K) → (H : ℕ) → (view_of q taken).has H → Dec (H ≡ K) → Contains (rows_of q r H) (row_at T H)
        stays m H has (yes e) = subst (λ z. Contains (rows_of q r z) (row_at T z)) (sym e) m
        stays m H has (no ne) = others H has ne (row_at T H) (hT.keeps H has)

    -- towards a repair s that lacks the key of x
    module _ (s : List (List (List Value))) (hs : IsRepairBy keys tables s) (x : List Value) (lacks : LacksKey s x) where
      -- r keeps each row of s but for those in the list
      abbrev pub IsTowards : List Placed → List (List (List Value)) → Type 0
      IsTowards U r = (K : ℕ) → (view_of q taken).has K → (y : List Value) → Contains (rows_of q s K) y → Contains U (record { atom = K; row = y }) ⊎ Contains (rows_of q r K) y

      abbrev pub IsNearer : List Placed → List (List (List Value)) → Type 0
      IsNearer U r = (V : List Placed) × (z : List (List (List Value))) × (length U ≡ suc (length V)) × IsRepairBy keys tables z × IsTowards V z × IsBelow z r

      pub nearer : (U : List Placed) (r : List (List (List Value))) → IsRepairBy keys tables r → IsTowards U r → (S : List (List Value)) → IsPartial q row taken r S →
          (K : ℕ) → (view_of q taken).has K → (Contains (rows_of q s K) (row_at S K) → ⊥) → IsNearer U r
      nearer U r hr towards S hS K hK notin = go (row_of_block s hs K lK (row_at S K) (kept-stored r hr K lK (row_at S K) ma))
        where
          lK : K < length q.atoms
          lK = view-in_range q taken K hK

          ma : Contains (rows_of q r K) (row_at S K)
          ma = hS.keeps K hK

          go : (b : List Value) × IsInBlock s K (row_at S K) b → IsNearer U r
          go (b, (kb, ab)) = elim (towards K hK b kb) [
            | inl m ↦ near (remove U (record { atom = K; row = b }) m)
            | inr m ↦ absurd (notin (subst (λ z. Contains (rows_of q s K) z) (sym (one_of_atom q keys tables fits r hr K lK (row_at S K) b ma m ab)) kb))
          ]
            where
              mb : Contains (rows_of q tables K) b
              mb = kept-stored s hs K lK b kb

              z : List (List (List Value))
              z = replaced r hr K lK (row_at S K) b ma mb ab

              near : (V : List Placed) × (length U ≡ suc (length V)) × ((y : Placed) → Contains U y → (record { atom = K; row = b } ≡ y) ⊎ Contains V y) → IsNearer U r
              near (V, l, h) = (V, replaced r hr K lK (row_at S K) b ma mb ab, l, replaced-repair r hr K lK (row_at S K) b ma mb ab, towards_more, replaced-below r hr S hS K hK lK b ma mb ab)
                where
                  at_b : (H : ℕ) (y : List Value) → ◌≡◌ {A = Placed} (record { atom = K; row = b }) (record { atom = H; row = y }) → Contains (rows_of q z H) y
                  at_b H y e = subst (λ t. Contains (rows_of q z t.atom) t.row) e (replaced-into r hr K lK (row_at S K) b ma mb ab b mb (inl refl))

                  still : (H : ℕ) → (view_of q taken).has H → (y : List Value) → Contains (rows_of q s H) y → Contains (rows_of q r H) y → Dec (H ≡ K) → Contains (rows_of q z H) y
                  still H has y ky m (no ne) = subst (λ t. Contains t y) (sym (replaced-elsewhere r hr K lK (row_at S K) b ma mb ab H (view-in_range q taken H has) ne)) m
                  still H has y ky m (yes e) =
                      let kK : Contains (rows_of q s K) y = subst (λ t. Contains (rows_of q s t) y) e ky in
                      let mK : Contains (rows_of q r K) y = subst (λ t. Contains (rows_of q r t) y) e m in
                      subst (λ t. Contains (rows_of q z t) y) (sym e)
                      (replaced-into r hr K lK (row_at S K) b ma mb ab y (kept-stored r hr K lK y mK) (inr (mK, λ f. notin (subst (λ t. Contains (rows_of q s K) t) f kK))))

                  towards_more : IsTowards V z
                  towards_more H has y ky = elim (towards H has y ky) [
                    | inl m ↦ elim (h (record { atom = H; row = y }) m) [ inl e ↦ inr (at_b H y e) | inr n ↦ inl n ]
                    | inr m ↦ inr (still H has y ky m (ℕ_discrete H K))
                  ]

      abbrev pub IsWithout : List (List (List Value)) → Type 0
      IsWithout r = (z : List (List (List Value))) × IsRepairBy keys tables z × IsBelow z r × LacksKey z x

      -- all rows that s keeps of the first n atoms
      pub kept_rows : ℕ → List Placed
      kept_rows zero = []
      kept_rows (suc n) = map (placed n) (rows_of q s n) ++ kept_rows n

      pub kept_rows-all : (n K : ℕ) → K < n → (y : List Value) → Contains (rows_of q s K) y → Contains (kept_rows n) (placed K y)
      unfolding kept_rows
      kept_rows-all zero K l y m = absurd (omega arith)
      kept_rows-all (suc n) K l y m = go (ℕ_discrete K n) (λ less. kept_rows-all n K less y m)
        where
          go : Dec (K ≡ n) → (K < n → Contains (kept_rows n) (placed K y)) → Contains (map (placed n) (rows_of q s n) ++ kept_rows n) (placed K y)
          go (yes e) next = Contains-append_left (map (placed n) (rows_of q s n)) (kept_rows n) (placed K y)
              (subst (λ t. Contains (map (placed n) (rows_of q s n)) (placed t y)) (sym e)
              (Contains-map (placed n) (rows_of q s n) y (subst (λ t. Contains (rows_of q s t) y) e m)))
          go (no ne) next = Contains-append_right (map (placed n) (rows_of q s n)) (kept_rows n) (placed K y) (next (omega arith))
