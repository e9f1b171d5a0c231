-- The laws of partial queries, over a database.
use Rattle.std.proofs.Common.{◌≡◌, ℕ, ◌<◌, ◌≢◌, ◌⊎◌, inl, inr, List, [], ◌∷◌, length, refl, sym, ◌∙◌, subst, Contains}
use Rattle.std.proofs.lemmas.List.{length-map}
use native.Mathlib.Decide.{ℕ_discrete}
use Rattle.cqa_value.specs.declared.value.Value.{Value}
use Rattle.cqa_model.specs.declared.query.ColRef.{ColRef}
use Rattle.cqa_model.specs.declared.query.Query.{Query}
use Rattle.cqa_model.specs.Database.{Table, stored, keys_of}
use Rattle.cqa_model.specs.Repairs.{SharesKey, IsRepair}
use Rattle.cqa_model.specs.Query.{atom_at, atom_key, rows_of, row_at, value, IsStrict, FitsDatabase}
use Rattle.cqa_model.specs.Closures.{CountsFor, InPlus}
use Rattle.cqa_model.specs.Graph.{Attacks}
use Rattle.cqa_model.specs.Plan.{Placed, Fits, IsUnattacked}
use Rattle.cqa_model.specs.Partial.{view_of, AllFit, IsPartial, HoldsPartial, HasKey, IsExchange}
use Rattle.cqa_model.specs.Laws.{WitnessesAgree, WitnessesStay, KeysGo, KeysByBlock, NoAttackComes, AttacksStay}
use Rattle.cqa_model.proofs.Fitting.{FitsTables, fits_tables}
use Rattle.cqa_model.proofs.Classic.{stable, mem-head, mem-nil, mem-cases}
use Rattle.cqa_model.proofs.Repairs.{sublist-stored, shares-self, shares-sym, shares-trans, shares-eq}
use Rattle.cqa_model.proofs.Witnesses.{at_table}
use Rattle.cqa_model.proofs.Views.{view-in_range}
use Rattle.cqa_model.proofs.Attacks.{IsClosed, after-closed, rest, kept}
use Rattle.cqa_model.proofs.Agreement.{one_of_atom, agreement}
use Rattle.cqa_model.proofs.Exchange.{exchanged_by}
use Rattle.cqa_model.proofs.Reification.{placed, kept-stored, row_of_block, LacksKey}
use Rattle.cqa_model.proofs.Existence.{some_repair}
use Rattle.cqa_model.proofs.Exactness.{forget, fits_of}
use Rattle.cqa_model.proofs.Keys.{dec_key, without_it, without_all, with_row}
use Rattle.cqa_model.proofs.EachRepair.{each_repair}
use Rattle.cqa_model.proofs.Cycles.{whole-narrow}

module _ (db : List Table) (q : Query) (fits : FitsDatabase q db) where
  abbrev tables_fit : FitsTables q (keys_of db) (stored db)
  tables_fit = fits_tables q db fits

  -- one repair with one row exchanged
  module _ (G : ℕ) (lG : G < length q.atoms) (a b : List Value) (old new : List (List (List Value))) (e : IsExchange db q G a b old new) where
    elsewhere-same : (H : ℕ) → H < length q.atoms → H ≢ G → rows_of q new H ≡ rows_of q old H
    elsewhere-same H l ne = e.others (atom_at q H).table (λ same. ne (q.kept.apart H G l lG same))

    stored-in : (r : List (List (List Value))) → IsRepair db r → (x : List Value) → Contains (rows_of q r G) x → Contains (rows_of q (stored db) G) x
    stored-in r hr x m = sublist-stored (rows_of q r G) (rows_of q (stored db) G) (at_table q (keys_of db) (stored db) tables_fit r hr G lG).stored x m

    new_has : Contains (rows_of q new G) b
    new_has = (e.own b).1 (inl refl)

    -- in a strict table nothing is exchanged
    own-strict : IsStrict q G → (x : List Value) → Contains (rows_of q new G) x → Contains (rows_of q old G) x
    own-strict strict x m = elim ((e.own x).0 m) [
      | inl is ↦ subst (λ z. Contains (rows_of q old G) z) (fits.strict G lG strict a b (stored-in old e.old_repair a e.out) (stored-in new e.new_repair b new_has) e.shares ∙ sym is) e.out
      | inr n ↦ n.0
    ]

    module _ (taken : List Placed) where
      elsewhere : (K : ℕ) → CountsFor q (view_of q taken) G K → (x : List Value) → Contains (rows_of q new K) x → Contains (rows_of q old K) x
      elsewhere K counts x m = go (ℕ_discrete K G) counts.1
        where
          go : Dec (K ≡ G) → (K ≢ G) ⊎ IsStrict q G → Contains (rows_of q old K) x
          go (no ne) c = subst (λ z. Contains z x) (elsewhere-same K (view-in_range q taken K counts.0) ne) m
          go (yes is) (inl ne) = absurd (ne is)
          go (yes is) (inr strict) = subst (λ z. Contains (rows_of q old z) x) (sym is) (own-strict strict x (subst (λ z. Contains (rows_of q new z) x) is m))

      -- a witness that doesn't use b was there
      stays : (row : List Value) (T : List (List Value)) → IsPartial q row taken new T → Contains (rows_of q old G) (row_at T G) → IsPartial q row taken old T
      stays row T hT m = record { size = hT.size; keeps = λ H has. go H has (ℕ_discrete H G); holds = hT.holds; answers = hT.answers; extends = hT.extends }
        where
          go : (H : ℕ) → (view_of q taken).has H → Dec (H ≡ G) → Contains (rows_of q old H) (row_at T H)
          go H has (yes is) = subst (λ z. Contains (rows_of q old z) (row_at T z)) (sym is) m
          go H has (no ne) = subst (λ z. Contains z (row_at T H)) (elsewhere-same H (view-in_range q taken H has) ne) (hT.keeps H has)

  module _ (row : List Value) (taken : List Placed) where
    agree : (G : ℕ) → (view_of q taken).has G → (old new : List (List (List Value))) (S T : List (List Value)) →
        IsPartial q row taken old S → IsPartial q row taken new T → IsExchange db q G (row_at S G) (row_at T G) old new →
        (v : ColRef) → InPlus q (view_of q taken) G v → value S v ≡ value T v
    agree G hG old new S T hS hT e =
        agreement q (keys_of db) (stored db) tables_fit row taken old new e.old_repair S T hS hT G
        (elsewhere G (view-in_range q taken G hG) (row_at S G) (row_at T G) old new e taken) e.shares

    module _ (all : AllFit q row taken) where
      module _ (G : ℕ) (hG : (view_of q taken).has G) (b : List Value) (old new : List (List (List Value))) (S : List (List Value))
          (hS : IsPartial q row taken old S) (e : IsExchange db q G (row_at S G) b old new) (T : List (List Value)) (hT : IsPartial q row taken new T) where
        lG : G < length q.atoms
        lG = view-in_range q taken G hG

        other_row : (F : ℕ) → (view_of q taken).has F → G ≢ F → (Attacks q (view_of q taken) G F → ⊥) →
            (U : List (List Value)) × IsPartial q row taken old U × (row_at U F ≡ row_at T F)
        other_row F hF ne free = elim ((e.own (row_at T G)).0 (hT.keeps G hG)) [
          | inl is ↦ found (stable (dec_key q row taken all old F (row_at T F))
              (exchanged_by q (keys_of db) (stored db) tables_fit row taken all old new e.old_repair S T hS hT G hG (elsewhere G lG (row_at S G) b old new e taken)
              (shares-trans (atom_key q G) (row_at S G) b (row_at T G) e.shares (shares-eq (atom_key q G) b (row_at T G) (sym is))) F hF free))
          | inr n ↦ (T, stays G lG (row_at S G) b old new e taken row T hT n.0, refl)
        ]
          where
            lF : F < length q.atoms
            lF = view-in_range q taken F hF

            kept_in_old : Contains (rows_of q old F) (row_at T F)
            kept_in_old = subst (λ z. Contains z (row_at T F)) (elsewhere-same G lG (row_at S G) b old new e F lF (λ is. ne (sym is))) (hT.keeps F hF)

            found : (U : List (List Value)) × IsPartial q row taken old U × SharesKey (atom_key q F) (row_at T F) (row_at U F) →
                (U : List (List Value)) × IsPartial q row taken old U × (row_at U F ≡ row_at T F)
            found (U, hU, s) = (U, hU, sym (one_of_atom q (keys_of db) (stored db) tables_fit old e.old_repair F lF (row_at T F) (row_at U F) kept_in_old (hU.keeps F hF) s))

        own_key : HasKey q row taken G old (row_at T G)
        own_key = elim ((e.own (row_at T G)).0 (hT.keeps G hG)) [
          | inl is ↦ (S, hS, shares-trans (atom_key q G) (row_at T G) b (row_at S G) (shares-eq (atom_key q G) (row_at T G) b is) (shares-sym (atom_key q G) (row_at S G) b e.shares))
          | inr n ↦ (T, stays G lG (row_at S G) b old new e taken row T hT n.0, shares-self (atom_key q G) (row_at T G))
        ]

      module _ (F : ℕ) (hF : (view_of q taken).has F) where
        lF : F < length q.atoms
        lF = view-in_range q taken F hF

        abbrev Keyed : List (List (List Value)) → List Value → Type 0
        Keyed r x = HasKey q row taken F r x

        module _ (free : IsUnattacked q (view_of q taken) F) where
          abbrev Lacks : List (List (List Value)) → List Value → Type 0
          Lacks r x = LacksKey q (keys_of db) (stored db) tables_fit row taken all F hF free r x

          less : (r s : List (List (List Value))) (x : List Value) → IsRepair db r → IsRepair db s → (Keyed s x → ⊥) →
              (z : List (List (List Value))) × IsRepair db z × ((y : List Value) → Keyed z y → Keyed r y) × (Keyed z x → ⊥)
          less r s x hr hs lacks =
              let o = without_it q (keys_of db) (stored db) tables_fit row taken all F hF free s hs x (λ w hw sh. lacks (w, hw, sh)) r hr in (
                o.0,
                o.1,
                (λ y h. stable (dec_key q row taken all r F y) (λ k. o.2 h.0 h.1 (λ p. k (p.0, p.1, shares-trans (atom_key q F) y (row_at h.0 F) (row_at p.0 F) h.2 p.2)))),
                (λ h. o.3 h.0 h.1 h.2),
              )

          -- one of these keys is a key of every repair, or each is missing in some
          some_key : (xs : List (List Value)) → ((x : List Value) × ((r : List (List (List Value))) → IsRepair db r → Keyed r x)) ⊎
              ((x : List Value) → Contains xs x → (s : List (List (List Value))) × IsRepair db s × Lacks s x)
          some_key [] = inr (λ x m. absurd (mem-nil x m))
          some_key (x ∷ xs) = go (each_repair (keys_of db) (stored db) (λ r. Keyed r x) (λ r. dec_key q row taken all r F x)) (some_key xs)
            where
              go : ((r : List (List (List Value))) → IsRepair db r → Keyed r x) ⊎ ((r : List (List (List Value))) × IsRepair db r × (Keyed r x → ⊥)) →
                  ((y : List Value) × ((r : List (List (List Value))) → IsRepair db r → Keyed r y)) ⊎ ((y : List Value) → Contains xs y → (s : List (List (List Value))) × IsRepair db s × Lacks s y) →
                  ((y : List Value) × ((r : List (List (List Value))) → IsRepair db r → Keyed r y)) ⊎ ((y : List Value) → Contains (x ∷ xs) y → (s : List (List (List Value))) × IsRepair db s × Lacks s y)
              go (inl h) o = inl (x, h)
              go (inr f) (inl h) = inl h
              go (inr f) (inr o) = inr (λ y m. elim (mem-cases y x xs m) [ inl is ↦ subst (λ z. (s : List (List (List Value))) × IsRepair db s × Lacks s z) is (f.0, f.1, λ w hw sh. f.2 (w, hw, sh)) | inr n ↦ o y n ])

          one_key : ((r : List (List (List Value))) → IsRepair db r → HoldsPartial q row taken r) → (x : List Value) × ((r : List (List (List Value))) → IsRepair db r → Keyed r x)
          one_key holds = go (some_key (rows_of q (stored db) F))
            where
              go : ((x : List Value) × ((r : List (List (List Value))) → IsRepair db r → Keyed r x)) ⊎ ((x : List Value) → Contains (rows_of q (stored db) F) x → (s : List (List (List Value))) × IsRepair db s × Lacks s x) →
                  (x : List Value) × ((r : List (List (List Value))) → IsRepair db r → Keyed r x)
              go (inl h) = h
              go (inr f) =
                  let r = some_repair (keys_of db) (stored db) in
                  let z = without_all q (keys_of db) (stored db) tables_fit row taken all F hF free r.0 r.1 (rows_of q (stored db) F) f in
                  let w = holds z.0 z.1 in
                  absurd (z.2 (row_at w.0 F) (kept-stored q (keys_of db) (stored db) tables_fit row taken all z.0 z.1 F lF (row_at w.0 F) (w.1.keeps F hF)) w.0 w.1 (shares-self (atom_key q F) (row_at w.0 F)))

        abbrev IsGood : List Value → Type 0
        IsGood y = Fits q row taken F y × ((r : List (List (List Value))) → IsRepair db r → HoldsPartial q row (placed F y ∷ taken) r)

        abbrev HasGoodBlock : List Value → Type 0
        HasGoodBlock x =
            (b : List Value) × Contains (rows_of q (stored db) F) b × SharesKey (atom_key q F) x b ×
            ((y : List Value) → Contains (rows_of q (stored db) F) y → SharesKey (atom_key q F) x y → IsGood y)

        -- a witness gives each answer column a value
        as_long : (ts : List Placed) (r : List (List (List Value))) (w : List (List Value)) → IsPartial q row ts r w → length row ≡ length q.answer
        as_long ts r w h = subst (λ z. length z ≡ length q.answer) h.answers (length-map q.answer (value w))

        block-from_key : (x : List Value) → ((r : List (List (List Value))) → IsRepair db r → Keyed r x) → HasGoodBlock x
        block-from_key x h = go (some_repair (keys_of db) (stored db))
          where
            go : (r : List (List (List Value))) × IsRepair db r → HasGoodBlock x
            go (r, hr) =
                let w = h r hr in
                (row_at w.0 F, kept-stored q (keys_of db) (stored db) tables_fit row taken all r hr F lF (row_at w.0 F) (w.1.keeps F hF), w.2, λ y my xy. good y my xy)
              where
                with_y : (y : List Value) → Contains (rows_of q (stored db) F) y → SharesKey (atom_key q F) x y → (u : List (List (List Value))) → IsRepair db u → HoldsPartial q row (placed F y ∷ taken) u
                with_y y my xy u hu =
                    let s = with_row q (keys_of db) (stored db) tables_fit row taken all F hF u hu x y my xy in
                    let w = h s.0 s.1 in
                    (w.0, s.2 w.0 w.1 w.2)

                good : (y : List Value) → Contains (rows_of q (stored db) F) y → SharesKey (atom_key q F) x y → IsGood y
                good y my xy =
                    let w = with_y y my xy r hr in
                    (fits_of q (keys_of db) (stored db) tables_fit row (as_long (placed F y ∷ taken) r w.0 w.1) taken r F y w.0 w.1, with_y y my xy)

        key-from_block : (x : List Value) → HasGoodBlock x → (r : List (List (List Value))) → IsRepair db r → Keyed r x
        key-from_block x (b, mb, xb, good) r hr = go (row_of_block q (keys_of db) (stored db) tables_fit row taken all r hr F lF b mb)
          where
            go : (y : List Value) × (Contains (rows_of q r F) y × SharesKey (atom_key q F) b y) → Keyed r x
            go (y, (my, by)) = found ((good y (kept-stored q (keys_of db) (stored db) tables_fit row taken all r hr F lF y my) xy).1 r hr)
              where
                xy : SharesKey (atom_key q F) x y
                xy = shares-trans (atom_key q F) x b y xb by

                found : HoldsPartial q row (placed F y ∷ taken) r → Keyed r x
                found (w, hw) = (
                  w,
                  forget q (keys_of db) (stored db) tables_fit row (as_long (placed F y ∷ taken) r w hw) taken r F y my w hw,
                  shares-trans (atom_key q F) x y (row_at w F) xy (shares-eq (atom_key q F) y (row_at w F) (sym (hw.extends (placed F y) (mem-head (placed F y) taken)))),
                )

pub witnesses_agree : WitnessesAgree
witnesses_agree db q row taken G old new S T fits hG hS hT e = agree db q fits row taken G hG old new S T hS hT e

pub witnesses_stay : WitnessesStay
witnesses_stay = record {
  other = λ db q row taken G F b old new S T fits all hG hS e hF ne free hT. other_row db q fits row taken all G hG b old new S hS e T hT F hF ne free;
  own = λ db q row taken G b old new S T fits all hG hS e hT. own_key db q fits row taken all G hG b old new S hS e T hT;
}

pub keys_go : KeysGo
keys_go = record {
  less = λ db q row taken F r s x fits all hF free hr hs lacks. less db q fits row taken all F hF free r s x hr hs lacks;
  one = λ db q row taken F fits all hF free holds. one_key db q fits row taken all F hF free holds;
}

pub keys_by_block : KeysByBlock
keys_by_block db q row taken F x fits all hF = (block-from_key db q fits row taken all F hF x, key-from_block db q fits row taken all F hF x)

-- what is fixed in the view of a partial query is whole variables
view-closed : (q : Query) (taken : List Placed) → IsClosed q (view_of q taken)
view-closed q [] = λ u v l f. f
view-closed q (t ∷ ts) = after-closed q (view_of q ts) (view-closed q ts) t.atom

pub no_attack_comes : NoAttackComes
no_attack_comes q taken F G H a = rest q (view_of q taken) (view-closed q taken) F G H a

pub attacks_stay : AttacksStay
attacks_stay q taken F G H hF free ne_G ne_H a =
    kept q (view_of q taken) (view-closed q taken) F (λ K hK p m. whole-narrow q K (view-in_range q taken K hK) p m) hF free G a.0 ne_G H ne_H a
