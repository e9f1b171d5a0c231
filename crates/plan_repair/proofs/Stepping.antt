-- Exchanges along witnesses: no key of an atom that is not attacked comes back.
use Rattle.std.proofs.Common.{◌≡◌, ℕ, zero, suc, ◌<◌, ◌≢◌, ◌⊎◌, inl, inr, Bool, List, ◌∷◌, length, refl, ap, sym, ◌∙◌, subst, Contains}
use native.Mathlib.Decide.{ℕ_discrete}
use Rattle.cqa_value.specs.declared.value.Value.{Value}
use Rattle.cqa_model.specs.declared.query.Query.{Query}
use Rattle.cqa_model.specs.Database.{Table, stored, keys_of}
use Rattle.cqa_model.specs.Repairs.{SharesKey, IsRepair}
use Rattle.cqa_model.specs.Query.{atom_key, rows_of, row_at, IsStrict, FitsDatabase}
use Rattle.cqa_model.specs.Plan.{Placed, Fits, IsUnattacked, IsPlan}
use Rattle.cqa_model.specs.Variables.{after}
use Rattle.cqa_model.specs.Partial.{view_of, AllFit}
use Rattle.cqa_model.proofs.Fitting.{FitsTables, fits_tables}
use Rattle.cqa_model.proofs.Classic.{mem-head, mem-cases}
use Rattle.cqa_model.proofs.Repairs.{shares-sym, shares-trans}
use Rattle.cqa_model.proofs.Views.{view-in_range}
use Rattle.cqa_model.proofs.Agreement.{one_of_atom}
use Rattle.cqa_model.proofs.Exchange.{exchanged}
use Rattle.cqa_model.proofs.Reification.{placed, kept-stored}
use Rattle.cqa_model.proofs.Elimination.{plan-eliminates}
use Rattle.cqa_model.proofs.Exactness.{forget, sound, fits_of}
use Rattle.plan_rows.specs.Links.{RowHolds}
use Rattle.repair_back.specs.Flags.{kept_of, kept_tables, flags_of, AreRepairFlags}
use Rattle.plan_repair.specs.Mending.{IsKeptWitness, HasNone, Lacks, IsMendingStep, IsReachedIn, IsReachedBySteps}
use Rattle.repair_back.proofs.Keeping.{kept-atom, partial-same, shown}

module _ (q : Query) (db : List Table) (fits : FitsDatabase q db) (row : List Value) (long : length row ≡ length q.answer) where
  abbrev Kept : List (List Bool) → List (List (List Value))
  Kept flags = kept_tables (stored db) flags

  tables : FitsTables q (keys_of db) (stored db)
  tables = fits_tables q db fits

  -- the rows of an atom whose flags stay are the same
  pub same-rows : (old new : List (List Bool)) (H : ℕ) → flags_of q new H ≡ flags_of q old H → rows_of q (Kept new) H ≡ rows_of q (Kept old) H
  same-rows old new H e = kept-atom q db new H ∙ ap (λ f. kept_of (rows_of q (stored db) H) f) e ∙ sym (kept-atom q db old H)

  -- what a step leaves, it leaves with its rows
  step-elsewhere : (taken : List Placed) (old new : List (List Bool)) (s : IsMendingStep db q row taken old new) (H : ℕ) → (view_of q taken).has H → H ≢ s.atom → (x : List Value) →
      Contains (rows_of q (Kept new) H) x → Contains (rows_of q (Kept old) H) x
  step-elsewhere taken old new s H has ne x m = subst (λ rows. Contains rows x) (same-rows old new H (s.elsewhere H (view-in_range q taken H has) ne)) m

  -- a step along a witness of one row more is one without that row, where it is kept
  step-forget : (taken : List Placed) (F : ℕ) (y : List Value) (old new : List (List Bool)) → Contains (rows_of q (Kept old) F) y → IsMendingStep db q row (placed F y ∷ taken) old new → IsMendingStep db q row taken old new
  step-forget taken F y old new my s = record {
    witness = s.witness;
    atom = s.atom;
    into = s.into;
    is_kept = forget q (keys_of db) (stored db) tables row long taken (Kept old) F y my s.witness s.is_kept;
    has = s.has.0;
    there = s.there;
    shares = s.shares;
    here = s.here;
    elsewhere = s.elsewhere;
  }

  module _ (taken : List Placed) (all : AllFit q row taken) (F : ℕ) (hF : (view_of q taken).has F) where
    lF : F < length q.atoms
    lF = view-in_range q taken F hF

    -- a step brings back no key of an atom that is not attacked
    module _ (free : IsUnattacked q (view_of q taken) F) where
      step-lacks : (old new : List (List Bool)) → AreRepairFlags q db old → IsMendingStep db q row taken old new → (x : List Value) → Lacks db q row taken F old x → Lacks db q row taken F new x
      step-lacks old new chosen s x lacks T hT sh = go (shown q db fits old chosen)
        where
          go : ((r : List (List (List Value))) × IsRepair db r × ((H : ℕ) → H < length q.atoms → rows_of q r H ≡ rows_of q (Kept old) H)) → ⊥
          go (r, hr, same) = elim (s.here (row_at T s.atom) (hT.keeps s.atom s.has)) [
            | inl e ↦ exchanged q (keys_of db) (stored db) tables row taken all r (Kept new) hr s.witness T (partial-same q row taken (Kept old) r s.witness same s.is_kept) hT s.atom s.has
                (λ H counts y m. subst (λ rows. Contains rows y) (sym (same H (view-in_range q taken H counts.0))) (counted H counts.0 y m (ℕ_discrete H s.atom) counts.1))
                (subst (λ z. SharesKey (atom_key q s.atom) (row_at s.witness s.atom) z) (sym e) s.shares) F hF free
                (λ p. lacks p.0 (partial-same q row taken r (Kept old) p.0 (λ H l. sym (same H l)) p.1) (shares-trans (atom_key q F) x (row_at T F) (row_at p.0 F) sh p.2))
            | inr n ↦ lacks T (record { size = hT.size; keeps = λ H has. stays n H has (ℕ_discrete H s.atom); holds = hT.holds; answers = hT.answers; extends = hT.extends }) sh
          ]
            where
              -- in a strict table the row and the one for it are one
              own : IsStrict q s.atom → (y : List Value) → Contains (rows_of q (Kept new) s.atom) y → Contains (rows_of q (Kept old) s.atom) y
              own strict y m = elim (s.here y m) [
                | inl e ↦ subst (λ z. Contains (rows_of q (Kept old) s.atom) z) (is_into strict ∙ sym e) (s.is_kept.keeps s.atom s.has)
                | inr n ↦ n
              ]
                where
                  lA : s.atom < length q.atoms
                  lA = view-in_range q taken s.atom s.has

                  is_into : IsStrict q s.atom → row_at s.witness s.atom ≡ s.into
                  is_into strict = fits.strict s.atom lA strict (row_at s.witness s.atom) s.into
                      (kept-stored q (keys_of db) (stored db) tables row taken all r hr s.atom lA (row_at s.witness s.atom)
                      (subst (λ rows. Contains rows (row_at s.witness s.atom)) (sym (same s.atom lA)) (s.is_kept.keeps s.atom s.has))) s.there s.shares

              counted : (H : ℕ) → (view_of q taken).has H → (y : List Value) → Contains (rows_of q (Kept new) H) y → Dec (H ≡ s.atom) → (H ≢ s.atom) ⊎ IsStrict q s.atom → Contains (rows_of q (Kept old) H) y
              counted H has y m (no ne) c = step-elsewhere taken old new s H has ne y m
              counted H has y m (yes e) (inl ne) = absurd (ne e)
              counted H has y m (yes e) (inr strict) = subst (λ z. Contains (rows_of q (Kept old) z) y) (sym e) (own strict y (subst (λ z. Contains (rows_of q (Kept new) z) y) e m))

              stays : Contains (rows_of q (Kept old) s.atom) (row_at T s.atom) → (H : ℕ) → (view_of q taken).has H → Dec (H ≡ s.atom) → Contains (rows_of q (Kept old) H) (row_at T H)
              stays m H has (yes e) = subst (λ z. Contains (rows_of q (Kept old) z) (row_at T z)) (sym e) m
              stays m H has (no ne) = step-elsewhere taken old new s H has ne (row_at T H) (hT.keeps H has)

      reach-lacks : (n : ℕ) (old new : List (List Bool)) → AreRepairFlags q db old → IsReachedIn db q row taken n old new → (x : List Value) → Lacks db q row taken F old x → Lacks db q row taken F new x
      reach-lacks zero old new chosen e x lacks = subst (λ f. Lacks db q row taken F f x) e lacks
      reach-lacks (suc n) old new chosen (flags, s, h, more) x lacks = reach-lacks n flags new h more x (step-lacks old flags chosen s x lacks)

      pub reached-lacks : (old new : List (List Bool)) → AreRepairFlags q db old → IsReachedBySteps db q row taken old new → (x : List Value) → Lacks db q row taken F old x → Lacks db q row taken F new x
      reached-lacks old new chosen (n, h) x lacks = reach-lacks n old new chosen h x lacks

    -- steps along witnesses with F's row taken leave F's flags, and are steps without it
    module _ (y : List Value) where
      reach-same : (n : ℕ) (old new : List (List Bool)) → IsReachedIn db q row (placed F y ∷ taken) n old new → flags_of q new F ≡ flags_of q old F
      reach-same zero old new e = ap (λ f. flags_of q f F) (sym e)
      reach-same (suc n) old new (flags, s, h, more) = reach-same n flags new more ∙ s.elsewhere F lF (λ e. s.has.1 (sym e))

      reach-forget : (n : ℕ) (old new : List (List Bool)) → Contains (rows_of q (Kept old) F) y → IsReachedIn db q row (placed F y ∷ taken) n old new → IsReachedIn db q row taken n old new
      reach-forget zero old new my e = e
      reach-forget (suc n) old new my (flags, s, h, more) = (
        flags,
        step-forget taken F y old flags my s,
        h,
        reach-forget n flags new (subst (λ rows. Contains rows y) (sym (same-rows old flags F (s.elsewhere F lF (λ e. s.has.1 (sym e))))) my) more,
      )

      pub reached-same : (old new : List (List Bool)) → IsReachedBySteps db q row (placed F y ∷ taken) old new → flags_of q new F ≡ flags_of q old F
      reached-same old new (n, h) = reach-same n old new h

      pub reached-forget : (old new : List (List Bool)) → Contains (rows_of q (Kept old) F) y → IsReachedBySteps db q row (placed F y ∷ taken) old new → IsReachedBySteps db q row taken old new
      reached-forget old new my (n, h) = (n, reach-forget n old new my h)

      module _ (flags : List (List Bool)) (chosen : AreRepairFlags q db flags) (my : Contains (rows_of q (Kept flags) F) y) where
        -- a witness whose row of F is of y's block has y, if y is kept
        with-taken : (w : List (List Value)) → IsKeptWitness db q row taken flags w → SharesKey (atom_key q F) y (row_at w F) → IsKeptWitness db q row (placed F y ∷ taken) flags w
        with-taken w h sh = go (shown q db fits flags chosen)
          where
            go : ((r : List (List (List Value))) × IsRepair db r × ((H : ℕ) → H < length q.atoms → rows_of q r H ≡ rows_of q (Kept flags) H)) → IsKeptWitness db q row (placed F y ∷ taken) flags w
            go (r, hr, same) = record {
              size = h.size;
              holds = h.holds;
              answers = h.answers;
              keeps = λ K p. h.keeps K p.0;
              extends = λ t m. elim (mem-cases t (placed F y) taken m) [ inl e ↦ subst (λ u. row_at w u.atom ≡ u.row) e is | inr n ↦ h.extends t n ];
            }
              where
                is : row_at w F ≡ y
                is = one_of_atom q (keys_of db) (stored db) tables r hr F lF (row_at w F) y
                    (subst (λ rows. Contains rows (row_at w F)) (sym (same F lF)) (h.keeps F hF)) (subst (λ rows. Contains rows y) (sym (same F lF)) my)
                    (shares-sym (atom_key q F) y (row_at w F) sh)

        pub lacks-none : HasNone db q row (placed F y ∷ taken) flags → Lacks db q row taken F flags y
        lacks-none none w h sh = none w (with-taken w h sh)

        pub lacks-unfit : (Fits q row taken F y → ⊥) → Lacks db q row taken F flags y
        lacks-unfit unfit w h sh = unfit (fits_of q (keys_of db) (stored db) tables row long taken (Kept flags) F y w (with-taken w h sh))

        -- where y holds, there is a witness with it
        pub held-witness : (plan : List ℕ) → IsPlan q (after q (view_of q taken) F) plan → RowHolds q (stored db) row taken F plan y → (w : List (List Value)) × IsKeptWitness db q row taken flags w × (row_at w F ≡ y)
        held-witness plan is_plan (fy, holds) = go (shown q db fits flags chosen)
          where
            go : ((r : List (List (List Value))) × IsRepair db r × ((H : ℕ) → H < length q.atoms → rows_of q r H ≡ rows_of q (Kept flags) H)) → (w : List (List Value)) × IsKeptWitness db q row taken flags w × (row_at w F ≡ y)
            go (r, hr, same) =
                let s = sound q (keys_of db) (stored db) tables row long plan (placed F y ∷ taken) (hF, fy, all) (plan-eliminates q (view_of q (placed F y ∷ taken)) plan is_plan) holds r hr in
                let k = partial-same q row (placed F y ∷ taken) r (Kept flags) s.0 (λ H l. sym (same H l)) s.1 in
                (s.0, forget q (keys_of db) (stored db) tables row long taken (Kept flags) F y my s.0 k, k.extends (placed F y) (mem-head (placed F y) taken))

  -- one way and then another
  reach-joined : (taken : List Placed) (n m : ℕ) (a b c : List (List Bool)) → IsReachedIn db q row taken n a b → IsReachedIn db q row taken m b c → IsReachedBySteps db q row taken a c
  reach-joined taken zero m a b c e h = (m, subst (λ f. IsReachedIn db q row taken m f c) (sym e) h)
  reach-joined taken (suc n) m a b c (flags, s, k, more) h = let j = reach-joined taken n m flags b c more h in (suc j.0, (flags, s, k, j.1))

  pub reached-joined : (taken : List Placed) (a b c : List (List Bool)) → IsReachedBySteps db q row taken a b → IsReachedBySteps db q row taken b c → IsReachedBySteps db q row taken a c
  reached-joined taken a b c (n, h) (m, k) = reach-joined taken n m a b c h k

  pub reached-self : (taken : List Placed) (a : List (List Bool)) → IsReachedBySteps db q row taken a a
  reached-self taken a = (0, refl)

  pub reached-step : (taken : List Placed) (a b : List (List Bool)) → IsMendingStep db q row taken a b → AreRepairFlags q db b → IsReachedBySteps db q row taken a b
  reached-step taken a b s h = (1, (b, s, h, refl))
