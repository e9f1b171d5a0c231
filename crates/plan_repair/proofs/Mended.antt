-- Block by block and row by row: what was mended so far.
use Rattle.std.proofs.Common.{◌≡◌, ℕ, ◌+◌, ◌<◌, ◌≤◌, ◌≢◌, ◌⊎◌, ◌↔◌, inl, inr, Bool, List, [], ◌∷◌, length, get_or, refl, ap, sym, ◌∙◌, subst, arith, Contains}
use native.Mathlib.Decide.{ℕ_discrete}
use Rattle.std.proofs.lemmas.List.{get_or_default}
use Rattle.std.proofs.lemmas.List.Elements.{Contains-get_or}
use Rattle.cqa_value.specs.declared.value.Value.{Value}
use Rattle.cqa_value.proofs.Words.{member_place, cases_le, cases_next}
use Rattle.cqa_model.specs.declared.query.Query.{Query}
use Rattle.cqa_model.specs.Database.{Table, stored}
use Rattle.cqa_model.specs.Repairs.{SharesKey}
use Rattle.cqa_model.specs.Query.{atom_at, atom_key, rows_of, row_at, FitsDatabase}
use Rattle.cqa_model.specs.Plan.{Placed, PlanHolds, IsUnattacked, IsPlan}
use Rattle.cqa_model.specs.Variables.{after}
use Rattle.cqa_model.specs.Partial.{view_of, AllFit, IsPartial}
use Rattle.cqa_model.proofs.Repairs.{shares-sym, shares-trans, shares-eq}
use Rattle.cqa_model.proofs.Views.{view-in_range}
use Rattle.plan_rows.specs.Links.{RowHolds}
use Rattle.repair_back.specs.Flags.{IsFlagged, kept_of, kept_tables, flags_of, HasOneFlagEach, AreRepairFlags}
use Rattle.plan_repair.specs.Mending.{IsKeptWitness, HasNone, Lacks, IsMendingStep, IsReachedBySteps}
use Rattle.repair_back.specs.Walking.{IsBlockBetween}
use Rattle.repair_back.proofs.Choosing.{flag-there, kept_of-into, kept_of-out, exchanged-choice, exchanged-here}
use Rattle.repair_back.proofs.Keeping.{kept-atom, stored-witness}
use Rattle.plan_repair.proofs.Stepping.{reached-lacks, reached-joined, reached-self, reached-step, held-witness}

-- what holds of the rows before a place, and of the row there, holds of the rows up to it
held_on : (rows : List (List Value)) (P : List Value → Type 0) (start next : ℕ) → ((i : ℕ) → start ≤ i → i < next → P (get_or rows i [])) → P (get_or rows next [])
    → (i : ℕ) → start ≤ i → i < next + 1 → P (get_or rows i [])
held_on rows P start next before at i l b = elim (cases_next i next b) [ inl k ↦ before i l k | inr e ↦ subst (λ j. P (get_or rows j [])) (sym e) at ]

module _ (q : Query) (db : List Table) (row : List Value) (taken : List Placed) (F : ℕ) where
  -- rows of one block lack a key together
  pub lacks-shared : (flags : List (List Bool)) (x y : List Value) → SharesKey (atom_key q F) x y → Lacks db q row taken F flags x → Lacks db q row taken F flags y
  lacks-shared flags x y s lacks w h sh = lacks w h (shares-trans (atom_key q F) x y (row_at w F) s sh)

  -- a row of F is in a witness with the rows taken whose other rows are stored
  abbrev pub IsInWitness : List Value → Type 0
  IsInWitness y = (w : List (List Value)) × IsPartial q row taken (stored db) w × (row_at w F ≡ y)

  -- the rows before a place, and those before the end of the last block, were mended, as far as they are in a witness
  pub record BlocksSoFar (old flags : List (List Bool)) (rows : List (List Value)) (start at done : ℕ) : Type 0 where
    pub chosen : AreRepairFlags q db flags
    pub reached : IsReachedBySteps db q row taken old flags
    pub lacks : (i : ℕ) → start ≤ i → i < length rows → (i < at) ⊎ (i < done) → IsInWitness (get_or rows i []) → Lacks db q row taken F flags (get_or rows i [])

  -- where all rows were mended that are in a witness, none is left
  pub blocks-all : (view_of q taken).has F → (old flags : List (List Bool)) (rows : List (List Value)) (start end at done : ℕ) → rows ≡ rows_of q (stored db) F →
      ((i : ℕ) → i < length rows → (i < start) ⊎ (end ≤ i) → IsInWitness (get_or rows i []) → ⊥) → BlocksSoFar old flags rows start at done → end ≤ at → HasNone db q row taken flags
  blocks-all hF old flags rows start end at done is others h le w hw =
      go (kept_of-out (rows_of q (stored db) F) (flags_of q flags F) (row_at w F) (subst (λ kept. Contains kept (row_at w F)) (kept-atom q db flags F) (hw.keeps F hF)))
    where
      go : ((p : ℕ) × (p < length (rows_of q (stored db) F)) × IsFlagged (flags_of q flags F) p × (get_or (rows_of q (stored db) F) p [] ≡ row_at w F)) → ⊥
      go (p, l, f, e) = cases (cases_le start p) (cases_le end p)
        where
          here : get_or rows p [] ≡ row_at w F
          here = ap (λ (rs : List (List Value)). get_or rs p []) is ∙ e

          lp : p < length rows
          lp = subst (λ (rs : List (List Value)). p < length rs) (sym is) l

          held : IsInWitness (get_or rows p [])
          held = (w, stored-witness q db flags row taken w hw, sym here)

          cases : (start ≤ p) ⊎ (p < start) → (end ≤ p) ⊎ (p < end) → ⊥
          cases (inr b) d = others p lp (inl b) held
          cases (inl b) (inl d) = others p lp (inr d) held
          cases (inl b) (inr d) = h.lacks p b lp (inl (omega (arith, d, le))) held w hw (shares-eq (atom_key q F) (get_or rows p []) (row_at w F) here)

  -- rows of a block that were tried
  pub record RowsSoFar (plan : List ℕ) (old flags : List (List Bool)) (rows : List (List Value)) (start end last next : ℕ) : Type 0 where
    pub chosen : AreRepairFlags q db flags
    pub reached : IsReachedBySteps db q row taken old flags
    pub after : start ≤ last
    pub before : last < end
    pub is_kept : IsFlagged (flags_of q flags F) last
    pub holds : RowHolds q (stored db) row taken F plan (get_or rows last [])
    pub held : (i : ℕ) → start ≤ i → i < next → RowHolds q (stored db) row taken F plan (get_or rows i [])

-- what is read at the place of an atom's table
pub flags-read : (q : Query) (db : List Table) → FitsDatabase q db → (flags : List (List Bool)) → length flags ≡ length db → (F : ℕ) → F < length q.atoms → (t : ℕ) → t ≡ (atom_at q F).table →
    (f : List Bool) → f ≡ get_or flags t f → f ≡ flags_of q flags F
flags-read q db fits flags size F l t is f e =
    let there = fits.there F l in
    e ∙ get_or_default flags t f [] (omega (arith, there, is, size)) ∙ ap (λ u. get_or flags u []) is

module _ (q : Query) (db : List Table) (flags : List (List Bool)) (chosen : AreRepairFlags q db flags) (F : ℕ) (lF : F < length q.atoms) where
  -- a block has a row that is kept
  pub kept-in-block : (start end : ℕ) → IsBlockBetween (atom_key q F) (rows_of q (stored db) F) start end → (p : ℕ) × (start ≤ p) × (p < end) × IsFlagged (flags_of q flags F) p
  kept-in-block start end block =
      let choice = chosen.each F lF in
      let some = block.some in
      let within = block.within in
      let p = choice.some start (omega (arith, some, within)) in
      let l : p.0 < length (rows_of q (stored db) F) = subst (λ n. p.0 < n) choice.size (flag-there (flags_of q flags F) p.0 p.1) in
      let b = (block.exactly p.0 l).0 p.2 in
      (p.0, b.0, b.1, p.1)

  -- the row at a place that is flagged is kept
  pub kept-row : (p : ℕ) → IsFlagged (flags_of q flags F) p → Contains (rows_of q (kept_tables (stored db) flags) F) (get_or (rows_of q (stored db) F) p [])
  kept-row p f = subst (λ rows. Contains rows (get_or (rows_of q (stored db) F) p [])) (sym (kept-atom q db flags F))
      (kept_of-into (rows_of q (stored db) F) (flags_of q flags F) p (subst (λ n. p < n) (chosen.each F lF).size (flag-there (flags_of q flags F) p f)) f)

module _ (q : Query) (db : List Table) (fits : FitsDatabase q db) (row : List Value) (long : length row ≡ length q.answer) (taken : List Placed) (all : AllFit q row taken)
    (F : ℕ) (hF : (view_of q taken).has F) where
  pub blocks-none : (old : List (List Bool)) (rows : List (List Value)) (start : ℕ) → AreRepairFlags q db old → BlocksSoFar q db row taken F old old rows start start 0
  blocks-none old rows start chosen = record {
    chosen = chosen;
    reached = reached-self q db fits row long taken old;
    lacks = λ i l lr o f. absurd (elim o [ inl b ↦ omega (arith, l, b) | inr b ↦ omega (arith, b) ]);
  }

  -- the block of the row at a place was mended
  pub blocks-more : IsUnattacked q (view_of q taken) F → (old flags new : List (List Bool)) (rows : List (List Value)) (start at done begin end : ℕ) →
      BlocksSoFar q db row taken F old flags rows start at done → IsBlockBetween (atom_key q F) rows begin end → begin ≤ at → at < end → AreRepairFlags q db new → IsReachedBySteps db q row taken flags new →
      Lacks db q row taken F new (get_or rows begin []) → BlocksSoFar q db row taken F old new rows start at end
  blocks-more free old flags new rows start at done begin end h block low high chosen reached lacks = record {
    chosen = chosen;
    reached = reached-joined q db fits row long taken old flags new h.reached reached;
    lacks = λ i l lr o f. go i l lr (elim o [ inl b ↦ omega (arith, b, high) | inr b ↦ b ]) f (cases_le begin i);
  }
    where
      go : (i : ℕ) → start ≤ i → i < length rows → i < end → IsInWitness q db row taken F (get_or rows i []) → (begin ≤ i) ⊎ (i < begin) → Lacks db q row taken F new (get_or rows i [])
      go i l lr b f (inl k) = lacks-shared q db row taken F new (get_or rows begin []) (get_or rows i []) ((block.exactly i lr).1 (k, b)) lacks
      go i l lr b f (inr k) = reached-lacks q db fits row long taken all F hF free flags new h.chosen reached (get_or rows i []) (h.lacks i l lr (inl (omega (arith, k, low))) f)

  -- no row up to a later place is in a witness, but for those of the block
  pub blocks-on : (old flags : List (List Bool)) (rows : List (List Value)) (start at done to : ℕ) → BlocksSoFar q db row taken F old flags rows start at done → at < done →
      ((i : ℕ) → at < i → i < to → i < length rows → IsInWitness q db row taken F (get_or rows i []) → ⊥) → BlocksSoFar q db row taken F old flags rows start to done
  blocks-on old flags rows start at done to h more passed = record {
    chosen = h.chosen;
    reached = h.reached;
    lacks = λ i l lr o f. go i l lr f o (cases_le i at);
  }
    where
      go : (i : ℕ) → start ≤ i → i < length rows → IsInWitness q db row taken F (get_or rows i []) → (i < to) ⊎ (i < done) → (i ≤ at) ⊎ (at < i) → Lacks db q row taken F flags (get_or rows i [])
      go i l lr f (inr b) c = h.lacks i l lr (inr b) f
      go i l lr f (inl b) (inl c) = h.lacks i l lr (inr (omega (arith, c, more))) f
      go i l lr f (inl b) (inr c) = absurd (passed i c b lr f)

  -- all rows of a block hold: so does the plan
  pub block-holds : (plan : List ℕ) (rows : List (List Value)) (at next : ℕ) → rows ≡ rows_of q (stored db) F → IsBlockBetween (atom_key q F) rows at next →
      ((i : ℕ) → at ≤ i → i < next → RowHolds q (stored db) row taken F plan (get_or rows i [])) → PlanHolds q (stored db) row taken (F ∷ plan)
  block-holds plan rows at next is block holds = (
    get_or rows at [],
    subst (λ (rs : List (List Value)). Contains rs (get_or rows at [])) is (Contains-get_or rows at [] (let some = block.some in let within = block.within in omega (arith, some, within))),
    λ y my s. let p = member_place rows y [] (subst (λ (rs : List (List Value)). Contains rs y) (sym is) my) in
        let b = (block.exactly p.0 p.1).0 (subst (λ z. SharesKey (atom_key q F) (get_or rows at []) z) (sym p.2) s) in
        subst (λ z. RowHolds q (stored db) row taken F plan z) p.2 (holds p.0 b.0 b.1),
  )

  lF : F < length q.atoms
  lF = view-in_range q taken F hF

  module _ (plan : List ℕ) (is_plan : IsPlan q (Rattle.cqa_model.specs.Variables.after q (view_of q taken) F) plan) (rows : List (List Value)) (is : rows ≡ rows_of q (stored db) F)
      (start end : ℕ) (block : IsBlockBetween (atom_key q F) rows start end) where
    -- one row is kept for another
    module _ (flags new : List (List Bool)) (chosen : AreRepairFlags q db flags) (last next : ℕ) (ll : start ≤ last) (lb : last < end) (nl : start ≤ next) (nb : next < end)
        (kept : IsFlagged (flags_of q flags F) last) (holds : RowHolds q (stored db) row taken F plan (get_or rows last []))
        (long_new : length new ≡ length flags) (size : length (flags_of q new F) ≡ length (flags_of q flags F))
        (is_new : (p : ℕ) → IsFlagged (flags_of q new F) p ↔ ((p ≡ next) ⊎ (IsFlagged (flags_of q flags F) p × (p ≢ last))))
        (others : (t : ℕ) → t ≢ (atom_at q F).table → get_or new t [] ≡ get_or flags t []) where
      stored_rows : List (List Value)
      stored_rows = rows_of q (stored db) F

      block' : IsBlockBetween (atom_key q F) (rows_of q (stored db) F) start end
      block' = subst (λ rs. IsBlockBetween (atom_key q F) rs start end) is block

      shares : SharesKey (atom_key q F) (get_or (rows_of q (stored db) F) last []) (get_or (rows_of q (stored db) F) next [])
      shares = let within = block'.within in shares-trans (atom_key q F) (get_or (rows_of q (stored db) F) last []) (get_or (rows_of q (stored db) F) start []) (get_or (rows_of q (stored db) F) next [])
          (shares-sym (atom_key q F) (get_or (rows_of q (stored db) F) start []) (get_or (rows_of q (stored db) F) last []) ((block'.exactly last (omega (arith, lb, within))).1 (ll, lb)))
          ((block'.exactly next (omega (arith, nb, within))).1 (nl, nb))

      same : (H : ℕ) → H < length q.atoms → H ≢ F → flags_of q new H ≡ flags_of q flags H
      same H l ne = others (atom_at q H).table (λ e. ne (q.kept.apart H F l lF e))

      pub kept-chosen : AreRepairFlags q db new
      kept-chosen = record { size = long_new ∙ chosen.size; each = λ H l. go H l (ℕ_discrete H F) }
        where
          go : (H : ℕ) → H < length q.atoms → Dec (H ≡ F) → HasOneFlagEach (atom_key q H) (rows_of q (stored db) H) (flags_of q new H)
          go H l (yes e) = subst (λ G. HasOneFlagEach (atom_key q G) (rows_of q (stored db) G) (flags_of q new G)) (sym e)
              (exchanged-choice (atom_key q F) (rows_of q (stored db) F) (flags_of q flags F) (flags_of q new F) last next size kept shares (chosen.each F lF) is_new)
          go H l (no ne) = subst (λ f. HasOneFlagEach (atom_key q H) (rows_of q (stored db) H) f) (sym (same H l ne)) (chosen.each H l)

      held' : RowHolds q (stored db) row taken F plan (get_or (rows_of q (stored db) F) last [])
      held' = subst (λ (rs : List (List Value)). RowHolds q (stored db) row taken F plan (get_or rs last [])) is holds

      kept-step : IsMendingStep db q row taken flags new
      kept-step = go (held-witness q db fits row long taken all F hF (get_or (rows_of q (stored db) F) last []) flags chosen (kept-row q db flags chosen F lF last kept) plan is_plan held')
        where
          go : ((w : List (List Value)) × IsKeptWitness db q row taken flags w × (row_at w F ≡ get_or (rows_of q (stored db) F) last [])) → IsMendingStep db q row taken flags new
          go (w, hw, e) = record {
            witness = w;
            atom = F;
            into = get_or (rows_of q (stored db) F) next [];
            is_kept = hw;
            has = hF;
            there = Contains-get_or (rows_of q (stored db) F) next [] (let within = block'.within in omega (arith, nb, within));
            shares = subst (λ z. SharesKey (atom_key q F) z (get_or (rows_of q (stored db) F) next [])) (sym e) shares;
            here = λ x m. here x (exchanged-here (atom_key q F) (rows_of q (stored db) F) (flags_of q flags F) (flags_of q new F) last next size kept shares (chosen.each F lF) is_new x (subst (λ rs. Contains rs x) (kept-atom q db new F) m));
            elsewhere = same;
          }
            where
              here : (x : List Value) → (x ≡ get_or (rows_of q (stored db) F) next []) ⊎ Contains (kept_of (rows_of q (stored db) F) (flags_of q flags F)) x →
                  (x ≡ get_or (rows_of q (stored db) F) next []) ⊎ Contains (rows_of q (kept_tables (stored db) flags) F) x
              here x (inl e) = inl e
              here x (inr n) = inr (subst (λ rs. Contains rs x) (sym (kept-atom q db flags F)) n)

      pub kept-reached : IsReachedBySteps db q row taken flags new
      kept-reached = reached-step q db fits row long taken flags new kept-step kept-chosen

      pub kept-next : Contains (rows_of q (kept_tables (stored db) new) F) (get_or (rows_of q (stored db) F) next [])
      kept-next = kept-row q db new kept-chosen F lF next ((is_new next).1 (inl refl))

    -- the same of rows that were tried
    pub record Turned (old flags new : List (List Bool)) (next : ℕ) : Type 0 where
      pub chosen : AreRepairFlags q db new
      pub reached : IsReachedBySteps db q row taken old new
      pub next_kept : Contains (rows_of q (kept_tables (stored db) new) F) (get_or rows next [])

    pub turned : (old flags new : List (List Bool)) (last next : ℕ) → RowsSoFar q db row taken F plan old flags rows start end last next → start ≤ next → next < end →
        length new ≡ length flags → length (flags_of q new F) ≡ length (flags_of q flags F) →
        ((p : ℕ) → IsFlagged (flags_of q new F) p ↔ ((p ≡ next) ⊎ (IsFlagged (flags_of q flags F) p × (p ≢ last)))) →
        ((t : ℕ) → t ≢ (atom_at q F).table → get_or new t [] ≡ get_or flags t []) → Turned old flags new next
    turned old flags new last next h nl nb long_new size is_new others = record {
      chosen = kept-chosen flags new h.chosen last next h.after h.before nl nb h.is_kept h.holds long_new size is_new others;
      reached = reached-joined q db fits row long taken old flags new h.reached (kept-reached flags new h.chosen last next h.after h.before nl nb h.is_kept h.holds long_new size is_new others);
      next_kept = subst (λ (rs : List (List Value)). Contains (rows_of q (kept_tables (stored db) new) F) (get_or rs next [])) (sym is)
          (kept-next flags new h.chosen last next h.after h.before nl nb h.is_kept h.holds long_new size is_new others);
    }

    -- a row was mended after it
    pub rows-turned : (old flags new later : List (List Bool)) (last next : ℕ) → RowsSoFar q db row taken F plan old flags rows start end last next → Turned old flags new next → start ≤ next → next < end →
        ((p : ℕ) → IsFlagged (flags_of q new F) p ↔ ((p ≡ next) ⊎ (IsFlagged (flags_of q flags F) p × (p ≢ last)))) →
        AreRepairFlags q db later → IsReachedBySteps db q row taken new later → flags_of q later F ≡ flags_of q new F → RowHolds q (stored db) row taken F plan (get_or rows next []) →
        RowsSoFar q db row taken F plan old later rows start end next (next + 1)
    rows-turned old flags new later last next h t nl nb is_new chosen reached same holds = record {
      chosen = chosen;
      reached = reached-joined q db fits row long taken old new later t.reached reached;
      after = nl;
      before = nb;
      is_kept = subst (λ f. IsFlagged f next) (sym same) ((is_new next).1 (inl refl));
      holds = holds;
      held = held_on rows (RowHolds q (stored db) row taken F plan) start next h.held holds;
    }

module _ (q : Query) (db : List Table) (row : List Value) (taken : List Placed) (F : ℕ) (plan : List ℕ) where
  -- a row that holds is passed over
  pub rows-skip : (old flags : List (List Bool)) (rows : List (List Value)) (start end last next : ℕ) → RowsSoFar q db row taken F plan old flags rows start end last next →
      RowHolds q (stored db) row taken F plan (get_or rows next []) → RowsSoFar q db row taken F plan old flags rows start end last (next + 1)
  rows-skip old flags rows start end last next h holds = record {
    chosen = h.chosen;
    reached = h.reached;
    after = h.after;
    before = h.before;
    is_kept = h.is_kept;
    holds = h.holds;
    held = held_on rows (RowHolds q (stored db) row taken F plan) start next h.held holds;
  }

  -- a block lacks its key where one of its rows does
  pub block-lacks : (flags : List (List Bool)) (rows : List (List Value)) (start end p : ℕ) → IsBlockBetween (atom_key q F) rows start end → start ≤ p → p < end →
      Lacks db q row taken F flags (get_or rows p []) → Lacks db q row taken F flags (get_or rows start [])
  block-lacks flags rows start end p block l b lacks =
      let within = block.within in
      lacks-shared q db row taken F flags (get_or rows p []) (get_or rows start [])
      (shares-sym (atom_key q F) (get_or rows start []) (get_or rows p []) ((block.exactly p (omega (arith, b, within))).1 (l, b))) lacks

-- the row at a place that is flagged is kept
pub kept-read : (q : Query) (db : List Table) (flags : List (List Bool)) → AreRepairFlags q db flags → (F : ℕ) → F < length q.atoms → (rows : List (List Value)) → rows ≡ rows_of q (stored db) F →
    (p : ℕ) → IsFlagged (flags_of q flags F) p → (x : List Value) → x ≡ get_or rows p [] → Contains (rows_of q (kept_tables (stored db) flags) F) x
kept-read q db flags chosen F lF rows is p f x e =
    subst (λ z. Contains (rows_of q (kept_tables (stored db) flags) F) z) (ap (λ (rs : List (List Value)). get_or rs p []) (sym is) ∙ sym e) (kept-row q db flags chosen F lF p f)
