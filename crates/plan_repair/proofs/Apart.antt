-- Where the first of the rows taken have all variables that a rest of a plan shares with any, there is no witness with them
-- once there is none with all.
use Rattle.std.proofs.Common.{◌≡◌, ℕ, zero, suc, ◌+◌, ◌-◌, ◌<◌, ◌≤◌, inl, inr, Option, Some, None, IfSome, IsSome, Bool, List, [], ◌∷◌, ◌++◌, length, get_or, take, drop, refl, ap, sym, ◌∙◌, subst, arith, Contains}
use native.Mathlib.Decide.{dec_lt}
use Rattle.std.proofs.Math.Seq.{get_or-append_seam, take-append_seam, drop-append_seam}
use Rattle.std.proofs.lemmas.Bool.{false≢true}
use Rattle.std.proofs.lemmas.List.{length-append, append_assoc, append-nil, get_or_default, get_or_append_left, get_or-append-add, get_or-take, length-take-le}
use Rattle.std.proofs.lemmas.List.Elements.{Contains-get_or, Contains-append_right, Contains-append_cases}
use Rattle.cqa_value.specs.declared.value.Value.{Value}
use Rattle.cqa_value.specs.Values.{nothing}
use Rattle.cqa_model.specs.declared.query.Query.{Query}
use Rattle.cqa_model.specs.Database.{Table, stored, keys_of}
use Rattle.cqa_model.specs.Query.{atom_at, row_at, FitsDatabase}
use Rattle.cqa_model.specs.Plan.{Placed, Fits, IsPlan, IsPlanOf, IsElimination}
use Rattle.cqa_model.specs.Variables.{AreLinked, View, whole, after}
use Rattle.cqa_model.specs.Partial.{view_of, AllFit}
use Rattle.cqa_model.proofs.Fitting.{fits_tables}
use Rattle.cqa_model.proofs.Classic.{mem-head, mem-tail, mem-nil, mem-cases}
use Rattle.cqa_model.proofs.Views.{value-linked, linked-sym, linked-trans}
use Rattle.cqa_model.proofs.Reification.{placed}
use Rattle.cqa_model.proofs.Elimination.{plan-eliminates}
use Rattle.cqa_model.proofs.Exactness.{full, forget, fits_of}
use Rattle.plan_rows.specs.Left.{AreQueryAtoms, IsTold}
use Rattle.plan_rows.specs.Underway.{atoms_of}
use Rattle.plan_rows.proofs.Sharing.{length-atoms, in-atoms, of-atoms}
use Rattle.repair_back.specs.Flags.{kept_tables}
use Rattle.plan_repair.specs.Apart.{IsAtomApart, ArePartsApart, AreEnough}
use Rattle.plan_repair.specs.Mending.{IsKeptWitness, HasNone, HasNoneFrom}

-- what an atom shares with the rest is told by the first ones, if each brings nothing after those before it
told-first : (q : Query) (order rest : List ℕ) (n place : ℕ) → place ≤ length order → ((k : ℕ) → n ≤ k → k < place → IsAtomApart q (take k order) (get_or order k 0) rest) → (d k : ℕ) → k < d → n ≤ k → k < place → IsAtomApart q (take n order) (get_or order k 0) rest
told-first q order rest n place within step zero k l low high j lj t = absurd (omega (arith, l))
told-first q order rest n place within step (suc d) k l low high j lj (F, i, mF, li, linked) = go (step k low high j lj (F, i, mF, li, linked)) (λ p b low high. told-first q order rest n place within step d p b low high)
  where
    go : IsTold q (take k order) (record { atom = get_or order k 0; col = j }) → ((p : ℕ) → p < d → n ≤ p → p < place → IsAtomApart q (take n order) (get_or order p 0) rest) → IsTold q (take n order) (record { atom = get_or order k 0; col = j })
    go (H, h, mH, lh, lk) next = split (dec_lt mH.0 n)
      where
        before : mH.0 < k
        before = let b = mH.1 in let t : length (take k order) ≡ k = length-take-le k order (omega (arith, high, within)) in omega (arith, b, t)

        there : mH.0 < length order
        there = omega (arith, before, high, within)

        is : get_or order mH.0 0 ≡ H
        is = sym (get_or-take k order mH.0 0 before) ∙ (get_or_default (take k order) mH.0 0 H mH.1 ∙ mH.2)

        split : Dec (mH.0 < n) → IsTold q (take n order) (record { atom = get_or order k 0; col = j })
        split (yes b) =
            let m : Contains (take n order) H = subst (λ z. Contains (take n order) z) (get_or-take n order mH.0 0 b ∙ is) (Contains-get_or (take n order) mH.0 0 (let t : length (take n order) ≡ n = length-take-le n order (omega (arith, low, high, within)) in omega (arith, b, t))) in
            (H, h, m, lh, lk)
        split (no b) =
            let r = next mH.0 (omega (arith, before, l)) (omega (arith, b)) (omega (arith, before, high)) in
            let s = subst (λ G. IsAtomApart q (take n order) G rest) is r h lh
            (F, i, mF, li, linked-trans q (record { atom = F; col = i }) (record { atom = get_or order k 0; col = j }) (record { atom = H; col = h }) linked (linked-sym q (record { atom = H; col = h }) (record { atom = get_or order k 0; col = j }) lk)) in
            (s.0, s.1, s.2, s.3, linked-trans q (record { atom = s.0; col = s.1 }) (record { atom = H; col = h }) (record { atom = get_or order k 0; col = j }) s.4 lk)

-- the atoms between the first ones of an order and the rest from a place on, by their places
pub apart-at : (q : Query) (order rest enough : List ℕ) (place n : ℕ) → AreEnough q order enough → place ≡ length order - length rest → place < length enough → n ≡ get_or enough place 0 → ArePartsApart q order rest n
apart-at q order rest enough place n h ep l en front between e le G m =
    let lf = length-append front (between ++ rest) in
    let lb = length-append between rest in
    let lo = ap length e in
    let la = length-append front between in
    let inside = m.1 in
    let whole : length (front ++ between) ≡ place = omega (arith, ep, lf, lb, lo, la) in
    let before : length front + m.0 < place = omega (arith, inside, whole, la) in
    let here : get_or order (length front + m.0) 0 ≡ G =
    ap (λ o. get_or o (length front + m.0) 0) e ∙ (get_or-append-add front (between ++ rest) m.0 0 ∙ (get_or_append_left between rest 0 m.0 m.1 ∙ (get_or_default between m.0 0 G m.1 ∙ m.2))) in
    let left : drop place order ≡ rest = ap (λ o. drop place o) (e ∙ sym (append_assoc front between rest)) ∙ (ap (λ k. drop k ((front ++ between) ++ rest)) (sym whole) ∙ drop-append_seam (front ++ between) rest) in
    let first : take (length front) order ≡ front = ap (λ o. take (length front) o) e ∙ take-append_seam front (between ++ rest) in
    let all = told-first q order (drop place order) (length front) place (omega (arith, ep)) (λ k low high. h place l k (let z : get_or enough place 0 ≤ k = omega (arith, en, le, low) in z) high) (suc (length front + m.0)) (length front + m.0) (omega arith) (omega arith) before in
    subst (λ r. IsAtomApart q front G r) left (subst (λ A. IsAtomApart q front A (drop place order)) here (subst (λ b. IsAtomApart q b (get_or order (length front + m.0) 0) (drop place order)) first all))

-- where there are as many as the atoms before the rest, none is between
pub apart-all : (q : Query) (order rest : List ℕ) (place : ℕ) → place ≡ length order - length rest → ArePartsApart q order rest place
apart-all q order rest place ep front [] e le G m = absurd (mem-nil G m)
apart-all q order rest place ep front (H ∷ between) e le G m =
    let lf = length-append front ((H ∷ between) ++ rest) in
    let lb = length-append (H ∷ between) rest in
    let lo = ap length e in
    absurd (omega (arith, ep, le, lf, lb, lo))

-- with one atom more between
pub apart-more : (q : Query) (order rest : List ℕ) (place enough : ℕ) → rest ≡ drop place order → 0 < enough → (before : List ℕ) → before ≡ take (enough - 1) order → IsAtomApart q before (get_or order (enough - 1) 0) rest →
    ((k : ℕ) → enough ≤ k → k < place → IsAtomApart q (take k order) (get_or order k 0) (drop place order)) → (k : ℕ) → enough - 1 ≤ k → k < place → IsAtomApart q (take k order) (get_or order k 0) (drop place order)
apart-more q order rest place enough er some before eb now later k low high = go (dec_lt k enough)
  where
    go : Dec (k < enough) → IsAtomApart q (take k order) (get_or order k 0) (drop place order)
    go (no b) = later k (omega (arith, b)) high
    go (yes b) =
        let is : enough - 1 ≡ k = omega (arith, b, low, some) in
        subst (λ i. IsAtomApart q (take i order) (get_or order i 0) (drop place order)) is (subst (λ f. IsAtomApart q f (get_or order (enough - 1) 0) (drop place order)) eb (subst (λ r. IsAtomApart q before (get_or order (enough - 1) 0) r) er now))

-- with a number for one place more
pub enough-more : (q : Query) (order enough : List ℕ) (place n : ℕ) → length enough ≡ place → AreEnough q order enough → ((k : ℕ) → n ≤ k → k < place → IsAtomApart q (take k order) (get_or order k 0) (drop place order)) → AreEnough q order (enough ++ n ∷ [])
enough-more q order enough place n size h new at l k low high = go (dec_lt at (length enough))
  where
    go : Dec (at < length enough) → IsAtomApart q (take k order) (get_or order k 0) (drop at order)
    go (yes b) = h at b k (subst (λ z. z ≤ k) (get_or_append_left enough (n ∷ []) 0 at b) low) high
    go (no b) =
        let t : length (enough ++ n ∷ []) ≡ length enough + 1 = length-append enough (n ∷ []) in
        let is : at ≡ length enough = omega (arith, b, l, t) in
        let last : get_or (enough ++ n ∷ []) at 0 ≡ n = ap (λ z. get_or (enough ++ n ∷ []) z 0) is ∙ get_or-append_seam enough n [] 0 in
        subst (λ z. IsAtomApart q (take k order) (get_or order k 0) (drop z order)) (sym (is ∙ size)) (new k (subst (λ z. z ≤ k) last low) (subst (λ z. k < z) (is ∙ size) high))

atoms-append : (later first : List Placed) → atoms_of (later ++ first) ≡ atoms_of first ++ atoms_of later
atoms-append [] first = sym (append-nil (atoms_of first))
atoms-append (t ∷ later) first = ap (λ a. a ++ t.atom ∷ []) (atoms-append later first) ∙ append_assoc (atoms_of first) (atoms_of later) (t.atom ∷ [])

left-first : (q : Query) (later first : List Placed) (K : ℕ) → (view_of q (later ++ first)).has K → (view_of q first).has K
left-first q [] first K h = h
left-first q (t ∷ later) first K h = left-first q later first K h.0

-- the atoms of a view's plan are in the view
pub plan-has : (q : Query) (view : View) (plan : List ℕ) → IsPlan q view plan → (F : ℕ) → Contains plan F → view.has F
plan-has q view [] is F m = absurd (mem-nil F m)
plan-has q view (G ∷ plan) is F m = elim (mem-cases F G plan m) [ inl e ↦ subst (λ H. view.has H) e is.0 | inr n ↦ (plan-has q (after q view G) plan is.3 F n).0 ]

-- a query's plan names its atoms
pub plan-atoms : (q : Query) (plan : List ℕ) → IsPlanOf q plan → AreQueryAtoms q plan
plan-atoms q plan is = plan-has q (whole q) plan is

-- a later row agrees with the first ones
later-fits : (q : Query) (row : List Value) (later first : List Placed) → AllFit q row (later ++ first) → (u : Placed) → Contains later u → (t : Placed) → Contains first t → (j : ℕ) → j < (atom_at q u.atom).width → (h : ℕ) → h < (atom_at q t.atom).width →
    AreLinked q (record { atom = u.atom; col = j }) (record { atom = t.atom; col = h }) → get_or u.row j nothing ≡ get_or t.row h nothing
later-fits q row [] first all u mu t mt j lj h lh l = absurd (mem-nil u mu)
later-fits q row (s ∷ later) first all u mu t mt j lj h lh l = elim (mem-cases u s later mu) [
  | inl e ↦ subst (λ (z : Placed). j < (atom_at q z.atom).width → AreLinked q (record { atom = z.atom; col = j }) (record { atom = t.atom; col = h }) → get_or z.row j nothing ≡ get_or t.row h nothing) e
      (λ lz k. all.1.agrees t (mem-tail t (placed s.atom s.row) (later ++ first) (Contains-append_right later first t mt)) j lz h lh k) lj l
  | inr n ↦ later-fits q row later first all.2 u n t mt j lj h lh l
]

module _ (q : Query) (db : List Table) (fits : FitsDatabase q db) (row : List Value) (long : length row ≡ length q.answer) (flags : List (List Bool)) where
  abbrev Kept : List (List (List Value))
  Kept = kept_tables (stored db) flags

  module _ (first : List Placed) (w : List (List Value)) (hw : IsKeptWitness db q row first flags w) where
    -- the witness's rows for the rest agree with the rows taken
    abbrev IsSafe : List Placed → List ℕ → Type 0
    IsSafe taken plan = (u : Placed) → Contains taken u → (G : ℕ) → Contains plan G → (i : ℕ) → i < (atom_at q G).width → (j : ℕ) → j < (atom_at q u.atom).width →
        AreLinked q (record { atom = G; col = i }) (record { atom = u.atom; col = j }) → get_or (row_at w G) i nothing ≡ get_or u.row j nothing

    own : (u : Placed) → row_at w u.atom ≡ u.row → (G i j : ℕ) → AreLinked q (record { atom = G; col = i }) (record { atom = u.atom; col = j }) → get_or (row_at w G) i nothing ≡ get_or u.row j nothing
    own u e G i j linked = value-linked q w hw.holds (record { atom = G; col = i }) (record { atom = u.atom; col = j }) linked ∙ ap (λ z. get_or z j nothing) e

    fits-first : (G : ℕ) → Fits q row first G (row_at w G)
    fits-first G = fits_of q (keys_of db) (stored db) (fits_tables q db fits) row long first (kept_tables (stored db) flags) G (row_at w G) w (record {
      size = hw.size;
      holds = hw.holds;
      answers = hw.answers;
      keeps = λ K p. hw.keeps K p.0;
      extends = λ t m. elim (mem-cases t (placed G (row_at w G)) first m) [ inl e ↦ subst (λ u. row_at w u.atom ≡ u.row) e refl | inr n ↦ hw.extends t n ];
    })

    fits-on : (taken : List Placed) (G : ℕ) (plan : List ℕ) → Contains plan G → IsSafe taken plan → Fits q row taken G (row_at w G)
    fits-on taken G plan mG safe = record {
      agrees = λ u m i li j lj linked. elim (mem-cases u (placed G (row_at w G)) taken m) [
        | inl e ↦ own u (subst (λ (z : Placed). row_at w z.atom ≡ z.row) e refl) G i j linked
        | inr n ↦ safe u n G mG i li j lj linked
      ];
      tests = (fits-first G).tests;
      answers = (fits-first G).answers;
    }

    -- so its rows for the rest are those of a witness with all rows taken
    carried : (plan : List ℕ) (taken : List Placed) → AllFit q row taken → IsElimination q (view_of q taken) plan → ((K : ℕ) → (view_of q taken).has K → (view_of q first).has K) → IsSafe taken plan →
        (v : List (List Value)) × IsKeptWitness db q row taken flags v
    carried [] taken all none left safe = full q (keys_of db) (stored db) (fits_tables q db fits) row long taken all none (kept_tables (stored db) flags)
    carried (G ∷ plan) taken all (has, free, rest) left safe =
        let f = fits-on taken G (G ∷ plan) (mem-head G plan) safe in
        let r = carried plan (placed G (row_at w G) ∷ taken) (has, f, all) rest (λ K k. left K k.0) safe-on in
        (r.0, forget q (keys_of db) (stored db) (fits_tables q db fits) row long taken (kept_tables (stored db) flags) G (row_at w G) (hw.keeps G (left G has)) r.0 r.1)
      where
        safe-on : IsSafe (placed G (row_at w G) ∷ taken) plan
        safe-on u m H mH i li j lj linked = elim (mem-cases u (placed G (row_at w G)) taken m) [
          | inl e ↦ own u (subst (λ (z : Placed). row_at w z.atom ≡ z.row) e refl) H i j linked
          | inr n ↦ safe u n H (mem-tail H G plan mH) i li j lj linked
        ]

  -- where there is no witness with all rows taken, there is none with the first of them
  none-first : (later first : List Placed) (plan : List ℕ) → AllFit q row (later ++ first) → IsPlan q (view_of q (later ++ first)) plan → ((u : Placed) → Contains later u → IsAtomApart q (atoms_of first) u.atom plan) →
      HasNone db q row (later ++ first) flags → HasNone db q row first flags
  none-first later first plan all is apart none w hw =
      let r = carried first w hw plan (later ++ first) all (plan-eliminates q (view_of q (later ++ first)) plan is) (left-first q later first)
      (λ u m G mG i li j lj linked. elim (Contains-append_cases later first u m) [
        | inl k ↦ told u k G i j lj linked (apart u k j lj (G, i, mG, li, linked))
        | inr n ↦ own first w hw u (hw.extends u n) G i j linked
      ]) in
      none r.0 r.1
    where
      told : (u : Placed) → Contains later u → (G i j : ℕ) → j < (atom_at q u.atom).width → AreLinked q (record { atom = G; col = i }) (record { atom = u.atom; col = j }) →
          IsTold q (atoms_of first) (record { atom = u.atom; col = j }) → get_or (row_at w G) i nothing ≡ get_or u.row j nothing
      told u k G i j lj linked (H, h, mH, lh, lk) = by (of-atoms first H mH)
        where
          by : (t : Placed) × Contains first t × (t.atom ≡ H) → get_or (row_at w G) i nothing ≡ get_or u.row j nothing
          by (t, mt, et) =
              let kt : AreLinked q (record { atom = t.atom; col = h }) (record { atom = u.atom; col = j }) = subst (λ z. AreLinked q (record { atom = z; col = h }) (record { atom = u.atom; col = j })) (sym et) lk in
              let back : AreLinked q (record { atom = u.atom; col = j }) (record { atom = t.atom; col = h }) = linked-sym q (record { atom = t.atom; col = h }) (record { atom = u.atom; col = j }) kt in
              own first w hw t (hw.extends t mt) G i h (linked-trans q (record { atom = G; col = i }) (record { atom = u.atom; col = j }) (record { atom = t.atom; col = h }) linked back)
              ∙ sym (later-fits q row later first all u k t mt j lj h (subst (λ z. h < (atom_at q z).width) (sym et) lh) back)

  pub none-enough : (order : List ℕ) (taken : List Placed) (plan : List ℕ) (n : ℕ) → order ≡ atoms_of taken ++ plan → ArePartsApart q order plan n → AllFit q row taken → IsPlan q (view_of q taken) plan →
      HasNone db q row taken flags → HasNoneFrom db q row taken flags n
  none-enough order taken plan n place apart all is none later first e l =
      none-first later first plan (subst (λ t. AllFit q row t) e all) (subst (λ t. IsPlan q (view_of q t) plan) e is)
      (λ u m. apart (atoms_of first) (atoms_of later) parted (let c = length-atoms first in omega (arith, l, c)) u.atom (in-atoms later u m)) (subst (λ t. HasNone db q row t flags) e none)
    where
      parted : order ≡ atoms_of first ++ (atoms_of later ++ plan)
      parted = place ∙ (ap (λ t. atoms_of t ++ plan) e ∙ (ap (λ a. a ++ plan) (atoms-append later first) ∙ append_assoc (atoms_of first) (atoms_of later) plan))

module _ (q : Query) (db : List Table) (row : List Value) (flags : List (List Bool)) where
  -- of all rows taken
  pub none-whole : (taken : List Placed) (count : ℕ) → length taken ≤ count → HasNone db q row taken flags → HasNoneFrom db q row taken flags count
  none-whole taken count l none [] first e b = subst (λ t. HasNone db q row t flags) e none
  none-whole taken count l none (u ∷ later) first e b = let t = ap length e in let k = length-append later first in absurd (omega (arith, l, b, t, k))

  pub whole-none : (taken : List Placed) (count : ℕ) → count ≤ length taken → HasNoneFrom db q row taken flags count → HasNone db q row taken flags
  whole-none taken count l h = h [] taken refl l

  -- more than were taken say nothing
  pub none-past : (taken : List Placed) (count : ℕ) → length taken < count → HasNoneFrom db q row taken flags count
  none-past taken count l later first e b = let t = ap length e in let k = length-append later first in absurd (omega (arith, l, b, t, k))

  -- with one row less
  pub none-before : (taken : List Placed) (t : Placed) (count : ℕ) → HasNoneFrom db q row (t ∷ taken) flags count → HasNoneFrom db q row taken flags count
  none-before taken t count h later first e l = h (t ∷ later) first (ap (λ ts. t ∷ ts) e) l

  pub if-before : (taken : List Placed) (t : Placed) (r : Option ℕ) → IfSome r (λ count. HasNoneFrom db q row (t ∷ taken) flags count) → IfSome r (λ count. HasNoneFrom db q row taken flags count)
  if-before taken t None h = tt
  if-before taken t (Some count) h = none-before taken t count h

  pub some-none : (taken : List Placed) (r : Option ℕ) → IfSome r (λ count. count ≤ length taken) → IfSome r (λ count. HasNoneFrom db q row taken flags count) → IsSome r → HasNone db q row taken flags
  some-none taken None l h s = absurd (false≢true s)
  some-none taken (Some count) l h s = whole-none taken count l h
