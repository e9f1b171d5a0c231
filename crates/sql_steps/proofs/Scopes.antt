-- Cells in scope: what is known, and the comparisons with it, are of sources that stand before.
use Rattle.std.proofs.Common.{◌≡◌, ℕ, zero, suc, ◌<◌, inl, inr, Bool, true, false, ◌&&◌, List, [], ◌∷◌, ◌++◌, length, map, get_or, refl, ap, sym, ◌∙◌, subst, arith, eqb, cond, Contains, Option, Some, None}
use Rattle.std.specs.List.{slice_index}
use Rattle.std.specs.Option.{unwrap_or}
use Rattle.std.proofs.lemmas.Bool.{and_parts}
use Rattle.std.proofs.lemmas.List.{get_or_default, map-append, append_assoc, length_push}
use Rattle.std.proofs.lemmas.List.Elements.{Contains-append_cases}
use Rattle.cqa_value.proofs.Words.{Contains-from_map, Contains-from_flat_map}
use Rattle.cqa_model.specs.declared.query.Cond.{Cond}
use Rattle.cqa_model.specs.declared.query.Cond.TheVariants.{Join, Test}
use Rattle.cqa_model.specs.declared.query.Query.{Query}
use Rattle.cqa_model.specs.Query.{atom_at, atom_key}
use Rattle.cqa_model.proofs.Classic.{mem-head, mem-tail, mem-nil, mem-cases}
use Rattle.sql_text.specs.declared.syntax.Source.TheVariants.{Step as Earlier}
use Rattle.sql_text.specs.declared.syntax.Listed.{Listed}
use Rattle.sql_text.specs.declared.syntax.Cell.{Cell}
use Rattle.sql_text.specs.declared.syntax.Cmp.{Cmp}
use Rattle.sql_text.specs.declared.syntax.Cmp.TheVariants.{Same, Test as Compare}
use Rattle.sql_text.specs.declared.syntax.Child.{Child}
use Rattle.sql_text.specs.declared.syntax.Step.{Step}
use Rattle.sql_text.specs.Named.{width, ShowsOne, IsCellOf, IsCmpOf, AreCellsOf, AreCmpsOf, AreChildrenOf}
use Rattle.sql_steps.specs.declared.fitting.Known.{Known}
use Rattle.sql_steps.specs.declared.fitting.Fitting.{Fitting}
use Rattle.sql_steps.specs.declared.part.Part.{Part}
use Rattle.sql_steps.specs.Variables.{has, all_below, variables_of}
use Rattle.sql_steps.specs.Steps.{cell, find, cell_of, cells_of, see_by, see, see_all, test_at, tests_at, fit_on, columns_of, others_of, keyed, fitted, see_part, part_source, children_of, known_of, on_of}
use Rattle.sql_steps.proofs.Membership.{columns-into, has-from, without-from, columns-from}
use Rattle.sql_steps.proofs.Seeing.{IsKnown, find-in, see_all-some}
use Rattle.sql_steps.proofs.Joining.{part-known}
use Rattle.sql_steps.proofs.Atoms.{key-width}

get_or-more : (xs ys : List ℕ) (p x : ℕ) → x < get_or xs p 0 → x < get_or (xs ++ ys) p 0
get_or-more [] ys p x l = absurd (omega (arith, l))
get_or-more (y ∷ xs) ys zero x l = l
get_or-more (y ∷ xs) ys (suc p) x l = get_or-more xs ys p x l

module _ (q : Query) (before : List Step) where
  abbrev width-of : Listed → ℕ
  width-of l = width q before l.source

  -- more sources leave a cell in its scope
  pub cell-more : (scope more : List Listed) (c : Cell) → IsCellOf q before scope c → IsCellOf q before (scope ++ more) c
  cell-more scope more c h = subst (λ z. c.column < get_or z c.place 0) (sym (map-append (λ (l : Listed). width q before l.source) scope more))
      (get_or-more (map (λ (l : Listed). width q before l.source) scope) (map (λ (l : Listed). width q before l.source) more) c.place c.column h)

  pub cmp-more : (scope more : List Listed) (k : Cmp) → IsCmpOf q before scope k → IsCmpOf q before (scope ++ more) k
  cmp-more scope more (Same c d) h = (cell-more scope more c h.0, cell-more scope more d h.1)
  cmp-more scope more (Compare c op x) h = cell-more scope more c h

  -- what is known is in scope
  abbrev pub AreIn : List Listed → List Known → Type 0
  AreIn scope known = (k : Known) → Contains known k → IsCellOf q before scope k.cell

  pub in-more : (scope more : List Listed) (known : List Known) → AreIn scope known → AreIn (scope ++ more) known
  in-more scope more known h k m = cell-more scope more k.cell (h k m)

  pub both-of : (scope : List Listed) (xs ys : List Cmp) → AreCmpsOf q before scope xs → AreCmpsOf q before scope ys → AreCmpsOf q before scope (xs ++ ys)
  both-of scope xs ys h g k m = elim (Contains-append_cases xs ys k m) [ inl n ↦ h k n | inr n ↦ g k n ]

  module _ (scope : List Listed) where
    abbrev IsSeen : Fitting → Type 0
    IsSeen s = AreIn scope s.known × AreCmpsOf q before scope s.all

    one-seen : (s : Fitting) (v : ℕ) (c : Cell) (found : Option Cell) → find s.known v ≡ found → IsCellOf q before scope c → IsSeen s → IsSeen (see_by s v c found)
    one-seen s v c None e h g = (known, g.1)
      where
        known : AreIn scope (s.known ++ record { variable = v; cell = c } ∷ [])
        known k m = elim (Contains-append_cases s.known (record { variable = v; cell = c } ∷ []) k m) [
          | inl n ↦ g.0 k n
          | inr n ↦ elim (mem-cases k (record { variable = v; cell = c }) [] n) [ inl f ↦ subst (λ (z : Known). IsCellOf q before scope z.cell) f h | inr z ↦ absurd (mem-nil k z) ]
        ]
    one-seen s v c (Some d) e h g = (g.0, both-of scope s.all (Same c d ∷ []) g.1 pair)
      where
        pair : AreCmpsOf q before scope (Same c d ∷ [])
        pair k m = elim (mem-cases k (Same c d) [] m) [
          | inl f ↦ subst (λ z. IsCmpOf q before scope z) f (h, let r = find-in s.known v d e in subst (λ z. IsCellOf q before scope z) r.2 (g.0 r.0 r.1))
          | inr z ↦ absurd (mem-nil k z)
        ]

    pub all-seen : (vs : List ℕ) (place : ℕ) (is : List ℕ) (s : Fitting) → ((i : ℕ) → Contains is i → IsCellOf q before scope (cell place i)) → IsSeen s → IsSeen (see_all vs place is s)
    all-seen vs place [] s h g = g
    all-seen vs place (i ∷ is) s h g =
        all-seen vs place is (see s (slice_index vs i) (cell place i)) (λ j m. h j (mem-tail j i is m))
        (one-seen s (slice_index vs i) (cell place i) (find s.known (slice_index vs i)) refl (h i (mem-head i is)) g)

    tests-of : (F place : ℕ) (is : List ℕ) → ((i : ℕ) → Contains is i → IsCellOf q before scope (cell place i)) → AreCmpsOf q before scope (tests_at q F place is)
    tests-of F place is h k m = let r = Contains-from_flat_map (λ (z : Cond). test_at F place is z) q.conds k m in go r.0 r.2
      where
        go : (c : Cond) → Contains (test_at F place is c) k → IsCmpOf q before scope k
        go (Join c d) o = absurd (mem-nil k o)
        go (Test c op x) o = decide (eqb c.atom F && has is c.col) refl o
          where
            decide : (b : Bool) → (eqb c.atom F && has is c.col) ≡ b → Contains (cond b (Compare (cell place c.col) op x ∷ []) []) k → IsCmpOf q before scope k
            decide false e o = absurd (mem-nil k o)
            decide true e o = elim (mem-cases k (Compare (cell place c.col) op x) [] o) [
              | inl f ↦ subst (λ z. IsCmpOf q before scope z) f (h c.col (has-from is c.col (and_parts (eqb c.atom F) (has is c.col) e).1))
              | inr z ↦ absurd (mem-nil k z)
            ]

    fit-seen : (F place : ℕ) (is : List ℕ) (s : Fitting) → ((i : ℕ) → Contains is i → IsCellOf q before scope (cell place i)) → IsSeen s → IsSeen (fit_on q F place is s)
    fit-seen F place is s h g =
        let a = all-seen (variables_of q F) place is s h g in
        (a.0, both-of scope (see_all (variables_of q F) place is s).all (tests_at q F place is) a.1 (tests-of F place is h))

    -- a row of F at place 0
    module _ (F : ℕ) (lF : F < length q.atoms) (own : (i : ℕ) → i < (atom_at q F).width → IsCellOf q before scope (cell 0 i)) (start : List Known) (h : AreIn scope start) where
      pub keyed-seen : AreIn scope (keyed q F start).known × AreCmpsOf q before scope (keyed q F start).all
      keyed-seen = fit-seen F 0 (atom_key q F) (record { known = start; all = [] }) (λ i m. own i (key-width q F lF i m)) (h, λ k m. absurd (mem-nil k m))

      pub fitted-seen : AreIn scope (fitted q F start).known × AreCmpsOf q before scope (fitted q F start).all
      fitted-seen = fit-seen F 0 (others_of q F) (record { known = (keyed q F start).known; all = [] })
          (λ i m. own i (columns-from (atom_at q F).width i (without-from (columns_of q F) (atom_key q F) i m).0)) (keyed-seen.0, λ k m. absurd (mem-nil k m))

    pub cells-in : (known : List Known) (vs : List ℕ) → AreIn scope known → ((v : ℕ) → Contains vs v → IsKnown known v) → AreCellsOf q before scope (cells_of known vs)
    cells-in known vs h have c m =
        let r = Contains-from_map (λ v. cell_of known v) vs c m in
        subst (λ z. IsCellOf q before scope z) r.2 (one r.0 (have r.0 r.1))
      where
        one : (v : ℕ) → IsKnown known v → IsCellOf q before scope (cell_of known v)
        one v (c, e) =
            let f = find-in known v c e in
            subst (λ z. IsCellOf q before scope z) (f.2 ∙ sym (ap (λ (o : Option Cell). unwrap_or o (cell 0 0)) e)) (h f.0 f.1)

  -- a source at its place
  pub at-place : (scope : List Listed) (l : Listed) (more : List Listed) (i : ℕ) → i < width q before l.source → IsCellOf q before (scope ++ l ∷ more) (cell (length scope) i)
  at-place [] l more i h = h
  at-place (x ∷ scope) l more i h = at-place scope l more i h

  -- parts as sources: their steps are there, with their columns
  abbrev pub AreThere : List Part → Type 0
  AreThere parts = (p : Part) → Contains parts p → (p.step < length before) × (width q before (Earlier p.step) ≡ length p.columns)

  -- and are of what holds
  abbrev pub AreAt : List Part → Type 0
  AreAt parts = (p : Part) → Contains parts p → (p.step < length before) × (width q before (Earlier p.step) ≡ length p.columns) × ShowsOne before (Earlier p.step)

  part-seen : (scope : List Listed) (place : ℕ) (p : Part) (known : List Known) → length scope ≡ place → width q before (Earlier p.step) ≡ length p.columns → AreIn scope known →
      AreIn (scope ++ part_source p ∷ []) (see_part place p known).known × AreCmpsOf q before (scope ++ part_source p ∷ []) (see_part place p known).all
  part-seen scope place p known l w h =
      all-seen (scope ++ part_source p ∷ []) p.columns place (all_below (length p.columns)) (record { known = known; all = [] })
      (λ i m. subst (λ z. IsCellOf q before (scope ++ part_source p ∷ []) (cell z i)) l (at-place scope (part_source p) [] i (subst (λ z. i < z) (sym w) (columns-from (length p.columns) i m))))
      (in-more scope (part_source p ∷ []) known h, λ k m. absurd (mem-nil k m))

  pub children-of : (parts : List Part) (scope : List Listed) (place : ℕ) (known : List Known) → length scope ≡ place → AreThere parts → AreIn scope known →
      AreChildrenOf q before scope (children_of place parts known) × AreIn (scope ++ map (λ (c : Child). c.listed) (children_of place parts known)) (known_of place parts known)
  children-of [] scope place known l at h = (tt, in-more scope [] known h)
  children-of (p ∷ ps) scope place known l at h =
      let s = part-seen scope place p known l (at p (mem-head p ps)).1 h in
      let r = children-of ps (scope ++ part_source p ∷ []) (suc place) (see_part place p known).known (length_push scope (part_source p) ∙ omega (arith, l)) (λ o m. at o (mem-tail o p ps m)) s.0 in (
        (s.1, r.0),
        subst (λ z. AreIn z (known_of (suc place) ps (see_part place p known).known)) (append_assoc scope (part_source p ∷ []) (map (λ (c : Child). c.listed) (children_of (suc place) ps (see_part place p known).known))) r.1,
      )

  -- the comparisons of children, all together
  pub on-of : (children : List Child) (scope : List Listed) → AreChildrenOf q before scope children → AreCmpsOf q before (scope ++ map (λ (c : Child). c.listed) children) (on_of children)
  on-of [] scope h k m = absurd (mem-nil k m)
  on-of (c ∷ cs) scope h k m =
      let assoc = append_assoc scope (c.listed ∷ []) (map (λ (z : Child). z.listed) cs) in
      elim (Contains-append_cases c.on (on_of cs) k m) [
        | inl n ↦ subst (λ z. IsCmpOf q before z k) assoc (cmp-more (scope ++ c.listed ∷ []) (map (λ (z : Child). z.listed) cs) k (h.0 k n))
        | inr n ↦ subst (λ z. IsCmpOf q before z k) assoc (on-of cs (scope ++ c.listed ∷ []) h.1 k n)
      ]

  pub sources-of : (parts : List Part) (place : ℕ) (known : List Known) → map (λ (c : Child). c.listed) (children_of place parts known) ≡ map (λ (p : Part). part_source p) parts
  sources-of [] place known = refl
  sources-of (p ∷ ps) place known = ap (λ z. part_source p ∷ z) (sources-of ps (suc place) (see_part place p known).known)

  -- children with comparisons, of steps of what holds, where each part has a variable that is known
  pub children-joined : (parts : List Part) (place : ℕ) (known : List Known) → AreAt parts → ((p : Part) → Contains parts p → (v : ℕ) × Contains p.columns v × IsKnown known v) →
      (c : Child) → Contains (children_of place parts known) c → (0 < length c.on) × ShowsOne before c.listed.source
  children-joined [] place known at linked c m = absurd (mem-nil c m)
  children-joined (p ∷ ps) place known at linked c m = elim (mem-cases c (record { listed = part_source p; on = (see_part place p known).all }) (children_of (suc place) ps (see_part place p known).known) m) [
    | inl e ↦ subst (λ (z : Child). (0 < length z.on) × ShowsOne before z.listed.source) e (part-joined p place known (linked p (mem-head p ps)), (at p (mem-head p ps)).2)
    | inr n ↦ children-joined ps (suc place) (see_part place p known).known (λ o k. at o (mem-tail o p ps k)) (λ o k. let l = linked o (mem-tail o p ps k) in (l.0, l.1, part-known place p known l.0 l.2)) c n
  ]
    where
      part-joined : (p : Part) (place : ℕ) (known : List Known) → (v : ℕ) × Contains p.columns v × IsKnown known v → 0 < length (see_part place p known).all
      part-joined p place known (v, (j, l, e), k) = see_all-some p.columns place (all_below (length p.columns)) (record { known = known; all = [] }) j (columns-into (length p.columns) j l)
          (subst (λ z. IsKnown known z) (sym e ∙ get_or_default p.columns j v 0 l) k)
