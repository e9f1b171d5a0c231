-- Comparisons of a row with what is known, and assignments of values to variables.
use Rattle.std.proofs.Common.{◌≡◌, ℕ, suc, ◌<◌, ◌≤◌, ◌+◌, ◌⊎◌, inl, inr, true, false, List, [], ◌∷◌, ◌++◌, length, map, get_or, refl, ap, sym, ◌∙◌, subst, arith, eqb, cond, Contains, Option, Some, None}
use native.Mathlib.Decide.{ℕ_discrete}
use Rattle.std.specs.List.{slice_index}
use Rattle.std.specs.Option.{unwrap_or}
use Rattle.std.proofs.lemmas.Bool.Decides.{nat_tests}
use Rattle.std.proofs.lemmas.List.{length_push}
use Rattle.std.proofs.lemmas.List.Elements.{Contains-append_left, Contains-append_right, Contains-append_cases}
use Rattle.cqa_value.specs.declared.value.Value.{Value}
use Rattle.cqa_model.proofs.Classic.{mem-head, mem-tail, mem-nil, mem-cases}
use Rattle.sql_text.specs.declared.syntax.Cell.{Cell}
use Rattle.sql_text.specs.declared.syntax.Cmp.{Cmp}
use Rattle.sql_text.specs.declared.syntax.Cmp.TheVariants.{Same}
use Rattle.sql_steps.specs.declared.fitting.Known.{Known}
use Rattle.sql_steps.specs.declared.fitting.Fitting.{Fitting}
use Rattle.sql_text.specs.Meaning.{cell_value, Meets, MeetsAll}
use Rattle.sql_steps.specs.Steps.{cell, held, find, cell_of, cells_of, see_by, see, see_all}

-- an assignment with another value for one variable
abbrev pub update : (ℕ → Value) → ℕ → Value → ℕ → Value
update env v x u = cond (eqb u v) x (env u)

update-same : (env : ℕ → Value) (v : ℕ) (x : Value) → update env v x v ≡ x
update-same env v x = let e : eqb v v ≡ true = grind (arith, nat_tests) in ap (λ b. cond b x (env v)) e

update-other : (env : ℕ → Value) (v : ℕ) (x : Value) (u : ℕ) → (u ≡ v → ⊥) → update env v x u ≡ env u
update-other env v x u f = let e : eqb u v ≡ false = grind (arith, nat_tests) in ap (λ b. cond b x (env u)) e

abbrev pub IsKnown : List Known → ℕ → Type 0
IsKnown known v = (c : Cell) × (find known v ≡ Some c)

pub none≢some : (c : Cell) → None ≡ Some c → ⊥
none≢some c e = cc e

pub find-cases : (k : Known) (ks : List Known) (v : ℕ) → ((k.variable ≡ v) × (find (k ∷ ks) v ≡ Some k.cell)) ⊎ ((k.variable ≡ v → ⊥) × (find (k ∷ ks) v ≡ find ks v))
find-cases k ks v = go (ℕ_discrete k.variable v)
  where
    go : Dec (k.variable ≡ v) → ((k.variable ≡ v) × (find (k ∷ ks) v ≡ Some k.cell)) ⊎ ((k.variable ≡ v → ⊥) × (find (k ∷ ks) v ≡ find ks v))
    go (yes e) = let t : eqb k.variable v ≡ true = grind (arith, nat_tests) in inl (e, ap (λ b. cond b (Some k.cell) (find ks v)) t)
    go (no f) = let t : eqb k.variable v ≡ false = grind (arith, nat_tests) in inr (f, ap (λ b. cond b (Some k.cell) (find ks v)) t)

pub find-append : (ks : List Known) (k : Known) (v : ℕ) (c : Cell) → find ks v ≡ Some c → find (ks ++ k ∷ []) v ≡ Some c
find-append [] k v c e = absurd (none≢some c e)
find-append (l ∷ ks) k v c e = elim (find-cases l ks v) [
  | inl p ↦ elim (find-cases l (ks ++ k ∷ []) v) [ inl o ↦ o.1 ∙ sym p.1 ∙ e | inr o ↦ absurd (o.0 p.0) ]
  | inr p ↦ elim (find-cases l (ks ++ k ∷ []) v) [ inl o ↦ absurd (p.0 o.0) | inr o ↦ o.1 ∙ find-append ks k v c (sym p.1 ∙ e) ]
]

known-append : (ks : List Known) (k : Known) (v : ℕ) → IsKnown ks v → IsKnown (ks ++ k ∷ []) v
known-append ks k v h = (h.0, find-append ks k v h.0 h.1)

known-last : (ks : List Known) (k : Known) → IsKnown (ks ++ k ∷ []) k.variable
known-last [] k = elim (find-cases k [] k.variable) [ inl p ↦ (k.cell, p.1) | inr p ↦ absurd (p.0 refl) ]
known-last (l ∷ ks) k = elim (find-cases l (ks ++ k ∷ []) k.variable) [ inl p ↦ (l.cell, p.1) | inr p ↦ let r = known-last ks k in (r.0, p.1 ∙ r.1) ]

unknown : (ks : List Known) (k : Known) (v : ℕ) → find ks v ≡ None → Contains ks k → k.variable ≡ v → ⊥
unknown [] k v e m f = mem-nil k m
unknown (l ∷ ks) k v e m f = elim (find-cases l ks v) [
  | inl p ↦ none≢some l.cell (sym e ∙ p.1)
  | inr p ↦ elim (mem-cases k l ks m) [ inl g ↦ p.0 (ap (λ z. z.variable) g ∙ f) | inr n ↦ unknown ks k v (sym p.1 ∙ e) n f ]
]

-- a cell that is found is that of a variable
pub find-in : (ks : List Known) (v : ℕ) (c : Cell) → find ks v ≡ Some c → (k : Known) × Contains ks k × (k.cell ≡ c)
find-in [] v c e = absurd (none≢some c e)
find-in (k ∷ ks) v c e = elim (find-cases k ks v) [
  | inl p ↦ let same : k.cell ≡ c = cc (p.1, e) in (k, mem-head k ks, same)
  | inr p ↦ let r = find-in ks v c (sym p.1 ∙ e) in (r.0, mem-tail r.0 k ks r.1, r.2)
]

-- what is seen are cells of the columns
seen-cells : (vs : List ℕ) (place : ℕ) (is : List ℕ) (s : Fitting) (k : Known) → Contains (see_all vs place is s).known k → Contains s.known k ⊎ ((i : ℕ) × Contains is i × (k.cell ≡ cell place i))
seen-cells vs place [] s k m = inl m
seen-cells vs place (i ∷ is) s k m = elim (seen-cells vs place is (see s (slice_index vs i) (cell place i)) k m) [
  | inl n ↦ one (find s.known (slice_index vs i)) n
  | inr n ↦ inr (n.0, mem-tail n.0 i is n.1, n.2)
]
  where
    one : (found : Option Cell) → Contains (see_by s (slice_index vs i) (cell place i) found).known k → Contains s.known k ⊎ ((j : ℕ) × Contains (i ∷ is) j × (k.cell ≡ cell place j))
    one None n = elim (Contains-append_cases s.known (record { variable = slice_index vs i; cell = cell place i } ∷ []) k n) [
      | inl o ↦ inl o
      | inr o ↦ elim (mem-cases k (record { variable = slice_index vs i; cell = cell place i }) [] o) [
        | inl e ↦ inr (i, mem-head i is, ap (λ (z : Known). z.cell) (sym e))
        | inr z ↦ absurd (mem-nil k z)
      ]
    ]
    one (Some c) n = inl n

-- the cell of a variable that is seen is one of the columns
pub cell-seen : (vs : List ℕ) (place : ℕ) (is : List ℕ) (v : ℕ) → IsKnown (see_all vs place is (record { known = []; all = [] })).known v →
    (i : ℕ) × Contains is i × (cell_of (see_all vs place is (record { known = []; all = [] })).known v ≡ cell place i)
cell-seen vs place is v (c, e) =
    let f = find-in (see_all vs place is (record { known = []; all = [] })).known v c e in
    elim (seen-cells vs place is (record { known = []; all = [] }) f.0 f.1) [
      | inl n ↦ absurd (mem-nil f.0 n)
      | inr n ↦ (n.0, n.1, ap (λ (o : Option Cell). unwrap_or o (cell 0 0)) e ∙ sym f.2 ∙ n.2)
    ]

pub cell-seen-on : (vs : List ℕ) (place : ℕ) (is js : List ℕ) (v : ℕ) → IsKnown (see_all vs place js (record { known = (see_all vs place is (record { known = []; all = [] })).known; all = [] })).known v →
    ((i : ℕ) × Contains is i × (cell_of (see_all vs place js (record { known = (see_all vs place is (record { known = []; all = [] })).known; all = [] })).known v ≡ cell place i))
    ⊎ ((i : ℕ) × Contains js i × (cell_of (see_all vs place js (record { known = (see_all vs place is (record { known = []; all = [] })).known; all = [] })).known v ≡ cell place i))
cell-seen-on vs place is js v (c, e) =
    let first : List Known = (see_all vs place is (record { known = []; all = [] })).known in
    let f = find-in (see_all vs place js (record { known = first; all = [] })).known v c e in
    let same = ap (λ (o : Option Cell). unwrap_or o (cell 0 0)) e ∙ sym f.2 in
    elim (seen-cells vs place js (record { known = first; all = [] }) f.0 f.1) [
      | inl n ↦ elim (seen-cells vs place is (record { known = []; all = [] }) f.0 n) [ inl o ↦ absurd (mem-nil f.0 o) | inr o ↦ inl (o.0, o.1, same ∙ o.2) ]
      | inr n ↦ inr (n.0, n.1, same ∙ n.2)
    ]

pub held-known : (place i : ℕ) (vs : List ℕ) (v : ℕ) → Contains vs v → IsKnown (held place i vs) v
held-known place i [] v m = absurd (mem-nil v m)
held-known place i (u ∷ us) v m = elim (find-cases (record { variable = u; cell = cell place i }) (held place (suc i) us) v) [
  | inl p ↦ (cell place i, p.1)
  | inr p ↦ elim (mem-cases v u us m) [ inl e ↦ absurd (p.0 e) | inr n ↦ let r = held-known place (suc i) us v n in (r.0, p.1 ∙ r.1) ]
]

-- the places that hold variables of a list
pub held-at : (place i : ℕ) (vs : List ℕ) (k : Known) → Contains (held place i vs) k → (j : ℕ) × (j < length vs) × (k.cell ≡ cell place (i + j)) × (k.variable ≡ get_or vs j 0)
held-at place i [] k m = absurd (mem-nil k m)
held-at place i (u ∷ us) k m = elim (mem-cases k (record { variable = u; cell = cell place i }) (held place (suc i) us) m) [
  | inl e ↦ (0, omega arith, ap (λ z. z.cell) (sym e) ∙ ap (cell place) (omega arith), ap (λ z. z.variable) (sym e))
  | inr n ↦ let r = held-at place (suc i) us k n in (suc r.0, (let l : r.0 < length us = r.1 in omega arith), r.2 ∙ ap (cell place) (omega arith), r.3)
]

module _ (w : List (List Value)) where
  -- what is known has the values of an assignment
  abbrev pub IsRight : (ℕ → Value) → List Known → Type 0
  IsRight env known = (k : Known) → Contains known k → cell_value w k.cell ≡ env k.variable

  pub find-right : (env : ℕ → Value) (ks : List Known) (v : ℕ) (c : Cell) → IsRight env ks → find ks v ≡ Some c → cell_value w c ≡ env v
  find-right env [] v c r e = absurd (none≢some c e)
  find-right env (k ∷ ks) v c r e = elim (find-cases k ks v) [
    | inl p ↦ let same : k.cell ≡ c = cc (p.1, e) in ap (cell_value w) (sym same) ∙ r k (mem-head k ks) ∙ ap env p.0
    | inr p ↦ find-right env ks v c (λ l m. r l (mem-tail l k ks m)) (sym p.1 ∙ e)
  ]

  pub held-right : (env : ℕ → Value) (place : ℕ) (vs : List ℕ) → ((j : ℕ) → j < length vs → cell_value w (cell place j) ≡ env (get_or vs j 0)) → IsRight env (held place 0 vs)
  held-right env place vs h k m = let r = held-at place 0 vs k m in ap (cell_value w) (r.2 ∙ ap (cell place) (omega arith)) ∙ h r.0 r.1 ∙ ap env (sym r.3)

  -- the cells of known variables have their values
  pub cell_of-right : (env : ℕ → Value) (known : List Known) (v : ℕ) → IsRight env known → IsKnown known v → cell_value w (cell_of known v) ≡ env v
  cell_of-right env known v r h = go (find known v) refl
    where
      go : (found : Option Cell) → find known v ≡ found → cell_value w (cell_of known v) ≡ env v
      go None e = absurd (none≢some h.0 (sym e ∙ h.1))
      go (Some c) e = ap (λ (o : Option Cell). cell_value w (unwrap_or o (cell 0 0))) e ∙ find-right env known v c r e

  pub cells-right : (env : ℕ → Value) (known : List Known) (vs : List ℕ) → IsRight env known → ((v : ℕ) → Contains vs v → IsKnown known v) → map (cell_value w) (cells_of known vs) ≡ map env vs
  cells-right env known [] r h = refl
  cells-right env known (v ∷ vs) r h =
      let e : cell_value w (cell_of known v) ≡ env v = cell_of-right env known v r (h v (mem-head v vs)) in
      let es : map (cell_value w) (cells_of known vs) ≡ map env vs = cells-right env known vs r (λ u m. h u (mem-tail u v vs m)) in
      cc

  pub meets-left : (xs ys : List Cmp) → MeetsAll w (xs ++ ys) → MeetsAll w xs
  meets-left xs ys h k m = h k (Contains-append_left xs ys k m)

  pub meets-right : (xs ys : List Cmp) → MeetsAll w (xs ++ ys) → MeetsAll w ys
  meets-right xs ys h k m = h k (Contains-append_right xs ys k m)

  pub meets-both : (xs ys : List Cmp) → MeetsAll w xs → MeetsAll w ys → MeetsAll w (xs ++ ys)
  meets-both xs ys h g k m = elim (Contains-append_cases xs ys k m) [ inl n ↦ h k n | inr n ↦ g k n ]

  meets-one : (k : Cmp) → Meets w k → MeetsAll w (k ∷ [])
  meets-one k h l m = elim (mem-cases l k [] m) [ inl e ↦ subst (λ z. Meets w z) e h | inr n ↦ absurd (mem-nil l n) ]

  -- what is compared stays
  see_by-keeps : (s : Fitting) (v : ℕ) (c : Cell) (found : Option Cell) → MeetsAll w (see_by s v c found).all → MeetsAll w s.all
  see_by-keeps s v c None h = h
  see_by-keeps s v c (Some d) h = meets-left s.all (Same c d ∷ []) h

  pub see_all-keeps : (vs : List ℕ) (place : ℕ) (is : List ℕ) (s : Fitting) → MeetsAll w (see_all vs place is s).all → MeetsAll w s.all
  see_all-keeps vs place [] s h = h
  see_all-keeps vs place (i ∷ is) s h =
      see_by-keeps s (slice_index vs i) (cell place i) (find s.known (slice_index vs i)) (see_all-keeps vs place is (see s (slice_index vs i) (cell place i)) h)

  -- what is known stays known, and the columns' variables are known
  see_by-known : (s : Fitting) (v : ℕ) (c : Cell) (found : Option Cell) (u : ℕ) → IsKnown s.known u → IsKnown (see_by s v c found).known u
  see_by-known s v c None u h = known-append s.known (record { variable = v; cell = c }) u h
  see_by-known s v c (Some d) u h = h

  see_by-new : (s : Fitting) (v : ℕ) (c : Cell) (found : Option Cell) → find s.known v ≡ found → IsKnown (see_by s v c found).known v
  see_by-new s v c None e = known-last s.known (record { variable = v; cell = c })
  see_by-new s v c (Some d) e = (d, e)

  pub see_all-known : (vs : List ℕ) (place : ℕ) (is : List ℕ) (s : Fitting) (u : ℕ) → IsKnown s.known u → IsKnown (see_all vs place is s).known u
  see_all-known vs place [] s u h = h
  see_all-known vs place (i ∷ is) s u h =
      see_all-known vs place is (see s (slice_index vs i) (cell place i)) u (see_by-known s (slice_index vs i) (cell place i) (find s.known (slice_index vs i)) u h)

  pub see_all-new : (vs : List ℕ) (place : ℕ) (is : List ℕ) (s : Fitting) (i : ℕ) → Contains is i → IsKnown (see_all vs place is s).known (slice_index vs i)
  see_all-new vs place [] s i m = absurd (mem-nil i m)
  see_all-new vs place (j ∷ is) s i m = elim (mem-cases i j is m) [
    | inl e ↦ subst (λ z. IsKnown (see_all vs place (j ∷ is) s).known (slice_index vs z)) e
        (see_all-known vs place is (see s (slice_index vs j) (cell place j)) (slice_index vs j) (see_by-new s (slice_index vs j) (cell place j) (find s.known (slice_index vs j)) refl))
    | inr n ↦ see_all-new vs place is (see s (slice_index vs j) (cell place j)) i n
  ]

  -- a row that has the values of an assignment passes
  see_by-into : (env : ℕ → Value) (s : Fitting) (v : ℕ) (c : Cell) (found : Option Cell) → find s.known v ≡ found → IsRight env s.known → MeetsAll w s.all → cell_value w c ≡ env v →
      IsRight env (see_by s v c found).known × MeetsAll w (see_by s v c found).all
  see_by-into env s v c None e r m h = (right, m)
    where
      right : IsRight env (s.known ++ record { variable = v; cell = c } ∷ [])
      right k n = elim (Contains-append_cases s.known (record { variable = v; cell = c } ∷ []) k n) [
        | inl a ↦ r k a
        | inr b ↦ elim (mem-cases k (record { variable = v; cell = c }) [] b) [ inl f ↦ subst (λ (z : Known). cell_value w z.cell ≡ env z.variable) f h | inr z ↦ absurd (mem-nil k z) ]
      ]
  see_by-into env s v c (Some d) e r m h = (r, meets-both s.all (Same c d ∷ []) m (meets-one (Same c d) (h ∙ sym (find-right env s.known v d r e))))

  pub see_all-into : (env : ℕ → Value) (vs : List ℕ) (place : ℕ) (is : List ℕ) (s : Fitting) → IsRight env s.known → MeetsAll w s.all →
      ((i : ℕ) → Contains is i → cell_value w (cell place i) ≡ env (slice_index vs i)) → IsRight env (see_all vs place is s).known × MeetsAll w (see_all vs place is s).all
  see_all-into env vs place [] s r m h = (r, m)
  see_all-into env vs place (i ∷ is) s r m h =
      let b = see_by-into env s (slice_index vs i) (cell place i) (find s.known (slice_index vs i)) refl r m (h i (mem-head i is)) in
      see_all-into env vs place is (see s (slice_index vs i) (cell place i)) b.0 b.1 (λ j n. h j (mem-tail j i is n))

  -- a variable whose value is not changed by these columns
  abbrev pub IsUnmoved : List ℕ → List ℕ → List Known → ℕ → Type 0
  IsUnmoved vs is known u = IsKnown known u ⊎ ((i : ℕ) → Contains is i → slice_index vs i ≡ u → ⊥)

  -- a row that passes has the values of an assignment that goes on from what is known
  abbrev pub Continues : (ℕ → Value) → List ℕ → ℕ → List ℕ → Fitting → (ℕ → Value) → Type 0
  Continues env vs place is s e =
      IsRight e (see_all vs place is s).known × ((i : ℕ) → Contains is i → cell_value w (cell place i) ≡ e (slice_index vs i)) × ((u : ℕ) → IsUnmoved vs is s.known u → e u ≡ env u)

  pub see_all-from : (vs : List ℕ) (place : ℕ) (is : List ℕ) (s : Fitting) (env : ℕ → Value) → IsRight env s.known → MeetsAll w (see_all vs place is s).all →
      (e : ℕ → Value) × Continues env vs place is s e
  see_all-from vs place [] s env r m = (env, (r, (λ i n. absurd (mem-nil i n)), λ u h. refl))
  see_all-from vs place (i ∷ is) s env r m = go (find s.known v) refl m (λ t e h k. see_all-from vs place is t e h k)
    where
      v : ℕ
      v = slice_index vs i

      c : Cell
      c = cell place i

      step_known : (found : Option Cell) → Type 0
      step_known found = (e : ℕ → Value) × (IsRight e (see_all vs place is (see_by s v c found)).known × ((j : ℕ) → Contains (i ∷ is) j → cell_value w (cell place j) ≡ e (slice_index vs j)) × ((u : ℕ) → IsUnmoved vs (i ∷ is) s.known u → e u ≡ env u))

      Next : Type 0
      Next = (t : Fitting) (e : ℕ → Value) → IsRight e t.known → MeetsAll w (see_all vs place is t).all → (d : ℕ → Value) × Continues e vs place is t d

      go : (found : Option Cell) → find s.known v ≡ found → MeetsAll w (see_all vs place is (see_by s v c found)).all → Next → step_known found
      go (Some d) f m next = (
        e.0,
        (
          e.1.0,
          (λ j n. elim (mem-cases j i is n) [
            | inl g ↦ subst (λ z. cell_value w (cell place z) ≡ e.0 (slice_index vs z)) g (met ∙ find-right env s.known v d r f ∙ sym (e.1.2 v (inl (d, f))))
            | inr k ↦ e.1.1 j k
          ]),
          (λ u h. elim h [ inl k ↦ e.1.2 u (inl k) | inr k ↦ e.1.2 u (inr (λ j n. k j (mem-tail j i is n))) ]),
        ),
      )
        where
          e : (e : ℕ → Value) × Continues env vs place is (see_by s v c (Some d)) e
          e = next (see_by s v c (Some d)) env r m

          met : cell_value w c ≡ cell_value w d
          met = meets-right s.all (Same c d ∷ []) (see_all-keeps vs place is (see_by s v c (Some d)) m) (Same c d) (mem-head (Same c d) [])
      go None f m next = (
        e.0,
        (
          e.1.0,
          (λ j n. elim (mem-cases j i is n) [
            | inl g ↦ subst (λ z. cell_value w (cell place z) ≡ e.0 (slice_index vs z)) g (sym (update-same env v x) ∙ sym (e.1.2 v (inl (known-last s.known (record { variable = v; cell = c })))))
            | inr k ↦ e.1.1 j k
          ]),
          (λ u h. elim h [
            | inl k ↦ e.1.2 u (inl (known-append s.known (record { variable = v; cell = c }) u k)) ∙ update-other env v x u (λ g. none≢some k.0 (sym f ∙ ap (find s.known) (sym g) ∙ k.1))
            | inr k ↦ e.1.2 u (inr (λ j n. k j (mem-tail j i is n))) ∙ update-other env v x u (λ g. k i (mem-head i is) (sym g))
          ]),
        ),
      )
        where
          x : Value
          x = cell_value w c

          right : IsRight (update env v x) (s.known ++ record { variable = v; cell = c } ∷ [])
          right k n = elim (Contains-append_cases s.known (record { variable = v; cell = c } ∷ []) k n) [
            | inl a ↦ r k a ∙ sym (update-other env v x k.variable (λ g. unknown s.known k v f a g))
            | inr b ↦ elim (mem-cases k (record { variable = v; cell = c }) [] b) [
              | inl g ↦ subst (λ (z : Known). cell_value w z.cell ≡ update env v x z.variable) g (sym (update-same env v x))
              | inr z ↦ absurd (mem-nil k z)
            ]
          ]

          e : (e : ℕ → Value) × Continues (update env v x) vs place is (see_by s v c None) e
          e = next (see_by s v c None) (update env v x) right m

-- where a column's variable is known, something is compared
see_all-longer : (vs : List ℕ) (place : ℕ) (is : List ℕ) (s : Fitting) → length s.all ≤ length (see_all vs place is s).all
see_all-longer vs place [] s = omega arith
see_all-longer vs place (i ∷ is) s =
    let rest = see_all-longer vs place is (see s (slice_index vs i) (cell place i)) in
    let one = go (find s.known (slice_index vs i)) in
    omega (arith, rest, one)
  where
    go : (found : Option Cell) → length s.all ≤ length (see_by s (slice_index vs i) (cell place i) found).all
    go None = omega arith
    go (Some d) = omega (arith, length_push s.all (Same (cell place i) d))

pub see_all-some : (vs : List ℕ) (place : ℕ) (is : List ℕ) (s : Fitting) (i : ℕ) → Contains is i → IsKnown s.known (slice_index vs i) → 0 < length (see_all vs place is s).all
see_all-some vs place [] s i m k = absurd (mem-nil i m)
see_all-some vs place (j ∷ is) s i m k = elim (mem-cases i j is m) [
  | inl e ↦
      let rest = see_all-longer vs place is (see s (slice_index vs j) (cell place j)) in
      let one = here (subst (λ z. IsKnown s.known (slice_index vs z)) (sym e) k) in
      omega (arith, rest, one)
  | inr n ↦ see_all-some vs place is (see s (slice_index vs j) (cell place j)) i n (see_all-known [] vs place (j ∷ []) s (slice_index vs i) k)
]
  where
    here : IsKnown s.known (slice_index vs j) → 0 < length (see s (slice_index vs j) (cell place j)).all
    here (d, e) = subst (λ o. 0 < length (see_by s (slice_index vs j) (cell place j) o).all) (sym e) (omega (arith, length_push s.all (Same (cell place j) d)))
