-- Each column of a child is shown, or compared with a cell that stands before it.
use Rattle.std.proofs.Common.{◌≡◌, ℕ, zero, suc, ◌<◌, ◌+◌, ◌⊎◌, inl, inr, List, [], ◌∷◌, ◌++◌, length, ap, sym, ◌∙◌, subst, arith, refl, Contains, Option, Some, None}
use Rattle.std.specs.List.{slice_index, range_with_len}
use Rattle.std.specs.Option.{unwrap_or}
use Rattle.std.proofs.lemmas.List.Elements.{Contains-get_or, Contains-append_left, Contains-append_right, Contains-append_cases}
use Rattle.cqa_model.specs.declared.query.Query.{Query}
use Rattle.cqa_model.specs.Query.{atom_key}
use Rattle.cqa_model.proofs.Classic.{mem-head, mem-tail, mem-nil, mem-cases}
use Rattle.sql_text.specs.declared.syntax.Cell.{Cell}
use Rattle.sql_text.specs.declared.syntax.Cmp.{Cmp}
use Rattle.sql_text.specs.declared.syntax.Cmp.TheVariants.{Same}
use Rattle.sql_text.specs.declared.syntax.Step.{Step}
use Rattle.sql_text.specs.Named.{StandsBefore, IsDetermined, AreDetermined}
use Rattle.sql_steps.specs.declared.fitting.Known.{Known}
use Rattle.sql_steps.specs.declared.fitting.Fitting.{Fitting}
use Rattle.sql_steps.specs.declared.part.Part.{Part}
use Rattle.sql_steps.specs.Variables.{all_below, variables_of}
use Rattle.sql_steps.specs.Steps.{cell, find, cell_of, see_by, see, see_all, others_of, keyed, fitted, see_part, children_of, known_of}
use Rattle.sql_steps.proofs.Membership.{columns-into}
use Rattle.sql_steps.proofs.Seeing.{IsKnown, none≢some, find-append, find-cases, find-in, see_all-known}
use Rattle.sql_steps.proofs.Joining.{IsBelow, below-seen, part-known, part-below}
use Rattle.sql_steps.proofs.Scopes.{AreThere}

-- where what was known stands below a place behind the first, so does what is known with F's row
pub fitted-below : (q : Query) (F : ℕ) (start : List Known) (n : ℕ) → 0 < n → IsBelow n start → IsBelow n (fitted q F start).known
fitted-below q F start n l b =
    below-seen n 0 l (variables_of q F) (others_of q F) (record { known = (keyed q F start).known; all = [] })
    (below-seen n 0 l (variables_of q F) (atom_key q F) (record { known = start; all = [] }) b)

find-last : (ks : List Known) (v : ℕ) (c : Cell) → find ks v ≡ None → find (ks ++ record { variable = v; cell = c } ∷ []) v ≡ Some c
find-last [] v c e = elim (find-cases (record { variable = v; cell = c }) [] v) [ inl p ↦ p.1 | inr p ↦ absurd (p.0 refl) ]
find-last (l ∷ ks) v c e = elim (find-cases l ks v) [
  | inl p ↦ absurd (none≢some l.cell (sym e ∙ p.1))
  | inr p ↦ elim (find-cases l (ks ++ record { variable = v; cell = c } ∷ []) v) [ inl o ↦ absurd (p.0 o.0) | inr o ↦ o.1 ∙ find-last ks v c (sym p.1 ∙ e) ]
]

-- the cell that is found stays the one that is found, and what is compared stays compared
found-by : (s : Fitting) (u : ℕ) (d : Cell) (found : Option Cell) (v : ℕ) (c : Cell) → find s.known v ≡ Some c → find (see_by s u d found).known v ≡ Some c
found-by s u d None v c e = find-append s.known (record { variable = u; cell = d }) v c e
found-by s u d (Some x) v c e = e

found-kept : (vs : List ℕ) (place : ℕ) (is : List ℕ) (s : Fitting) (v : ℕ) (c : Cell) → find s.known v ≡ Some c → find (see_all vs place is s).known v ≡ Some c
found-kept vs place [] s v c e = e
found-kept vs place (i ∷ is) s v c e =
    found-kept vs place is (see s (slice_index vs i) (cell place i)) v c (found-by s (slice_index vs i) (cell place i) (find s.known (slice_index vs i)) v c e)

compared-by : (s : Fitting) (u : ℕ) (d : Cell) (found : Option Cell) (k : Cmp) → Contains s.all k → Contains (see_by s u d found).all k
compared-by s u d None k m = m
compared-by s u d (Some x) k m = Contains-append_left s.all (Same d x ∷ []) k m

compared-kept : (vs : List ℕ) (place : ℕ) (is : List ℕ) (s : Fitting) (k : Cmp) → Contains s.all k → Contains (see_all vs place is s).all k
compared-kept vs place [] s k m = m
compared-kept vs place (i ∷ is) s k m =
    compared-kept vs place is (see s (slice_index vs i) (cell place i)) k (compared-by s (slice_index vs i) (cell place i) (find s.known (slice_index vs i)) k m)

-- a column is compared with a cell that stands before it, or its variable wasn't known, and is found at this column
abbrev Tells : List ℕ → ℕ → Fitting → Fitting → ℕ → Type 0
Tells vs place s end i =
    ((d : Cell) × StandsBefore d (cell place i) × Contains end.all (Same (cell place i) d))
    ⊎ ((IsKnown s.known (slice_index vs i) → ⊥) × (find end.known (slice_index vs i) ≡ Some (cell place i)))

-- what is known stands before a column
abbrev AreEarlier : ℕ → ℕ → List Known → Type 0
AreEarlier place i known = (k : Known) → Contains known k → StandsBefore k.cell (cell place i)

before-next : (c : Cell) (place i : ℕ) → StandsBefore c (cell place i) → StandsBefore c (cell place (i + 1))
before-next c place i (inl l) = inl l
before-next c place i (inr (e, l)) = inr (e, omega (arith, l))

told-range : (vs : List ℕ) (place n a : ℕ) (s : Fitting) → AreEarlier place a s.known → (i : ℕ) → Contains (range_with_len a n) i → Tells vs place s (see_all vs place (range_with_len a n) s) i
told-range vs place zero a s b i m = absurd (mem-nil i m)
told-range vs place (suc n) a s b i m = elim (mem-cases i a (range_with_len (a + 1) n) m) [
  | inl e ↦ subst (λ j. Tells vs place s (see_all vs place (range_with_len (a + 1) n) next) j) e (here (find s.known v) refl)
  | inr o ↦ elim (told-range vs place n (a + 1) next (earlier (find s.known v)) i o) [
    | inl t ↦ inl t
    | inr t ↦ inr ((λ k. t.0 (see_all-known [] vs place (a ∷ []) s (slice_index vs i) k)), t.1)
  ]
]
  where
    v : ℕ
    v = slice_index vs a

    c : Cell
    c = cell place a

    next : Fitting
    next = see s v c

    here : (found : Option Cell) → find s.known v ≡ found → Tells vs place s (see_all vs place (range_with_len (a + 1) n) (see_by s v c found)) a
    here None e = inr ((λ k. none≢some k.0 (sym e ∙ k.1)), found-kept vs place (range_with_len (a + 1) n) (see_by s v c None) v c (find-last s.known v c e))
    here (Some d) e =
        let f = find-in s.known v d e in
        inl (d, subst (λ z. StandsBefore z c) f.2 (b f.0 f.1), compared-kept vs place (range_with_len (a + 1) n) (see_by s v c (Some d)) (Same c d) (Contains-append_right s.all (Same c d ∷ []) (Same c d) (mem-head (Same c d) [])))

    earlier : (found : Option Cell) → AreEarlier place (a + 1) (see_by s v c found).known
    earlier (Some d) k m = before-next k.cell place a (b k m)
    earlier None k m = elim (Contains-append_cases s.known (record { variable = v; cell = c } ∷ []) k m) [
      | inl o ↦ before-next k.cell place a (b k o)
      | inr o ↦ elim (mem-cases k (record { variable = v; cell = c }) [] o) [
        | inl e ↦ subst (λ (z : Known). StandsBefore z.cell (cell place (a + 1))) e (inr (refl, omega arith))
        | inr z ↦ absurd (mem-nil k z)
      ]
    ]

told-part : (place : ℕ) (p : Part) (known : List Known) → IsBelow place known → (i : ℕ) → i < length p.columns → Tells p.columns place (record { known = known; all = [] }) (see_part place p known) i
unfolding all_below
told-part place p known b i l = told-range p.columns place (length p.columns) 0 (record { known = known; all = [] }) (λ k m. inl (b k m)) i (columns-into (length p.columns) i l)

parts-found : (parts : List Part) (place : ℕ) (known : List Known) (v : ℕ) (c : Cell) → find known v ≡ Some c → find (known_of place parts known) v ≡ Some c
parts-found [] place known v c e = e
parts-found (p ∷ ps) place known v c e =
    parts-found ps (suc place) (see_part place p known).known v c (found-kept p.columns place (all_below (length p.columns)) (record { known = known; all = [] }) v c e)

-- where each variable of a part is known before the parts or its cell is shown, each column of a child is told
pub told-of : (q : Query) (before : List Step) (cells : List Cell) (parts : List Part) (place : ℕ) (known : List Known) → IsBelow place known → AreThere q before parts →
    ((p : Part) → Contains parts p → (v : ℕ) → Contains p.columns v → IsKnown known v ⊎ Contains cells (cell_of (known_of place parts known) v)) → AreDetermined q before cells place (children_of place parts known)
told-of q before cells [] place known b at h = tt
told-of q before cells (p ∷ ps) place known b at h = (
  (λ i l. one i (subst (λ z. i < z) (at p (mem-head p ps)).1 l)),
  told-of q before cells ps (suc place) (see_part place p known).known (part-below place p known b) (λ o m. at o (mem-tail o p ps m))
      (λ o m v n. elim (h o (mem-tail o p ps m) v n) [ inl k ↦ inl (part-known place p known v k) | inr s ↦ inr s ]),
)
  where
    one : (i : ℕ) → i < length p.columns → IsDetermined cells (see_part place p known).all (cell place i)
    one i l = elim (told-part place p known b i l) [
      | inl t ↦ inr t
      | inr t ↦ elim (h p (mem-head p ps) (slice_index p.columns i) (Contains-get_or p.columns i 0 l)) [
        | inl k ↦ absurd (t.0 k)
        | inr s ↦ inl (subst (λ z. Contains cells z) (ap (λ (o : Option Cell). unwrap_or o (cell 0 0)) (parts-found ps (suc place) (see_part place p known).known (slice_index p.columns i) (cell place i) t.1)) s)
      ]
    ]
