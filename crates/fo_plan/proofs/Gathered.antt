-- What the rows taken and the rest of a plan give, block by block.
use Rattle.std.proofs.Common.{◌≡◌, ◌≢◌, ℕ, ◌<◌, ◌≤◌, ◌⊎◌, ◌↔◌, inl, inr, Bool, IsTrue, false, List, [], ◌∷◌, ◌++◌, length, get_or, map, drop, refl, ap, sym, ◌∙◌, subst, arith, Contains, Result, Ok, Err, OnOk}
use Rattle.std.proofs.lemmas.Bool.{false≢true}
use Rattle.std.proofs.lemmas.List.{length-map, get_or-map}
use Rattle.std.proofs.lemmas.List.Elements.{All-contains, Contains-get_or, Contains-append_left, Contains-append_right, Contains-append_cases}
use Rattle.std.specs.List.{All}
use Rattle.cqa_value.specs.declared.memory.NoMemory.{NoMemory}
use Rattle.cqa_value.specs.declared.value.Value.{Value}
use Rattle.cqa_value.specs.Values.{nothing}
use Rattle.cqa_model.specs.declared.query.Query.{Query}
use Rattle.cqa_model.specs.Query.{atom_at}
use Rattle.cqa_model.specs.Plan.{Placed, PlanHolds, answer_at}
use Rattle.cqa_model.proofs.Classic.{mem-head, mem-tail, mem-nil, mem-cases}
use Rattle.cqa_model.proofs.Exactness.{map_is}
use Rattle.join_access.specs.Deciding.{of_all}
use Rattle.plan_rows.specs.Taking.{taken_value, AreAgreed}
use Rattle.plan_rows.specs.Fitting.{Suits, GivesCandidate}
use Rattle.plan_rows.specs.Left.{IsAnswerSettled}
use Rattle.plan_rows.specs.Links.{RowHolds}
use Rattle.fo_plan.specs.Holding.{AllHold}
use Rattle.fo_plan.specs.Giving.{AreAllAtoms, IsAnswerRow, PlanGives, BlockGives, IsAdded}
use Rattle.plan_rows.proofs.Sharing.{value-taken}
use Rattle.plan_rows.proofs.Suiting.{fits-of, suits-from, gives-from}

module _ (q : Query) (tables : List (List (List Value))) (taken : List Placed) (F : ℕ) (plan : List ℕ) where
  pub all-more : (x : List Value) → AreAllAtoms q taken (F ∷ plan) → AreAllAtoms q (record { atom = F; row = x } ∷ taken) plan
  all-more x h G l = elim (h G l) [
    | inl m ↦ elim (mem-cases G F plan m) [ inl e ↦ inr (record { atom = F; row = x }, mem-head (record { atom = F; row = x }) taken, e) | inr n ↦ inl n ]
    | inr t ↦ inr (t.0, mem-tail t.0 (record { atom = F; row = x }) taken t.1, t.2)
  ]

  module _ (first : List Value) (others block : List (List Value)) (is : block ≡ first ∷ others) where
    -- its first row proposes, and the others test
    pub first-gives : Suits q taken F first → (row : List Value) →
        (PlanGives q tables (record { atom = F; row = first } ∷ taken) plan row × AllHold q tables row taken F plan others) ↔ BlockGives q tables taken F plan block row
    first-gives s row = (into, from)
      where
        Now : Placed
        Now = record { atom = F; row = first }

        into : PlanGives q tables (record { atom = F; row = first } ∷ taken) plan row × AllHold q tables row taken F plan others → BlockGives q tables taken F plan block row
        into (g, rest) = (
          (g.0.0, (λ t m. g.0.1 t (mem-tail t (record { atom = F; row = first }) taken m))),
          λ y m. elim (mem-cases y first others (subst (λ z. Contains z y) is m)) [
            | inl e ↦ subst (RowHolds q tables row taken F plan) e (fits-of q taken F first row s (g.0.1 (record { atom = F; row = first }) (mem-head (record { atom = F; row = first }) taken)), g.1)
            | inr n ↦ rest y n
          ],
        )

        from : BlockGives q tables taken F plan block row → PlanGives q tables (record { atom = F; row = first } ∷ taken) plan row × AllHold q tables row taken F plan others
        from g =
            let one : RowHolds q tables row taken F plan first = g.1 first (subst (λ z. Contains z first) (sym is) (mem-head first others)) in (
              (
                (
                  g.0.0,
                  (λ t m. elim (mem-cases t (record { atom = F; row = first }) taken m) [
                    | inl e ↦ subst (λ z. GivesCandidate q z.atom z.row row) e (gives-from q taken F first row one.0)
                    | inr n ↦ g.0.1 t n
                  ]),
                ),
                one.1,
              ),
              λ y m. g.1 y (subst (λ z. Contains z y) (sym is) (mem-tail y first others m)),
            )

-- a block gives nothing where one of its rows doesn't fit
pub block-fails : (q : Query) (tables : List (List (List Value))) (taken : List Placed) (F : ℕ) (plan : List ℕ) (block : List (List Value)) → (((y : List Value) → Contains block y → Suits q taken F y) → ⊥) → (row : List Value) → BlockGives q tables taken F plan block row → ⊥
block-fails q tables taken F plan block f row g = f (λ y m. suits-from q taken F y row (g.1 y m).0)

-- a block by its first row
pub block-split : (block : List (List Value)) (first : List Value) → 0 < length block → first ≡ get_or block 0 first → block ≡ first ∷ drop 1 block
block-split [] first l e = absurd (omega arith)
block-split (x ∷ xs) first l e = ap (λ z. z ∷ xs) (sym e)

pub block-one : (block : List (List Value)) (first : List Value) → length block ≡ 1 → first ≡ get_or block 0 first → block ≡ first ∷ []
block-one [] first l e = absurd (omega arith)
block-one (x ∷ []) first l e = ap (λ z. z ∷ []) (sym e)
block-one (x ∷ y ∷ ys) first l e = absurd (omega arith)

-- nothing is added where nothing is given
pub adds-none : (P : List Value → Type 0) (old : List (List Value)) → ((row : List Value) → P row → ⊥) → IsAdded P old old
adds-none P old h row = (λ m. inl m, λ s. elim s [ inl m ↦ m | inr p ↦ absurd (h row p) ])

-- the same by a property that says the same
pub adds-same : (P Q : List Value → Type 0) → ((row : List Value) → P row ↔ Q row) → (old new : List (List Value)) → IsAdded P old new → IsAdded Q old new
adds-same P Q h old new a row = (
  (λ m. elim ((a row).0 m) [ inl k ↦ inl k | inr p ↦ inr ((h row).0 p) ]),
  (λ s. elim s [ inl k ↦ (a row).1 (inl k) | inr p ↦ (a row).1 (inr ((h row).1 p)) ]),
)

-- the answer of the rows taken, where each answer column is of one of them
module _ (q : Query) (taken : List Placed) (agreed : AreAgreed q taken) (of_column : (i : ℕ) → i < length q.answer → (t : Placed) × Contains taken t × (t.atom ≡ (answer_at q i).atom)) where
  in_range : (i : ℕ) → i < length q.answer → ((answer_at q i).atom < length q.atoms) × ((answer_at q i).col < (atom_at q (answer_at q i).atom).width)
  in_range i l = q.kept.answer_in_range (answer_at q i) (Contains-get_or q.answer i (record { atom = 0; col = 0 }) l)

  pub answer-of : (row : List Value) → IsAnswerRow q taken row → map (taken_value taken) q.answer ≡ row
  answer-of row g = map_is (taken_value taken) (record { atom = 0; col = 0 }) q.answer row g.0 at
    where
      at : (i : ℕ) → i < length q.answer → taken_value taken (answer_at q i) ≡ get_or row i nothing
      at i l =
          let t = of_column i l in
          let u = value-taken taken (answer_at q i) t.0 t.1 t.2 in
          u.3 ∙ g.1 u.0 u.1 i l (sym u.2)

  pub is-answer : (row : List Value) → map (taken_value taken) q.answer ≡ row → IsAnswerRow q taken row
  is-answer row e = (
    sym (ap length e) ∙ length-map q.answer (taken_value taken),
    (λ t m i l f. at t m i l f ∙ sym (get_or-map (taken_value taken) q.answer i (record { atom = 0; col = 0 }) nothing l) ∙ ap (λ z. get_or z i nothing) e),
  )
    where
      at : (t : Placed) → Contains taken t → (i : ℕ) → i < length q.answer → (answer_at q i).atom ≡ t.atom → get_or t.row (answer_at q i).col nothing ≡ taken_value taken (answer_at q i)
      at t m i l f =
          let u = value-taken taken (answer_at q i) t m (sym f) in
          agreed t u.0 m u.1 (sym f ∙ sym u.2) (answer_at q i).col (subst (λ z. (answer_at q i).col < (atom_at q z).width) f (in_range i l).1) ∙ sym u.3

-- so it is where no answer column is of an atom that is left
pub settled-columns : (q : Query) (taken : List Placed) (plan : List ℕ) → AreAllAtoms q taken plan → IsAnswerSettled q plan → (i : ℕ) → i < length q.answer → (t : Placed) × Contains taken t × (t.atom ≡ (answer_at q i).atom)
settled-columns q taken plan all settled i l =
    let column = answer_at q i in
    let there = Contains-get_or q.answer i (record { atom = 0; col = 0 }) l in
    elim (all column.atom (q.kept.answer_in_range column there).0) [
      | inl m ↦ absurd (All-contains (λ c. c.atom ≢ column.atom) q.answer column (All-contains (λ F. All (λ c. c.atom ≢ F) q.answer) plan column.atom settled m) there refl)
      | inr t ↦ t
    ]

-- of the rows of a block those that were looked at have a property, and the others are still there
pub record HeldSoFar (P : List Value → Type 0) (block left : List (List Value)) : Type 0 where
  pub within : (y : List Value) → Contains left y → Contains block y
  pub held : (y : List Value) → Contains block y → P y ⊎ Contains left y

module _ (P : List Value → Type 0) (block : List (List Value)) where
  pub held-starts : (left : List (List Value)) → left ≡ block → HeldSoFar P block left
  held-starts left e = record { within = λ y m. subst (λ z. Contains z y) e m; held = λ y m. inr (subst (λ z. Contains z y) (sym e) m) }

  module _ (left later : List (List Value)) (z : List Value) (h : HeldSoFar P block left) (is : left ≡ z ∷ later) where
    pub held-not : (P z → ⊥) → ((y : List Value) → Contains block y → P y) → ⊥
    held-not off all = off (all z (h.within z (subst (λ rows. Contains rows z) (sym is) (mem-head z later))))

    pub held-on : P z → HeldSoFar P block later
    held-on p = record {
      within = λ y m. h.within y (subst (λ rows. Contains rows y) (sym is) (mem-tail y z later m));
      held = λ y m. elim (h.held y m) [
        | inl k ↦ inl k
        | inr k ↦ elim (mem-cases y z later (subst (λ rows. Contains rows y) is k)) [ inl e ↦ inl (subst P e p) | inr n ↦ inr n ]
      ];
    }

  pub held-ends : (left : List (List Value)) → HeldSoFar P block left → left ≡ [] → (y : List Value) → Contains block y → P y
  held-ends left h none y m = elim (h.held y m) [ inl p ↦ p | inr n ↦ absurd (mem-nil y (subst (λ rows. Contains rows y) none n)) ]

-- of the rows proposed those that were looked at have come if they have a property, and the others are still there
pub record KeptSoFar (P : List Value → Type 0) (proposed left old new : List (List Value)) : Type 0 where
  pub within : (row : List Value) → Contains left row → Contains proposed row
  pub kept : (row : List Value) → Contains old row → Contains new row
  pub given : (row : List Value) → Contains new row → Contains old row ⊎ (Contains proposed row × P row)
  pub all : (row : List Value) → Contains proposed row → P row → Contains new row ⊎ Contains left row

pub kept-starts : (P : List Value → Type 0) (proposed old : List (List Value)) → KeptSoFar P proposed proposed old old
kept-starts P proposed old = record { within = λ row m. m; kept = λ row m. m; given = λ row m. inl m; all = λ row m p. inr m }

pub kept-on : (P : List Value → Type 0) (proposed left later old new more : List (List Value)) (last : List Value) → KeptSoFar P proposed left old new → left ≡ later ++ last ∷ [] → IsAdded (λ r. (r ≡ last) × P r) new more → KeptSoFar P proposed later old more
kept-on P proposed left later old new more last h is a = record {
  within = λ row m. h.within row (subst (λ z. Contains z row) (sym is) (Contains-append_left later (last ∷ []) row m));
  kept = λ row m. (a row).1 (inl (h.kept row m));
  given = λ row m. elim ((a row).0 m) [
    | inl k ↦ h.given row k
    | inr p ↦ inr (h.within row (subst (λ z. Contains z row) (sym is) (Contains-append_right later (last ∷ []) row (subst (Contains (last ∷ [])) (sym p.0) (mem-head last [])))), p.1)
  ];
  all = λ row m p. elim (h.all row m p) [
    | inl k ↦ inl ((a row).1 (inl k))
    | inr k ↦ elim (Contains-append_cases later (last ∷ []) row (subst (λ z. Contains z row) is k)) [
      | inl n ↦ inr n
      | inr n ↦ elim (mem-cases row last [] n) [ inl e ↦ inl ((a row).1 (inr (sym e, p))) | inr none ↦ absurd (mem-nil row none) ]
    ]
  ];
}

pub kept-ends : (P : List Value → Type 0) (proposed left old new : List (List Value)) → KeptSoFar P proposed left old new → left ≡ [] → IsAdded (λ r. Contains proposed r × P r) old new
kept-ends P proposed left old new h none row = (
  h.given row,
  λ s. elim s [
    | inl k ↦ h.kept row k
    | inr p ↦ elim (h.all row p.0 p.1) [ inl n ↦ n | inr n ↦ absurd (mem-nil row (subst (λ z. Contains z row) none n)) ]
  ],
)

-- one row was put in, or not, as it has a property or not
pub one-put : (P : List Value → Type 0) (old new : List (List Value)) (row : List Value) → P row → ((other : List Value) → Contains new other ↔ (Contains old other ⊎ (row ≡ other))) → IsAdded (λ r. (r ≡ row) × P r) old new
one-put P old new row p put r = (
  (λ m. elim ((put r).0 m) [ inl k ↦ inl k | inr e ↦ inr (sym e, subst P e p) ]),
  (λ s. (put r).1 (elim s [ inl k ↦ inl k | inr k ↦ inr (sym k.0) ])),
)

pub none-added : (P : List Value → Type 0) (old : List (List Value)) (row : List Value) → (P row → ⊥) → IsAdded (λ r. (r ≡ row) × P r) old old
none-added P old row off = adds-none (λ r. (r ≡ row) × P r) old (λ r k. off (subst P k.0 k.1))

-- what a block gives was added, where its first row proposed and the others tested
pub add-block : (G A P : List Value → Type 0) (old none part new : List (List Value)) → none ≡ [] → IsAdded G none part → IsAdded (λ r. Contains part r × A r) old new → ((row : List Value) → (G row × A row) ↔ P row) → IsAdded P old new
add-block G A P old none part new e add step same row = (
  (λ m. elim ((step row).0 m) [ inl k ↦ inl k | inr k ↦ inr ((same row).0 (part-of row ((add row).0 k.0), k.1)) ]),
  (λ s. elim s [ inl k ↦ (step row).1 (inl k) | inr p ↦ (let g = (same row).1 p in (step row).1 (inr ((add row).1 (inr g.0), g.1))) ]),
)
  where
    part-of : (row : List Value) → Contains none row ⊎ G row → G row
    part-of row (inl m) = absurd (mem-nil row (subst (λ z. Contains z row) e m))
    part-of row (inr g) = g

-- nothing was given where nothing was added to no rows
pub none-given : (P : List Value → Type 0) (none new : List (List Value)) → IsAdded P none new → new ≡ [] → (row : List Value) → P row → ⊥
none-given P none new a e row p = mem-nil row (subst (λ z. Contains z row) e ((a row).1 (inr p)))

-- what was added to no rows was moved
pub moved-on : (P : List Value → Type 0) (none part old new : List (List Value)) → none ≡ [] → IsAdded P none part → IsAdded (Contains part) old new → IsAdded P old new
moved-on P none part old new e a moved = adds-same (Contains part) P (λ row. ((λ m. only row ((a row).0 m)), (λ p. (a row).1 (inr p)))) old new moved
  where
    only : (row : List Value) → Contains none row ⊎ P row → P row
    only row (inl m) = absurd (mem-nil row (subst (λ z. Contains z row) e m))
    only row (inr p) = p

-- a block of one row
pub add-one : (q : Query) (tables : List (List (List Value))) (taken : List Placed) (F : ℕ) (plan : List ℕ) (first : List Value) (block : List (List Value)) → block ≡ first ∷ [] → Suits q taken F first → (old new : List (List Value)) →
    IsAdded (PlanGives q tables (record { atom = F; row = first } ∷ taken) plan) old new → IsAdded (BlockGives q tables taken F plan block) old new
add-one q tables taken F plan first block is s old new =
    adds-same (PlanGives q tables (record { atom = F; row = first } ∷ taken) plan) (BlockGives q tables taken F plan block)
    (λ row. (
      (λ g. (first-gives q tables taken F plan first [] block is s row).0 (g, λ y m. absurd (mem-nil y m))),
      (λ b. ((first-gives q tables taken F plan first [] block is s row).1 b).0),
    )) old new

-- the answer of the rows taken was put in, where the rest of the plan holds
pub add-answer : (q : Query) (tables : List (List (List Value))) (taken : List Placed) (plan : List ℕ) → AreAgreed q taken → AreAllAtoms q taken plan → IsAnswerSettled q plan → ((row : List Value) → PlanHolds q tables row taken plan) → (old new : List (List Value)) (answer : List Value) →
    answer ≡ map (taken_value taken) q.answer → ((other : List Value) → Contains new other ↔ (Contains old other ⊎ (answer ≡ other))) → IsAdded (PlanGives q tables taken plan) old new
add-answer q tables taken plan agreed all settled holds old new answer ea put row = (
  (λ m. elim ((put row).0 m) [ inl k ↦ inl k | inr e ↦ inr (is-answer q taken agreed (settled-columns q taken plan all settled) row (sym ea ∙ e), holds row) ]),
  (λ s. (put row).1 (elim s [ inl k ↦ inl k | inr g ↦ inr (ea ∙ answer-of q taken agreed (settled-columns q taken plan all settled) row g.0) ])),
)

pub no-plan : (plan : List ℕ) → length plan < 1 → plan ≡ []
no-plan [] l = refl
no-plan (F ∷ plan) l = absurd (omega arith)

-- an empty rest is settled
pub settled-empty : (q : Query) (plan : List ℕ) → plan ≡ [] → IsAnswerSettled q plan
settled-empty q plan e = of_all (λ F. All (λ c. c.atom ≢ F) q.answer) plan (λ F m. absurd (mem-nil F (subst (λ z. Contains z F) e m)))

-- a rest that isn't settled has an atom
pub some-plan : (q : Query) (plan : List ℕ) (b : Bool) → IsTrue b ↔ IsAnswerSettled q plan → b ≡ false → 1 ≤ length plan
some-plan q [] b says f = absurd (false≢true (sym f ∙ says.1 (settled-empty q [] refl)))
some-plan q (F ∷ plan) b says f = omega arith

-- with no row taken
pub gives-all : (q : Query) (tables : List (List (List Value))) (plan : List ℕ) (found : List (List Value)) → IsAdded (PlanGives q tables [] plan) [] found →
    (row : List Value) → Contains found row ↔ ((length row ≡ length q.answer) × PlanHolds q tables row [] plan)
gives-all q tables plan found h row = (
  λ m. elim ((h row).0 m) [ inl n ↦ absurd (mem-nil row n) | inr g ↦ (g.0.0, g.1) ],
  λ p. (h row).1 (inr ((p.0, (λ t m. absurd (mem-nil t m))), p.1)),
)

pub on-ok : {A : Type 0} {P Q : Type 0} (r : Result A NoMemory) → (P → Q) → OnOk r P → OnOk r Q
on-ok (Ok a) f p = f p
on-ok (Err e) f p = tt
