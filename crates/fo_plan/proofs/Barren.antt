-- A rest of a plan that shares no column with the atoms before it gives rows whatever rows are taken, or none.
use Rattle.std.proofs.Common.{◌≡◌, ◌<◌, ◌≤◌, ◌+◌, ◌-◌, ◌==◌, Bool, IsTrue, ℕ, zero, suc, Option, None, Some, IfSome, MatchOption, List, [], ◌∷◌, ◌++◌, length, get_or, map, take, drop, refl, sym, ap, ◌∙◌, subst, arith, Contains, inl, inr}
use native.Mathlib.Decide.{ℕ_discrete}
use Rattle.std.specs.List.{range_with_len}
use Rattle.std.proofs.Math.Logic.{∥∥₁_elim}
use Rattle.std.proofs.lemmas.Bool.{eqb-true}
use Rattle.std.proofs.Math.Seq.{take-append_seam, drop-append_seam}
use Rattle.std.proofs.lemmas.List.{length-append, length-map, get_or-map, get_or_read}
use Rattle.std.proofs.lemmas.List.FromFn.{length-range_with_len, get_or-range_with_len}
use Rattle.std.proofs.lemmas.List.Elements.{Contains-get_or}
use Rattle.cqa_value.specs.declared.value.Value.{Value}
use Rattle.cqa_value.specs.Values.{nothing}
use Rattle.cqa_model.specs.declared.query.ColRef.{ColRef}
use Rattle.cqa_model.specs.Database.{stored}
use Rattle.cqa_model.specs.Query.{atom_at, atom_key}
use Rattle.cqa_model.specs.Plan.{Placed, answer_at}
use Rattle.cqa_model.proofs.Classic.{mem-nil, mem-cases, dec_some}
use Rattle.cqa_model.proofs.Repairs.{shares-self}
use Rattle.cqa_model.proofs.Values.{dec_by}
use Rattle.cqa_model.proofs.Views.{linked-self}
use Rattle.plan_rows.specs.Taking.{taken_value}
use Rattle.plan_rows.specs.Fitting.{GivesCandidate}
use Rattle.plan_rows.specs.Underway.{atoms_of, IsUnderway}
use Rattle.plan_rows.specs.declared.course.Course.{Course}
use Rattle.plan_rows.proofs.Suiting.{suits-from, gives-from}
use Rattle.plan_rows.proofs.Sharing.{value-taken, in-atoms, length-atoms, passed-count, underway-more, same-plan, same-shared, same-answers}
use Rattle.fo_plan.specs.Giving.{PlanGives}
use Rattle.fo_plan.specs.Noted.{StandsApart, GivesNone}

-- an order is parted at one place in one way
same-place : (s : Course) (taken others : List Placed) (plan left : List ℕ) → IsUnderway s taken plan → IsUnderway s others left → length plan ≡ length left → (atoms_of taken ≡ atoms_of others) × (plan ≡ left)
same-place s taken others plan left u v e = (
  sym (take-append_seam (atoms_of taken) plan) ∙ (ap (take (length (atoms_of taken))) orders ∙ (ap (λ n. take n (atoms_of others ++ left)) long ∙ take-append_seam (atoms_of others) left)),
  sym (drop-append_seam (atoms_of taken) plan) ∙ (ap (drop (length (atoms_of taken))) orders ∙ (ap (λ n. drop n (atoms_of others ++ left)) long ∙ drop-append_seam (atoms_of others) left)),
)
  where
    orders : atoms_of taken ++ plan ≡ atoms_of others ++ left
    orders = sym u.place ∙ v.place

    long : length (atoms_of taken) ≡ length (atoms_of others)
    long = let o = ap length orders in let a = length-append (atoms_of taken) plan in let b = length-append (atoms_of others) left in omega (arith, o, a, b, e)

-- one of two values, as something holds or not
abbrev pick : {P : Type 0} → Dec P → Value → Value → Value
pick (yes p) a b = a
pick (no f) a b = b

pick-first : {P : Type 0} (d : Dec P) (a b : Value) → P → pick d a b ≡ a
pick-first (yes p) a b q = refl
pick-first (no f) a b q = absurd (f q)

pick-second : {P : Type 0} (d : Dec P) (a b : Value) → (P → ⊥) → pick d a b ≡ b
pick-second (yes p) a b g = absurd (g p)
pick-second (no f) a b g = refl

pub dec_atom : (atoms : List ℕ) (F : ℕ) → Dec (Contains atoms F)
dec_atom atoms F = dec_by (λ p. subst (λ G. Contains atoms G) p.2 p.1) (λ m. (F, m, refl)) (dec_some (λ G. G ≡ F) (λ G. ℕ_discrete G F) atoms)

module _ (s : Course) (taken others : List Placed) (plan : List ℕ) (u : IsUnderway s taken plan) (v : IsUnderway s others plan) (atoms : atoms_of taken ≡ atoms_of others) (there : length taken < length s.shared.now)
    (none : get_or s.shared.now (length taken) [] ≡ []) where
  -- no atom that is left was taken: its own columns would be shared
  off : (F : ℕ) → Contains (atoms_of taken) F → Contains plan F → (i : ℕ) → i < (atom_at s.setting.bound.now.query.now F).width → ⊥
  off F m n i l = ∥∥₁_elim s.shares (λ a b. absurd a) (λ shared.
      mem-nil (record { atom = F; col = i }) (subst (λ columns. Contains columns (record { atom = F; col = i })) none
      (subst (λ k. Contains (get_or s.shared.now k []) (record { atom = F; col = i })) (length-atoms taken)
      (shared (atoms_of taken) plan u.place (subst (λ k. k < length s.shared.now) (sym (length-atoms taken)) there) F i m l (F, i, n, l, linked-self s.setting.bound.now.query.now (record { atom = F; col = i }))))))

  -- the values of a row in the answer columns of the atoms that are left, and those of the rows taken in the others
  abbrev value_at : List Value → ℕ → Value
  value_at row i = pick (dec_atom plan (answer_at s.setting.bound.now.query.now i).atom) (get_or row i nothing) (taken_value taken (answer_at s.setting.bound.now.query.now i))

  abbrev mixed : List Value → List Value
  mixed row = map (value_at row) (range_with_len 0 (length s.setting.bound.now.query.now.answer))

  reads : (row : List Value) (i : ℕ) → i < length s.setting.bound.now.query.now.answer → get_or (mixed row) i nothing ≡ value_at row i
  reads row i l =
      let n = length-range_with_len 0 (length s.setting.bound.now.query.now.answer) in
      let zero-more : 0 + i ≡ i = omega arith in
      get_or-map (value_at row) (range_with_len 0 (length s.setting.bound.now.query.now.answer)) i 0 nothing (omega (arith, n, l)) ∙ ap (value_at row) (get_or-range_with_len 0 (length s.setting.bound.now.query.now.answer) i 0 l ∙ zero-more)

  in-range : (i : ℕ) → i < length s.setting.bound.now.query.now.answer → (answer_at s.setting.bound.now.query.now i).col < (atom_at s.setting.bound.now.query.now (answer_at s.setting.bound.now.query.now i).atom).width
  in-range i l = (s.setting.bound.now.query.now.kept.answer_in_range (answer_at s.setting.bound.now.query.now i) (Contains-get_or s.setting.bound.now.query.now.answer i (record { atom = 0; col = 0 }) l)).1

  -- so it has the answers of the rows taken
  has-answers : (row : List Value) (t : Placed) → Contains taken t → GivesCandidate s.setting.bound.now.query.now t.atom t.row (mixed row)
  has-answers row t m i l e =
      let c = answer_at s.setting.bound.now.query.now i in
      let w = value-taken taken c t m (sym e) in
      u.agreed t w.0 m w.1 (sym e ∙ sym w.2) c.col (subst (λ z. c.col < (atom_at s.setting.bound.now.query.now z).width) e (in-range i l)) ∙
      (sym w.3 ∙ (sym (pick-second (dec_atom plan c.atom) (get_or row i nothing) (taken_value taken c) (λ n. off c.atom (subst (λ F. Contains (atoms_of taken) F) (sym e) (in-atoms taken t m)) n c.col (in-range i l))) ∙ sym (reads row i l)))

  -- what others give, the rows taken give with their own answers
  pub gives-too : (row : List Value) → PlanGives s.setting.bound.now.query.now (stored s.setting.bound.now.db.now) others plan row → PlanGives s.setting.bound.now.query.now (stored s.setting.bound.now.db.now) taken plan (mixed row)
  gives-too row g = (
    (length-map (range_with_len 0 (length s.setting.bound.now.query.now.answer)) (value_at row) ∙ length-range_with_len 0 (length s.setting.bound.now.query.now.answer), has-answers row),
    same-answers s.setting.bound.now.query.now (stored s.setting.bound.now.db.now) row (mixed row) taken plan
        (λ F m i l e. sym (pick-first (dec_atom plan (answer_at s.setting.bound.now.query.now i).atom) (get_or row i nothing) (taken_value taken (answer_at s.setting.bound.now.query.now i)) (subst (λ G. Contains plan G) (sym e) m)) ∙ sym (reads row i l))
        (same-plan s.setting.bound.now.query.now (stored s.setting.bound.now.db.now) row others taken plan (same-shared s others taken plan v u (sym atoms) (subst (λ n. n < length s.shared.now) count there) same) g.1),
  )
    where
      count : length taken ≡ length others
      count = sym (length-atoms taken) ∙ (ap length atoms ∙ length-atoms others)

      same : map (taken_value others) (get_or s.shared.now (length others) []) ≡ map (taken_value taken) (get_or s.shared.now (length others) [])
      same = let e : get_or s.shared.now (length others) [] ≡ [] = ap (λ n. get_or s.shared.now n []) (sym count) ∙ none in ap (map (taken_value others)) e ∙ sym (ap (map (taken_value taken)) e)

no-columns : (columns : List ColRef) → length columns ≡ 0 → columns ≡ []
no-columns [] e = refl
no-columns (c ∷ columns) e = absurd (omega (arith, e))

-- so it is tested
pub apart-at : (s : Course) (taken : List Placed) (plan : List ℕ) (columns item : List ColRef) (place : ℕ) (none : Bool) → IsUnderway s taken plan → place ≡ length s.order.now - length plan → place < length s.shared.now →
    item ≡ get_or s.shared.now place item → columns ≡ item → none ≡ (length columns == 0) → IsTrue none → StandsApart s taken
apart-at s taken plan columns item place none u e l is c says t = (subst (λ n. n < length s.shared.now) at l, sym (c ∙ (get_or_read s.shared.now place item l is [] ∙ ap (λ n. get_or s.shared.now n []) at)) ∙ no-columns columns (eqb-true (length columns) 0 (sym says ∙ t)))
  where
    at : place ≡ length taken
    at = let n = passed-count s taken plan u in omega (arith, e, n)

-- where it gives no row, nothing is given from its atoms on, nor from more
pub gives-none : (s : Course) (taken : List Placed) (plan : List ℕ) → IsUnderway s taken plan → StandsApart s taken →
    ((row : List Value) → PlanGives s.setting.bound.now.query.now (stored s.setting.bound.now.db.now) taken plan row → ⊥) → GivesNone s (length plan)
gives-none s taken plan u apart empty others left row v long g = go (length left - length plan) others left v (omega (arith, long)) g
  where
    go : (d : ℕ) (others : List Placed) (left : List ℕ) → IsUnderway s others left → length left ≡ d + length plan → PlanGives s.setting.bound.now.query.now (stored s.setting.bound.now.db.now) others left row → ⊥
    go zero others left v e g =
        let p = same-place s taken others plan left u v (omega (arith, e)) in
        empty (mixed s taken others plan u (subst (IsUnderway s others) (sym p.1) v) p.0 apart.0 apart.1 row) (gives-too s taken others plan u (subst (IsUnderway s others) (sym p.1) v) p.0 apart.0 apart.1 row (subst (λ l. PlanGives s.setting.bound.now.query.now (stored s.setting.bound.now.db.now) others l row) (sym p.1) g))
    go (suc d) others [] v e g = absurd (omega (arith, e))
    go (suc d) others (F ∷ left) v e (answer, (x, m, all)) =
        let own = all x m (shares-self (atom_key s.setting.bound.now.query.now F) x) in
        go d (record { atom = F; row = x } ∷ others) left (underway-more s others F left x v (suits-from s.setting.bound.now.query.now others F x row own.0)) (omega (arith, e)) (
          (
            answer.0,
            (λ t n. elim (mem-cases t (record { atom = F; row = x }) others n) [
              | inl h ↦ subst (λ (z : Placed). GivesCandidate s.setting.bound.now.query.now z.atom z.row row) h (gives-from s.setting.bound.now.query.now others F x row own.0)
              | inr k ↦ answer.1 t k
            ]),
          ),
          own.1,
        )

-- so it is where it was noted
pub noted-none : (s : Course) (barren : Option ℕ) (taken : List Placed) (plan : List ℕ) (row : List Value) → IfSome barren (GivesNone s) → MatchOption barren ⊥ (λ least. least ≤ length plan) → IsUnderway s taken plan →
    PlanGives s.setting.bound.now.query.now (stored s.setting.bound.now.db.now) taken plan row → ⊥
noted-none s None taken plan row h m u g = m
noted-none s (Some least) taken plan row h m u g = h taken plan row u m g
