-- What holds of a learnt clause after the jump back.
use Rattle.search_trail.specs.Trail.{At, IsConsistent, IsUnassigned, held, AllInRange, AllLow, IsApart}
use Rattle.std.proofs.Common.{take, ◌≡◌, ℕ, zero, suc, ◌<◌, ◌≤◌, ◌-◌, ℤ, List, [], ◌∷◌, ◌++◌, ◌⊎◌, inl, inr, refl, sym, ◌∙◌, ap, subst, arith, length, get_or, Option, ◌+◌}
use Rattle.std.specs.Prelude.{Contains}
use Rattle.std.proofs.lemmas.List.Elements.{Contains-push_cases, Contains-append_left, Contains-push}
use Rattle.std.proofs.lemmas.List.{take-take}
use Rattle.cnf_form.specs.declared.formula.Lit.{Lit}
use Rattle.cnf_form.specs.Literals.{literals, opposite}
use Rattle.cdcl.specs.Settled.{IsSettledClause, AllSettledTo}
use Rattle.cdcl.proofs.SettledLemmas.{new_by_settled}
use Rattle.search_trail.specs.declared.trail.Entry.{Entry}
use Rattle.cdcl.specs.Looks.{IsForced}
use Rattle.search_trail.specs.Analysis.{IsLearntClause}
use Rattle.cdcl.specs.State.{IsSearchState, IsSound}
use Rattle.cdcl.specs.declared.solver.Solver.{Solver}
use Rattle.search_trail.specs.declared.analysis.LearntClause.{LearntClause}
use Rattle.cdcl.specs.Visits.{IsPrefix, IsLearnt, LeavesLevel}
use Rattle.cdcl.specs.Lines.{IsLine, IsNewTo}
use Rattle.cdcl.specs.Looking.{IsWatchful}
use Rattle.cdcl.proofs.TrailLemmas.{settled_by_open}
use Rattle.search_trail.proofs.Works.{At-get_or, At-same, At-take, At-in_take, At-contains, contains_taken}
use Rattle.search_trail.proofs.Places.{apart_by_places, consistent}
use Rattle.cdcl.proofs.States.{held_take, last_is}

pub end_within : (db : List (List Lit)) (t : List Lit) (start : ℕ) (lits : List Lit) (hints : List ℤ) (a : Lit) (end : ℕ)
    → IsApart t → IsLearntClause db t start lits hints a end → end ≤ start
end_within db t start lits hints a zero apart learnt = omega arith
end_within db t start lits hints a (suc k) apart learnt =
    let m = learnt.ends.last k (omega arith) in
    let d = learnt.below m.0 m.1 in
    let b : (d.0 < start) × At t d.0 (opposite m.0) = At-take start t d.0 (opposite m.0) (d.1, d.2) in
    let e : d.0 ≡ k = apart d.0 k (opposite m.0) (opposite m.0) b.1 m.2 refl in
    omega (arith, b.0, e)

-- the cases of a literal of the clause
lits_cases : (db : List (List Lit)) (t : List Lit) (start : ℕ) (lits : List Lit) (hints : List ℤ) (a : Lit) (end : ℕ)
    → (w : IsLearntClause db t start lits hints a end) → (m : Lit) → Contains lits m → Contains w.lower m ⊎ (a ≡ m)
lits_cases db t start lits hints a end w m i =
    elim (Contains-push_cases w.lower (opposite w.uip) m (subst (λ (xs : List Lit). Contains xs m) w.shape i)) [
      | inl j ↦ inl j
      | inr e ↦ inr (w.asserts ∙ e)
    ]

lits_lower : (db : List (List Lit)) (t : List Lit) (start : ℕ) (lits : List Lit) (hints : List ℤ) (a : Lit) (end : ℕ)
    → (w : IsLearntClause db t start lits hints a end) → (m : Lit) → Contains w.lower m → Contains lits m
lits_lower db t start lits hints a end w m i =
    subst (λ (xs : List Lit). Contains xs m) (sym w.shape) (Contains-append_left w.lower (opposite w.uip ∷ []) m i)

pub asserted_inside : (db : List (List Lit)) (t : List Lit) (start : ℕ) (lits : List Lit) (hints : List ℤ) (a : Lit) (end : ℕ)
    → IsLearntClause db t start lits hints a end → Contains lits a
asserted_inside db t start lits hints a end w =
    subst (λ (x : Lit). Contains lits x) (sym w.asserts) (subst (λ (xs : List Lit). Contains xs (opposite w.uip)) (sym w.shape) (Contains-push w.lower (opposite w.uip)))

-- a learnt clause is new beside the clauses that were settled
pub learnt_new : (permanent : ℕ) (db : List (List Lit)) (t : List Lit) (start : ℕ) (lits : List Lit) (hints : List ℤ) (a : Lit) (end : ℕ)
    → IsConsistent t → AllSettledTo permanent (take start t) db → IsLearntClause db t start lits hints a end → IsNewTo permanent db lits
learnt_new permanent db t start lits hints a end k settled w i d f at sub =
    new_by_settled (take start t) d lits a (settled i d f at) sub
    (λ m j n. elim (lits_cases db t start lits hints a end w m j) [ inl l ↦ w.below m l | inr e ↦ absurd (n (sym e)) ])
    (λ c. k w.uip (At-contains t w.place w.uip w.there) (contains_taken start t (opposite w.uip) (subst (λ (x : Lit). Contains (take start t) x) w.asserts c)))

-- the literals are of the trail's variables
pub learnt_range : (db : List (List Lit)) (t : List Lit) (start : ℕ) (lits : List Lit) (hints : List ℤ) (a : Lit) (end n : ℕ)
    → AllInRange t n → IsLearntClause db t start lits hints a end → AllInRange lits n
learnt_range db t start lits hints a end n range w m i = elim (lits_cases db t start lits hints a end w m i) [
  | inl l ↦ range (opposite m) (contains_taken start t (opposite m) (w.below m l))
  | inr e ↦ let r = range w.uip (At-contains t w.place w.uip w.there) in
      let v : m.var ≡ w.uip.var = ap (λ (x : Lit). x.var) (sym e ∙ w.asserts) in omega (arith, r, v)
]

pub learnt_low : (db : List (List Lit)) (t : List Lit) (start : ℕ) (lits : List Lit) (hints : List ℤ) (a : Lit) (end : ℕ)
    → AllLow t → IsLearntClause db t start lits hints a end → AllLow lits
learnt_low db t start lits hints a end low w m i = elim (lits_cases db t start lits hints a end w m i) [
  | inl l ↦ low (opposite m) (contains_taken start t (opposite m) (w.below m l))
  | inr e ↦ let r = low w.uip (At-contains t w.place w.uip w.there) in
      let v : m.var ≡ w.uip.var = ap (λ (x : Lit). x.var) (sym e ∙ w.asserts) in omega (arith, r, v)
]

-- The trail `u` is what is left of `t` after a jump back.
pub record IsLeft (t u : List Lit) (start end : ℕ) : Type 0 where
  pub within : (q : ℕ) (l : Lit) → At u q l → (q < start) × At t q l
  pub kept : take end u ≡ take end t

free_after : (db : List (List Lit)) (t u : List Lit) (start : ℕ) (lits : List Lit) (hints : List ℤ) (a : Lit) (end : ℕ)
    → IsApart t → IsLeft t u start end → IsLearntClause db t start lits hints a end → IsUnassigned u a.var
free_after db t u start lits hints a end apart left w h =
    let b = left.within h.1.0 h.0 (h.1.1, h.1.2) in
    let v : h.0.var ≡ w.uip.var = h.2 ∙ ap (λ (x : Lit). x.var) w.asserts in
    let e : h.1.0 ≡ w.place = apart h.1.0 w.place h.0 w.uip b.1 w.there v in
    omega (arith, b.0, e, w.after)

pub forced_after : (db : List (List Lit)) (t u : List Lit) (start : ℕ) (lits : List Lit) (hints : List ℤ) (a : Lit) (end : ℕ)
    → IsApart t → IsLeft t u start end → IsLearntClause db t start lits hints a end → IsForced u lits a
forced_after db t u start lits hints a end apart left w = record {
  inside = asserted_inside db t start lits hints a end w;
  free = free_after db t u start lits hints a end apart left w;
  others = λ m i n. elim (lits_cases db t start lits hints a end w m i) [
    | inl l ↦ contains_taken end u (opposite m) (subst (λ (xs : List Lit). Contains xs (opposite m)) (sym left.kept) (w.ends.all m l))
    | inr e ↦ absurd (n (sym e))
  ];
}

open_taken : (s : ℕ) (u : List Lit) (v : ℕ) → IsUnassigned u v → IsUnassigned (take s u) v
open_taken s u v o h = o (h.0, contains_taken s u h.0 h.1, h.2)

pub settled_after : (db : List (List Lit)) (t u : List Lit) (start : ℕ) (lits : List Lit) (hints : List ℤ) (a : Lit) (end s : ℕ)
    → IsApart t → IsLeft t u start end → IsLearntClause db t start lits hints a end → s < end → IsSettledClause (take s u) lits
settled_after db t u start lits hints a zero s apart left w h = absurd (omega arith)
settled_after db t u start lits hints a (suc k) s apart left w h =
    let m = w.ends.last k (omega arith) in
    let within = end_within db t start lits hints a (suc k) apart w in
    settled_by_open (take s u) lits a m.0
    (asserted_inside db t start lits hints a (suc k) w)
    (lits_lower db t start lits hints a (suc k) w m.0 m.1)
    (λ e.
    let v : w.uip.var ≡ (opposite m.0).var = ap (λ (x : Lit). x.var) (sym w.asserts ∙ e) in
    let q : w.place ≡ k = apart w.place k w.uip (opposite m.0) w.there m.2 v in
    omega (arith, q, w.after, within))
    (open_taken s u a.var (free_after db t u start lits hints a (suc k) apart left w))
    (λ o.
    let b : (o.1.0 < s) × At u o.1.0 o.0 = At-take s u o.1.0 o.0 (o.1.1, o.1.2) in
    let x : At t o.1.0 o.0 = (left.within o.1.0 o.0 b.1).1 in
    let q : o.1.0 ≡ k = apart o.1.0 k o.0 (opposite m.0) x m.2 o.2 in
    omega (arith, q, b.0, h))

pub left_by : (trail0 trail1 trail2 : List Entry) (start s end : ℕ) → s ≡ start → trail1 ≡ take s trail0 → IsPrefix trail2 trail1
    → take end (held trail2) ≡ take end (held trail1) → end ≤ start → IsLeft (held trail0) (held trail2) start end
left_by trail0 trail1 trail2 start s end same e p kept h =
    let f : trail1 ≡ take start trail0 = e ∙ ap (λ (n : ℕ). take n trail0) same in
    let one : held trail1 ≡ take start (held trail0) = ap held f ∙ held_take start trail0 in
    let two : held trail2 ≡ take p.0 (held trail1) = ap held p.1 ∙ held_take p.0 trail1 in
    record {
      within = λ q l a.
          let b = At-take p.0 (held trail1) q l (subst (λ (xs : List Lit). At xs q l) two a) in
          At-take start (held trail0) q l (subst (λ (xs : List Lit). At xs q l) one b.1);
      kept = kept ∙ ap (λ (xs : List Lit). take end xs) one ∙ take-take end start (held trail0) h;
    }

-- all that is known of a learnt clause after the jump back
pub record Facts (permanent : ℕ) (db : List (List Lit)) (n : ℕ) (t : List Lit) (end : ℕ) (lits : List Lit) (hints : List ℤ) (a : Lit) : Type 0 where
  pub forced : IsForced t lits a
  pub settled : (s : ℕ) → s < end → IsSettledClause (take s t) lits
  pub line : IsLine permanent db n lits hints

pub facts : (permanent : ℕ) (db : List (List Lit)) (trail0 trail1 trail2 : List Entry) (places : List (Option ℕ)) (starts0 starts1 : List ℕ) (start s end n : ℕ)
    (lits : List Lit) (hints : List ℤ) (a : Lit)
    → IsSearchState db trail0 places starts0 → ((x : ℕ) → Contains starts0 x → AllSettledTo permanent (take x (held trail0)) db) → starts0 ≡ starts1 ++ s ∷ [] → n ≡ length starts0 → start ≡ get_or starts0 (n - 1) start
    → trail1 ≡ take s trail0 → IsPrefix trail2 trail1 → take end (held trail2) ≡ take end (held trail1)
    → IsLearntClause db (held trail0) start lits hints a end → Facts permanent db (length places) (held trail2) end lits hints a
facts permanent db trail0 trail1 trail2 places starts0 starts1 start s end n lits hints a st ended split len at cut p kept w =
    let same : start ≡ s = last_is starts0 starts1 s n start split len at in
    let apart = apart_by_places (held trail0) places st.places_are in
    let left : IsLeft (held trail0) (held trail2) start end =
    left_by trail0 trail1 trail2 start s end (sym same) cut p kept (end_within db (held trail0) start lits hints a end apart w) in
    let last : Contains starts0 start =
    subst (λ (ss : List ℕ). Contains ss start) (sym split) (subst (λ (x : ℕ). Contains (starts1 ++ s ∷ []) x) (sym same) (Contains-push starts1 s)) in
    record {
      forced = forced_after db (held trail0) (held trail2) start lits hints a end apart left w;
      settled = λ x h. settled_after db (held trail0) (held trail2) start lits hints a end x apart left w h;
      line = record {
        passes = w.passes;
        fresh = learnt_new permanent db (held trail0) start lits hints a end (consistent (held trail0) places st.places_are) (ended start last) w;
        once = w.once;
        some = (a, asserted_inside db (held trail0) start lits hints a end w);
        range = learnt_range db (held trail0) start lits hints a end (length places) st.held_in w;
        low = learnt_low db (held trail0) start lits hints a end st.held_low w;
      };
    }

pub learn_facts : (s0 s1 s2 : Solver) (learnt : LearntClause) → IsWatchful s0 → IsLearnt s0 learnt → LeavesLevel s0 s1 → IsPrefix s2.trail.items s1.trail.items
    → take learnt.end (held s2.trail.items) ≡ take learnt.end (held s1.trail.items)
    → Facts s0.permanent (literals s0.clauses.items) (length s0.places.items) (held s2.trail.items) learnt.end learnt.lits.items learnt.hints.items learnt.asserted
learn_facts s0 s1 s2 learnt watchful analyzed left p kept =
    facts s0.permanent (literals s0.clauses.items) s0.trail.items s1.trail.items s2.trail.items s0.places.items s0.level_starts.items s1.level_starts.items
    analyzed.0 left.0 learnt.end (length s0.level_starts.items) learnt.lits.items learnt.hints.items learnt.asserted
    watchful.sound watchful.watching.ended left.1 refl (At-read s0.level_starts.items (length s0.level_starts.items - 1) analyzed.0 analyzed.1) left.2 p kept analyzed.2
  where
    At-read : (xs : List ℕ) (k x : ℕ) → At xs k x → x ≡ get_or xs k x
    At-read xs k x a = At-same xs k x (get_or xs k x) a (At-get_or xs k x a.0)

-- the deepest of the other literals stays denied at its place
pub learnt_last : (s0 s1 s2 : Solver) (learnt : LearntClause) → IsSound s0 → IsLearnt s0 learnt → LeavesLevel s0 s1 → IsPrefix s2.trail.items s1.trail.items
    → take learnt.end (held s2.trail.items) ≡ take learnt.end (held s1.trail.items)
    → (k : ℕ) → learnt.end ≡ k + 1 → (m : Lit) × Contains learnt.lits.items m × At (held s2.trail.items) k (opposite m)
learnt_last s0 s1 s2 learnt sound analyzed left p kept k e =
    let w = analyzed.2 in
    let t = held s0.trail.items in
    let m = w.ends.last k e in
    let inside = lits_lower (literals s0.clauses.items) t analyzed.0 learnt.lits.items learnt.hints.items learnt.asserted learnt.end w m.0 m.1 in
    let apart = apart_by_places t s0.places.items sound.places_are in
    let d = w.below m.0 m.1 in
    let b : (d.0 < analyzed.0) × At t d.0 (opposite m.0) = At-take analyzed.0 t d.0 (opposite m.0) (d.1, d.2) in
    let q : d.0 ≡ k = apart d.0 k (opposite m.0) (opposite m.0) b.1 m.2 refl in
    let f = last_is s0.level_starts.items s1.level_starts.items left.0 (length s0.level_starts.items) analyzed.0 left.1 refl (At-read s0.level_starts.items (length s0.level_starts.items - 1) analyzed.0 analyzed.1) in
    let cut : held s1.trail.items ≡ take left.0 t = ap held left.2 ∙ held_take left.0 s0.trail.items in
    let in_one : At (held s1.trail.items) k (opposite m.0) =
    subst (λ (xs : List Lit). At xs k (opposite m.0)) (sym cut) (At-in_take left.0 t k (opposite m.0) (omega (arith, b.0, q, f)) m.2) in
    let in_kept : At (take learnt.end (held s2.trail.items)) k (opposite m.0) =
    subst (λ (xs : List Lit). At xs k (opposite m.0)) (sym kept) (At-in_take learnt.end (held s1.trail.items) k (opposite m.0) (omega (arith, e)) in_one) in
    (m.0, inside, (At-take learnt.end (held s2.trail.items) k (opposite m.0) in_kept).1)
  where
    At-read : (xs : List ℕ) (k x : ℕ) → At xs k x → x ≡ get_or xs k x
    At-read xs k x a = At-same xs k x (get_or xs k x) a (At-get_or xs k x a.0)
