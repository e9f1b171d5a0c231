use Rattle.std.proofs.Common.{ℕ, List, [], ◌∷◌, true, false, eqb, ◌≡◌, ◌+◌, ◌-◌, ◌<◌, ◌⊎◌, inl, inr, ◌∙◌, Some, suc, length, get_or, take, refl, sym, subst, arith, Contains, slice_get}
use Rattle.std.proofs.lemmas.Bool.Decides.{nat_tests}
use Rattle.std.proofs.lemmas.Option.{slice_get_within}
use Rattle.std.proofs.lemmas.List.{take_all, take_more}
use Rattle.std.proofs.lemmas.List.Elements.{Contains-get_or}
use Rattle.row_lists.specs.Clauses.{HasNumber}
use Rattle.row_lists.specs.Spans.{at, variables_of_spans}
use Rattle.list_search.specs.Classing.{Marks}
use Rattle.row_lists.proofs.Spans.{based-whole}
use Rattle.row_lists.proofs.Spans.{has_number}
use Rattle.list_search.proofs.Marking.{marks-none, marks-more}
use Rattle.list_search.proofs.classing.mark_rows.Goals as goal

empty-is : (xs : List ℕ) → eqb (length xs) 0 ≡ true → xs ≡ []
empty-is [] e = refl
empty-is (x ∷ xs) e = let h : suc (length xs) ≡ 0 = grind (arith, nat_tests) in absurd (omega arith)

some-is : (xs : List ℕ) → eqb (length xs) 0 ≡ false → 0 < length xs
some-is [] e = cc
some-is (x ∷ xs) e = omega arith

pub returns-then-is_empty : goal.returns-then-is_empty
returns-then-is_empty c =
    let e : c.args.places.now ≡ [] = empty-is c.args.places.now (sym c.is_empty.ensures ∙ c.if-is_empty.true) in
    subst (λ ps. Marks (variables_of_spans c.args.numbered.now.spans) c.args.columns.now c.args.rows.now c.args.slot ps c.args.classes.now c.args.classes.now) (sym e)
    (marks-none (variables_of_spans c.args.numbered.now.spans) c.args.columns.now c.args.rows.now c.args.slot c.args.classes.now)

pub loop-place-init : goal.loop-place-init
loop-place-init c = record {
  first = Contains-get_or c.args.places.now 0 0 (some-is c.args.places.now (sym c.is_empty.ensures ∙ c.if-is_empty.false));
  marks = marks-none (variables_of_spans c.args.numbered.now.spans) c.args.columns.now c.args.rows.now c.args.slot c.args.classes.now;
}

pub first_alike-first-requires-clause-first : goal.first_alike-first-requires-clause-first
first_alike-first-requires-clause-first c = c.requires.there c.loop-place.first c.loop-place.invariant.first

pub first_alike-first-requires-clause-place : goal.first_alike-first-requires-clause-place
first_alike-first-requires-clause-place c = c.requires.there (get_or c.args.places.now c.loop-place.place-index 0) (Contains-get_or c.args.places.now c.loop-place.place-index 0 (omega arith))

pub number-at-requires : goal.number-at-requires
number-at-requires c = c.requires.covered (get_or c.args.places.now c.loop-place.place-index 0) (Contains-get_or c.args.places.now c.loop-place.place-index 0 (omega arith))

one_of : (P : ℕ → Type 0) (r a b : ℕ) → (r ≡ a) ⊎ (r ≡ b) → P a → P b → P r
one_of P r a b (inl e) p q = subst P (sym e) p
one_of P r a b (inr e) p q = subst P (sym e) q

pub number-requires : goal.number-requires
number-requires c =
    let place = get_or c.args.places.now c.loop-place.place-index 0 in
    c.requires.covered c.first_alike-first.result
    (one_of (Contains c.args.places.now) c.first_alike-first.result c.loop-place.first place c.first_alike-first.ensures.one c.loop-place.invariant.first (Contains-get_or c.args.places.now c.loop-place.place-index 0 (omega arith)))

pub overflow_sub-at : goal.overflow_sub-at
overflow_sub-at c =
    let place = get_or c.args.places.now c.loop-place.place-index 0 in
    let s = c.requires.covered place (Contains-get_or c.args.places.now c.loop-place.place-index 0 (omega arith)) in
    let e = c.number-at.ensures s.0 s.1 s.2 in
    omega (arith, e)

pub bounds-classes-at : goal.bounds-classes-at
bounds-classes-at c =
    let place = get_or c.args.places.now c.loop-place.place-index 0 in
    let s = c.requires.covered place (Contains-get_or c.args.places.now c.loop-place.place-index 0 (omega arith)) in
    let e = c.number-at.ensures s.0 s.1 s.2 in
    let l = slice_get_within (variables_of_spans c.args.numbered.now.spans) (s.0.base + (place - s.0.start)) (at c.args.slot place) (has_number c.args.numbered.now.spans (based-whole 0 c.args.numbered.now.vars c.args.numbered.now.spans c.args.numbered.now.kept.based) s.0 s.1 (at c.args.slot place) s.2) in
    let size = c.requires.size in
    let same = c.loop-place.invariant.marks.size in
    omega (arith, e, l, size, same)

pub loop-place-preserved : goal.loop-place-preserved
loop-place-preserved c =
    let places = c.args.places.now in
    let i = c.loop-place.place-index in
    let place = get_or places i 0 in
    let there = Contains-get_or places i 0 (omega arith) in
    let vars = variables_of_spans c.args.numbered.now.spans in
    let r = c.first_alike-first.result in
    let mr : Contains places r = one_of (Contains places) r c.loop-place.first place c.first_alike-first.ensures.one c.loop-place.invariant.first there in
    let s = c.requires.covered place there in
    let e = c.number-at.ensures s.0 s.1 s.2 in
    let k : s.0.base + (place - s.0.start) ≡ c.number-at.result - 1 = omega (arith, e) in
    let hk = has_number c.args.numbered.now.spans (based-whole 0 c.args.numbered.now.vars c.args.numbered.now.spans c.args.numbered.now.kept.based) s.0 s.1 (at c.args.slot place) s.2 in
    let l = slice_get_within vars (s.0.base + (place - s.0.start)) (at c.args.slot place) hk in
    let size = c.requires.size in
    let same = c.loop-place.invariant.marks.size in
    let t = c.requires.covered r mr in
    let f = c.number.ensures t.0 t.1 t.2 in
    record {
      first = mr;
      marks = subst (λ ps. Marks vars c.args.columns.now c.args.rows.now c.args.slot ps c.args.classes.now (Rattle.std.proofs.Common.set c.loop-place.classes (c.number-at.result - 1) (Some c.number.result))) (sym (take_more places i 0 (omega arith)))
          (marks-more vars c.args.columns.now c.args.rows.now c.args.slot c.args.classes.now (take i places) c.loop-place.classes place r (c.number-at.result - 1) c.number.result c.loop-place.invariant.marks
          (subst (λ z. slice_get vars z ≡ Some (at c.args.slot place)) k hk) (omega (arith, e, l, size, same))
          (subst (λ z. HasNumber vars z (at c.args.slot r)) (sym f) (has_number c.args.numbered.now.spans (based-whole 0 c.args.numbered.now.vars c.args.numbered.now.spans c.args.numbered.now.kept.based) t.0 t.1 (at c.args.slot r) t.2))
          c.first_alike-first.ensures.alike);
    }

pub returns : goal.returns
returns c = subst (λ ps. Marks (variables_of_spans c.args.numbered.now.spans) c.args.columns.now c.args.rows.now c.args.slot ps c.args.classes.now c.loop-place.classes) (take_all c.loop-place.place-index c.args.places.now (omega arith)) c.loop-place.invariant.marks
