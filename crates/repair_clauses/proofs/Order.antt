-- A row has one formula, and its clauses rise.
use Rattle.std.proofs.Common.{◌≡◌, ℕ, ◌<◌, inl, inr, List, length, get_or, map, refl, sym, ◌∙◌, ap, subst, arith, Less}
use Rattle.std.specs.Ordering.{nat_cmp}
use Rattle.std.specs.List.Sorted.{IsStrictlySortedBy}
use Rattle.std.proofs.lemmas.List.Elements.{Contains-append_cases}
use Rattle.std.proofs.lemmas.Option.{get_or_from_slice_get}
use Rattle.cqa_value.specs.declared.value.Value.{Value}
use Rattle.cqa_value.proofs.Words.{Contains-from_map}
use Rattle.cqa_model.specs.declared.query.Query.{Query}
use Rattle.cqa_model.specs.Database.{Table}
use Rattle.row_lists.specs.Clauses.{Variable, variable_cmp, HasNumber, AreAllLists, Formula, positive, negative}
use Rattle.repair_clauses.specs.Clauses.{AreBlockNumbers, IsOfWitness}
use Rattle.repair_clauses.specs.Laws.{OneFormula, ClausesRise}
use Rattle.row_lists.proofs.Numbers.{place_of}
use Rattle.row_lists.proofs.Rows.{variable_total}
use Rattle.row_lists.proofs.Order.{one_list, slot_less, numbers_rise, rises_of}
use Rattle.row_lists.proofs.Rows.{number_below}
use Rattle.join_access.proofs.Sorted.{one_sorted, sorted-from}

pub one_formula : OneFormula
one_formula db q row f g h k = whole variables (one_list (AreBlockNumbers q db g.variables) f.blocks g.blocks (subst (λ xs. AreAllLists (AreBlockNumbers q db xs) f.blocks) variables h.blocks) k.blocks)
    (one_list (IsOfWitness q db row g.variables) f.witnesses g.witnesses (subst (λ xs. AreAllLists (IsOfWitness q db row xs) f.witnesses) variables h.witnesses) k.witnesses)
  where
    variables : f.variables ≡ g.variables
    variables = one_sorted variable_cmp variable_total f.variables g.variables h.variables.in_order k.variables.in_order
        (λ x m. (k.variables.exactly x).1 ((h.variables.exactly x).0 m)) (λ x m. (h.variables.exactly x).1 ((k.variables.exactly x).0 m))

    whole : f.variables ≡ g.variables → f.blocks ≡ g.blocks → f.witnesses ≡ g.witnesses → f ≡ g
    whole a b c =
        ap (λ (xs : List Variable). let r : Formula = record { variables = xs; blocks = f.blocks; witnesses = f.witnesses } in r) a
        ∙ (ap (λ (xs : List (List ℕ)). let r : Formula = record { variables = g.variables; blocks = xs; witnesses = f.witnesses } in r) b
        ∙ ap (λ (xs : List (List ℕ)). let r : Formula = record { variables = g.variables; blocks = g.blocks; witnesses = xs } in r) c)

module _ (q : Query) (db : List Table) (row : List Value) (variables : List Variable) (s : IsStrictlySortedBy variable_cmp variables) where
  pub witness_rises : (numbers : List ℕ) → IsOfWitness q db row variables numbers → IsStrictlySortedBy nat_cmp numbers
  witness_rises numbers w = sorted-from nat_cmp numbers 0 (λ i j l lj. pair i j l (subst (λ k. j < k) w.size lj))
    where
      pair : (i j : ℕ) → i < j → j < length q.atoms → nat_cmp (get_or numbers i 0) (get_or numbers j 0) ≡ Less
      pair i j l lj =
          let x = w.each i (omega (arith, l, lj)) in
          let y = w.each j lj in
          let lt : x.0.slot < y.0.slot = subst (λ k. x.0.slot < k) (sym y.2) (subst (λ k. k < j) (sym x.2) l) in
          let r = numbers_rise variables s (get_or numbers i 0) (get_or numbers j 0) x.0 y.0 x.1 y.1 (slot_less x.0 y.0 lt) in
          grind (arith, r)

pub clauses_rise : ClausesRise
clauses_rise db q row f h c m = elim (Contains-append_cases (map (map positive) f.blocks) (map (map negative) f.witnesses) c m) [
  | inl b ↦ let p = Contains-from_map (map positive) f.blocks c b in
      let x = (h.blocks.exactly p.0).0 p.1 in
      rises_of (length f.variables) positive (λ n. refl) p.0 c p.2 x.2.rises (λ n mn. let y = (x.2.exactly n).0 mn in number_below f.variables n y.0 y.1)
  | inr b ↦ let p = Contains-from_map (map negative) f.witnesses c b in
      let w = (h.witnesses.exactly p.0).0 p.1 in
      rises_of (length f.variables) negative (λ n. refl) p.0 c p.2 (witness_rises q db row f.variables h.variables.in_order p.0 w)
      (λ n mn. let at = place_of p.0 n mn in
      let y = w.each at.0 (subst (λ k. at.0 < k) w.size at.1) in
      number_below f.variables n y.0 (subst (λ k. HasNumber f.variables k y.0) (get_or_from_slice_get p.0 at.0 n 0 at.2) y.1))
]
