-- What is found out of the clauses of lists says whether every repair keeps one whole.
use Rattle.std.proofs.Common.{◌≡◌, ℕ, suc, ◌<◌, ◌+◌, inl, inr, List, length, map, sym, ap, subst, arith, Contains, Bool}
use Rattle.std.proofs.lemmas.List.Elements.{Contains-append_cases}
use Rattle.cqa_value.proofs.Words.{Contains-from_map, all_zip_right, in_range}
use Rattle.cqa_model.specs.declared.query.RowId.{RowId}
use Rattle.cqa_model.specs.Database.{Table, IsDatabase}
use Rattle.cnf_form.specs.declared.formula.Lit.{Lit}
use Rattle.cnf_form.specs.Literals.{SatisfiesAll}
use Rattle.flat_formula.specs.Looks.{AreAllBelow}
use Rattle.flat_formula.specs.declared.guess.Found.{Found}
use Rattle.flat_formula.specs.declared.guess.Found.TheVariants.{Satisfiable, Unsatisfiable, Unclear}
use Rattle.flat_formula.specs.Findings.{FoundIs}
use Rattle.row_lists.specs.declared.span.Span.{Span}
use Rattle.row_lists.specs.Clauses.{positive, negative}
use Rattle.row_lists.specs.Lists.{AreStoredLists, IsForced}
use Rattle.row_lists.specs.Formulas.{IsFrame, AreWithin, AreNumbersOf, IsFormulaOf}
use Rattle.row_lists.specs.Spans.{AreBasedTo, numbers_in, variables_of_spans, formula_of_spans}
use Rattle.row_lists.specs.Encodings.{AreListSpansTo}
use Rattle.row_lists.proofs.Blocks.{are_list_blocks, are_list_variables}
use Rattle.row_lists.proofs.Rows.{number_below}
use Rattle.row_lists.proofs.Formulas.{lists_decide}
use Rattle.row_lists.proofs.Spans.{based-below, variables-length}
use Rattle.list_search.specs.Finding.{FoundSays}
use Rattle.list_search.specs.Looking.{AreClausesOf}

-- ---- the variables of the clauses

pub all_below : (frame : List ℕ) (spans : List Span) (m : ℕ) (lists : List (List RowId)) (cs : List (List Lit)) → AreBasedTo 0 spans m → AreClausesOf frame spans lists cs → AreAllBelow (m + 1) cs
all_below frame spans m lists cs based h c mc l ml = elim (Contains-append_cases (map (map positive) (map numbers_in spans)) (map (map negative) h.numbers) c (subst (λ ds. Contains ds c) h.is mc)) [
  | inl b ↦ of_block (Contains-from_map (map positive) (map numbers_in spans) c b)
  | inr w ↦ of_list (Contains-from_map (map negative) h.numbers c w)
]
  where
    of_block : ((ns : List ℕ) × Contains (map numbers_in spans) ns × (map positive ns ≡ c)) → l.var < m + 1
    of_block (ns, i, e) =
        let s = Contains-from_map numbers_in spans ns i in
        let n = Contains-from_map positive ns l (subst (λ d. Contains d l) (sym e) ml) in
        let r = in_range (suc s.0.base) s.0.count n.0 (subst (λ ks. Contains ks n.0) (sym s.2) n.1) in
        let high = r.1 in
        let b = based-below 0 m spans based s.0 s.1 in
        let v : l.var ≡ n.0 = ap (λ (k : Lit). k.var) (sym n.2) in
        omega (arith, high, b, v)

    of_list : ((ns : List ℕ) × Contains h.numbers ns × (map negative ns ≡ c)) → l.var < m + 1
    of_list (ns, i, e) =
        let z = all_zip_right (AreNumbersOf frame (variables_of_spans spans)) lists h.numbers ns h.numbered i in
        let n = Contains-from_map negative ns l (subst (λ d. Contains d l) (sym e) ml) in
        let x = ((z.2.exactly n.0).0 n.1).2 in
        let b = number_below (variables_of_spans spans) n.0 x.0 x.1 in
        let high = b.1 in
        let long = variables-length 0 m spans based in
        let v : l.var ≡ n.0 = ap (λ (k : Lit). k.var) (sym n.2) in
        omega (arith, high, long, v)

-- ---- the lists

module _ (db : List Table) (frame : List ℕ) (lists : List (List RowId)) (m : ℕ) (spans : List Span) (h : AreListSpansTo db frame lists (length frame) m spans)
    (d : IsDatabase db) (f : IsFrame db frame) (within : AreWithin frame lists) (st : AreStoredLists db lists) (cs : List (List Lit)) (c : AreClausesOf frame spans lists cs) where
  of_lists : IsFormulaOf db frame lists (formula_of_spans spans c.numbers)
  of_lists = record { variables = are_list_variables db frame lists m spans h f; blocks = are_list_blocks db frame lists m spans h f; witnesses = c.numbered }

  avoided : ((v : ℕ → Bool) × SatisfiesAll v cs) → IsForced db lists → ⊥
  avoided s forced = (lists_decide db frame lists (formula_of_spans spans c.numbers) d f within st of_lists).0 forced s.0 (subst (SatisfiesAll s.0) c.is s.1)

  forced : ((v : ℕ → Bool) → SatisfiesAll v cs → ⊥) → IsForced db lists
  forced none = (lists_decide db frame lists (formula_of_spans spans c.numbers) d f within st of_lists).1 (λ v sat. none v (subst (SatisfiesAll v) (sym c.is) sat))

  -- what is found of them says it
  pub found_says : (g : Found) → FoundIs cs g → FoundSays (IsForced db lists) g
  found_says Satisfiable s = avoided s
  found_says Unsatisfiable s = forced s
  found_says Unclear s = tt
