-- The formula of a group: its clauses rise, so that the solver takes them, and what an outcome says of the group.
use Rattle.std.proofs.Common.{◌≡◌, ℕ, zero, suc, ◌<◌, ◌≤◌, ◌+◌, ◌∷◌, ◌++◌, inl, inr, List, [], length, length-append, get_or, map, take, Contains, Some, slice_get, refl, sym, ◌∙◌, ap, subst, arith, Bool, Less, Result, Ok, nat_cmp}
use Rattle.std.specs.List.{AllZip, range_with_len, sum}
use Rattle.std.specs.List.Sorted.{IsStrictlySortedBy}
use Rattle.std.proofs.lemmas.List.{append_assoc, length-map, map_push, take_more}
use Rattle.std.proofs.lemmas.List.Elements.{Contains-append_cases}
use Rattle.std.proofs.lemmas.Option.{get_or_from_slice_get, slice_get_within}
use Rattle.cqa_value.specs.declared.memory.NoMemory.{NoMemory}
use Rattle.cqa_value.proofs.Words.{Contains-from_map, in_range, mem-cases, mem-nil, nat_cmp_less, member_by_recursion, sorted_cons, all_zip_push}
use Rattle.cnf_form.specs.declared.formula.Lit.{Lit}
use Rattle.cnf_form.specs.declared.formula.Cnf.{Cnf}
use Rattle.cnf_form.specs.declared.log.Log.{Log}
use Rattle.cnf_form.specs.Literals.{AreVarsInRange, literals, negative, positive}
use Rattle.cnf_form.specs.Logs.{Refutes, AreConsecutive}
use Rattle.cnf_form.specs.Spent.{IsSpentLog, NoVarTwice}
use Rattle.cnf_form.proofs.Sound.{refutation_sound}
use Rattle.cdcl.specs.declared.outcome.Outcome.{Outcome}
use Rattle.cdcl.specs.declared.outcome.Outcome.TheVariants.{Sat, Unsat, Spent}
use Rattle.cdcl.specs.Outcomes.{IsModel, IsOnce, OutcomeIs}
use Rattle.block_choices.specs.declared.row.BlockRow.{BlockRow}
use Rattle.block_lists.specs.declared.proving.Proved.{Proved}
use Rattle.block_lists.specs.declared.judging.Judged.{Judged}
use Rattle.block_lists.specs.declared.proving.Proved.TheVariants as proved
use Rattle.block_choices.specs.Choices.{AreThere, IsAvoidedBy}
use Rattle.block_lists.specs.Groups.{IsGroup}
use Rattle.block_lists.specs.Formulas.{AreNumbersIn, IsGroupFormula, blocks_from, number}
use Rattle.block_lists.specs.Numbers.{AddsLists, AreNumbersOver, IsListClause}
use Rattle.block_lists.specs.Judging.{HasEachValue, IsJudged, IsProved, Shows, Tells}
use Rattle.block_lists.specs.Laws.{GroupFormulaIsWritable}
use Rattle.block_lists.proofs.Bases.{no-more-blocks, sum-cons}
use Rattle.block_lists.proofs.Deciding.{group_decides, picks_avoid, zip-left}

-- ---- clauses, list by list

lists_more : (bases : List ℕ) (lists : List (List BlockRow)) (old mid new : List (List Lit)) (names : List BlockRow) (lits : List Lit) → AddsLists bases lists old mid → IsListClause bases names lits →
    new ≡ mid ++ lits ∷ [] → AddsLists bases (lists ++ names ∷ []) old new
lists_more bases lists old mid new names lits h c e = record {
  numbers = h.numbers ++ c.0 ∷ [];
  numbered = all_zip_push (AreNumbersOver bases) lists h.numbers names c.0 h.numbered c.1;
  is = e ∙ (ap (λ ls. ls ++ lits ∷ []) h.is ∙ (append_assoc old (map (map negative) h.numbers) (lits ∷ [])
      ∙ (ap (λ l. old ++ (map (map negative) h.numbers ++ l ∷ [])) c.2 ∙ ap (λ ls. old ++ ls) (sym (map_push (map negative) h.numbers c.0)))));
}

-- of the lists one more
pub lists_next : (bases : List ℕ) (lists : List (List BlockRow)) (i : ℕ) (names : List BlockRow) (old mid new : List (List Lit)) (lits : List Lit) → slice_get lists i ≡ Some names → AddsLists bases (take i lists) old mid →
    IsListClause bases names lits → new ≡ mid ++ lits ∷ [] → AddsLists bases (take (i + 1) lists) old new
lists_next bases lists i names old mid new lits is h c e =
    let cut : take (i + 1) lists ≡ take i lists ++ names ∷ [] = take_more lists i names (slice_get_within lists i names is) ∙ ap (λ x. take i lists ++ x ∷ []) (get_or_from_slice_get lists i names names is) in
    subst (λ ls. AddsLists bases ls old new) (sym cut) (lists_more bases (take i lists) old mid new names lits h c e)

-- ---- clauses rise

from_less : (x y : ℕ) → nat_cmp x y ≡ Less → x < y
from_less x y e = grind (arith, e)

-- no variable stands twice in literals of numbers that rise
once_of : (lit : ℕ → Lit) → ((n : ℕ) → (lit n).var ≡ n) → (numbers : List ℕ) → IsStrictlySortedBy nat_cmp numbers → NoVarTwice (map lit numbers)
unfolding IsStrictlySortedBy
once_of lit is [] s = tt
once_of lit is (n ∷ numbers) s = (
  λ h.
      let p = Contains-from_map lit numbers h.0 h.1 in
      let less = from_less n p.0 (member_by_recursion (λ y. nat_cmp n y ≡ Less) numbers s.0 p.0 p.1) in
      let e : h.0.var ≡ p.0 = ap (λ (l : Lit). l.var) (sym p.2) ∙ is p.0 in
      let f = h.2 in
      let g = is n in
      absurd (omega (arith, less, e, f, g)),
  once_of lit is numbers s.1,
)

range_rises : (a n : ℕ) → IsStrictlySortedBy nat_cmp (range_with_len a n)
unfolding IsStrictlySortedBy
range_rises a zero = tt
range_rises a (suc n) = sorted_cons nat_cmp a (range_with_len (a + 1) n) (λ y m. let l = (in_range (a + 1) n y m).0 in nat_cmp_less a y (omega (arith, l))) (range_rises (a + 1) n)

-- the numbers of a block rise, and are among those of all
block_in : (n : ℕ) (sizes : List ℕ) (numbers : List ℕ) → Contains (blocks_from n sizes) numbers → IsStrictlySortedBy nat_cmp numbers × ((k : ℕ) → Contains numbers k → (n < k) × (k ≤ n + sum sizes))
block_in n [] numbers m = absurd (mem-nil numbers m)
block_in n (s ∷ sizes) numbers m = elim (mem-cases numbers (range_with_len (suc n) s) (blocks_from (n + s) sizes) m) [
  | inl e ↦ subst (λ ns. IsStrictlySortedBy nat_cmp ns × ((k : ℕ) → Contains ns k → (n < k) × (k ≤ n + sum (s ∷ sizes)))) e (
    range_rises (suc n) s,
    λ k i.
        let p = in_range (suc n) s k i in
        let low = p.0 in
        let high = p.1 in
        let total = sum-cons s sizes in
        (omega (arith, low), omega (arith, high, total)),
  )
  | inr i ↦ (let h = block_in (n + s) sizes numbers i in (
    h.0,
    λ k j.
        let p = h.1 k j in
        let low = p.0 in
        let high = p.1 in
        let total = sum-cons s sizes in
        (omega (arith, low), omega (arith, high, total)),
  ))
]

number_in : (n : ℕ) (sizes : List ℕ) (b r : ℕ) → r < get_or sizes b 0 → (n < number n sizes b r) × (number n sizes b r ≤ n + sum sizes)
number_in n [] b r l = absurd (omega (arith, l))
number_in n (s ∷ sizes) zero r l = let total = sum-cons s sizes in (omega arith, omega (arith, l, total))
number_in n (s ∷ sizes) (suc b) r l =
    let h = number_in (n + s) sizes b r l in
    let low = h.0 in
    let high = h.1 in
    let total = sum-cons s sizes in
    (omega (arith, low), omega (arith, high, total))

module _ (sizes : List ℕ) (lists : List (List BlockRow)) (there : AreThere sizes lists) (cnf : Cnf) (f : IsGroupFormula sizes lists cnf) where
  -- a clause is made of numbers that rise, among those of all rows
  abbrev IsMade : List Lit → Type 0
  IsMade c = (lit : ℕ → Lit) × ((n : ℕ) → (lit n).var ≡ n) × (numbers : List ℕ) × (map lit numbers ≡ c) × IsStrictlySortedBy nat_cmp numbers × ((k : ℕ) → Contains numbers k → (1 ≤ k) × (k ≤ sum sizes))

  made : (c : List Lit) → Contains (literals cnf.clauses) c → IsMade c
  made c m = elim (Contains-append_cases (map (map positive) (blocks_from 0 sizes)) (map (map negative) f.numbers) c (subst (λ cs. Contains cs c) f.clauses m)) [
    | inl i ↦ block (Contains-from_map (map positive) (blocks_from 0 sizes) c i)
    | inr i ↦ list (Contains-from_map (map negative) f.numbers c i)
  ]
    where
      block : ((ns : List ℕ) × Contains (blocks_from 0 sizes) ns × (map positive ns ≡ c)) → IsMade c
      block (ns, i, e) = let h = block_in 0 sizes ns i in (positive, λ n. refl, ns, e, h.0, λ k j. let p = h.1 k j in let low = p.0 in let high = p.1 in (omega (arith, low), omega (arith, high)))

      list : ((ns : List ℕ) × Contains f.numbers ns × (map negative ns ≡ c)) → IsMade c
      list (ns, i, e) = of_names (zip-left (AreNumbersIn sizes) lists f.numbers f.numbered ns i)
        where
          of_names : ((names : List BlockRow) × Contains lists names × AreNumbersIn sizes names ns) → IsMade c
          of_names (names, mn, are) = (negative, λ n. refl, ns, e, are.rises, λ k j. within k ((are.exactly k).0 j))
            where
              within : (k : ℕ) → ((x : BlockRow) × Contains names x × (number 0 sizes x.block x.row ≡ k)) → (1 ≤ k) × (k ≤ sum sizes)
              within k (x, mx, is) =
                  let p = number_in 0 sizes x.block x.row (there names mn x mx) in
                  let low = p.0 in
                  let high = p.1 in
                  (omega (arith, low, is), omega (arith, high, is))

  pub formula_range : AreVarsInRange cnf
  formula_range c m l ml = of_made (made c m)
    where
      of_made : IsMade c → (1 ≤ l.var) × (l.var ≤ cnf.vars)
      of_made (lit, is, ns, e, s, h) =
          let p = Contains-from_map lit ns l (subst (λ d. Contains d l) (sym e) ml) in
          let v : l.var ≡ p.0 = ap (λ (z : Lit). z.var) (sym p.2) ∙ is p.0 in
          let k = h p.0 p.1 in
          let low = k.0 in
          let high = k.1 in
          let vars = f.vars in
          (omega (arith, low, v), omega (arith, high, v, vars))

  pub formula_once : IsOnce cnf
  formula_once c m = of_made (made c m)
    where
      of_made : IsMade c → NoVarTwice c
      of_made (lit, is, ns, e, s, h) = subst NoVarTwice e (once_of lit is ns s)

-- ---- how many clauses

blocks-length : (n : ℕ) (sizes : List ℕ) → length (blocks_from n sizes) ≡ length sizes
blocks-length n [] = refl
blocks-length n (s ∷ sizes) = ap suc (blocks-length (n + s) sizes)

zip-length : {A B : Type 0} (R : A → B → Type 0) (xs : List A) (ys : List B) → AllZip R xs ys → length xs ≡ length ys
zip-length R [] [] h = refl
zip-length R [] (y ∷ ys) h = absurd h
zip-length R (x ∷ xs) [] h = absurd h
zip-length R (x ∷ xs) (y ∷ ys) h = ap suc (zip-length R xs ys h.1)

pub group_formula_is_writable : GroupFormulaIsWritable
group_formula_is_writable sizes lists cnf g f = record { vars = few_vars; clauses = few_clauses; literals = formula_range sizes lists g.there cnf f }
  where
    few_vars : cnf.vars ≤ 10000000
    few_vars = let v = f.vars in let few = g.few in omega (arith, v, few)

    count : length cnf.clauses ≡ length sizes + length lists
    count = sym (length-map cnf.clauses _) ∙ (ap length f.clauses ∙ (length-append (map (map positive) (blocks_from 0 sizes)) (map (map negative) f.numbers) ∙ both))
      where
        both : length (map (map positive) (blocks_from 0 sizes)) + length (map (map negative) f.numbers) ≡ length sizes + length lists
        both =
            let a = length-map (blocks_from 0 sizes) (map positive) in
            let b = length-map f.numbers (map negative) in
            let d = blocks-length 0 sizes in
            let e = zip-length (AreNumbersIn sizes) lists f.numbers f.numbered in
            omega (arith, a, b, d, e)

    few_clauses : length cnf.clauses ≤ 4294967295
    few_clauses =
        let c = count in
        let a = no-more-blocks sizes g.some in
        let few = g.few in
        let short = g.short in
        omega (arith, c, a, few, short)

-- ---- outcomes

module _ (sizes : List ℕ) (lists : List (List BlockRow)) (g : IsGroup sizes lists) (cnf : Cnf) (f : IsGroupFormula sizes lists cnf) (budget : ℕ) where
  -- what the solver's clauses say of an outcome
  pub outcome_is : (r : Result Outcome NoMemory) (o : Outcome) → r ≡ Ok o → ((values : List Bool) → r ≡ Ok (Sat values) → IsModel cnf values) →
      ((log : Log) → r ≡ Ok (Unsat log) → Refutes cnf log.steps) → ((log : Log) → r ≡ Ok (Unsat log) → AreConsecutive (length cnf.clauses) log.steps) →
      ((log : Log) → r ≡ Ok (Unsat log) → length log.steps ≤ budget + 1) → ((log : Log) → r ≡ Ok (Spent log) → IsSpentLog cnf budget log.steps) → OutcomeIs cnf budget o
  outcome_is r (Sat values) e sat refutes ids size spent = sat values e
  outcome_is r (Unsat log) e sat refutes ids size spent = (refutes log e, ids log e, size log e)
  outcome_is r (Spent log) e sat refutes ids size spent = spent log e

  pub each_value : (o : Outcome) → OutcomeIs cnf budget o → HasEachValue sizes o
  each_value (Sat values) h = h.0 ∙ f.vars
  each_value (Unsat log) h = tt
  each_value (Spent log) h = tt

  pub proved_is : (o : Outcome) (choice : List ℕ) (p : Proved) → OutcomeIs cnf budget o → Shows sizes cnf o choice p → IsProved sizes lists budget choice p
  proved_is (Sat values) choice p h s =
      subst (IsProved sizes lists budget choice) (sym s.0) (subst (λ (c : List ℕ). IsAvoidedBy sizes lists c) (sym s.1) (picks_avoid sizes lists cnf values f h))
  proved_is (Unsat log) choice p h s = subst (IsProved sizes lists budget choice) (sym s) (
    (group_decides sizes lists cnf g.there f).1 (refutation_sound cnf log.steps h.0),
    record { formula = f; refutes = h.0; ids = h.1; size = h.2 },
  )
  proved_is (Spent log) choice p h s = subst (IsProved sizes lists budget choice) (sym s) (record { cnf = cnf; log = log; formula = f; spent = h })

pub judged_is : (sizes : List ℕ) (lists : List (List BlockRow)) (budget : ℕ) (choice : List ℕ) (p : Proved) (j : Judged) → IsProved sizes lists budget choice p → Tells p j → IsJudged sizes lists budget choice j
judged_is sizes lists budget choice (proved.Refuted cnf log) j h t = subst (IsJudged sizes lists budget choice) (sym t) h.0
judged_is sizes lists budget choice proved.Open j h t = subst (IsJudged sizes lists budget choice) (sym t) h
judged_is sizes lists budget choice proved.Spent j h t = subst (IsJudged sizes lists budget choice) (sym t) h
