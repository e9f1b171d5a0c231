use Rattle.std.proofs.Common.{◌≡◌, ◌++◌, ◌∷◌, ℕ, List, [], Contains, inl, inr, sym, subst, rules}
use Rattle.std.specs.List.Sorted.{IsStrictlySortedBy}
use Rattle.std.specs.declared.cmp.Ordering.{Ordering}
use Rattle.std.specs.declared.cmp.Ordering.TheVariants.{Less}
use Rattle.std.proofs.lemmas.List.Elements.{Contains-append_cases, Contains-append_right}
use Rattle.cqa_value.specs.declared.value.Value.{Value}
use Rattle.cqa_value.proofs.Words.{mem-cases, mem-head, mem-nil, member_by_recursion, sorted_cons}
use Rattle.cqa_model.specs.Database.{block_cmp}
use Rattle.row_order.proofs.BlockOrder.{block_total, is_less}
use Rattle.csv_rows.proofs.reading.comes_behind.Goals as goal

one : (cmp : List Value → List Value → Ordering) (row : List Value) → IsStrictlySortedBy cmp (row ∷ [])
unfolding IsStrictlySortedBy
one cmp row = (tt, tt)

below : (cmp : List Value → List Value → Ordering) (first : List Value) (rows : List (List Value)) → IsStrictlySortedBy cmp (first ∷ rows) → (row : List Value) → Contains rows row → cmp first row ≡ Less
unfolding IsStrictlySortedBy
below cmp first rows s = member_by_recursion (λ row. cmp first row ≡ Less) rows s.0

rest : (cmp : List Value → List Value → Ordering) (first : List Value) (rows : List (List Value)) → IsStrictlySortedBy cmp (first ∷ rows) → IsStrictlySortedBy cmp rows
unfolding IsStrictlySortedBy
rest cmp first rows s = s.1

-- rows that ascend still do with one behind them that the last one comes before
behind : (key : List ℕ) (before : List (List Value)) (last row : List Value) → block_cmp key last row ≡ Less → IsStrictlySortedBy (block_cmp key) (before ++ last ∷ []) → IsStrictlySortedBy (block_cmp key) ((before ++ last ∷ []) ++ row ∷ [])
behind key [] last row less s =
    sorted_cons (block_cmp key) last (row ∷ [])
    (λ other m. elim (mem-cases other row [] m) [ inl same ↦ subst (λ r. block_cmp key last r ≡ Less) same less | inr none ↦ absurd (mem-nil other none) ])
    (one (block_cmp key) row)
behind key (first ∷ before) last row less s =
    let rows = before ++ last ∷ [] in
    let first_below = below (block_cmp key) first rows s in
    sorted_cons (block_cmp key) first (rows ++ row ∷ [])
    (λ other m. elim (Contains-append_cases rows (row ∷ []) other m) [
      | inl old ↦ first_below other old
      | inr new ↦ elim (mem-cases other row [] new) [
        | inl same ↦ subst (λ r. block_cmp key first r ≡ Less) same ((block_total key).trans first last row (first_below last (Contains-append_right before (last ∷ []) last (mem-head last []))) less)
        | inr none ↦ absurd (mem-nil other none)
      ]
    ])
    (behind key before last row less (rest (block_cmp key) first rows s))

pub returns-in-Some : goal.returns-in-Some
returns-in-Some c yes_it_is s =
    let last = c.in-Some.ensures.some in
    let less = is_less (block_cmp c.args.key.now c.in-Some.last.now c.args.row.now) (search rules) in
    subst (λ rows. IsStrictlySortedBy (block_cmp c.args.key.now) (rows ++ c.args.row.now ∷ [])) (sym last.1)
    (behind c.args.key.now last.0 c.in-Some.last.now c.args.row.now less (subst (IsStrictlySortedBy (block_cmp c.args.key.now)) last.1 s))

pub returns-in-None : goal.returns-in-None
returns-in-None c yes_it_is s =
    subst (λ rows. IsStrictlySortedBy (block_cmp c.args.key.now) (rows ++ c.args.row.now ∷ [])) (sym c.in-None.ensures.none) (one (block_cmp c.args.key.now) c.args.row.now)
