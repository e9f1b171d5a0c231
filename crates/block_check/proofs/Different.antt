-- Rows that go into a set one after another.
use Rattle.std.proofs.Common.{◌≡◌, ◌⊎◌, inl, inr, ℕ, ◌+◌, ◌<◌, true, false, cond, Ordering, List, [], length, get_or, Contains, slice_index_or, ap, sym, ◌∙◌, subst, arith, Bor}
use Rattle.std.specs.BTreeSet.{BTreeSet, contains, Updates}
use Rattle.std.specs.Ordering.{is_eq}
use Rattle.std.proofs.lemmas.Bool.{false≢true}
use Rattle.std.proofs.lemmas.List.{get_or_read}
use Rattle.cqa_value.specs.declared.value.Value.{Value}
use Rattle.cqa_value.specs.Values.{row_cmp, row_ties, row_decides}
use Rattle.cqa_value.proofs.Words.{cases_next}
use Rattle.cqa_model.proofs.Values.{row_discrete}
use Rattle.cqa_model.specs.Repairs.{SharesKey}
use Rattle.cqa_model.proofs.Repairs.{shares-sym, shares-trans}
use Rattle.block_tree.specs.Trees.{IsBlockOf}
use Rattle.block_check.specs.Blocks.{AllDiffer}
use Rattle.plan_rows.proofs.Keeping.{row_apart}

abbrev pub ref_cmp : Bor (List Value) → Bor (List Value) → Ordering
ref_cmp a b = row_cmp a.now b.now

abbrev pub row_nth : List (List Value) → ℕ → List Value
row_nth rows i = slice_index_or rows i []

-- of so many rows: they differ, and a set has those and no others
pub record KnowsRows (rows : List (List Value)) (n : ℕ) (seen : BTreeSet (Bor (List Value))) : Type 0 where
  pub differ : (i j : ℕ) → i < j → j < n → row_nth rows i ≡ row_nth rows j → ⊥
  pub there : (x : Bor (List Value)) (i : ℕ) → i < n → row_nth rows i ≡ x.now → contains ref_cmp seen x ≡ true
  pub only : (x : Bor (List Value)) → contains ref_cmp seen x ≡ true → (i : ℕ) × (i < n) × (row_nth rows i ≡ x.now)

row_same : (x y : List Value) → x ≡ y → is_eq (row_cmp x y) ≡ true
row_same x y e = sym (row_ties x y) ∙ (row_decides x y).1 e

row_is : (rows : List (List Value)) (i : ℕ) (x : List Value) → i < length rows → x ≡ get_or rows i x → row_nth rows i ≡ x
row_is rows i x l e = sym (get_or_read rows i x l e [])

pub row_twice : (rows : List (List Value)) (n : ℕ) (seen : BTreeSet (Bor (List Value))) (x : Bor (List Value)) → KnowsRows rows n seen → n < length rows → x.now ≡ get_or rows n x.now → contains ref_cmp seen x ≡ true → AllDiffer rows → ⊥
row_twice rows n seen x knows l e has differ =
    let o = knows.only x has in
    differ o.0 n o.1 l (o.2 ∙ sym (row_is rows n x.now l e))

pub row_more : (rows : List (List Value)) (n : ℕ) (old new : BTreeSet (Bor (List Value))) (x : Bor (List Value)) → KnowsRows rows n old → n < length rows → x.now ≡ get_or rows n x.now → contains ref_cmp old x ≡ false → Updates ref_cmp old new x true → KnowsRows rows (n + 1) new
row_more rows n old new x knows l e not_there u = record {
  differ = λ i j k m same. differ i j k same (cases_next j n m);
  there = λ y i k same. there y i same (cases_next i n k) (row_discrete x.now y.now);
  only = λ y has. only y has (row_discrete x.now y.now);
}
  where
    here : row_nth rows n ≡ x.now
    here = row_is rows n x.now l e

    differ : (i j : ℕ) → i < j → row_nth rows i ≡ row_nth rows j → (j < n) ⊎ (j ≡ n) → ⊥
    differ i j k same (inl m) = knows.differ i j k m same
    differ i j k same (inr s) = false≢true (sym not_there ∙ knows.there x i (subst (λ z. i < z) s k) (same ∙ ap (row_nth rows) s ∙ here))

    at_same : (y : Bor (List Value)) → x.now ≡ y.now → contains ref_cmp new y ≡ true
    at_same y s = u.0 y ∙ ap (λ b. cond b true (contains ref_cmp old y)) (row_same x.now y.now s)

    there : (y : Bor (List Value)) (i : ℕ) → row_nth rows i ≡ y.now → (i < n) ⊎ (i ≡ n) → Dec (x.now ≡ y.now) → contains ref_cmp new y ≡ true
    there y i same k (yes s) = at_same y s
    there y i same (inl k) (no ne) = (u.0 y ∙ ap (λ b. cond b true (contains ref_cmp old y)) (row_apart x.now y.now ne)) ∙ knows.there y i k same
    there y i same (inr s) (no ne) = absurd (ne (sym here ∙ ap (row_nth rows) (sym s) ∙ same))

    only : (y : Bor (List Value)) → contains ref_cmp new y ≡ true → Dec (x.now ≡ y.now) → (i : ℕ) × (i < n + 1) × (row_nth rows i ≡ y.now)
    only y has (yes s) = (n, omega arith, here ∙ s)
    only y has (no ne) = let o = knows.only y (sym ((u.0 y ∙ ap (λ b. cond b true (contains ref_cmp old y)) (row_apart x.now y.now ne))) ∙ has) in (o.0, omega (arith, o.1), o.2)

pub block_when : (key : List ℕ) (first : List Value) (rows : List (List Value)) → Contains rows first → ((x : List Value) → Contains rows x → SharesKey key first x) → AllDiffer rows → IsBlockOf key rows
block_when key first rows m share differ = record {
  some = omega (arith, m.1);
  alike = λ x y mx my. shares-trans key x first y (shares-sym key first x (share x mx)) (share y my);
  differ = differ;
}
