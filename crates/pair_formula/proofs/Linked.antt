-- The formula of a row of a pair is that of a graph.
use Rattle.std.proofs.Common.{◌≡◌, ◌≢◌, ◌↔◌, ℕ, zero, suc, ◌+◌, ◌-◌, ◌<◌, ◌≤◌, ◌⊎◌, inl, inr, List, [], ◌∷◌, ◌++◌, length, get_or, map, refl, ap, sym, ◌∙◌, subst, arith, Contains, false, slice_index, Less}
use Rattle.std.specs.Ordering.{nat_cmp}
use Rattle.std.specs.List.Sorted.{IsStrictlySortedBy}
use Rattle.std.specs.Cmp.Lexicographic.{slice_cmp}
use Rattle.std.proofs.Math.Dec.{eqb}
use Rattle.std.proofs.lemmas.Bool.{cases_order}
use Rattle.std.proofs.lemmas.Bool.Decides.{Decides-eqb}
use Rattle.std.proofs.lemmas.Cmp.{nat_cmp_total, nat_list_cmp_total}
use Rattle.std.proofs.lemmas.List.{get_or_default, length-map, get_or-map}
use Rattle.std.proofs.lemmas.List.Elements.{Contains-get_or}
use Rattle.std.proofs.lemmas.Map.Keys.{IsDistinct-from_apart, Less-from_sorted}
use Rattle.std.proofs.lemmas.Map.Views.{Contains-from_any}
use Rattle.std.proofs.lemmas.Map.Steps.{length-le_from_distinct_below}
use Rattle.std.proofs.lemmas.Bool.{cases_Bool}
use Rattle.cqa_value.specs.declared.value.Value.{Value}
use Rattle.cqa_value.proofs.Words.{Contains-map, Contains-from_map}
use Rattle.cqa_model.specs.declared.query.Query.{Query}
use Rattle.cqa_model.specs.Database.{Table, stored, keys_of, nothing}
use Rattle.cqa_model.specs.Repairs.{SharesKey}
use Rattle.cqa_model.specs.Query.{atom_key, rows_of, row_at, value, IsWitness, FitsDatabase}
use Rattle.cqa_model.proofs.Repairs.{shares-self, shares-sym, shares-trans}
use Rattle.cqa_model.proofs.Fitting.{fits_tables}
use Rattle.join_access.proofs.Sorted.{one_sorted, not_less}
use Rattle.row_lists.specs.declared.formula.Encoded.{Encoded}
use Rattle.row_lists.specs.Clauses.{Variable, variable_cmp, AreAllLists, HasNumber, Formula}
use Rattle.repair_clauses.specs.Clauses.{SharesBlock, IsBlockOfVariable, AreBlockNumbers, IsNumberOf, IsOfWitness, IsFormula, variable_row}
use Rattle.repair_clauses.specs.Encodings.{IsEncoded}
use Rattle.row_lists.proofs.Rows.{numbered, number_below, number_of, one_variable}
use Rattle.repair_clauses.proofs.Rows.{block_numbers}
use Rattle.row_lists.proofs.Order.{numbers_rise, slot_less}
use Rattle.weak_pairs.specs.Pairs.{FitsAlone, Agree}
use Rattle.cqa_model.specs.Graph.{IsPair}
use Rattle.weak_pairs.proofs.Structure
use Rattle.weak_pairs.specs.Starts.{starts_from}
use Rattle.weak_pairs.proofs.Begins.{block-at, at-block, start-next}
use Rattle.pair_refutation.specs.declared.graph.Pair.{Pair}
use Rattle.pair_refutation.specs.Graph.{positive, negative, not_both, graph_clauses, Meet, AreAdjacent, AreBeside, ArePaired, IsGraph, IsInSomeBlock, all_of, block_at}
use Rattle.pair_refutation.specs.Formulas.{IsPairFormula, IsUnsatisfiable}
use Rattle.cqa_model.specs.Certain.{IsCertain}
use Rattle.cnf_form.specs.Literals.{SatisfiesAll}
use Rattle.repair_clauses.proofs.Exact.{clauses_decide}

-- the pair of a witness's numbers
abbrev pair-in : List ℕ → Pair
pair-in numbers = record { left = slice_index numbers 0; right = slice_index numbers 1 }

two-list : (xs : List ℕ) → length xs ≡ 2 → xs ≡ slice_index xs 0 ∷ slice_index xs 1 ∷ []
two-list [] e = absurd (omega (arith, e))
two-list (x ∷ []) e = absurd (omega (arith, e))
two-list (x ∷ y ∷ []) e = refl
two-list (x ∷ y ∷ z ∷ zs) e = absurd (omega (arith, e))

two-rows : (w : List (List Value)) → length w ≡ 2 → w ≡ row_at w 0 ∷ row_at w 1 ∷ []
two-rows [] e = absurd (omega (arith, e))
two-rows (x ∷ []) e = absurd (omega (arith, e))
two-rows (x ∷ y ∷ []) e = refl
two-rows (x ∷ y ∷ z ∷ zs) e = absurd (omega (arith, e))

pair-clauses : (ws : List (List ℕ)) → ((w : List ℕ) → Contains ws w → length w ≡ 2) → map not_both (map pair-in ws) ≡ map (map negative) ws
pair-clauses [] h = refl
pair-clauses (w ∷ ws) h =
    ap (λ z. z ∷ map not_both (map pair-in ws)) (ap (map negative) (sym (two-list w (h w (0, omega arith, refl)))))
    ∙ ap (λ z. map negative w ∷ z) (pair-clauses ws (λ v m. h v (suc m.0, (let l = m.1 in omega (arith, l)), m.2)))

-- the numbers of a witness's rows
pub record IsMet (q : Query) (db : List Table) (row : List Value) (variables : List Variable) (x y : ℕ) : Type 0 where
  pub rows : List (List Value)
  pub witness : IsWitness q (stored db) row rows
  pub left : IsNumberOf q db variables 0 (row_at rows 0) x
  pub right : IsNumberOf q db variables 1 (row_at rows 1) y

-- blocks of numbered rows, and pairs of numbers of which each is that of a witness
module _ (db : List Table) (q : Query) (row : List Value) (fits : FitsDatabase q db) (pair : IsPair q) (variables : List Variable) (in_order : IsStrictlySortedBy variable_cmp variables)
    (blocks : List (List ℕ)) (all_blocks : AreAllLists (AreBlockNumbers q db variables) blocks) (pairs : List Pair) (exactly : (x y : ℕ) → Meet pairs x y ↔ IsMet q db row variables x y) where
  met : (x y : ℕ) → Meet pairs x y → IsMet q db row variables x y
  met x y = (exactly x y).0

  meet : (x y : ℕ) → IsMet q db row variables x y → Meet pairs x y
  meet x y = (exactly x y).1

  small : (x : ℕ) (y : Variable) → HasNumber variables x y → x ≤ length variables
  small x y n = let b = number_below variables x y n in let l = b.1 in omega (arith, l)

  long : (w : List (List Value)) → IsWitness q (stored db) row w → length row ≡ length q.answer
  long w hw = ap (λ z. length z) (sym hw.answers) ∙ length-map q.answer (value w)

  -- a witness as two rows that fit and agree
  as-two : (w : List (List Value)) → IsWitness q (stored db) row w → FitsAlone q row 0 (row_at w 0) × FitsAlone q row 1 (row_at w 1) × Agree q 0 1 (row_at w 0) (row_at w 1)
  as-two w hw = Structure.witness-into q row (keys_of db) (stored db) (fits_tables q db fits) (long w hw) pair.two (row_at w 0) (row_at w 1)
      (subst (λ z. IsWitness q (stored db) row z) (two-rows w (hw.size ∙ pair.two)) hw)

  square : (x y s t : ℕ) → IsMet q db row variables x y → IsMet q db row variables s y → IsMet q db row variables x t → IsMet q db row variables s t
  square x y s t a b c =
      let fa = as-two a.rows a.witness in
      let fb = as-two b.rows b.witness in
      let fc = as-two c.rows c.witness in
      let y_same : row_at b.rows 1 ≡ row_at a.rows 1 = sym b.right.3 ∙ (ap (λ z. variable_row q db z) (one_variable variables y b.right.0 a.right.0 b.right.1 a.right.1) ∙ a.right.3) in
      let x_same : row_at c.rows 0 ≡ row_at a.rows 0 = sym c.left.3 ∙ (ap (λ z. variable_row q db z) (one_variable variables x c.left.0 a.left.0 c.left.1 a.left.1) ∙ a.left.3) in
      let agree : Agree q 0 1 (row_at b.rows 0) (row_at c.rows 1) =
      (λ i j sh. fb.2 i j sh ∙ (ap (λ z. get_or z j nothing) y_same ∙ (sym (fa.2 i j sh) ∙ (ap (λ z. get_or z i nothing) (sym x_same) ∙ fc.2 i j sh)))) in
      let k0 : Contains (rows_of q (stored db) 0) (row_at b.rows 0) = b.witness.kept 0 (let z = pair.two in omega (arith, z)) in
      let k1 : Contains (rows_of q (stored db) 1) (row_at c.rows 1) = c.witness.kept 1 (let z = pair.two in omega (arith, z)) in
      record {
        rows = row_at b.rows 0 ∷ row_at c.rows 1 ∷ [];
        witness = Structure.witness-from q row (keys_of db) (stored db) (fits_tables q db fits) (long a.rows a.witness) pair.two (row_at b.rows 0) (row_at c.rows 1) k0 k1 fb.0 fc.1 agree;
        left = b.left;
        right = c.right;
      }

  -- rows of one atom that meet one row are of one block
  partners : (F G : ℕ) → F < 2 → G < 2 → F ≢ G → (v w : List (List Value)) → IsWitness q (stored db) row v → IsWitness q (stored db) row w → row_at v F ≡ row_at w F → SharesKey (atom_key q G) (row_at v G) (row_at w G)
  partners F G lF lG n v w hv hw e = Structure.partners q row (keys_of db) (stored db) (fits_tables q db fits) (long v hv) pair F G lF lG n v w hv hw e

  beside : (x z : ℕ) (a c : Variable) → HasNumber variables x a → HasNumber variables z c → AreBeside pairs x z → SharesBlock q db a c
  beside x z a c na nc (inl e) = subst (λ u. SharesBlock q db a u) (one_variable variables z a c (subst (λ k. HasNumber variables k a) e na) nc) (refl, shares-self (atom_key q a.slot) (variable_row q db a))
  beside x z a c na nc (inr (inl (y, m, k))) =
      let p = met x y m in
      let r = met z y k in
      let same : row_at p.rows 1 ≡ row_at r.rows 1 = sym p.right.3 ∙ (ap (λ u. variable_row q db u) (one_variable variables y p.right.0 r.right.0 p.right.1 r.right.1) ∙ r.right.3) in
      shared 0 x z a c na nc p.left r.left (partners 1 0 (omega arith) (omega arith) (λ d. omega (arith, d)) p.rows r.rows p.witness r.witness same)
    where
      shared : (F x z : ℕ) (a c : Variable) → HasNumber variables x a → HasNumber variables z c → {u w : List Value} → IsNumberOf q db variables F u x → IsNumberOf q db variables F w z → SharesKey (atom_key q F) u w → SharesBlock q db a c
      shared F x z a c na nc {u} {w} l r s =
          let ea = one_variable variables x a l.0 na l.1 in
          let ec = one_variable variables z c r.0 nc r.1 in
          let fa : a.slot ≡ F = ap (λ (k : Variable). k.slot) ea ∙ l.2 in
          let fc : c.slot ≡ F = ap (λ (k : Variable). k.slot) ec ∙ r.2 in
          let ra : variable_row q db a ≡ u = ap (λ k. variable_row q db k) ea ∙ l.3 in
          let rc : variable_row q db c ≡ w = ap (λ k. variable_row q db k) ec ∙ r.3 in
          (fa ∙ sym fc, subst (λ G. SharesKey (atom_key q G) (variable_row q db a) (variable_row q db c)) (sym fa) (subst (λ k. SharesKey (atom_key q F) k (variable_row q db c)) (sym ra) (subst (λ k. SharesKey (atom_key q F) u k) (sym rc) s)))
  beside x z a c na nc (inr (inr (y, m, k))) =
      let p = met y x m in
      let r = met y z k in
      let same : row_at p.rows 0 ≡ row_at r.rows 0 = sym p.left.3 ∙ (ap (λ u. variable_row q db u) (one_variable variables y p.left.0 r.left.0 p.left.1 r.left.1) ∙ r.left.3) in
      let s = partners 0 1 (omega arith) (omega arith) (λ d. omega (arith, d)) p.rows r.rows p.witness r.witness same in
      let ea = one_variable variables x a p.right.0 na p.right.1 in
      let ec = one_variable variables z c r.right.0 nc r.right.1 in
      let fa : a.slot ≡ 1 = ap (λ (u : Variable). u.slot) ea ∙ p.right.2 in
      let fc : c.slot ≡ 1 = ap (λ (u : Variable). u.slot) ec ∙ r.right.2 in
      let ra : variable_row q db a ≡ row_at p.rows 1 = ap (λ u. variable_row q db u) ea ∙ p.right.3 in
      let rc : variable_row q db c ≡ row_at r.rows 1 = ap (λ u. variable_row q db u) ec ∙ r.right.3 in
      (fa ∙ sym fc, subst (λ G. SharesKey (atom_key q G) (variable_row q db a) (variable_row q db c)) (sym fa) (subst (λ u. SharesKey (atom_key q 1) u (variable_row q db c)) (sym ra) (subst (λ u. SharesKey (atom_key q 1) (row_at p.rows 1) u) (sym rc) s)))

  -- ---- blocks

  block-of : (v : ℕ) → v < length blocks → AreBlockNumbers q db variables (block_at blocks v)
  block-of v l = (all_blocks.exactly (block_at blocks v)).0 (Contains-get_or blocks v [] l)

  blocks-share : (a b c : Variable) → SharesBlock q db a b → SharesBlock q db b c → SharesBlock q db a c
  blocks-share a b c s t = (s.0 ∙ t.0, shares-trans (atom_key q a.slot) (variable_row q db a) (variable_row q db b) (variable_row q db c) s.1 (subst (λ G. SharesKey (atom_key q G) (variable_row q db b) (variable_row q db c)) (sym s.0) t.1))

  blocks-turn : (a b : Variable) → SharesBlock q db a b → SharesBlock q db b a
  blocks-turn a b s = (sym s.0, subst (λ G. SharesKey (atom_key q G) (variable_row q db b) (variable_row q db a)) s.0 (shares-sym (atom_key q a.slot) (variable_row q db a) (variable_row q db b) s.1))

  -- blocks of rows that share a key are one
  same-list : (a c : Variable) (xs ys : List ℕ) → IsBlockOfVariable q db variables a xs → IsBlockOfVariable q db variables c ys → SharesBlock q db a c → xs ≡ ys
  same-list a c xs ys bx by s = one_sorted nat_cmp nat_cmp_total xs ys bx.rises by.rises
      (λ n m. let y = (bx.exactly n).0 m in (by.exactly n).1 (y.0, y.1, blocks-share c a y.0 (blocks-turn a c s) y.2))
      (λ n m. let y = (by.exactly n).0 m in (bx.exactly n).1 (y.0, y.1, blocks-share a c y.0 s y.2))

  same-place : (u v : ℕ) → u < length blocks → v < length blocks → block_at blocks u ≡ block_at blocks v → u ≡ v
  same-place u v lu lv e = go (cases_order u v)
    where
      go : (u ≡ v) ⊎ ((u < v) ⊎ (v < u)) → u ≡ v
      go (inl d) = d
      go (inr (inl l)) = absurd (not_less (slice_cmp nat_cmp) nat_list_cmp_total (block_at blocks v) (subst (λ z. slice_cmp nat_cmp z (block_at blocks v) ≡ Less) e (Less-from_sorted (slice_cmp nat_cmp) blocks u v [] all_blocks.in_order l lv)))
      go (inr (inr l)) = absurd (not_less (slice_cmp nat_cmp) nat_list_cmp_total (block_at blocks u) (subst (λ z. slice_cmp nat_cmp z (block_at blocks u) ≡ Less) (sym e) (Less-from_sorted (slice_cmp nat_cmp) blocks v u [] all_blocks.in_order l lu)))

  one : (u v x z : ℕ) → u < length blocks → v < length blocks → Contains (block_at blocks u) x → Contains (block_at blocks v) z → AreBeside pairs x z → u ≡ v
  one u v x z lu lv mx mz s =
      let bu = block-of u lu in
      let bv = block-of v lv in
      let a = (bu.2.exactly x).0 mx in
      let c = (bv.2.exactly z).0 mz in
      same-place u v lu lv (same-list bu.0 bv.0 (block_at blocks u) (block_at blocks v) bu.2 bv.2
      (blocks-share bu.0 a.0 bv.0 a.2 (blocks-share a.0 c.0 bv.0 (beside x z a.0 c.0 a.1 c.1 s) (blocks-turn bv.0 c.0 c.2))))

  listed-by : (x : ℕ) (a : Variable) → HasNumber variables x a → IsInSomeBlock blocks x
  listed-by x a n = go (block_numbers q db variables a)
    where
      go : (numbers : List ℕ) × IsBlockOfVariable q db variables a numbers → IsInSomeBlock blocks x
      go (numbers, b) =
          let m = (all_blocks.exactly numbers).1 (a, numbered variables x a n, b) in
          let k : Contains numbers x = (b.exactly x).1 (a, n, (refl, shares-self (atom_key q a.slot) (variable_row q db a))) in
          (m.0, m.1, subst (λ z. Contains z x) (sym (get_or_default blocks m.0 [] numbers m.1 ∙ m.2)) k)

  listed : (x y : ℕ) → AreAdjacent pairs x y → IsInSomeBlock blocks x
  listed x y (inl m) = let a = (met x y m).left in listed-by x a.0 a.1
  listed x y (inr m) = let a = (met y x m).right in listed-by x a.0 a.1

  apart-by : (v x y : ℕ) → v < length blocks → Contains (block_at blocks v) x → Contains (block_at blocks v) y → Meet pairs x y → ⊥
  apart-by v x y l mx my m =
      let p = met x y m in
      let b = block-of v l in
      let a = (b.2.exactly x).0 mx in
      let c = (b.2.exactly y).0 my in
      let ea : a.0.slot ≡ 0 = ap (λ (k : Variable). k.slot) (one_variable variables x a.0 p.left.0 a.1 p.left.1) ∙ p.left.2 in
      let ec : c.0.slot ≡ 1 = ap (λ (k : Variable). k.slot) (one_variable variables y c.0 p.right.0 c.1 p.right.1) ∙ p.right.2 in
      let sa = a.2.0 in
      let sc = c.2.0 in
      omega (arith, ea, ec, sa, sc)

  paired : ArePaired (length variables) pairs
  paired = record {
    small = λ x y m. let p = (met x y m).right in small y p.0 p.1;
    rises = λ x y m. let p = met x y m in
        numbers_rise variables in_order x y p.left.0 p.right.0 p.left.1 p.right.1 (slot_less p.left.0 p.right.0 (let l = p.left.2 in let r = p.right.2 in omega (arith, l, r)));
    sides = λ x y z m k. let p = (met x y m).left in let r = (met z x k).right in
        let e = ap (λ (u : Variable). u.slot) (one_variable variables x p.0 r.0 p.1 r.1) in let l = p.2 in let o = r.2 in omega (arith, e, l, o);
    square = λ x y s t a b c. meet s t (square x y s t (met x y a) (met s y b) (met x t c));
  }

  some : (v : ℕ) → v < length blocks → 0 < length (block_at blocks v)
  some v l =
      let b = block-of v l in
      let n = number_of variables b.0 b.1 in
      let m : Contains (block_at blocks v) n.0 = (b.2.exactly n.0).1 (b.0, n.1, (refl, shares-self (atom_key q b.0.slot) (variable_row q db b.0))) in
      let k = m.1 in omega (arith, k)

  -- ---- the blocks have no variable twice

  number-at : (v x : ℕ) → v < length blocks → Contains (block_at blocks v) x → (1 ≤ x) × (x < 1 + length variables)
  number-at v x l m = let a = ((block-of v l).2.exactly x).0 m in number_below variables x a.0 a.1

  in-flat : (i : ℕ) → i < length (all_of blocks) → (v k : ℕ) × (v < length blocks) × (k < length (block_at blocks v)) × (slice_index (starts_from 0 blocks) v + k ≡ i) × (slice_index (all_of blocks) i ≡ slice_index (block_at blocks v) k)
  in-flat i l =
      let b = block-at 0 blocks i l in
      let n = start-next 0 blocks b.0 b.1 in
      let low = b.2 in
      let high = b.3 in
      let k : i - slice_index (starts_from 0 blocks) b.0 < length (block_at blocks b.0) = omega (arith, low, high, n) in
      (b.0, i - slice_index (starts_from 0 blocks) b.0, b.1, k, omega (arith, low), at-block 0 blocks b.0 (i - slice_index (starts_from 0 blocks) b.0) i 0 b.1 k (omega (arith, low)))

  flat-apart : (i j : ℕ) → i < j → j < length (all_of blocks) → slice_index (all_of blocks) i ≢ slice_index (all_of blocks) j
  flat-apart i j l lj e = go (in-flat i (omega (arith, l, lj))) (in-flat j lj)
    where
      go : (v k : ℕ) × (v < length blocks) × (k < length (block_at blocks v)) × (slice_index (starts_from 0 blocks) v + k ≡ i) × (slice_index (all_of blocks) i ≡ slice_index (block_at blocks v) k) →
          (w m : ℕ) × (w < length blocks) × (m < length (block_at blocks w)) × (slice_index (starts_from 0 blocks) w + m ≡ j) × (slice_index (all_of blocks) j ≡ slice_index (block_at blocks w) m) → ⊥
      go (v, k, lv, lk, iv, ev) (w, m, lw, lm, jw, ew) =
          let d : v ≡ w = one v w (slice_index (block_at blocks v) k) (slice_index (block_at blocks w) m) lv lw (Contains-get_or (block_at blocks v) k 0 lk) (Contains-get_or (block_at blocks w) m 0 lm) (inl (sym ev ∙ (e ∙ ew))) in
          let sv = ap (λ z. slice_index (starts_from 0 blocks) z) d in
          let km : k < m = omega (arith, iv, jw, sv, l) in
          let less = Less-from_sorted nat_cmp (block_at blocks w) k m 0 (block-of w lw).2.rises km lm in
          let same : slice_index (block_at blocks w) k ≡ slice_index (block_at blocks w) m = ap (λ z. slice_index (block_at blocks z) k) (sym d) ∙ (sym ev ∙ (e ∙ ew)) in
          not_less nat_cmp nat_cmp_total (slice_index (block_at blocks w) m) (subst (λ z. nat_cmp z (slice_index (block_at blocks w) m) ≡ Less) same less)

  flat-number : (i : ℕ) → i < length (all_of blocks) → (1 ≤ slice_index (all_of blocks) i) × (slice_index (all_of blocks) i < 1 + length variables)
  flat-number i l = let p = in-flat i l in subst (λ z. (1 ≤ z) × (z < 1 + length variables)) (sym p.5) (number-at p.0 (slice_index (block_at blocks p.0) p.1) p.2 (Contains-get_or (block_at blocks p.0) p.1 0 p.3))

  abbrev lowered : List ℕ
  lowered = map (λ n. n - 1) (all_of blocks)

  lowered-at : (i d : ℕ) → i < length lowered → get_or lowered i d ≡ slice_index (all_of blocks) i - 1
  lowered-at i d l = get_or-map (λ n. n - 1) (all_of blocks) i 0 d (let e = length-map (all_of blocks) (λ n. n - 1) in omega (arith, l, e))

  unequal : (x y : ℕ) → x ≢ y → eqb x y ≡ false
  unequal x y n = elim (cases_Bool (eqb x y)) [ inl e ↦ absurd (n ((Decides-eqb x y).0 e)) | inr e ↦ e ]

  few : length (all_of blocks) ≤ length variables
  few = let e = length-map (all_of blocks) (λ n. n - 1) in let b = below in omega (arith, e, b)
    where
      differ : (i j d : ℕ) → i < j → j < length lowered → get_or lowered i d ≢ get_or lowered j d
      differ i j d l lj e =
          let size = length-map (all_of blocks) (λ n. n - 1) in
          let a = lowered-at i d (omega (arith, l, lj)) in
          let b = lowered-at j d lj in
          let na = (flat-number i (omega (arith, l, lj, size))).0 in
          let nb = (flat-number j (omega (arith, lj, size))).0 in
          flat-apart i j l (omega (arith, lj, size)) (omega (arith, a, b, na, nb, e))

      member : (x : ℕ) → Contains lowered x → x < length variables
      member x (i, l, e) =
          let size = length-map (all_of blocks) (λ n. n - 1) in
          let a = lowered-at i x l in
          let n = flat-number i (omega (arith, l, size)) in
          let n0 = n.0 in
          let n1 = n.1 in
          omega (arith, a, e, n0, n1)

      below : length lowered ≤ length variables
      below = length-le_from_distinct_below lowered (length variables) (IsDistinct-from_apart eqb lowered (λ i j d l lj. unequal (get_or lowered i d) (get_or lowered j d) (differ i j d l lj)))
          (λ x m. member x (Contains-from_any (λ a b e. (Decides-eqb a b).0 e) x lowered m))

  pub graph-of : IsGraph (length variables) blocks pairs
  graph-of = record {
    paired = paired;
    some = some;
    small = λ v x l m. let b = number-at v x l m in let k = b.1 in (b.0, omega (arith, k));
    few = few;
    listed = listed;
    one = one;
    apart = λ v x y l mx my a. elim a [ inl m ↦ apart-by v x y l mx my m | inr m ↦ apart-by v y x l my mx m ];
  }

-- the formula of a row
module _ (db : List Table) (q : Query) (row : List Value) (f : Formula) (fits : FitsDatabase q db) (pair : IsPair q) (h : IsFormula q db row f) where
  abbrev all-pairs : List Pair
  all-pairs = map pair-in f.witnesses

  two : (w : List ℕ) → IsOfWitness q db row f.variables w → length w ≡ 2
  two w o = o.size ∙ pair.two

  met-in : (x y : ℕ) → Meet all-pairs x y → IsMet q db row f.variables x y
  met-in x y m = go (Contains-from_map pair-in f.witnesses (record { left = x; right = y }) m)
    where
      go : (w : List ℕ) × Contains f.witnesses w × (pair-in w ≡ (record { left = x; right = y })) → IsMet q db row f.variables x y
      go (w, k, e) =
          let o = (h.witnesses.exactly w).0 k in
          let z = pair.two in
          record {
            rows = o.rows;
            witness = o.witness;
            left = subst (λ z. IsNumberOf q db f.variables 0 (row_at o.rows 0) z) (ap (λ (p : Pair). p.left) e) (o.each 0 (omega (arith, z)));
            right = subst (λ z. IsNumberOf q db f.variables 1 (row_at o.rows 1) z) (ap (λ (p : Pair). p.right) e) (o.each 1 (omega (arith, z)));
          }

  meet-in : (x y : ℕ) → IsMet q db row f.variables x y → Meet all-pairs x y
  meet-in x y m = Contains-map pair-in f.witnesses (x ∷ y ∷ []) ((h.witnesses.exactly (x ∷ y ∷ [])).1 (record {
    rows = m.rows;
    witness = m.witness;
    size = sym pair.two;
    each = λ F l. each F (let z = pair.two in omega (arith, l, z));
  }))
    where
      each : (F : ℕ) → F < 2 → IsNumberOf q db f.variables F (row_at m.rows F) (slice_index (x ∷ y ∷ []) F)
      each zero l = m.left
      each (suc zero) l = m.right
      each (suc (suc n)) l = absurd (omega (arith, l))

  graph-in : IsGraph (length f.variables) f.blocks all-pairs
  graph-in = graph-of db q row fits pair f.variables h.variables.in_order f.blocks h.blocks all-pairs (λ x y. (met-in x y, meet-in x y))

  clauses-of : graph_clauses f.blocks all-pairs ≡ map (map positive) f.blocks ++ map (map negative) f.witnesses
  clauses-of = ap (λ z. map (map positive) f.blocks ++ z) (pair-clauses f.witnesses (λ w m. two w ((h.witnesses.exactly w).0 m)))

pub pair-formula : (db : List Table) (q : Query) (row : List Value) (e : Encoded) → FitsDatabase q db → IsPair q → IsEncoded q db row e → IsPairFormula e.cnf
pair-formula db q row e fits pair enc = record {
  blocks = enc.formula.blocks;
  pairs = map pair-in enc.formula.witnesses;
  are = enc.are ∙ sym (clauses-of db q row enc.formula fits pair enc.is);
  graph = subst (λ z. IsGraph z enc.formula.blocks (map pair-in enc.formula.witnesses)) (sym enc.vars) (graph-in db q row enc.formula fits pair enc.is);
}

-- and no assignment satisfies it exactly where the row is certain
pub certain-formula : (db : List Table) (q : Query) (row : List Value) (e : Encoded) → FitsDatabase q db → IsEncoded q db row e → IsUnsatisfiable e.cnf ↔ IsCertain db q row
certain-formula db q row e fits enc =
    let d = clauses_decide db q row enc.formula fits enc.is in (
      λ un. d.1 (λ v sat. un v (subst (λ z. SatisfiesAll v z) (sym enc.are) sat)),
      λ k v sat. d.0 k v (subst (λ z. SatisfiesAll v z) enc.are sat),
    )
