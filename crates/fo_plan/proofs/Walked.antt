-- Blocks that are gone over one after the other, in rows in block order.
use Rattle.std.proofs.Common.{◌≡◌, ◌↔◌, ◌<◌, ◌≤◌, ◌+◌, ◌-◌, ℕ, suc, Bool, IsTrue, false, Option, None, Some, IfSome, List, [], ◌∷◌, ◌++◌, length, take, drop, refl, sym, ap, ◌∙◌, subst, arith, Contains}
use native.Mathlib.Decide.{dec_lt}
use Rattle.std.specs.List.Sorted.{IsStrictlySortedBy}
use Rattle.std.proofs.lemmas.Bool.{false≢true}
use Rattle.std.proofs.lemmas.List.{drop-drop, length-drop, length-take-le, get_or_default, get_or-drop, get_or-take, take-append-drop}
use Rattle.std.proofs.lemmas.List.Elements.{Contains-get_or}
use Rattle.cqa_value.specs.declared.value.Value.{Value}
use Rattle.cqa_model.specs.Repairs.{SharesKey}
use Rattle.cqa_model.specs.Database.{block_cmp}
use Rattle.cqa_model.proofs.BlockOrder.{grouped}
use Rattle.cqa_model.proofs.Repairs.{shares-sym, shares-trans}
use Rattle.table_blocks.proofs.Spanning.{sorted-part}
use Rattle.plan_rows.specs.Wanted.{IsWanted, NoneWanted}
use Rattle.plan_rows.specs.declared.wanted.Wanted.{Wanted}
use Rattle.plan_rows.specs.declared.wanted.Wanted.TheVariants.{All}
use Rattle.fo_plan.specs.Enough.{row_at_place, IsFirstOfBlock, IsBlockAt, IsBlockPassed, IsNextSought, IsSpot}
use Rattle.fo_plan.specs.declared.enough.Blocks.{Blocks}
use Rattle.fo_plan.specs.declared.enough.Spot.{Spot}

module _ (key : List ℕ) (rows : List (List Value)) (sorted : IsStrictlySortedBy (block_cmp key) rows) (at : ℕ) (leads : at < length rows → IsFirstOfBlock key rows at) (rest : List (List Value)) (is : rest ≡ drop at rows)
    (end : ℕ) (behind : 0 < end) (within : end ≤ length rest) (ends : (i : ℕ) → 0 ≤ i → i < length rest → SharesKey key (row_at_place rest 0) (row_at_place rest i) ↔ (i < end)) where
  long : length rest ≡ length rows - at
  long = ap length is ∙ length-drop at rows

  there : at < length rows
  there = omega (arith, behind, within, long)

  read : (i : ℕ) → row_at_place rest i ≡ row_at_place rows (at + i)
  read i = ap (λ xs. row_at_place xs i) is ∙ get_or-drop at rows i []

  read-at : (k : ℕ) → at ≤ k → row_at_place rest (k - at) ≡ row_at_place rows k
  read-at k low = read (k - at) ∙ ap (row_at_place rows) (let e : at + (k - at) ≡ k = omega (arith, low) in e)

  read-first : row_at_place rest 0 ≡ row_at_place rows at
  read-first = read 0 ∙ ap (row_at_place rows) (let e : at + 0 ≡ at = omega arith in e)

  -- the rows up to the end share the key of the row at the place, and the others don't
  shares-below : (k : ℕ) → at ≤ k → k < length rows → SharesKey key (row_at_place rows at) (row_at_place rows k) → k < at + end
  shares-below k low l s =
      let inside : k - at < length rest = omega (arith, low, l, long) in
      let near = (ends (k - at) (omega arith) inside).0 (subst (λ x. SharesKey key x (row_at_place rest (k - at))) (sym read-first) (subst (SharesKey key (row_at_place rows at)) (sym (read-at k low)) s)) in
      omega (arith, low, near)

  below-shares : (k : ℕ) → at ≤ k → k < at + end → SharesKey key (row_at_place rows at) (row_at_place rows k)
  below-shares k low l =
      let inside : k - at < length rest = omega (arith, low, l, within, behind) in
      let near : k - at < end = omega (arith, low, l, behind) in
      subst (SharesKey key (row_at_place rows at)) (read-at k low) (subst (λ x. SharesKey key x (row_at_place rest (k - at))) read-first ((ends (k - at) (omega arith) inside).1 near))

  pub walked-block : (block : List (List Value)) → block ≡ take end rest → IsBlockAt key rows at block
  walked-block block e = record {
    there = there;
    leads = leads there;
    some = let l = size in omega (arith, l, behind);
    in_order = sorted-part (block_cmp key) (take at rows) block (drop end rest)
        (subst (IsStrictlySortedBy (block_cmp key)) (sym (take-append-drop at rows) ∙ ap (λ l. take at rows ++ l) (sym is ∙ (sym (take-append-drop end rest) ∙ ap (λ b. b ++ drop end rest) (sym e)))) sorted);
    exactly = λ y. (
      (λ m. let i = m.0 in let l = m.1 in let n = size in
          let near : i < end = omega (arith, l, n) in
          let row : row_at_place rows (at + i) ≡ y = sym (cell i near ∙ read i) ∙ (get_or_default block i [] y l ∙ m.2) in
          let inside : at + i < length rows = omega (arith, near, within, long) in (
            subst (Contains rows) row (Contains-get_or rows (at + i) [] inside),
            subst (SharesKey key (row_at_place rows at)) row (below-shares (at + i) (omega arith) (omega (arith, near))),
          )),
      (λ p. let m = p.0 in let row : row_at_place rows m.0 ≡ y = get_or_default rows m.0 [] y m.1 ∙ m.2 in here y m.0 m.1 row p.1 (dec_lt m.0 at)),
    );
  }
    where
      size : length block ≡ end
      size = ap length e ∙ length-take-le end rest within

      cell : (i : ℕ) → i < end → row_at_place block i ≡ row_at_place rest i
      cell i l = ap (λ xs. row_at_place xs i) e ∙ get_or-take end rest i [] l

      here : (y : List Value) (i : ℕ) → i < length rows → row_at_place rows i ≡ y → SharesKey key (row_at_place rows at) y → Dec (i < at) → Contains block y
      here y i l row s (yes a) = absurd (leads there i a (shares-sym key (row_at_place rows at) (row_at_place rows i) (subst (SharesKey key (row_at_place rows at)) (sym row) s)))
      here y i l row s (no a) =
          let low : at ≤ i = omega (arith, a) in
          let high = shares-below i low l (subst (SharesKey key (row_at_place rows at)) (sym row) s) in
          let near : i - at < end = omega (arith, low, high, behind) in
          let n = size in
          subst (Contains block) (cell (i - at) near ∙ (read-at i low ∙ row)) (Contains-get_or block (i - at) [] (omega (arith, near, n)))

  pub walked-begins : at + end < length rows → IsFirstOfBlock key rows (at + end)
  walked-begins l j lj s = go (dec_lt j at)
    where
      go : Dec (j < at) → ⊥
      go (yes a) = leads there j a (grouped key rows sorted j at (at + end) (omega (arith, a)) (omega arith) l s)
      go (no a) =
          let near = shares-below (at + end) (omega arith) l (shares-trans key (row_at_place rows at) (row_at_place rows j) (row_at_place rows (at + end)) (below-shares j (omega (arith, a)) lj) s) in
          omega (arith, near)

  pub walked-rest : (later : List (List Value)) → later ≡ drop end rest → later ≡ drop (at + end) rows
  walked-rest later e = e ∙ (ap (drop end) is ∙ drop-drop end at rows)

  pub walked-within : at + end ≤ length rows
  walked-within = omega (arith, within, long, there)

-- it is the next one
pub walked-next : (s : Blocks) (sorted : IsStrictlySortedBy (block_cmp s.key.now) s.rows) (at : ℕ) (leads : at < length s.rows → IsFirstOfBlock s.key.now s.rows at) (rest : List (List Value)) (is : rest ≡ drop at s.rows) (end : ℕ) (behind : 0 < end)
    (within : end ≤ length rest) (ends : (i : ℕ) → 0 ≤ i → i < length rest → SharesKey s.key.now (row_at_place rest 0) (row_at_place rest i) ↔ (i < end)) (block : List (List Value)) → block ≡ take end rest → IsNextSought s at block (at + end)
walked-next s sorted at leads rest is end behind within ends block e = record {
  at = at;
  is = walked-block s.key.now s.rows sorted at leads rest is end behind within ends block e;
  low = omega arith;
  high = omega (arith, behind);
  before = λ k low high. absurd (omega (arith, low, high));
  behind = λ k low high first wanted. first at (omega (arith, low)) (below-shares s.key.now s.rows sorted at leads rest is end behind within ends k (omega (arith, low)) high);
}

-- what is the next block from a place on is so from an earlier one, if nothing is left out between
pub found-next : (s : Blocks) (from at on : ℕ) (block : List (List Value)) → from ≤ at → IsBlockPassed s from at → IsNextSought s at block on → IsNextSought s from block on
found-next s from at on block low passed n = record {
  at = n.at;
  is = n.is;
  low = let l = n.low in omega (arith, l, low);
  high = n.high;
  before = λ k l h. go k l h (dec_lt k at);
  behind = n.behind;
}
  where
    go : (k : ℕ) → from ≤ k → k < n.at → Dec (k < at) → IsFirstOfBlock s.key.now s.rows k → IsWanted s.wanted k → ⊥
    go k l h (yes b) = passed k l b
    go k l h (no b) = n.before k (omega (arith, b)) h

-- a place behind a block
pub spot-behind : (s : Blocks) (from : ℕ) (spot : Spot) (block : List (List Value)) → IsNextSought s from block spot.place → spot.place ≤ length s.rows → IfSome spot.last (λ at. at < spot.place) →
    spot.rest ≡ drop spot.place s.rows → (spot.place < length s.rows → IsFirstOfBlock s.key.now s.rows spot.place) → IsSpot s spot
spot-behind s from spot block n within last rest begins = record {
  last = go spot.last last;
  rest = rest;
  begins = λ e. begins;
}
  where
    go : (o : Option ℕ) → IfSome o (λ at. at < spot.place) → IfSome o (λ at. (at < spot.place) × (spot.place ≤ length s.rows))
    go None h = tt
    go (Some at) h = (h, within)

-- a block begins before a later place too
pub last-before : (o : Option ℕ) (rows : List (List Value)) (place on : ℕ) → IfSome o (λ at. (at < place) × (place ≤ length rows)) → place < on → IfSome o (λ at. at < on)
last-before None rows place on h l = tt
last-before (Some at) rows place on (b, w) l = omega (arith, b, l)

-- where rows are left, there is one at the place
pub rest-there : (rows : List (List Value)) (at : ℕ) (rest : List (List Value)) (t : Bool) → rest ≡ drop at rows → IsTrue t ↔ (rest ≡ []) → t ≡ false → at < length rows
rest-there rows at [] t is says off = absurd (false≢true (sym off ∙ says.1 refl))
rest-there rows at (x ∷ rest) t is says off = let l = length-drop at rows in let e : suc (length rest) ≡ length (drop at rows) = ap length is in omega (arith, l, e)

-- where all are looked for, the first place is 0
pub starts-all : (w : Wanted) (place : ℕ) → w ≡ All → NoneWanted w 0 place → place ≡ 0
starts-all w place e none = go (dec_lt 0 place)
  where
    go : Dec (0 < place) → place ≡ 0
    go (yes l) = absurd (none 0 (omega arith) l (subst (λ v. IsWanted v 0) (sym e) tt))
    go (no l) = omega (arith, l)
