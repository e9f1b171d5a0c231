-- One list more, and the lists of both tables.
use Rattle.std.proofs.Common.{◌≡◌, ℕ, zero, suc, ◌+◌, ◌-◌, ◌<◌, ◌↔◌, List, [], ◌∷◌, ◌++◌, length, get_or, refl, append_assoc, sym, ◌∙◌, ap, subst, arith, Option, Some, None}
use native.Mathlib.Decide.{ℕ_discrete, dec_lt}
use Rattle.std.proofs.Math.ListN.{get_or-map}
use Rattle.std.proofs.lemmas.List.{length_push, append-nil, length-append, length-map, get_or_push, get_or_append_left, get_or-append-add, get_or_default}
use Rattle.cqa_value.specs.declared.value.Value.{Value}
use Rattle.table_blocks.specs.declared.bound.Bound.{Bound}
use Rattle.cqa_model.specs.declared.query.Query.{Query}
use Rattle.cqa_model.specs.Database.{key_of, nothing}
use Rattle.cqa_model.specs.Query.{rows_of}
use Rattle.cqa_model.specs.Plan.{Placed}
use Rattle.cqa_model.proofs.Reification.{placed}
use Rattle.weak_pairs.specs.Pairs.{FitsAlone}
use Rattle.weak_pairs.specs.Numbering.{AreShared, values_in}
use Rattle.pair_answers.specs.declared.side.Side.{Side}
use Rattle.pair_answers.specs.Numbers.{placed_in, numbered, place_of}
use Rattle.pair_answers.specs.Lists.{columns_of_side, AreColumnPairs, IsListOf, AreListsAdded, AreRowLists}

module _ (q : Query) (row : List Value) (columns : List ℕ) (F : ℕ) (rows : List (List Value)) (n : ℕ) (old new : List (Option (List Value))) (so : AreListsAdded q row columns F rows n old new) where
  pub added-more : (list : Option (List Value)) → IsListOf q row columns F (get_or rows n []) list → AreListsAdded q row columns F rows (n + 1) old (new ++ list ∷ [])
  added-more list is = record {
    size = let l = length_push new list in let s = so.size in omega (arith, l, s);
    kept = λ j l. get_or_append_left new (list ∷ []) None j (let s = so.size in omega (arith, l, s)) ∙ so.kept j l;
    added = λ i l. go i l (ℕ_discrete i n);
  }
    where
      go : (i : ℕ) → i < n + 1 → Dec (i ≡ n) → IsListOf q row columns F (get_or rows i []) (get_or (new ++ list ∷ []) (length old + i) None)
      go i l (yes e) = subst (λ z. IsListOf q row columns F (get_or rows z []) (get_or (new ++ list ∷ []) (length old + z) None)) (sym e)
          (subst (λ z. IsListOf q row columns F (get_or rows n []) z) (sym (get_or_push new list None (length old + n) so.size)) is)
      go i l (no ne) = subst (λ z. IsListOf q row columns F (get_or rows i []) z)
          (sym (get_or_append_left new (list ∷ []) None (length old + i) (let s = so.size in omega (arith, l, ne, s)))) (so.added i (omega arith))

-- rows gone over, whose lists were added, and rows left
pub record AreListedSoFar (q : Query) (row : List Value) (columns : List ℕ) (F : ℕ) (rows left : List (List Value)) (old new : List (Option (List Value))) : Type 0 where
  pub gone : List (List Value)
  pub parts : rows ≡ gone ++ left
  pub added : AreListsAdded q row columns F rows (length gone) old new

module _ (q : Query) (row : List Value) (columns : List ℕ) (F : ℕ) (rows : List (List Value)) (old : List (Option (List Value))) where
  pub listed-none : (left : List (List Value)) → left ≡ rows → AreListedSoFar q row columns F rows left old old
  listed-none left e = record { gone = []; parts = sym e; added = record { size = omega arith; kept = λ j l. refl; added = λ i l. absurd (omega (arith, l)) } }

  pub listed-more : (left later : List (List Value)) (x : List Value) (new : List (Option (List Value))) (list : Option (List Value)) → AreListedSoFar q row columns F rows left old new → left ≡ x ∷ later → IsListOf q row columns F x list →
      AreListedSoFar q row columns F rows later old (new ++ list ∷ [])
  listed-more left later x new list h e is = record {
    gone = h.gone ++ x ∷ [];
    parts = all ∙ sym (append_assoc h.gone (x ∷ []) later);
    added = subst (λ n. AreListsAdded q row columns F rows n old (new ++ list ∷ [])) (sym (length_push h.gone x)) (added-more q row columns F rows (length h.gone) old new h.added list (subst (λ z. IsListOf q row columns F z list) (sym here) is));
  }
    where
      all : rows ≡ h.gone ++ (x ∷ later)
      all = h.parts ∙ ap (λ z. h.gone ++ z) e

      here : get_or rows (length h.gone) [] ≡ x
      here = let k : length h.gone ≡ length h.gone + 0 = omega arith in ap (λ z. get_or z (length h.gone) []) all ∙ (ap (λ n. get_or (h.gone ++ (x ∷ later)) n []) k ∙ get_or-append-add h.gone (x ∷ later) 0 [])

  pub listed-all : (left : List (List Value)) (new : List (Option (List Value))) → AreListedSoFar q row columns F rows left old new → left ≡ [] → AreListsAdded q row columns F rows (length rows) old new
  listed-all left new h e = subst (λ n. AreListsAdded q row columns F rows n old new) (ap (λ (z : List (List Value)). length z) (sym (h.parts ∙ (ap (λ z. h.gone ++ z) e ∙ append-nil h.gone)))) h.added

-- the values in the columns of an atom
picked : (F : ℕ) (cols : List (ℕ × ℕ)) (x : List Value) → key_of (columns_of_side F cols) x ≡ values_in F cols x
picked zero [] x = refl
picked zero (c ∷ cols) x = ap (λ z. get_or x c.0 nothing ∷ z) (picked zero cols x)
picked (suc F) [] x = refl
picked (suc F) (c ∷ cols) x = ap (λ z. get_or x c.1 nothing ∷ z) (picked (suc F) cols x)

-- the lists of both tables
module _ (q : Query) (tables : List (List (List Value))) (row : List Value) (cols : List (ℕ × ℕ)) (shared : AreShared q cols) (one all : List (Option (List Value)))
    (a : AreListsAdded q row (columns_of_side 0 cols) 0 (rows_of q tables 0) (length (rows_of q tables 0)) [] one) (b : AreListsAdded q row (columns_of_side 1 cols) 1 (rows_of q tables 1) (length (rows_of q tables 1)) one all) where
  abbrev count : ℕ
  count = length (rows_of q tables 0)

  first : length one ≡ count
  first = let e = a.size in omega (arith, e)

  left-long : length (placed_in 0 (rows_of q tables 0)) ≡ count
  left-long = length-map (rows_of q tables 0) (placed 0)

  right-long : length (placed_in 1 (rows_of q tables 1)) ≡ length (rows_of q tables 1)
  right-long = length-map (rows_of q tables 1) (placed 1)

  long : length all ≡ length (numbered q tables)
  long = let e = b.size in let f = first in let l = length-append (placed_in 0 (rows_of q tables 0)) (placed_in 1 (rows_of q tables 1)) in let m = left-long in let n = right-long in omega (arith, e, f, l, m, n)

  pub row-lists : AreRowLists q tables row all
  row-lists = record { cols = cols; shared = shared; size = long; lists_are = λ i l. at i l (dec_lt i count) }
    where
      IsList : ℕ → Placed → Option (List Value) → Type 0
      IsList i t list = (x : List Value) → (list ≡ Some x) ↔ (FitsAlone q row t.atom t.row × (x ≡ values_in t.atom cols t.row))

      in-values : (F : ℕ) (x : List Value) (list : Option (List Value)) → IsListOf q row (columns_of_side F cols) F x list → (values : List Value) → (list ≡ Some values) ↔ (FitsAlone q row F x × (values ≡ values_in F cols x))
      in-values F x list h = subst (λ z. (values : List Value) → (list ≡ Some values) ↔ (FitsAlone q row F x × (values ≡ z))) (picked F cols x) h

      at : (i : ℕ) → i < length all → Dec (i < count) → IsList i (place_of q tables i) (get_or all i None)
      at i l (yes k) =
          let e : place_of q tables i ≡ placed 0 (get_or (rows_of q tables 0) i []) =
          get_or_append_left (placed_in 0 (rows_of q tables 0)) (placed_in 1 (rows_of q tables 1)) (placed 0 []) i (let m = left-long in omega (arith, k, m)) ∙ get_or-map (placed 0) (rows_of q tables 0) i [] in
          let f : get_or all i None ≡ get_or one (0 + i) None = b.kept i (let m = first in omega (arith, k, m)) ∙ ap (λ z. get_or one z None) (let z : i ≡ 0 + i = omega arith in z) in
          subst (λ t. IsList i t (get_or all i None)) (sym e) (subst (λ z. IsList i (placed 0 (get_or (rows_of q tables 0) i [])) z) (sym f) (in-values 0 (get_or (rows_of q tables 0) i []) (get_or one (0 + i) None) (a.added i k)))
      at i l (no nk) =
          let j : ℕ = i - count in
          let ij : i ≡ length (placed_in 0 (rows_of q tables 0)) + j = (let m = left-long in omega (arith, nk, m)) in
          let lj : j < length (rows_of q tables 1) = (let s = b.size in let m = first in omega (arith, l, nk, s, m)) in
          let e : place_of q tables i ≡ placed 1 (get_or (rows_of q tables 1) j []) =
          ap (λ z. get_or (numbered q tables) z (placed 0 [])) ij ∙ get_or-append-add (placed_in 0 (rows_of q tables 0)) (placed_in 1 (rows_of q tables 1)) j (placed 0 []) ∙
          get_or_default (placed_in 1 (rows_of q tables 1)) j (placed 0 []) (placed 1 []) (let m = right-long in omega (arith, lj, m)) ∙ get_or-map (placed 1) (rows_of q tables 1) j [] in
          let f : get_or all i None ≡ get_or all (length one + j) None = ap (λ z. get_or all z None) (let z : i ≡ length one + j = (let m = first in omega (arith, nk, m)) in z) in
          subst (λ t. IsList i t (get_or all i None)) (sym e) (subst (λ z. IsList i (placed 1 (get_or (rows_of q tables 1) j [])) z) (sym f) (in-values 1 (get_or (rows_of q tables 1) j []) (get_or all (length one + j) None) (b.added j lj)))

pub row-lists-of : (q : Query) (tables : List (List (List Value))) (row : List Value) (left_columns right_columns : List ℕ) (left right : List (List Value)) (none one all : List (Option (List Value))) →
    AreColumnPairs q left_columns right_columns → left ≡ rows_of q tables 0 → right ≡ rows_of q tables 1 → none ≡ [] →
    AreListsAdded q row left_columns 0 left (length left) none one → AreListsAdded q row right_columns 1 right (length right) one all → AreRowLists q tables row all
row-lists-of q tables row left_columns right_columns left right none one all c fl fr en a b =
    row-lists q tables row c.cols c.shared one all
    (subst (λ z. AreListsAdded q row (columns_of_side 0 c.cols) 0 (rows_of q tables 0) (length (rows_of q tables 0)) z one) en
    (subst (λ z. AreListsAdded q row (columns_of_side 0 c.cols) 0 z (length z) none one) fl (subst (λ z. AreListsAdded q row z 0 left (length left) none one) c.left_are a)))
    (subst (λ z. AreListsAdded q row (columns_of_side 1 c.cols) 1 z (length z) one all) fr (subst (λ z. AreListsAdded q row z 1 right (length right) one all) c.right_are b))

-- the lists of an atom, made by its side
pub of-side : (s : Side) (bound : Bound) (row : List Value) (F : ℕ) (columns : List ℕ) → s.bound.now ≡ bound → s.row.now ≡ row → s.atom ≡ F → s.columns.now ≡ columns →
    (rows : List (List Value)) (n : ℕ) (old new : List (Option (List Value))) → AreListsAdded s.bound.now.query.now s.row.now s.columns.now s.atom rows n old new → AreListsAdded bound.query.now row columns F rows n old new
of-side s bound row F columns eb er ef ec rows n old new h =
    subst (λ (b : Bound). AreListsAdded b.query.now row columns F rows n old new) eb
    (subst (λ r. AreListsAdded s.bound.now.query.now r columns F rows n old new) er
    (subst (λ c. AreListsAdded s.bound.now.query.now s.row.now c F rows n old new) ec
    (subst (λ G. AreListsAdded s.bound.now.query.now s.row.now s.columns.now G rows n old new) ef h)))
