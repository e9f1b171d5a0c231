-- Where the blocks of both tables begin, as code finds it: those of the first table, and then those of the second.
use Rattle.std.proofs.Common.{◌≡◌, ℕ, ◌+◌, ◌-◌, ◌<◌, List, [], ◌∷◌, ◌++◌, length, ap, sym, ◌∙◌, subst, arith}
use Rattle.cqa_value.specs.declared.value.Value.{Value}
use Rattle.cqa_model.specs.declared.query.Query.{Query}
use Rattle.cqa_model.specs.Database.{Table, stored}
use Rattle.cqa_model.specs.Query.{atom_at, atom_key, rows_of, FitsDatabase}
use Rattle.cqa_model.specs.Blocks.{AreBlocks}
use Rattle.table_blocks.specs.Tables.{key_at, rows_at}
use Rattle.weak_pairs.specs.Starts.{ends_from}
use Rattle.pair_answers.specs.Numbers.{AreRowStarts}
use Rattle.weak_pairs.proofs.Begins.{ends-length}

module _ (db : List Table) (q : Query) (fits : FitsDatabase q db) (two : length q.atoms ≡ 2) where
  blocks-of : (F t : ℕ) → F < length q.atoms → t ≡ (atom_at q F).table → (bs : List (List (List Value))) → AreBlocks (key_at db t) (rows_at db t) bs → AreBlocks (atom_key q F) (rows_of q (stored db) F) bs
  blocks-of F t l e bs h = subst (λ key. AreBlocks key (rows_of q (stored db) F) bs) (sym (fits.keyed F l)) (subst (λ z. AreBlocks (key_at db z) (rows_at db z) bs) e h)

  abbrev Appended : ℕ → ℕ → List ℕ → List ℕ → Type 0
  Appended t n old new = (bs : List (List (List Value))) × AreBlocks (key_at db t) (rows_at db t) bs × (new ≡ old ++ ends_from n bs)

  pub row-starts : (t u middle len : ℕ) (none first all : List ℕ) → t ≡ (atom_at q 0).table → u ≡ (atom_at q 1).table → none ≡ 0 ∷ [] → Appended t 0 none first →
      middle ≡ 0 + length (rows_at db t) → len ≡ length first → Appended u middle first all → AreRowStarts q (stored db) all (len - 1)
  row-starts t u middle len none first all et eu e0 (xs, hx, ex) em el (ys, hy, ey) = record {
    left = xs;
    right = ys;
    left_are = blocks-of 0 t (omega (arith, two)) et xs hx;
    right_are = blocks-of 1 u (omega (arith, two)) eu ys hy;
    is = ey ∙ ap (λ z. z ++ ends_from middle ys) is_first ∙ ap (λ z. 0 ∷ (ends_from 0 xs ++ ends_from z ys)) is_middle;
    split_is = let n = ap length is_first in let m = ends-length 0 xs in omega (arith, el, n, m);
  }
    where
      is_first : first ≡ 0 ∷ ends_from 0 xs
      is_first = ex ∙ ap (λ z. z ++ ends_from 0 xs) e0

      is_middle : middle ≡ length (rows_of q (stored db) 0)
      is_middle = let e = ap (λ z. length (rows_at db z)) et in omega (arith, em, e)
