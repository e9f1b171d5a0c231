-- Steps of the code.
use Rattle.std.proofs.Common.{◌≡◌, ℕ, suc, ◌<◌, ◌+◌, ◌-◌, false, List, [], ◌∷◌, ◌++◌, length, refl, ap, sym, ◌∙◌, subst, map, get_or, arith, Contains}
use Rattle.std.specs.List.{All, range_with_len, slice_index}
use Rattle.std.proofs.lemmas.List.{map-id, map-append, get_or_default}
use Rattle.std.proofs.lemmas.List.Elements.{Contains-get_or}
use Rattle.std.proofs.lemmas.List.FromFn.{map-range_with_len_more, length-map-range_with_len}
use Rattle.cqa_model.specs.declared.query.Atom.{Atom}
use Rattle.cqa_model.specs.declared.query.ColRef.{ColRef}
use Rattle.cqa_model.specs.declared.query.Query.{Query}
use Rattle.cqa_model.specs.declared.variable_class.Variables.{Variables}
use Rattle.cqa_model.specs.Shape.{IsInRange}
use Rattle.cqa_model.specs.Naming.{AreVariables, class_at}
use Rattle.cqa_model.proofs.Columns.{class-label}
use Rattle.cqa_model.specs.Query.{atom_at, atom_key}
use Rattle.cqa_model.specs.Labels.{label}
use Rattle.sql_steps.specs.Variables.{all_below, variables_of}
use Rattle.sql_steps.specs.declared.fitting.Fitting.{Fitting}
use Rattle.sql_steps.specs.Steps.{cell, cells_at, columns_of, others_of, see, see_all}
use Rattle.sql_steps.proofs.Membership.{columns-from, without-from}

pub below-none : all_below 0 ≡ []
unfolding all_below
below-none = refl

pub below-more : (n : ℕ) → all_below (n + 1) ≡ all_below n ++ n ∷ []
unfolding all_below
below-more n = rw (← map-id (range_with_len 0 (n + 1)), ← map-id (range_with_len 0 n)) (map-range_with_len_more (λ z. z) 0 n n (omega arith))

-- the variables of an atom are as many as its columns
pub columns-within : (q : Query) (F : ℕ) (vs columns : List ℕ) → vs ≡ variables_of q F → All (λ i. i < (atom_at q F).width) columns → All (λ i. i < length vs) columns
columns-within q F vs columns e h k d l =
    let n : length vs ≡ (atom_at q F).width = ap length e ∙ length-map-range_with_len (λ (i : ℕ). label q.conds (record { atom = F; col = i })) 0 (atom_at q F).width in
    omega (arith, h k d l, n)

-- an atom's columns, those of its key and those outside it are in its width
pub all-within : (q : Query) (F : ℕ) (columns : List ℕ) → columns ≡ columns_of q F → All (λ i. i < (atom_at q F).width) columns
all-within q F columns e k d l =
    subst (λ z. z < (atom_at q F).width) (get_or_default columns k 0 d l)
    (columns-from (atom_at q F).width (get_or columns k 0) (subst (λ z. Contains z (get_or columns k 0)) e (Contains-get_or columns k 0 l)))

pub others-within : (q : Query) (F : ℕ) (columns : List ℕ) → columns ≡ others_of q F → All (λ i. i < (atom_at q F).width) columns
others-within q F columns e k d l =
    subst (λ z. z < (atom_at q F).width) (get_or_default columns k 0 d l)
    (columns-from (atom_at q F).width (get_or columns k 0) (without-from (columns_of q F) (atom_key q F) (get_or columns k 0) (subst (λ z. Contains z (get_or columns k 0)) e (Contains-get_or columns k 0 l))).0)

pub key-within : (q : Query) (F : ℕ) (columns : List ℕ) → F < length q.atoms → columns ≡ atom_key q F → All (λ i. i < (atom_at q F).width) columns
key-within q F columns l e = subst (λ z. All (λ i. i < (atom_at q F).width) z) (sym e) (q.kept.each F l).key_in_range

pub variables-length : (q : Query) (F : ℕ) (vs : List ℕ) → vs ≡ variables_of q F → length vs ≡ (atom_at q F).width
variables-length q F vs e = ap length e ∙ length-map-range_with_len (λ (i : ℕ). label q.conds (record { atom = F; col = i })) 0 (atom_at q F).width

-- an answer column is in range
pub answer-item : (q : Query) (items : List ColRef) (i : ℕ) → items ≡ q.answer → i < length items → IsInRange q.atoms (get_or items i (record { atom = 0; col = 0 }))
answer-item q items i e l = q.kept.answer_in_range (get_or items i (record { atom = 0; col = 0 }))
    (subst (λ z. Contains z (get_or items i (record { atom = 0; col = 0 }))) e (Contains-get_or items i (record { atom = 0; col = 0 }) l))

-- one more column's variable
pub atom-read : (q : Query) (atoms : List Atom) (F : ℕ) (a : Atom) → atoms ≡ q.atoms → F < length q.atoms → get_or atoms F a ≡ atom_at q F
atom-read q atoms F a e l = ap (λ z. get_or z F a) e ∙ get_or_default q.atoms F a (record { table = 0; width = 0; key = []; strict = false }) l

pub variables-more : (q : Query) (v : Variables) → AreVariables q v → (F col x : ℕ) (list new : List ℕ) → F < length q.atoms → col < (atom_at q F).width →
    list ≡ map (λ i. label q.conds (record { atom = F; col = i })) (range_with_len 0 col) → new ≡ list ++ x ∷ [] → x ≡ class_at v (record { atom = F; col = col }) →
    new ≡ map (λ i. label q.conds (record { atom = F; col = i })) (range_with_len 0 (col + 1))
variables-more q v hv F col x list new lF lc el en ex =
    en ∙ ap (λ z. list ++ z ∷ []) (ex ∙ class-label q v hv (record { atom = F; col = col }) (lF, lc)) ∙ ap (λ z. z ++ label q.conds (record { atom = F; col = col }) ∷ []) el
    ∙ sym (map-range_with_len_more (λ i. label q.conds (record { atom = F; col = i })) 0 col col (omega arith))

-- the columns of a source, whose variables these are, seen one after the other
pub see-first : (vs : List ℕ) (place : ℕ) (fitting : Fitting) → see_all vs place (range_with_len 0 (length vs - 0)) fitting ≡ see_all vs place (all_below (length vs)) fitting
unfolding all_below
see-first vs place fitting =
    let all : length vs - 0 ≡ length vs = omega arith in
    ap (λ n. see_all vs place (range_with_len 0 n) fitting) all

pub see-next : (vs : List ℕ) (place column n : ℕ) (before now : Fitting) → column < n → now ≡ see before (slice_index vs column) (cell place column) →
    see_all vs place (range_with_len (column + 1) (n - (column + 1))) now ≡ see_all vs place (range_with_len column (n - column)) before
see-next vs place column n before now l e =
    let left : n - column ≡ suc (n - (column + 1)) = omega (arith, l) in
    ap (λ z. see_all vs place (range_with_len (column + 1) (n - (column + 1))) z) e
    ∙ sym (ap (λ z. see_all vs place (range_with_len column z) before) left)

pub range-more : (n : ℕ) → range_with_len 0 (n + 1) ≡ range_with_len 0 n ++ n ∷ []
range-more n = rw (← map-id (range_with_len 0 (n + 1)), ← map-id (range_with_len 0 n)) (map-range_with_len_more (λ z. z) 0 n n (omega arith))

-- the cells of one more column
pub cells-more : (place n : ℕ) → cells_at place (all_below (n + 1)) ≡ cells_at place (all_below n) ++ cell place n ∷ []
cells-more place n = ap (λ z. cells_at place z) (below-more n) ∙ map-append (λ i. cell place i) (all_below n) (n ∷ [])
