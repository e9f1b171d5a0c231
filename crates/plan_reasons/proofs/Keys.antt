-- A key has at most as many columns as its table, since none stands twice in it.
use Rattle.std.proofs.Common.{◌≡◌, ◌<◌, ◌≤◌, ℕ, suc, false, List, [], ◌∷◌, length, get_or, ◌∙◌, arith, eqb}
use Rattle.std.proofs.lemmas.Bool.{eqb-true, ne_eqb}
use Rattle.std.specs.List.{IsDistinct}
use Rattle.std.proofs.lemmas.List.{get_or_default}
use Rattle.std.proofs.lemmas.List.Elements.{All-contains, recursion_from_All}
use Rattle.std.proofs.lemmas.Map.Views.{Contains-from_any}
use Rattle.std.proofs.lemmas.Map.Steps.{length-le_from_distinct_below}
use Rattle.cqa_model.specs.declared.query.Query.{Query}
use Rattle.cqa_model.specs.Query.{atom_at, atom_key}
use Rattle.cqa_model.specs.Shape.{AreDistinct}

pub are-distinct : (xs : List ℕ) → AreDistinct xs → IsDistinct eqb xs
unfolding IsDistinct
are-distinct [] h = tt
are-distinct (x ∷ xs) h = (
  recursion_from_All (λ y. eqb x y ≡ false) xs (λ k d l. ne_eqb x (get_or xs k d) (λ e. other k (h 0 (suc k) (omega arith) (omega (arith, l)) (e ∙ get_or_default xs k d 0 l)))),
  are-distinct xs (λ i j a b e. let same = h (suc i) (suc j) (omega (arith, a)) (omega (arith, b)) e in omega (arith, same)),
)
  where
    other : (k : ℕ) → 0 ≡ suc k → ⊥
    other k e = omega (arith, e)

-- and so at most as many as a table may have
pub few-keys : (q : Query) (F : ℕ) → F < length q.atoms → length (atom_key q F) ≤ 16
few-keys q F l =
    let kept = q.kept.each F l in
    let key = atom_key q F in
    let few : length key ≤ (atom_at q F).width = length-le_from_distinct_below key (atom_at q F).width (are-distinct key kept.key_apart) (λ p h. All-contains (λ c. c < (atom_at q F).width) key p kept.key_in_range (Contains-from_any eqb-true p key h)) in
    let wide = kept.width.1 in
    omega (arith, few, wide)
