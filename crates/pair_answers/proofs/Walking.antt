-- The ends of the blocks that a cursor has gone over.
use Rattle.std.proofs.Common.{◌≡◌, ℕ, ◌+◌, ◌≤◌, List, [], ◌∷◌, ◌++◌, length, refl, sym, ap, ◌∙◌, arith}
use Rattle.std.proofs.lemmas.List.{append_assoc, append-nil, length-append}
use Rattle.cqa_value.specs.declared.value.Value.{Value}
use Rattle.weak_pairs.specs.Starts.{ends_from}
use Rattle.weak_pairs.proofs.Begins.{flat, ends-length, ends-append, flat-append}

-- the blocks are those gone over and those left, and the ends of the former were appended
pub record AreEndsSoFar (first : ℕ) (old : List ℕ) (all left : List (List (List Value))) (ends : List ℕ) (end : ℕ) : Type 0 where
  pub gone : List (List (List Value))
  pub parts : all ≡ gone ++ left
  pub ends_are : ends ≡ old ++ ends_from first gone
  pub end_is : end ≡ first + length (flat gone)

pub none-gone : (first : ℕ) (old : List ℕ) (all : List (List (List Value))) → AreEndsSoFar first old all all old first
none-gone first old all = record { gone = []; parts = refl; ends_are = sym (append-nil old); end_is = omega arith }

pub one-more : (first : ℕ) (old : List ℕ) (all left next : List (List (List Value))) (block : List (List Value)) (ends : List ℕ) (end : ℕ) → AreEndsSoFar first old all left ends end →
    left ≡ block ∷ next → AreEndsSoFar first old all next (ends ++ (end + length block) ∷ []) (end + length block)
one-more first old all left next block ends end so e = record {
  gone = so.gone ++ block ∷ [];
  parts = so.parts ∙ ap (λ z. so.gone ++ z) e ∙ sym (append_assoc so.gone (block ∷ []) next);
  ends_are = ap (λ z. z ++ (end + length block) ∷ []) so.ends_are ∙ append_assoc old (ends_from first so.gone) ((end + length block) ∷ []) ∙
      ap (λ z. old ++ z) (ap (λ z. ends_from first so.gone ++ (z + length block) ∷ []) so.end_is ∙ sym (ends-append first so.gone (block ∷ [])));
  end_is = let h = so.end_is in let l = length-append (flat so.gone) block in let m = ap length (flat-append so.gone (block ∷ []) ∙ ap (λ z. flat so.gone ++ z) (append-nil block)) in omega (arith, h, l, m);
}

pub end-small : (first : ℕ) (old : List ℕ) (all left next : List (List (List Value))) (block rows : List (List Value)) (ends : List ℕ) (end : ℕ) → AreEndsSoFar first old all left ends end →
    left ≡ block ∷ next → flat all ≡ rows → end + length block ≤ first + length rows
end-small first old all left next block rows ends end so e joined =
    let parts : flat so.gone ++ (block ++ flat next) ≡ rows = sym (flat-append so.gone (block ∷ next)) ∙ ap flat (sym (so.parts ∙ ap (λ z. so.gone ++ z) e)) ∙ joined in
    let whole = ap length parts in
    let one = length-append (flat so.gone) (block ++ flat next) in
    let two = length-append block (flat next) in
    let h = so.end_is in
    omega (arith, whole, one, two, h)

pub all-gone : (first : ℕ) (old : List ℕ) (all left : List (List (List Value))) (ends : List ℕ) (end : ℕ) → AreEndsSoFar first old all left ends end → left ≡ [] →
    (ends ≡ old ++ ends_from first all) × (end ≡ first + length (flat all))
all-gone first old all left ends end so none =
    let same : so.gone ≡ all = sym (so.parts ∙ ap (λ z. so.gone ++ z) none ∙ append-nil so.gone) in
    (so.ends_are ∙ ap (λ z. old ++ ends_from first z) same, so.end_is ∙ ap (λ z. first + length (flat z)) same)

pub few-ends : (first : ℕ) (old : List ℕ) (all left : List (List (List Value))) (ends : List ℕ) (end : ℕ) → AreEndsSoFar first old all left ends end → length ends ≤ length old + length all
few-ends first old all left ends end so =
    let a = ap length so.ends_are in
    let b = length-append old (ends_from first so.gone) in
    let c = ends-length first so.gone in
    let d = ap length so.parts in
    let e = length-append so.gone left in
    omega (arith, a, b, c, d, e)
