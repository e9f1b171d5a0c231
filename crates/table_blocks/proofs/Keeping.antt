-- Rows that stay where others of a stretch are taken out.
use Rattle.std.proofs.Common.{◌≡◌, ℕ, ◌+◌, inl, inr, Bool, true, false, cond, List, [], ◌∷◌, ◌++◌, take, drop, refl, sym, ap, ◌∙◌, subst}
use Rattle.std.specs.List.{filter, AllByRecursion}
use Rattle.std.specs.List.Sorted.{IsStrictlySortedBy}
use Rattle.std.specs.declared.cmp.Ordering.TheVariants.{Less}
use Rattle.std.proofs.lemmas.List.{take-append-drop, drop-drop, append_assoc}
use Rattle.cqa_value.specs.declared.value.Value.{Value}
use Rattle.cqa_value.proofs.Words.{recursion_from_members, member_by_recursion}
use Rattle.cqa_model.specs.Database.{block_cmp}
use Rattle.cqa_model.specs.Repairs.{IsSublist}
use Rattle.cqa_model.proofs.Repairs.{sublist-stored, sublist-drop}

-- some rows in block order, in their order, are in block order
pub sublist-sorted : (key : List ℕ) (xs ys : List (List Value)) → IsSublist xs ys → IsStrictlySortedBy (block_cmp key) ys → IsStrictlySortedBy (block_cmp key) xs
unfolding IsStrictlySortedBy
sublist-sorted key [] ys h s = tt
sublist-sorted key (x ∷ xs) [] h s = absurd h
sublist-sorted key (x ∷ xs) (y ∷ ys) (inl (e, h)) s = (
  subst (λ z. AllByRecursion (λ w. block_cmp key z w ≡ Less) xs) (sym e)
      (recursion_from_members (λ w. block_cmp key y w ≡ Less) xs (λ w m. member_by_recursion (λ w. block_cmp key y w ≡ Less) ys s.0 w (sublist-stored xs ys h w m))),
  sublist-sorted key xs ys h s.1,
)
sublist-sorted key (x ∷ xs) (y ∷ ys) (inr h) s = sublist-sorted key (x ∷ xs) ys h s.1

sublist-self : (xs : List (List Value)) → IsSublist xs xs
sublist-self [] = tt
sublist-self (x ∷ xs) = inl (refl, sublist-self xs)

sublist-filter : (p : List Value → Bool) (xs : List (List Value)) → IsSublist (filter p xs) xs
sublist-filter p [] = tt
sublist-filter p (y ∷ ys) = go (p y) (sublist-filter p ys)
  where
    go : (b : Bool) → IsSublist (filter p ys) ys → IsSublist (cond b (y ∷ filter p ys) (filter p ys)) (y ∷ ys)
    go true s = inl (refl, s)
    go false s = sublist-drop (filter p ys) ys y s

sublist-join : (xs ys us vs : List (List Value)) → IsSublist xs ys → IsSublist us vs → IsSublist (xs ++ us) (ys ++ vs)
sublist-join [] [] us vs s t = t
sublist-join [] (y ∷ ys) us vs s t = sublist-drop us (ys ++ vs) y (sublist-join [] ys us vs tt t)
sublist-join (x ∷ xs) [] us vs s t = absurd s
sublist-join (x ∷ xs) (y ∷ ys) us vs (inl (e, h)) t = inl (e, sublist-join xs ys us vs h t)
sublist-join (x ∷ xs) (y ∷ ys) us vs (inr h) t = inr (sublist-join (x ∷ xs) ys us vs h t)

pub kept-sublist : (p : List Value → Bool) (from count : ℕ) (rows : List (List Value)) → IsSublist ((take from rows ++ filter p (take count (drop from rows))) ++ drop (from + count) rows) rows
kept-sublist p from count rows =
    let front = take from rows in
    let middle = take count (drop from rows) in
    let behind = drop (from + count) rows in
    let whole : (front ++ middle) ++ behind ≡ rows =
    append_assoc front middle behind
    ∙ ap (λ xs. front ++ (middle ++ xs)) (sym (drop-drop count from rows))
    ∙ ap (λ xs. front ++ xs) (take-append-drop count (drop from rows))
    ∙ take-append-drop from rows
    in
    subst (IsSublist ((front ++ filter p middle) ++ behind)) whole
    (sublist-join (front ++ filter p middle) (front ++ middle) behind behind (sublist-join front front (filter p middle) middle (sublist-self front) (sublist-filter p middle)) (sublist-self behind))
