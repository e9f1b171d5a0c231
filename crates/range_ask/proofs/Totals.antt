-- What rows add up to.
use Rattle.std.proofs.Common.{◌≡◌, suc, Bool, true, false, cond, List, [], ◌∷◌, length, filter, refl, ◌∙◌, ap, arith}
use Rattle.std.specs.Prelude.{ℤ, pos, ◌+ℤ◌, ◌≤ℤ◌}
use Rattle.std.specs.List.{AllZip}
use Rattle.std.proofs.lemmas.Int.{ints}
use Rattle.cqa_value.specs.declared.value.Value.{Value}
use Rattle.table_blocks.specs.declared.test.ColumnTest.{ColumnTest}
use Rattle.range_ask.specs.Ranges.{meets, part, total}
use Rattle.range_ask.specs.Picks.{ArePicked, worth, IsCheapest, IsDearest}

total-filter : (p : List Value → Bool) (f : List Value → ℤ) (rows : List (List Value)) → total f (filter p rows) ≡ total (worth p f) rows
total-filter p f [] = refl
total-filter p f (x ∷ rows) = go (p x) (total-filter p f rows)
  where
    go : (b : Bool) → total f (filter p rows) ≡ total (worth p f) rows → total f (cond b (x ∷ filter p rows) (filter p rows)) ≡ cond b (f x) (pos 0) +ℤ total (worth p f) rows
    go true e = ap (λ n. f x +ℤ n) e
    go false e = e ∙ omega (arith, ints)

total-count : (rows : List (List Value)) → pos (length rows) ≡ total (λ row. pos 1) rows
total-count [] = refl
total-count (x ∷ rows) = let e : pos (suc (length rows)) ≡ pos 1 +ℤ pos (length rows) = omega (arith, ints) in e ∙ ap (λ n. pos 1 +ℤ n) (total-count rows)

-- the count and the sum of the rows that meet the tests are what all rows are worth
pub count-is : (tests : List ColumnTest) (rows : List (List Value)) → pos (length (part tests rows)) ≡ total (worth (meets tests) (λ row. pos 1)) rows
count-is tests rows = total-count (part tests rows) ∙ total-filter (meets tests) (λ row. pos 1) rows

pub sum-is : (tests : List ColumnTest) (f : List Value → ℤ) (rows : List (List Value)) → total f (part tests rows) ≡ total (worth (meets tests) f) rows
sum-is tests f rows = total-filter (meets tests) f rows

pub sum-mono : (a b c d : ℤ) → a ≤ℤ b → c ≤ℤ d → (a +ℤ c) ≤ℤ (b +ℤ d)
sum-mono a b c d h k = omega (arith, ints, h, k)

-- rows of least worth have the least total of all picks, and rows of greatest worth the greatest
pub low : (f : List Value → ℤ) (blocks : List (List (List Value))) (xs ys : List (List Value)) → AllZip (IsCheapest f) blocks xs → ArePicked blocks ys → total f xs ≤ℤ total f ys
low f [] [] [] h p = omega (arith, ints)
low f [] [] (y ∷ ys) h p = absurd p
low f [] (x ∷ xs) ys h p = absurd h
low f (b ∷ bs) [] ys h p = absurd h
low f (b ∷ bs) (x ∷ xs) [] h p = absurd p
low f (b ∷ bs) (x ∷ xs) (y ∷ ys) h p = sum-mono (f x) (f y) (total f xs) (total f ys) (h.0.least y p.0) (low f bs xs ys h.1 p.1)

pub high : (f : List Value → ℤ) (blocks : List (List (List Value))) (xs ys : List (List Value)) → AllZip (IsDearest f) blocks xs → ArePicked blocks ys → total f ys ≤ℤ total f xs
high f [] [] [] h p = omega (arith, ints)
high f [] [] (y ∷ ys) h p = absurd p
high f [] (x ∷ xs) ys h p = absurd h
high f (b ∷ bs) [] ys h p = absurd h
high f (b ∷ bs) (x ∷ xs) [] h p = absurd p
high f (b ∷ bs) (x ∷ xs) (y ∷ ys) h p = sum-mono (f y) (f x) (total f ys) (total f xs) (h.0.most y p.0) (high f bs xs ys h.1 p.1)
