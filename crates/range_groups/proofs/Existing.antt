-- Of each block there is a place that no other place of it goes before.
use Rattle.std.proofs.Common.{◌≡◌, ℕ, zero, suc, ◌+◌, ◌-◌, ◌<◌, Bool, false, cond, List, [], ◌∷◌, map, Contains, refl, ap, subst, arith}
use Rattle.std.specs.Prelude.{ℤ, ◌+ℤ◌}
use Rattle.std.specs.List.{AllZip}
use Rattle.cqa_value.proofs.Words.{mem-head, mem-tail}
use Rattle.cqa_model.specs.Database.{Table}
use Rattle.range_ask.specs.Picks.{IsInBlocks}
use Rattle.range_join.specs.declared.spans.Span.{Span}
use Rattle.range_join.specs.Firsts.{spans_at, blocks_at, IsStrictOrder, IsFirst, AreFirsts}
use Rattle.range_join.specs.Worths.{sum_of}
use Rattle.range_join.proofs.Firsting.{IsFirstOf, first-one, first-more}
use Rattle.range_groups.proofs.Sparse.{spans-within}

module _ (before : ℕ → ℕ → Bool) (strict : IsStrictOrder before) where
  -- of the first n + 1 places from one on
  first-of : (start n : ℕ) → (at : ℕ) × IsFirstOf before start (n + 1) at
  first-of start zero = (0, first-one before strict start 0 refl)
  first-of start (suc n) =
      let r = first-of start n in
      let goes = before (start + (n + 1)) (start + r.0) in
      let same : n + 1 + 1 ≡ suc n + 1 = omega arith in
      (cond goes (n + 1) r.0, subst (λ m. IsFirstOf before start m (cond goes (n + 1) r.0)) same (first-more before strict start (n + 1) r.0 r.1 goes refl))

  first_at : ℕ → ℕ → ℕ
  first_at start zero = 0
  first_at start (suc n) = (first-of start n).0

  -- of a span
  pub first_in : Span → ℕ
  first_in s = s.from + first_at s.from (s.behind - s.from)

  pub first-in : (s : Span) → s.from < s.behind → IsFirst before s (first_in s)
  unfolding first_in first_at
  first-in s some = go (s.behind - s.from) refl
    where
      go : (k : ℕ) → s.behind - s.from ≡ k → IsFirst before s (s.from + first_at s.from k)
      go zero e = absurd (omega (arith, some, e))
      go (suc n) e =
          let f = (first-of s.from n).1 in record {
            there = (omega arith, (let l = f.there in omega (arith, l, e)));
            first = λ q m.
                let low = m.0 in
                let high = m.1 in
                let same : s.from + (q - s.from) ≡ q = omega (arith, low) in
                subst (λ k. before k (s.from + (first-of s.from n).0) ≡ false) same (f.first (q - s.from) (omega (arith, low, high, e)));
          }

  firsts-in : (spans : List Span) → ((s : Span) → Contains spans s → s.from < s.behind) → AllZip (IsFirst before) spans (map first_in spans)
  firsts-in [] some = tt
  firsts-in (s ∷ spans) some = (first-in s (some s (mem-head s spans)), firsts-in spans (λ t m. some t (mem-tail t s spans m)))

  -- of each block of a table
  pub firsts-are : (db : List Table) (table : ℕ) → IsInBlocks db table (blocks_at db table) → AreFirsts before db table (map first_in (spans_at db table))
  firsts-are db table parted = record {
    parted = parted;
    firsts = firsts-in (spans_at db table) (λ s m. (spans-within 0 (blocks_at db table) parted.blocks_are.some s m).1);
  }

-- what numbers at places add up to, by spans
pub sum-map : {A B : Type 0} (f : A → B) (w : B → ℤ) (xs : List A) → sum_of w (map f xs) ≡ sum_of (λ x. w (f x)) xs
sum-map f w [] = refl
sum-map f w (x ∷ xs) = ap (λ s. w (f x) +ℤ s) (sum-map f w xs)
