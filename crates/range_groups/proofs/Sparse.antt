-- What the blocks of a table add up to, where most of them add nothing.
use Rattle.std.proofs.Common.{◌≡◌, ◌⊎◌, inl, inr, ℕ, ◌+◌, ◌<◌, ◌≤◌, List, [], ◌∷◌, length, Contains, refl, sym, ◌∙◌, ap, arith}
use Rattle.std.specs.Prelude.{ℤ, pos, ◌+ℤ◌}
use Rattle.std.proofs.lemmas.Int.{ints}
use Rattle.cqa_value.specs.declared.value.Value.{Value}
use Rattle.cqa_value.proofs.Words.{mem-head, mem-tail, mem-nil, mem-cases}
use Rattle.range_join.specs.declared.spans.Span.{Span}
use Rattle.range_join.specs.Firsts.{StandsIn, spans_from}
use Rattle.range_join.specs.Worths.{sum_of}

-- each item has a larger number than those before it
abbrev pub RisesBy : {A : Type 0} → (A → ℕ) → List A → Type 0
RisesBy key [] = Unit {0}
RisesBy {A} key (x ∷ xs) = ((y : A) → Contains xs y → key x < key y) × RisesBy key xs

-- ---- items that add nothing

nothing-more : (a b c : ℤ) → a ≡ pos 0 → b ≡ c → (a +ℤ b) ≡ c
nothing-more a b c e f = omega (arith, ints, e, f)

module _ {A : Type 0} (key : A → ℕ) where
  same-later : (x y z : A) → x ≡ y → x ≡ z → key y < key z → ⊥
  same-later x y z e f l = let a = ap key e in let b = ap key f in absurd (omega (arith, a, b, l))

  -- some of the items add up to as much as all of them, where no other adds anything
  pub sparse-sum : (f : A → ℤ) (xs ys : List A) → RisesBy key xs → RisesBy key ys → ((y : A) → Contains ys y → Contains xs y) → ((x : A) → Contains xs x → (Contains ys x → ⊥) → f x ≡ pos 0) → sum_of f xs ≡ sum_of f ys
  sparse-sum f [] [] rx ry sub none = refl
  sparse-sum f [] (y ∷ ys) rx ry sub none = absurd (mem-nil y (sub y (mem-head y ys)))
  sparse-sum f (x ∷ xs) [] rx ry sub none =
      nothing-more (f x) (sum_of f xs) (pos 0) (none x (mem-head x xs) (mem-nil x)) (sparse-sum f xs [] rx.1 tt (λ z m. absurd (mem-nil z m)) (λ z m n. none z (mem-tail z x xs m) n))
  sparse-sum f (x ∷ xs) (y ∷ ys) rx ry sub none = elim (mem-cases y x xs (sub y (mem-head y ys))) [
    | inl same ↦ (
        let rest = sparse-sum f xs ys rx.1 ry.1 (λ z m. elim (mem-cases z x xs (sub z (mem-tail z y ys m))) [ inl e ↦ absurd (same-later x y z same e (ry.0 z m)) | inr k ↦ k ])
        (λ z m n. none z (mem-tail z x xs m) (λ k. elim (mem-cases z y ys k) [ inl e ↦ absurd (same-later x x z refl (same ∙ e) (rx.0 z m)) | inr l ↦ n l ])) in
        ap (λ w. f w +ℤ sum_of f xs) same ∙ ap (λ s. f y +ℤ s) rest
        )
    | inr m ↦ (
        let less = rx.0 y m in
        let behind : (z : A) → Contains (y ∷ ys) z → key x < key z = λ z k. elim (mem-cases z y ys k) [ inl e ↦ (let a = ap key e in omega (arith, a, less)) | inr l ↦ (let a = ry.0 z l in omega (arith, a, less)) ] in
        nothing-more (f x) (sum_of f xs) (sum_of f (y ∷ ys)) (none x (mem-head x xs) (λ k. same-later x x x refl refl (behind x k)))
        (sparse-sum f xs (y ∷ ys) rx.1 ry (λ z k. elim (mem-cases z x xs (sub z k)) [ inl e ↦ absurd (same-later x x z refl e (behind z k)) | inr l ↦ l ]) (λ z k n. none z (mem-tail z x xs k) n))
        )
  ]

-- ---- the spans of blocks stand one behind the other

pub spans-within : (n : ℕ) (blocks : List (List (List Value))) → ((block : List (List Value)) → Contains blocks block → 0 < length block) → (s : Span) → Contains (spans_from n blocks) s → (n ≤ s.from) × (s.from < s.behind)
spans-within n [] some s m = absurd (mem-nil s m)
spans-within n (b ∷ blocks) some s m = elim (mem-cases s (record { from = n; behind = n + length b }) (spans_from (n + length b) blocks) m) [
  | inl e ↦ (let low = ap (λ (t : Span). t.from) e in let high = ap (λ (t : Span). t.behind) e in let l = some b (mem-head b blocks) in (omega (arith, low), omega (arith, low, high, l)))
  | inr k ↦ (let r = spans-within (n + length b) blocks (λ c h. some c (mem-tail c b blocks h)) s k in let low = r.0 in (omega (arith, low), r.1))
]

pub spans-rise : (n : ℕ) (blocks : List (List (List Value))) → ((block : List (List Value)) → Contains blocks block → 0 < length block) → RisesBy (λ (s : Span). s.from) (spans_from n blocks)
spans-rise n [] some = tt
spans-rise n (b ∷ blocks) some = (
  λ s m. let low = (spans-within (n + length b) blocks (λ c h. some c (mem-tail c b blocks h)) s m).0 in let l = some b (mem-head b blocks) in omega (arith, low, l),
  spans-rise (n + length b) blocks (λ c h. some c (mem-tail c b blocks h)),
)

-- two are the same, or one ends where the other begins or before
pub spans-apart : (n : ℕ) (blocks : List (List (List Value))) → ((block : List (List Value)) → Contains blocks block → 0 < length block) → (s t : Span) → Contains (spans_from n blocks) s → Contains (spans_from n blocks) t →
    (s ≡ t) ⊎ ((s.behind ≤ t.from) ⊎ (t.behind ≤ s.from))
spans-apart n [] some s t m k = absurd (mem-nil s m)
spans-apart n (b ∷ blocks) some s t m k = elim (mem-cases s head rest m) [
  | inl e ↦ elim (mem-cases t head rest k) [
    | inl f ↦ inl (sym e ∙ f)
    | inr later ↦ inr (inl (let high = ap (λ (u : Span). u.behind) e in let low = (spans-within (n + length b) blocks others t later).0 in omega (arith, high, low)))
  ]
  | inr later ↦ elim (mem-cases t head rest k) [
    | inl f ↦ inr (inr (let high = ap (λ (u : Span). u.behind) f in let low = (spans-within (n + length b) blocks others s later).0 in omega (arith, high, low)))
    | inr last ↦ spans-apart (n + length b) blocks others s t later last
  ]
]
  where
    head : Span
    head = record { from = n; behind = n + length b }

    rest : List Span
    rest = spans_from (n + length b) blocks

    others : (block : List (List Value)) → Contains blocks block → 0 < length block
    others c h = some c (mem-tail c b blocks h)

-- a place stands in one only
pub one-span : (n : ℕ) (blocks : List (List (List Value))) → ((block : List (List Value)) → Contains blocks block → 0 < length block) → (s t : Span) → Contains (spans_from n blocks) s → Contains (spans_from n blocks) t → (p : ℕ) → StandsIn s p → StandsIn t p → s ≡ t
one-span n blocks some s t m k p (a, b) (c, d) = elim (spans-apart n blocks some s t m k) [
  | inl e ↦ e
  | inr r ↦ absurd (elim r [ inl l ↦ omega (arith, l, a, b, c, d) | inr l ↦ omega (arith, l, a, b, c, d) ])
]
