-- The span of a place, by halving.
use Rattle.std.proofs.Common.{◌≡◌, ℕ, ◌+◌, ◌<◌, ◌≤◌, ◌^◌, List, Some, length, get_or, slice_get, sym, subst, Contains}
use Rattle.std.proofs.lemmas.Option.{get_or_from_slice_get}
use Rattle.row_lists.specs.declared.span.Span.{Span}
use Rattle.row_lists.specs.Spans.{at, HasSpan, IsInSpan, IsSpanNumbering, IsOnlyAt}
use Rattle.row_lists.proofs.Numbers.{place_of}
use Rattle.row_lists.proofs.Reading.{no_span, numbers-small}

-- a span with the place stands between these bounds
abbrev pub IsBetween : List Span → ℕ → ℕ → ℕ → ℕ → Type 0
IsBetween spans F p low high = (k : ℕ) (s : Span) → slice_get spans k ≡ Some s → IsInSpan s (at F p) → (low ≤ k) × (k < high)

-- the span that is found is the one with the place
pub found_is : (spans : List Span) (F p found : ℕ) → IsOnlyAt spans F p found → (s : Span) → Contains spans s → IsInSpan s (at F p) → (found < length spans) × (get_or spans found no_span ≡ s)
found_is spans F p found only s m i =
    let k = place_of spans s m in
    subst (λ j. (j < length spans) × (get_or spans j no_span ≡ s)) (only k.0 s k.2 i) (k.1, get_or_from_slice_get spans k.0 s no_span k.2)

-- it has the place, and its numbers are small
pub found_in : (spans items : List Span) (vars : ℕ) → items ≡ spans → IsSpanNumbering spans vars → (F p found : ℕ) → IsOnlyAt items F p found → HasSpan spans F p →
    ((get_or items found no_span).start ≤ p) × (p < (get_or items found no_span).start + (get_or items found no_span).count) × ((get_or items found no_span).base + (get_or items found no_span).count < 2 ^ 32)
found_in spans items vars same h F p found only (s, m, i) =
    let e = (found_is items F p found only s (subst (λ ss. Contains ss s) (sym same) m) i).1 in
    subst (λ (u : Span). (u.start ≤ p) × (p < u.start + u.count) × (u.base + u.count < 2 ^ 32)) (sym e) (i.1, i.2, numbers-small spans vars h s m)
