-- What is read of numbered spans, and their bounds.
use Rattle.std.proofs.Common.{◌≡◌, ℕ, zero, suc, ◌<◌, ◌≤◌, ◌+◌, ◌^◌, List, [], ◌∷◌, length, get_or, sym, subst, arith, Contains, slice_index_or}
use Rattle.std.proofs.lemmas.List.Elements.{Contains-get_or}
use Rattle.std.proofs.lemmas.Option.{get_or_from_slice_get, slice_get_within}
use Rattle.cqa_model.specs.Database.{Table, stored, row_total}
use Rattle.row_lists.specs.declared.span.Span.{Span}
use Rattle.row_lists.specs.Spans.{at, IsAt, IsInSpan, IsSpanNumbering}
use Rattle.row_lists.proofs.Spans.{based-below}

pub rows-few : (db : List Table) (t : ℕ) → length (slice_index_or (stored db) t []) ≤ row_total db
rows-few [] t = omega arith
rows-few (table ∷ db) zero = omega arith
rows-few (table ∷ db) (suc t) = let ih = rows-few db t in omega (arith, ih)

pub numbers-small : (spans : List Span) (vars : ℕ) → IsSpanNumbering spans vars → (s : Span) → Contains spans s → s.base + s.count < 2 ^ 32
numbers-small spans vars h s k = let b = based-below 0 vars spans h.based s k in let f = h.few in omega (arith, b, f)

abbrev pub no_span : Span
no_span = record { slot = 0; start = 0; count = 0; base = 0 }

pub read_in : (spans items : List Span) (k : ℕ) → items ≡ spans → k < length items → Contains spans (get_or items k no_span)
read_in spans items k e l = subst (λ ss. Contains ss (get_or items k no_span)) e (Contains-get_or items k no_span l)

pub span_read : (spans : List Span) (slot p k : ℕ) → IsAt spans slot p k → (k < length spans) × Contains spans (get_or spans k no_span) × IsInSpan (get_or spans k no_span) (at slot p)
span_read spans slot p k (s, e, i) =
    let l = slice_get_within spans k s e in
    (l, Contains-get_or spans k no_span l, subst (λ (u : Span). IsInSpan u (at slot p)) (sym (get_or_from_slice_get spans k s no_span e)) i)
