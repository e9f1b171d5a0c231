-- For each place the span of its block, by the places where the blocks begin.
use Rattle.std.proofs.Common.{◌≡◌, ◌⊎◌, inl, inr, ℕ, zero, suc, ◌+◌, ◌<◌, ◌≤◌, false, List, [], ◌∷◌, length, get_or, Contains, refl, sym, ◌∙◌, ap, subst, arith, length-append, le_of_suc-le-suc, add-one}
use Rattle.std.specs.Prelude.{nat_lt}
use Rattle.std.proofs.lemmas.Bool.{cases_lt}
use Rattle.std.proofs.lemmas.Bool.Decides.{nat_tests}
use Rattle.std.specs.List.{AllZip}
use Rattle.std.proofs.lemmas.List.{get_or_default}
use Rattle.cqa_model.specs.Database.{Table}
use Rattle.table_blocks.specs.Tables.{rows_at}
use Rattle.range_ask.proofs.Lists.{zip-map}
use Rattle.cqa_value.specs.declared.value.Value.{Value}
use Rattle.cqa_value.proofs.Words.{mem-head, mem-tail}
use Rattle.range_ask.specs.Walking.{rows_of_blocks}
use Rattle.range_join.specs.declared.spans.Span.{Span}
use Rattle.range_join.specs.Firsts.{StandsIn, spans_from, spans_at, blocks_at, IsFirst, AreFirsts, IsStrictOrder}
use Rattle.range_groups.specs.Spans.{span_of, AreSpansOfPlaces}

-- ---- the order of places

lt-not : (i : ℕ) → nat_lt i i ≡ false
lt-not i = grind (arith, nat_tests)

pub places-ordered : IsStrictOrder nat_lt
places-ordered = record { not_itself = λ i. lt-not i; through = λ i j k h g. grind (arith, nat_tests) }

-- each span begins where the one before it ends
abbrev pub IsChained : ℕ → List Span → ℕ → Type 0
IsChained n [] count = n ≡ count
IsChained n (s ∷ spans) count = (s.from ≡ n) × (s.from < s.behind) × IsChained s.behind spans count

pub chained : (n : ℕ) (blocks : List (List (List Value))) → ((b : List (List Value)) → Contains blocks b → 0 < length b) → (count : ℕ) → n + length (rows_of_blocks blocks) ≡ count → IsChained n (spans_from n blocks) count
chained n [] some count e = omega (arith, e)
chained n (b ∷ blocks) some count e = (
  refl,
  (let l = some b (mem-head b blocks) in omega (arith, l)),
  chained (n + length b) blocks (λ c m. some c (mem-tail c b blocks m)) count (let l = length-append b (rows_of_blocks blocks) in omega (arith, l, e)),
)

abbrev pub IsStart : Span → ℕ → Type 0
IsStart s p = s.from ≡ p

pub starts-first : (n : ℕ) (spans : List Span) (count : ℕ) (starts : List ℕ) → IsChained n spans count → AllZip IsStart spans starts → n ≡ get_or starts 0 count
starts-first n [] count [] c h = c
starts-first n [] count (p ∷ starts) c h = absurd h
starts-first n (s ∷ spans) count [] c h = absurd h
starts-first n (s ∷ spans) count (p ∷ starts) c h = sym c.0 ∙ h.0

-- the span of the k-th block
pub record IsThere (spans : List Span) (from behind : ℕ) : Type 0 where
  pub there : Contains spans (record { from = from; behind = behind })
  pub some : from < behind

later : (s : Span) (spans : List Span) (from behind : ℕ) → IsThere spans from behind → IsThere (s ∷ spans) from behind
later s spans from behind h = record { there = mem-tail (record { from = from; behind = behind }) s spans h.there; some = h.some }

here : (s : Span) (spans : List Span) (from behind : ℕ) → s.from ≡ from → s.behind ≡ behind → s.from < s.behind → IsThere (s ∷ spans) from behind
here s spans from behind e g l = subst (λ f. IsThere (s ∷ spans) f behind) e (subst (IsThere (s ∷ spans) s.from) g (record { there = mem-head s spans; some = l }))

pub span-there : (n : ℕ) (spans : List Span) (count : ℕ) (starts : List ℕ) → IsChained n spans count → AllZip IsStart spans starts → (k : ℕ) → k < length starts → IsThere spans (get_or starts k count) (get_or starts (suc k) count)
span-there n [] count [] c h k l = absurd (omega (arith, l))
span-there n [] count (p ∷ starts) c h k l = absurd h
span-there n (s ∷ spans) count [] c h k l = absurd h
span-there n (s ∷ spans) count (p ∷ starts) c h zero l = here s spans p (get_or starts 0 count) h.0 (starts-first s.behind spans count starts c.2 h.1) c.1
span-there n (s ∷ spans) count (p ∷ starts) c h (suc k) l = later s spans (get_or starts k count) (get_or starts (suc k) count) (span-there s.behind spans count starts c.2 h.1 k (le_of_suc-le-suc l))

-- the first place of a block is where it begins
pub first-start : (s : Span) (p : ℕ) → IsFirst nat_lt s p → s.from ≡ p
first-start s p h = let a = h.there.0 in let b = h.there.1 in let no : nat_lt s.from p ≡ false = h.first s.from (omega arith, omega (arith, a, b)) in grind (arith, nat_tests)

-- ---- the spans of the first places

pub record IsSpanned (all : List Span) (n : ℕ) (spans : List Span) : Type 0 where
  pub size : length spans ≡ n
  pub each : (p : ℕ) → p < n → Contains all (span_of spans p) × StandsIn (span_of spans p) p

pub spanned-none : (all spans : List Span) → spans ≡ [] → (n : ℕ) → n ≡ 0 → IsSpanned all n spans
spanned-none all spans e n z = record { size = ap length e ∙ sym z; each = λ p l. absurd (omega (arith, l, z)) }

-- those of one block more
pub spanned-more : (all : List Span) (n m : ℕ) (old new : List Span) → IsThere all n m → IsSpanned all n old → length new ≡ m → ((k : ℕ) → k < m → k < length old → span_of new k ≡ span_of old k) → ((k : ℕ) → length old ≤ k → k < m → span_of new k ≡ record { from = n; behind = m }) →
    IsSpanned all m new
spanned-more all n m old new t h size same more = record { size = size; each = λ p l. go p l (cases_lt p (length old)) }
  where
    go : (p : ℕ) → p < m → (p < length old) ⊎ (length old ≤ p) → Contains all (span_of new p) × StandsIn (span_of new p) p
    go p l (inl k) =
        let s = h.size in
        subst (λ (v : Span). Contains all v × StandsIn v p) (sym (same p l k)) (h.each p (omega (arith, k, s)))
    go p l (inr k) =
        let s = h.size in
        subst (λ (v : Span). Contains all v × StandsIn v p) (sym (more p k l)) (t.there, (omega (arith, k, s), l))

pub spanned-next : (all : List Span) (starts : List ℕ) (count at : ℕ) (old new : List Span) (from behind : ℕ) → IsChained 0 all count → AllZip IsStart all starts → at < length starts → from ≡ get_or starts at from → behind ≡ get_or starts (at + 1) count →
    IsSpanned all (get_or starts at count) old → length new ≡ behind → ((k : ℕ) → k < behind → k < length old → span_of new k ≡ span_of old k) → ((k : ℕ) → length old ≤ k → k < behind → span_of new k ≡ record { from = from; behind = behind }) →
    IsSpanned all (get_or starts (at + 1) count) new
spanned-next all starts count at old new from behind chain h l from-is behind-is so_far size same more =
    subst (λ n. IsSpanned all n new) behind-is
    (spanned-more all from behind old new
    (subst (IsThere all from) (sym (behind-is ∙ ap (λ k. get_or starts k count) (add-one at))) (subst (λ f. IsThere all f (get_or starts (suc at) count)) (sym start) (span-there 0 all count starts chain h at l)))
    (subst (λ n. IsSpanned all n old) (sym start) so_far) size same more)
  where
    start : from ≡ get_or starts at count
    start = from-is ∙ get_or_default starts at from count l

past-end : (starts : List ℕ) (at count : ℕ) → length starts ≤ at → get_or starts at count ≡ count
past-end [] at count l = refl
past-end (x ∷ starts) zero count l = absurd (omega (arith, l))
past-end (x ∷ starts) (suc at) count l = past-end starts at count (omega (arith, l))

-- all blocks
pub spanned-whole : (db : List Table) (table : ℕ) (starts : List ℕ) (count at : ℕ) (spans : List Span) → AreFirsts nat_lt db table starts → count ≡ length (rows_at db table) → length starts ≤ at →
    ((all : List Span) → IsChained 0 all count → AllZip IsStart all starts → IsSpanned all (get_or starts at count) spans) → AreSpansOfPlaces db table spans
spanned-whole db table starts count at spans firsts long l each = record {
  parted = firsts.parted;
  size = whole.size ∙ long;
  of_table = λ p k. (whole.each p (subst (λ n. p < n) whole.size k)).0;
  there = λ p k. (whole.each p (subst (λ n. p < n) whole.size k)).1;
}
  where
    total : 0 + length (rows_of_blocks (blocks_at db table)) ≡ count
    total = let e = ap length firsts.parted.blocks_are.joined in let f = long in omega (arith, e, f)

    whole : IsSpanned (spans_at db table) count spans
    whole = subst (λ n. IsSpanned (spans_at db table) n spans) (past-end starts at count l)
        (each (spans_at db table) (chained 0 (blocks_at db table) firsts.parted.blocks_are.some count total) (zip-map (IsFirst nat_lt) IsStart first-start (spans_at db table) starts firsts.firsts))
