-- Clauses stay the same stretches of a pool that grows.
use Rattle.std.proofs.lemmas.Option.{slice_get-map, slice_get-get_or}
use Rattle.std.specs.Option.{option_map}
use Rattle.std.proofs.Common.{◌≡◌, ℕ, ◌<◌, ◌≤◌, ◌+◌, ◌-◌, get_or, Some, slice_get, inl, inr, List, [], ◌∷◌, ◌++◌, length, take, refl, sym, ◌∙◌, ap, subst, arith, length-append}
use Rattle.std.specs.List.{slice_range}
use Rattle.std.proofs.Math.Seq.{drop-append_seam}
use Rattle.std.proofs.lemmas.List.{take_all, map_push, length-map}
use Rattle.std.proofs.lemmas.List.Elements.{Contains-push_cases}
use Rattle.cqa_value.proofs.Words.{mem-tail, mem-head, slice_range-append_left}
use Rattle.cnf_form.specs.declared.formula.Lit.{Lit}
use Rattle.flat_formula.specs.declared.flat.Stretch.{Stretch}
use Rattle.flat_formula.specs.Flat.{clauses_of, AreWithin}

range-new : (pool lits : List Lit) → slice_range (pool ++ lits) (length pool) (length (pool ++ lits)) ≡ lits
range-new pool lits =
    ap (take (length (pool ++ lits) - length pool)) (drop-append_seam pool lits)
    ∙ take_all (length (pool ++ lits) - length pool) lits (let k = length-append pool lits in omega (arith, k))

clauses-kept : (pool lits : List Lit) (ss : List Stretch) → AreWithin pool ss → clauses_of (pool ++ lits) ss ≡ clauses_of pool ss
clauses-kept pool lits [] w = refl
clauses-kept pool lits (s ∷ ss) w =
    let here = w s (mem-head s ss) in
    let e : slice_range (pool ++ lits) s.start s.end ≡ slice_range pool s.start s.end = slice_range-append_left pool lits s.start s.end here.0 here.1 in
    let es : clauses_of (pool ++ lits) ss ≡ clauses_of pool ss = clauses-kept pool lits ss (λ t m. w t (mem-tail t s ss m)) in
    cc

pub clauses-added : (pool lits : List Lit) (ss : List Stretch) (s : Stretch) → AreWithin pool ss → s.start ≡ length pool → s.end ≡ length (pool ++ lits) →
    clauses_of (pool ++ lits) (ss ++ s ∷ []) ≡ clauses_of pool ss ++ lits ∷ []
clauses-added pool lits ss s w start end =
    map_push (λ (t : Stretch). slice_range (pool ++ lits) t.start t.end) ss s
    ∙ (ap (λ cs. cs ++ slice_range (pool ++ lits) s.start s.end ∷ []) (clauses-kept pool lits ss w)
    ∙ ap (λ c. clauses_of pool ss ++ c ∷ []) (ap (λ a. slice_range (pool ++ lits) a s.end) start ∙ (ap (λ b. slice_range (pool ++ lits) (length pool) b) end ∙ range-new pool lits)))

pub within-grown : (pool lits : List Lit) (ss : List Stretch) → AreWithin pool ss → AreWithin (pool ++ lits) ss
within-grown pool lits ss w s m =
    let h = w s m in
    let low = h.0 in
    let high = h.1 in
    let k = length-append pool lits in
    (low, omega (arith, high, k))

pub within-added : (pool lits : List Lit) (ss : List Stretch) (s : Stretch) → AreWithin pool ss → s.start ≡ length pool → s.end ≡ length (pool ++ lits) → AreWithin (pool ++ lits) (ss ++ s ∷ [])
within-added pool lits ss s w start end t m = elim (Contains-push_cases ss s t m) [
  | inl i ↦ within-grown pool lits ss w t i
  | inr e ↦ subst (λ (u : Stretch). (u.start ≤ u.end) × (u.end ≤ length (pool ++ lits))) e (let k = length-append pool lits in (omega (arith, start, end, k), omega (arith, end)))
]

-- ---- the clause at a place

clauses-long : (pool : List Lit) (ss : List Stretch) (at : ℕ) → at < length (clauses_of pool ss) → at < length ss
clauses-long pool ss at l = let k = length-map ss (λ (t : Stretch). slice_range pool t.start t.end) in omega (arith, k, l)

pub within-at : (pool : List Lit) (ss : List Stretch) (at : ℕ) (s : Stretch) → AreWithin pool ss → at < length (clauses_of pool ss) → s ≡ get_or ss at s → (s.start ≤ s.end) × (s.end ≤ length pool)
within-at pool ss at s w l e = w s (at, clauses-long pool ss at l, sym e)

pub clause-at : (pool : List Lit) (ss : List Stretch) (at : ℕ) (s : Stretch) → at < length (clauses_of pool ss) → s ≡ get_or ss at s → slice_get (clauses_of pool ss) at ≡ Some (slice_range pool s.start s.end)
clause-at pool ss at s l e =
    slice_get-map (λ (t : Stretch). slice_range pool t.start t.end) ss at
    ∙ ap (option_map (λ (t : Stretch). slice_range pool t.start t.end)) (slice_get-get_or ss at s (clauses-long pool ss at l) ∙ ap Some (sym e))
