-- Lists stay the same stretches of a pool that grows.
use Rattle.std.proofs.lemmas.Option.{slice_get-map, slice_get-get_or}
use Rattle.std.specs.Option.{option_map}
use Rattle.std.proofs.Common.{◌≡◌, ℕ, ◌<◌, ◌≤◌, ◌-◌, get_or, Some, slice_get, inl, inr, List, [], ◌∷◌, ◌++◌, length, take, refl, sym, ◌∙◌, ap, subst, arith, length-append}
use Rattle.std.specs.List.{slice_range}
use Rattle.std.proofs.Math.Seq.{drop-append_seam}
use Rattle.std.proofs.lemmas.List.{take_all, map_push, length-map}
use Rattle.std.proofs.lemmas.List.Elements.{Contains-push_cases}
use Rattle.cqa_value.proofs.Words.{mem-tail, mem-head, slice_range-append_left}
use Rattle.block_choices.specs.declared.row.BlockRow.{BlockRow}
use Rattle.block_choices.specs.declared.pool.Stretch.{Stretch}
use Rattle.block_choices.specs.Pools.{lists_of, AreWithin}

range-new : (pool names : List BlockRow) → slice_range (pool ++ names) (length pool) (length (pool ++ names)) ≡ names
range-new pool names =
    ap (take (length (pool ++ names) - length pool)) (drop-append_seam pool names)
    ∙ take_all (length (pool ++ names) - length pool) names (let k = length-append pool names in omega (arith, k))

pub lists-kept : (pool names : List BlockRow) (ss : List Stretch) → AreWithin pool ss → lists_of (pool ++ names) ss ≡ lists_of pool ss
lists-kept pool names [] w = refl
lists-kept pool names (s ∷ ss) w =
    let here = w s (mem-head s ss) in
    let e : slice_range (pool ++ names) s.start s.end ≡ slice_range pool s.start s.end = slice_range-append_left pool names s.start s.end here.0 here.1 in
    let es : lists_of (pool ++ names) ss ≡ lists_of pool ss = lists-kept pool names ss (λ t m. w t (mem-tail t s ss m)) in
    cc

pub lists-added : (pool names : List BlockRow) (ss : List Stretch) (s : Stretch) → AreWithin pool ss → s.start ≡ length pool → s.end ≡ length (pool ++ names) →
    lists_of (pool ++ names) (ss ++ s ∷ []) ≡ lists_of pool ss ++ names ∷ []
lists-added pool names ss s w start end =
    map_push (λ (t : Stretch). slice_range (pool ++ names) t.start t.end) ss s
    ∙ (ap (λ cs. cs ++ slice_range (pool ++ names) s.start s.end ∷ []) (lists-kept pool names ss w)
    ∙ ap (λ c. lists_of pool ss ++ c ∷ []) (ap (λ a. slice_range (pool ++ names) a s.end) start ∙ (ap (λ b. slice_range (pool ++ names) (length pool) b) end ∙ range-new pool names)))

pub within-grown : (pool names : List BlockRow) (ss : List Stretch) → AreWithin pool ss → AreWithin (pool ++ names) ss
within-grown pool names ss w s m =
    let h = w s m in
    let low = h.0 in
    let high = h.1 in
    let k = length-append pool names in
    (low, omega (arith, high, k))

pub within-added : (pool names : List BlockRow) (ss : List Stretch) (s : Stretch) → AreWithin pool ss → s.start ≡ length pool → s.end ≡ length (pool ++ names) → AreWithin (pool ++ names) (ss ++ s ∷ [])
within-added pool names ss s w start end t m = elim (Contains-push_cases ss s t m) [
  | inl i ↦ within-grown pool names ss w t i
  | inr e ↦ subst (λ (u : Stretch). (u.start ≤ u.end) × (u.end ≤ length (pool ++ names))) e (let k = length-append pool names in (omega (arith, start, end, k), omega (arith, end)))
]

-- ---- the list at a place

lists-long : (pool : List BlockRow) (ss : List Stretch) (at : ℕ) → at < length (lists_of pool ss) → at < length ss
lists-long pool ss at l = let k = length-map ss (λ (t : Stretch). slice_range pool t.start t.end) in omega (arith, k, l)

pub within-at : (pool : List BlockRow) (ss : List Stretch) (at : ℕ) (s : Stretch) → AreWithin pool ss → at < length (lists_of pool ss) → s ≡ get_or ss at s → (s.start ≤ s.end) × (s.end ≤ length pool)
within-at pool ss at s w l e = w s (at, lists-long pool ss at l, sym e)

pub list-at : (pool : List BlockRow) (ss : List Stretch) (at : ℕ) (s : Stretch) → at < length (lists_of pool ss) → s ≡ get_or ss at s → slice_get (lists_of pool ss) at ≡ Some (slice_range pool s.start s.end)
list-at pool ss at s l e =
    slice_get-map (λ (t : Stretch). slice_range pool t.start t.end) ss at
    ∙ ap (option_map (λ (t : Stretch). slice_range pool t.start t.end)) (slice_get-get_or ss at s (lists-long pool ss at l) ∙ ap Some (sym e))
