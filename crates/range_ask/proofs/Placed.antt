-- Picked rows stand at places, and rows can be picked with any one row among them.
use Rattle.std.proofs.Common.{◌≡◌, ◌⊎◌, inl, inr, ℕ, ◌+◌, ◌<◌, List, [], ◌∷◌, ◌++◌, length, Contains, refl, sym, ◌∙◌, ap, subst, append_assoc}
use Rattle.std.proofs.lemmas.List.{append-nil, map_push}
use Rattle.std.proofs.lemmas.List.Elements.{Contains-get_or, Contains-append_cases}
use Rattle.cqa_value.specs.declared.value.Value.{Value}
use Rattle.cqa_model.specs.Database.{Table}
use Rattle.cqa_model.proofs.Classic.{mem-head, mem-tail, mem-nil, mem-cases}
use Rattle.table_blocks.specs.Tables.{rows_at, rows_in}
use Rattle.range_ask.specs.Picks.{ArePicked, IsInBlocks}
use Rattle.range_ask.specs.Finding.{row_in_block}
use Rattle.range_ask.specs.Walking.{rows_of_blocks, IsNextBlock}
use Rattle.range_ask.proofs.Chosen.{place}
use Rattle.range_ask.proofs.Walked.{row-here, chosen-none, chosen-more}
use Rattle.range_ask.proofs.Topped.{Kept}

-- ---- with one row

pub pick-with : (blocks : List (List (List Value))) (xs : List (List Value)) (row : List Value) → ArePicked blocks xs → Contains (rows_of_blocks blocks) row →
    (zs : List (List Value)) × ArePicked blocks zs × Contains zs row × ((z : List Value) → Contains zs z → (z ≡ row) ⊎ Contains xs z)
pick-with [] xs row p m = absurd (mem-nil row m)
pick-with (b ∷ bs) [] row p m = absurd p
pick-with (b ∷ bs) (x ∷ xs) row p m = elim (Contains-append_cases b (rows_of_blocks bs) row m) [
  | inl here ↦ (
    row ∷ xs,
    (here, p.1),
    mem-head row xs,
    λ z n. elim (mem-cases z row xs n) [
      | inl e ↦ inl (sym e)
      | inr k ↦ inr (mem-tail z x xs k)
    ],
  )
  | inr later ↦ (
      let r = pick-with bs xs row p.1 later in (
        x ∷ r.0,
        (p.0, r.1),
        mem-tail row x r.0 r.2,
        λ z n. elim (mem-cases z x r.0 n) [
          | inl e ↦ inr (subst (Contains (x ∷ xs)) e (mem-head x xs))
          | inr k ↦ elim (r.3 z k) [
            | inl e ↦ inl e
            | inr o ↦ inr (mem-tail z x xs o)
          ]
        ],
      )
      )
]

-- ---- at places

module _ (rows : List (List Value)) where
  placed-on : (later front : List (List (List Value))) (places : List ℕ) (xs : List (List Value)) → rows ≡ rows_of_blocks (front ++ later) → ((b : List (List Value)) → Contains later b → 0 < length b) →
      Kept rows front places → ArePicked later xs → (new : List ℕ) × Kept rows (front ++ later) new × (rows_in rows new ≡ rows_in rows places ++ xs)
  placed-on [] front places [] are some k p = (places, subst (λ bs. Kept rows bs places) (sym (append-nil front)) k, sym (append-nil (rows_in rows places)))
  placed-on [] front places (x ∷ xs) are some k p = absurd p
  placed-on (b ∷ bs) front places [] are some k p = absurd p
  placed-on (b ∷ bs) front places (x ∷ xs) are some k p =
      let at = place b x p.0 in
      let start = length (rows_of_blocks front) in
      let all = append_assoc front (b ∷ []) bs in
      let next : IsNextBlock rows front b bs start = record { rows_are = are; start_is = refl; some = some b (mem-head b bs) } in
      let more : Kept rows (front ++ b ∷ []) (places ++ (start + at.0) ∷ []) =
      chosen-more rows front b bs start next at.0 at.1 (λ (c : List (List Value)) z. Contains c z) places (places ++ (start + at.0) ∷ []) k (Contains-get_or b at.0 [] at.1) refl in
      let here : row_in_block rows (start + at.0) ≡ x = row-here rows front b bs start next at.0 at.1 ∙ at.2 in
      let r = placed-on bs (front ++ b ∷ []) (places ++ (start + at.0) ∷ []) xs (are ∙ ap rows_of_blocks (sym all)) (λ c m. some c (mem-tail c b bs m)) more p.1 in (
        r.0,
        subst (λ cs. Kept rows cs r.0) all r.1,
        r.2 ∙ (ap (λ zs. zs ++ xs) (map_push (λ q. row_in_block rows q) places (start + at.0) ∙ ap (λ z. rows_in rows places ++ z ∷ []) here) ∙ append_assoc (rows_in rows places) (x ∷ []) xs),
      )

pub places-of : (db : List Table) (table : ℕ) (blocks : List (List (List Value))) → IsInBlocks db table blocks → (xs : List (List Value)) → ArePicked blocks xs →
    (places : List ℕ) × Kept (rows_at db table) blocks places × (rows_in (rows_at db table) places ≡ xs)
places-of db table blocks parted xs p =
    placed-on (rows_at db table) blocks [] [] xs (sym parted.blocks_are.joined) parted.blocks_are.some (chosen-none (λ (c : List (List Value)) z. Contains c z) (rows_at db table) [] refl) p
