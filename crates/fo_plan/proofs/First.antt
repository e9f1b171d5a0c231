-- The first block that holds among those that are looked for is the first one of the table that does.
use Rattle.std.proofs.Common.{◌≡◌, ◌↔◌, ◌<◌, ◌⊎◌, ◌++◌, ◌∷◌, ℕ, suc, inl, inr, Option, None, Some, IsTrue, is_some, MatchOption, List, [], length, get_or, slice_get, take, drop, flat_map, append_assoc, refl, sym, ap, ◌∙◌, subst, arith, Contains}
use Rattle.std.specs.declared.cmp.Ordering.TheVariants.{Less}
use Rattle.std.specs.List.Sorted.{IsStrictlySortedBy}
use Rattle.std.proofs.Math.Seq.{drop-cons}
use Rattle.std.proofs.lemmas.Bool.{false≢true, cases_order}
use Rattle.std.proofs.lemmas.Grind.{flat_map-append}
use Rattle.std.proofs.lemmas.List.{get_or_default, take-append-drop}
use Rattle.std.proofs.lemmas.List.Elements.{Contains-get_or, Contains-append_left, Contains-append_cases}
use Rattle.std.proofs.lemmas.Map.Keys.{Less-from_sorted}
use Rattle.std.proofs.lemmas.Option.{slice_get_cases}
use Rattle.cqa_value.specs.declared.value.Value.{Value}
use Rattle.cqa_value.proofs.Words.{Contains-flat_map, member_place, mem-nil, mem-cases}
use Rattle.cqa_model.specs.declared.query.Query.{Query}
use Rattle.cqa_model.specs.Database.{Table, IsDatabase, block_cmp, stored}
use Rattle.cqa_model.specs.Repairs.{SharesKey}
use Rattle.cqa_model.specs.OneTable.{SomeBlockFits}
use Rattle.cqa_model.specs.Query.{atom_at, atom_key, rows_of, FitsDatabase}
use Rattle.cqa_model.specs.Blocks.{AreBlocks}
use Rattle.cqa_model.proofs.Classic.{dec_each}
use Rattle.cqa_model.proofs.Places.{rows-at, key-at}
use Rattle.cqa_model.proofs.Repairs.{shares-sym, shares-trans}
use Rattle.row_order.proofs.BlockOrder.{block_total, block_exact, block_alike}
use Rattle.table_blocks.proofs.Merging.{across}
use Rattle.table_blocks.proofs.Spanning.{sorted-part}
use Rattle.join_access.proofs.Sorted.{not_less, not_both, one_sorted}
use Rattle.row_cursor.specs.Blocks.{blocks_of}
use Rattle.row_cursor.proofs.BlockLists.{row_in, block_of, whole-block}
use Rattle.row_cursor.proofs.Parting.{blocks-are, side_by_side}
use Rattle.plan_rows.specs.Links.{LeadsTo}
use Rattle.plan_rows.specs.Over.{query_of, stored_rows, rows_before}
use Rattle.plan_rows.specs.declared.steps.Step.{Step}
use Rattle.plan_rows.proofs.Reaching.{held_rows_are_reached}
use Rattle.fo_plan.specs.Enough.{IsEnough, row_at_place, IsFirstBlockOf, AreReached}
use Rattle.fo_plan.specs.FirstBlock.{IsFirstWith}
use Rattle.fo_plan.specs.Holding.{PlanHoldsWith}
use Rattle.fo_plan.specs.declared.enough.Blocks.{Blocks}
use Rattle.fo_plan.proofs.Passing.{first-place, at-some}
use Rattle.fo_plan.proofs.Reached.{held-reached}

-- there is a first one exactly where there is some
pub first-some : (key : List ℕ) (rows : List (List Value)) (P : List Value → Type 0) (found : Option (List (List Value))) → MatchOption found (SomeBlockFits key rows P → ⊥) (IsFirstBlockOf key rows P) → IsTrue (is_some found) ↔ SomeBlockFits key rows P
first-some key rows P None none = ((λ e. absurd (false≢true e)), (λ s. absurd (none s)))
first-some key rows P (Some block) first = (
  (λ e. at-some key rows P first.at first.is.there (λ y m s. first.all y ((first.is.exactly y).1 (m, s)))),
  (λ s. refl),
)

-- the rows of an atom's table stand in block order
pub rows-in_order : (db : List Table) (q : Query) → IsDatabase db → FitsDatabase q db → (F : ℕ) → F < length q.atoms → IsStrictlySortedBy (block_cmp (atom_key q F)) (rows_of q (stored db) F)
rows-in_order db q valid fits F l = elim (slice_get_cases db (atom_at q F).table).1 [
  | inl h ↦ at h.0 h.2 (valid.each h.0 ((atom_at q F).table, h.1, h.3)).in_order
  | inr h ↦ absurd (let there = fits.there F l in omega (arith, there, h.0))
]
  where
    at : (table : Table) → slice_get db (atom_at q F).table ≡ Some table → IsStrictlySortedBy (block_cmp table.schema.key) table.rows → IsStrictlySortedBy (block_cmp (atom_key q F)) (rows_of q (stored db) F)
    at table here s =
        subst (λ key. IsStrictlySortedBy (block_cmp key) (rows_of q (stored db) F)) (sym (fits.keyed F l))
        (subst (λ key. IsStrictlySortedBy (block_cmp key) (rows_of q (stored db) F)) (sym (key-at db (atom_at q F).table table here))
        (subst (IsStrictlySortedBy (block_cmp table.schema.key)) (sym (rows-at db (atom_at q F).table table here)) s))

-- whether a block is the first one is decided, where the property is
module _ (key : List ℕ) (rows : List (List Value)) (P : List Value → Type 0) (d : (y : List Value) → Dec (P y)) where
  abbrev AllIn : List (List Value) → Type 0
  AllIn block = (y : List Value) → Contains block y → P y

  passed : (before : List (List (List Value))) (c : List (List Value)) → ((b : List (List Value)) → Contains before b → AllIn b → ⊥) → (AllIn c → ⊥) → (b : List (List Value)) → Contains (before ++ c ∷ []) b → AllIn b → ⊥
  passed before c none f b m all = elim (Contains-append_cases before (c ∷ []) b m) [
    | inl l ↦ none b l all
    | inr r ↦ elim (mem-cases b c [] r) [ inl e ↦ f (subst AllIn (sym e) all) | inr n ↦ mem-nil b n ]
  ]

  first_from : (before blocks : List (List (List Value))) → AreBlocks key rows (before ++ blocks) → ((b : List (List Value)) → Contains before b → AllIn b → ⊥) →
      (b : List (List Value)) → Contains blocks b → AllIn b → (block : List (List Value)) × IsFirstWith key rows P block
  first_from before [] h none b m all = absurd (mem-nil b m)
  first_from before (c ∷ blocks) h none b m all =
      go (dec_each P d c) (mem-cases b c blocks m) (λ f n. first_from (before ++ c ∷ []) blocks (subst (AreBlocks key rows) (sym (append_assoc before (c ∷ []) blocks)) h) (passed before c none f) b n all)
    where
      go : Dec (AllIn c) → (c ≡ b) ⊎ Contains blocks b → ((AllIn c → ⊥) → Contains blocks b → (block : List (List Value)) × IsFirstWith key rows P block) → (block : List (List Value)) × IsFirstWith key rows P block
      go (yes a) s next = (c, record { before = before; behind = blocks; blocks = h; all = a; none = none })
      go (no f) (inl e) next = absurd (f (subst AllIn (sym e) all))
      go (no f) (inr n) next = next f n

  -- some block is the first, where all rows of one have the property
  pub some-first : IsStrictlySortedBy (block_cmp key) rows → SomeBlockFits key rows P → (block : List (List Value)) × IsFirstWith key rows P block
  some-first in_order (x, m, all) =
      let are : AreBlocks key rows (blocks_of key rows) = blocks-are key rows (side_by_side key rows in_order) in
      let b = block_of key rows (blocks_of key rows) are x m in
      first_from [] (blocks_of key rows) are (λ c k. absurd (mem-nil c k)) b.0 b.1 (λ y k. all y (row_in key rows (blocks_of key rows) are b.0 y b.1 k) (are.alike b.0 b.1 x y b.2 k))

module _ (key : List ℕ) (rows part : List (List Value)) (fits P : List Value → Type 0) (in_order : IsStrictlySortedBy (block_cmp key) rows) (enough : IsEnough key rows fits part) (strong : (y : List Value) → P y → fits y)
    (sorted : IsStrictlySortedBy (block_cmp key) part) (found : List (List Value)) (f : IsFirstBlockOf key part P found) where
  abbrev x : List Value
  x = row_at_place part f.at

  in-part : Contains part x
  in-part = Contains-get_or part f.at [] f.is.there

  here : Contains rows x
  here = enough.stored x in-part

  -- the blocks of the table, and the one of the row
  abbrev all : List (List (List Value))
  all = blocks_of key rows

  are : AreBlocks key rows all
  are = blocks-are key rows (side_by_side key rows in_order)

  own : (b : List (List Value)) × Contains all b × Contains b x
  own = block_of key rows all are x here

  abbrev before : List (List (List Value))
  before = take own.1.0 all

  abbrev behind : List (List (List Value))
  behind = drop (suc own.1.0) all

  cut : all ≡ before ++ own.0 ∷ behind
  cut = sym (take-append-drop own.1.0 all) ∙ ap (λ l. before ++ l) (drop-cons all own.1.0 [] own.1.1 ∙ ap (λ b. b ∷ behind) (get_or_default all own.1.0 [] own.0 own.1.1 ∙ own.1.2))

  parts : IsStrictlySortedBy (block_cmp key) (flat_map (λ b. b) before ++ (own.0 ++ flat_map (λ b. b) behind))
  parts = subst (IsStrictlySortedBy (block_cmp key)) (sym are.joined ∙ (ap (flat_map (λ b. b)) cut ∙ flat_map-append (λ b. b) before (own.0 ∷ behind))) in_order

  -- it is the one that was found
  same : own.0 ≡ found
  same = one_sorted (block_cmp key) (block_total key) own.0 found (sorted-part (block_cmp key) (flat_map (λ b. b) before) own.0 (flat_map (λ b. b) behind) parts) f.is.in_order
      (λ y m. let s = are.alike own.0 own.1 x y own.2 m in (f.is.exactly y).1 (enough.whole x y in-part (row_in key rows all are own.0 y own.1 m) s, s))
      (λ y m. let e = (f.is.exactly y).0 m in whole-block key rows all are own.0 own.1 x y own.2 (enough.stored y e.0) e.1)

  none : (b : List (List Value)) → Contains before b → ((y : List Value) → Contains b y → P y) → ⊥
  none b m k = go (member_place part z [] (enough.enough z (row_in key rows all are b z among mz) (strong z (k z mz))))
    where
      z : List Value
      z = get_or b 0 []

      among : Contains all b
      among = subst (λ bs. Contains bs b) (sym cut) (Contains-append_left before (own.0 ∷ behind) b m)

      mz : Contains b z
      mz = Contains-get_or b 0 [] (are.some b among)

      less : block_cmp key z x ≡ Less
      less = across (block_cmp key) (block_total key) (block_exact key) (block_alike key) (flat_map (λ b. b) before) (own.0 ++ flat_map (λ b. b) behind) parts z x (Contains-flat_map (λ b. b) before b z m mz) (Contains-append_left own.0 (flat_map (λ b. b) behind) x own.2)

      -- the row stands before the first one that was found
      earlier : (i : ℕ) → i < length part → row_at_place part i ≡ z → i < f.at
      earlier i l e = elim (cases_order i f.at) [
        | inl same ↦ absurd (not_less (block_cmp key) (block_total key) x (subst (λ w. block_cmp key w x ≡ Less) (sym e ∙ ap (row_at_place part) same) less))
        | inr o ↦ elim o [
          | inl low ↦ low
          | inr high ↦ absurd (not_both (block_cmp key) (block_total key) x z (subst (λ w. block_cmp key x w ≡ Less) e (Less-from_sorted (block_cmp key) part f.at i [] sorted high l)) less)
        ]
      ]

      go : ((i : ℕ) × (i < length part) × (get_or part i [] ≡ z)) → ⊥
      go (i, l, e) =
          let p = first-place key part i 0 i (omega arith) (λ j a s. absurd (omega (arith, a))) in
          let low = p.1 in
          let near = earlier i l e in
          let shared : SharesKey key z (row_at_place part p.0) = shares-sym key (row_at_place part p.0) z (subst (SharesKey key (row_at_place part p.0)) e p.3) in
          f.none p.0 (omega (arith, low, near)) (omega (arith, low, l)) p.2
          (λ y my s. k y (whole-block key rows all are b among z y mz (enough.stored y my) (shares-trans key z (row_at_place part p.0) y shared s)))

  first-in_table : SomeBlockFits key rows P × IsFirstWith key rows P found
  first-in_table = (
    (x, here, λ y m s. f.all y ((f.is.exactly y).1 (enough.whole x y in-part m s, s))),
    record { before = before; behind = behind; blocks = subst (AreBlocks key rows) (cut ∙ ap (λ b. before ++ b ∷ behind) same) are; all = f.all; none = none },
  )

module _ (step : Step) (s : Blocks) (row : List Value) (h : AreReached step (Some row) s) where
  abbrev key : List ℕ
  key = atom_key (query_of step) step.atom

  abbrev rows : List (List Value)
  rows = rows_of (query_of step) (stored_rows step) step.atom

  abbrev P : List Value → Type 0
  P = PlanHoldsWith step row

  pub first-holds : IsStrictlySortedBy (block_cmp key) rows → (found : Option (List (List Value))) → MatchOption found (SomeBlockFits s.key.now s.rows P → ⊥) (IsFirstBlockOf s.key.now s.rows P) →
      MatchOption found (SomeBlockFits key rows P → ⊥) (λ block. SomeBlockFits key rows P × IsFirstWith key rows P block)
  first-holds in_order None none = λ t. none ((held-reached step s row h).1.1 t)
  first-holds in_order (Some block) f = first-in_table key rows s.rows (LeadsTo (query_of step) (stored_rows step) (Some row) (rows_before step) h.links step.atom) P in_order h.enough
      (λ y p. (held_rows_are_reached (query_of step) (stored_rows step) row (rows_before step) step.atom step.rest.now h.links y h.behind p).0)
      (subst (λ k. IsStrictlySortedBy (block_cmp k) s.rows) h.key s.in_order) block (subst (λ k. IsFirstBlockOf k s.rows P block) h.key f)
