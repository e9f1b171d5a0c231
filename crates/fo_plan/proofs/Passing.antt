-- Blocks by the places of their first rows: what holds of those that were passed.
use Rattle.std.proofs.Common.{◌≡◌, Bool, IsTrue, true, false, not, ◌↔◌, ◌<◌, ◌≤◌, ◌+◌, ◌-◌, ℕ, zero, suc, List, [], length, refl, sym, ◌∙◌, subst, arith, Contains}
use native.Mathlib.Decide.{dec_lt, ℕ_discrete}
use Rattle.std.specs.List.Sorted.{IsStrictlySortedBy}
use Rattle.std.proofs.lemmas.Bool.{false≢true}
use Rattle.std.proofs.lemmas.List.{get_or_default}
use Rattle.std.proofs.lemmas.List.Elements.{Contains-get_or}
use Rattle.cqa_value.specs.declared.value.Value.{Value}
use Rattle.cqa_model.specs.Repairs.{SharesKey}
use Rattle.cqa_model.specs.OneTable.{SomeBlockFits}
use Rattle.cqa_model.specs.Database.{block_cmp}
use Rattle.cqa_model.proofs.BlockOrder.{grouped}
use Rattle.cqa_model.proofs.Repairs.{shares-self, shares-sym, shares-trans, dec_shares}
use Rattle.plan_rows.specs.Wanted.{IsWanted}
use Rattle.fo_plan.specs.Enough.{IsEnough, row_at_place, IsFirstOfBlock, WholeHas, IsFirstBlockOf, IsBlockPassed, AreSought, IsNextSought}
use Rattle.fo_plan.specs.declared.enough.Blocks.{Blocks}

-- what is enough of a table has a block with a property exactly where the table has one, if rows with it fit
pub part-some : (key : List ℕ) (rows part : List (List Value)) (fits : List Value → Type 0) → IsEnough key rows fits part → (P : List Value → Type 0) → ((y : List Value) → P y → fits y) →
    SomeBlockFits key part P ↔ SomeBlockFits key rows P
part-some key rows part fits h P strong = (
  (λ s. (s.0, h.stored s.0 s.1, λ y m t. s.2 y (h.whole s.0 y s.1 m t) t)),
  (λ s. (s.0, h.enough s.0 s.1 (strong s.0 (s.2 s.0 s.1 (shares-self key s.0))), λ y m t. s.2 y (h.stored y m) t)),
)

module _ (key : List ℕ) (rows : List (List Value)) where
  -- the block of a row begins somewhere
  pub first-place : (d n i : ℕ) → n + d ≡ i → ((j : ℕ) → j < n → SharesKey key (row_at_place rows j) (row_at_place rows i) → ⊥) → (at : ℕ) × (at ≤ i) × IsFirstOfBlock key rows at × SharesKey key (row_at_place rows at) (row_at_place rows i)
  first-place zero n i e none =
      let same : n ≡ i = omega (arith, e) in
      (i, omega arith, (λ j l. none j (omega (arith, l, same))), shares-self key (row_at_place rows i))
  first-place (suc d) n i e none = go (dec_shares key (row_at_place rows n) (row_at_place rows i)) (first-place d (n + 1) i (omega (arith, e)))
    where
      before : (SharesKey key (row_at_place rows n) (row_at_place rows i) → ⊥) → (j : ℕ) → j < n + 1 → SharesKey key (row_at_place rows j) (row_at_place rows i) → Dec (j ≡ n) → ⊥
      before f j l s (yes same) = f (subst (λ k. SharesKey key (row_at_place rows k) (row_at_place rows i)) same s)
      before f j l s (no other) = none j (omega (arith, l, other)) s

      go : Dec (SharesKey key (row_at_place rows n) (row_at_place rows i)) →
          (((j : ℕ) → j < n + 1 → SharesKey key (row_at_place rows j) (row_at_place rows i) → ⊥) → (at : ℕ) × (at ≤ i) × IsFirstOfBlock key rows at × SharesKey key (row_at_place rows at) (row_at_place rows i)) →
          (at : ℕ) × (at ≤ i) × IsFirstOfBlock key rows at × SharesKey key (row_at_place rows at) (row_at_place rows i)
      go (yes s) further = (n, omega (arith, e), (λ j l t. none j l (shares-trans key (row_at_place rows j) (row_at_place rows n) (row_at_place rows i) t s)), s)
      go (no f) further = further (λ j l s. before f j l s (ℕ_discrete j n))

  pub some-at : (P : List Value → Type 0) → SomeBlockFits key rows P → (at : ℕ) × (at < length rows) × IsFirstOfBlock key rows at × WholeHas key rows P at
  some-at P (x, (i, li, ei), f) =
      let is : row_at_place rows i ≡ x = get_or_default rows i [] x li ∙ ei in
      let b = first-place i 0 i (omega arith) (λ j l s. absurd (omega (arith, l))) in
      let low = b.1 in
      (b.0, omega (arith, low, li), b.2, λ y m s. f y m (shares-trans key x (row_at_place rows b.0) y (shares-sym key (row_at_place rows b.0) x (subst (SharesKey key (row_at_place rows b.0)) is b.3)) s))

  pub at-some : (P : List Value → Type 0) (at : ℕ) → at < length rows → WholeHas key rows P at → SomeBlockFits key rows P
  at-some P at l h = (row_at_place rows at, Contains-get_or rows at [] l, h)

module _ (s : Blocks) where
  -- no block that begins before a place has the property
  abbrev pub NoneBefore : (List Value → Type 0) → ℕ → Type 0
  NoneBefore P place = (at : ℕ) → at < place → at < length s.rows → IsFirstOfBlock s.key.now s.rows at → WholeHas s.key.now s.rows P at → ⊥

  module _ (P : List Value → Type 0) (sought : AreSought s P) where
    -- what is passed hasn't the property
    passed-has : (from to at : ℕ) → IsBlockPassed s from to → from ≤ at → at < to → at < length s.rows → IsFirstOfBlock s.key.now s.rows at → WholeHas s.key.now s.rows P at → ⊥
    passed-has from to at h low high there first all = h at low high first (sought at there first all)

    pub none-starts : (start : ℕ) → IsBlockPassed s 0 start → NoneBefore P start
    none-starts start h at l there first all = passed-has 0 start at h (omega arith) l there first all

    pub none-on : (from on : ℕ) (block : List (List Value)) → NoneBefore P from → IsNextSought s from block on → (((y : List Value) → Contains block y → P y) → ⊥) → NoneBefore P on
    none-on from on block h n off at l there first all = go (dec_lt at from) (dec_lt at n.at) (dec_lt n.at at)
      where
        go : Dec (at < from) → Dec (at < n.at) → Dec (n.at < at) → ⊥
        go (yes a) b c = h at a there first all
        go (no a) (yes b) c = passed-has from n.at at n.before (omega (arith, a)) b there first all
        go (no a) (no b) (yes c) = passed-has (n.at + 1) on at n.behind (omega (arith, c)) l there first all
        go (no a) (no b) (no c) =
            let same : at ≡ n.at = omega (arith, b, c) in
            off (λ y m. let e = (n.is.exactly y).0 m in all y e.0 (subst (λ k. SharesKey s.key.now (row_at_place s.rows k) y) (sym same) e.1))

    -- the next block is the first one with the property, where it has it
    pub next-first : (from on : ℕ) (block : List (List Value)) → NoneBefore P from → IsNextSought s from block on → ((y : List Value) → Contains block y → P y) → IsFirstBlockOf s.key.now s.rows P block
    next-first from on block h n all = record { at = n.at; is = n.is; all = all; none = λ j l there. go j l there (dec_lt j from) }
      where
        go : (j : ℕ) → j < n.at → j < length s.rows → Dec (j < from) → IsFirstOfBlock s.key.now s.rows j → WholeHas s.key.now s.rows P j → ⊥
        go j l there (yes a) = h j a there
        go j l there (no a) = passed-has from n.at j n.before (omega (arith, a)) l there

    pub none-ends : (from : ℕ) → NoneBefore P from → IsBlockPassed s from (length s.rows) → SomeBlockFits s.key.now s.rows P → ⊥
    none-ends from h n f = go (some-at s.key.now s.rows P f)
      where
        go : ((at : ℕ) × (at < length s.rows) × IsFirstOfBlock s.key.now s.rows at × WholeHas s.key.now s.rows P at) → ⊥
        go (at, there, first, all) = split (dec_lt at from)
          where
            split : Dec (at < from) → ⊥
            split (yes a) = h at a there first all
            split (no a) = passed-has from (length s.rows) at n (omega (arith, a)) there there first all

  pub passed-on : (from at on : ℕ) → IsBlockPassed s from at → (IsFirstOfBlock s.key.now s.rows at → ⊥) → IsBlockPassed s (at + 1) on → IsBlockPassed s from on
  passed-on from at on before off behind k low high = go (dec_lt k at) (dec_lt at k)
    where
      go : Dec (k < at) → Dec (at < k) → IsFirstOfBlock s.key.now s.rows k → IsWanted s.wanted k → ⊥
      go (yes a) b = before k low a
      go (no a) (yes b) = behind k (omega (arith, b)) high
      go (no a) (no b) = λ first wanted. off (subst (IsFirstOfBlock s.key.now s.rows) (let e : k ≡ at = omega (arith, a, b) in e) first)

  -- what is passed from a place on is passed from a later one on
  pub passed-later : (before from to : ℕ) → before < from → IsBlockPassed s (before + 1) to → IsBlockPassed s from to
  passed-later before from to l h k low high = h k (omega (arith, l, low)) high

  pub passed-less : (from at to : ℕ) → IsBlockPassed s from at → to ≤ at → IsBlockPassed s from to
  passed-less from at to h l k low high = h k low (omega (arith, high, l))

-- a row begins a block where the one before it is of another
module _ (key : List ℕ) (rows : List (List Value)) (at : ℕ) where
  pub first-at_start : at ≡ 0 → IsFirstOfBlock key rows at
  first-at_start e j l s = absurd (omega (arith, e, l))

  pub first-begins : IsStrictlySortedBy (block_cmp key) rows → at < length rows → (SharesKey key (row_at_place rows (at - 1)) (row_at_place rows at) → ⊥) → IsFirstOfBlock key rows at
  first-begins sorted there off j l s =
      let near = grouped key rows sorted j (at - 1) at (omega (arith, l)) (omega (arith, l)) there s in
      off (shares-trans key (row_at_place rows (at - 1)) (row_at_place rows j) (row_at_place rows at) (shares-sym key (row_at_place rows j) (row_at_place rows (at - 1)) near) s)

  pub begins-apart : (at ≡ 0 → ⊥) → IsFirstOfBlock key rows at → SharesKey key (row_at_place rows (at - 1)) (row_at_place rows at) → ⊥
  begins-apart some leads s = leads (at - 1) (omega (arith, some)) s

  -- so it is tested
  pub begins : IsStrictlySortedBy (block_cmp key) rows → at < length rows → (at ≡ 0 → ⊥) → (a b : List Value) (same : Bool) → a ≡ row_at_place rows (at - 1) → b ≡ row_at_place rows at → IsTrue same ↔ SharesKey key a b →
      IsTrue (not same) ↔ IsFirstOfBlock key rows at
  begins sorted there some a b same ea eb h = go same h
    where
      shared : SharesKey key (row_at_place rows (at - 1)) (row_at_place rows at) → SharesKey key a b
      shared s = subst (λ y. SharesKey key a y) (sym eb) (subst (λ x. SharesKey key x (row_at_place rows at)) (sym ea) s)

      apart : SharesKey key a b → SharesKey key (row_at_place rows (at - 1)) (row_at_place rows at)
      apart s = subst (λ x. SharesKey key x (row_at_place rows at)) ea (subst (λ y. SharesKey key a y) eb s)

      go : (t : Bool) → IsTrue t ↔ SharesKey key a b → IsTrue (not t) ↔ IsFirstOfBlock key rows at
      go true k = ((λ e. absurd (false≢true e)), (λ leads. absurd (begins-apart some leads (apart (k.0 refl)))))
      go false k = ((λ e. first-begins sorted there (λ s. false≢true (k.1 (shared s)))), (λ leads. refl))

-- the blocks that are gone over have a property exactly where the table has it, if rows with it fit
pub found-in-table : (s : Blocks) (key : List ℕ) (rows : List (List Value)) (fits : List Value → Type 0) → s.key.now ≡ key → IsEnough key rows fits s.rows → (P : List Value → Type 0) → ((y : List Value) → P y → fits y) →
    SomeBlockFits s.key.now s.rows P ↔ SomeBlockFits key rows P
found-in-table s key rows fits e h P strong = subst (λ k. SomeBlockFits k s.rows P ↔ SomeBlockFits key rows P) (sym e) (part-some key rows s.rows fits h P strong)

-- the place from which to go on is nearer to the end
pub goes-on : (s : Blocks) (from on : ℕ) (block : List (List Value)) → IsNextSought s from block on → length s.rows - on < length s.rows - from
goes-on s from on block n = let there = n.is.there in let low = n.low in let high = n.high in omega (arith, there, low, high)
