-- The value that blocks surely give, while carriers are read.
use Rattle.std.proofs.Common.{◌≡◌, ◌⊎◌, inl, inr, ℕ, ◌+◌, ◌<◌, ◌≤◌, cond, List, [], ◌∷◌, length, get_or, drop, Option, Some, None, Contains, sym, ◌∙◌, ap, subst, arith}
use Rattle.std.specs.Prelude.{nat_eq}
use Rattle.std.proofs.lemmas.List.{drop_more}
use Rattle.cqa_value.specs.declared.value.Value.{Value}
use Rattle.cqa_value.proofs.Words.{cases_le}
use Rattle.cqa_model.specs.Database.{Table}
use Rattle.range_ask.specs.Ranges.{cell}
use Rattle.range_join.specs.declared.carriers.Extreme.{Extreme}
use Rattle.range_join.specs.declared.spans.Span.{Span}
use Rattle.range_join.specs.Firsts.{StandsIn, spans_at, blocks_at, IsFirst}
use Rattle.range_join.specs.Peaks.{lags, further, held_value, IsPeak}
use Rattle.range_join.proofs.Peaking.{peak-either, peak-same}
use Rattle.range_groups.specs.declared.surest.OpenBlock.{OpenBlock}
use Rattle.range_groups.specs.declared.touched.Carrier.{Carrier}
use Rattle.range_groups.specs.Spans.{no_span, AreSpansOfPlaces}
use Rattle.range_groups.specs.Touched.{other_way, carried_at, sure_value, AscendFrom, GivesSurely, IsReadMore, IsSure}
use Rattle.range_groups.proofs.Sparse.{spans-within, spans-apart}
use Rattle.range_groups.proofs.Touching.{IsPartRead, read-nothing, read-more, sure-read, none-before, carried-head, carried-tail, none-some}

-- spans stand one behind the other
pub record AreApart (spans : List Span) : Type 0 where
  pub some : (s : Span) → Contains spans s → s.from < s.behind
  pub apart : (s t : Span) → Contains spans s → Contains spans t → (s ≡ t) ⊎ ((s.behind ≤ t.from) ⊎ (t.behind ≤ s.from))

pub apart-of : (db : List Table) (table : ℕ) (spans : List Span) → AreSpansOfPlaces db table spans → AreApart (spans_at db table)
apart-of db table spans h = record {
  some = λ s m. (spans-within 0 (blocks_at db table) h.parted.blocks_are.some s m).1;
  apart = λ s t m k. spans-apart 0 (blocks_at db table) h.parted.blocks_are.some s t m k;
}

-- a block surely gives a value that a place below a bound has
abbrev pub IsSureBelow : Extreme → (ℕ → Option Value) → List Span → ℕ → Value → Type 0
IsSureBelow way best spans m v = (t : Span) × Contains spans t × (p : ℕ) × (p < m) × IsFirst (λ p q. lags way (best p) (best q)) t p × (best p ≡ Some v)

-- some carriers are left: of the values that blocks before the held one surely give one lies furthest
pub record IsWalked (way : Extreme) (best : ℕ → Option Value) (spans : List Span) (col : ℕ) (left : List Carrier) (first : Option Value) (held : OpenBlock) : Type 0 where
  pub bound : ℕ
  pub read : IsPartRead way best bound held.span held.next (held_value col held.near)
  pub closed : IsPeak way (IsSureBelow way best spans held.span.from) first
  pub real : Contains spans held.span ⊎ (held.span.behind ≡ 0)
  pub rise : AscendFrom bound left
  pub left_is : (q : ℕ) → bound ≤ q → best q ≡ carried_at col left q

module _ (way : Extreme) (best : ℕ → Option Value) (spans : List Span) (col : ℕ) (are : AreApart spans) where
  -- nothing was read
  pub walk-begins : (carriers : List Carrier) → AscendFrom 0 carriers → ((q : ℕ) → best q ≡ carried_at col carriers q) → (held : OpenBlock) → held.span ≡ no_span → held.next ≡ 0 → held_value col held.near ≡ None → IsWalked way best spans col carriers None held
  walk-begins carriers rise is held span next near = record {
    bound = 0;
    read = subst (λ s. IsPartRead way best 0 s held.next (held_value col held.near)) (sym span)
        (subst (λ k. IsPartRead way best 0 no_span k (held_value col held.near)) (sym next) (subst (λ o. IsPartRead way best 0 no_span 0 o) (sym near) (read-nothing way best no_span (omega arith))));
    closed = λ v h. let l = h.3 in let e = ap (λ (s : Span). s.from) span in absurd (omega (arith, l, e));
    real = inr (ap (λ (s : Span). s.behind) span);
    rise = rise;
    left_is = λ q l. is q;
  }

  module _ (bound : ℕ) (held : OpenBlock) (first : Option Value) (read : IsPartRead way best bound held.span held.next (held_value col held.near)) (closed : IsPeak way (IsSureBelow way best spans held.span.from) first) (real : Contains spans held.span ⊎ (held.span.behind ≡ 0)) where
    -- the open block is closed
    close : (m : ℕ) → held.span.behind ≤ m → ((q : ℕ) → bound ≤ q → q < m → best q ≡ None) → IsPeak way (IsSureBelow way best spans m) (further way first (sure_value col held))
    close m l none =
        peak-either way (IsSureBelow way best spans held.span.from) (GivesSurely way best held.span) (IsSureBelow way best spans m) left right both first (sure_value col held) closed
        (sure-read way best bound held.span held.next (held_value col held.near) read (λ q at before. none q at (omega (arith, before, l))))
      where
        left : (v : Value) → IsSureBelow way best spans held.span.from v → IsSureBelow way best spans m v
        left v h = let a = h.3 in let b = read.begun in let c = read.within in (h.0, h.1, h.2, omega (arith, a, b, c, l), h.4, h.5)

        right : (v : Value) → GivesSurely way best held.span v → IsSureBelow way best spans m v
        right v h = let a = h.1.there.1 in elim real [
          | inl there ↦ (held.span, there, h.0, omega (arith, a, l), h.1, h.2)
          | inr empty ↦ absurd (omega (arith, a, empty))
        ]

        both : (v : Value) → IsSureBelow way best spans m v → IsSureBelow way best spans held.span.from v ⊎ GivesSurely way best held.span v
        both v h = elim (cases_le bound h.2) [
          | inl at ↦ absurd (none-some v (sym (none h.2 at h.3) ∙ h.5))
          | inr before ↦ elim (cases_le held.span.from h.2) [
            | inl inside ↦ inr (h.2, subst (λ s. IsFirst (λ p q. lags way (best p) (best q)) s h.2) (this h.0 h.1 h.2 h.4.there (inside, (let w = read.within in omega (arith, before, w)))) h.4, h.5)
            | inr out ↦ inl (h.0, h.1, h.2, out, h.4, h.5)
          ]
        ]
          where
            this : (t : Span) → Contains spans t → (p : ℕ) → StandsIn t p → StandsIn held.span p → t ≡ held.span
            this t m p (a, b) (c, d) = elim real [
              | inl there ↦ elim (are.apart t held.span m there) [
                | inl same ↦ same
                | inr behind ↦ absurd (elim behind [ inl k ↦ omega (arith, k, a, b, c, d) | inr k ↦ omega (arith, k, a, b, c, d) ])
              ]
              | inr empty ↦ absurd (omega (arith, d, empty))
            ]

    -- a block with a place behind it begins behind it
    begins-behind : (s : Span) → Contains spans s → (p : ℕ) → StandsIn s p → held.span.behind ≤ p → held.span.behind ≤ s.from
    begins-behind s m p (a, b) l = elim real [
      | inl there ↦ elim (are.apart s held.span m there) [
        | inl same ↦ absurd (let e = ap (λ (t : Span). t.behind) same in omega (arith, e, b, l))
        | inr behind ↦ elim behind [
          | inl k ↦ absurd (let c = read.begun in let d = read.within in omega (arith, k, b, c, d, l))
          | inr k ↦ k
        ]
      ]
      | inr empty ↦ omega (arith, empty)
    ]

  -- what was read of a block, as it is stored
  stored : (old new : OpenBlock) (c : Carrier) (bound : ℕ) → IsReadMore way col old c new →
      IsPartRead way best bound old.span (cond (nat_eq c.place old.next) (c.place + 1) old.next) (further (other_way way) (held_value col old.near) (Some (cell c.row.now col))) →
      IsPartRead way best bound new.span new.next (held_value col new.near)
  stored old new c bound m r =
      subst (λ s. IsPartRead way best bound s new.next (held_value col new.near)) (sym m.span)
      (subst (λ k. IsPartRead way best bound old.span k (held_value col new.near)) (sym m.next) (subst (IsPartRead way best bound old.span (cond (nat_eq c.place old.next) (c.place + 1) old.next)) (sym m.near) r))

  module _ (c : Carrier) (left : List Carrier) (first : Option Value) (held : OpenBlock) (w : IsWalked way best spans col (c ∷ left) first held) where
    gap : (q : ℕ) → w.bound ≤ q → q < c.place → best q ≡ None
    gap q at less = w.left_is q at ∙ none-before col c.place q (c ∷ left) (omega arith, w.rise.1) less

    here : best c.place ≡ Some (cell c.row.now col)
    here = w.left_is c.place w.rise.0 ∙ carried-head col c left

    later : (q : ℕ) → c.place + 1 ≤ q → best q ≡ carried_at col left q
    later q l = let a = w.rise.0 in w.left_is q (omega (arith, a, l)) ∙ carried-tail col c left q (omega (arith, l))

    -- one carrier more of the open block
    walk-on : (new : OpenBlock) (next : Option Value) → c.place < held.span.behind → next ≡ first → IsReadMore way col held c new → IsWalked way best spans col left next new
    walk-on new next l same m = record {
      bound = c.place + 1;
      read = stored held new c (c.place + 1) m (read-more way best w.bound held.span held.next (held_value col held.near) w.read c.place (cell c.row.now col) w.rise.0 l gap here);
      closed = subst (λ s. IsPeak way (IsSureBelow way best spans s.from) next) (sym m.span) (subst (IsPeak way (IsSureBelow way best spans held.span.from)) (sym same) w.closed);
      real = subst (λ s. Contains spans s ⊎ (s.behind ≡ 0)) (sym m.span) w.real;
      rise = w.rise.1;
      left_is = later;
    }

    -- the first carrier of another block
    walk-over : (new : OpenBlock) (next : Option Value) (s : Span) → Contains spans s → StandsIn s c.place → held.span.behind ≤ c.place → next ≡ further way first (sure_value col held) → IsReadMore way col (record { span = s; next = s.from; near = None }) c new →
        IsWalked way best spans col left next new
    walk-over new next s at there l is m = record {
      bound = c.place + 1;
      read = stored (record { span = s; next = s.from; near = None }) new c (c.place + 1) m
          (read-more way best s.from s s.from None (read-nothing way best s (let h = are.some s at in omega (arith, h))) c.place (cell c.row.now col) there.0 there.1 (λ q low less. gap q (omega (arith, low, begins, within)) less) here);
      closed = subst (λ t. IsPeak way (IsSureBelow way best spans t.from) next) (sym m.span) (subst (IsPeak way (IsSureBelow way best spans s.from)) (sym is)
          (close w.bound held first w.read w.closed w.real s.from begins (λ q low less. let t = there.0 in gap q low (omega (arith, less, t)))));
      real = inl (subst (Contains spans) (sym m.span) at);
      rise = w.rise.1;
      left_is = later;
    }
      where
        begins : held.span.behind ≤ s.from
        begins = begins-behind w.bound held first w.read w.closed w.real s at c.place there l

        within : w.bound ≤ held.span.behind
        within = w.read.within

    -- one carrier more
    pub walk-step : (new : OpenBlock) (next : Option Value) (s : Span) → Contains spans s → StandsIn s c.place →
        (c.place < held.span.behind → (next ≡ first) × IsReadMore way col held c new) →
        (held.span.behind ≤ c.place → (next ≡ further way first (sure_value col held)) × IsReadMore way col (record { span = s; next = s.from; near = None }) c new) →
        IsWalked way best spans col left next new
    walk-step new next s at there same other = elim (cases_le held.span.behind c.place) [
      | inl over ↦ (let o = other over in walk-over new next s at there over o.0 o.1)
      | inr on ↦ (let k = same on in walk-on new next on k.0 k.1)
    ]

  -- the carrier that is read next
  pub walk-item : (carriers : List Carrier) (i : ℕ) (c : Carrier) → i < length carriers → c ≡ get_or carriers i c → (first : Option Value) (held : OpenBlock) → IsWalked way best spans col (drop i carriers) first held →
      IsWalked way best spans col (c ∷ drop (i + 1) carriers) first held
  walk-item carriers i c l is first held w = subst (λ left. IsWalked way best spans col left first held) (drop_more carriers i c l ∙ ap (λ (x : Carrier). x ∷ drop (i + 1) carriers) (sym is)) w

  -- all were read
  pub walk-ends : (first : Option Value) (held : OpenBlock) → IsWalked way best spans col [] first held → IsPeak way (IsSure way best spans) (further way first (sure_value col held))
  walk-ends first held w =
      peak-same way (IsSureBelow way best spans held.span.behind) (IsSure way best spans) (λ v h. (h.0, h.1, (h.2, h.4, h.5))) (λ v h. (h.0, h.1, h.2.0, below h.2.0 v h.2.2, h.2.1, h.2.2)) (further way first (sure_value col held))
      (close w.bound held first w.read w.closed w.real held.span.behind (omega arith) (λ q at less. w.left_is q at))
    where
      below : (p : ℕ) (v : Value) → best p ≡ Some v → p < held.span.behind
      below p v e = elim (cases_le w.bound p) [
        | inl at ↦ absurd (none-some v (sym (w.left_is p at) ∙ e))
        | inr before ↦ (let l = w.read.within in omega (arith, before, l))
      ]
