-- What rows of a group add up to, with one row more and with one block more.
use Rattle.std.proofs.Common.{◌≡◌, inl, inr, ℕ, suc, ◌<◌, Bool, true, false, List, [], ◌∷◌, ◌++◌, length, Contains, refl, sym, ◌∙◌, ap, subst, arith, length-append}
use Rattle.std.specs.Prelude.{ℤ, pos, negsuc, ◌^◌, ◌+ℤ◌, ◌≤ℤ◌}
use Rattle.std.specs.Int.{saturate_signed}
use mir.Val.{SFits, to_z, of_z}
use mir.Syntax.{w64, w128}
use Rattle.std.proofs.lemmas.Int.{ints, to_z-of_z}
use Rattle.std.proofs.lemmas.List.Elements.{Contains-get_or}
use Rattle.cqa_value.specs.declared.value.Value.{Value}
use Rattle.cqa_value.proofs.Words.{all_zip_push, cases_next, clash}
use Rattle.range_ask.specs.declared.total.Total.{Total}
use Rattle.range_ask.specs.Picks.{IsCheapest, IsDearest}
use Rattle.range_ask.specs.Finding.{row_in_block}
use Rattle.range_ask.specs.Walking.{IsWithinBlocks}
use Rattle.range_ask.specs.Tallying.{IsSureOf, NoneOf, IsEither, AtMostℤ, AtLeastℤ, IsSum, AreSums, IsOpenPart, AreAdding}
use Rattle.range_ask.proofs.Chosen.{place}
use Rattle.range_ask.proofs.Walked.{total-push, within-more}

abbrev pub AddsNone : (List Value → ℤ) → (List Value → Bool) → Type 0
AddsNone f p = (x : List Value) → p x ≡ false → f x ≡ pos 0

sum-more : (R : List (List Value) → List Value → Type 0) (f : List Value → ℤ) (front : List (List (List Value))) (block : List (List Value)) (n m : ℤ) (y : List Value) →
    IsSum R f front n → R block y → IsWithinBlocks 1 (f y) → m ≡ n +ℤ f y → IsSum R f (front ++ block ∷ []) m
sum-more R f front block n m y h r small e = record {
  picks = h.picks ++ y ∷ [];
  picked = all_zip_push R front h.picks block y h.picked r;
  is = e ∙ (ap (λ k. k +ℤ f y) h.is ∙ sym (total-push f h.picks y));
  within = subst (λ k. IsWithinBlocks k m) (sym (length-append front (block ∷ []))) (within-more (length front) n (f y) m h.within small e);
}

-- ---- one part, whichever way sums are compared

module _ (Le : ℤ → ℤ → Type 0) (le-trans : (a b c : ℤ) → Le a b → Le b c → Le a c) (f : List Value → ℤ) (p : List Value → Bool) (sure : Bool) (block : List (List Value)) (n : ℕ) where
  pub part-open : AddsNone f p → IsSureOf sure p block → n < length block → p (row_in_block block n) ≡ true → NoneOf p block n → (worth other part : ℤ) → f (row_in_block block n) ≡ worth →
      (sure ≡ true → other ≡ worth) → (sure ≡ false → other ≡ pos 0) → IsEither Le other worth part → IsWithinBlocks 1 part → IsOpenPart Le f sure block (suc n) part
  part-open adds h l t none worth other part e when_sure when_not c small = record {
    small = small;
    there = elim c.one [ inl o ↦ from sure refl o | inr w ↦ (row_in_block block n, here, e ∙ sym w) ];
    bound = λ i k. elim (cases_next i n (omega (arith, k))) [
      | inl lt ↦ below i lt sure refl
      | inr same ↦ subst (Le part) (sym (ap (λ k. f (row_in_block block k)) same ∙ e)) c.second
    ];
    loose = λ s. subst (Le part) (when_not s) c.first;
  }
    where
      here : Contains block (row_in_block block n)
      here = Contains-get_or block n [] l

      from : (b : Bool) → sure ≡ b → part ≡ other → (y : List Value) × Contains block y × (f y ≡ part)
      from true s o = (row_in_block block n, here, e ∙ sym (o ∙ when_sure s))
      from false s o = let y = h.misses s in (y.0, y.1, adds y.0 y.2 ∙ sym (o ∙ when_not s))

      below : (i : ℕ) → i < n → (b : Bool) → sure ≡ b → Le part (f (row_in_block block i))
      below i lt true s = absurd (clash (p (row_in_block block i)) (h.together s (row_in_block block n) (row_in_block block i) here (Contains-get_or block i [] (omega (arith, lt, l))) t) (none i lt))
      below i lt false s = subst (Le part) (when_not s ∙ sym (adds (row_in_block block i) (none i lt))) c.first

  pub part-more : n < length block → (worth old part : ℤ) → f (row_in_block block n) ≡ worth → IsOpenPart Le f sure block n old → IsEither Le old worth part → IsWithinBlocks 1 part → IsOpenPart Le f sure block (suc n) part
  part-more l worth old part e h c small = record {
    small = small;
    there = elim c.one [ inl o ↦ (h.there.0, h.there.1, h.there.2 ∙ sym o) | inr w ↦ (row_in_block block n, Contains-get_or block n [] l, e ∙ sym w) ];
    bound = λ i k. elim (cases_next i n (omega (arith, k))) [
      | inl lt ↦ le-trans part old (f (row_in_block block i)) c.first (h.bound i lt)
      | inr same ↦ subst (Le part) (sym (ap (λ k. f (row_in_block block k)) same ∙ e)) c.second
    ];
    loose = λ s. le-trans part old (pos 0) c.first (h.loose s);
  }

  pub part-miss : (part : ℤ) → f (row_in_block block n) ≡ pos 0 → (sure ≡ true → ⊥) → IsOpenPart Le f sure block n part → IsOpenPart Le f sure block (suc n) part
  part-miss part e unsure h = record {
    small = h.small;
    there = h.there;
    bound = λ i k. elim (cases_next i n (omega (arith, k))) [
      | inl lt ↦ h.bound i lt
      | inr same ↦ subst (Le part) (sym (ap (λ k. f (row_in_block block k)) same ∙ e)) (zero-bound sure refl)
    ];
    loose = h.loose;
  }
    where
      zero-bound : (b : Bool) → sure ≡ b → Le part (pos 0)
      zero-bound true s = absurd (unsure s)
      zero-bound false s = h.loose s

part-end : (Le : ℤ → ℤ → Type 0) (f : List Value → ℤ) (sure : Bool) (block : List (List Value)) (part : ℤ) (h : IsOpenPart Le f sure block (length block) part) → (y : List Value) → Contains block y → Le (f h.there.0) (f y)
part-end Le f sure block part h y m = let i = place block y m in subst (λ n. Le n (f y)) (sym h.there.2) (subst (λ z. Le part (f z)) i.2 (h.bound i.0 i.1))

pub most-trans : (a b c : ℤ) → AtMostℤ a b → AtMostℤ b c → AtMostℤ a c
most-trans a b c h k = omega (arith, ints, h, k)

pub least-trans : (a b c : ℤ) → AtLeastℤ a b → AtLeastℤ b c → AtLeastℤ a c
least-trans a b c h k = omega (arith, ints, h, k)

-- ---- both

module _ (f : List Value → ℤ) (p : List Value → Bool) (adds : AddsNone f p) (sure : Bool) (front : List (List (List Value))) (block : List (List Value)) (h : IsSureOf sure p block) where
  front-longer : length (front ++ block ∷ []) ≡ suc (length front)
  front-longer = length-append front (block ∷ []) ∙ omega arith

  pub adding-begin : (t : Total) → AreSums f front t → AreAdding f p sure front block 0 t
  adding-begin t s = inl (s, λ i l. absurd (omega (arith, l)))

  pub adding-miss : (n : ℕ) (t : Total) → n < length block → p (row_in_block block n) ≡ false → AreAdding f p sure front block n t → AreAdding f p sure front block (suc n) t
  adding-miss n t l e (inl (s, none)) = inl (s, λ i k. elim (cases_next i n (omega (arith, k))) [ inl lt ↦ none i lt | inr same ↦ ap (λ k. p (row_in_block block k)) same ∙ e ])
  adding-miss n t l e (inr o) = inr (record {
    number_is = o.number_is;
    low = o.low;
    high = o.high;
    least = part-miss AtMostℤ most-trans f p sure block n t.least (adds (row_in_block block n) e) unsure o.least;
    most = part-miss AtLeastℤ least-trans f p sure block n t.most (adds (row_in_block block n) e) unsure o.most;
    all = o.all;
  })
    where
      unsure : sure ≡ true → ⊥
      unsure s = clash (p (row_in_block block n)) (o.all s (row_in_block block n) (Contains-get_or block n [] l)) e

  pub adding-end : 0 < length block → (t : Total) → AreAdding f p sure front block (length block) t → AreSums f (front ++ block ∷ []) t
  adding-end some t (inl (s, none)) = record {
    low = sum-more (IsCheapest f) f front block (t.low +ℤ t.least) (t.low +ℤ t.least) y s.low (record { there = my; least = λ z m. zeros z m }) small (same (t.low +ℤ t.least));
    high = sum-more (IsDearest f) f front block (t.high +ℤ t.most) (t.high +ℤ t.most) y s.high (record { there = my; most = λ z m. zeros-back z m }) small (same (t.high +ℤ t.most));
    early = (let l = s.early in let e = front-longer in omega (arith, l, e));
  }
    where
      y : List Value
      y = row_in_block block 0

      my : Contains block y
      my = Contains-get_or block 0 [] some

      zero-at : (z : List Value) → Contains block z → f z ≡ pos 0
      zero-at z m = let i = place block z m in subst (λ x. f x ≡ pos 0) i.2 (adds (row_in_block block i.0) (none i.0 i.1))

      zeros : (z : List Value) → Contains block z → f y ≤ℤ f z
      zeros z m = let a = zero-at y my in let b = zero-at z m in omega (arith, ints, a, b)

      zeros-back : (z : List Value) → Contains block z → f z ≤ℤ f y
      zeros-back z m = let a = zero-at y my in let b = zero-at z m in omega (arith, ints, a, b)

      small : IsWithinBlocks 1 (f y)
      small = let a = zero-at y my in record { above = omega (arith, ints, a); below = omega (arith, ints, a) }

      same : (n : ℤ) → n ≡ n +ℤ f y
      same n = let a = zero-at y my in omega (arith, ints, a)
  adding-end some t (inr o) = record {
    low = sum-more (IsCheapest f) f front block t.low (t.low +ℤ t.least) o.least.there.0 o.low (record { there = o.least.there.1; least = λ z m. part-end AtMostℤ f sure block t.least o.least z m })
        (subst (IsWithinBlocks 1) (sym o.least.there.2) o.least.small) (ap (λ n. t.low +ℤ n) (sym o.least.there.2));
    high = sum-more (IsDearest f) f front block t.high (t.high +ℤ t.most) o.most.there.0 o.high (record { there = o.most.there.1; most = λ z m. part-end AtLeastℤ f sure block t.most o.most z m })
        (subst (IsWithinBlocks 1) (sym o.most.there.2) o.most.small) (ap (λ n. t.high +ℤ n) (sym o.most.there.2));
    early = (let l = o.number_is in let e = front-longer in omega (arith, l, e));
  }

  module _ (n : ℕ) (l : n < length block) (t : p (row_in_block block n) ≡ true) (number : ℕ) (is : number ≡ suc (length front)) (worth : ℤ) (e : f (row_in_block block n) ≡ worth) where
    met-all : sure ≡ true → (y : List Value) → Contains block y → p y ≡ true
    met-all s y m = h.together s (row_in_block block n) y (Contains-get_or block n [] l) m t

    -- the block gave rows of the group before
    pub adding-more : (old new : Total) → old.number ≡ number → new.number ≡ old.number → new.low ≡ old.low → new.high ≡ old.high → IsEither AtMostℤ old.least worth new.least → IsEither AtLeastℤ old.most worth new.most →
        IsWithinBlocks 1 new.least → IsWithinBlocks 1 new.most → AreAdding f p sure front block n old → AreAdding f p sure front block (suc n) new
    adding-more old new here a b c least most sl sm (inl (s, none)) = absurd (let z = s.early in omega (arith, z, here, is))
    adding-more old new here a b c least most sl sm (inr o) = inr (record {
      number_is = a ∙ o.number_is;
      low = subst (IsSum (IsCheapest f) f front) (sym b) o.low;
      high = subst (IsSum (IsDearest f) f front) (sym c) o.high;
      least = part-more AtMostℤ most-trans f p sure block n l worth old.least new.least e o.least least sl;
      most = part-more AtLeastℤ least-trans f p sure block n l worth old.most new.most e o.most most sm;
      all = o.all;
    })

    -- it gives the first
    pub adding-open : (old new : Total) → (old.number ≡ number → ⊥) → (other : ℤ) → (sure ≡ true → other ≡ worth) → (sure ≡ false → other ≡ pos 0) → new.number ≡ number →
        (IsWithinBlocks (length front) (old.low +ℤ old.least) → new.low ≡ old.low +ℤ old.least) → (IsWithinBlocks (length front) (old.high +ℤ old.most) → new.high ≡ old.high +ℤ old.most) →
        IsEither AtMostℤ other worth new.least → IsEither AtLeastℤ other worth new.most → IsWithinBlocks 1 new.least → IsWithinBlocks 1 new.most → AreAdding f p sure front block n old → AreAdding f p sure front block (suc n) new
    adding-open old new apart other when_sure when_not a b c least most sl sm (inr o) = absurd (apart (o.number_is ∙ sym is))
    adding-open old new apart other when_sure when_not a b c least most sl sm (inl (s, none)) = inr (record {
      number_is = a ∙ is;
      low = subst (IsSum (IsCheapest f) f front) (sym (b s.low.within)) s.low;
      high = subst (IsSum (IsDearest f) f front) (sym (c s.high.within)) s.high;
      least = part-open AtMostℤ most-trans f p sure block n adds h l t none worth other new.least e when_sure when_not least sl;
      most = part-open AtLeastℤ least-trans f p sure block n adds h l t none worth other new.most e when_sure when_not most sm;
      all = met-all;
    })

-- ---- as machine numbers

pub either-is : (Le : ℤ → ℤ → Type 0) (a a' b b' c c' : ℤ) → a ≡ a' → b ≡ b' → c ≡ c' → IsEither Le a b c → IsEither Le a' b' c'
either-is Le a a' b b' c c' ea eb ec h = subst (λ x. IsEither Le x b' c') ea (subst (λ x. IsEither Le a x c') eb (subst (IsEither Le a b) ec h))

wide-fits : (z : ℤ) → SFits w64 z → SFits w128 z
wide-fits z f = let l = f.sfits in record { sfits = omega (arith, l) }

pub widened : (z : ℤ) → SFits w64 z → to_z w128 (of_z w128 (to_z w64 (of_z w64 z))) ≡ z
widened z f = ap (λ x. to_z w128 (of_z w128 x)) (to_z-of_z w64 z f) ∙ to_z-of_z w128 z (wide-fits z f)

saturated : (k : ℕ) → k < 2 ^ 32 → (z : ℤ) → IsWithinBlocks k z → saturate_signed w128 z ≡ z
saturated k l (pos n) h = let b = h.below in ap pos (omega (arith, ints, b, l))
saturated k l (negsuc n) h = let a = h.above in ap negsuc (omega (arith, ints, a, l))

-- a sum that fits
pub saturated-sum : (k : ℕ) → k < 2 ^ 32 → (before part sum : ℤ) → SFits w128 before → SFits w64 part → SFits w128 sum →
    sum ≡ saturate_signed w128 (to_z w128 (of_z w128 before) +ℤ to_z w128 (of_z w128 (to_z w64 (of_z w64 part)))) → IsWithinBlocks k (before +ℤ part) → to_z w128 (of_z w128 sum) ≡ before +ℤ part
saturated-sum k l before part sum fb fp fs e h =
    to_z-of_z w128 sum fs ∙ (e ∙ (ap (λ a. saturate_signed w128 (a +ℤ to_z w128 (of_z w128 (to_z w64 (of_z w64 part))))) (to_z-of_z w128 before fb)
    ∙ (ap (λ b. saturate_signed w128 (before +ℤ b)) (widened part fp) ∙ saturated k l (before +ℤ part) h)))

pub passed-sum : (a b : ℤ) → SFits w128 a → SFits w64 b → (to_z w128 (of_z w128 a) +ℤ to_z w64 (of_z w64 b)) ≡ a +ℤ b
passed-sum a b fa fb = ap (λ x. x +ℤ to_z w64 (of_z w64 b)) (to_z-of_z w128 a fa) ∙ ap (λ y. a +ℤ y) (to_z-of_z w64 b fb)
