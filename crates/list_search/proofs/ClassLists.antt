-- The classes of blocks and of witnesses, list by list.
use Rattle.std.proofs.Common.{◌≡◌, ℕ, ◌<◌, ◌+◌, ◌↔◌, ◌⊎◌, inl, inr, List, [], ◌∷◌, ◌++◌, length, get_or, take, Option, Some, refl, sym, ◌∙◌, ap, subst, arith, Contains, slice_get, true}
use Rattle.std.proofs.lemmas.Slice.Eq.{slice_eq-Decides}
use Rattle.std.specs.Prelude.{nat_eq}
use Rattle.std.specs.Cmp.{unsigned_Decides}
use Rattle.std.specs.Cmp.Lexicographic.{pointwise}
use Rattle.std.specs.List.Sorted.{IsStrictlySortedBy}
use Rattle.std.specs.Ordering.{nat_cmp}
use Rattle.std.proofs.lemmas.List.{take_more}
use Rattle.std.proofs.lemmas.List.Elements.{Contains-append_left, Contains-push, Contains-push_cases}
use Rattle.std.proofs.lemmas.Option.{same_Some}
use Rattle.cqa_value.proofs.Words.{cases_next}
use Rattle.cqa_model.proofs.Classic.{mem-nil}
use Rattle.join_access.proofs.Sorted.{one_place}
use Rattle.row_lists.specs.declared.span.Span.{Span}
use Rattle.row_lists.specs.Clauses.{Variable, variable_cmp}
use Rattle.row_lists.specs.Spans.{at}
use Rattle.list_search.specs.Classing.{HasClass, AreRange, HasAllClasses, AreClassesOfBlock, AreBlockLists, AreListsOf}
use Rattle.row_lists.proofs.Rows.{variable_total}

pub some_some : (m n : ℕ) → Some (Some m) ≡ Some (Some n) → m ≡ n
some_some m n e = same_Some m n (same_Some (Some m) (Some n) e)

-- one more of the first
pub taken : {A : Type 0} (xs : List A) (i : ℕ) (x y : A) → i < length xs → x ≡ get_or xs i x → Contains (take (i + 1) xs) y → Contains (take i xs) y ⊎ (x ≡ y)
taken xs i x y l is m = Contains-push_cases (take i xs) x y (subst (λ zs. Contains zs y) (take_more xs i x l ∙ ap (λ z. take i xs ++ z ∷ []) (sym is)) m)

pub taken-next : {A : Type 0} (xs : List A) (i : ℕ) (x : A) → i < length xs → x ≡ get_or xs i x → take (i + 1) xs ≡ take i xs ++ x ∷ []
taken-next xs i x l is = take_more xs i x l ∙ ap (λ z. take i xs ++ z ∷ []) (sym is)

-- ---- ranges

module _ (vars : List Variable) (sorted : IsStrictlySortedBy variable_cmp vars) (classes : List (Option ℕ)) where
  one_index : (x : Variable) (k j : ℕ) → slice_get vars k ≡ Some x → slice_get vars j ≡ Some x → k ≡ j
  one_index x k j ek ej = one_place variable_cmp variable_total vars k j x sorted ek ej

  -- a row has one class
  one_class : (F p m n : ℕ) → HasClass vars classes F p m → HasClass vars classes F p n → m ≡ n
  one_class F p m n (k, ek, em) (j, ej, en) = some_some m n (sym em ∙ (ap (slice_get classes) (one_index (at F p) k j ek ej) ∙ en))

  pub range-none : (F a : ℕ) (numbers : List ℕ) → numbers ≡ [] → AreRange vars classes F a (a + 0) numbers
  range-none F a numbers e = record {
    each = λ n m. absurd (mem-nil n (subst (λ ns. Contains ns n) e m));
    every = λ p l u. absurd (omega (arith, l, u));
  }

  pub range-more : (F a i n : ℕ) (old new : List ℕ) → AreRange vars classes F a (a + i) old → HasClass vars classes F (a + i) n → new ≡ old ++ n ∷ [] → AreRange vars classes F a (a + (i + 1)) new
  range-more F a i n old new h c is = subst (AreRange vars classes F a (a + (i + 1))) (sym is) (record {
    each = λ j m. elim (Contains-push_cases old n j m) [
      | inl o ↦ let b = h.each j o in let u = b.2 in (b.0, b.1, omega (arith, u), b.3)
      | inr s ↦ (a + i, omega arith, omega arith, subst (HasClass vars classes F (a + i)) s c)
    ];
    every = λ p l u. elim (cases_next p (a + i) (omega (arith, u))) [
      | inl b ↦ let f = h.every p l b in (f.0, Contains-append_left old (n ∷ []) f.0 f.1, f.2)
      | inr s ↦ (n, Contains-push old n, subst (λ z. HasClass vars classes F z n) (sym s) c)
    ];
  })

  -- ---- blocks

  pub of_range : (s : Span) → (raw numbers : List ℕ) → AreRange vars classes s.slot s.start (s.start + s.count) raw → IsStrictlySortedBy nat_cmp numbers →
      ((n : ℕ) → Contains numbers n ↔ Contains raw n) → AreClassesOfBlock vars classes s numbers
  of_range s raw numbers r rises same = record {
    rises = rises;
    whole = λ p i. let f = r.every p i.1 i.2 in (f.0, f.2);
    exactly = λ n. (
      λ mn. let b = r.each n ((same n).0 mn) in (b.0, (refl, b.1, b.2), b.3),
      λ h. let f = r.every h.0 h.1.1 h.1.2 in (same n).1 (subst (Contains raw) (one_class s.slot h.0 f.0 n f.2 h.2) f.1),
    );
  }

  module _ (spans : List Span) where
    pub lists-none : (lists : List (List ℕ)) → lists ≡ [] → AreBlockLists vars classes (take 0 spans) lists
    lists-none lists e = record {
      each = λ ns m. absurd (mem-nil ns (subst (λ ls. Contains ls ns) e m));
      every = λ s m. absurd (mem-nil s m);
    }

    module _ (i : ℕ) (s : Span) (l : i < length spans) (is : s ≡ get_or spans i s) (old : List (List ℕ)) (h : AreBlockLists vars classes (take i spans) old) where
      before : (t : Span) → Contains (take i spans) t → Contains (take (i + 1) spans) t
      before t m = subst (λ zs. Contains zs t) (sym (taken-next spans i s l is)) (Contains-append_left (take i spans) (s ∷ []) t m)

      last : Contains (take (i + 1) spans) s
      last = subst (λ zs. Contains zs s) (sym (taken-next spans i s l is)) (Contains-push (take i spans) s)

      pub lists-push : (raw numbers : List ℕ) (new : List (List ℕ)) → AreRange vars classes s.slot s.start (s.start + s.count) raw → IsStrictlySortedBy nat_cmp numbers → ((n : ℕ) → Contains numbers n ↔ Contains raw n) →
          new ≡ old ++ numbers ∷ [] → AreBlockLists vars classes (take (i + 1) spans) new
      lists-push raw numbers new r rises same e = subst (AreBlockLists vars classes (take (i + 1) spans)) (sym e) (record {
        each = λ ns m. elim (Contains-push_cases old numbers ns m) [
          | inl o ↦ let b = h.each ns o in (b.0, before b.0 b.1, b.2)
          | inr q ↦ (s, last, subst (AreClassesOfBlock vars classes s) q (of_range s raw numbers r rises same))
        ];
        every = λ t mt w. elim (taken spans i s t l is mt) [
          | inl o ↦ let b = h.every t o w in (b.0, Contains-append_left old (numbers ∷ []) b.0 b.1, b.2)
          | inr q ↦ (numbers, Contains-push old numbers, subst (λ z. AreClassesOfBlock vars classes z numbers) q (of_range s raw numbers r rises same))
        ];
      })

      pub lists-skip : (HasAllClasses vars classes s → ⊥) → AreBlockLists vars classes (take (i + 1) spans) old
      lists-skip b = record {
        each = λ ns m. let c = h.each ns m in (c.0, before c.0 c.1, c.2);
        every = λ t mt w. elim (taken spans i s t l is mt) [
          | inl o ↦ h.every t o w
          | inr q ↦ absurd (b (subst (HasAllClasses vars classes) (sym q) w))
        ];
      }

-- ---- lists

module _ {A : Type 0} (Has : A → ℕ → Type 0) where
  -- the numbers of the items
  abbrev pub AreGathered : List A → List ℕ → Type 0
  AreGathered xs numbers = (n : ℕ) → Contains numbers n ↔ ((x : A) × Contains xs x × Has x n)

  pub gathered-none : (numbers : List ℕ) → numbers ≡ [] → AreGathered [] numbers
  gathered-none numbers e n = (λ m. absurd (mem-nil n (subst (λ ns. Contains ns n) e m)), λ h. absurd (mem-nil h.0 h.1))

  pub gathered-more : (xs : List A) (x : A) (old new : List ℕ) → AreGathered xs old → ((n : ℕ) → Contains new n ↔ (Contains old n ⊎ Has x n)) → AreGathered (xs ++ x ∷ []) new
  gathered-more xs x old new h s n = (
    λ m. elim ((s n).0 m) [
      | inl o ↦ let b = (h n).0 o in (b.0, Contains-append_left xs (x ∷ []) b.0 b.1, b.2)
      | inr c ↦ (x, Contains-push xs x, c)
    ],
    λ b. elim (Contains-push_cases xs x b.0 b.1) [
      | inl o ↦ (s n).1 (inl ((h n).1 (b.0, o, b.2)))
      | inr e ↦ (s n).1 (inr (subst (λ y. Has y n) (sym e) b.2))
    ],
  )

-- the lists of the items so far
module _ {A : Type 0} (Of : A → List ℕ → Type 0) where
  pub lists-of-none : AreListsOf Of [] []
  lists-of-none = record { each = λ ns m. absurd (mem-nil ns m); every = λ xs m. absurd (mem-nil xs m) }

  pub lists-of-more : (all : List A) (x : A) (old new : List (List ℕ)) (numbers : List ℕ) → AreListsOf Of all old → Of x numbers → new ≡ old ++ numbers ∷ [] → AreListsOf Of (all ++ x ∷ []) new
  lists-of-more all x old new numbers h o e = subst (AreListsOf Of (all ++ x ∷ [])) (sym e) (record {
    each = λ ns m. elim (Contains-push_cases old numbers ns m) [
      | inl b ↦ let f = h.each ns b in (f.0, Contains-append_left all (x ∷ []) f.0 f.1, f.2)
      | inr q ↦ (x, Contains-push all x, subst (Of x) q o)
    ];
    every = λ y m. elim (Contains-push_cases all x y m) [
      | inl b ↦ let f = h.every y b in (f.0, Contains-append_left old (numbers ∷ []) f.0 f.1, f.2)
      | inr q ↦ (numbers, Contains-push old numbers, subst (λ z. Of z numbers) q o)
    ];
  })

  -- lists that are the same are kept once
  pub lists-of-same : (all : List A) (old new : List (List ℕ)) → AreListsOf Of all old → ((ns : List ℕ) → Contains new ns ↔ Contains old ns) → AreListsOf Of all new
  lists-of-same all old new h s = record {
    each = λ ns m. h.each ns ((s ns).0 m);
    every = λ x m. let f = h.every x m in (f.0, (s f.0).1 f.1, f.2);
  }

-- lists that compare equal are the same
pub lists_equal : (xs ys : List ℕ) → pointwise nat_eq xs ys ≡ true → xs ≡ ys
lists_equal xs ys e = (slice_eq-Decides unsigned_Decides xs ys (pointwise nat_eq xs ys) refl).0 e
