-- Rows that are sifted, one more.
use Rattle.std.proofs.Common.{◌≡◌, ◌↔◌, ◌∙◌, inl, inr, List, [], ◌∷◌, ◌++◌, refl, sym, ap, subst, Contains, Less, append_assoc}
use Rattle.std.specs.List.Sorted.{IsStrictlySortedBy}
use Rattle.std.proofs.lemmas.List.{append-nil}
use Rattle.std.proofs.lemmas.List.Elements.{Contains-append_right}
use Rattle.cqa_value.specs.declared.value.Value.{Value}
use Rattle.cqa_value.specs.Values.{row_cmp}
use Rattle.cqa_value.proofs.Words.{sorted_cons, member_by_recursion, mem-head, mem-tail, mem-nil, mem-cases}
use Rattle.cqa_model.specs.declared.query.Query.{Query}
use Rattle.cqa_model.specs.Database.{Table}
use Rattle.cqa_model.specs.Query.{FitsDatabase}
use Rattle.cqa_model.specs.Certain.{IsCandidate}
use Rattle.cqa_model.proofs.Databases.{possible_is_candidate}
use Rattle.row_answers.specs.declared.side.Side.{Side}
use Rattle.row_answers.specs.declared.side.Side.TheVariants.{Certain, Disputed}
use Rattle.row_answers.specs.Sides.{IsOf, IsAnswerOf}
use Rattle.row_answers.specs.Sifting.{Sifts, AreSifted}

pub sorted-behind : (done later : List (List Value)) → IsStrictlySortedBy row_cmp (done ++ later) → IsStrictlySortedBy row_cmp later
unfolding IsStrictlySortedBy
sorted-behind [] later s = s
sorted-behind (x ∷ done) later s = sorted-behind done later s.1

module _ (Kept : List Value → Type 0) where
  pub sifted-more : (rows old new : List (List Value)) (row : List Value) → AreSifted Kept rows old → Sifts Kept row old new → AreSifted Kept (rows ++ row ∷ []) new
  sifted-more [] old new row e (inl (c, is)) = inl (c, ([], is ∙ ap (λ z. z ++ row ∷ []) e, refl))
  sifted-more [] old new row e (inr (n, is)) = inr (n, is ∙ e)
  sifted-more (r ∷ rows) old new row (inl (c, (later, e, s))) (inl (d, is)) = inl (c, (later ++ row ∷ [], is ∙ ap (λ z. z ++ row ∷ []) e, sifted-more rows later (later ++ row ∷ []) row s (inl (d, refl))))
  sifted-more (r ∷ rows) old new row (inl (c, (later, e, s))) (inr (n, is)) = inl (c, (later, is ∙ e, sifted-more rows later later row s (inr (n, refl))))
  sifted-more (r ∷ rows) old new row (inr (m, s)) k = inr (m, sifted-more rows old new row s k)

  pub sifted-in : (rows left : List (List Value)) → AreSifted Kept rows left → (x : List Value) → Contains left x → Contains rows x × Kept x
  sifted-in [] left e x m = absurd (mem-nil x (subst (λ z. Contains z x) e m))
  sifted-in (r ∷ rows) left (inl (c, (later, e, s))) x m = elim (mem-cases x r later (subst (λ z. Contains z x) e m)) [
    | inl d ↦ subst (λ z. Contains (r ∷ rows) z × Kept z) d (mem-head r rows, c)
    | inr k ↦ let h = sifted-in rows later s x k in (mem-tail x r rows h.0, h.1)
  ]
  sifted-in (r ∷ rows) left (inr (n, s)) x m = let h = sifted-in rows left s x m in (mem-tail x r rows h.0, h.1)

  pub sifted-out : (rows left : List (List Value)) → AreSifted Kept rows left → (x : List Value) → Contains rows x → Kept x → Contains left x
  sifted-out [] left e x m c = absurd (mem-nil x m)
  sifted-out (r ∷ rows) left (inl (d, (later, e, s))) x m c = subst (λ z. Contains z x) (sym e) (elim (mem-cases x r rows m) [
    | inl k ↦ subst (λ z. Contains (r ∷ later) z) k (mem-head r later)
    | inr k ↦ mem-tail x r later (sifted-out rows later s x k c)
  ])
  sifted-out (r ∷ rows) left (inr (n, s)) x m c = elim (mem-cases x r rows m) [
    | inl k ↦ absurd (n (subst Kept (sym k) c))
    | inr k ↦ sifted-out rows left s x k c
  ]

  pub sifted-sorted : (rows left : List (List Value)) → AreSifted Kept rows left → IsStrictlySortedBy row_cmp rows → IsStrictlySortedBy row_cmp left
  unfolding IsStrictlySortedBy
  sifted-sorted [] left e k = subst (IsStrictlySortedBy row_cmp) (sym e) tt
  sifted-sorted (r ∷ rows) left (inl (c, (later, e, s))) k = subst (IsStrictlySortedBy row_cmp) (sym e)
      (sorted_cons row_cmp r later (λ y m. member_by_recursion (λ z. row_cmp r z ≡ Less) rows k.0 y (sifted-in rows later s y m).0) (sifted-sorted rows later s k.1))
  sifted-sorted (r ∷ rows) left (inr (n, s)) k = sifted-sorted rows left s k.1

  -- the rows so far are sifted, and these are to come
  pub record AreDone (rows left later : List (List Value)) : Type 0 where
    pub done : List (List Value)
    pub cut : rows ≡ done ++ later
    pub sifted : AreSifted Kept done left

  pub done-none : (rows left : List (List Value)) → left ≡ [] → AreDone rows left rows
  done-none rows left e = record { done = []; cut = refl; sifted = e }

  pub done-more : (rows old new : List (List Value)) (row : List Value) (later : List (List Value)) → AreDone rows old (row ∷ later) → Sifts Kept row old new → AreDone rows new later
  done-more rows old new row later h s = record { done = h.done ++ row ∷ []; cut = h.cut ∙ sym (append_assoc h.done (row ∷ []) later); sifted = sifted-more h.done old new row h.sifted s }

  pub done-all : (rows left later : List (List Value)) → AreDone rows left later → later ≡ [] → AreSifted Kept rows left
  done-all rows left later h e = subst (λ xs. AreSifted Kept xs left) (sym (h.cut ∙ (ap (λ l. h.done ++ l) e ∙ append-nil h.done))) h.sifted

  pub next-in : (rows left : List (List Value)) (row : List Value) (later : List (List Value)) → AreDone rows left (row ∷ later) → Contains rows row
  next-in rows left row later h = subst (λ xs. Contains xs row) (sym h.cut) (Contains-append_right h.done (row ∷ later) row (mem-head row later))

  -- the rows to come ascend as all do
  pub later-sorted : (rows left later : List (List Value)) → IsStrictlySortedBy row_cmp rows → AreDone rows left later → IsStrictlySortedBy row_cmp later
  later-sorted rows left later s h = sorted-behind h.done later (subst (IsStrictlySortedBy row_cmp) h.cut s)

-- rows are sifted the same by what says the same of them
pub sifted-as : (P Q : List Value → Type 0) → ((row : List Value) → P row → Q row) → ((row : List Value) → Q row → P row) → (rows left : List (List Value)) → AreSifted P rows left → AreSifted Q rows left
sifted-as P Q to from [] left e = e
sifted-as P Q to from (r ∷ rows) left (inl (p, (later, e, s))) = inl (to r p, (later, e, sifted-as P Q to from rows later s))
sifted-as P Q to from (r ∷ rows) left (inr (n, s)) = inr (λ q. n (from r q), sifted-as P Q to from rows left s)

-- the rows of a side are those that are left of the possible ones
module _ (db : List Table) (q : Query) (fits : FitsDatabase q db) (rows answers : List (List Value)) (ascending : IsStrictlySortedBy row_cmp rows) (exactly : (row : List Value) → Contains rows row ↔ IsCandidate db q row) where
  pub answer-of : (side : Side) → AreSifted (IsOf db q side) rows answers → IsAnswerOf db q side answers
  answer-of Certain s = record {
    ascending = sifted-sorted (IsOf db q Certain) rows answers s ascending;
    exactly = λ row. (λ m. (sifted-in (IsOf db q Certain) rows answers s row m).1, λ k. sifted-out (IsOf db q Certain) rows answers s row ((exactly row).1 (possible_is_candidate.certain db q row fits k)) k);
  }
  answer-of Disputed s = record {
    ascending = sifted-sorted (IsOf db q Disputed) rows answers s ascending;
    exactly = λ row. (
      λ m. let h = sifted-in (IsOf db q Disputed) rows answers s row m in ((possible_is_candidate.possible db q row fits).1 ((exactly row).0 h.0), h.1),
      λ k. sifted-out (IsOf db q Disputed) rows answers s row ((exactly row).1 ((possible_is_candidate.possible db q row fits).0 k.0)) k.1,
    );
  }
