-- Candidates and tables of the parts so far.
use Rattle.std.proofs.Common.{◌≡◌, ◌⊎◌, ◌↔◌, inl, inr, ℕ, ◌+◌, ◌<◌, ◌≤◌, List, [], ◌∷◌, ◌++◌, length, get_or, take, ap, sym, ◌∙◌, subst, arith, Contains}
use Rattle.std.proofs.lemmas.List.Elements.{Contains-get_or, Contains-append_left, Contains-append_right, Contains-push_cases}
use Rattle.cqa_value.specs.declared.value.Value.{Value}
use Rattle.cqa_value.proofs.Words.{cases_next, mem-head, mem-tail, mem-nil, mem-cases, member_place}
use Rattle.cqa_model.specs.declared.query.Query.{Query}
use Rattle.cqa_model.specs.Database.{Table}
use Rattle.cqa_model.specs.Query.{atom_at}
use Rattle.cqa_model.specs.Certain.{IsCandidate, IsPossibleAnswer}
use Rattle.cqa_model.specs.Unions.{IsCandidateIn}
use Rattle.part_search.specs.Parts.{IsTableOf, IsTableIn}
use Rattle.union_ask.specs.Candidates.{AreCandidatesIn}
use Rattle.part_search.proofs.Taking.{some-none, some-more, some-all, all-some}

-- ---- rows that are put in, one after the other

-- the rows that were put in and those to come are all of these
abbrev pub ArePutTo : List (List Value) → List (List Value) → List (List Value) → List (List Value) → Type 0
ArePutTo old all answers left = (row : List Value) → (Contains answers row ⊎ Contains left row) ↔ (Contains old row ⊎ Contains all row)

module _ (old all answers new : List (List Value)) (row : List Value) (later : List (List Value)) (h : ArePutTo old all answers (row ∷ later))
    (put : (other : List Value) → Contains new other ↔ (Contains answers other ⊎ (row ≡ other))) where
  pub put-more : ArePutTo old all new later
  put-more x = (
    λ s. elim s [
      | inl n ↦ elim ((put x).0 n) [ inl o ↦ (h x).0 (inl o) | inr e ↦ (h x).0 (inr (subst (Contains (row ∷ later)) e (mem-head row later))) ]
      | inr m ↦ (h x).0 (inr (mem-tail x row later m))
    ],
    λ r. elim ((h x).1 r) [
      | inl o ↦ inl ((put x).1 (inl o))
      | inr m ↦ elim (mem-cases x row later m) [ inl e ↦ inl ((put x).1 (inr e)) | inr n ↦ inr n ]
    ],
  )

pub put-all : (old all answers left : List (List Value)) → ArePutTo old all answers left → left ≡ [] → (row : List Value) → Contains answers row ↔ (Contains old row ⊎ Contains all row)
put-all old all answers left h e row = (
  λ m. (h row).0 (inl m),
  λ s. elim ((h row).1 s) [ inl m ↦ m | inr m ↦ absurd (mem-nil row (subst (λ xs. Contains xs row) e m)) ],
)

-- ---- the candidates of the parts so far

module _ (db : List Table) (parts : List Query) where
  pub candidates-none : (answers : List (List Value)) → answers ≡ [] → (row : List Value) → Contains answers row ↔ IsCandidateIn db (take 0 parts) row
  candidates-none answers e row = (λ m. absurd (mem-nil row (subst (λ xs. Contains xs row) e m)), λ c. absurd (some-none (λ q. IsCandidate db q row) parts c))

  pub candidates-more : (at : ℕ) (q p : Query) (tables : List Table) (old new : List (List Value)) → at < length parts → q ≡ get_or parts at q → p ≡ q → tables ≡ db →
      ((row : List Value) → Contains old row ↔ IsCandidateIn db (take at parts) row) → ((row : List Value) → Contains new row ↔ (Contains old row ⊎ IsCandidate tables p row)) →
      (row : List Value) → Contains new row ↔ IsCandidateIn db (take (at + 1) parts) row
  candidates-more at q p tables old new l is same same_db h put row = (
    λ m. more.1 (elim ((put row).0 m) [ inl o ↦ inl ((h row).0 o) | inr c ↦ inr (to c) ]),
    λ s. (put row).1 (elim (more.0 s) [ inl o ↦ inl ((h row).1 o) | inr c ↦ inr (from c) ]),
  )
    where
      more : ((x : Query) × Contains (take (at + 1) parts) x × IsCandidate db x row) ↔ (((x : Query) × Contains (take at parts) x × IsCandidate db x row) ⊎ IsCandidate db (get_or parts at q) row)
      more = some-more (λ x. IsCandidate db x row) parts at q l

      to : IsCandidate tables p row → IsCandidate db (get_or parts at q) row
      to c = subst (λ x. IsCandidate db x row) (same ∙ is) (subst (λ t. IsCandidate t p row) same_db c)

      from : IsCandidate db (get_or parts at q) row → IsCandidate tables p row
      from c = subst (λ t. IsCandidate t p row) (sym same_db) (subst (λ x. IsCandidate db x row) (sym (same ∙ is)) c)

  pub candidates-all : (at : ℕ) (answers : List (List Value)) → length parts ≤ at → ((row : List Value) → Contains answers row ↔ IsCandidateIn db (take at parts) row) → (row : List Value) → Contains answers row ↔ IsCandidateIn db parts row
  candidates-all at answers l h row = (λ m. some-all (λ q. IsCandidate db q row) parts at l ((h row).0 m), λ c. (h row).1 (all-some (λ q. IsCandidate db q row) parts at l c))

-- ---- the candidates of the only part

module _ (parts : List Query) (q : Query) (one : length parts ≡ 1) (is : q ≡ get_or parts 0 q) where
  pub one-part-in : Contains parts q
  one-part-in = subst (Contains parts) (sym is) (Contains-get_or parts 0 q (omega (arith, one)))

  only : (p : Query) → Contains parts p → p ≡ q
  only p m =
      let at = member_place parts p q m in
      let l = at.1 in
      let first : at.0 ≡ 0 = omega (arith, l, one) in
      sym at.2 ∙ (ap (λ i. get_or parts i q) first ∙ sym is)

module _ (db : List Table) (parts : List Query) (q : Query) (one : length parts ≡ 1) (is : q ≡ get_or parts 0 q) where
  pub one-candidates : (tables : List Table) (p : Query) → tables ≡ db → p ≡ q → (rows : List (List Value)) → IsPossibleAnswer tables p rows → ((row : List Value) → Contains rows row ↔ IsCandidate tables p row) →
      AreCandidatesIn db parts rows
  one-candidates tables p same_db same rows possible exactly = record {
    ascending = possible.ascending;
    exactly = λ row. (
      λ m. (q, one-part-in parts q one is, subst (λ x. IsCandidate db x row) same (subst (λ t. IsCandidate t p row) same_db ((exactly row).0 m))),
      λ s. (exactly row).1 (subst (λ t. IsCandidate t p row) (sym same_db) (subst (λ x. IsCandidate db x row) (only parts q one is s.0 s.1 ∙ sym same) s.2)),
    );
  }

-- ---- the tables of the atoms so far, and of the parts so far

-- a table of one of the first atoms
abbrev pub IsTableTo : Query → ℕ → ℕ → Type 0
IsTableTo q at t = (F : ℕ) × (F < at) × ((atom_at q F).table ≡ t)

module _ (q : Query) (old : List ℕ) where
  pub atom-tables-none : (t : ℕ) → Contains old t ↔ (Contains old t ⊎ IsTableTo q 0 t)
  atom-tables-none t = (λ m. inl m, λ s. elim s [ inl m ↦ m | inr h ↦ absurd (let l = h.1 in omega (arith, l)) ])

  pub atom-tables-more : (at : ℕ) (tables new : List ℕ) (table : ℕ) → table ≡ (atom_at q at).table → ((t : ℕ) → Contains tables t ↔ (Contains old t ⊎ IsTableTo q at t)) → new ≡ tables ++ table ∷ [] →
      (t : ℕ) → Contains new t ↔ (Contains old t ⊎ IsTableTo q (at + 1) t)
  atom-tables-more at tables new table is h e t = (
    λ m. elim (Contains-push_cases tables table t (subst (λ xs. Contains xs t) e m)) [
      | inl b ↦ elim ((h t).0 b) [ inl o ↦ inl o | inr (F, l, s) ↦ inr (F, (let z : F < at + 1 = omega (arith, l) in z), s) ]
      | inr s ↦ inr (at, (let z : at < at + 1 = omega arith in z), sym is ∙ s)
    ],
    λ s. subst (λ xs. Contains xs t) (sym e) (elim s [
      | inl o ↦ before ((h t).1 (inl o))
      | inr (F, l, k) ↦ of_atom F k (cases_next F at l)
    ]),
  )
    where
      before : Contains tables t → Contains (tables ++ table ∷ []) t
      before m = Contains-append_left tables (table ∷ []) t m

      of_atom : (F : ℕ) → (atom_at q F).table ≡ t → (F < at) ⊎ (F ≡ at) → Contains (tables ++ table ∷ []) t
      of_atom F k (inl l) = before ((h t).1 (inr (F, l, k)))
      of_atom F k (inr f) = subst (Contains (tables ++ table ∷ [])) (is ∙ (ap (λ G. (atom_at q G).table) (sym f) ∙ k)) (Contains-append_right tables (table ∷ []) table (mem-head table []))

module _ (parts : List Query) where
  pub tables-none : (tables : List ℕ) → tables ≡ [] → (t : ℕ) → Contains tables t ↔ IsTableIn (take 0 parts) t
  tables-none tables e t = (λ m. absurd (mem-nil t (subst (λ xs. Contains xs t) e m)), λ s. absurd (some-none (λ q. IsTableOf q t) parts s))

  pub tables-more : (at : ℕ) (q : Query) (old new : List ℕ) → at < length parts → q ≡ get_or parts at q → ((t : ℕ) → Contains old t ↔ IsTableIn (take at parts) t) →
      ((t : ℕ) → Contains new t ↔ (Contains old t ⊎ IsTableOf q t)) → (t : ℕ) → Contains new t ↔ IsTableIn (take (at + 1) parts) t
  tables-more at q old new l is h add t = (
    λ m. more.1 (elim ((add t).0 m) [ inl o ↦ inl ((h t).0 o) | inr k ↦ inr (subst (λ x. IsTableOf x t) is k) ]),
    λ s. (add t).1 (elim (more.0 s) [ inl o ↦ inl ((h t).1 o) | inr k ↦ inr (subst (λ x. IsTableOf x t) (sym is) k) ]),
  )
    where
      more : ((x : Query) × Contains (take (at + 1) parts) x × IsTableOf x t) ↔ (((x : Query) × Contains (take at parts) x × IsTableOf x t) ⊎ IsTableOf (get_or parts at q) t)
      more = some-more (λ x. IsTableOf x t) parts at q l

  pub tables-all : (at : ℕ) (tables : List ℕ) → length parts ≤ at → ((t : ℕ) → Contains tables t ↔ IsTableIn (take at parts) t) → (t : ℕ) → Contains tables t ↔ IsTableIn parts t
  tables-all at tables l h t = (λ m. some-all (λ q. IsTableOf q t) parts at l ((h t).0 m), λ s. (h t).1 (all-some (λ q. IsTableOf q t) parts at l s))
