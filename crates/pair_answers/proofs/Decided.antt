-- What is decided of the numbered rows, said of the row asked for and of the rows that are kept.
use Rattle.std.proofs.Common.{◌≡◌, ℕ, zero, suc, ◌+◌, ◌<◌, ◌≤◌, ◌↔◌, inl, inr, Bool, true, IsTrue, List, [], ◌∷◌, ◌++◌, length, get_or, take, filter_map, refl, sym, ap, ◌∙◌, subst, arith, Contains, Option, Some, None, Result, Ok, Err, IfOk}
use Rattle.std.specs.Prelude.{slice_index}
use Rattle.std.proofs.lemmas.List.{take_more, append-nil}
use Rattle.std.proofs.lemmas.List.Elements.{filter_map-append}
use Rattle.std.specs.List.{filter}
use Rattle.cqa_value.specs.declared.value.Value.{Value}
use Rattle.cqa_value.proofs.Words.{Contains-filter}
use Rattle.cqa_model.specs.declared.query.Query.{Query}
use Rattle.cqa_model.specs.Database.{Table, stored}
use Rattle.cqa_model.specs.Query.{rows_of, FitsDatabase}
use Rattle.cqa_model.specs.Certain.{IsCertain}
use Rattle.cqa_model.specs.Plan.{Placed}
use Rattle.cqa_model.proofs.Classic.{mem-head, mem-tail, mem-nil, mem-cases}
use Rattle.cqa_model.proofs.Reification.{placed}
use Rattle.weak_pairs.specs.declared.decide.Decision.{Decision}
use Rattle.weak_pairs.specs.declared.decide.Decision.TheVariants.{Certain, Rejected}
use Rattle.weak_pairs.specs.Pairs.{IsStoredRow}
use Rattle.cqa_model.specs.Graph.{IsPair}
use Rattle.weak_pairs.specs.Peeling.{IsBlockNumber, In, row_of}
use Rattle.weak_pairs.specs.Numbering.{AreNumbered}
use Rattle.weak_pairs.specs.Outcomes.{AreStarts, AreSided, IsSplit, IsPairDecision, TellsCertainty, IsTaken, PairDecided}
use Rattle.pair_answers.specs.Numbers.{numbered, place_of, AreRowStarts}
use Rattle.pair_answers.specs.Lists.{AreRowLists}
use Rattle.pair_answers.specs.Kept.{AreAscendingFrom, AreKeptNumbers, IsPairAnswer}
use Rattle.pair_answers.proofs.Numbers as numbers

abbrev pub taken_rows : List (Option ℕ) → List ℕ
taken_rows own = filter_map (λ taken. taken) own

pub taken-in : (own : List (Option ℕ)) (v i : ℕ) → v < length own → get_or own v None ≡ Some i → Contains (taken_rows own) i
taken-in [] v i l e = absurd (omega (arith, l))
taken-in (None ∷ own) zero i l e = absurd (cc e)
taken-in (None ∷ own) (suc v) i l e = taken-in own v i (omega (arith, l)) e
taken-in (Some n ∷ own) zero i l e = let m : n ≡ i = cc in subst (λ z. Contains (n ∷ taken_rows own) z) m (mem-head n (taken_rows own))
taken-in (Some n ∷ own) (suc v) i l e = mem-tail i n (taken_rows own) (taken-in own v i (omega (arith, l)) e)

pub taken-from : (own : List (Option ℕ)) (i : ℕ) → Contains (taken_rows own) i → (v : ℕ) × (v < length own) × (get_or own v None ≡ Some i)
taken-from [] i m = absurd (mem-nil i m)
taken-from (None ∷ own) i m = let h = taken-from own i m in (suc h.0, (let l = h.1 in omega (arith, l)), h.2)
taken-from (Some n ∷ own) i m = elim (mem-cases i n (taken_rows own) m) [
  | inl e ↦ (zero, omega arith, ap Some e)
  | inr k ↦ let h = taken-from own i k in (suc h.0, (let l = h.1 in omega (arith, l)), h.2)
]

pub taken-more : (own : List (Option ℕ)) (k i : ℕ) → k < length own → get_or own k None ≡ Some i → taken_rows (take (k + 1) own) ≡ taken_rows (take k own) ++ i ∷ []
taken-more own k i l e = ap taken_rows (take_more own k None l) ∙ filter_map-append (λ taken. taken) (take k own) (get_or own k None ∷ []) ∙ ap (λ z. taken_rows (take k own) ++ taken_rows (z ∷ [])) e

pub taken-none : (own : List (Option ℕ)) (k : ℕ) → k < length own → get_or own k None ≡ None → taken_rows (take (k + 1) own) ≡ taken_rows (take k own)
taken-none own k l e = ap taken_rows (take_more own k None l) ∙ filter_map-append (λ taken. taken) (take k own) (get_or own k None ∷ []) ∙ ap (λ z. taken_rows (take k own) ++ taken_rows (z ∷ [])) e ∙ append-nil (taken_rows (take k own))

pub taken-ascend : (own : List (Option ℕ)) (s : ℕ → ℕ) → ((v : ℕ) → v < length own → s v ≤ s (suc v)) → ((v i : ℕ) → get_or own v None ≡ Some i → (s v ≤ i) × (i < s (suc v))) →
    (least : ℕ) → least ≤ s 0 → AreAscendingFrom least (taken_rows own)
taken-ascend [] s rises in' least l = tt
taken-ascend (None ∷ own) s rises in' least l =
    taken-ascend own (λ v. s (suc v)) (λ v k. rises (suc v) (omega (arith, k))) (λ v i e. in' (suc v) i e) least (let r = rises 0 (omega arith) in omega (arith, r, l))
taken-ascend (Some n ∷ own) s rises in' least l =
    let h = in' 0 n refl in
    let low = h.0 in
    let high = h.1 in
    (omega (arith, low, l), taken-ascend own (λ v. s (suc v)) (λ v k. rises (suc v) (omega (arith, k))) (λ v i e. in' (suc v) i e) (n + 1) (omega (arith, high)))

module _ (db : List Table) (q : Query) (row : List Value) (pair : IsPair q) (fits : FitsDatabase q db) (long : length row ≡ length q.answer) (law : PairDecided)
    (first : List ℕ) (split : ℕ) (st : AreRowStarts q (stored db) first split) (lists : List (Option (List Value))) (ls : AreRowLists q (stored db) row lists) where
  abbrev place : ℕ → Placed
  place = place_of q (stored db)

  first-is : first ≡ numbers.start q (stored db) pair.two st.left st.right st.left_are st.right_are
  first-is = st.is ∙ numbers.starts-are q (stored db) pair.two st.left st.right st.left_are st.right_are

  numbering : AreNumbered q (stored db) place (length lists) first
  numbering = subst (λ n. AreNumbered q (stored db) place n first) (sym ls.size)
      (subst (λ z. AreNumbered q (stored db) place (length (numbered q (stored db))) z) (sym first-is) (numbers.numbering q (stored db) pair.two st.left st.right st.left_are st.right_are))

  pub starts : AreStarts first (length lists)
  starts = subst (λ n. AreStarts first n) (sym ls.size) (subst (λ z. AreStarts z (length (numbered q (stored db)))) (sym first-is) (numbers.starts q (stored db) pair.two st.left st.right st.left_are st.right_are))

  parted : IsSplit place first split
  parted = subst (λ n. IsSplit place first n) (sym st.split_is) (subst (λ z. IsSplit place z (length st.left)) (sym first-is) (numbers.split q (stored db) pair.two st.left st.right st.left_are st.right_are))

  pub sided : AreSided lists first split
  sided = law.sided db q row ls.cols place first lists split pair ls.shared starts numbering ls.lists_are parted

  module _ (own : List (Option ℕ)) (ch : (v i : ℕ) → row_of own v ≡ Some i → IsBlockNumber first v × In first v i) (size : length own + 1 ≡ length first)
      (chosen : ℕ → List Value → Bool) (tie : (F : ℕ) (x : List Value) → (chosen F x ≡ true) ↔ IsTaken place own F x) (kept : List (List (List Value)))
      (are : (F : ℕ) → F < length q.atoms → rows_of q kept F ≡ filter (chosen F) (rows_of q (stored db) F)) where
    pub are-kept : AreKeptNumbers q (stored db) kept (taken_rows own)
    are-kept = record {
      ascending = taken-ascend own (λ v. slice_index first v) (λ v l. rise v l) (λ v i e. inside v i e) 0 (omega arith);
      within = λ i m. let t = taken-from own i m in let h = ch t.0 i t.2 in subst (λ n. i < n) ls.size (numbering.within t.0 i h.0 h.1);
      exactly = λ F l x. (into F l x, from F l x);
    }
      where
        rise : (v : ℕ) → v < length own → slice_index first v ≤ slice_index first (suc v)
        rise v l = let r = starts.rising v (suc v) (omega arith) (omega (arith, l, size)) in omega (arith, r)

        inside : (v i : ℕ) → get_or own v None ≡ Some i → (slice_index first v ≤ i) × (i < slice_index first (suc v))
        inside v i e = let h = (ch v i e).1 in let s : v + 1 ≡ suc v = omega arith in (h.0, subst (λ z. i < slice_index first z) s h.1)

        into : (F : ℕ) → F < length q.atoms → (x : List Value) → Contains (rows_of q kept F) x → (i : ℕ) × Contains (taken_rows own) i × (place i ≡ placed F x)
        into F l x m =
            let c = ((Contains-filter (chosen F) (rows_of q (stored db) F) x).0 (subst (λ z. Contains z x) (are F l) m)).1 in
            let t = (tie F x).0 c in
            (t.1, taken-in own t.0 t.1 t.2 t.3, t.4)

        from : (F : ℕ) → F < length q.atoms → (x : List Value) → (i : ℕ) × Contains (taken_rows own) i × (place i ≡ placed F x) → Contains (rows_of q kept F) x
        from F l x (i, m, e) =
            let t = taken-from own i m in
            let h = ch t.0 i t.2 in
            let s : IsStoredRow q (stored db) (placed F x) = subst (λ z. IsStoredRow q (stored db) z) e (numbering.stored i (numbering.within t.0 i h.0 h.1)) in
            subst (λ z. Contains z x) (sym (are F l)) ((Contains-filter (chosen F) (rows_of q (stored db) F) x).1 (s.1, (tie F x).1 (t.0, i, t.1, t.2, e)))

  answer : (d : Decision) → IsPairDecision lists first d → IsPairAnswer q db row d
  answer Certain d = law.certain db q row ls.cols place first lists fits long pair ls.shared numbering ls.lists_are d
  answer (Rejected own) d =
      let r = law.rejected db q row ls.cols place first lists own fits long pair ls.shared numbering ls.lists_are d in
      (r.2.0, r.2.1, r.2.2, are-kept own.items d.found.own_in d.found.size r.0 r.1 r.2.0 r.2.3)

  pub answered : {E : Type 0} (result : Result Decision E) → IfOk result (IsPairDecision lists first) → IfOk result (IsPairAnswer q db row)
  answered (Ok d) h = answer d h
  answered (Err e) h = tt

  pub told : {E : Type 0} (result : Result Bool E) → IfOk result (TellsCertainty lists first) → IfOk result (λ certain. IsTrue certain ↔ IsCertain db q row)
  told (Ok certain) d = law.told db q row ls.cols place first lists certain fits long pair ls.shared numbering ls.lists_are d
  told (Err e) d = tt
