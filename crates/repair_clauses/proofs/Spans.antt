-- The blocks of whole spans, and the numbers of all witnesses' rows.
use Rattle.std.proofs.Common.{◌≡◌, ℕ, zero, suc, ◌<◌, ◌+◌, ◌⊎◌, inl, inr, List, [], ◌∷◌, length, get_or, map, refl, sym, ◌∙◌, ap, subst, arith, Contains, Less, Equal}
use Rattle.std.specs.Ordering.{nat_cmp, ordering_then}
use Rattle.std.specs.List.{AllZip}
use Rattle.std.specs.List.Sorted.{IsStrictlySortedBy}
use Rattle.std.specs.Cmp.Lexicographic.{slice_cmp}
use Rattle.std.proofs.lemmas.List.Elements.{Contains-get_or, recursion_from_All}
use Rattle.cqa_value.specs.declared.value.Value.{Value}
use Rattle.cqa_value.proofs.Words.{nat_cmp_less, all_zip_right, member_by_recursion}
use Rattle.cqa_model.specs.declared.query.Query.{Query}
use Rattle.cqa_model.specs.Database.{Table, stored}
use Rattle.cqa_model.specs.Query.{atom_key, rows_of, row_at}
use Rattle.cqa_model.proofs.Classic.{mem-head, mem-tail, mem-nil, mem-cases, choose}
use Rattle.row_lists.specs.declared.span.Span.{Span}
use Rattle.row_lists.specs.Clauses.{Variable, variable_cmp, HasNumber, AreAllLists}
use Rattle.repair_clauses.specs.Clauses.{AreRowVariables, AreBlockNumbers, IsNumberOf, IsOfWitness, variable_row}
use Rattle.row_lists.specs.Spans.{at, span_cmp, AreBased, variables_of_spans, numbers_in}
use Rattle.repair_clauses.specs.Spans.{IsPlacedWitness, AreNumbers}
use Rattle.row_lists.proofs.Rows.{numbered}
use Rattle.row_lists.proofs.Order.{less_then, then_cases, then_less, from_less, from_equal, equal_self, place_less, numbers_rise, same_number}
use Rattle.row_lists.proofs.Spans.{as_at, IsWholeSpan, IsSlotBlock, are_slot_blocks}

module _ (q : Query) (db : List Table) where
  -- the blocks of whole spans are those of the query's variables
  pub are_blocks : (spans : List Span) → IsStrictlySortedBy span_cmp spans → AreBased 0 spans → ((s : Span) → Contains spans s → IsWholeSpan (atom_key q) (rows_of q (stored db)) s) →
      AreAllLists (AreBlockNumbers q db (variables_of_spans spans)) (map numbers_in spans)
  are_blocks spans in_order based each = record { in_order = all.in_order; exactly = λ numbers. (λ m. to ((all.exactly numbers).0 m), λ b. (all.exactly numbers).1 (b.0, b.1, (b.2.rises, b.2.exactly))) }
    where
      all : AreAllLists (λ numbers. (x : Variable) × Contains (variables_of_spans spans) x × IsSlotBlock (atom_key q) (rows_of q (stored db)) (variables_of_spans spans) x numbers) (map numbers_in spans)
      all = are_slot_blocks (atom_key q) (rows_of q (stored db)) spans in_order based each

      to : {numbers : List ℕ} → ((x : Variable) × Contains (variables_of_spans spans) x × IsSlotBlock (atom_key q) (rows_of q (stored db)) (variables_of_spans spans) x numbers) → AreBlockNumbers q db (variables_of_spans spans) numbers
      to (x, m, b) = (x, m, record { rises = b.0; exactly = b.1 })

-- numbers of places
pub numbers_at : (variables : List Variable) (F : ℕ) (ps ns : List ℕ) → AreNumbers variables F ps ns → (i : ℕ) → i < length ps → HasNumber variables (get_or ns i 0) (at (F + i) (get_or ps i 0))
numbers_at variables F [] ns h i l = absurd (omega (arith, l))
numbers_at variables F (p ∷ ps) [] h i l = absurd h
numbers_at variables F (p ∷ ps) (n ∷ ns) h zero l = subst (λ G. HasNumber variables n (at G p)) (omega arith) h.0
numbers_at variables F (p ∷ ps) (n ∷ ns) h (suc i) l = subst (λ G. HasNumber variables (get_or ns i 0) (at G (get_or ps i 0))) (omega arith) (numbers_at variables (suc F) ps ns h.1 i (omega (arith, l)))

pub numbers_long : (variables : List Variable) (F : ℕ) (ps ns : List ℕ) → AreNumbers variables F ps ns → length ns ≡ length ps
numbers_long variables F [] [] h = refl
numbers_long variables F [] (n ∷ ns) h = absurd h
numbers_long variables F (p ∷ ps) [] h = absurd h
numbers_long variables F (p ∷ ps) (n ∷ ns) h = ap suc (numbers_long variables (suc F) ps ns h.1)

lex_less : (variables : List Variable) → IsStrictlySortedBy variable_cmp variables → (F : ℕ) (ps qs ms ns : List ℕ) → AreNumbers variables F ps ms → AreNumbers variables F qs ns →
    slice_cmp nat_cmp ps qs ≡ Less → slice_cmp nat_cmp ms ns ≡ Less
lex_less variables s F [] [] ms ns h k e = cc
lex_less variables s F [] (q ∷ qs) [] [] h k e = absurd k
lex_less variables s F [] (q ∷ qs) [] (n ∷ ns) h k e = refl
lex_less variables s F [] (q ∷ qs) (m ∷ ms) ns h k e = absurd h
lex_less variables s F (p ∷ ps) [] ms ns h k e = cc
lex_less variables s F (p ∷ ps) (q ∷ qs) [] ns h k e = absurd h
lex_less variables s F (p ∷ ps) (q ∷ qs) (m ∷ ms) [] h k e = absurd k
lex_less variables s F (p ∷ ps) (q ∷ qs) (m ∷ ms) (n ∷ ns) h k e = go (then_cases (nat_cmp p q) (slice_cmp nat_cmp ps qs) e) (λ l. lex_less variables s (suc F) ps qs ms ns h.1 k.1 l)
  where
    go : (nat_cmp p q ≡ Less) ⊎ ((nat_cmp p q ≡ Equal) × (slice_cmp nat_cmp ps qs ≡ Less)) → (slice_cmp nat_cmp ps qs ≡ Less → slice_cmp nat_cmp ms ns ≡ Less) →
        ordering_then (nat_cmp m n) (slice_cmp nat_cmp ms ns) ≡ Less
    go (inl l) ih = less_then (nat_cmp m n) (slice_cmp nat_cmp ms ns)
        (nat_cmp_less m n (numbers_rise variables s m n (at F p) (at F q) h.0 k.0 (place_less (at F p) (at F q) refl (from_less p q l))))
    go (inr b) ih =
        let e : p ≡ q = from_equal p q b.0 in
        let same : m ≡ n = same_number variables s m n (at F q) (subst (λ z. HasNumber variables m (at F z)) e h.0) k.0 in
        then_less (nat_cmp m n) (slice_cmp nat_cmp ms ns) (subst (λ z. nat_cmp m z ≡ Equal) same (equal_self m)) (ih b.1)

zip_left : {A B : Type 0} (R : A → B → Type 0) (xs : List A) (ys : List B) (x : A) → AllZip R xs ys → Contains xs x → (y : B) × Contains ys y × R x y
zip_left R [] [] x z m = absurd (mem-nil x m)
zip_left R [] (y ∷ ys) x z m = absurd z
zip_left R (a ∷ xs) [] x z m = absurd z
zip_left R (a ∷ xs) (b ∷ ys) x z m = elim (mem-cases x a xs m) [
  | inl e ↦ (b, mem-head b ys, subst (λ u. R u b) e z.0)
  | inr n ↦ let p = zip_left R xs ys x z.1 n in (p.0, mem-tail p.0 b ys p.1, p.2)
]

same_lists : (xs ys : List ℕ) → length xs ≡ length ys → ((i : ℕ) → i < length xs → get_or xs i 0 ≡ get_or ys i 0) → xs ≡ ys
same_lists [] [] e h = refl
same_lists [] (y ∷ ys) e h = absurd (omega (arith, e))
same_lists (x ∷ xs) [] e h = absurd (omega (arith, e))
same_lists (x ∷ xs) (y ∷ ys) e h =
    let e0 = h 0 (omega arith) in
    let es = same_lists xs ys (omega (arith, e)) (λ i l. h (suc i) (omega (arith, l))) in
    cc

zip-sorted : (variables : List Variable) → IsStrictlySortedBy variable_cmp variables → (places numbers : List (List ℕ)) → AllZip (AreNumbers variables 0) places numbers →
    IsStrictlySortedBy (slice_cmp nat_cmp) places → IsStrictlySortedBy (slice_cmp nat_cmp) numbers
unfolding IsStrictlySortedBy
zip-sorted variables s [] [] z h = tt
zip-sorted variables s [] (n ∷ ns) z h = absurd z
zip-sorted variables s (p ∷ ps) [] z h = absurd z
zip-sorted variables s (p ∷ ps) (n ∷ ns) z h = (
  recursion_from_All (λ y. slice_cmp nat_cmp n y ≡ Less) ns (λ k d l.
      let r = all_zip_right (AreNumbers variables 0) ps ns (get_or ns k d) z.1 (Contains-get_or ns k d l) in
      lex_less variables s 0 p r.0 n (get_or ns k d) z.0 r.2 (member_by_recursion (λ y. slice_cmp nat_cmp p y ≡ Less) ps h.0 r.0 r.1)),
  zip-sorted variables s ps ns z.1 h.1,
)

module _ (q : Query) (db : List Table) (row : List Value) (variables : List Variable) (vs : AreRowVariables q db row variables) (places numbers : List (List ℕ))
    (h : AreAllLists (IsPlacedWitness q db row) places) (z : AllZip (AreNumbers variables 0) places numbers) where
  of_places : (ps ns : List ℕ) → AreNumbers variables 0 ps ns → IsPlacedWitness q db row ps → IsOfWitness q db row variables ns
  of_places ps ns a p = record {
    rows = p.rows;
    witness = p.witness;
    size = numbers_long variables 0 ps ns a ∙ p.size;
    each = λ F l. (at F (get_or ps F 0), subst (λ G. HasNumber variables (get_or ns F 0) (at G (get_or ps F 0))) (omega arith) (numbers_at variables 0 ps ns a F (subst (λ k. F < k) (sym p.size) l)), refl, (p.each F l).1);
  }

  abbrev HasPlace : (ns : List ℕ) (w : List (List Value)) → ℕ → ℕ → Type 0
  HasPlace ns w F p = HasNumber variables (get_or ns F 0) (at F p) × ((p < length (rows_of q (stored db) F)) × (variable_row q db (at F p) ≡ row_at w F))

  place_for : (ns : List ℕ) (w : List (List Value)) (F : ℕ) → IsNumberOf q db variables F (row_at w F) (get_or ns F 0) → (p : ℕ) × HasPlace ns w F p
  place_for ns w F (y, hn, ya, ye) =
      let is : y ≡ at F y.place = as_at y F ya in
      let st = ((vs.exactly y).0 (numbered variables (get_or ns F 0) y hn)).0 in
      (y.place, (subst (λ x. HasNumber variables (get_or ns F 0) x) is hn, (subst (λ G. y.place < length (rows_of q (stored db) G)) ya st.1, subst (λ x. variable_row q db x ≡ row_at w F) is ye)))

  from_witness : (ns : List ℕ) → IsOfWitness q db row variables ns → Contains numbers ns
  from_witness ns w = go (choose 0 (length q.atoms) (HasPlace ns w.rows) (λ F l. place_for ns w.rows F (w.each F l)))
    where
      go : ((ps : List ℕ) × (length ps ≡ length q.atoms) × ((F : ℕ) → F < length q.atoms → HasPlace ns w.rows F (get_or ps F 0))) → Contains numbers ns
      go (ps, size, each) = found (zip_left (AreNumbers variables 0) places numbers ps z ((h.exactly ps).1 (record { rows = w.rows; witness = w.witness; size = size; each = λ F l. (each F l).1 })))
        where
          found : ((ms : List ℕ) × Contains numbers ms × AreNumbers variables 0 ps ms) → Contains numbers ns
          found (ms, m, a) =
              let long = numbers_long variables 0 ps ms a in
              let size' = w.size in
              subst (Contains numbers) (same_lists ms ns (long ∙ size ∙ sym w.size) (λ i l.
              let lp : i < length ps = subst (λ k. i < k) long l in
              same_number variables vs.in_order (get_or ms i 0) (get_or ns i 0) (at i (get_or ps i 0))
              (subst (λ G. HasNumber variables (get_or ms i 0) (at G (get_or ps i 0))) (omega arith) (numbers_at variables 0 ps ms a i lp)) (each i (subst (λ k. i < k) size lp)).0)) m

  pub are_witnesses : AreAllLists (IsOfWitness q db row variables) numbers
  are_witnesses = record {
    in_order = zip-sorted variables vs.in_order places numbers z h.in_order;
    exactly = λ ns. (λ m. let p = all_zip_right (AreNumbers variables 0) places numbers ns z m in of_places p.0 ns p.2 ((h.exactly p.0).0 p.1), from_witness ns);
  }
