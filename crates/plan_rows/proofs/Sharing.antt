-- A rest of a plan depends on the rows taken through the values alone that its atoms share with them, and on a candidate
-- through its atoms' answer columns.
use Rattle.std.proofs.Common.{◌≡◌, ◌≢◌, ℕ, pos, ◌<◌, ◌+◌, ◌-◌, ◌⊎◌, ◌↔◌, inl, inr, Bool, IsTrue, true, false, if◌then◌else◌, Option, None, Some, IfSome, List, [], ◌∷◌, ◌++◌, length, get_or, map, refl, ap, sym, ◌∙◌, subst, arith, Contains, cond, ◌==◌}
use Rattle.std.proofs.lemmas.Bool.{false≢true, eqb-true, eq-eqb}
use Rattle.std.proofs.lemmas.List.{length-append, length-map, append_assoc, get_or_read}
use Rattle.std.proofs.lemmas.List.Elements.{All-contains, Contains-get_or, Contains-append_left, Contains-append_right, Contains-append_cases}
use Rattle.std.specs.List.{All}
use Rattle.std.specs.BTreeMap.{get}
use Rattle.std.proofs.lemmas.Option.{none-some}
use Rattle.std.proofs.Math.Logic.{∥∥₁_elim}
use Rattle.cqa_value.specs.declared.value.Value.{Value}
use Rattle.cqa_value.specs.declared.value.Value.TheVariants.{Int}
use Rattle.cqa_value.specs.Values.{nothing, row_cmp}
use Rattle.cqa_value.proofs.Words.{same_head, same_tail}
use Rattle.cqa_model.specs.declared.query.ColRef.{ColRef}
use Rattle.cqa_model.specs.declared.query.Query.{Query}
use Rattle.cqa_model.specs.Database.{stored}
use Rattle.cqa_model.specs.Query.{atom_at}
use Rattle.cqa_model.specs.Variables.{AreLinked}
use Rattle.cqa_model.specs.Plan.{Placed, Fits, PlanHolds, answer_at}
use Rattle.cqa_model.proofs.Classic.{mem-head, mem-tail, mem-nil, mem-cases, map_agree}
use Rattle.cqa_model.proofs.BrokenKey.{same_number}
use Rattle.plan_rows.specs.Taking.{taken_value}
use Rattle.plan_rows.specs.Fitting.{AgreesInFirst, AgreesAll, Suits}
use Rattle.plan_rows.specs.Left.{IsAnswerSettled}
use Rattle.table_blocks.specs.Once.{value_set}
use Rattle.plan_rows.specs.Underway.{atoms_of, IsUnderway, IsMemoKey, IsRight}
use Rattle.plan_rows.specs.declared.course.Course.{Course}
use Rattle.plan_rows.specs.declared.memo.Memo.{Memo}
use Rattle.plan_rows.proofs.Suiting.{agreed-more}

-- the last taken row of an atom
pub value-taken : (taken : List Placed) (c : ColRef) (t : Placed) → Contains taken t → t.atom ≡ c.atom → (u : Placed) × Contains taken u × (u.atom ≡ c.atom) × (taken_value taken c ≡ get_or u.row c.col nothing)
value-taken [] c t m e = absurd (mem-nil t m)
value-taken (s ∷ ss) c t m e = go (s.atom == c.atom) refl (λ n. value-taken ss c t n e) (mem-cases t s ss m)
  where
    go : (b : Bool) → (s.atom == c.atom) ≡ b → (Contains ss t → (u : Placed) × Contains ss u × (u.atom ≡ c.atom) × (taken_value ss c ≡ get_or u.row c.col nothing)) → (s ≡ t) ⊎ Contains ss t →
        (u : Placed) × Contains (s ∷ ss) u × (u.atom ≡ c.atom) × (cond b (get_or s.row c.col nothing) (taken_value ss c) ≡ get_or u.row c.col nothing)
    go true f next d = (s, mem-head s ss, eqb-true s.atom c.atom f, refl)
    go false f next (inl h) = absurd (false≢true (sym f ∙ eq-eqb s.atom c.atom (ap (λ z. z.atom) h ∙ e)))
    go false f next (inr n) = let r = next n in (r.0, mem-tail r.0 s ss r.1, r.2, r.3)

parts : {A : Type 0} (xs ys us vs : List A) → length xs ≡ length ys → xs ++ us ≡ ys ++ vs → (xs ≡ ys) × (us ≡ vs)
parts [] [] us vs l e = (refl, e)
parts [] (y ∷ ys) us vs l e = absurd (omega (arith, l))
parts (x ∷ xs) [] us vs l e = absurd (omega (arith, l))
parts (x ∷ xs) (y ∷ ys) us vs l e =
    let r = parts xs ys us vs (omega (arith, l)) (same_tail x y (xs ++ us) (ys ++ vs) e) in
    let h : x ≡ y = same_head x y (xs ++ us) (ys ++ vs) e in
    let t : xs ≡ ys = r.0 in
    (cc, r.1)

-- the atoms of the rows taken
pub in-atoms : (taken : List Placed) (t : Placed) → Contains taken t → Contains (atoms_of taken) t.atom
in-atoms [] t m = absurd (mem-nil t m)
in-atoms (s ∷ ss) t m = elim (mem-cases t s ss m) [
  | inl e ↦ Contains-append_right (atoms_of ss) (s.atom ∷ []) t.atom (subst (λ (z : Placed). Contains (s.atom ∷ []) z.atom) e (mem-head s.atom []))
  | inr n ↦ Contains-append_left (atoms_of ss) (s.atom ∷ []) t.atom (in-atoms ss t n)
]

pub of-atoms : (taken : List Placed) (F : ℕ) → Contains (atoms_of taken) F → (t : Placed) × Contains taken t × (t.atom ≡ F)
of-atoms [] F m = absurd (mem-nil F m)
of-atoms (s ∷ ss) F m = elim (Contains-append_cases (atoms_of ss) (s.atom ∷ []) F m) [
  | inl k ↦ (let r = of-atoms ss F k in (r.0, mem-tail r.0 s ss r.1, r.2))
  | inr k ↦ elim (mem-cases F s.atom [] k) [ inl e ↦ (s, mem-head s ss, e) | inr n ↦ absurd (mem-nil F n) ]
]

pub length-atoms : (taken : List Placed) → length (atoms_of taken) ≡ length taken
length-atoms [] = refl
length-atoms (s ∷ ss) =
    let l : length (atoms_of ss ++ s.atom ∷ []) ≡ length (atoms_of ss) + 1 = length-append (atoms_of ss) (s.atom ∷ []) in
    let h = length-atoms ss in
    omega (arith, l, h)

-- the first of the atoms that are left is of the order, and so of the query
pub first-atom : (s : Course) (taken : List Placed) (F : ℕ) (rest : List ℕ) → IsUnderway s taken (F ∷ rest) → F < length s.setting.bound.now.query.now.atoms
first-atom s taken F rest u = s.atoms F (subst (λ order. Contains order F) (sym u.place) (Contains-append_right (atoms_of taken) (F ∷ rest) F (mem-head F rest)))

-- with one row more
pub underway-more : (s : Course) (taken : List Placed) (F : ℕ) (rest : List ℕ) (x : List Value) → IsUnderway s taken (F ∷ rest) → Suits s.setting.bound.now.query.now taken F x → IsUnderway s (record { atom = F; row = x } ∷ taken) rest
underway-more s taken F rest x u suits = record {
  agreed = agreed-more s.setting.bound.now.query.now taken F x u.agreed suits;
  place = u.place ∙ sym (append_assoc (atoms_of taken) (F ∷ []) rest);
}

-- the number of atoms that were passed
pub passed-count : (s : Course) (taken : List Placed) (plan : List ℕ) → IsUnderway s taken plan → length s.order.now ≡ length taken + length plan
passed-count s taken plan u =
    let e = ap length u.place in
    let l = length-append (atoms_of taken) plan in
    let h = length-atoms taken in
    omega (arith, e, l, h)

-- rows that agree with the ones agree with the others
pub SameFor : Query → List ℕ → List Placed → List Placed → Type 0
SameFor q plan taken others = (F : ℕ) → Contains plan F → (x : List Value) → AgreesAll q F x taken → AgreesAll q F x others

-- then a plan that holds with the ones holds with the others
pub same-plan : (q : Query) (tables : List (List (List Value))) (row : List Value) (taken others : List Placed) (plan : List ℕ) → SameFor q plan taken others → PlanHolds q tables row taken plan → PlanHolds q tables row others plan
unfolding SameFor
same-plan q tables row taken others [] s h = tt
same-plan q tables row taken others (F ∷ plan) s (x, m, all) = (x, m, λ y my k. let r = all y my k in (fits y r.0, same-plan q tables row (now y ∷ taken) (now y ∷ others) plan (more y) r.1))
  where
    now : List Value → Placed
    now y = record { atom = F; row = y }

    fits : (y : List Value) → Fits q row taken F y → Fits q row others F y
    fits y f = record {
      agrees = λ t mt. elim (mem-cases t (record { atom = F; row = y }) others mt) [
        | inl e ↦ f.agrees t (subst (λ z. Contains (record { atom = F; row = y } ∷ taken) z) e (mem-head (record { atom = F; row = y }) taken))
        | inr n ↦ s F (mem-head F plan) y (λ u mu. f.agrees u (mem-tail u (record { atom = F; row = y }) taken mu)) t n
      ];
      tests = f.tests;
      answers = f.answers;
    }

    more : (y : List Value) → SameFor q plan (record { atom = F; row = y } ∷ taken) (record { atom = F; row = y } ∷ others)
    more y G mG z a t mt = elim (mem-cases t (record { atom = F; row = y }) others mt) [
      | inl e ↦ a t (subst (λ v. Contains (record { atom = F; row = y } ∷ taken) v) e (mem-head (record { atom = F; row = y }) taken))
      | inr n ↦ s G (mem-tail G F plan mG) z (λ u mu. a u (mem-tail u (record { atom = F; row = y }) taken mu)) t n
    ]

-- with a row more, and without it
pub same-less : (q : Query) (plan : List ℕ) (taken : List Placed) (u : Placed) → SameFor q plan (u ∷ taken) taken
unfolding SameFor
same-less q plan taken u F m x all t n = all t (mem-tail t u taken n)

pub same-more : (q : Query) (plan : List ℕ) (taken : List Placed) (u : Placed) → ((F : ℕ) → Contains plan F → (x : List Value) → AgreesInFirst q F x u.atom u.row (atom_at q F).width) → SameFor q plan taken (u ∷ taken)
unfolding SameFor
same-more q plan taken u agrees F m x all t n = elim (mem-cases t u taken n) [
  | inl e ↦ subst (λ (z : Placed). AgreesInFirst q F x z.atom z.row (atom_at q F).width) e (agrees F m x)
  | inr k ↦ all t k
]

-- a plan holds for any candidate with the same values in its atoms' answer columns
pub same-answers : (q : Query) (tables : List (List (List Value))) (row other : List Value) (taken : List Placed) (plan : List ℕ) → ((F : ℕ) → Contains plan F → (i : ℕ) → i < length q.answer → (answer_at q i).atom ≡ F → get_or row i nothing ≡ get_or other i nothing) →
    PlanHolds q tables row taken plan → PlanHolds q tables other taken plan
same-answers q tables row other taken [] same h = tt
same-answers q tables row other taken (F ∷ plan) same (x, m, all) = (
  x,
  m,
  λ y my k. let r = all y my k in (
    record { agrees = r.0.agrees; tests = r.0.tests; answers = λ i l e. r.0.answers i l e ∙ same F (mem-head F plan) i l e },
    same-answers q tables row other (record { atom = F; row = y } ∷ taken) plan (λ G mG. same G (mem-tail G F plan mG)) r.1,
  ),
)

-- a rest without answer columns holds for any candidate
pub settled-plan : (q : Query) (tables : List (List (List Value))) (row other : List Value) (taken : List Placed) (plan : List ℕ) → IsAnswerSettled q plan → PlanHolds q tables row taken plan → PlanHolds q tables other taken plan
settled-plan q tables row other taken plan settled =
    same-answers q tables row other taken plan
    (λ F m i l e. absurd (All-contains (λ c. c.atom ≢ F) q.answer (answer_at q i) (All-contains (λ G. All (λ c. c.atom ≢ G) q.answer) plan F settled m) (Contains-get_or q.answer i (record { atom = 0; col = 0 }) l) e))

-- rows taken of the same atoms, with the same values in the columns that the rest shares with them
pub same-shared : (s : Course) (taken others : List Placed) (plan : List ℕ) → IsUnderway s taken plan → IsUnderway s others plan → atoms_of taken ≡ atoms_of others → length taken < length s.shared.now →
    map (taken_value taken) (get_or s.shared.now (length taken) []) ≡ map (taken_value others) (get_or s.shared.now (length taken) []) → SameFor s.setting.bound.now.query.now plan taken others
unfolding SameFor
same-shared s taken others plan u v atoms there e F mF x a t m i li j lj linked =
    let q = s.setting.bound.now.query.now in
    let front : Contains (atoms_of taken) t.atom = subst (λ z. Contains z t.atom) (sym atoms) (in-atoms others t m) in
    let count : length (atoms_of taken) ≡ length taken = length-atoms taken in
    let same = ∥∥₁_elim s.shares (value_set (taken_value taken (record { atom = t.atom; col = j })) (taken_value others (record { atom = t.atom; col = j }))) (λ shared.
    map_agree (taken_value taken) (taken_value others) (get_or s.shared.now (length taken) []) e (record { atom = t.atom; col = j })
    (subst (λ n. Contains (get_or s.shared.now n []) (record { atom = t.atom; col = j })) count
    (shared (atoms_of taken) plan u.place (subst (λ n. n < length s.shared.now) (sym count) there) t.atom j front lj (F, i, mF, li, linked)))) in
    let t0 = of-atoms taken t.atom front in
    let w = value-taken taken (record { atom = t.atom; col = j }) t0.0 t0.1 t0.2 in
    let z = value-taken others (record { atom = t.atom; col = j }) t m refl in
    let first : get_or x i nothing ≡ get_or w.0.row j nothing = a w.0 w.1 i li j (subst (λ n. j < (atom_at q n).width) (sym w.2) lj) (subst (λ n. AreLinked q (record { atom = F; col = i }) (record { atom = n; col = j })) (sym w.2) linked) in
    first ∙ (sym w.3 ∙ (same ∙ (z.3 ∙ v.agreed z.0 t z.1 m z.2 j (subst (λ n. j < (atom_at q n).width) (sym z.2) lj))))

tail-cases : (b d : Bool) (row other : List Value) → (if b then [] else row) ≡ (if d then [] else other) → (b ≡ true) ⊎ ((d ≡ true) ⊎ (row ≡ other))
tail-cases true d row other e = inl refl
tail-cases false true row other e = inr (inl refl)
tail-cases false false row other e = inr (inr e)

-- what holds under a key holds wherever the key is the same
same-rest : (s : Course) (taken others : List Placed) (plan : List ℕ) (row other key : List Value) → IsUnderway s taken plan → IsUnderway s others plan → atoms_of taken ≡ atoms_of others →
    IsMemoKey s taken plan row key → IsMemoKey s others plan other key →
    PlanHolds s.setting.bound.now.query.now (stored s.setting.bound.now.db.now) row taken plan → PlanHolds s.setting.bound.now.query.now (stored s.setting.bound.now.db.now) other others plan
same-rest s taken others plan row other key u v atoms k l h =
    elim (tail-cases k.settled l.settled row other split.1) [
      | inl a ↦ settled-plan q tables row other others plan (k.says.0 a) moved
      | inr (inl b) ↦ settled-plan q tables row other others plan (l.says.0 b) moved
      | inr (inr e) ↦ subst (λ z. PlanHolds q tables z others plan) e moved
    ]
  where
    q : Query
    q = s.setting.bound.now.query.now

    tables : List (List (List Value))
    tables = stored s.setting.bound.now.db.now

    columns : List ColRef
    columns = get_or s.shared.now (length taken) []

    count : length taken ≡ length others
    count = sym (length-atoms taken) ∙ (ap length atoms ∙ length-atoms others)

    keys : Int (pos (length plan)) ∷ map (taken_value taken) (get_or s.shared.now (length taken) []) ++ (if k.settled then [] else row) ≡ Int (pos (length plan)) ∷ map (taken_value others) (get_or s.shared.now (length taken) []) ++ (if l.settled then [] else other)
    keys = sym k.is ∙ (l.is ∙ ap (λ n. Int (pos (length plan)) ∷ map (taken_value others) (get_or s.shared.now n []) ++ (if l.settled then [] else other)) (sym count))

    split : (map (taken_value taken) (get_or s.shared.now (length taken) []) ≡ map (taken_value others) (get_or s.shared.now (length taken) [])) × ((if k.settled then [] else row) ≡ (if l.settled then [] else other))
    split = parts (map (taken_value taken) (get_or s.shared.now (length taken) [])) (map (taken_value others) (get_or s.shared.now (length taken) [])) (if k.settled then [] else row) (if l.settled then [] else other)
        (length-map (get_or s.shared.now (length taken) []) (taken_value taken) ∙ sym (length-map (get_or s.shared.now (length taken) []) (taken_value others)))
        (same_tail (Int (pos (length plan))) (Int (pos (length plan))) _ _ keys)

    moved : PlanHolds s.setting.bound.now.query.now (stored s.setting.bound.now.db.now) row others plan
    moved = same-plan s.setting.bound.now.query.now (stored s.setting.bound.now.db.now) row taken others plan (same-shared s taken others plan u v atoms k.there split.0) h

same-key : (s : Course) (taken others : List Placed) (plan left : List ℕ) (row other key : List Value) → IsUnderway s taken plan → IsUnderway s others left →
    IsMemoKey s taken plan row key → IsMemoKey s others left other key →
    PlanHolds s.setting.bound.now.query.now (stored s.setting.bound.now.db.now) row taken plan → PlanHolds s.setting.bound.now.query.now (stored s.setting.bound.now.db.now) other others left
same-key s taken others plan left row other key u v k l h =
    subst (λ p. PlanHolds s.setting.bound.now.query.now (stored s.setting.bound.now.db.now) other others p) split.1
    (same-rest s taken others plan row other key u (subst (IsUnderway s others) (sym split.1) v) split.0 k (subst (λ p. IsMemoKey s others p other key) (sym split.1) l) h)
  where
    count : length plan ≡ length left
    count = same_number (length plan) (length left) (same_head (Int (pos (length plan))) (Int (pos (length left))) _ _ (sym k.is ∙ l.is))

    orders : atoms_of taken ++ plan ≡ atoms_of others ++ left
    orders = sym u.place ∙ v.place

    long : length (atoms_of taken) ≡ length (atoms_of others)
    long =
        let e = ap length orders in
        let a = length-append (atoms_of taken) plan in
        let b = length-append (atoms_of others) left in
        let c = count in
        omega (arith, e, a, b, c)

    split : (atoms_of taken ≡ atoms_of others) × (plan ≡ left)
    split = parts (atoms_of taken) (atoms_of others) plan left long orders

-- before any row is taken
pub underway-starts : (s : Course) → IsUnderway s [] s.order.now
underway-starts s = record { agreed = λ t u m. absurd (mem-nil t m); place = refl }

-- the key that was made
pub key-made : (s : Course) (taken : List Placed) (plan : List ℕ) (row : List Value) (columns item : List ColRef) (place : ℕ) (settled : Bool) (r : Option (List Value)) → IsUnderway s taken plan → place ≡ length s.order.now - length plan → place < length s.shared.now →
    item ≡ get_or s.shared.now place item → columns ≡ item → IsTrue settled ↔ IsAnswerSettled s.setting.bound.now.query.now plan → IfSome r (λ key. key ≡ Int (pos (length plan)) ∷ map (taken_value taken) columns ++ (if settled then [] else row)) →
    IfSome r (λ key. IsMemoKey s taken plan row key)
key-made s taken plan row columns item place settled None u e l i c says made = tt
key-made s taken plan row columns item place settled (Some key) u e l i c says made = record {
  settled = settled;
  says = says;
  there = subst (λ n. n < length s.shared.now) at l;
  is = made ∙ ap (λ cs. Int (pos (length plan)) ∷ map (taken_value taken) cs ++ (if settled then [] else row)) (c ∙ (get_or_read s.shared.now place item l i [] ∙ ap (λ n. get_or s.shared.now n []) at));
}
  where
    at : place ≡ length taken
    at = let n = passed-count s taken plan u in omega (arith, e, n)

pub none-right : (s : Course) (memo : Memo) → ((key : List Value) → get row_cmp memo.known key ≡ None) → IsRight s memo
none-right s memo n k b g = absurd (none-some b (sym (n k) ∙ g))

-- one decision more is remembered, or not
pub keeps-right : (s : Course) (old new : Memo) (taken : List Placed) (plan : List ℕ) (row key : List Value) (held : Bool) → IsRight s old → IsUnderway s taken plan → IsMemoKey s taken plan row key →
    IsTrue held ↔ PlanHolds s.setting.bound.now.query.now (stored s.setting.bound.now.db.now) row taken plan →
    ((k : List Value) (b : Bool) → get row_cmp new.known k ≡ Some b → (get row_cmp old.known k ≡ Some b) ⊎ ((k ≡ key) × (b ≡ held))) → IsRight s new
keeps-right s old new taken plan row key held right u is decided kept k b g = elim (kept k b g) [
  | inl o ↦ right k b o
  | inr p ↦ (λ others left other v l. (
    (λ t. same-key s taken others plan left row other key u v is (subst (λ z. IsMemoKey s others left other z) p.0 l) (decided.0 (sym p.1 ∙ t))),
    (λ h. p.1 ∙ decided.1 (same-key s others taken left plan other row key v u (subst (λ z. IsMemoKey s others left other z) p.0 l) is h)),
  ))
]

-- what is remembered stays right where nothing is changed
pub still-right : (s : Course) (old new : Memo) → new.known ≡ old.known → IsRight s old → IsRight s new
still-right s old new e right k b g = right k b (subst (λ z. get row_cmp z k ≡ Some b) e g)
