-- How what is watched changes with the trail, the clauses and the lists.
use Rattle.std.proofs.Common.{take, set, get_or-set_other, get_or-set_same, ◌≡◌, ◌≢◌, ℕ, zero, suc, ◌<◌, ◌≤◌, ◌+◌, min, Bool, true, false, List, [], ◌∷◌, ◌++◌, ◌⊎◌, inl, inr, refl, sym, ◌∙◌, ap, subst, arith, length, get_or}
use Rattle.std.specs.Prelude.{Contains}
use Rattle.std.proofs.lemmas.List.{length-set, length-take, take-append-le, take_all, take-take, length_push}
use Rattle.std.proofs.lemmas.List.Elements.{Contains-push_cases, Contains-append_cases, Contains-append_left, Contains-append_right, Contains-push}
use Rattle.std.proofs.lemmas.Bool.{cases_eq}
use Rattle.cqa_value.proofs.Words.{mem-cases}
use Rattle.cnf_form.specs.declared.formula.Lit.{Lit}
use Rattle.cnf_form.specs.Literals.{opposite, Denied}
use Rattle.cnf_form.proofs.Lits.{equal_or_not, opposite-opposite}
use Rattle.cdcl.specs.declared.watch.Pair.{Pair}
use Rattle.search_trail.specs.Trail.{At, IsConsistent}
use Rattle.cdcl.specs.Settled.{IsSettledClause, AllSettledTo}
use Rattle.cdcl.specs.Watching.{sign_code, code_of, IsWatchListed, listed_at, IsListedBut, HoldsIn, IsBase, WatchIs, IsPaired, IsWatching, HasWatch, IsPairOf, IsPending}
use Rattle.cdcl.proofs.SettledLemmas.{settled_by_true}
use Rattle.search_trail.proofs.Works.{At-same, At-contains, At-in_take, At-get_or}
use Rattle.search_trail.proofs.Places.{At-push_cases, At-push_old}
use Rattle.cdcl.proofs.Watches.{watches_settle, watch_back, watch_put, watch_level, watch_look, watch_new}

-- the literals of one code are one
pub code_one : (a b : Lit) → code_of a ≡ code_of b → a ≡ b
code_one a b e =
    let v : a.var ≡ b.var = vars a.var b.var a.positive b.positive e in
    let p : a.positive ≡ b.positive = signs a.var b.var a.positive b.positive e in
    ap (λ (n : ℕ). let r : Lit = record { var = n; positive = a.positive } in r) v
    ∙ ap (λ (s : Bool). let r : Lit = record { var = b.var; positive = s } in r) p
  where
    vars : (x y : ℕ) (s u : Bool) → x + x + sign_code s ≡ y + y + sign_code u → x ≡ y
    vars x y true true h = omega (arith, h)
    vars x y true false h = omega (arith, h)
    vars x y false true h = omega (arith, h)
    vars x y false false h = omega (arith, h)

    signs : (x y : ℕ) (s u : Bool) → x + x + sign_code s ≡ y + y + sign_code u → s ≡ u
    signs x y true true h = refl
    signs x y true false h = absurd (omega (arith, h))
    signs x y false true h = absurd (omega (arith, h))
    signs x y false false h = refl

pub code_small : (l : Lit) (n : ℕ) → l.var < n → code_of l < n + n
code_small l n h = small l.var l.positive h
  where
    small : (v : ℕ) (s : Bool) → v < n → v + v + sign_code s < n + n
    small v true h = omega arith
    small v false h = omega arith

pub At-set_cases : {X : Type 0} (xs : List X) (k : ℕ) (x : X) (j : ℕ) (y : X) → At (set xs k x) j y → ((j ≡ k) × (x ≡ y)) ⊎ ((j ≢ k) × At xs j y)
At-set_cases xs k x j y a =
    let len = length-set xs k x in
    elim (cases_eq j k) [
      | inl e ↦ inl (e, sym (get_or-set_same xs k x y (omega (arith, a.0, len, e))) ∙ subst (λ (n : ℕ). get_or (set xs k x) n y ≡ y) e a.1)
      | inr n ↦ inr (n, (omega (arith, a.0, len), sym (get_or-set_other xs k j x y n) ∙ a.1))
    ]

-- the same over other lists
pub watching_relist : {permanent : ℕ} (R S : Lit → ℕ → Type 0) (db : List (List Lit)) (t : List Lit) (level_starts : List ℕ) (head : ℕ) (pairs : List Pair)
    → ((l : Lit) (k : ℕ) → R l k → S l k) → IsWatching R permanent db t level_starts head pairs → IsWatching S permanent db t level_starts head pairs
watching_relist {permanent} R S db t level_starts head pairs more w = record {
  head_in = w.head_in;
  levels = w.levels;
  some = w.some;
  inside = w.inside;
  ended = w.ended;
  each = λ k c pair f a b. elim (w.each k c pair f a b) [
    | inl base ↦ inl base
    | inr p ↦ inr (record {
      apart = p.apart;
      first = p.first;
      second = p.second;
      first_in = more pair.first k p.first_in;
      second_in = more pair.second k p.second_in;
    })
  ];
}

-- a clause without a pair is added
pub watching_more : {permanent : ℕ} (R : Lit → ℕ → Type 0) (db : List (List Lit)) (t : List Lit) (level_starts : List ℕ) (head : ℕ) (pairs : List Pair) (c : List Lit)
    → ((s : ℕ) → Contains level_starts s → IsSettledClause (take s t) c) → IsWatching R permanent db t level_starts head pairs → IsWatching R permanent (db ++ c ∷ []) t level_starts head pairs
watching_more {permanent} R db t level_starts head pairs c settled w =
    let old : (k : ℕ) (d : List Lit) (pair : Pair) → At (db ++ c ∷ []) k d → At pairs k pair → At db k d = λ k d pair a b. elim (At-push_cases db c k d a) [
      | inl o ↦ o
      | inr e ↦ let s = w.some in absurd (omega (arith, s, e.0, b.0))
    ] in
    record {
      head_in = w.head_in;
      levels = w.levels;
      some = let l = length_push db c in let s = w.some in omega (arith, l, s);
      inside = λ k d pair a b. w.inside k d pair (old k d pair a b) b;
      ended = λ s i k d f a. elim (At-push_cases db c k d a) [
        | inl o ↦ w.ended s i k d f o
        | inr e ↦ subst (λ (x : List Lit). IsSettledClause (take s t) x) e.1 (settled s i)
      ];
      each = λ k d pair f a b. w.each k d pair f (old k d pair a b) b;
    }

-- a literal is put on the trail
pub watching_put : {permanent : ℕ} (R : Lit → ℕ → Type 0) (db : List (List Lit)) (t : List Lit) (level_starts : List ℕ) (head : ℕ) (pairs : List Pair) (x : Lit)
    → IsWatching R permanent db t level_starts head pairs → IsWatching R permanent db (t ++ x ∷ []) level_starts head pairs
watching_put {permanent} R db t level_starts head pairs x w = record {
  head_in = let l = length_push t x in let s = w.head_in in omega (arith, l, s);
  levels = w.levels;
  some = w.some;
  inside = w.inside;
  ended = λ s i.
      let a = w.levels s i in
      let h = w.head_in in
      subst (λ (xs : List Lit). AllSettledTo permanent xs db) (sym (take-append-le s t (x ∷ []) (omega (arith, a, h)))) (w.ended s i);
  each = λ k c pair f a b. elim (w.each k c pair f a b) [
    | inl base ↦ inl (base.0, base.1, base.2, At-push_old t (x ∷ []) base.0 base.1 base.3, base.4)
    | inr p ↦ inr (record {
      apart = p.apart;
      first = watch_put t level_starts head c pair.first x w.head_in p.first;
      second = watch_put t level_starts head c pair.second x w.head_in p.second;
      first_in = p.first_in;
      second_in = p.second_in;
    })
  ];
}

-- the last level is left
pub watching_back : {permanent : ℕ} (R : Lit → ℕ → Type 0) (db : List (List Lit)) (t : List Lit) (level_starts : List ℕ) (s head : ℕ) (pairs : List Pair)
    → s ≤ length t → ((x : ℕ) → Contains level_starts x → x < s) → IsWatching R permanent db t (level_starts ++ s ∷ []) head pairs → IsWatching R permanent db (take s t) level_starts (min head s) pairs
watching_back {permanent} R db t level_starts s head pairs within rising w = record {
  head_in = let l = length-take s t in omega (arith, l, within);
  levels = λ x i. let a = w.levels x (Contains-append_left level_starts (s ∷ []) x i) in let b = rising x i in omega (arith, a, b);
  some = w.some;
  inside = w.inside;
  ended = λ x i.
      let r = rising x i in
      subst (λ (xs : List Lit). AllSettledTo permanent xs db) (sym (take-take x s t (omega (arith, r)))) (w.ended x (Contains-append_left level_starts (s ∷ []) x i));
  each = λ k c pair f a b. elim (w.each k c pair f a b) [
    | inl base ↦ inl (
      base.0,
      base.1,
      base.2,
      At-in_take s t base.0 base.1 (base.4 s (Contains-push level_starts s)) base.3,
      λ x i. base.4 x (Contains-append_left level_starts (s ∷ []) x i),
    )
    | inr p ↦ inr (record {
      apart = p.apart;
      first = watch_back t level_starts s head c pair.first p.first;
      second = watch_back t level_starts s head c pair.second p.second;
      first_in = p.first_in;
      second_in = p.second_in;
    })
  ];
}

-- a level starts where the whole trail was looked at
pub watching_level : {permanent : ℕ} (R : Lit → ℕ → Type 0) (db : List (List Lit)) (t : List Lit) (level_starts : List ℕ) (head : ℕ) (pairs : List Pair)
    → length t ≤ head → AllSettledTo permanent t db → IsWatching R permanent db t level_starts head pairs → IsWatching R permanent db t (level_starts ++ length t ∷ []) head pairs
watching_level {permanent} R db t level_starts head pairs whole still w = record {
  head_in = w.head_in;
  levels = λ s i. elim (Contains-push_cases level_starts (length t) s i) [ inl j ↦ w.levels s j | inr e ↦ omega (arith, e, whole) ];
  some = w.some;
  inside = w.inside;
  ended = λ s i. elim (Contains-push_cases level_starts (length t) s i) [
    | inl j ↦ w.ended s j
    | inr e ↦ subst (λ (xs : List Lit). AllSettledTo permanent xs db) (sym (take_all s t (omega (arith, e)))) still
  ];
  each = λ k c pair f a b. elim (w.each k c pair f a b) [
    | inl base ↦ inl (
      base.0,
      base.1,
      base.2,
      base.3,
      λ s i. elim (Contains-push_cases level_starts (length t) s i) [ inl j ↦ base.4 s j | inr e ↦ omega (arith, e, base.3.0) ],
    )
    | inr p ↦ inr (record {
      apart = p.apart;
      first = watch_level t level_starts head c pair.first p.first;
      second = watch_level t level_starts head c pair.second p.second;
      first_in = p.first_in;
      second_in = p.second_in;
    })
  ];
}

-- a clause gets its pair
pub watching_attach : {permanent : ℕ} (R : Lit → ℕ → Type 0) (db : List (List Lit)) (t : List Lit) (level_starts : List ℕ) (head : ℕ) (pairs : List Pair) (c : List Lit) (pair : Pair)
    → At db (length pairs) c → Contains c pair.first → Contains c pair.second → IsBase t level_starts c ⊎ IsPaired R t level_starts head (length pairs) c pair
    → IsWatching R permanent db t level_starts head pairs → IsWatching R permanent db t level_starts head (pairs ++ pair ∷ [])
watching_attach {permanent} R db t level_starts head pairs c pair at first second new w = record {
  head_in = w.head_in;
  levels = w.levels;
  some = let l = length_push pairs pair in omega (arith, l, at.0);
  inside = λ k d p a b. elim (At-push_cases pairs pair k p b) [
    | inl o ↦ w.inside k d p a o
    | inr e ↦
        let same : c ≡ d = At-same db (length pairs) c d at (subst (λ (n : ℕ). At db n d) e.0 a) in
        subst (λ (q : Pair). Contains d q.first × Contains d q.second) e.1
        (subst (λ (xs : List Lit). Contains xs pair.first × Contains xs pair.second) same (first, second))
  ];
  ended = w.ended;
  each = λ k d p f a b. elim (At-push_cases pairs pair k p b) [
    | inl o ↦ w.each k d p f a o
    | inr e ↦
        let same : c ≡ d = At-same db (length pairs) c d at (subst (λ (n : ℕ). At db n d) e.0 a) in
        subst (λ (q : Pair). IsBase t level_starts d ⊎ IsPaired R t level_starts head k d q) e.1
        (subst (λ (n : ℕ). IsBase t level_starts d ⊎ IsPaired R t level_starts head n d pair) (sym e.0)
        (subst (λ (xs : List Lit). IsBase t level_starts xs ⊎ IsPaired R t level_starts head (length pairs) xs pair) same new))
  ];
}

-- where the whole trail was looked at, each permanent clause is settled
pub watching_settled : {permanent : ℕ} (R : Lit → ℕ → Type 0) (db : List (List Lit)) (t : List Lit) (level_starts : List ℕ) (head : ℕ) (pairs : List Pair)
    → IsConsistent t → length t ≤ head → length pairs ≡ length db → IsWatching R permanent db t level_starts head pairs → AllSettledTo permanent t db
watching_settled {permanent} R db t level_starts head pairs k whole all w i c f at =
    let none : Lit = record { var = 0; positive = false } in
    let a = At-get_or pairs i (let p : Pair = record { first = none; second = none } in p) (omega (arith, at.0, all)) in
    let pair = get_or pairs i (record { first = none; second = none }) in
    let d = w.inside i c pair at a in
    elim (w.each i c pair f at a) [
      | inl base ↦ settled_by_true t c base.1 k base.2 (At-contains t base.0 base.1 base.3)
      | inr p ↦ watches_settle t level_starts head c pair.first pair.second k whole d.0 d.1 p.apart p.first p.second
    ]

other_contains : (kept rest : List ℕ) (k j : ℕ) → j ≢ k → Contains (kept ++ k ∷ rest) j → Contains (kept ++ rest) j
other_contains kept rest k j n i = elim (Contains-append_cases kept (k ∷ rest) j i) [
  | inl a ↦ Contains-append_left kept rest j a
  | inr b ↦ elim (mem-cases j k rest b) [ inl e ↦ absurd (n (sym e)) | inr c ↦ Contains-append_right kept rest j c ]
]

-- an index whose clause does not watch the literal leaves its list
pub watching_drop : {permanent : ℕ} (db : List (List Lit)) (t : List Lit) (level_starts : List ℕ) (head : ℕ) (pairs : List Pair) (out : Lit) (kept rest : List ℕ) (lists : List (List ℕ)) (k : ℕ)
    → ((pair : Pair) → At pairs k pair → HasWatch pair out → ⊥) → IsWatching (IsListedBut out (kept ++ k ∷ rest) lists) permanent db t level_starts head pairs
    → IsWatching (IsListedBut out (kept ++ rest) lists) permanent db t level_starts head pairs
watching_drop {permanent} db t level_starts head pairs out kept rest lists k no_watch w = record {
  head_in = w.head_in;
  levels = w.levels;
  some = w.some;
  inside = w.inside;
  ended = w.ended;
  each = λ j c pair f a b. elim (w.each j c pair f a b) [
    | inl base ↦ inl base
    | inr p ↦ inr (record {
      apart = p.apart;
      first = p.first;
      second = p.second;
      first_in = (
        λ e. elim (cases_eq j k) [
          | inl same ↦ absurd (no_watch pair (subst (λ (n : ℕ). At pairs n pair) same b) (inl e))
          | inr n ↦ other_contains kept rest k j n (p.first_in.0 e)
        ],
        p.first_in.1,
      );
      second_in = (
        λ e. elim (cases_eq j k) [
          | inl same ↦ absurd (no_watch pair (subst (λ (n : ℕ). At pairs n pair) same b) (inr e))
          | inr n ↦ other_contains kept rest k j n (p.second_in.0 e)
        ],
        p.second_in.1,
      );
    })
  ];
}

pub listed_more : (lists : List (List ℕ)) (i x : ℕ) (l : Lit) (k : ℕ) → IsWatchListed lists l k → IsWatchListed (listed_at lists i x) l k
listed_more lists i x l k h = elim (cases_eq (code_of l) i) [
  | inl e ↦
      let range : i < length lists = inside lists (code_of l) k h i e in
      subst (λ (n : ℕ). Contains (get_or (listed_at lists i x) n []) k) (sym e)
      (subst (λ (xs : List ℕ). Contains xs k) (sym (get_or-set_same lists i (get_or lists i [] ++ x ∷ []) [] range))
      (Contains-append_left (get_or lists i []) (x ∷ []) k (subst (λ (n : ℕ). Contains (get_or lists n []) k) e h)))
  | inr n ↦ subst (λ (xs : List ℕ). Contains xs k) (sym (get_or-set_other lists i (code_of l) (get_or lists i [] ++ x ∷ []) [] n)) h
]
  where
    inside : (ls : List (List ℕ)) (n k : ℕ) → Contains (get_or ls n []) k → (j : ℕ) → n ≡ j → j < length ls
    inside [] n k h j e = absurd (omega (arith, h.1))
    inside (y ∷ ys) zero k h j e = omega (arith, e)
    inside (y ∷ ys) (suc n) k h j e = let r = inside ys n k h n refl in omega (arith, r, e)

pub listed_new : (lists : List (List ℕ)) (l : Lit) (k : ℕ) → code_of l < length lists → IsWatchListed (listed_at lists (code_of l) k) l k
listed_new lists l k range =
    subst (λ (xs : List ℕ). Contains xs k) (sym (get_or-set_same lists (code_of l) (get_or lists (code_of l) [] ++ k ∷ []) [] range))
    (Contains-push (get_or lists (code_of l) []) k)

-- a clause watches another literal in place of one
pub watching_move : {permanent : ℕ} (db : List (List Lit)) (t : List Lit) (level_starts : List ℕ) (head : ℕ) (pairs : List Pair) (out other new : Lit) (kept rest : List ℕ)
    (lists : List (List ℕ)) (k : ℕ) (c : List Lit) (pair : Pair) → At db k c → At pairs k pair → IsPairOf pair out other
    → Denied t out → Contains c new → (Denied t new → ⊥) → new ≢ other → code_of new < length lists
    → IsWatching (IsListedBut out (kept ++ k ∷ rest) lists) permanent db t level_starts head pairs
    → IsWatching (IsListedBut out (kept ++ rest) (listed_at lists (code_of new) k)) permanent db t level_starts head (set pairs k (record { first = other; second = new }))
watching_move {permanent} db t level_starts head pairs out other new kept rest lists k c pair at pat of denied inside free apart range w =
    let made : Pair = record { first = other; second = new } in
    let S : Lit → ℕ → Type 0 = IsListedBut out (kept ++ rest) (listed_at lists (code_of new) k) in
    let new_out : new ≢ out = λ e. free (subst (λ (x : Lit). Denied t x) (sym e) denied) in
    let more : (l : Lit) (j : ℕ) → j ≢ k → IsListedBut out (kept ++ k ∷ rest) lists l j → S l j = λ l j n r.
    (λ e. other_contains kept rest k j n (r.0 e), λ e. listed_more lists (code_of new) k l j (r.1 e)) in
    record {
      head_in = w.head_in;
      levels = w.levels;
      some = let l = length-set pairs k made in let s = w.some in omega (arith, l, s);
      inside = λ j d p a b. elim (At-set_cases pairs k made j p b) [
        | inl e ↦
            let same : c ≡ d = At-same db k c d at (subst (λ (n : ℕ). At db n d) e.0 a) in
            let i = w.inside k c pair at pat in
            let o : Contains c other = elim of [
              | inl q ↦ subst (λ (x : Lit). Contains c x) q.1 i.1
              | inr q ↦ subst (λ (x : Lit). Contains c x) q.1 i.0
            ] in
            subst (λ (q : Pair). Contains d q.first × Contains d q.second) e.1 (subst (λ (xs : List Lit). Contains xs other × Contains xs new) same (o, inside))
        | inr o ↦ w.inside j d p a o.1
      ];
      ended = w.ended;
      each = λ j d p f a b. elim (At-set_cases pairs k made j p b) [
        | inl e ↦
            let same : c ≡ d = At-same db k c d at (subst (λ (n : ℕ). At db n d) e.0 a) in
            subst (λ (q : Pair). IsBase t level_starts d ⊎ IsPaired S t level_starts head j d q) e.1
            (subst (λ (n : ℕ). IsBase t level_starts d ⊎ IsPaired S t level_starts head n d made) (sym e.0)
            (subst (λ (xs : List Lit). IsBase t level_starts xs ⊎ IsPaired S t level_starts head k xs made) same
            (elim (w.each k c pair (subst (λ (n : ℕ). n < permanent) e.0 f) at pat) [
              | inl base ↦ inl base
              | inr old ↦ inr (elim of [
                | inl q ↦
                    let n : other ≢ out = λ x. old.apart (q.0 ∙ sym x ∙ sym q.1) in
                    record {
                      apart = λ x. apart (sym x);
                      first = subst (λ (x : Lit). WatchIs t level_starts head c x) q.1 old.second;
                      second = watch_new t level_starts head c new free;
                      first_in = (
                        λ x. absurd (n x),
                        λ x. listed_more lists (code_of new) k other k (subst (λ (y : Lit). IsWatchListed lists y k) q.1 (old.second_in.1 (λ y. n (sym q.1 ∙ y)))),
                      );
                      second_in = (λ x. absurd (new_out x), λ x. listed_new lists new k range);
                    }
                | inr q ↦
                    let n : other ≢ out = λ x. old.apart (q.1 ∙ x ∙ sym q.0) in
                    record {
                      apart = λ x. apart (sym x);
                      first = subst (λ (x : Lit). WatchIs t level_starts head c x) q.1 old.first;
                      second = watch_new t level_starts head c new free;
                      first_in = (
                        λ x. absurd (n x),
                        λ x. listed_more lists (code_of new) k other k (subst (λ (y : Lit). IsWatchListed lists y k) q.1 (old.first_in.1 (λ y. n (sym q.1 ∙ y)))),
                      );
                      second_in = (λ x. absurd (new_out x), λ x. listed_new lists new k range);
                    }
              ])
            ])))
        | inr o ↦ elim (w.each j d p f a o.1) [
          | inl base ↦ inl base
          | inr old ↦ inr (record {
            apart = old.apart;
            first = old.first;
            second = old.second;
            first_in = more p.first j o.0 old.first_in;
            second_in = more p.second j o.0 old.second_in;
          })
        ]
      ];
    }

-- the next place of the trail was looked at
pub watching_next : {permanent : ℕ} (R : Lit → ℕ → Type 0) (db : List (List Lit)) (t : List Lit) (level_starts : List ℕ) (head : ℕ) (pairs : List Pair) (out : Lit)
    → At t head (opposite out) → IsPending permanent t db pairs out [] → IsWatching R permanent db t level_starts head pairs → IsWatching R permanent db t level_starts (head + 1) pairs
watching_next {permanent} R db t level_starts head pairs out at pending w = record {
  head_in = omega (arith, at.0);
  levels = λ s i. let l = w.levels s i in omega (arith, l);
  some = w.some;
  inside = w.inside;
  ended = w.ended;
  each = λ k c pair f a b. elim (w.each k c pair f a b) [
    | inl base ↦ inl base
    | inr p ↦ inr (record {
      apart = p.apart;
      first = watch_look t level_starts head c pair.first (opposite out) at w.levels (cases k c pair f a b pair.first (λ e. inl e)) p.first;
      second = watch_look t level_starts head c pair.second (opposite out) at w.levels (cases k c pair f a b pair.second (λ e. inr e)) p.second;
      first_in = p.first_in;
      second_in = p.second_in;
    })
  ];
}
  where
    cases : (k : ℕ) (c : List Lit) (pair : Pair) → k < permanent → At db k c → At pairs k pair → (x : Lit) → (x ≡ out → HasWatch pair out)
        → (opposite out ≢ opposite x) ⊎ ((m : Lit) × Contains c m × Contains t m)
    cases k c pair f a b x has = elim (equal_or_not x out) [
      | inl e ↦ elim (pending k c pair f a b (has e)) [ inl i ↦ absurd (omega (arith, i.1)) | inr h ↦ inr h ]
      | inr n ↦ inl (λ e. n (sym (opposite-opposite x) ∙ ap opposite (sym e) ∙ opposite-opposite out))
    ]

pub pending_first : {permanent : ℕ} (db : List (List Lit)) (t : List Lit) (level_starts : List ℕ) (head : ℕ) (pairs : List Pair) (out : Lit) (own : List ℕ) (lists : List (List ℕ))
    → IsWatching (IsListedBut out own lists) permanent db t level_starts head pairs → IsPending permanent t db pairs out own
pending_first {permanent} db t level_starts head pairs out own lists w k c pair f a b has = elim (w.each k c pair f a b) [
  | inl base ↦ inr (base.1, base.2, At-contains t base.0 base.1 base.3)
  | inr p ↦ elim has [ inl e ↦ inl (p.first_in.0 e) | inr e ↦ inl (p.second_in.0 e) ]
]

pub pending_held : {permanent : ℕ} (db : List (List Lit)) (t : List Lit) (pairs : List Pair) (out : Lit) (k : ℕ) (rest : List ℕ) → ((c : List Lit) → At db k c → HoldsIn t c)
    → IsPending permanent t db pairs out (k ∷ rest) → IsPending permanent t db pairs out rest
pending_held {permanent} db t pairs out k rest holds p j c pair f a b has = elim (p j c pair f a b has) [
  | inr h ↦ inr h
  | inl i ↦ elim (mem-cases j k rest i) [ inl e ↦ inr (holds c (subst (λ (n : ℕ). At db n c) (sym e) a)) | inr r ↦ inl r ]
]

pub pending_drop : {permanent : ℕ} (db : List (List Lit)) (t : List Lit) (pairs : List Pair) (out : Lit) (k : ℕ) (rest : List ℕ) → ((pair : Pair) → At pairs k pair → HasWatch pair out → ⊥)
    → IsPending permanent t db pairs out (k ∷ rest) → IsPending permanent t db pairs out rest
pending_drop {permanent} db t pairs out k rest no_watch p j c pair f a b has = elim (p j c pair f a b has) [
  | inr h ↦ inr h
  | inl i ↦ elim (mem-cases j k rest i) [ inl e ↦ absurd (no_watch pair (subst (λ (n : ℕ). At pairs n pair) (sym e) b) has) | inr r ↦ inl r ]
]

pub pending_move : {permanent : ℕ} (db : List (List Lit)) (t : List Lit) (pairs : List Pair) (out : Lit) (k : ℕ) (rest : List ℕ) (made : Pair)
    → (k < permanent → (c : List Lit) → At db k c → HasWatch made out → HoldsIn t c) → IsPending permanent t db pairs out (k ∷ rest) → IsPending permanent t db (set pairs k made) out rest
pending_move {permanent} db t pairs out k rest made holds p j c pair f a b has = elim (At-set_cases pairs k made j pair b) [
  | inl e ↦ inr (holds (subst (λ (n : ℕ). n < permanent) e.0 f) c (subst (λ (n : ℕ). At db n c) e.0 a) (subst (λ (q : Pair). HasWatch q out) (sym e.1) has))
  | inr o ↦ elim (p j c pair f a o.1 has) [
    | inr h ↦ inr h
    | inl i ↦ elim (mem-cases j k rest i) [ inl e ↦ absurd (o.0 (sym e)) | inr r ↦ inl r ]
  ]
]

pub pending_put : {permanent : ℕ} (db : List (List Lit)) (t : List Lit) (pairs : List Pair) (out : Lit) (rest : List ℕ) (x : Lit)
    → IsPending permanent t db pairs out rest → IsPending permanent (t ++ x ∷ []) db pairs out rest
pending_put {permanent} db t pairs out rest x p j c pair f a b has = elim (p j c pair f a b has) [
  | inl i ↦ inl i
  | inr h ↦ inr (h.0, h.1, Contains-append_left t (x ∷ []) h.0 h.2)
]
