-- How the clauses of a literal's list are looked through.
use Rattle.std.proofs.Common.{set, get_or-set_other, get_or-set_same, ◌≡◌, ◌≢◌, ℕ, zero, suc, ◌<◌, ◌≤◌, List, [], ◌∷◌, ◌++◌, ◌⊎◌, inl, inr, refl, sym, ◌∙◌, ap, subst, arith, length, get_or, append_assoc, Option}
use Rattle.std.specs.Prelude.{Contains}
use Rattle.std.proofs.lemmas.List.{length-set}
use Rattle.std.proofs.lemmas.List.Elements.{Contains-push_cases, Contains-append_cases, Contains-append_left, Contains-append_right, Contains-push}
use Rattle.std.proofs.lemmas.Bool.{cases_eq}
use Rattle.cnf_form.specs.declared.formula.Lit.{Lit}
use Rattle.cnf_form.specs.Literals.{opposite, Denied}
use Rattle.cnf_form.proofs.Lits.{equal_or_not}
use Rattle.search_trail.specs.declared.trail.Entry.{Entry}
use Rattle.cdcl.specs.declared.watch.Pair.{Pair}
use Rattle.search_trail.specs.Trail.{At, held}
use Rattle.cdcl.specs.State.{IsSearchState}
use Rattle.cdcl.specs.Watching.{code_of, IsWatchListed, listed_at, IsListedBut, HoldsIn, IsWatching, HasWatch, IsPairOf, IsPending, AreLists}
use Rattle.cdcl.specs.Looking.{IsLooking}
use Rattle.search_trail.proofs.Works.{At-same, At-contains}
use Rattle.cdcl.proofs.States.{held_push}
use Rattle.cdcl.proofs.WatchState.{code_one, code_small, watching_relist, watching_put, watching_drop, watching_move, pending_first, pending_held, pending_drop, pending_move, pending_put}

-- an index was put at the end of a list
pub lists_more : (lists : List (List ℕ)) (n count i k : ℕ) → k < count → AreLists lists n count → AreLists (listed_at lists i k) n count
lists_more lists n count i k h a = record {
  room = length-set lists i (get_or lists i [] ++ k ∷ []) ∙ a.room;
  below = λ j x c. elim (cases_eq j i) [
    | inl e ↦ elim (in_range i j e x c) [
      | inl q ↦ a.below i x q
      | inr q ↦ omega (arith, q, h)
    ]
    | inr o ↦ a.below j x (subst (λ (xs : List ℕ). Contains xs x) (get_or-set_other lists i j (get_or lists i [] ++ k ∷ []) [] o) c)
  ];
}
  where
    inside : (ls : List (List ℕ)) (m y : ℕ) → Contains (get_or ls m []) y → m < length ls
    inside [] m y c = absurd (omega (arith, c.1))
    inside (z ∷ zs) zero y c = omega arith
    inside (z ∷ zs) (suc m) y c = let r = inside zs m y c in omega (arith, r)

    in_range : (m j : ℕ) → j ≡ m → (y : ℕ) → Contains (get_or (set lists m (get_or lists m [] ++ k ∷ [])) j []) y → Contains (get_or lists m []) y ⊎ (k ≡ y)
    in_range m j e y c =
        let range = inside (set lists m (get_or lists m [] ++ k ∷ [])) j y c in
        let len = length-set lists m (get_or lists m [] ++ k ∷ []) in
        Contains-push_cases (get_or lists m []) k y (subst (λ (xs : List ℕ). Contains xs y)
        (get_or-set_same lists m (get_or lists m [] ++ k ∷ []) [] (omega (arith, range, len, e)))
        (subst (λ (q : ℕ). Contains (get_or (set lists m (get_or lists m [] ++ k ∷ [])) q []) y) e c))

pub lists_wider : (lists : List (List ℕ)) (n count count' : ℕ) → count ≤ count' → AreLists lists n count → AreLists lists n count'
lists_wider lists n count count' h a = record { room = a.room; below = λ i k c. let r = a.below i k c in omega (arith, r, h) }

-- a list was put in its place
pub lists_put : (lists : List (List ℕ)) (n count i : ℕ) (own : List ℕ) → ((k : ℕ) → Contains own k → k < count) → AreLists lists n count → AreLists (set lists i own) n count
lists_put lists n count i own small a = record {
  room = length-set lists i own ∙ a.room;
  below = λ j x c. elim (cases_eq j i) [
    | inl e ↦ elim (cases j e x c) [ inl q ↦ small x q | inr q ↦ absurd q ]
    | inr o ↦ a.below j x (subst (λ (xs : List ℕ). Contains xs x) (get_or-set_other lists i j own [] o) c)
  ];
}
  where
    inside : (ls : List (List ℕ)) (m y : ℕ) → Contains (get_or ls m []) y → m < length ls
    inside [] m y c = absurd (omega (arith, c.1))
    inside (z ∷ zs) zero y c = omega arith
    inside (z ∷ zs) (suc m) y c = let r = inside zs m y c in omega (arith, r)

    cases : (j : ℕ) → j ≡ i → (y : ℕ) → Contains (get_or (set lists i own) j []) y → Contains own y ⊎ ⊥
    cases j e y c =
        let range = inside (set lists i own) j y c in
        let len = length-set lists i own in
        inl (subst (λ (xs : List ℕ). Contains xs y) (get_or-set_same lists i own [] (omega (arith, range, len, e)))
        (subst (λ (q : ℕ). Contains (get_or (set lists i own) q []) y) e c))

along : (kept rest : List ℕ) (k : ℕ) → kept ++ k ∷ rest ≡ (kept ++ k ∷ []) ++ rest
along kept rest k = sym (append_assoc kept (k ∷ []) rest)

pub looking_kept : {permanent : ℕ} (db : List (List Lit)) (trail : List Entry) (places : List (Option ℕ)) (level_starts : List ℕ) (head : ℕ) (pairs : List Pair) (lists : List (List ℕ))
    (lit : Lit) (kept rest : List ℕ) (k : ℕ) → ((c : List Lit) → At db k c → HoldsIn (held trail) c)
    → IsLooking permanent db trail places level_starts head pairs lists lit kept (k ∷ rest) → IsLooking permanent db trail places level_starts head pairs lists lit (kept ++ k ∷ []) rest
looking_kept {permanent} db trail places level_starts head pairs lists lit kept rest k holds l = record {
  sound = l.sound;
  denied = l.denied;
  watching = subst (λ (xs : List ℕ). IsWatching (IsListedBut lit xs lists) permanent db (held trail) level_starts head pairs) (along kept rest k) l.watching;
  lists_are = l.lists_are;
  entries = subst (λ (xs : List ℕ). (j : ℕ) → Contains xs j → j < length pairs) (along kept rest k) l.entries;
  pending = pending_held db (held trail) pairs lit k rest holds l.pending;
}

fewer : (kept rest : List ℕ) (k j : ℕ) → Contains (kept ++ rest) j → Contains (kept ++ k ∷ rest) j
fewer kept rest k j i = elim (Contains-append_cases kept rest j i) [
  | inl a ↦ Contains-append_left kept (k ∷ rest) j a
  | inr b ↦ Contains-append_right kept (k ∷ rest) j (suc b.0, omega (arith, b.1), b.2)
]

pub looking_drop : {permanent : ℕ} (db : List (List Lit)) (trail : List Entry) (places : List (Option ℕ)) (level_starts : List ℕ) (head : ℕ) (pairs : List Pair) (lists : List (List ℕ))
    (lit : Lit) (kept rest : List ℕ) (k : ℕ) → ((pair : Pair) → At pairs k pair → HasWatch pair lit → ⊥)
    → IsLooking permanent db trail places level_starts head pairs lists lit kept (k ∷ rest) → IsLooking permanent db trail places level_starts head pairs lists lit kept rest
looking_drop {permanent} db trail places level_starts head pairs lists lit kept rest k no_watch l = record {
  sound = l.sound;
  denied = l.denied;
  watching = watching_drop db (held trail) level_starts head pairs lit kept rest lists k no_watch l.watching;
  lists_are = l.lists_are;
  entries = λ j i. l.entries j (fewer kept rest k j i);
  pending = pending_drop db (held trail) pairs lit k rest no_watch l.pending;
}

pub looking_force : {permanent : ℕ} (db : List (List Lit)) (trail trail' : List Entry) (places places' : List (Option ℕ)) (level_starts : List ℕ) (head : ℕ) (pairs : List Pair)
    (lists : List (List ℕ)) (lit : Lit) (kept rest : List ℕ) (k : ℕ) (e : Entry) → trail' ≡ trail ++ e ∷ [] → IsSearchState db trail' places' level_starts
    → length places' ≡ length places → ((c : List Lit) → At db k c → Contains c e.lit)
    → IsLooking permanent db trail places level_starts head pairs lists lit kept (k ∷ rest) → IsLooking permanent db trail' places' level_starts head pairs lists lit (kept ++ k ∷ []) rest
looking_force {permanent} db trail trail' places places' level_starts head pairs lists lit kept rest k e put sound len inside l =
    let t : held trail' ≡ held trail ++ e.lit ∷ [] = ap held put ∙ held_push trail e in
    record {
      sound = sound;
      denied = subst (λ (xs : List Lit). Denied xs lit) (sym t) (Contains-append_left (held trail) (e.lit ∷ []) (opposite lit) l.denied);
      watching = subst (λ (xs : List Lit). IsWatching (IsListedBut lit ((kept ++ k ∷ []) ++ rest) lists) permanent db xs level_starts head pairs) (sym t)
          (watching_put (IsListedBut lit ((kept ++ k ∷ []) ++ rest) lists) db (held trail) level_starts head pairs e.lit
          (subst (λ (xs : List ℕ). IsWatching (IsListedBut lit xs lists) permanent db (held trail) level_starts head pairs) (along kept rest k) l.watching));
      lists_are = subst (λ (n : ℕ). AreLists lists n (length pairs)) (sym len) l.lists_are;
      entries = subst (λ (xs : List ℕ). (j : ℕ) → Contains xs j → j < length pairs) (along kept rest k) l.entries;
      pending = subst (λ (xs : List Lit). IsPending permanent xs db pairs lit rest) (sym t)
          (pending_held db (held trail ++ e.lit ∷ []) pairs lit k rest (λ c a. (e.lit, inside c a, Contains-push (held trail) e.lit))
          (pending_put db (held trail) pairs lit (k ∷ rest) e.lit l.pending));
    }

pub looking_move : {permanent : ℕ} (db : List (List Lit)) (trail : List Entry) (places : List (Option ℕ)) (level_starts : List ℕ) (head : ℕ) (pairs : List Pair) (lists : List (List ℕ))
    (lit other new : Lit) (kept rest : List ℕ) (k : ℕ) (c : List Lit) (pair : Pair) → At db k c → At pairs k pair → IsPairOf pair lit other
    → Contains c new → (Denied (held trail) new → ⊥) → new ≢ other
    → IsLooking permanent db trail places level_starts head pairs lists lit kept (k ∷ rest)
    → IsLooking permanent db trail places level_starts head (set pairs k (record { first = other; second = new })) (listed_at lists (code_of new) k) lit kept rest
looking_move {permanent} db trail places level_starts head pairs lists lit other new kept rest k c pair at pat of inside free apart l =
    let made : Pair = record { first = other; second = new } in
    let len : length (set pairs k made) ≡ length pairs = length-set pairs k made in
    let range = code_small new (length places) (l.sound.db_in c (k, at.0, at.1) new inside) in
    let small : k < length pairs = l.entries k (Contains-append_right kept (k ∷ rest) k (0, omega arith, refl)) in
    record {
      sound = l.sound;
      denied = l.denied;
      watching = watching_move db (held trail) level_starts head pairs lit other new kept rest lists k c pair at pat of l.denied inside free apart
          (omega (arith, range, l.lists_are.room)) l.watching;
      lists_are = subst (λ (n : ℕ). AreLists (listed_at lists (code_of new) k) (length places) n) (sym len) (lists_more lists (length places) (length pairs) (code_of new) k small l.lists_are);
      entries = λ j i. let r = l.entries j (fewer kept rest k j i) in omega (arith, r, len);
      pending = pending_move db (held trail) pairs lit k rest made (λ f d a h.
          let same : c ≡ d = At-same db k c d at a in
          elim (l.watching.each k c pair f at pat) [
            | inl base ↦ subst (λ (xs : List Lit). HoldsIn (held trail) xs) same (base.1, base.2, At-contains (held trail) base.0 base.1 base.3)
            | inr p ↦ absurd (elim h [
              | inl e ↦ elim of [ inl q ↦ p.apart (q.0 ∙ sym e ∙ sym q.1) | inr q ↦ p.apart (q.1 ∙ e ∙ sym q.0) ]
              | inr e ↦ free (subst (λ (x : Lit). Denied (held trail) x) (sym e) l.denied)
            ])
          ]) l.pending;
    }

-- the list of a literal is taken out
pub looking_first : {permanent : ℕ} (db : List (List Lit)) (trail : List Entry) (places : List (Option ℕ)) (level_starts : List ℕ) (head : ℕ) (pairs : List Pair) (lists : List (List ℕ))
    (lit : Lit) (list : List ℕ) → IsSearchState db trail places level_starts → At (held trail) head (opposite lit) → list ≡ get_or lists (code_of lit) []
    → AreLists lists (length places) (length pairs) → IsWatching (IsWatchListed lists) permanent db (held trail) level_starts head pairs
    → IsLooking permanent db trail places level_starts head pairs (set lists (code_of lit) []) lit [] list
looking_first {permanent} db trail places level_starts head pairs lists lit list sound next own lists_are watching =
    let w : IsWatching (IsListedBut lit list (set lists (code_of lit) [])) permanent db (held trail) level_starts head pairs =
    watching_relist (IsWatchListed lists) (IsListedBut lit list (set lists (code_of lit) [])) db (held trail) level_starts head pairs
    (λ l k r. (
      λ e. subst (λ (xs : List ℕ). Contains xs k) (sym own) (subst (λ (x : Lit). IsWatchListed lists x k) e r),
      λ n. subst (λ (xs : List ℕ). Contains xs k) (sym (get_or-set_other lists (code_of lit) (code_of l) [] [] (λ q. n (code_one l lit q)))) r,
    )) watching in
    record {
      sound = sound;
      denied = (head, next.0, next.1);
      watching = w;
      lists_are = lists_put lists (length places) (length pairs) (code_of lit) [] (λ k i. absurd (omega (arith, i.1))) lists_are;
      entries = λ k i. lists_are.below (code_of lit) k (subst (λ (xs : List ℕ). Contains xs k) own i);
      pending = pending_first db (held trail) level_starts head pairs lit list (set lists (code_of lit) []) w;
    }

-- and put back
pub looking_last : {permanent : ℕ} (db : List (List Lit)) (trail : List Entry) (places : List (Option ℕ)) (level_starts : List ℕ) (head : ℕ) (pairs : List Pair) (lists : List (List ℕ))
    (lit : Lit) (kept rest list : List ℕ) → list ≡ kept ++ rest → code_of lit < length lists
    → IsLooking permanent db trail places level_starts head pairs lists lit kept rest
    → AreLists (set lists (code_of lit) list) (length places) (length pairs) × IsWatching (IsWatchListed (set lists (code_of lit) list)) permanent db (held trail) level_starts head pairs
looking_last {permanent} db trail places level_starts head pairs lists lit kept rest list own range l = (
  lists_put lists (length places) (length pairs) (code_of lit) list (λ k i. l.entries k (subst (λ (xs : List ℕ). Contains xs k) own i)) l.lists_are,
  watching_relist (IsListedBut lit (kept ++ rest) lists) (IsWatchListed (set lists (code_of lit) list)) db (held trail) level_starts head pairs
      (λ x k r. elim (equal_or_not x lit) [
        | inl e ↦
            subst (λ (y : Lit). IsWatchListed (set lists (code_of lit) list) y k) (sym e)
            (subst (λ (xs : List ℕ). Contains xs k) (sym (get_or-set_same lists (code_of lit) list [] range)) (subst (λ (xs : List ℕ). Contains xs k) (sym own) (r.0 e)))
        | inr n ↦ subst (λ (xs : List ℕ). Contains xs k) (sym (get_or-set_other lists (code_of lit) (code_of x) list [] (λ q. n (code_one x lit q)))) (r.1 n)
      ]) l.watching,
)
