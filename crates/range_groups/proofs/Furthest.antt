-- The carriers of the members that were read.
use Rattle.std.proofs.Common.{◌≡◌, inl, inr, ℕ, ◌+◌, ◌<◌, ◌≤◌, Bool, true, false, cond, suc, List, [], ◌∷◌, ◌++◌, length, get_or, take, drop, Option, Some, None, Contains, refl, sym, ◌∙◌, ap, subst, arith}
use Rattle.std.specs.Prelude.{nat_eq}
use Rattle.std.proofs.lemmas.List.{take-append-drop, take_more, drop_more}
use Rattle.std.proofs.lemmas.List.Elements.{Contains-get_or, Contains-append_left, Contains-append_right, Contains-push_cases}
use Rattle.cqa_value.specs.declared.value.Value.{Value}
use Rattle.cqa_value.proofs.Words.{clash, mem-head, mem-tail, mem-nil, mem-cases}
use Rattle.cqa_model.specs.Database.{Table}
use Rattle.range_ask.specs.Ranges.{cell}
use Rattle.range_join.specs.declared.carriers.Extreme.{Extreme}
use Rattle.range_join.specs.Peaks.{further, IsPeak}
use Rattle.range_join.specs.Worths.{atom_row}
use Rattle.range_join.proofs.Peaking.{eq_of, eq_self, peak-either, peak-same}
use Rattle.range_groups.specs.declared.members.Member.{Member}
use Rattle.range_groups.specs.declared.touched.Carrier.{Carrier}
use Rattle.range_groups.specs.Members.{names_by, AreByPlaces}
use Rattle.range_groups.specs.Touched.{carried_at, AscendFrom, GivesAt, AreFurthestCarriers}
use Rattle.range_groups.proofs.Sharing.{places-far}
use Rattle.range_groups.proofs.Touching.{peak-one}

-- ---- one carrier more

pub ascend-push : (n : ℕ) (carriers : List Carrier) (c : Carrier) → AscendFrom n carriers → n ≤ c.place → ((o : Carrier) → Contains carriers o → o.place < c.place) → AscendFrom n (carriers ++ c ∷ [])
ascend-push n [] c a l below = (l, tt)
ascend-push n (x ∷ carriers) c a l below = (a.0, (let k = below x (mem-head x carriers) in ascend-push (x.place + 1) carriers c a.1 (omega (arith, k)) (λ o m. below o (mem-tail o x carriers m))))

other : (p q : ℕ) → (p ≡ q → ⊥) → nat_eq p q ≡ false
other p q n = go (nat_eq p q) refl
  where
    go : (b : Bool) → nat_eq p q ≡ b → nat_eq p q ≡ false
    go true e = absurd (n (eq_of p q e))
    go false e = e

module _ (col : ℕ) where
  -- the last carrier's value, where the others stand before it
  carried-last : (carriers : List Carrier) (c : Carrier) → ((o : Carrier) → Contains carriers o → o.place < c.place) → carried_at col (carriers ++ c ∷ []) c.place ≡ Some (cell c.row.now col)
  carried-last [] c below = ap (λ b. cond b (Some (cell c.row.now col)) None) (eq_self c.place)
  carried-last (x ∷ carriers) c below =
      ap (λ b. cond b (Some (cell x.row.now col)) (carried_at col (carriers ++ c ∷ []) c.place)) (other x.place c.place (λ e. let l = below x (mem-head x carriers) in absurd (omega (arith, l, e))))
      ∙ carried-last carriers c (λ o m. below o (mem-tail o x carriers m))

  carried-others : (carriers : List Carrier) (c : Carrier) (p : ℕ) → nat_eq c.place p ≡ false → carried_at col (carriers ++ c ∷ []) p ≡ carried_at col carriers p
  carried-others [] c p t = ap (λ b. cond b (Some (cell c.row.now col)) None) t
  carried-others (x ∷ carriers) c p t = ap (λ o. cond (nat_eq x.place p) (Some (cell x.row.now col)) o) (carried-others carriers c p t)

-- ---- the members that were read

module _ (way : Extreme) (db : List Table) (atom col : ℕ) where
  -- the carriers before the last one, and the last
  pub record IsCarrying (read : List Member) (carriers : List Carrier) (held : Carrier) : Type 0 where
    pub ascend : AscendFrom 0 carriers
    pub below : (c : Carrier) → Contains carriers c → c.place < held.place
    pub best : (p : ℕ) → IsPeak way (GivesAt db atom col read p) (carried_at col (carriers ++ held ∷ []) p)
    pub of_members : (c : Carrier) → Contains (carriers ++ held ∷ []) c → (m : Member) × Contains read m × (m.place ≡ c.place)
    pub up_to : (m : Member) → Contains read m → m.place ≤ held.place

  -- the value that a member gives
  abbrev gift : Member → Value
  gift m = cell (atom_row db atom (names_by m)) col

  pub carrying-none : (members : List Member) (carriers : List Carrier) → carriers ≡ [] → members ≡ [] → AreFurthestCarriers way db atom col members carriers
  carrying-none members carriers e f = subst (AreFurthestCarriers way db atom col members) (sym e) (subst (λ ms. AreFurthestCarriers way db atom col ms []) (sym f) (record {
    ascend = tt;
    best = λ p v g. mem-nil g.0 g.1;
    of_members = λ c m. absurd (mem-nil c m);
  }))

  -- a place of which the last carrier alone gives a value
  one-gives : (read : List Member) (m : Member) (p : ℕ) → ((o : Member) → Contains read o → o.place ≡ p → ⊥) → m.place ≡ p → IsPeak way (GivesAt db atom col (read ++ m ∷ []) p) (Some (gift m))
  one-gives read m p none at =
      peak-same way (λ v. gift m ≡ v) (GivesAt db atom col (read ++ m ∷ []) p) (λ v e. (m, Contains-append_right read (m ∷ []) m (mem-head m []), at, e)) (λ v g. elim (Contains-push_cases read m g.0 g.1) [
        | inl old ↦ absurd (none g.0 old g.2)
        | inr same ↦ ap gift same ∙ g.3
      ]) (Some (gift m)) (peak-one way (gift m))

  -- another place
  same-gives : (read : List Member) (m : Member) (p : ℕ) (o : Option Value) → (m.place ≡ p → ⊥) → IsPeak way (GivesAt db atom col read p) o → IsPeak way (GivesAt db atom col (read ++ m ∷ []) p) o
  same-gives read m p o apart h =
      peak-same way (GivesAt db atom col read p) (GivesAt db atom col (read ++ m ∷ []) p) (λ v g. (g.0, Contains-append_left read (m ∷ []) g.0 g.1, g.2, g.3)) (λ v g. elim (Contains-push_cases read m g.0 g.1) [
        | inl old ↦ (g.0, old, g.2, g.3)
        | inr same ↦ absurd (apart (ap (λ (x : Member). x.place) same ∙ g.2))
      ]) o h

  module _ (m : Member) (next : Carrier) (at : next.place ≡ m.place) (row : next.row.now ≡ atom_row db atom (names_by m)) where
    value : Some (cell next.row.now col) ≡ Some (gift m)
    value = ap (λ r. Some (cell r col)) row

    apart : (p : ℕ) → nat_eq next.place p ≡ false → m.place ≡ p → ⊥
    apart p t e = clash (nat_eq next.place p) (subst (λ q. nat_eq next.place q ≡ true) (at ∙ e) (eq_self next.place)) t

    pub carrying-first : (carriers : List Carrier) → carriers ≡ [] → IsCarrying (m ∷ []) carriers next
    carrying-first carriers none = subst (λ cs. IsCarrying (m ∷ []) cs next) (sym none) (record {
      ascend = tt;
      below = λ c k. absurd (mem-nil c k);
      best = λ p. go p (nat_eq next.place p) refl;
      of_members = λ c k. elim (mem-cases c next [] k) [ inl e ↦ (m, mem-head m [], sym at ∙ ap (λ (x : Carrier). x.place) e) | inr l ↦ absurd (mem-nil c l) ];
      up_to = λ o k. elim (mem-cases o m [] k) [ inl e ↦ (let f = ap (λ (x : Member). x.place) e in omega (arith, f, at)) | inr l ↦ absurd (mem-nil o l) ];
    })
      where
        go : (p : ℕ) (b : Bool) → nat_eq next.place p ≡ b → IsPeak way (GivesAt db atom col (m ∷ []) p) (cond b (Some (cell next.row.now col)) None)
        go p true t = subst (IsPeak way (GivesAt db atom col (m ∷ []) p)) (sym value) (one-gives [] m p (λ o k e. mem-nil o k) (sym at ∙ eq_of next.place p t))
        go p false t = same-gives [] m p None (apart p t) (λ v g. mem-nil g.0 g.1)

    module _ (read : List Member) (carriers : List Carrier) (held : Carrier) (h : IsCarrying read carriers held) where
      left : (c : ℕ) → (o : Member) × Contains read o × (o.place ≡ c) → (o : Member) × Contains (read ++ m ∷ []) o × (o.place ≡ c)
      left c (o, k, e) = (o, Contains-append_left read (m ∷ []) o k, e)

      -- of another row
      pub carrying-next : held.place < next.place → (new : List Carrier) → new ≡ carriers ++ held ∷ [] → IsCarrying (read ++ m ∷ []) new next
      carrying-next far new e = subst (λ cs. IsCarrying (read ++ m ∷ []) cs next) (sym e) (record {
        ascend = ascend-push 0 carriers held h.ascend (omega arith) h.below;
        below = before;
        best = λ p. go p (nat_eq next.place p) refl;
        of_members = λ c k. elim (Contains-push_cases (carriers ++ held ∷ []) next c k) [
          | inl old ↦ left c.place (h.of_members c old)
          | inr same ↦ (m, Contains-append_right read (m ∷ []) m (mem-head m []), sym at ∙ ap (λ (x : Carrier). x.place) same)
        ];
        up_to = λ o k. elim (Contains-push_cases read m o k) [
          | inl old ↦ (let l = h.up_to o old in omega (arith, l, far))
          | inr same ↦ (let f = ap (λ (x : Member). x.place) same in omega (arith, f, at))
        ];
      })
        where
          before : (c : Carrier) → Contains (carriers ++ held ∷ []) c → c.place < next.place
          before c k = elim (Contains-push_cases carriers held c k) [
            | inl old ↦ (let l = h.below c old in omega (arith, l, far))
            | inr same ↦ (let f = ap (λ (x : Carrier). x.place) same in omega (arith, f, far))
          ]

          go : (p : ℕ) (b : Bool) → nat_eq next.place p ≡ b → IsPeak way (GivesAt db atom col (read ++ m ∷ []) p) (carried_at col ((carriers ++ held ∷ []) ++ next ∷ []) p)
          go p true t =
              let here = eq_of next.place p t in
              subst (λ q. IsPeak way (GivesAt db atom col (read ++ m ∷ []) q) (carried_at col ((carriers ++ held ∷ []) ++ next ∷ []) q)) here
              (subst (IsPeak way (GivesAt db atom col (read ++ m ∷ []) next.place)) (sym (carried-last col (carriers ++ held ∷ []) next before ∙ value))
              (one-gives read m next.place (λ o k f. let l = h.up_to o k in absurd (omega (arith, l, f, far))) (sym at)))
          go p false t = subst (IsPeak way (GivesAt db atom col (read ++ m ∷ []) p)) (sym (carried-others col (carriers ++ held ∷ []) next p t)) (same-gives read m p (carried_at col (carriers ++ held ∷ []) p) (apart p t) (h.best p))

      -- of the same row
      pub carrying-more : held.place ≡ next.place → (new : Carrier) → new.place ≡ held.place → Some (cell new.row.now col) ≡ further way (Some (cell held.row.now col)) (Some (cell next.row.now col)) → IsCarrying (read ++ m ∷ []) carriers new
      carrying-more same new here is = record {
        ascend = h.ascend;
        below = before;
        best = λ p. go p (nat_eq held.place p) refl;
        of_members = λ c k. elim (Contains-push_cases carriers new c k) [
          | inl old ↦ left c.place (h.of_members c (Contains-append_left carriers (held ∷ []) c old))
          | inr e ↦ left c.place (let o = h.of_members held (Contains-append_right carriers (held ∷ []) held (mem-head held [])) in (o.0, o.1, o.2 ∙ (sym here ∙ ap (λ (x : Carrier). x.place) e)))
        ];
        up_to = λ o k. elim (Contains-push_cases read m o k) [
          | inl old ↦ (let l = h.up_to o old in omega (arith, l, here))
          | inr e ↦ (let f = ap (λ (x : Member). x.place) e in omega (arith, f, at, same, here))
        ];
      }
        where
          before : (c : Carrier) → Contains carriers c → c.place < new.place
          before c k = let l = h.below c k in omega (arith, l, here)

          go : (p : ℕ) (b : Bool) → nat_eq held.place p ≡ b → IsPeak way (GivesAt db atom col (read ++ m ∷ []) p) (carried_at col (carriers ++ new ∷ []) p)
          go p true t =
              let place = eq_of held.place p t in
              let old = subst (λ q. IsPeak way (GivesAt db atom col read held.place) q) (carried-last col carriers held h.below) (h.best held.place) in
              subst (λ q. IsPeak way (GivesAt db atom col (read ++ m ∷ []) q) (carried_at col (carriers ++ new ∷ []) q)) (here ∙ place)
              (subst (IsPeak way (GivesAt db atom col (read ++ m ∷ []) new.place)) (sym (carried-last col carriers new before ∙ (is ∙ ap (further way (Some (cell held.row.now col))) value)))
              (subst (λ q. IsPeak way (GivesAt db atom col (read ++ m ∷ []) q) (further way (Some (cell held.row.now col)) (Some (gift m)))) (sym here)
              (peak-either way (GivesAt db atom col read held.place) (λ v. gift m ≡ v) (GivesAt db atom col (read ++ m ∷ []) held.place)
              (λ v g. (g.0, Contains-append_left read (m ∷ []) g.0 g.1, g.2, g.3))
              (λ v e. (m, Contains-append_right read (m ∷ []) m (mem-head m []), sym at ∙ sym same, e))
              (λ v g. elim (Contains-push_cases read m g.0 g.1) [ inl k ↦ inl (g.0, k, g.2, g.3) | inr e ↦ inr (ap gift e ∙ g.3) ])
              (Some (cell held.row.now col)) (Some (gift m)) old (peak-one way (gift m)))))
          go p false t =
              let turn : nat_eq new.place p ≡ false = subst (λ q. nat_eq q p ≡ false) (sym here) t in
              let off : m.place ≡ p → ⊥ = λ e. clash (nat_eq held.place p) (subst (λ q. nat_eq held.place q ≡ true) (same ∙ (at ∙ e)) (eq_self held.place)) t in
              subst (IsPeak way (GivesAt db atom col (read ++ m ∷ []) p)) (carried-others col carriers held p t ∙ sym (carried-others col carriers new p turn)) (same-gives read m p (carried_at col (carriers ++ held ∷ []) p) off (h.best p))

  pub carrying-done : (read : List Member) (carriers : List Carrier) (held : Carrier) → IsCarrying read carriers held → (new : List Carrier) → new ≡ carriers ++ held ∷ [] → AreFurthestCarriers way db atom col read new
  carrying-done read carriers held h new e = subst (AreFurthestCarriers way db atom col read) (sym e) (record {
    ascend = ascend-push 0 carriers held h.ascend (omega arith) h.below;
    best = h.best;
    of_members = h.of_members;
  })

-- ---- members in the order of their places

pub next-member : (first : Member) (others members : List Member) → members ≡ first ∷ others → (i : ℕ) → i < length others → (m : Member) → m ≡ get_or others i m →
    (take (i + 1 + 1) members ≡ take (i + 1) members ++ m ∷ []) × Contains members m × (AreByPlaces members → (o : Member) → Contains (take (i + 1) members) o → o.place ≤ m.place)
next-member first others members e i l m is = (
  take_more members (i + 1) m long ∙ ap (λ (x : Member). take (i + 1) members ++ x ∷ []) at,
  subst (Contains members) at (Contains-get_or members (i + 1) m long),
  λ h o k. places-far (take (i + 1) members) m (drop (i + 1 + 1) members) (subst AreByPlaces split h) o k,
)
  where
    long : i + 1 < length members
    long = let k = ap (λ (ms : List Member). length ms) e in omega (arith, k, l)

    at : get_or members (i + 1) m ≡ m
    at =
        let k : i + 1 ≡ suc i = omega arith in
        ap (λ (ms : List Member). get_or ms (i + 1) m) e ∙ (ap (λ j. get_or (first ∷ others) j m) k ∙ sym is)

    split : members ≡ take (i + 1) members ++ m ∷ drop (i + 1 + 1) members
    split = sym (take-append-drop (i + 1) members) ∙ ap (λ ys. take (i + 1) members ++ ys) (drop_more members (i + 1) m long ∙ ap (λ (x : Member). x ∷ drop (i + 1 + 1) members) at)
