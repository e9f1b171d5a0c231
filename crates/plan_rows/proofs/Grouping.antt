-- An order parted in two, of which no atom is linked to one of the other part, holds where both parts do.
use Rattle.std.proofs.Common.{◌≡◌, ℕ, zero, suc, ◌+◌, ◌<◌, ◌≤◌, ◌⊎◌, ◌↔◌, inl, inr, List, [], ◌∷◌, ◌++◌, get_or, take, drop, length-append, refl, sym, ap, ◌∙◌, subst, arith, Contains, append_assoc, Bool, true, false, ◌==◌, nat_eq, length}
use Rattle.std.proofs.Math.Seq.{take-suc, get_or-append_seam, drop-append-add}
use Rattle.std.proofs.lemmas.List.{append-nil}
use Rattle.std.proofs.lemmas.List.Elements.{Contains-append_left, Contains-append_right, Contains-append_cases}
use Rattle.std.proofs.lemmas.Bool.{false≢true, eqb-true}
use Rattle.std.proofs.lemmas.Map.Views.{Contains-from_any}
use Rattle.std.specs.List.{list_any}
use Rattle.cqa_value.specs.declared.value.Value.{Value}
use Rattle.cqa_model.specs.Database.{Table}
use Rattle.cqa_model.specs.declared.query.Query.{Query}
use Rattle.cqa_model.specs.Query.{atom_key}
use Rattle.cqa_model.specs.Plan.{Placed, PlanHolds}
use Rattle.cqa_model.proofs.Classic.{mem-head, mem-tail, mem-nil, mem-cases}
use Rattle.cqa_model.proofs.Repairs.{shares-self}
use Rattle.cqa_model.proofs.Views.{linked-sym}
use Rattle.key_closure.specs.declared.atom_set.AtomSet.{AtomSet}
use Rattle.key_closure.specs.Sets.{HasAtom}
use Rattle.plan_rows.specs.Links.{AreWays, atoms_on, links_at}
use Rattle.plan_rows.specs.declared.links.Link.{Link}
use Rattle.plan_rows.specs.Grouping.{AreUnlinked, AreSeparate, IsClosed, IsMerge, IsGroupParted, IsAtomSplit, AreAlikeOrders, GoesOnAlike, IsRegrouped}
use Rattle.plan_rows.proofs.Sharing.{same-plan, same-less, same-more}

unlinked-sym : (q : Query) (F G : ℕ) → AreUnlinked q F G → AreUnlinked q G F
unlinked-sym q F G u i j li lj l = u j i lj li (linked-sym q (record { atom = G; col = i }) (record { atom = F; col = j }) l)

module _ (q : Query) (tables : List (List (List Value))) (row : List Value) where
  -- a row taken of an atom that none of a plan is linked to changes nothing of the plan
  module _ (F : ℕ) (y : List Value) (taken : List Placed) (plan : List ℕ) (off : (G : ℕ) → Contains plan G → AreUnlinked q G F) where
    without-row : PlanHolds q tables row (record { atom = F; row = y } ∷ taken) plan ↔ PlanHolds q tables row taken plan
    without-row = (
      same-plan q tables row (record { atom = F; row = y } ∷ taken) taken plan (same-less q plan taken (record { atom = F; row = y })),
      same-plan q tables row taken (record { atom = F; row = y } ∷ taken) plan (same-more q plan taken (record { atom = F; row = y }) (λ G m x i li j lj l. absurd (off G m i j li lj l))),
    )

  -- so an atom that is first in one part is asked for this part alone
  first-of-part : (F : ℕ) (plan rest others : List ℕ) (taken : List Placed) → ((G : ℕ) → Contains others G → AreUnlinked q G F) →
      ((y : List Value) → PlanHolds q tables row (record { atom = F; row = y } ∷ taken) plan ↔ (PlanHolds q tables row (record { atom = F; row = y } ∷ taken) rest × PlanHolds q tables row (record { atom = F; row = y } ∷ taken) others)) →
      PlanHolds q tables row taken (F ∷ plan) ↔ (PlanHolds q tables row taken (F ∷ rest) × PlanHolds q tables row taken others)
  first-of-part F plan rest others taken off both = (
    (λ (x, m, all). (
      (x, m, λ y n k. let r = all y n k in (r.0, ((both y).0 r.1).0)),
      (without-row F x taken others off).0 ((both x).0 (all x m (shares-self (atom_key q F) x)).1).1,
    )),
    (λ ((x, m, all), h). (x, m, λ y n k. let r = all y n k in (r.0, (both y).1 (r.1, (without-row F y taken others off).1 h)))),
  )

  pub merged : (part others order : List ℕ) (taken : List Placed) → IsMerge part others order → AreSeparate q part others → PlanHolds q tables row taken order ↔ (PlanHolds q tables row taken part × PlanHolds q tables row taken others)
  merged part others [] taken m off = ((λ h. (subst (PlanHolds q tables row taken) (sym m.0) tt, subst (PlanHolds q tables row taken) (sym m.1) tt)), (λ h. tt))
  merged part others (F ∷ order) taken (inl (rest, e, m)) off =
      subst (λ p. PlanHolds q tables row taken (F ∷ order) ↔ (PlanHolds q tables row taken p × PlanHolds q tables row taken others)) (sym e)
      (first-of-part F order rest others taken (λ G n. unlinked-sym q F G (off F G (subst (λ p. Contains p F) (sym e) (mem-head F rest)) n))
      (λ y. merged rest others order (record { atom = F; row = y } ∷ taken) m (λ H G n k. off H G (subst (λ p. Contains p H) (sym e) (mem-tail H F rest n)) k)))
  merged part others (F ∷ order) taken (inr (rest, e, m)) off =
      subst (λ p. PlanHolds q tables row taken (F ∷ order) ↔ (PlanHolds q tables row taken part × PlanHolds q tables row taken p)) (sym e)
      (let r = first-of-part F order rest part taken (λ G n. off G F n (subst (λ p. Contains p F) (sym e) (mem-head F rest)))
      (λ y. let h = merged part rest order (record { atom = F; row = y } ∷ taken) m (λ H G n k. off H G n (subst (λ p. Contains p G) (sym e) (mem-tail G F rest k))) in ((λ p. let s = h.0 p in (s.1, s.0)), (λ s. h.1 (s.1, s.0)))) in
      ((λ p. let s = r.0 p in (s.1, s.0)), (λ s. r.1 (s.1, s.0))))

  -- what is alike stays so behind others
  pub behind : (front order other : List ℕ) → ((taken : List Placed) → PlanHolds q tables row taken order ↔ PlanHolds q tables row taken other) → (taken : List Placed) →
      PlanHolds q tables row taken (front ++ order) ↔ PlanHolds q tables row taken (front ++ other)
  behind [] order other h taken = h taken
  behind (F ∷ front) order other h taken = (
    (λ (x, m, all). (x, m, λ y n k. let r = all y n k in (r.0, (behind front order other h (record { atom = F; row = y } ∷ taken)).0 r.1))),
    (λ (x, m, all). (x, m, λ y n k. let r = all y n k in (r.0, (behind front order other h (record { atom = F; row = y } ∷ taken)).1 r.1))),
  )

-- the parts one after the other are parted alike
merge-right : (others : List ℕ) → IsMerge [] others others
merge-right [] = (refl, refl)
merge-right (F ∷ others) = inr (others, refl, merge-right others)

merge-append : (part others : List ℕ) → IsMerge part others (part ++ others)
merge-append [] others = merge-right others
merge-append (F ∷ part) others = inl (part, refl, merge-append part others)

-- with an atom more, of one part or the other
pub merge-left-more : (part others order : List ℕ) (F : ℕ) → IsMerge part others order → IsMerge (part ++ F ∷ []) others (order ++ F ∷ [])
merge-left-more part others [] F m = inl ([], ap (λ p. p ++ F ∷ []) m.0, (refl, m.1))
merge-left-more part others (G ∷ order) F (inl (rest, e, m)) = inl (rest ++ F ∷ [], ap (λ p. p ++ F ∷ []) e, merge-left-more rest others order F m)
merge-left-more part others (G ∷ order) F (inr (rest, e, m)) = inr (rest, e, merge-left-more part rest order F m)

pub merge-right-more : (part others order : List ℕ) (F : ℕ) → IsMerge part others order → IsMerge part (others ++ F ∷ []) (order ++ F ∷ [])
merge-right-more part others [] F m = inr ([], ap (λ p. p ++ F ∷ []) m.1, (m.0, refl))
merge-right-more part others (G ∷ order) F (inl (rest, e, m)) = inl (rest, e, merge-right-more rest others order F m)
merge-right-more part others (G ∷ order) F (inr (rest, e, m)) = inr (rest ++ F ∷ [], ap (λ p. p ++ F ∷ []) e, merge-right-more part rest order F m)

-- the members are those of the parts
pub merge-members : (part others order : List ℕ) (F : ℕ) → IsMerge part others order → Contains order F ↔ (Contains part F ⊎ Contains others F)
merge-members part others [] F m = (
  (λ n. absurd (mem-nil F n)),
  (λ s. elim s [ inl n ↦ subst (λ p. Contains p F) m.0 n | inr n ↦ subst (λ p. Contains p F) m.1 n ]),
)
merge-members part others (G ∷ order) F (inl (rest, e, m)) =
    let h = merge-members rest others order F m in (
      (λ n. elim (mem-cases F G order n) [
        | inl g ↦ inl (subst (λ p. Contains p F) (sym e) (subst (Contains (G ∷ rest)) g (mem-head G rest)))
        | inr k ↦ elim (h.0 k) [ inl a ↦ inl (subst (λ p. Contains p F) (sym e) (mem-tail F G rest a)) | inr b ↦ inr b ]
      ]),
      (λ s. elim s [
        | inl n ↦ elim (mem-cases F G rest (subst (λ p. Contains p F) e n)) [ inl g ↦ subst (Contains (G ∷ order)) g (mem-head G order) | inr a ↦ mem-tail F G order (h.1 (inl a)) ]
        | inr b ↦ mem-tail F G order (h.1 (inr b))
      ]),
    )
merge-members part others (G ∷ order) F (inr (rest, e, m)) =
    let h = merge-members part rest order F m in (
      (λ n. elim (mem-cases F G order n) [
        | inl g ↦ inr (subst (λ p. Contains p F) (sym e) (subst (Contains (G ∷ rest)) g (mem-head G rest)))
        | inr k ↦ elim (h.0 k) [ inl a ↦ inl a | inr b ↦ inr (subst (λ p. Contains p F) (sym e) (mem-tail F G rest b)) ]
      ]),
      (λ s. elim s [
        | inl a ↦ mem-tail F G order (h.1 (inl a))
        | inr n ↦ elim (mem-cases F G rest (subst (λ p. Contains p F) e n)) [ inl g ↦ subst (Contains (G ∷ order)) g (mem-head G order) | inr b ↦ mem-tail F G order (h.1 (inr b)) ]
      ]),
    )

-- the two parts one after the other are like the order
pub alike-parts : (q : Query) (part others order : List ℕ) → IsMerge part others order → AreSeparate q part others → AreAlikeOrders q order (part ++ others)
alike-parts q part others order m off = record {
  atoms = λ F. (
    (λ n. elim ((merge-members part others order F m).0 n) [ inl a ↦ Contains-append_left part others F a | inr b ↦ Contains-append_right part others F b ]),
    (λ n. (merge-members part others order F m).1 (Contains-append_cases part others F n)),
  );
  holds = λ tables row taken.
      let a = merged q tables row part others order taken m off in
      let b = merged q tables row part others (part ++ others) taken (merge-append part others) off in ((λ h. b.1 (a.0 h)), (λ h. a.1 (b.0 h)));
}

pub alike-same : (q : Query) (order : List ℕ) → AreAlikeOrders q order order
alike-same q order = record { atoms = λ F. ((λ n. n), (λ n. n)); holds = λ tables row taken. ((λ h. h), (λ h. h)) }

-- so it is behind atoms to which an order was brought
pub alike-on : (q : Query) (order front left part others : List ℕ) → AreAlikeOrders q order (front ++ left) → IsMerge part others left → AreSeparate q part others → AreAlikeOrders q order ((front ++ part) ++ others)
alike-on q order front left part others h m off =
    subst (AreAlikeOrders q order) (sym (append_assoc front part others)) (record {
      atoms = λ F. (
        (λ n. elim (Contains-append_cases front left F ((h.atoms F).0 n)) [ inl a ↦ Contains-append_left front (part ++ others) F a | inr b ↦ Contains-append_right front (part ++ others) F (((alike-parts q part others left m off).atoms F).0 b) ]),
        (λ n. (h.atoms F).1 (elim (Contains-append_cases front (part ++ others) F n) [ inl a ↦ Contains-append_left front left F a | inr b ↦ Contains-append_right front left F (((alike-parts q part others left m off).atoms F).1 b) ])),
      );
      holds = λ tables row taken.
          let a = h.holds tables row taken in
          let b = behind q tables row front left (part ++ others) (λ t. (alike-parts q part others left m off).holds tables row t) taken in ((λ x. b.0 (a.0 x)), (λ x. a.1 (b.1 x)));
    })

take-whole : {A : Type 0} (xs : List A) (n : ℕ) → length xs ≤ n → take n xs ≡ xs
take-whole [] zero l = refl
take-whole [] (suc n) l = refl
take-whole (x ∷ xs) zero l = absurd (omega (arith, l))
take-whole (x ∷ xs) (suc n) l = ap (λ z. x ∷ z) (take-whole xs n (omega (arith, l)))

take-next : (xs : List ℕ) (at : ℕ) → at < length xs → take (at + 1) xs ≡ take at xs ++ get_or xs at 0 ∷ []
take-next xs at l = ap (λ n. take n xs) (let e : at + 1 ≡ suc at = omega arith in e) ∙ take-suc xs at 0 l

-- none of the atoms is parted yet
pub parted-none : (group : AtomSet) (atoms old others : List ℕ) → others ≡ [] → IsGroupParted group (take 0 atoms) old old others
parted-none group atoms old others e = record {
  part = [];
  grows = sym (append-nil old);
  merge = subst (IsMerge [] others) (sym (take-none atoms)) (refl, e);
  inside = λ F m. absurd (mem-nil F m);
  outside = λ F m. absurd (mem-nil F (subst (λ p. Contains p F) e m));
}
  where
    take-none : (xs : List ℕ) → take 0 xs ≡ []
    take-none [] = refl
    take-none (x ∷ xs) = refl

-- an atom of the group more, or one outside
pub parted-left : (group : AtomSet) (atoms old new others next : List ℕ) (at : ℕ) → at < length atoms → IsGroupParted group (take at atoms) old new others → HasAtom group (get_or atoms at 0) → next ≡ new ++ get_or atoms at 0 ∷ [] → IsGroupParted group (take (at + 1) atoms) old next others
parted-left group atoms old new others next at l h has e = record {
  part = h.part ++ get_or atoms at 0 ∷ [];
  grows = e ∙ (ap (λ z. z ++ get_or atoms at 0 ∷ []) h.grows ∙ append_assoc old h.part (get_or atoms at 0 ∷ []));
  merge = subst (IsMerge (h.part ++ get_or atoms at 0 ∷ []) others) (sym (take-next atoms at l)) (merge-left-more h.part others (take at atoms) (get_or atoms at 0) h.merge);
  inside = λ F m. elim (Contains-append_cases h.part (get_or atoms at 0 ∷ []) F m) [
    | inl n ↦ h.inside F n
    | inr n ↦ elim (mem-cases F (get_or atoms at 0) [] n) [ inl same ↦ subst (HasAtom group) same has | inr k ↦ absurd (mem-nil F k) ]
  ];
  outside = h.outside;
}

pub parted-right : (group : AtomSet) (atoms old new others next : List ℕ) (at : ℕ) → at < length atoms → IsGroupParted group (take at atoms) old new others → (HasAtom group (get_or atoms at 0) → ⊥) → next ≡ others ++ get_or atoms at 0 ∷ [] → IsGroupParted group (take (at + 1) atoms) old new next
parted-right group atoms old new others next at l h off e = record {
  part = h.part;
  grows = h.grows;
  merge = subst (λ z. IsMerge h.part z (take (at + 1) atoms)) (sym e) (subst (IsMerge h.part (others ++ get_or atoms at 0 ∷ [])) (sym (take-next atoms at l)) (merge-right-more h.part others (take at atoms) (get_or atoms at 0) h.merge));
  inside = h.inside;
  outside = λ F m. elim (Contains-append_cases others (get_or atoms at 0 ∷ []) F (subst (λ p. Contains p F) e m)) [
    | inl n ↦ h.outside F n
    | inr n ↦ elim (mem-cases F (get_or atoms at 0) [] n) [ inl same ↦ (λ has. off (subst (HasAtom group) (sym same) has)) | inr k ↦ absurd (mem-nil F k) ]
  ];
}

pub parted-all : (group : AtomSet) (atoms old new others : List ℕ) (at : ℕ) → length atoms ≤ at → IsGroupParted group (take at atoms) old new others → IsGroupParted group atoms old new others
parted-all group atoms old new others at l h = subst (λ z. IsGroupParted group z old new others) (take-whole atoms at l) h

-- where a closed group parts atoms, they are not linked
pub closed-parts : (q : Query) (group : AtomSet) (atoms part others : List ℕ) → IsClosed q group atoms → ((F : ℕ) → Contains atoms F → F < length q.atoms) → IsMerge part others atoms → ((F : ℕ) → Contains part F → HasAtom group F) →
    ((F : ℕ) → Contains others F → HasAtom group F → ⊥) → AreSeparate q part others
closed-parts q group atoms part others closed there m inside outside F G mF mG =
    closed F G (there F ((merge-members part others atoms F m).1 (inl mF))) (inside F mF) ((merge-members part others atoms G m).1 (inr mG)) (outside G mG)

pub split-of : (q : Query) (group : AtomSet) (atoms old new others : List ℕ) → IsClosed q group atoms → ((F : ℕ) → Contains atoms F → F < length q.atoms) → IsGroupParted group atoms old new others → IsAtomSplit q atoms old new others
split-of q group atoms old new others closed there h = record {
  part = h.part;
  grows = h.grows;
  merge = h.merge;
  apart = closed-parts q group atoms h.part others closed there h.merge h.inside h.outside;
}

-- some atoms were added to an order, and others are left
pub record IsGrouping (q : Query) (atoms old new left : List ℕ) : Type 0 where
  pub done : List ℕ
  pub grows : new ≡ old ++ done
  pub alike : AreAlikeOrders q atoms (done ++ left)

pub grouping-starts : (q : Query) (atoms old left : List ℕ) → left ≡ atoms → IsGrouping q atoms old old left
grouping-starts q atoms old left e = record { done = []; grows = sym (append-nil old); alike = subst (AreAlikeOrders q atoms) (sym e) (alike-same q atoms) }

pub grouping-on : (q : Query) (atoms old new left next others : List ℕ) → IsGrouping q atoms old new left → IsAtomSplit q left new next others → IsGrouping q atoms old next others
grouping-on q atoms old new left next others h s = record {
  done = h.done ++ s.part;
  grows = s.grows ∙ (ap (λ z. z ++ s.part) h.grows ∙ append_assoc old h.done s.part);
  alike = alike-on q atoms h.done left s.part others h.alike s.merge s.apart;
}

-- those that are left are of the atoms
pub grouping-left : (q : Query) (atoms old new left : List ℕ) → IsGrouping q atoms old new left → ((F : ℕ) → Contains atoms F → F < length q.atoms) → (F : ℕ) → Contains left F → F < length q.atoms
grouping-left q atoms old new left h there F m = there F ((h.alike.atoms F).1 (Contains-append_right h.done left F m))

-- all were added
pub grouping-ends : (q : Query) (atoms old new left last : List ℕ) → IsGrouping q atoms old new left → last ≡ new ++ left → GoesOnAlike q atoms old last
grouping-ends q atoms old new left last h e = (h.done ++ left, e ∙ (ap (λ z. z ++ left) h.grows ∙ append_assoc old h.done left), h.alike)

pub grouping-ended : (q : Query) (atoms old new left : List ℕ) → IsGrouping q atoms old new left → left ≡ [] → GoesOnAlike q atoms old new
grouping-ended q atoms old new left h e = grouping-ends q atoms old new left new h (sym (append-nil new) ∙ ap (λ z. new ++ z) (sym e))

-- the members of a list of links
pub among-atoms : (links : List Link) (atoms : List ℕ) → ((l : Link) → Contains links l → Contains atoms l.atom) → (G : ℕ) → Contains (atoms_on links) G → Contains atoms G
among-atoms [] atoms h G m = absurd (mem-nil G m)
among-atoms (l ∷ links) atoms h G m = elim (mem-cases G l.atom (atoms_on links) m) [
  | inl e ↦ subst (Contains atoms) e (h l (mem-head l links))
  | inr n ↦ among-atoms links atoms (λ k i. h k (mem-tail k l links i)) G n
]

-- what is so of the atom at each place and those behind it is so wherever an order is parted
pub behind-at : (order front rest : List ℕ) (F : ℕ) → order ≡ front ++ F ∷ rest → (P : ℕ → List ℕ → Type 0) → ((k : ℕ) → k < length order → P (get_or order k 0) (drop (k + 1) order)) → P F rest
behind-at order front rest F e P h =
    let there : length front < length order = let l = ap length e in let n = length-append front (F ∷ rest) in omega (arith, l, n) in
    let first : get_or order (length front) 0 ≡ F = ap (λ z. get_or z (length front) 0) e ∙ get_or-append_seam front F rest 0 in
    let later : drop (length front + 1) order ≡ rest = ap (drop (length front + 1)) e ∙ drop-append-add front (F ∷ rest) 1 in
    subst (λ H. P H rest) first (subst (P (get_or order (length front) 0)) later (h (length front) there))

no-atoms : (atoms : List ℕ) → length atoms ≡ 0 → atoms ≡ []
no-atoms [] e = refl
no-atoms (F ∷ atoms) e = absurd (omega (arith, e))

pub empty-atoms : (atoms : List ℕ) (b : Bool) → b ≡ (length atoms == 0) → b ≡ true → atoms ≡ []
empty-atoms atoms b e t = no-atoms atoms (eqb-true (length atoms) 0 (sym e ∙ t))

pub some-atoms : (atoms : List ℕ) (b : Bool) → b ≡ (length atoms == 0) → b ≡ false → 0 < length atoms
some-atoms [] b e f = absurd (false≢true (sym f ∙ e))
some-atoms (F ∷ atoms) b e f = omega arith

-- the value that a test finds in a list is of it
pub member-found : (atoms : List ℕ) (F : ℕ) → list_any (λ G. nat_eq G F) atoms ≡ true → Contains atoms F
member-found atoms F e = Contains-from_any {eq = λ G H. nat_eq H G} (λ G H same. sym (eqb-true H G same)) F atoms e

-- what is behind the first atom of an order is put in groups
pub regrouped : (q : Query) (order other : List ℕ) (F : ℕ) (rest : List ℕ) → order ≡ F ∷ rest → GoesOnAlike q rest (F ∷ []) other → IsRegrouped q order other
regrouped q order other F rest e (more, is, alike) = subst (λ o. IsRegrouped q o other) (sym e) (more, is, alike)

pub regrouped-none : (q : Query) (order : List ℕ) → length order ≡ 0 → IsRegrouped q order []
regrouped-none q order e = subst (λ o. IsRegrouped q o []) (sym (no-atoms order e)) refl

-- links that are behind their atoms are behind them in another order
pub ways-in : (q : Query) (db : List Table) (order other : List ℕ) (ways : List (List Link)) → AreWays q db order ways →
    ((front rest : List ℕ) (F : ℕ) → other ≡ front ++ F ∷ rest → (G : ℕ) → Contains (atoms_on (links_at ways F)) G → Contains rest G) → AreWays q db other ways
ways-in q db order other ways are behind = record { links = are.links; behind = behind }
