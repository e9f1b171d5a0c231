-- How marks are counted.
use Rattle.std.proofs.Common.{◌≡◌, ℕ, zero, suc, ◌<◌, ◌≤◌, ◌+◌, ◌-◌, Bool, true, false, List, [], ◌∷◌, ◌++◌, ◌⊎◌, inl, inr, refl, sym, ◌∙◌, subst, arith, length, get_or, set, drop, ◌≢◌, Option, Some, None}
use Rattle.std.specs.Prelude.{Contains}
use Rattle.std.proofs.lemmas.List.{length-drop, length-set}
use Rattle.std.proofs.lemmas.List.Elements.{Contains-append_left, Contains-push}
use Rattle.std.proofs.lemmas.Option.{same_Some}
use Rattle.cqa_value.proofs.Words.{mem-tail, mem-cases, mem-head}
use Rattle.cnf_form.specs.declared.formula.Lit.{Lit}
use Rattle.search_trail.specs.Trail.{At, AreTrailPlaces}
use Rattle.search_trail.specs.Marks.{IsVarSeen, AllClear, AllMet}
use Rattle.search_trail.specs.Analysis.{AtMostSeen, Grow, NoneSeen}
use Rattle.search_trail.proofs.Works.{seen_cases, seen_more, At-same, At-get_or}

-- a list without one of its members
without : (ws : List ℕ) (p : ℕ) → Contains ws p → (vs : List ℕ) × (length vs + 1 ≡ length ws) × ((q : ℕ) → Contains ws q → (q ≡ p → ⊥) → Contains vs q)
without [] p i = absurd (omega (arith, i.1))
without (w ∷ ws) p i = elim (mem-cases p w ws i) [
  | inl e ↦ (
    ws,
    omega arith,
    λ q j n. elim (mem-cases q w ws j) [ inl f ↦ absurd (n (sym f ∙ e)) | inr r ↦ r ],
  )
  | inr r ↦
      let rest = without ws p r in (
        w ∷ rest.0,
        omega (arith, rest.1),
        λ q j n. elim (mem-cases q w ws j) [
          | inl f ↦ subst (λ (x : ℕ). Contains (w ∷ rest.0) x) f (mem-head w rest.0)
          | inr k ↦ mem-tail q w rest.0 (rest.2 q k n)
        ],
      )
]

-- a further variable is marked, which stands on the level
pub at_most_more : (t : List Lit) (places : List (Option ℕ)) (start end : ℕ) (seen : List Bool) (count v place : ℕ) → AreTrailPlaces t places
    → get_or places v None ≡ Some place → v < length seen → AtMostSeen t start end seen count → AtMostSeen t start end (set seen v true) (count + 1)
at_most_more t places start end seen count v place are is range m = record {
  places = place ∷ m.places;
  few = let f = m.few in omega (arith, f);
  all = λ p l g h a s. elim (seen_cases seen v l.var range s) [
    | inl e ↦
        let q : get_or places v None ≡ Some p = subst (λ (n : ℕ). get_or places n None ≡ Some p) e (are.every p l a) in
        subst (λ (n : ℕ). Contains (place ∷ m.places) n) (same_Some place p (sym is ∙ q)) (mem-head place m.places)
    | inr r ↦ mem-tail p place m.places (m.all p l g h a r)
  ];
}

-- what was counted stays where the variable is open or stands below the level
pub at_most_same : (t : List Lit) (places : List (Option ℕ)) (start end : ℕ) (seen : List Bool) (count v : ℕ) → AreTrailPlaces t places
    → ((p : ℕ) → get_or places v None ≡ Some p → start ≤ p → ⊥) → v < length seen → AtMostSeen t start end seen count → AtMostSeen t start end (set seen v true) count
at_most_same t places start end seen count v are away range m = record {
  places = m.places;
  few = m.few;
  all = λ p l g h a s. elim (seen_cases seen v l.var range s) [
    | inl e ↦ absurd (away p (subst (λ (n : ℕ). get_or places n None ≡ Some p) e (are.every p l a)) g)
    | inr r ↦ m.all p l g h a r
  ];
}

pub grow_none : (seen : List Bool) → Grow seen seen
grow_none seen = record { same = refl; more = λ v s. s }

pub grow_one : (seen : List Bool) (v : ℕ) → v < length seen → Grow seen (set seen v true)
grow_one seen v range = record { same = length-set seen v true; more = λ w s. seen_more seen v w range s }

-- nothing is marked
pub at_most_none : (t : List Lit) (start end : ℕ) (seen : List Bool) (count : ℕ) → AllClear seen → AtMostSeen t start end seen count
at_most_none t start end seen count clear = record { places = []; few = omega arith; all = λ p l g h a s. absurd (clear l.var s) }

-- the walk goes past a literal
pub at_most_past : (t : List Lit) (start at : ℕ) (seen : List Bool) (count : ℕ) → AtMostSeen t start (at + 1) seen count → AtMostSeen t start at seen count
at_most_past t start at seen count m = record { places = m.places; few = m.few; all = λ p l g h a s. m.all p l g (omega (arith, h)) a s }

-- the walk comes to a literal that is marked
pub at_most_walked : (t : List Lit) (start at : ℕ) (seen : List Bool) (count : ℕ) (x : Lit) → start ≤ at → At t at x → IsVarSeen seen x.var
    → AtMostSeen t start (at + 1) seen count → (1 ≤ count) × AtMostSeen t start at seen (count - 1)
at_most_walked t start at seen count x after a s m =
    let w = without m.places at (m.all at x after (omega arith) a s) in
    let f = m.few in (
      omega (arith, w.1, f),
      record {
        places = w.0;
        few = omega (arith, w.1, f);
        all = λ p l g h b s. w.2 p (m.all p l g (omega (arith, h)) b s) (λ e. omega (arith, h, e));
      },
    )

pub last_seen : (t : List Lit) (start at : ℕ) (seen : List Bool) (count : ℕ) (x : Lit) → start ≤ at → At t at x → IsVarSeen seen x.var → count ≤ 1
    → AtMostSeen t start (at + 1) seen count → NoneSeen t start at seen
last_seen t start at seen count x after a s few m p l g h b q =
    let w = at_most_walked t start at seen count x after a s m in
    let i = w.1.all p l g h b q in
    let f = w.1.few in omega (arith, i.1, f, few)

pub met_push : (seen : List Bool) (met : List ℕ) (v : ℕ) → v < length seen → AllMet seen met → AllMet (set seen v true) (met ++ v ∷ [])
met_push seen met v range m w s = elim (seen_cases seen v w range s) [
  | inl e ↦ subst (λ (n : ℕ). Contains (met ++ v ∷ []) n) (sym e) (Contains-push met v)
  | inr r ↦ Contains-append_left met (v ∷ []) w (m w r)
]

-- what a mark that was read says
pub read_false : (seen : List Bool) (v : ℕ) (b : Bool) → b ≡ get_or seen v b → b ≡ false → get_or seen v false ≡ false
read_false seen v b e f = subst (λ (x : Bool). get_or seen v x ≡ false) f (sym e ∙ f)

pub read_true : (seen : List Bool) (v : ℕ) (b : Bool) → v < length seen → b ≡ get_or seen v b → b ≡ true → IsVarSeen seen v
read_true seen v b range e f = At-same seen v (get_or seen v false) true (At-get_or seen v false range) (range, subst (λ (x : Bool). get_or seen v x ≡ x) f (sym e))

drop_cases : (met : List ℕ) (i d w : ℕ) → i < length met → Contains (drop i met) w → (get_or met i d ≡ w) ⊎ Contains (drop (suc i) met) w
drop_cases [] i d w h j = absurd (omega arith)
drop_cases (m ∷ ms) zero d w h j = mem-cases w m ms j
drop_cases (m ∷ ms) (suc i) d w h j = drop_cases ms i d w (omega arith) j

-- the marks of a list's variables are cleared, one after the other
pub cleared_next : (seen seen' : List Bool) (met : List ℕ) (i d : ℕ) → i < length met → ((w : ℕ) → IsVarSeen seen' w → IsVarSeen seen w × (w ≢ get_or met i d))
    → AllMet seen (drop i met) → AllMet seen' (drop (i + 1) met)
cleared_next seen seen' met i d h clear m w s =
    let r = clear w s in
    elim (drop_cases met i d w h (m w r.0)) [
      | inl e ↦ absurd (r.1 (sym e))
      | inr j ↦ subst (λ (n : ℕ). Contains (drop n met) w) (let e : suc i ≡ i + 1 = omega arith in e) j
    ]

pub cleared_all : (seen : List Bool) (met : List ℕ) (i : ℕ) → length met ≤ i → AllMet seen (drop i met) → AllClear seen
cleared_all seen met i h m v s = let j = m v s in let l = length-drop i met in omega (arith, j.1, l, h)
