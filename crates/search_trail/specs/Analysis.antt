-- What is learnt from a conflict: the first unique implication point (Marques-Silva and Sakallah, 1996; Moskewicz and others, 2001).
use Rattle.search_trail.specs.Trail.{At, held, EndIs}
use Rattle.std.specs.Prelude.{◌≡◌, ◌≢◌, ◌<◌, ◌≤◌, ◌+◌, ℕ, Bool, ℤ, pos, ◌⊎◌, List, [], ◌∷◌, ◌++◌, Some, None, length, map, Contains, take}
use Rattle.cnf_form.specs.declared.formula.Lit.{Lit}
use Rattle.cnf_form.specs.Literals.{Denied, AllDenied, OthersDenied, IsUnit, opposite}
use Rattle.cnf_form.specs.Spent.{NoVarTwice}
use Rattle.search_trail.specs.declared.trail.Entry.{Entry}
use Rattle.search_trail.specs.declared.analysis.SeenMarks.{SeenMarks}
use Rattle.search_trail.specs.Marks.{IsVarSeen, AllMet}

-- the variable of each literal is marked
abbrev pub AllSeen : List Bool → List Lit → Type 0
AllSeen seen c = (m : Lit) → Contains c m → IsVarSeen seen m.var

-- no literal from the one place up to the other is marked
abbrev pub NoneSeen : List Lit → ℕ → ℕ → List Bool → Type 0
NoneSeen t start end seen = (p : ℕ) (l : Lit) → start ≤ p → p < end → At t p l → IsVarSeen seen l.var → ⊥

-- at most so many literals from the one place up to the other are marked
pub record AtMostSeen (t : List Lit) (start end : ℕ) (seen : List Bool) (count : ℕ) : Type 0 where
  pub places : List ℕ
  pub few : length places ≤ count
  pub all : (p : ℕ) (l : Lit) → start ≤ p → p < end → At t p l → IsVarSeen seen l.var → Contains places p

-- the marks of an analysis over so many variables: all that are made are among those met, and no more are left than were met
pub record AreMarks (n : ℕ) (m : SeenMarks) : Type 0 where
  pub room : length m.seen.items ≡ n
  pub met : AllMet m.seen.items m.met.items
  pub few : m.left ≤ length m.met.items

-- marks are only added
pub record Grow (seen seen' : List Bool) : Type 0 where
  pub same : length seen' ≡ length seen
  pub more : (v : ℕ) → IsVarSeen seen v → IsVarSeen seen' v

-- the entry's literal was forced by a clause, whose other literals were denied before it
pub record IsForcedBy (db : List (List Lit)) (t : List Lit) (p : ℕ) (e : Entry) : Type 0 where
  pub reason : ℕ
  pub clause : List Lit
  pub is : e.reason ≡ Some reason
  pub there : At db reason clause
  pub inside : Contains clause e.lit
  pub others : OthersDenied (take p t) clause e.lit

-- the entry at the place names a reason, so it is no decision
abbrev pub IsForcedAt : List Entry → ℕ → Type 0
IsForcedAt trail p = (e : Entry) → At trail p e → e.reason ≢ None

-- the entry at the place names this one
abbrev pub IsReasonAt : List Entry → ℕ → ℕ → Type 0
IsReasonAt trail p r = (e : Entry) → At trail p e → e.reason ≡ Some r

-- those from the place on name reasons
abbrev pub AreForcedFrom : List Entry → ℕ → Type 0
AreForcedFrom trail from = (p : ℕ) → from ≤ p → IsForcedAt trail p

-- an entry that names a reason was forced by it
abbrev pub AreReasons : List (List Lit) → List Entry → Type 0
AreReasons db trail = (p : ℕ) (e : Entry) (r : ℕ) → At trail p e → e.reason ≡ Some r → IsForcedBy db (held trail) p e

-- the clause with this number has only literals whose opposites are held
abbrev pub IsFalse : List Lit → List (List Lit) → ℕ → Type 0
IsFalse t db k = (c : List Lit) → At db k c → AllDenied t c

-- Hints that name clauses by their places, from 1: each clause but the last leaves one literal, which is held from then
-- on, and the last leaves none.
abbrev pub ChainPasses : List (List Lit) → List Lit → List ℤ → Type 0
ChainPasses db have' [] = ⊥
ChainPasses db have' (hint ∷ hints) =
    (i : ℕ) × (hint ≡ pos (i + 1)) × (c : List Lit) × At db i c × (AllDenied have' c ⊎ ((l : Lit) × IsUnit have' c l × ChainPasses db (l ∷ have') hints))

-- the clause that is learnt: one literal of the conflict's level, and the others denied before it
pub record IsLearntClause (db : List (List Lit)) (t : List Lit) (start : ℕ) (lits : List Lit) (hints : List ℤ) (asserted : Lit) (end : ℕ) : Type 0 where
  pub place : ℕ
  pub uip : Lit
  pub lower : List Lit
  pub asserts : asserted ≡ opposite uip
  pub ends : EndIs t lower end
  pub shape : lits ≡ lower ++ opposite uip ∷ []
  pub there : At t place uip
  pub after : start ≤ place
  pub below : (m : Lit) → Contains lower m → Denied (take start t) m
  pub once : NoVarTwice lits
  pub passes : ChainPasses db (map opposite lits) hints

-- With literals of the trail that deny the kept ones and hold each marked one before `place`, the hints pass.
pub record Works (db : List (List Lit)) (t : List Lit) (seen : List Bool) (lits : List Lit) (place : ℕ) (hints : List ℤ) : Type 0 where
  pub chain : (have' : List Lit) → ((l : Lit) → Contains have' l → Contains t l) → ((m : Lit) → Contains lits m → Denied have' m)
      → ((p : ℕ) (l : Lit) → p < place → At t p l → IsVarSeen seen l.var → Contains have' l) → ChainPasses db have' hints

-- denied literals of the trail, kept on a walk from the one place down to the other
pub record AreKeptLiterals (t : List Lit) (start place : ℕ) (lits : List Lit) : Type 0 where
  pub from : (m : Lit) → Contains lits m → (p : ℕ) × (place ≤ p) × (p < start) × At t p (opposite m)
  pub once : NoVarTwice lits
