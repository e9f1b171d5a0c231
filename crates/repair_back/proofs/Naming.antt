-- The names of the rows whose flags are set, and what they are the names of.
use Rattle.std.proofs.Common.{◌≡◌, ℕ, zero, suc, ◌+◌, ◌<◌, ◌≤◌, inl, inr, Bool, true, false, cond, List, [], ◌∷◌, ◌++◌, length, get_or, take, map, flat_map, refl, ap, sym, ◌∙◌, subst, arith, Contains, le_of_suc-le-suc, Less}
use Rattle.std.proofs.lemmas.List.{take_more, flat_map_more, take_all}
use Rattle.std.specs.List.{AllByRecursion}
use Rattle.std.specs.List.Sorted.{IsStrictlySortedBy}
use Rattle.std.specs.Ordering.{nat_cmp}
use Rattle.cqa_value.specs.declared.value.Value.{Value}
use Rattle.cqa_value.proofs.Words.{nat_cmp_less}
use Rattle.cqa_model.specs.declared.query.Query.{Query}
use Rattle.cqa_model.specs.declared.query.Atom.{Atom}
use Rattle.cqa_model.specs.declared.query.RowId.{RowId}
use Rattle.cqa_model.specs.Database.{Table, stored}
use Rattle.cqa_model.specs.Query.{atom_at, rows_of, FitsDatabase}
use Rattle.cqa_model.proofs.Classic.{mem-head, mem-tail, mem-nil, mem-cases}
use Rattle.cqa_model.specs.Blocks.{IsPick}
use Rattle.repair_back.specs.Flags.{IsFlagged, kept_of, kept_tables, flags_at, tables_in, places_from, AreTablesOf, AreTableFlags}
use Rattle.repair_back.specs.Results.{names_kept, AreKept, AreKeptOver, IsRepairOf, IsRepairOver, ArePicks, AreTablePicks, IsTrueName}
use Rattle.table_blocks.specs.Tables.{AreStored, rows_at, rows_in, names_in}
use Rattle.repair_back.proofs.Keeping.{kept-table}
use Rattle.repair_back.proofs.Starting.{table-in}
use Rattle.std.proofs.lemmas.List.Elements.{Contains-append_cases}
use Rattle.repair_back.proofs.Choosing.{flag-there}

-- one flag more
places-more : (n : ℕ) (bs : List Bool) (b : Bool) → places_from n (bs ++ b ∷ []) ≡ places_from n bs ++ cond b ((n + length bs) ∷ []) []
places-more n [] true = ap (λ k. k ∷ []) (let e : n ≡ n + 0 = omega arith in e)
places-more n [] false = refl
places-more n (true ∷ bs) b = ap (λ ps. n ∷ ps) (places-more (suc n) bs b ∙ ap (λ k. places_from (suc n) bs ++ cond b (k ∷ []) []) (let e : suc n + length bs ≡ n + suc (length bs) = omega arith in e))
places-more n (false ∷ bs) b = places-more (suc n) bs b ∙ ap (λ k. places_from (suc n) bs ++ cond b (k ∷ []) []) (let e : suc n + length bs ≡ n + suc (length bs) = omega arith in e)

length-take_within : {A : Type 0} (i : ℕ) (xs : List A) → i < length xs → length (take i xs) ≡ i
length-take_within zero xs l = refl
length-take_within (suc i) [] l = absurd (omega arith)
length-take_within (suc i) (x ∷ xs) l = ap suc (length-take_within i xs (le_of_suc-le-suc l))

map-joined : (f : ℕ → RowId) (xs ys : List ℕ) → map f (xs ++ ys) ≡ map f xs ++ map f ys
map-joined f [] ys = refl
map-joined f (x ∷ xs) ys = ap (λ zs. f x ∷ zs) (map-joined f xs ys)

joined-assoc : (xs ys zs : List RowId) → (xs ++ ys) ++ zs ≡ xs ++ (ys ++ zs)
joined-assoc [] ys zs = refl
joined-assoc (x ∷ xs) ys zs = ap (λ ws. x ∷ ws) (joined-assoc xs ys zs)

joined-none : (xs : List RowId) → xs ++ [] ≡ xs
joined-none [] = refl
joined-none (x ∷ xs) = ap (λ ws. x ∷ ws) (joined-none xs)

module _ (table : ℕ) (old : List RowId) (flags : List Bool) (place : ℕ) (l : place < length flags) where
  next-places : places_from 0 (take (place + 1) flags) ≡ places_from 0 (take place flags) ++ cond (get_or flags place false) (place ∷ []) []
  next-places = ap (places_from 0) (take_more flags place false l) ∙ places-more 0 (take place flags) (get_or flags place false)
      ∙ ap (λ k. places_from 0 (take place flags) ++ cond (get_or flags place false) (k ∷ []) []) (let e = length-take_within place flags l in let z : 0 + length (take place flags) ≡ place = omega (arith, e) in z)

  next-names : (b : Bool) → get_or flags place false ≡ b → names_in table (places_from 0 (take (place + 1) flags)) ≡ names_in table (places_from 0 (take place flags)) ++ names_in table (cond b (place ∷ []) [])
  next-names b e = ap (names_in table) (next-places ∙ ap (λ c. places_from 0 (take place flags) ++ cond c (place ∷ []) []) e) ∙ map-joined (λ p. record { table = table; place = p }) (places_from 0 (take place flags)) (cond b (place ∷ []) [])

  pub named-set : (names : List RowId) → names ≡ old ++ names_in table (places_from 0 (take place flags)) → get_or flags place false ≡ true →
      names ++ (record { table = table; place = place }) ∷ [] ≡ old ++ names_in table (places_from 0 (take (place + 1) flags))
  named-set names h e =
      ap (λ ns. ns ++ (record { table = table; place = place }) ∷ []) h ∙ joined-assoc old (names_in table (places_from 0 (take place flags))) ((record { table = table; place = place }) ∷ [])
      ∙ ap (λ ns. old ++ ns) (sym (next-names true e))

  pub named-clear : (names : List RowId) → names ≡ old ++ names_in table (places_from 0 (take place flags)) → get_or flags place false ≡ false →
      names ≡ old ++ names_in table (places_from 0 (take (place + 1) flags))
  named-clear names h e = h ∙ ap (λ ns. old ++ ns) (sym (joined-none (names_in table (places_from 0 (take place flags)))) ∙ sym (next-names false e))

pub named-all : (table : ℕ) (old : List RowId) (flags : List Bool) (place : ℕ) (names : List RowId) → length flags ≤ place → names ≡ old ++ names_in table (places_from 0 (take place flags)) → names ≡ old ++ names_in table (places_from 0 flags)
named-all table old flags place names l h = h ∙ ap (λ bs. old ++ names_in table (places_from 0 bs)) (take_all place flags l)

-- one table more
pub tables-more : (tables : List ℕ) (flags : List (List Bool)) (old names new : List RowId) (i t : ℕ) → i < length tables → t ≡ get_or tables i 0 →
    names ≡ old ++ names_kept (take i tables) flags → (f : List Bool) → f ≡ flags_at flags t → new ≡ names ++ names_in t (places_from 0 f) → new ≡ old ++ names_kept (take (i + 1) tables) flags
tables-more tables flags old names new i t l is h f e n =
    n ∙ ap (λ ns. ns ++ names_in t (places_from 0 f)) h ∙ ap (λ g. (old ++ names_kept (take i tables) flags) ++ names_in t (places_from 0 g)) e
    ∙ flat_map_more (λ u. names_in u (places_from 0 (flags_at flags u))) old (take i tables) t
    ∙ ap (λ ts. old ++ names_kept ts flags) (sym (take_more tables i 0 l ∙ ap (λ u. take i tables ++ u ∷ []) (sym is)))

pub tables-all : (tables : List ℕ) (flags : List (List Bool)) (old names : List RowId) (i : ℕ) → length tables ≤ i → names ≡ old ++ names_kept (take i tables) flags → names ≡ old ++ names_kept tables flags
tables-all tables flags old names i l h = h ∙ ap (λ ts. old ++ names_kept ts flags) (take_all i tables l)

-- places of flags
pub places-flagged : (n : ℕ) (bs : List Bool) (p : ℕ) → Contains (places_from n bs) p → (k : ℕ) × (p ≡ n + k) × IsFlagged bs k
places-flagged n [] p m = absurd (mem-nil p m)
places-flagged n (true ∷ bs) p m = elim (mem-cases p n (places_from (suc n) bs) m) [
  | inl e ↦ (0, (let z : p ≡ n + 0 = omega (arith, e) in z), refl)
  | inr r ↦ later n true bs p (places-flagged (suc n) bs p r)
]
  where
    later : (n : ℕ) (b : Bool) (bs : List Bool) (p : ℕ) → ((k : ℕ) × (p ≡ suc n + k) × IsFlagged bs k) → (k : ℕ) × (p ≡ n + k) × IsFlagged (b ∷ bs) k
    later n b bs p (k, e, f) = (suc k, (let z : p ≡ n + suc k = omega (arith, e) in z), f)
places-flagged n (false ∷ bs) p m = later n (places-flagged (suc n) bs p m)
  where
    later : (n : ℕ) → ((k : ℕ) × (p ≡ suc n + k) × IsFlagged bs k) → (k : ℕ) × (p ≡ n + k) × IsFlagged (false ∷ bs) k
    later n (k, e, f) = (suc k, (let z : p ≡ n + suc k = omega (arith, e) in z), f)

after-first : (n m : ℕ) (bs : List Bool) → n < m → AllByRecursion (λ p. nat_cmp n p ≡ Less) (places_from m bs)
after-first n m [] l = tt
after-first n m (true ∷ bs) l = (nat_cmp_less n m l, after-first n (suc m) bs (omega (arith, l)))
after-first n m (false ∷ bs) l = after-first n (suc m) bs (omega (arith, l))

pub places-rise : (n : ℕ) (bs : List Bool) → IsStrictlySortedBy nat_cmp (places_from n bs)
unfolding IsStrictlySortedBy
places-rise n [] = tt
places-rise n (true ∷ bs) = (after-first n (suc n) bs (omega arith), places-rise (suc n) bs)
places-rise n (false ∷ bs) = places-rise (suc n) bs

-- the rows kept are those at the places of the flags
at-end : (pre : List (List Value)) (x : List Value) (xs : List (List Value)) → get_or (pre ++ x ∷ xs) (length pre) [] ≡ x
at-end [] x xs = refl
at-end (y ∷ pre) x xs = at-end pre x xs

one-more : (pre : List (List Value)) (x : List Value) (xs : List (List Value)) → pre ++ x ∷ xs ≡ (pre ++ x ∷ []) ++ xs
one-more [] x xs = refl
one-more (y ∷ pre) x xs = ap (λ zs. y ∷ zs) (one-more pre x xs)

long-more : (pre : List (List Value)) (x : List Value) → length (pre ++ x ∷ []) ≡ suc (length pre)
long-more [] x = refl
long-more (y ∷ pre) x = ap suc (long-more pre x)

kept-from : (pre xs : List (List Value)) (bs : List Bool) → length bs ≤ length xs → kept_of xs bs ≡ rows_in (pre ++ xs) (places_from (length pre) bs)
kept-from pre [] [] l = refl
kept-from pre [] (b ∷ bs) l = absurd (omega arith)
kept-from pre (x ∷ xs) [] l = refl
kept-from pre (x ∷ xs) (b ∷ bs) l = go b (kept-from (pre ++ x ∷ []) xs bs (le_of_suc-le-suc l)
    ∙ ap (λ zs. rows_in zs (places_from (length (pre ++ x ∷ [])) bs)) (sym (one-more pre x xs)) ∙ ap (λ n. rows_in (pre ++ x ∷ xs) (places_from n bs)) (long-more pre x))
  where
    go : (b : Bool) → kept_of xs bs ≡ rows_in (pre ++ x ∷ xs) (places_from (suc (length pre)) bs) → kept_of (x ∷ xs) (b ∷ bs) ≡ rows_in (pre ++ x ∷ xs) (places_from (length pre) (b ∷ bs))
    go true r = ap (λ z. z ∷ kept_of xs bs) (sym (at-end pre x xs)) ∙ ap (λ zs. get_or (pre ++ x ∷ xs) (length pre) [] ∷ zs) r
    go false r = r

-- a name of a row is that of a place whose flag is set
pub in_map : (table : ℕ) (places : List ℕ) (name : RowId) → Contains (names_in table places) name → (p : ℕ) × Contains places p × (name ≡ record { table = table; place = p })
in_map table [] name m = absurd (mem-nil name m)
in_map table (p ∷ ps) name m = elim (mem-cases name (record { table = table; place = p }) (names_in table ps) m) [
  | inl e ↦ (p, mem-head p ps, sym e)
  | inr n ↦ (let r = in_map table ps name n in (r.0, mem-tail r.0 p ps r.1, r.2))
]

pub name-flagged : (tables : List ℕ) (flags : List (List Bool)) (name : RowId) → Contains (names_kept tables flags) name → IsFlagged (flags_at flags name.table) name.place
name-flagged [] flags name m = absurd (mem-nil name m)
name-flagged (t ∷ tables) flags name m = elim (Contains-append_cases (names_in t (places_from 0 (flags_at flags t))) (names_kept tables flags) name m) [
  | inl h ↦ here (in_map t (places_from 0 (flags_at flags t)) name h)
  | inr h ↦ name-flagged tables flags name h
]
  where
    here : ((p : ℕ) × Contains (places_from 0 (flags_at flags t)) p × (name ≡ record { table = t; place = p })) → IsFlagged (flags_at flags name.table) name.place
    here (p, m, e) =
        let k = places-flagged 0 (flags_at flags t) p m in
        let z : p ≡ k.0 = (let f = k.1 in omega (arith, f)) in
        subst (λ n. IsFlagged (flags_at flags n.table) n.place) (sym e) (subst (λ r. IsFlagged (flags_at flags t) r) (sym z) k.2)

-- and its table is one of these
pub name-used : (tables : List ℕ) (flags : List (List Bool)) (name : RowId) → Contains (names_kept tables flags) name → Contains tables name.table
name-used [] flags name m = absurd (mem-nil name m)
name-used (t ∷ tables) flags name m = elim (Contains-append_cases (names_in t (places_from 0 (flags_at flags t))) (names_kept tables flags) name m) [
  | inl h ↦ (let r = in_map t (places_from 0 (flags_at flags t)) name h in subst (Contains (t ∷ tables)) (ap (λ (n : RowId). n.table) (sym r.2)) (mem-head t tables))
  | inr h ↦ mem-tail name.table t tables (name-used tables flags name h)
]

-- the names of a choice are those of stored rows
pub named-stored : (db : List Table) (tables : List ℕ) → AreTablesOf db tables → (flags : List (List Bool)) → AreTableFlags db tables flags → AreStored db (names_kept tables flags)
named-stored db tables are flags chosen name m =
    let used = name-used tables flags name m in (
      are.there name.table used,
      subst (λ n. name.place < n) (chosen.each name.table used).size (flag-there (flags_at flags name.table) name.place (name-flagged tables flags name m)),
    )

-- the names of a choice are those of a repair
pub kept-named : (db : List Table) (tables : List ℕ) (flags : List (List Bool)) → AreTableFlags db tables flags → (r : List (List (List Value))) →
    ((t : ℕ) → Contains tables t → get_or r t [] ≡ get_or (kept_tables (stored db) flags) t []) → AreKeptOver db tables (names_kept tables flags) r
kept-named db tables flags chosen r same = record {
  places = λ t. places_from 0 (flags_at flags t);
  are = refl;
  rises = λ t m. places-rise 0 (flags_at flags t);
  there = λ t m p k. within t m p (places-flagged 0 (flags_at flags t) p k);
  rows = λ t m. same t m ∙ kept-table (stored db) flags t ∙ kept-from [] (rows_at db t) (flags_at flags t) (let size = (chosen.each t m).size in omega (arith, size));
}
  where
    within : (t : ℕ) → Contains tables t → (p : ℕ) → ((k : ℕ) × (p ≡ 0 + k) × IsFlagged (flags_at flags t) k) → p < length (rows_at db t)
    within t m p (k, e, f) = let l = flag-there (flags_at flags t) k f in let size = (chosen.each t m).size in omega (arith, e, l, size)

-- ---- the names of rows of a query's tables

names-over : (atoms : List Atom) (places : ℕ → List ℕ) → flat_map (λ t. names_in t (places t)) (map (λ (a : Atom). a.table) atoms) ≡ flat_map (λ (a : Atom). names_in a.table (places a.table)) atoms
names-over [] places = refl
names-over (a ∷ atoms) places = ap (λ ns. names_in a.table (places a.table) ++ ns) (names-over atoms places)

module _ (q : Query) (db : List Table) (fits : FitsDatabase q db) (names : List RowId) where
  pub kept-of : (kept : List (List (List Value))) → AreKeptOver db (tables_in q) names kept → AreKept q db names kept
  kept-of kept h = record {
    places = h.places;
    are = h.are ∙ names-over q.atoms h.places;
    rises = λ F l. h.rises (atom_at q F).table (table-in q db fits F l);
    there = λ F l. h.there (atom_at q F).table (table-in q db fits F l);
    rows = λ F l. h.rows (atom_at q F).table (table-in q db fits F l);
  }

  pub repair-of : IsRepairOver db (tables_in q) names → IsRepairOf q db names
  repair-of (kept, r, k) = (kept, r, kept-of kept k)

  pub picks-of : (listed : List RowId) (model : List Bool) → AreTablePicks db (tables_in q) listed model names → ArePicks q db listed model names
  picks-of listed model h F l p m =
      subst (λ key. IsPick key (rows_of q (stored db) F) (λ i. IsTrueName listed model (record { table = (atom_at q F).table; place = i })) p) (sym (fits.keyed F l))
      (h (atom_at q F).table (table-in q db fits F l) p m)
