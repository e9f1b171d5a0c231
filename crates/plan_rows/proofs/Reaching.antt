-- Rows with which a plan holds lead to each other.
use Rattle.std.proofs.Common.{Option, length, ◌≡◌, ◌⊎◌, inl, inr, ℕ, ◌<◌, List, [], ◌∷◌, get_or, refl, sym, subst, Contains, Some, None}
use Rattle.cqa_value.specs.declared.value.Value.{Value}
use Rattle.cqa_model.specs.declared.query.Query.{Query}
use Rattle.cqa_model.specs.Database.{Table, nothing, stored, keys_of}
use Rattle.cqa_model.specs.Variables.{AreLinked}
use Rattle.cqa_model.specs.Query.{atom_at, rows_of, row_at, FitsDatabase}
use Rattle.cqa_model.specs.Plan.{Placed, Fits, PlanHolds}
use Rattle.cqa_model.proofs.Classic.{mem-nil, mem-head, mem-tail, mem-cases}
use Rattle.cqa_model.proofs.Views.{linked-sym}
use Rattle.cqa_model.specs.Partial.{view_of, IsPartial}
use Rattle.cqa_model.proofs.Fitting.{fits_tables}
use Rattle.cqa_model.proofs.Exactness.{fits_of}
use Rattle.plan_rows.specs.Fitting.{AgreesAll}
use Rattle.plan_rows.specs.Knowing.{MayFit}
use Rattle.plan_rows.specs.Links.{LeadsTo, RowHolds}
use Rattle.plan_rows.proofs.Suiting.{suits-from}

-- stored rows, one of each atom of a plan, each of which fits any of the others and of the rows taken
record Completes (q : Query) (tables : List (List (List Value))) (row : List Value) (taken : List Placed) (plan : List ℕ) (more : List Placed) : Type 0 where
  each : (F : ℕ) → Contains plan F → (t : Placed) × Contains more t × (t.atom ≡ F)
  stored : (t : Placed) → Contains more t → Contains (rows_of q tables t.atom) t.row
  fits : (t : Placed) → Contains more t → (some : List Placed) → ((u : Placed) → Contains some u → Contains more u ⊎ Contains taken u) → Fits q row some t.atom t.row

module _ (q : Query) (tables : List (List (List Value))) (row : List Value) where
  abbrev at : ℕ → List Value → Placed
  at F x = record { atom = F; row = x }

  -- a row that was taken before fits those that fit it
  completes-more : (taken : List Placed) (F : ℕ) (x : List Value) (plan : List ℕ) (more : List Placed) → Contains (rows_of q tables F) x → Fits q row taken F x →
      Completes q tables row (at F x ∷ taken) plan more → Completes q tables row taken (F ∷ plan) (at F x ∷ more)
  completes-more taken F x plan more there f c = record { each = each; stored = stored; fits = fits }
    where
      each : (G : ℕ) → Contains (F ∷ plan) G → (t : Placed) × Contains (at F x ∷ more) t × (t.atom ≡ G)
      each G m = elim (mem-cases G F plan m) [
        | inl e ↦ (at F x, mem-head (at F x) more, e)
        | inr n ↦ let r = c.each G n in (r.0, mem-tail r.0 (at F x) more r.1, r.2)
      ]

      stored : (t : Placed) → Contains (at F x ∷ more) t → Contains (rows_of q tables t.atom) t.row
      stored t m = elim (mem-cases t (at F x) more m) [
        | inl e ↦ subst (λ (z : Placed). Contains (rows_of q tables z.atom) z.row) e there
        | inr n ↦ c.stored t n
      ]

      -- x agrees with a later row, since that agrees with x
      back : (u : Placed) → Contains more u → (i : ℕ) → i < (atom_at q F).width → (j : ℕ) → j < (atom_at q u.atom).width →
          AreLinked q (record { atom = F; col = i }) (record { atom = u.atom; col = j }) → get_or x i nothing ≡ get_or u.row j nothing
      back u m i li j lj l =
          let g = c.fits u m (at F x ∷ []) (λ v n. elim (mem-cases v (at F x) [] n) [ inl e ↦ inr (subst (λ z. Contains (at F x ∷ taken) z) e (mem-head (at F x) taken)) | inr k ↦ absurd (mem-nil v k) ]) in
          sym (g.agrees (at F x) (mem-tail (at F x) u (at F x ∷ []) (mem-head (at F x) [])) j lj i li (linked-sym q (record { atom = F; col = i }) (record { atom = u.atom; col = j }) l))

      own : (some : List Placed) → ((u : Placed) → Contains some u → Contains (at F x ∷ more) u ⊎ Contains taken u) → Fits q row some F x
      own some h = record {
        agrees = λ t m. elim (mem-cases t (at F x) some m) [
          | inl e ↦ f.agrees t (subst (λ z. Contains (at F x ∷ taken) z) e (mem-head (at F x) taken))
          | inr n ↦ elim (h t n) [
            | inl k ↦ elim (mem-cases t (at F x) more k) [
              | inl e ↦ f.agrees t (subst (λ z. Contains (at F x ∷ taken) z) e (mem-head (at F x) taken))
              | inr p ↦ back t p
            ]
            | inr k ↦ f.agrees t (mem-tail t (at F x) taken k)
          ]
        ];
        tests = f.tests;
        answers = f.answers;
      }

      fits : (t : Placed) → Contains (at F x ∷ more) t → (some : List Placed) → ((u : Placed) → Contains some u → Contains (at F x ∷ more) u ⊎ Contains taken u) → Fits q row some t.atom t.row
      fits t m some h = elim (mem-cases t (at F x) more m) [
        | inl e ↦ subst (λ (z : Placed). Fits q row some z.atom z.row) e (own some h)
        | inr n ↦ c.fits t n some (λ u k. elim (h u k) [
          | inl p ↦ elim (mem-cases u (at F x) more p) [
            | inl e ↦ inr (subst (λ z. Contains (at F x ∷ taken) z) e (mem-head (at F x) taken))
            | inr p ↦ inl p
          ]
          | inr p ↦ inr (mem-tail u (at F x) taken p)
        ])
      ]

  -- a plan that holds has such rows
  completes : (taken : List Placed) (plan : List ℕ) → PlanHolds q tables row taken plan → (more : List Placed) × Completes q tables row taken plan more
  completes taken [] h = ([], record { each = λ F m. absurd (mem-nil F m); stored = λ t m. absurd (mem-nil t m); fits = λ t m. absurd (mem-nil t m) })
  completes taken (F ∷ plan) (x, there, all) =
      let own = all x there (λ p m. refl) in
      let later = completes (at F x ∷ taken) plan own.1 in
      (at F x ∷ later.0, completes-more taken F x plan later.0 there own.0 later.1)

-- to a row with which the rest of a plan holds, stored rows of any atoms of that rest lead, in any order, from the rows taken
pub held_rows_are_reached : (q : Query) (tables : List (List (List Value))) (row : List Value) (taken : List Placed) (F : ℕ) (plan links : List ℕ) (y : List Value) → ((G : ℕ) → Contains links G → Contains plan G) →
    RowHolds q tables row taken F plan y → LeadsTo q tables (Some row) taken links F y × LeadsTo q tables None taken links F y
held_rows_are_reached q tables row taken F plan links y h (f, rest) =
    let later = completes q tables row (record { atom = F; row = y } ∷ taken) plan rest in
    reached later.0 later.1
  where
    here : Placed
    here = record { atom = F; row = y }

    -- the row of F need not be stored here: it counts as one of the rows taken
    reached : (more : List Placed) → Completes q tables row (here ∷ taken) plan more → LeadsTo q tables (Some row) taken links F y × LeadsTo q tables None taken links F y
    reached more c = go links h taken (λ u m. inr m)
      where
        last : (before : List Placed) → ((u : Placed) → Contains before u → Contains more u ⊎ Contains taken u) → Fits q row before F y
        last before b = record {
          agrees = λ t m. elim (mem-cases t here before m) [
            | inl e ↦ f.agrees t (subst (λ z. Contains (here ∷ taken) z) e (mem-head here taken))
            | inr n ↦ elim (b t n) [
              | inl k ↦ λ i li j lj l.
                  let g = c.fits t k (here ∷ []) (λ v p. elim (mem-cases v here [] p) [ inl e ↦ inr (subst (λ z. Contains (here ∷ taken) z) e (mem-head here taken)) | inr w ↦ absurd (mem-nil v w) ]) in
                  sym (g.agrees here (mem-tail here t (here ∷ []) (mem-head here [])) j lj i li (linked-sym q (record { atom = F; col = i }) (record { atom = t.atom; col = j }) l))
              | inr k ↦ f.agrees t (mem-tail t here taken k)
            ]
          ];
          tests = f.tests;
          answers = f.answers;
        }

        go : (links : List ℕ) → ((G : ℕ) → Contains links G → Contains plan G) → (before : List Placed) → ((u : Placed) → Contains before u → Contains more u ⊎ Contains taken u) →
            LeadsTo q tables (Some row) before links F y × LeadsTo q tables None before links F y
        go [] h before b = let g = last before b in (g, suits-from q before F y row g)
        go (G ∷ links) h before b =
            let t = c.each G (h G (mem-head G links)) in
            let z = t.0.row in
            let there : Contains (rows_of q tables G) z = subst (λ k. Contains (rows_of q tables k) z) t.2 (c.stored t.0 t.1) in
            let g : Fits q row before G z = subst (λ k. Fits q row before k z) t.2 (c.fits t.0 t.1 before (λ u n. elim (b u n) [ inl p ↦ inl p | inr p ↦ inr (mem-tail u here taken p) ])) in
            let mine : Contains more (record { atom = G; row = z }) = subst (λ k. Contains more (record { atom = k; row = z })) t.2 t.1 in
            let on = go links (λ k n. h k (mem-tail k G links n)) (record { atom = G; row = z } ∷ before) (λ u n. elim (mem-cases u (record { atom = G; row = z }) before n) [ inl p ↦ inl (subst (λ w. Contains more w) p mine) | inr k ↦ b u k ]) in
            ((z, there, g, on.0), (z, there, suits-from q before G z row g, on.1))

-- a witness has its own rows taken as well
partial-more : (q : Query) (row : List Value) (kept : List (List (List Value))) (w : List (List Value)) (before : List Placed) (G : ℕ) → IsPartial q row before kept w →
    IsPartial q row (record { atom = G; row = row_at w G } ∷ before) kept w
partial-more q row kept w before G p = record {
  size = p.size;
  keeps = λ K has. p.keeps K has.0;
  holds = p.holds;
  answers = p.answers;
  extends = λ t m. elim (mem-cases t (record { atom = G; row = row_at w G }) before m) [ inl e ↦ subst (λ (z : Placed). row_at w z.atom ≡ z.row) e refl | inr n ↦ p.extends t n ];
}

-- the rows of a witness with the rows taken, whose other rows are stored, lead to each other in any order from the rows taken
pub witnesses_are_reached : (db : List Table) (q : Query) (kept : List (List (List Value))) (row : List Value) (taken : List Placed) (F : ℕ) (links : List ℕ) (w : List (List Value)) → FitsDatabase q db → length row ≡ length q.answer →
    ((G : ℕ) (x : List Value) → (view_of q taken).has G → Contains (rows_of q kept G) x → Contains (rows_of q (stored db) G) x) →
    ((G : ℕ) → Contains links G → (view_of q taken).has G) → IsPartial q row taken kept w → LeadsTo q (stored db) (Some row) taken links F (row_at w F)
witnesses_are_reached db q kept row taken F links w fit long there among p = go links among taken p
  where
    go : (links : List ℕ) → ((G : ℕ) → Contains links G → (view_of q taken).has G) → (before : List Placed) → IsPartial q row before kept w → LeadsTo q (stored db) (Some row) before links F (row_at w F)
    go [] h before b = fits_of q (keys_of db) (stored db) (fits_tables q db fit) row long before kept F (row_at w F) w (partial-more q row kept w before F b)
    go (G ∷ links) h before b =
        let has = h G (mem-head G links) in (
          row_at w G,
          there G (row_at w G) has (p.keeps G has),
          fits_of q (keys_of db) (stored db) (fits_tables q db fit) row long before kept G (row_at w G) w (partial-more q row kept w before G b),
          go links (λ k n. h k (mem-tail k G links n)) (record { atom = G; row = row_at w G } ∷ before) (partial-more q row kept w before G b),
        )

-- a row to which rows of links lead may fit the rows taken alone
pub leads-may : (q : Query) (tables : List (List (List Value))) (row : Option (List Value)) (taken : List Placed) (links : List ℕ) (F : ℕ) (y : List Value) → LeadsTo q tables row taken links F y → MayFit q row taken F y
leads-may q tables row taken links F y = go links taken (λ u m. m)
  where
    here : Placed
    here = record { atom = F; row = y }

    less : (before : List Placed) → ((u : Placed) → Contains taken u → Contains before u) → AgreesAll q F y (here ∷ before) → AgreesAll q F y (here ∷ taken)
    less before h all t m = elim (mem-cases t here taken m) [
      | inl e ↦ all t (subst (λ z. Contains (here ∷ before) z) e (mem-head here before))
      | inr n ↦ all t (mem-tail t here before (h t n))
    ]

    fewer : (o : Option (List Value)) (before : List Placed) → ((u : Placed) → Contains taken u → Contains before u) → MayFit q o before F y → MayFit q o taken F y
    fewer None before h f = record { agrees = less before h f.agrees; tests = f.tests }
    fewer (Some r) before h f = record { agrees = less before h f.agrees; tests = f.tests; answers = f.answers }

    go : (links : List ℕ) (before : List Placed) → ((u : Placed) → Contains taken u → Contains before u) → LeadsTo q tables row before links F y → MayFit q row taken F y
    go [] before h l = fewer row before h l
    go (G ∷ links) before h l = go links (record { atom = G; row = l.0 } ∷ before) (λ u m. mem-tail u (record { atom = G; row = l.0 }) before (h u m)) l.3
