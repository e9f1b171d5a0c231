-- The names of the query of a plan say what its places mean.
use Rattle.std.proofs.Common.{◌≡◌, ◌≢◌, ℕ, zero, suc, ◌<◌, ◌≤◌, ◌-◌, ◌+◌, ◌⊎◌, inl, inr, Bool, true, false, not, List, [], ◌∷◌, ◌++◌, length, map, get_or, refl, ap, sym, ◌∙◌, subst, arith, cond, Contains, Option, Some, None, append-nil}
use Rattle.std.specs.List.{filter, flat_map, range_with_len}
use Rattle.std.proofs.lemmas.List.{append_assoc, map-append, length-map, length-append, length_push, get_or_append_left, get_or_push}
use Rattle.std.proofs.lemmas.List.Elements.{Contains-append_cases, Contains-get_or}
use Rattle.cqa_value.proofs.Words.{Contains-map, Contains-from_map, Contains-filter, in_range}
use Rattle.cqa_model.specs.declared.query.Query.{Query}
use Rattle.cqa_model.specs.Query.{atom_at, atom_key}
use Rattle.cqa_model.proofs.Classic.{mem-head, mem-tail, mem-nil, mem-cases}
use Rattle.sql_text.specs.declared.syntax.Source.TheVariants.{Step as Earlier}
use Rattle.sql_text.specs.declared.syntax.Alias.{Alias}
use Rattle.sql_text.specs.declared.syntax.Alias.TheVariants.{Member, Context, Held}
use Rattle.sql_text.specs.declared.syntax.Listed.{Listed}
use Rattle.sql_text.specs.declared.syntax.Cell.{Cell}
use Rattle.sql_text.specs.declared.syntax.Child.{Child}
use Rattle.sql_text.specs.declared.syntax.Within.{Within}
use Rattle.sql_text.specs.declared.syntax.Select.{Select}
use Rattle.sql_text.specs.declared.syntax.Body.TheVariants.{Distinct, Grouped}
use Rattle.sql_text.specs.declared.syntax.Step.{Step}
use Rattle.sql_text.specs.declared.syntax.StepKind.TheVariants.{Asked, Rows, Blocks, Holds}
use Rattle.sql_text.specs.Named.{AreDifferent, width, ShowsOne, IsThere, IsCellOf, AreCellsOf, AreCmpsOf, AreWithinOf, AreChildrenOf, AreSources, AreCountable, IsNamedSelect, IsNamedGroup, IsNamedBody, shown, IsNamedStep, AreNamedSteps}
use Rattle.sql_steps.specs.declared.fitting.Known.{Known}
use Rattle.plan_sql.specs.declared.bounds.Bound.{Bound}
use Rattle.sql_steps.specs.declared.part.Part.{Part}
use Rattle.sql_steps.specs.Variables.{has, covers, within, without, all_below, ascending, variables_of, key_variables}
use Rattle.sql_steps.specs.Steps.{cell, cell_of, cells_of, held, member, cells_at, keyed, fitted, part_source, children_of, known_of, on_of, rows_of_atom, group_of, block_group, context_group, are_single}
use Rattle.plan_sql.specs.Statement.{context_of, block_of, step, guard_for, is_joined, first_of, completes, far_columns, rows_part, two_steps, far_steps, near_steps, looked_steps, context_steps, by_block, block_steps, behind_steps, level_steps, keys_in, rare_only, has_few, few_step}
use Rattle.sql_steps.proofs.Membership.{ascending-from, without-from, columns-from, columns-into}
use Rattle.sql_steps.proofs.Seeing.{IsKnown, held-at}
use Rattle.sql_steps.proofs.Telling.{fitted-below, told-of}
use Rattle.sql_steps.proofs.Atoms.{key-width, keys-within, keys-into}
use Rattle.sql_steps.proofs.Rows.{row-known}
use Rattle.sql_steps.proofs.Suiting.{variable}
use Rattle.plan_sql.proofs.Contexts.{IsOf, AreAmong, context-from, context-into, end-known, block-key}
use Rattle.plan_sql.proofs.Asking.{guard_for-in}
use Rattle.plan_sql.proofs.Steps.{first-in}
use Rattle.plan_sql.proofs.Pairs.{columns-of, of-part, of-two}
use Rattle.plan_sql.proofs.Looking.{keys-at, keys-own, rare-at, rare-own}
use Rattle.sql_steps.proofs.Scopes.{cmp-more, AreIn, both-of, keyed-seen, fitted-seen, cells-in, AreThere, AreAt, children-of, on-of, sources-of, children-joined}

-- lists in which nothing stands twice
pub filter-apart : {A : Type 0} (test : A → Bool) (f : A → ℕ) (xs : List A) → AreDifferent (map f xs) → AreDifferent (map f (filter test xs))
filter-apart test f [] a = tt
filter-apart test f (x ∷ xs) a = go (test x) (filter-apart test f xs a.1)
  where
    go : (b : Bool) → AreDifferent (map f (filter test xs)) → AreDifferent (map f (cond b (x ∷ filter test xs) (filter test xs)))
    go true next = (
      (λ y m.
          let r = Contains-from_map f (filter test xs) y m in
          a.0 y (subst (λ z. Contains (map f xs) z) r.2 (Contains-map f xs r.0 ((Contains-filter test xs r.0).0 r.1).0))),
      next,
    )
    go false next = next

map-self : (xs : List ℕ) → map (λ x. x) xs ≡ xs
map-self [] = refl
map-self (x ∷ xs) = ap (λ z. x ∷ z) (map-self xs)

filter-self : (test : ℕ → Bool) (xs : List ℕ) → AreDifferent xs → AreDifferent (filter test xs)
filter-self test xs a = subst AreDifferent (map-self (filter test xs)) (filter-apart test (λ x. x) xs (subst AreDifferent (sym (map-self xs)) a))

range-apart : (n a : ℕ) → AreDifferent (range_with_len a n)
range-apart zero a = tt
range-apart (suc n) a = ((λ y m e. let l : a + 1 ≤ y = (in_range (a + 1) n y m).0 in let f : a ≡ y = e in omega arith), range-apart n (a + 1))

below-apart : (n : ℕ) → AreDifferent (all_below n)
unfolding all_below
below-apart n = range-apart n 0

pub ascending-apart : (vs : List ℕ) → AreDifferent (ascending vs)
ascending-apart vs = filter-self (λ u. has vs u) (all_below 192) (below-apart 192)

append-apart : (xs ys : List ℕ) → AreDifferent xs → AreDifferent ys → ((x : ℕ) → Contains xs x → Contains ys x → ⊥) → AreDifferent (xs ++ ys)
append-apart [] ys a b f = b
append-apart (x ∷ xs) ys a b f = (
  (λ y m e. elim (Contains-append_cases xs ys y m) [ inl n ↦ a.0 y n e | inr n ↦ f x (mem-head x xs) (subst (λ z. Contains ys z) (sym e) n) ]),
  append-apart xs ys a.1 b (λ y m n. f y (mem-tail y x xs m) n),
)

pub block-apart : (q : Query) (F : ℕ) (context : List ℕ) → AreDifferent context → AreDifferent (block_of q F context)
block-apart q F context a =
    append-apart context (without (ascending (key_variables q F)) context) a
    (filter-self (λ u. not (has context u)) (ascending (key_variables q F)) (ascending-apart (key_variables q F)))
    (λ v m n. (without-from (ascending (key_variables q F)) context v n).1 m)

-- the aliases of parts
pub held-apart : (parts : List Part) → AreDifferent (map (λ (p : Part). p.number) parts) → AreDifferent (map (λ (l : Listed). l.alias) (map (λ (p : Part). part_source p) parts))
held-apart [] a = tt
held-apart (p ∷ ps) a = (
  (λ y m e.
      let r = Contains-from_map (λ (l : Listed). l.alias) (map (λ (z : Part). part_source z) ps) y m in
      let o = Contains-from_map (λ (z : Part). part_source z) ps r.0 r.1 in
      let same : Held p.number ≡ Held o.0.number = e ∙ sym r.2 ∙ ap (λ (l : Listed). l.alias) (sym o.2) in
      let n : p.number ≡ o.0.number = cc same in
      a.0 o.0.number (Contains-map (λ (z : Part). z.number) ps o.0 o.1) n),
  held-apart ps a.1,
)

other-alias : (a : Alias) → ((n : ℕ) → a ≡ Held n → ⊥) → (parts : List Part) (y : Alias) → Contains (map (λ (l : Listed). l.alias) (map (λ (p : Part). part_source p) parts)) y → a ≢ y
other-alias a f parts y m e =
    let r = Contains-from_map (λ (l : Listed). l.alias) (map (λ (z : Part). part_source z) parts) y m in
    let o = Contains-from_map (λ (z : Part). part_source z) parts r.0 r.1 in
    f o.0.number (e ∙ sym r.2 ∙ ap (λ (l : Listed). l.alias) (sym o.2))

module _ (q : Query) where
  -- a step more
  pub named-push : (b ss : List Step) (t : Step) → AreNamedSteps q b ss → IsNamedStep q (b ++ ss) t → AreNamedSteps q b (ss ++ t ∷ [])
  named-push b [] t h n = (subst (λ z. IsNamedStep q z t) (append-nil b) n, tt)
  named-push b (s ∷ ss) t h n = (h.0, named-push (b ++ s ∷ []) ss t h.1 (subst (λ z. IsNamedStep q z t) (sym (append_assoc b (s ∷ []) ss)) n))

  pub width-more : (ss ts : List Step) (m : ℕ) → m < length ss → width q (ss ++ ts) (Earlier m) ≡ width q ss (Earlier m)
  width-more ss ts m l =
      ap (λ z. get_or z m 0) (map-append (λ (s : Step). length s.columns) ss ts)
      ∙ get_or_append_left (map (λ (s : Step). length s.columns) ss) (map (λ (s : Step). length s.columns) ts) 0 m (omega (arith, l, length-map ss (λ (s : Step). length s.columns)))

  pub width-new : (ss : List Step) (s : Step) (m : ℕ) → m ≡ length ss → width q (ss ++ s ∷ []) (Earlier m) ≡ length s.columns
  width-new ss s m e =
      ap (λ z. get_or z m 0) (map-append (λ (t : Step). length t.columns) ss (s ∷ []))
      ∙ get_or_push (map (λ (t : Step). length t.columns) ss) (length s.columns) 0 m (length-map ss (λ (t : Step). length t.columns) ∙ sym e)

  pub kind-more : (ss ts : List Step) (m : ℕ) → m < length ss → ShowsOne ss (Earlier m) → ShowsOne (ss ++ ts) (Earlier m)
  kind-more ss ts m l h =
      ap (λ z. get_or z m Asked) (map-append (λ (s : Step). s.kind) ss ts)
      ∙ get_or_append_left (map (λ (s : Step). s.kind) ss) (map (λ (s : Step). s.kind) ts) Asked m (omega (arith, l, length-map ss (λ (s : Step). s.kind))) ∙ h

  pub kind-new : (ss : List Step) (s : Step) (m : ℕ) → m ≡ length ss → s.kind ≡ Holds → ShowsOne (ss ++ s ∷ []) (Earlier m)
  kind-new ss s m e h =
      ap (λ z. get_or z m Asked) (map-append (λ (t : Step). t.kind) ss (s ∷ []))
      ∙ get_or_push (map (λ (t : Step). t.kind) ss) s.kind Asked m (length-map ss (λ (t : Step). t.kind) ∙ sym e) ∙ h

  pub there-of : (ss : List Step) (m x : ℕ) → x < width q ss (Earlier m) → m < length ss
  there-of [] m x l = absurd (omega (arith, l))
  there-of (s ∷ ss) zero x l = omega arith
  there-of (s ∷ ss) (suc m) x l = let r = there-of ss m x l in omega (arith, r)

  -- columns of F that are looked up in steps
  abbrev pub AreOnly : List Step → ℕ → List Within → Type 0
  AreOnly ss F only = (o : Within) → Contains only o → ((k : ℕ) × (k < (atom_at q F).width) × (o.cell ≡ cell 0 k)) × (o.column < width q ss (Earlier o.step))

  pub only-more : (ss ts : List Step) (F : ℕ) (only : List Within) → AreOnly ss F only → AreOnly (ss ++ ts) F only
  only-more ss ts F only h o m = let r = h o m in (r.0, subst (λ z. o.column < z) (sym (width-more ss ts o.step (there-of ss o.step o.column r.1))) r.1)

  -- an atom before, with what it looks up
  abbrev pub IsBoundNamed : List Step → Bound → Type 0
  IsBoundNamed ss b = (b.atom < length q.atoms) × AreOnly ss b.atom b.only

  -- the steps of an atom
  module _ (before : List Step) (F : ℕ) (lF : F < length q.atoms) (known : List ℕ) (parts : List Part) (at : AreThere q before parts) (numbers : AreDifferent (map (λ (p : Part). p.number) parts)) (only : List Within) (looked : AreOnly before F only) where
    -- each part is of what holds
    abbrev pub AreOnes : Type 0
    AreOnes = (p : Part) → Contains parts p → ShowsOne before (Earlier p.step)

    -- each part has a variable of F
    abbrev pub AreLinked : Type 0
    AreLinked = (p : Part) → Contains parts p → (v : ℕ) × Contains p.columns v × Contains (variables_of q F) v

    own : (ws : List Listed) (i : ℕ) → i < (atom_at q F).width → IsCellOf q before (member F ∷ ws) (cell 0 i)
    own ws i l = l

    within-of : (ws : List Listed) → AreWithinOf q before (member F ∷ ws) only
    within-of ws o m = let r = looked o m in (subst (λ z. IsCellOf q before (member F ∷ ws) z) (sym r.0.2) (own ws r.0.0 r.0.1), r.1)

    parts-there : (l : Listed) → Contains (map (λ (p : Part). part_source p) parts) l → IsThere q before l.source
    parts-there l m = let r = Contains-from_map (λ (p : Part). part_source p) parts l m in subst (λ (z : Listed). IsThere q before z.source) r.2 (at r.0 r.1).0

    -- F's table, and parts
    sources-named : (n : ℕ) (start : List Known) → AreSources q before (member F ∷ map (λ (c : Child). c.listed) (children_of n parts start))
    sources-named n start = subst (λ z. AreSources q before (member F ∷ z)) (sym (sources-of q before parts n start)) (record {
      some = omega arith;
      there = λ l m. elim (mem-cases l (member F) (map (λ (p : Part). part_source p) parts) m) [ inl e ↦ subst (λ (z : Listed). IsThere q before z.source) e lF | inr n ↦ parts-there l n ];
      apart = (other-alias Member (λ n e. cc e) parts, held-apart parts numbers);
    })

    pub rows-named : (columns : List ℕ) → ((v : ℕ) → Contains columns v → IsOf q F lF known parts v) → IsNamedSelect q before (rows_of_atom q F only parts columns)
    rows-named columns of = record {
      sources = sources-named 1 (fitted q F []).known;
      cells = cells-in q before scope (known_of 1 parts (fitted q F []).known) columns c.1 (λ v m. end-known q F lF known parts [] 1 v (of v m));
      all = both-of q before scope (keyed q F []).all ((fitted q F []).all ++ on_of children) (λ k m. cmp-more q before (member F ∷ []) listed k (a.1 k m))
          (both-of q before scope (fitted q F []).all (on_of children) (λ k m. cmp-more q before (member F ∷ []) listed k (b.1 k m)) (on-of q before children (member F ∷ []) c.0));
      only = within-of listed;
    }
      where
        children : List Child
        children = children_of 1 parts (fitted q F []).known

        listed : List Listed
        listed = map (λ (z : Child). z.listed) children

        scope : List Listed
        scope = member F ∷ listed

        a : AreIn q before (member F ∷ []) (keyed q F []).known × AreCmpsOf q before (member F ∷ []) (keyed q F []).all
        a = keyed-seen q before (member F ∷ []) F lF (own []) [] (λ k m. absurd (mem-nil k m))

        b : AreIn q before (member F ∷ []) (fitted q F []).known × AreCmpsOf q before (member F ∷ []) (fitted q F []).all
        b = fitted-seen q before (member F ∷ []) F lF (own []) [] (λ k m. absurd (mem-nil k m))

        c : AreChildrenOf q before (member F ∷ []) children × AreIn q before scope (known_of 1 parts (fitted q F []).known)
        c = children-of q before parts (member F ∷ []) 1 (fitted q F []).known refl at b.0

    -- a group whose first source is F's table
    group-named : AreLinked → AreOnes → (ws : List Listed) (start : List Known) (by : List Cell) (o : List Within) → 0 < length by → AreIn q before (member F ∷ ws) start → AreCellsOf q before (member F ∷ ws) by → AreWithinOf q before (member F ∷ ws) o →
        AreSources q before ((member F ∷ ws) ++ map (λ (c : Child). c.listed) (children_of (length (member F ∷ ws)) parts (fitted q F start).known)) →
        IsNamedGroup q before (group_of q F (member F ∷ ws) start o by parts (context_of q known F parts))
    group-named linked ones ws start by o some h hby ho hs = record {
      sources = hs;
      cells = cells-in q before ((member F ∷ ws) ++ map (λ (z : Child). z.listed) (children_of (length (member F ∷ ws)) parts (fitted q F start).known)) (known_of (length (member F ∷ ws)) parts (fitted q F start).known) (context_of q known F parts) c.1
          (λ v m. end-known q F lF known parts start (length (member F ∷ ws)) v (context-from q F lF known parts v m).1);
      all = (keyed-seen q before (member F ∷ ws) F lF (own ws) start h).1;
      only = ho;
      by = hby;
      grouped = some;
      fit = b.1;
      children = c.0;
      joined = children-joined q before parts (length (member F ∷ ws)) (fitted q F start).known (λ p m. let r = at p m in (r.0, r.1, ones p m)) (λ p m. let l = linked p m in (l.0, l.1, row-known q F lF start l.0 l.2));
    }
      where
        b : AreIn q before (member F ∷ ws) (fitted q F start).known × AreCmpsOf q before (member F ∷ ws) (fitted q F start).all
        b = fitted-seen q before (member F ∷ ws) F lF (own ws) start h

        c : AreChildrenOf q before (member F ∷ ws) (children_of (length (member F ∷ ws)) parts (fitted q F start).known)
            × AreIn q before ((member F ∷ ws) ++ map (λ (z : Child). z.listed) (children_of (length (member F ∷ ws)) parts (fitted q F start).known)) (known_of (length (member F ∷ ws)) parts (fitted q F start).known)
        c = children-of q before parts (member F ∷ ws) (length (member F ∷ ws)) (fitted q F start).known refl at b.0

    cells-of : (ws : List Listed) (place : ℕ) (is : List ℕ) → ((i : ℕ) → Contains is i → IsCellOf q before (member F ∷ ws) (cell place i)) → AreCellsOf q before (member F ∷ ws) (cells_at place is)
    cells-of ws place is h c m = let r = Contains-from_map (λ i. cell place i) is c m in subst (λ z. IsCellOf q before (member F ∷ ws) z) r.2 (h r.0 r.1)

    some-cells : (place : ℕ) (is : List ℕ) → 1 ≤ length is → 0 < length (cells_at place is)
    some-cells place is l = omega (arith, l, length-map is (λ i. cell place i))

    pub block-named : AreLinked → AreOnes → IsNamedGroup q before (block_group q F only parts (context_of q known F parts))
    block-named linked ones = group-named linked ones [] [] (cells_at 0 (atom_key q F)) only (some-cells 0 (atom_key q F) (q.kept.each F lF).some_key) (λ k m. absurd (mem-nil k m)) (cells-of [] 0 (atom_key q F) (λ i m. own [] i (key-width q F lF i m))) (within-of []) (sources-named 1 (fitted q F []).known)

    -- so are the contexts of blocks: no source has the alias of their sizes, and each column of a part is shown or compared
    pub by-block-named : AreLinked → AreAmong (known ++ variables_of q F) parts → AreOnes → (a : Bool) → IsNamedBody q before (by_block a (block_group q F only parts (context_of q known F parts)))
    by-block-named linked among ones true = block-named linked ones
    by-block-named linked among ones false = (
      block-named linked ones,
      subst (λ z. AreCountable (member F ∷ z)) (sym (sources-of q before parts 1 (fitted q F []).known)) (λ l m. elim (mem-cases l (member F) (map (λ (p : Part). part_source p) parts) m) [
        | inl e ↦ (λ f. let g : Member ≡ Context = ap (λ (z : Listed). z.alias) e ∙ f in absurd (cc g))
        | inr n ↦ (λ f. let r = Contains-from_map (λ (p : Part). part_source p) parts l n in let g : Held r.0.number ≡ Context = ap (λ (z : Listed). z.alias) r.2 ∙ f in absurd (cc g))
      ]),
      told-of q before (cells_of (known_of 1 parts (fitted q F []).known) (context_of q known F parts)) parts 1 (fitted q F []).known (fitted-below q F [] 1 (omega arith) (λ k m. absurd (mem-nil k m))) at shown,
    )
      where
        shown : (p : Part) → Contains parts p → (v : ℕ) → Contains p.columns v →
            IsKnown (fitted q F []).known v ⊎ Contains (cells_of (known_of 1 parts (fitted q F []).known) (context_of q known F parts)) (cell_of (known_of 1 parts (fitted q F []).known) v)
        shown p m v n = elim (Contains-append_cases known (variables_of q F) v (among p m v n).0) [
          | inl k ↦ inr (Contains-map (λ u. cell_of (known_of 1 parts (fitted q F []).known) u) (context_of q known F parts) v (context-into q F lF known parts (λ o l u i. (among o l u i).1) v k (inr (p, m, n))))
          | inr k ↦ inl (row-known q F lF [] v k)
        ]

    -- the key has some variable, so a block has
    some-block : 1 ≤ length (all_below (length (block_of q F (context_of q known F parts))))
    some-block = go (Contains-get_or (atom_key q F) 0 0 (let l : 1 ≤ length (atom_key q F) = (q.kept.each F lF).some_key in omega arith))
      where
        go : Contains (atom_key q F) (get_or (atom_key q F) 0 0) → 1 ≤ length (all_below (length (block_of q F (context_of q known F parts))))
        go m = below (block-key q F lF known parts (variable q F (get_or (atom_key q F) 0 0)) (keys-into q F lF (get_or (atom_key q F) 0 0) m))
          where
            below : Contains (block_of q F (context_of q known F parts)) (variable q F (get_or (atom_key q F) 0 0)) → 1 ≤ length (all_below (length (block_of q F (context_of q known F parts))))
            below (j, l, e) = some (columns-into (length (block_of q F (context_of q known F parts))) j l)
              where
                some : Contains (all_below (length (block_of q F (context_of q known F parts)))) j → 1 ≤ length (all_below (length (block_of q F (context_of q known F parts))))
                some (i, k, f) = omega (arith, k)

    pub context-named : AreLinked → AreOnes → (place : ℕ) → place < length before → width q before (Earlier place) ≡ length (block_of q F (context_of q known F parts)) →
        IsNamedGroup q before (context_group q F place (block_of q F (context_of q known F parts)) parts (context_of q known F parts))
    context-named linked ones place l w =
        group-named linked ones (s ∷ []) (held 1 0 block) (cells_at 1 (all_below (length block))) [] (some-cells 1 (all_below (length block)) some-block)
        (λ k m. let r = held-at 1 0 block k m in subst (λ z. IsCellOf q before (member F ∷ s ∷ []) z) (sym r.2) (seen (0 + r.0) (let j : r.0 < length block = r.1 in omega arith)))
        (cells-of (s ∷ []) 1 (all_below (length block)) (λ i m. seen i (columns-from (length block) i m))) (λ o m. absurd (mem-nil o m))
        (subst (λ z. AreSources q before (member F ∷ s ∷ z)) (sym (sources-of q before parts 2 (fitted q F (held 1 0 block)).known)) (record {
          some = omega arith;
          there = λ x m. elim (mem-cases x (member F) (s ∷ map (λ (p : Part). part_source p) parts) m) [
            | inl e ↦ subst (λ (z : Listed). IsThere q before z.source) e lF
            | inr n ↦ elim (mem-cases x s (map (λ (p : Part). part_source p) parts) n) [ inl e ↦ subst (λ (z : Listed). IsThere q before z.source) e l | inr o ↦ parts-there x o ]
          ];
          apart = (
            (λ y m. elim (mem-cases y Context (map (λ (z : Listed). z.alias) (map (λ (p : Part). part_source p) parts)) m) [ inl e ↦ (λ f. let g : Member ≡ Context = f ∙ sym e in absurd (cc g)) | inr n ↦ other-alias Member (λ k e. cc e) parts y n ]),
            (other-alias Context (λ k e. cc e) parts, held-apart parts numbers),
          );
        }))
      where
        block : List ℕ
        block = block_of q F (context_of q known F parts)

        s : Listed
        s = record { source = Earlier place; alias = Context }

        seen : (i : ℕ) → i < length block → IsCellOf q before (member F ∷ s ∷ []) (cell 1 i)
        seen i h = subst (λ z. i < z) (sym w) h

  pub at-more : (ss ts : List Step) (parts : List Part) → AreAt q ss parts → AreAt q (ss ++ ts) parts
  at-more ss ts parts h p m = let r = h p m in (omega (arith, r.0, length-append ss ts), width-more ss ts p.step r.0 ∙ r.1, kind-more ss ts p.step r.0 r.2)

  pub there-at : (ss : List Step) (parts : List Part) → AreAt q ss parts → AreThere q ss parts
  there-at ss parts h p m = let r = h p m in (r.0, r.1)

  ones-at : (ss : List Step) (parts : List Part) → AreAt q ss parts → (p : Part) → Contains parts p → ShowsOne ss (Earlier p.step)
  ones-at ss parts h p m = (h p m).2

  -- the steps, where no step has the atom's number but the one that asks for its keys
  module _ (before : List Step) (F : ℕ) (lF : F < length q.atoms) (known : List ℕ) (parts : List Part) (at : AreAt q before parts) (numbers : AreDifferent (map (λ (p : Part). p.number) parts)) (only : List Within) (looked : AreOnly before F only) where
    module _ (number : ℕ) (first : AreNamedSteps q [] before) (fresh : (t : Step) → Contains before t → t.level ≡ number → t.kind ≡ Asked)
        (linked : AreLinked before F lF known parts (there-at before parts at) numbers only looked) (among : AreAmong (known ++ variables_of q F) parts) (bounds : List Bound) (bound : (b : Bound) → Contains bounds b → IsBoundNamed before b) where
      abbrev context : List ℕ
      context = context_of q known F parts

      pub record IsLevelNamed (steps : List Step) : Type 0 where
        pub named : AreNamedSteps q [] steps
        pub grows : (ts : List Step) × (steps ≡ before ++ ts)
        pub levels : (t : Step) → Contains steps t → Contains before t ⊎ (t.level ≡ number)
        pub some : length before < length steps
        pub shows : width q steps (Earlier (length steps - 1)) ≡ length context
        pub one : ShowsOne steps (Earlier (length steps - 1))

      context-apart : AreDifferent context
      context-apart = ascending-apart (within (variables_of q F ++ flat_map (λ (p : Part). p.columns) parts) known)

      one-level : (s : Step) → IsNamedStep q before s → s.kind ≡ Holds → s.level ≡ number → s.columns ≡ context → IsLevelNamed (before ++ s ∷ [])
      one-level s n k l c = record {
        named = named-push [] before s first n;
        grows = (s ∷ [], refl);
        levels = λ t m. elim (Contains-append_cases before (s ∷ []) t m) [ inl o ↦ inl o | inr o ↦ elim (mem-cases t s [] o) [ inl e ↦ inr (ap (λ (z : Step). z.level) (sym e) ∙ l) | inr z ↦ absurd (mem-nil t z) ] ];
        some = omega (arith, length_push before s);
        shows = width-new before s (length (before ++ s ∷ []) - 1) (omega (arith, length_push before s)) ∙ ap length c;
        one = kind-new before s (length (before ++ s ∷ []) - 1) (omega (arith, length_push before s)) k;
      }

      two-levels : (b s : Step) → IsNamedStep q before b × IsNamedStep q (before ++ b ∷ []) s → s.kind ≡ Holds → b.level ≡ number → s.level ≡ number → s.columns ≡ context → b.level ≡ s.level → IsLevelNamed (before ++ b ∷ s ∷ [])
      two-levels b s n k lb ls c e = subst IsLevelNamed (append_assoc before (b ∷ []) (s ∷ [])) (record {
        named = named-push [] (before ++ b ∷ []) s (named-push [] before b first n.0) n.1;
        grows = (b ∷ s ∷ [], append_assoc before (b ∷ []) (s ∷ []));
        levels = λ t m. elim (Contains-append_cases (before ++ b ∷ []) (s ∷ []) t m) [
          | inl o ↦ elim (Contains-append_cases before (b ∷ []) t o) [ inl k ↦ inl k | inr k ↦ elim (mem-cases t b [] k) [ inl f ↦ inr (ap (λ (z : Step). z.level) (sym f) ∙ lb) | inr z ↦ absurd (mem-nil t z) ] ]
          | inr o ↦ elim (mem-cases t s [] o) [ inl f ↦ inr (ap (λ (z : Step). z.level) (sym f) ∙ ls) | inr z ↦ absurd (mem-nil t z) ]
        ];
        some = omega (arith, length_push (before ++ b ∷ []) s, length_push before b);
        shows = width-new (before ++ b ∷ []) s (length ((before ++ b ∷ []) ++ s ∷ []) - 1) (omega (arith, length_push (before ++ b ∷ []) s)) ∙ ap length c;
        one = kind-new (before ++ b ∷ []) s (length ((before ++ b ∷ []) ++ s ∷ []) - 1) (omega (arith, length_push (before ++ b ∷ []) s)) k;
      })

      holds-fresh : (t : Step) → Contains before t → (t.kind ≡ Holds) × (t.level ≡ number) → ⊥
      holds-fresh t m h = let e : Asked ≡ Holds = sym (fresh t m h.1) ∙ h.0 in cc e

      blocks-fresh : (t : Step) → Contains before t → (t.kind ≡ Blocks) × (t.level ≡ number) → ⊥
      blocks-fresh t m h = let e : Asked ≡ Blocks = sym (fresh t m h.1) ∙ h.0 in cc e

      abbrev block : List ℕ
      block = block_of q F context

      -- the last of these steps has a block's variables, and none of them is of what holds
      record IsLookedNamed (steps : List Step) : Type 0 where
        named : AreNamedSteps q [] steps
        grows : (ts : List Step) × (steps ≡ before ++ ts)
        levels : (t : Step) → Contains steps t → Contains before t ⊎ ((t.level ≡ number) × (t.kind ≢ Holds))
        some : length before < length steps
        shows : width q steps (Earlier (length steps - 1)) ≡ length block

      -- the steps before, and at most the one of the values of a row further up
      record IsWidenedNamed (steps : List Step) : Type 0 where
        named : AreNamedSteps q [] steps
        grows : (ts : List Step) × (steps ≡ before ++ ts)
        longer : length before ≤ length steps
        levels : (t : Step) → Contains steps t → Contains before t ⊎ ((t.level ≡ number) × (t.kind ≡ Rows))

      rows-fresh : (t : Step) → Contains before t → (t.kind ≡ Rows) × (t.level ≡ number) → ⊥
      rows-fresh t m h = let e : Asked ≡ Rows = sym (fresh t m h.1) ∙ h.0 in cc e

      before-named : IsWidenedNamed before
      before-named = record { named = first; grows = ([], sym (append-nil before)); longer = omega arith; levels = λ t m. inl m }

      looked-named : (ss : List Step) → IsWidenedNamed ss → (select : Select) → IsNamedSelect q ss select → length select.cells ≡ length block → IsLookedNamed (ss ++ step Blocks number block (Distinct select) ∷ [])
      looked-named ss h select n long = record {
        named = named-push [] ss b h.named (record { fresh = fresh-blocks; body = n; long = long; apart = block-apart q F context context-apart });
        grows = (h.grows.0 ++ b ∷ [], ap (λ z. z ++ b ∷ []) h.grows.1 ∙ append_assoc before h.grows.0 (b ∷ []));
        levels = λ t m. elim (Contains-append_cases ss (b ∷ []) t m) [
          | inl o ↦ elim (h.levels t o) [ inl k ↦ inl k | inr k ↦ inr (k.0, λ e. let f : Rows ≡ Holds = sym k.1 ∙ e in cc f) ]
          | inr o ↦ elim (mem-cases t b [] o) [ inl e ↦ inr (ap (λ (z : Step). z.level) (sym e), λ f. let g : Blocks ≡ Holds = ap (λ (z : Step). z.kind) e ∙ f in cc g) | inr z ↦ absurd (mem-nil t z) ]
        ];
        some = omega (arith, length_push ss b, h.longer);
        shows = width-new ss b (length (ss ++ b ∷ []) - 1) (omega (arith, length_push ss b));
      }
        where
          b : Step
          b = step Blocks number block (Distinct select)

          fresh-blocks : (t : Step) → Contains ss t → (t.kind ≡ Blocks) × (t.level ≡ number) → ⊥
          fresh-blocks t m e = elim (h.levels t m) [ inl o ↦ blocks-fresh t o e | inr o ↦ (let f : Rows ≡ Blocks = sym o.1 ∙ e.0 in cc f) ]

      -- the rows of an atom before
      alone-named : (b : Bound) → Contains bounds b → (vs : List ℕ) → ((v : ℕ) → Contains vs v → Contains (variables_of q b.atom) v) → IsNamedSelect q before (rows_of_atom q b.atom b.only [] vs)
      alone-named b m vs of = rows-named before b.atom (bound b m).0 known [] (λ p n. absurd (mem-nil p n)) tt b.only (bound b m).1 vs (λ v n. inl (of v n))

      module _ (near far : Bound) (mn : Contains bounds near) (mf : Contains bounds far) (t : completes q near block far ≡ true) where
        abbrev two_columns : List ℕ
        two_columns = far_columns q near far block

        abbrev two_part : Part
        two_part = rows_part number (length before) two_columns

        abbrev rows : Step
        rows = step Rows number two_columns (Distinct (rows_of_atom q far.atom far.only [] two_columns))

        rows-step : IsNamedStep q before rows
        rows-step = record {
          fresh = rows-fresh;
          body = alone-named far mf two_columns (columns-of q near far (bound near mn).0 (bound far mf).0 block number (length before));
          long = length-map two_columns (λ v. cell_of (known_of 1 [] (fitted q far.atom []).known) v);
          apart = ascending-apart (within (variables_of q far.atom) (block ++ variables_of q near.atom));
        }

        widened-named : IsWidenedNamed (before ++ rows ∷ [])
        widened-named = record {
          named = named-push [] before rows first rows-step;
          grows = (rows ∷ [], refl);
          longer = omega (arith, length_push before rows);
          levels = λ s m. elim (Contains-append_cases before (rows ∷ []) s m) [
            | inl o ↦ inl o
            | inr o ↦ elim (mem-cases s rows [] o) [ inl e ↦ inr (ap (λ (z : Step). z.level) (sym e), ap (λ (z : Step). z.kind) (sym e)) | inr z ↦ absurd (mem-nil s z) ]
          ];
        }

        part-there : AreThere q (before ++ rows ∷ []) (two_part ∷ [])
        part-there = of-part q near far (bound near mn).0 (bound far mf).0 block number (length before)
            (λ p. (p.step < length (before ++ rows ∷ [])) × (width q (before ++ rows ∷ []) (Earlier p.step) ≡ length p.columns))
            ((let l : length before < length (before ++ rows ∷ []) = omega (arith, length_push before rows) in l), width-new before rows (length before) refl)

        near-select : IsNamedSelect q (before ++ rows ∷ []) (rows_of_atom q near.atom near.only (two_part ∷ []) block)
        near-select = rows-named (before ++ rows ∷ []) near.atom (bound near mn).0 known (two_part ∷ []) part-there ((λ y m. absurd (mem-nil y m)), tt) near.only (only-more before (rows ∷ []) near.atom near.only (bound near mn).1) block
            (of-two q near far (bound near mn).0 (bound far mf).0 block number (length before) known t)

        two-named : IsLookedNamed (before ++ two_steps q number near far block (length before))
        two-named = subst IsLookedNamed (append_assoc before (rows ∷ []) (step Blocks number block (Distinct (rows_of_atom q near.atom near.only (two_part ∷ []) block)) ∷ []))
            (looked-named (before ++ rows ∷ []) widened-named (rows_of_atom q near.atom near.only (two_part ∷ []) block) near-select (length-map block (λ v. cell_of (known_of 1 (two_part ∷ []) (fitted q near.atom []).known) v)))

      -- so for steps that may be there
      abbrev AreLookedNamed : Option (List Step) → Type 0
      AreLookedNamed None = Unit {0}
      AreLookedNamed (Some steps) = IsLookedNamed (before ++ steps)

      all-looked-named : AreLookedNamed (looked_steps q number F bounds block (length before) (guard_for q bounds block))
      all-looked-named = go (guard_for q bounds block) refl
        where
          by-near : (near : Bound) → Contains bounds near → (found : Option Bound) → first_of (λ b. completes q near block b) bounds ≡ found → AreLookedNamed (far_steps q number block (length before) near found)
          by-near near m None e = tt
          by-near near m (Some far) e = let r = first-in (λ b. completes q near block b) bounds far e in two-named near far m r.0 r.1

          by-key : (found : Option Bound) → guard_for q bounds (key_variables q F) ≡ found → AreLookedNamed (near_steps q number bounds block (length before) found)
          by-key None e = tt
          by-key (Some near) e = by-near near (first-in (λ b. covers (variables_of q b.atom) (key_variables q F)) bounds near e).0 (first_of (λ b. completes q near block b) bounds) refl

          go : (found : Option Bound) → guard_for q bounds block ≡ found → AreLookedNamed (looked_steps q number F bounds block (length before) found)
          go None e = by-key (guard_for q bounds (key_variables q F)) refl
          go (Some g) e =
              let r = guard_for-in q (λ G. []) bounds block g e in
              looked-named before before-named (rows_of_atom q g.atom g.only [] block) (alone-named g r.0 block r.1) (length-map block (λ v. cell_of (known_of 1 [] (fitted q g.atom []).known) v))

      abbrev holds : ℕ → Step
      holds place = step Holds number context (Grouped (context_group q F place block parts context))

      contexts-named : (opened : List Step) → IsLookedNamed opened → IsLevelNamed (opened ++ holds (length opened - 1) ∷ [])
      contexts-named opened h = record {
        named = named-push [] opened (holds place) h.named (record {
          fresh = λ t m e. elim (h.levels t m) [ inl o ↦ holds-fresh t o e | inr o ↦ o.1 e.0 ];
          body = context-named opened F lF known parts (there-at opened parts now) numbers only (subst (λ z. AreOnly z F only) (sym h.grows.1) (only-more before h.grows.0 F only looked)) linked (ones-at opened parts now) place (let l : length opened - 1 < length opened = omega (arith, h.some) in l) h.shows;
          long = length-map context (λ v. cell_of (known_of 2 parts (fitted q F (held 1 0 block)).known) v);
          apart = context-apart;
        });
        grows = (h.grows.0 ++ holds place ∷ [], ap (λ z. z ++ holds place ∷ []) h.grows.1 ∙ append_assoc before h.grows.0 (holds place ∷ []));
        levels = λ t m. elim (Contains-append_cases opened (holds place ∷ []) t m) [
          | inl o ↦ elim (h.levels t o) [ inl k ↦ inl k | inr k ↦ inr k.0 ]
          | inr o ↦ elim (mem-cases t (holds place) [] o) [ inl f ↦ inr (ap (λ (z : Step). z.level) (sym f)) | inr z ↦ absurd (mem-nil t z) ]
        ];
        some = omega (arith, length_push opened (holds place), h.some);
        shows = width-new opened (holds place) (length (opened ++ holds place ∷ []) - 1) (omega (arith, length_push opened (holds place)));
        one = kind-new opened (holds place) (length (opened ++ holds place ∷ []) - 1) (omega (arith, length_push opened (holds place))) refl;
      }
        where
          place : ℕ
          place = length opened - 1

          now : AreAt q opened parts
          now = subst (λ z. AreAt q z parts) (sym h.grows.1) (at-more before h.grows.0 parts at)

      contexts-behind : (steps : List Step) → IsLookedNamed (before ++ steps) → IsLevelNamed (before ++ context_steps q number F context parts (length before) steps)
      contexts-behind steps h = subst IsLevelNamed
          (ap (λ n. (before ++ steps) ++ holds n ∷ []) (let l : length (before ++ steps) - 1 ≡ length before + length steps - 1 = omega (arith, length-append before steps) in l)
          ∙ append_assoc before steps (holds (length before + length steps - 1) ∷ []))
          (contexts-named (before ++ steps) h)

      blocks-named : (a : Bool) → IsLevelNamed (before ++ block_steps q number F context only bounds parts (length before) a)
      blocks-named a = go (has_few q bounds F parts)
        where
          later-fresh : (b t : Step) → b.kind ≡ Blocks → Contains (before ++ b ∷ []) t → (t.kind ≡ Holds) × (t.level ≡ number) → ⊥
          later-fresh b t k m h = elim (Contains-append_cases before (b ∷ []) t m) [
            | inl n ↦ holds-fresh t n h
            | inr n ↦ elim (mem-cases t b [] n) [ inl e ↦ (let g : Blocks ≡ Holds = sym k ∙ ap (λ (z : Step). z.kind) e ∙ h.0 in absurd (cc g)) | inr z ↦ absurd (mem-nil t z) ]
          ]

          few : Step
          few = few_step q number F only parts

          keys : List ℕ
          keys = ascending (key_variables q F)

          few-looked : AreOnly before F (only ++ rare_only q F parts)
          few-looked o m = elim (Contains-append_cases only (rare_only q F parts) o m) [
            | inl n ↦ looked o n
            | inr n ↦
                let r = rare-at q F lF parts o n in
                (rare-own q F lF parts o n, subst (λ (z : Within). z.column < width q before (Earlier z.step)) r.2.3 (subst (λ z. r.2.0 < z) (sym (at r.0 r.1).1) r.2.1))
          ]

          few-step : IsNamedStep q before few
          few-step = record {
            fresh = blocks-fresh;
            body = rows-named before F lF known [] (λ p m. absurd (mem-nil p m)) tt (only ++ rare_only q F parts) few-looked keys (λ v m. inl (keys-within q F lF v (ascending-from (key_variables q F) v m)));
            long = length-map keys (λ v. cell_of (known_of 1 [] (fitted q F []).known) v);
            apart = ascending-apart (key_variables q F);
          }

          each_few : Step
          each_few = step Holds number context (by_block a (block_group q F (keys_in q F (length before) keys) parts context))

          each-looked : AreOnly (before ++ few ∷ []) F (keys_in q F (length before) keys)
          each-looked o m =
              let k = keys-own q F lF (length before) keys (ascending-from (key_variables q F)) o m in
              let r = keys-at q F lF (length before) keys (ascending-from (key_variables q F)) o m in (
                (k.0, key-width q F lF k.0 k.1, k.2),
                subst (λ (z : Within). z.column < width q (before ++ few ∷ []) (Earlier z.step)) r.2 (subst (λ z. r.0 < z) (sym (width-new before few (length before) refl)) r.1),
              )

          long : (b : Bool) (o : List Within) → shown (by_block b (block_group q F o parts context)) ≡ length context
          long true o = length-map context (λ v. cell_of (known_of 1 parts (fitted q F []).known) v)
          long false o = length-map context (λ v. cell_of (known_of 1 parts (fitted q F []).known) v)

          few-each : IsNamedStep q before few × IsNamedStep q (before ++ few ∷ []) each_few
          few-each = (
            few-step,
            record {
              fresh = λ t m h. later-fresh few t refl m h;
              body = by-block-named (before ++ few ∷ []) F lF known parts (there-at (before ++ few ∷ []) parts (at-more before (few ∷ []) parts at)) numbers (keys_in q F (length before) keys) each-looked linked among (ones-at (before ++ few ∷ []) parts (at-more before (few ∷ []) parts at)) a;
              long = long a (keys_in q F (length before) keys);
              apart = context-apart;
            },
          )

          go : (f : Bool) → IsLevelNamed (before ++ cond f (few ∷ each_few ∷ []) (step Holds number context (by_block a (block_group q F only parts context)) ∷ []))
          go true = two-levels few each_few few-each refl refl refl refl refl
          go false = one-level (step Holds number context (by_block a (block_group q F only parts context)))
              (record { fresh = holds-fresh; body = by-block-named before F lF known parts (there-at before parts at) numbers only looked linked among (ones-at before parts at) a; long = long a only; apart = context-apart }) refl refl refl

      behind-named : (found : Option (List Step)) → AreLookedNamed found → IsLevelNamed (before ++ behind_steps q number F context only bounds parts (length before) found)
      behind-named None h = blocks-named false
      behind-named (Some steps) h = contexts-behind steps h

      pub level-named : IsLevelNamed (before ++ level_steps q number F context only bounds parts (length before))
      level-named = go (is_joined q F context bounds parts) (are_single (variables_of q F) parts)
        where
          steps : Option (List Step)
          steps = looked_steps q number F bounds block (length before) (guard_for q bounds block)

          go : (b a : Bool) →
              IsLevelNamed (before ++ cond b (step Holds number context (Distinct (rows_of_atom q F only parts context)) ∷ []) (cond a (block_steps q number F context only bounds parts (length before) true) (behind_steps q number F context only bounds parts (length before) steps)))
          go true a = one-level (step Holds number context (Distinct (rows_of_atom q F only parts context)))
              (record { fresh = holds-fresh; body = rows-named before F lF known parts (there-at before parts at) numbers only looked context (λ v m. (context-from q F lF known parts v m).1); long = length-map context (λ v. cell_of (known_of 1 parts (fitted q F []).known) v); apart = context-apart }) refl refl refl
          go false true = blocks-named true
          go false false = behind-named steps all-looked-named
