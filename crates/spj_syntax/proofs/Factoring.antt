-- The grammar and its factored form generate the same tokens.
use Rattle.std.proofs.Common.{◌≡◌, inl, inr, List, [], ◌∷◌, ◌++◌, refl, sym, ◌∙◌, ap, append_assoc, codes}
use Rattle.std.specs.List.{AllByRecursion}
use Rattle.spj_syntax.specs.Lexemes.{Lexeme}
use Rattle.script_lex.specs.declared.kinds.Symbol.TheVariants.{Open, Close, Comma, Dot, Eq}
use Rattle.spj_syntax.specs.Shapes.{word, mark, Shape, one, ◌⨾◌, ◌∣◌, many, nothing, Generates, joined, FirstFault, Stuck}
use Rattle.spj_syntax.specs.Grammar as grammar
use Rattle.spj_syntax.specs.Factored as factored
use Rattle.std.proofs.lemmas.List.{append-nil}

record Same (p q : Shape) : Type 0 where
  to : (ls : List Lexeme) → Generates p ls → Generates q ls
  from : (ls : List Lexeme) → Generates q ls → Generates p ls

same : (p : Shape) → Same p p
same p = record { to = λ ls g. g; from = λ ls g. g }

both : {p q r s : Shape} → Same p q → Same r s → Same (p ⨾ r) (q ⨾ s)
both f h = record {
  to = λ ls g. (g.0, g.1, f.to g.0 g.2, h.to g.1 g.3, g.4);
  from = λ ls g. (g.0, g.1, f.from g.0 g.2, h.from g.1 g.3, g.4);
}

either : {p q r s : Shape} → Same p q → Same r s → Same (p ∣ r) (q ∣ s)
either f h = record {
  to = λ ls g. elim g [ inl x ↦ inl (f.to ls x) | inr y ↦ inr (h.to ls y) ];
  from = λ ls g. elim g [ inl x ↦ inl (f.from ls x) | inr y ↦ inr (h.from ls y) ];
}

each : (P Q : List Lexeme → Type 0) → ((ls : List Lexeme) → P ls → Q ls) → (parts : List (List Lexeme)) → AllByRecursion P parts → AllByRecursion Q parts
each P Q f [] h = tt
each P Q f (part ∷ parts) h = (f part h.0, each P Q f parts h.1)

often : {p q : Shape} → Same p q → Same (many p) (many q)
often {p = p} {q = q} f = record {
  to = λ ls g. (g.0, each (Generates p) (Generates q) f.to g.0 g.1, g.2);
  from = λ ls g. (g.0, each (Generates q) (Generates p) f.from g.0 g.1, g.2);
}

turned : (a c d more b f rest : List Lexeme) → d ++ (more ++ b) ≡ f ++ rest → a ++ (((c ++ d) ++ more) ++ b) ≡ (a ++ c) ++ (f ++ rest)
turned a c d more b f rest e = simp append_assoc (ap (λ z. a ++ (c ++ z)) e)

-- p, each q and p, and q; or each p and q
turn : (p q : Shape) (parts : List (List Lexeme)) (a b : List Lexeme) → Generates p a → AllByRecursion (Generates (q ⨾ p)) parts → Generates q b
    → (first : List Lexeme) × (others : List (List Lexeme)) × Generates (p ⨾ q) first × AllByRecursion (Generates (p ⨾ q)) others × (a ++ (joined parts ++ b) ≡ first ++ joined others)
turn p q [] a b g h k = (a ++ b, [], (a, b, g, k, refl), tt, sym (append-nil (a ++ b)))
turn p q (x ∷ parts) a b g h k =
    let w = h.0 in
    let t = turn p q parts w.1 b w.3 h.1 k in (
      a ++ w.0,
      t.0 ∷ t.1,
      (a, w.0, g, w.2, refl),
      (t.2, t.3),
      ap (λ z. a ++ ((z ++ joined parts) ++ b)) w.4 ∙ turned a w.0 w.1 (joined parts) b t.0 (joined t.1) t.4,
    )

returned : (a c d f rest more b : List Lexeme) → (d ++ f) ++ rest ≡ d ++ (more ++ b) → (a ++ c) ++ ((d ++ f) ++ rest) ≡ a ++ (((c ++ d) ++ more) ++ b)
returned a c d f rest more b e = ap (λ z. (a ++ c) ++ z) e ∙ simp append_assoc refl

turn_back : (p q : Shape) (parts : List (List Lexeme)) (a c : List Lexeme) → Generates q c → AllByRecursion (Generates (p ⨾ q)) parts
    → (others : List (List Lexeme)) × (b : List Lexeme) × AllByRecursion (Generates (q ⨾ p)) others × Generates q b × ((a ++ c) ++ joined parts ≡ a ++ (joined others ++ b))
turn_back p q [] a c g h = ([], c, tt, g, append-nil (a ++ c))
turn_back p q (y ∷ parts) a c g h =
    let w = h.0 in
    let t = turn_back p q parts w.0 w.1 w.3 h.1 in (
      (c ++ w.0) ∷ t.0,
      t.1,
      ((c, w.0, g, w.2, refl), t.2),
      t.3,
      ap (λ z. (a ++ c) ++ (z ++ joined parts)) w.4 ∙ returned a c w.0 w.1 (joined parts) (joined t.0) t.1 t.4,
    )

trailing : (p q r : Shape) → Same (p ⨾ many (q ⨾ p) ⨾ q ⨾ r) (((p ⨾ q) ⨾ many (p ⨾ q)) ⨾ r)
trailing p q r = record {
  to = λ ls g.
      let m = g.3 in
      let n = m.3 in
      let t = turn p q m.2.0 g.0 n.0 g.2 m.2.1 n.2 in (
        t.0 ++ joined t.1,
        n.1,
        (t.0, joined t.1, t.2, (t.1, t.3, refl), refl),
        n.3,
        g.4 ∙ ap (λ z. g.0 ++ z) (m.4 ∙ ap (λ z. m.0 ++ z) n.4 ∙ ap (λ z. z ++ (n.0 ++ n.1)) m.2.2 ∙ sym (append_assoc (joined m.2.0) n.0 n.1)) ∙ sym (append_assoc g.0 (joined m.2.0 ++ n.0) n.1) ∙ ap (λ z. z ++ n.1) t.4,
      );
  from = λ ls g.
      let m = g.2 in
      let n = m.2 in
      let t = turn_back p q m.3.0 n.0 n.1 n.3 m.3.1 in (
        n.0,
        joined t.0 ++ (t.1 ++ g.1),
        n.2,
        (joined t.0, t.1 ++ g.1, (t.0, t.2, refl), (t.1, g.1, t.3, g.3, refl), refl),
        g.4 ∙ ap (λ z. z ++ g.1) (m.4 ∙ ap (λ z. z ++ m.1) n.4 ∙ ap (λ z. (n.0 ++ n.1) ++ z) m.3.2 ∙ t.4) ∙ append_assoc n.0 (joined t.0 ++ t.1) g.1 ∙ ap (λ z. n.0 ++ z) (append_assoc (joined t.0) t.1 g.1),
      );
}

-- a beginning drawn out of two
drawn : (p q r : Shape) → Same (p ⨾ q ∣ p ⨾ r) (p ⨾ (q ∣ r))
drawn p q r = record {
  to = λ ls g. elim g [ inl x ↦ (x.0, x.1, x.2, inl x.3, x.4) | inr x ↦ (x.0, x.1, x.2, inr x.3, x.4) ];
  from = λ ls g. let y = g.3 in elim y [ inl x ↦ inl (g.0, g.1, g.2, x, g.4) | inr x ↦ inr (g.0, g.1, g.2, x, g.4) ];
}

then : {p q r : Shape} → Same p q → Same q r → Same p r
then f h = record { to = λ ls g. h.to ls (f.to ls g); from = λ ls g. f.from ls (h.from ls g) }

-- a beginning drawn out of two around another
drawn_around : (o p q r : Shape) → Same (p ⨾ q ∣ o ∣ p ⨾ r) (o ∣ p ⨾ (q ∣ r))
drawn_around o p q r = record {
  to = λ ls g. elim g [
    | inl x ↦ inr (x.0, x.1, x.2, inl x.3, x.4)
    | inr y ↦ elim y [ inl z ↦ inl z | inr z ↦ inr (z.0, z.1, z.2, inr z.3, z.4) ]
  ];
  from = λ ls g. elim g [
    | inl z ↦ inr (inl z)
    | inr x ↦ let y = x.3 in elim y [ inl z ↦ inl (x.0, x.1, x.2, z, x.4) | inr z ↦ inr (inr (x.0, x.1, x.2, z, x.4)) ]
  ];
}

-- e and p, or e or o and q
split : (e o p q : Shape) → Same (e ⨾ p ∣ (e ∣ o) ⨾ q) (e ⨾ (p ∣ q) ∣ o ⨾ q)
split e o p q = record {
  to = λ ls g. elim g [
    | inl x ↦ inl (x.0, x.1, x.2, inl x.3, x.4)
    | inr x ↦ let y = x.2 in elim y [ inl z ↦ inl (x.0, x.1, z, inr x.3, x.4) | inr z ↦ inr (x.0, x.1, z, x.3, x.4) ]
  ];
  from = λ ls g. elim g [
    | inl x ↦ let y = x.3 in elim y [ inl z ↦ inl (x.0, x.1, x.2, z, x.4) | inr z ↦ inr (x.0, x.1, inl x.2, z, x.4) ]
    | inr x ↦ inr (x.0, x.1, inr x.2, x.3, x.4)
  ];
}

same_cond : Same grammar.cond factored.cond
same_cond = then (drawn grammar.col (one (mark Eq) ⨾ grammar.col) (grammar.op ⨾ grammar.literal)) (both (same grammar.col) (split (one (mark Eq)) grammar.op_but_equal grammar.col grammar.literal))

same_query : Same grammar.query factored.query
same_query =
    let a = often (both (same (one (word (codes "and")))) same_cond) in
    both (same grammar.head) (both (same (one (word (codes "from")))) (both (same (grammar.listed grammar.a_name)) (either (both (same (one (word (codes "where")))) (both same_cond a)) (same nothing))))

same_create : Same grammar.create factored.create
same_create =
    both (same (one (word (codes "create")))) (both (same grammar.strict) (both (same (one (word (codes "table")))) (both (same grammar.a_name) (both (same (one (mark Open)))
    (trailing grammar.column (one (mark Comma)) (grammar.key ⨾ one (mark Close)))))))

same_alter : Same grammar.alter factored.alter
same_alter =
    both (same (one (word (codes "alter")))) (both (same (one (word (codes "table")))) (both (same grammar.a_name)
    (drawn_around (one (word (codes "drop")) ⨾ one (word (codes "strict"))) (one (word (codes "set"))) (one (word (codes "strict"))) grammar.key)))

same_united : Same grammar.united factored.united
same_united = both same_query (often (both (same (one (word (codes "union")))) same_query))

same_asking : Same grammar.asking factored.asking
same_asking =
    either (both (same grammar.united_verb) same_united) (both (same grammar.verb) same_query)

same_show : Same grammar.show factored.show
same_show =
    let begin = one (word (codes "show")) in
    let log = one (word (codes "log")) in
    let conflicts = one (word (codes "conflicts")) in
    then (either (same (begin ⨾ one (word (codes "tables")))) (drawn begin log conflicts)) (drawn begin (one (word (codes "tables"))) (log ∣ conflicts))

-- c or e and n, or c or e and n with d or nothing behind it
undotted : (c e n d j s : Shape) → Same ((c ∣ e ⨾ n) ⨾ s ∣ (c ∣ e ⨾ n ⨾ (d ∣ nothing)) ⨾ j) (c ⨾ (j ∣ s) ∣ e ⨾ n ⨾ (d ⨾ j ∣ (j ∣ s)))
undotted c e n d j s = record {
  to = λ ls g. elim g [
    | inl x ↦ let p = x.2 in elim p [
      | inl k ↦ inl (x.0, x.1, k, inr x.3, x.4)
      | inr k ↦ inr (k.0, k.1 ++ x.1, k.2, (k.1, x.1, k.3, inr (inr x.3), refl), x.4 ∙ ap (λ z. z ++ x.1) k.4 ∙ append_assoc k.0 k.1 x.1)
    ]
    | inr x ↦ let p = x.2 in elim p [
      | inl k ↦ inl (x.0, x.1, k, inl x.3, x.4)
      | inr k ↦ let m = k.3 in let q = m.3 in elim q [
        | inl w ↦ inr (
          k.0,
          m.0 ++ (m.1 ++ x.1),
          k.2,
          (m.0, m.1 ++ x.1, m.2, inl (m.1, x.1, w, x.3, refl), refl),
          x.4 ∙ ap (λ z. z ++ x.1) (k.4 ∙ ap (λ z. k.0 ++ z) m.4) ∙ append_assoc k.0 (m.0 ++ m.1) x.1 ∙ ap (λ z. k.0 ++ z) (append_assoc m.0 m.1 x.1),
        )
        | inr w ↦ inr (
          k.0,
          m.0 ++ x.1,
          k.2,
          (m.0, x.1, m.2, inr (inl x.3), refl),
          x.4 ∙ ap (λ z. z ++ x.1) (k.4 ∙ ap (λ z. k.0 ++ z) (m.4 ∙ ap (λ z. m.0 ++ z) w ∙ append-nil m.0)) ∙ append_assoc k.0 m.0 x.1,
        )
      ]
    ]
  ];
  from = λ ls g. elim g [
    | inl x ↦ let p = x.3 in elim p [
      | inl k ↦ inr (x.0, x.1, inl x.2, k, x.4)
      | inr k ↦ inl (x.0, x.1, inl x.2, k, x.4)
    ]
    | inr x ↦ let m = x.3 in let q = m.3 in elim q [
      | inl w ↦ inr (
        x.0 ++ (m.0 ++ w.0),
        w.1,
        inr (x.0, m.0 ++ w.0, x.2, (m.0, w.0, m.2, inl w.2, refl), refl),
        w.3,
        x.4 ∙ ap (λ z. x.0 ++ z) (m.4 ∙ ap (λ z. m.0 ++ z) w.4 ∙ sym (append_assoc m.0 w.0 w.1)) ∙ sym (append_assoc x.0 (m.0 ++ w.0) w.1),
      )
      | inr w ↦ elim w [
        | inl k ↦ inr (
          x.0 ++ m.0,
          m.1,
          inr (x.0, m.0, x.2, (m.0, [], m.2, inr refl, sym (append-nil m.0)), refl),
          k,
          x.4 ∙ ap (λ z. x.0 ++ z) m.4 ∙ sym (append_assoc x.0 m.0 m.1),
        )
        | inr k ↦ inl (x.0 ++ m.0, m.1, inr (x.0, m.0, x.2, m.2, refl), k, x.4 ∙ ap (λ z. x.0 ++ z) m.4 ∙ sym (append_assoc x.0 m.0 m.1))
      ]
    ]
  ];
}

same_behind : Same grammar.behind factored.behind
same_behind =
    let a = often (both (same (one (word (codes "and")))) same_cond) in
    both (same (one (mark Comma))) (both (same (grammar.listed grammar.a_name))
    (both (either (both (same (one (word (codes "where")))) (both same_cond a)) (same nothing)) (same grammar.join_grouped)))

same_range : Same (grammar.range ∣ grammar.range_join) factored.range
same_range =
    let begin = one (word (codes "range")) in
    let count = one (word (codes "count")) in
    let from = one (word (codes "from")) in
    let dotted = one (mark Dot) ⨾ grammar.a_name in
    let alone = grammar.filtered grammar.test ⨾ grammar.grouped in
    let several : Same (from ⨾ grammar.a_name ⨾ grammar.behind) factored.from_several = both (same from) (both (same grammar.a_name) same_behind) in
    let tables : Same (from ⨾ grammar.a_name ⨾ grammar.behind ∣ from ⨾ grammar.a_name ⨾ alone) factored.from_tables =
    then (either several (same (from ⨾ grammar.a_name ⨾ alone))) (then (drawn from (grammar.a_name ⨾ factored.behind) (grammar.a_name ⨾ alone)) (both (same from) (drawn grammar.a_name factored.behind alone))) in
    then (drawn begin (grammar.goal ⨾ from ⨾ grammar.a_name ⨾ alone) (grammar.join_goal ⨾ from ⨾ grammar.a_name ⨾ grammar.behind))
    (both (same begin) (then (undotted count grammar.aggregate grammar.a_name dotted (from ⨾ grammar.a_name ⨾ grammar.behind) (from ⨾ grammar.a_name ⨾ alone))
    (either (both (same count) tables) (both (same grammar.aggregate) (both (same grammar.a_name) (either (both (same dotted) several) tables))))))

same_rest : (ps : List Shape) {p q : Shape} → Same p q → Same (grammar.one_of ps p) (grammar.one_of ps q)
same_rest [] f = f
same_rest (r ∷ ps) f = either (same r) (same_rest ps f)

same_statement : Same grammar.statement factored.statement
same_statement = either (same grammar.set) (either same_create (either same_alter (same_rest grammar.direct (either same_show (either same_range same_asking)))))

pub from_factored : (ls : List Lexeme) → Generates factored.statement ls → Generates grammar.statement ls
from_factored ls g = same_statement.from ls g

pub same_fault : (ls rest : List Lexeme) → FirstFault factored.statement ls rest → FirstFault grammar.statement ls rest
same_fault ls rest f = record {
  front = f.front;
  split = f.split;
  begins = (f.begins.0, from_factored (f.front ++ f.begins.0) f.begins.1);
  stuck = go f.front rest f.stuck;
}
  where
    go : (front rest : List Lexeme) → Stuck factored.statement front rest → Stuck grammar.statement front rest
    go front [] n = λ g. n (same_statement.to front g)
    go front (t ∷ rest) n = λ b. n (b.0, same_statement.to ((front ++ t ∷ []) ++ b.0) b.1)
