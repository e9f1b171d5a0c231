-- Steps of the reading, one behind another.
use Rattle.std.proofs.Common.{◌≡◌, ◌≤◌, ◌+◌, ◌-◌, inl, inr, ℕ, suc, true, List, [], ◌∷◌, ◌++◌, length, take, drop, slice_range, Option, Result, Ok, Err, IfErr, IsErrAnd, refl, ap, sym, subst, arith, length-append, length-drop}
use Rattle.cqa_value.specs.declared.memory.Fail.{Fail}
use Rattle.cqa_value.specs.declared.memory.Fail.TheVariants.{NoMemory, Refused}
use Rattle.std.specs.Option.{option_map}
use Rattle.std.proofs.lemmas.List.{take_rest}
use Rattle.script_lex.specs.declared.kinds.Span.{Span}
use Rattle.script_lex.specs.declared.cutting.Cut.TheVariants as cuts
use Rattle.script_lex.specs.Scripts.{Statement as Part, StartsWith, Begins, IsSpace, IsCut, statement_at}
use Rattle.script_lex.proofs.Statements.{first_statement, space_over}
use Rattle.block_tree.specs.declared.node.Node.{Node}
use Rattle.rewrite_check.specs.declared.certificate.Certificate.{Certificate}
use Rattle.rewrite_check.specs.Spelling.{Stage, Created, Asked, Ordered, LeadsOn, LeadsThrough, IsOrdered, SpellsCertificate}
use Rattle.rewrite_check.specs.Reading.{Position, TakesText, IsAtEnd, IsDueAt, GoesFrom, IsBadStatement, IfRefused}

begins_more : (input mid rest : List ℕ) (front back : List Part) → Begins true input front mid → Begins true mid back rest → Begins true input (front ++ back) rest
begins_more input mid rest [] back a b = subst (λ z. Begins true z back rest) (sym a) b
begins_more input mid rest (p ∷ front) back a b = (a.0, a.1, begins_more a.0 mid rest front back a.2 b)

leads_more : (stage mid last : Stage) (front back : List Part) → LeadsThrough stage front mid → LeadsThrough mid back last → LeadsThrough stage (front ++ back) last
leads_more stage mid last [] back a b = subst (λ z. LeadsThrough z back last) (sym a) b
leads_more stage mid last (p ∷ front) back a b = (a.0, a.1, leads_more a.0 mid last front back a.2 b)

-- nothing is read
pub none_read : (stage : Stage) (at : Position) → GoesFrom stage at stage at
none_read stage at = record { front = []; begins = refl; leads = refl; count = omega arith }

-- one statement
pub one_read : (stage next : Stage) (old new : Position) (text : List ℕ) → TakesText old text new → LeadsOn stage text next → GoesFrom stage old next new
one_read stage next old new text t l = record {
  front = (text, t.block) ∷ [];
  begins = (new.bytes, t.starts, refl);
  leads = (next, l, refl);
  count = t.count;
}

-- more behind those that are read
pub more_read : (stage mid last : Stage) (a b c : Position) → GoesFrom stage a mid b → GoesFrom mid b last c → GoesFrom stage a last c
more_read stage mid last a b c g h = record {
  front = g.front ++ h.front;
  begins = begins_more a.bytes b.bytes c.bytes g.front h.front g.begins h.begins;
  leads = leads_more stage mid last g.front h.front g.leads h.leads;
  count = omega (arith, g.count, h.count, length-append g.front h.front);
}

-- a bad statement behind those that are read
pub bad_behind : (stage mid : Stage) (a b : Position) (number : ℕ) → GoesFrom stage a mid b → IsBadStatement mid b number → IsBadStatement stage a number
bad_behind stage mid a b number g bad = record {
  front = g.front ++ bad.front;
  left = bad.left;
  last = bad.last;
  begins = begins_more a.bytes b.bytes bad.left g.front bad.front g.begins bad.begins;
  leads = leads_more stage mid bad.last g.front bad.front g.leads bad.leads;
  number_is = omega (arith, g.count, bad.number_is, length-append g.front bad.front);
  ends = bad.ends;
}

-- a statement that isn't of its form
pub bad_text : (stage : Stage) (old new : Position) (text : List ℕ) (number : ℕ) → TakesText old text new → number ≡ new.before → ((next : Stage) → LeadsOn stage text next → ⊥) → IsBadStatement stage old number
bad_text stage old new text number t is none = record {
  front = [];
  left = old.bytes;
  last = stage;
  begins = refl;
  leads = refl;
  number_is = omega (arith, is, t.count);
  ends = inl ((text, t.block), new.bytes, t.starts, none);
}

-- a statement that is missing
pub bad_missing : (stage : Stage) (old : Position) (number : ℕ) → IsDueAt old number → (IsOrdered stage → ⊥) → IsBadStatement stage old number
bad_missing stage old number due more = record {
  front = [];
  left = old.bytes;
  last = stage;
  begins = refl;
  leads = refl;
  number_is = omega (arith, due.1);
  ends = inr (due.0, λ end. more end.1);
}

-- an end that isn't blank
pub bad_end : (stage : Stage) (old : Position) (number : ℕ) → IsDueAt old number → (IsAtEnd old → ⊥) → IsBadStatement stage old number
bad_end stage old number due rest = record {
  front = [];
  left = old.bytes;
  last = stage;
  begins = refl;
  leads = refl;
  number_is = omega (arith, due.1);
  ends = inr (due.0, λ end. rest (record { blank = end.0; over = due.0 }));
}

-- all is read
pub all_read : (bytes : List ℕ) (c : Certificate) (last : Position) → GoesFrom (Created []) (record { bytes = bytes; before = 0 }) (Ordered c) last → IsAtEnd last → SpellsCertificate bytes c
all_read bytes c last g end = record { parts = g.front; rest = last.bytes; begins = g.begins; ends = end.over; blank = end.blank; leads = g.leads }

-- how many blocks are listed
abbrev listed : Stage → List Node
listed (Created db) = []
listed (Asked db select q row) = []
listed (Ordered c) = c.nodes

one_listed : (stage : Stage) (text : List ℕ) (next : Stage) → LeadsOn stage text next → length (listed next) ≤ suc (length (listed stage))
one_listed (Created db) text (Created n) l = omega arith
one_listed (Created db) text (Asked o s q r) l = omega arith
one_listed (Created db) text (Ordered c) l = absurd l
one_listed (Asked db s q r) text (Created n) l = absurd l
one_listed (Asked db s q r) text (Asked o t k w) l = absurd l
one_listed (Asked db s q r) text (Ordered c) l = let e = ap (λ (z : Certificate). length z.nodes) l.3 in omega (arith, e)
one_listed (Ordered c) text (Created n) l = absurd l
one_listed (Ordered c) text (Asked o s q r) l = absurd l
one_listed (Ordered c) text (Ordered e) l = let h = ap (λ (z : Certificate). length z.nodes) l.3 in omega (arith, h, length-append {A = Node})

all_listed : (stage : Stage) (front : List Part) (last : Stage) → LeadsThrough stage front last → length (listed last) ≤ length (listed stage) + length front
all_listed stage [] last l = let e = ap (λ z. length (listed z)) l in omega (arith, e)
all_listed stage (p ∷ front) last l = omega (arith, one_listed stage p.0 l.0 l.1, all_listed l.0 front last l.2)

-- no more than statements are read
pub few_listed : (bytes : List ℕ) (c : Certificate) (last : Position) → GoesFrom (Created []) (record { bytes = bytes; before = 0 }) (Ordered c) last → length c.nodes ≤ last.before
few_listed bytes c last g = omega (arith, g.count, all_listed (Created []) g.front (Ordered c) g.leads)

-- what is said of a refusal's number, said of more
pub refused_on : (fail : Fail ℕ) (P Q : ℕ → Type 0) → ((n : ℕ) → P n → Q n) → IfRefused P fail → IfRefused Q fail
refused_on NoMemory P Q more h = h
refused_on (Refused n) P Q more h = more n h

pub bad_on : {T : Type 0} (result : Result T (Fail ℕ)) (P Q : ℕ → Type 0) → ((n : ℕ) → P n → Q n) → IfErr result (IfRefused P) → IfErr result (IfRefused Q)
bad_on (Ok x) P Q more h = h
bad_on (Err NoMemory) P Q more h = h
bad_on (Err (Refused n)) P Q more h = more n h

-- a refusal that is handed on
pub bad_out : {T : Type 0} (result : Result T (Fail ℕ)) (fail : Fail ℕ) (P Q : ℕ → Type 0) → ((n : ℕ) → P n → Q n) → IsErrAnd result (λ e. e ≡ fail) → IfRefused P fail → IfErr result (IfRefused Q)
bad_out (Ok x) fail P Q more is h = absurd is
bad_out {T} (Err e) fail P Q more is h = bad_on {T = T} (Err e) P Q more (subst (IfRefused P) (sym is) h)

-- ---- what a cut of the bytes that are left says of a position

module _ (bytes : List ℕ) (before : ℕ) (old : Position) (is : record { bytes = bytes; before = before } ≡ old) where
  pub cut_taken : (text : Span) (block : Option Span) (rest : ℕ) → IsCut true bytes (cuts.Statement text block rest) →
      TakesText old (slice_range bytes text.from text.to) (record { bytes = take (length bytes - rest) (drop rest bytes); before = before + 1 })
  cut_taken text block rest h = subst (λ (p : Position). TakesText p (slice_range bytes text.from text.to) (record { bytes = take (length bytes - rest) (drop rest bytes); before = before + 1 })) is (record {
    block = option_map (λ (b : Span). slice_range bytes b.from b.to) block;
    starts = subst (λ z. StartsWith true bytes (statement_at bytes text block) z) (sym (take_rest bytes rest)) (first_statement true bytes text block rest h);
    count = refl;
    shorter = rw take_rest (omega (arith, length-drop rest bytes, h.0.ends, h.0.within));
  })

  pub cut_blank : IsSpace bytes → IsAtEnd old
  cut_blank h = subst IsAtEnd is (record { blank = h; over = space_over true bytes h })

  pub cut_broken : IsCut true bytes cuts.Part → IsDueAt old (before + 1) × (IsAtEnd old → ⊥)
  cut_broken h = subst (λ (p : Position). IsDueAt p (before + 1) × (IsAtEnd p → ⊥)) is ((h.1, refl), λ end. h.0 end.blank)
