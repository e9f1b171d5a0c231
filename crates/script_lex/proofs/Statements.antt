-- Statements, one after another.
use Rattle.std.proofs.Common.{◌≡◌, ◌+◌, ◌-◌, ◌<◌, ◌≤◌, ℕ, Bool, false, List, [], ◌∷◌, ◌++◌, length, take, drop, slice_range, Option, Some, None, IfSome, refl, sym, ◌∙◌, ap, subst, arith, append_assoc, length-take, length-drop}
use Rattle.std.proofs.lemmas.List.{drop-drop}
use Rattle.std.specs.Option.{option_map}
use Rattle.script_lex.specs.declared.kinds.Span.{Span}
use Rattle.script_lex.specs.declared.cutting.Cut.{Cut}
use Rattle.script_lex.specs.declared.cutting.Cut.TheVariants as cuts
use Rattle.script_lex.specs.declared.modes.Mode.TheVariants.{Outside}
use Rattle.script_lex.specs.Scripts.{IsSpace, is_text_byte, IsCopyBlock, Follows, First, Statement, statement_at, StartsWith, HasNoStatement, Begins, Cuts, AtMostOneCut, CutsGoOn, block_at, IsCut}
use Rattle.script_lex.proofs.Leading.{stop_same, semicolon_ends, gap_same, outright-semicolon, space_none}
use Rattle.script_lex.proofs.BlockLines.{block_same, IsBlock-append, skips_same, Skips-append}

follows_same : (ended : Bool) (text : List ℕ) (k l : Option (List ℕ × List ℕ)) (more r q : List ℕ) → Follows ended text k more r → Follows ended text l more q → (k ≡ l) × (r ≡ q)
follows_same ended text None None more r q h g = (refl, sym h.1 ∙ g.1)
follows_same ended text None (Some l) more r q h g = absurd (h.0 g.0)
follows_same ended text (Some k) None more r q h g = absurd (g.0 h.0)
follows_same ended text (Some k) (Some l) more r q h g =
    let skipped = skips_same more k.0 l.0 h.1 g.1 h.2 g.2 in
    let blocks = block_same ended g.1 k.1 l.1 r q (subst (λ z. IsCopyBlock ended z k.1 r) skipped.1 h.3) g.3 in
    (λ i. Some (skipped.0 i, blocks.0 i), blocks.1)

-- the parts of two first statements are the same
pub record SameParts (g f t u : List ℕ) (k l : Option (List ℕ × List ℕ)) (r q : List ℕ) : Type 0 where
  pub gap : g ≡ f
  pub text : t ≡ u
  pub block : k ≡ l
  pub rest : r ≡ q

pub first_same : (ended : Bool) (bytes g f t u : List ℕ) (k l : Option (List ℕ × List ℕ)) (r q : List ℕ) → First ended bytes g t k r → First ended bytes f u l q → SameParts g f t u k l r q
first_same ended bytes g f t u k l r q h j =
    let gaps = gap_same Outside g f (t ++ 59 ∷ h.more) (u ++ 59 ∷ j.more) h.is_gap.leads (outright-semicolon t h.more h.is_text.outright) j.is_gap.leads (outright-semicolon u j.more j.is_text.outright)
    (sym h.whole ∙ j.whole) in
    let texts = stop_same is_text_byte Outside t u h.more j.more 59 59 h.is_text.ends j.is_text.ends h.is_text.leads (semicolon_ends h.is_text.ends h.is_text.closed) j.is_text.leads
    (semicolon_ends j.is_text.ends j.is_text.closed) gaps.1 in
    let tails : h.more ≡ j.more = let both = texts.1 in (cc) in
    let later = follows_same ended u k l j.more r q (subst (λ z. Follows ended z k j.more r) texts.0 (subst (λ z. Follows ended t k z r) tails h.follows)) j.follows in
    record { gap = gaps.0; text = texts.0; block = later.0; rest = later.1 }

pub starts_same : (ended : Bool) (bytes : List ℕ) (s t : Statement) (r q : List ℕ) → StartsWith ended bytes s r → StartsWith ended bytes t q → (s ≡ t) × (r ≡ q)
starts_same ended bytes s t r q h k =
    let same = first_same ended bytes h.gap k.gap s.0 t.0 h.block k.block r q h.first k.first in
    let block : s.1 ≡ t.1 = h.is_block ∙ ap (λ z. option_map (λ p. p.1) z) same.block ∙ sym k.is_block in
    (λ i. (same.text i, block i), same.rest)

begins_same : (ended : Bool) (input : List ℕ) (s t : List Statement) (r q : List ℕ) → Begins ended input s r → HasNoStatement ended r → Begins ended input t q → HasNoStatement ended q → (s ≡ t) × (r ≡ q)
begins_same ended input [] [] r q h n k m = (refl, sym h ∙ k)
begins_same ended input [] (b ∷ t) r q h n k m = absurd (n b k.0 (subst (λ z. StartsWith ended z b k.0) h k.1))
begins_same ended input (a ∷ s) [] r q h n k m = absurd (m a h.0 (subst (λ z. StartsWith ended z a h.0) k h.1))
begins_same ended input (a ∷ s) (b ∷ t) r q h n k m =
    let head = starts_same ended input a b h.0 k.0 h.1 k.1 in
    let later = begins_same ended k.0 s t r q (subst (λ z. Begins ended z s r) head.1 h.2) n k.2 m in
    (ap (λ z. z ∷ s) head.0 ∙ ap (λ z. b ∷ z) later.0, later.1)

pub at_most_one_cut : AtMostOneCut
at_most_one_cut ended input s t r q h k = begins_same ended input s t r q h.begins h.over k.begins k.over

Follows-append : (ended : Bool) (text : List ℕ) (k : Option (List ℕ × List ℕ)) (bytes rest more : List ℕ) → Follows false text k bytes rest → Follows ended text k (bytes ++ more) (rest ++ more)
Follows-append ended text None bytes rest more h = (h.0, ap (λ z. z ++ more) h.1)
Follows-append ended text (Some k) bytes rest more h = (h.0, h.1 ++ more, Skips-append bytes k.0 h.1 more k.1 rest h.2 h.3, IsBlock-append ended h.1 more k.1 rest h.3)

First-append : (ended : Bool) (bytes gap text : List ℕ) (k : Option (List ℕ × List ℕ)) (rest more : List ℕ) → First false bytes gap text k rest → First ended (bytes ++ more) gap text k (rest ++ more)
First-append ended bytes gap text k rest more h = record {
  is_gap = h.is_gap;
  is_text = h.is_text;
  more = h.more ++ more;
  whole = ap (λ z. z ++ more) h.whole ∙ append_assoc gap (text ++ 59 ∷ h.more) more ∙ ap (λ z. gap ++ z) (append_assoc text (59 ∷ h.more) more);
  follows = Follows-append ended text k h.more rest more h.follows;
}

-- a statement that is complete before the end of the input stays the first, whatever follows
pub StartsWith-append : (ended : Bool) (bytes more : List ℕ) (s : Statement) (rest : List ℕ) → StartsWith false bytes s rest → StartsWith ended (bytes ++ more) s (rest ++ more)
StartsWith-append ended bytes more s rest h = record { gap = h.gap; block = h.block; first = First-append ended bytes h.gap s.0 h.block rest more h.first; is_block = h.is_block }

-- so do several
pub Begins-append : (ended : Bool) (input more : List ℕ) (s : List Statement) (rest : List ℕ) → Begins false input s rest → Begins ended (input ++ more) s (rest ++ more)
Begins-append ended input more [] rest h = ap (λ z. z ++ more) h
Begins-append ended input more (a ∷ s) rest h = (h.0 ++ more, StartsWith-append ended input more a h.0 h.1, Begins-append ended h.0 more s rest h.2)

-- statements that stand first are the first of the cut
pub begins_first : (ended : Bool) (input : List ℕ) (s t : List Statement) (r q : List ℕ) → Begins ended input s r → Begins ended input t q → HasNoStatement ended q → (later : List Statement) × (t ≡ s ++ later)
begins_first ended input [] t r q h k n = (t, refl)
begins_first ended input (a ∷ s) [] r q h k n = absurd (n a h.0 (subst (λ z. StartsWith ended z a h.0) k h.1))
begins_first ended input (a ∷ s) (b ∷ t) r q h k n =
    let head = starts_same ended input a b h.0 k.0 h.1 k.1 in
    let later = begins_first ended k.0 s t r q (subst (λ z. Begins ended z s r) head.1 h.2) k.2 n in
    (later.0, ap (λ z. z ∷ t) (sym head.0) ∙ ap (λ z. a ∷ z) later.1)

pub cuts_go_on : CutsGoOn
cuts_go_on ended input more s t r q h k = begins_first ended (input ++ more) s t (r ++ more) q (Begins-append ended input more s r h.begins) k.begins k.over

-- blanks and comments hold no statement
pub space_over : (ended : Bool) (bytes : List ℕ) → IsSpace bytes → HasNoStatement ended bytes
space_over ended bytes h s rest k = space_none k.gap s.0 k.first.more k.first.is_gap k.first.is_text (subst IsSpace k.first.whole h)

block_of : (bytes : List ℕ) (to : ℕ) (block : Option Span) → option_map (λ b. slice_range bytes b.from b.to) block ≡ option_map (λ p. p.1) (block_at bytes to block)
block_of bytes to None = refl
block_of bytes to (Some b) = refl

-- a first cut is the first statement
pub first_statement : (ended : Bool) (bytes : List ℕ) (text : Span) (block : Option Span) (rest : ℕ) → IsCut ended bytes (cuts.Statement text block rest) → StartsWith ended bytes (statement_at bytes text block) (drop rest bytes)
first_statement ended bytes text block rest h = record { gap = take text.from bytes; block = block_at bytes text.to block; first = h.1; is_block = block_of bytes text.to block }

-- one statement more
pub Begins-push : (ended : Bool) (input : List ℕ) (s : List Statement) (mid : List ℕ) (t : Statement) (rest : List ℕ) → Begins ended input s mid → StartsWith ended mid t rest → Begins ended input (s ++ t ∷ []) rest
Begins-push ended input [] mid t rest h k = (rest, subst (λ z. StartsWith ended z t rest) (sym h) k, refl)
Begins-push ended input (a ∷ s) mid t rest h k = (h.0, h.1, Begins-push ended h.0 s mid t rest h.2 k)

-- For a loop over an input: the statements before a place, and the first cut there.

pub Begins-statement : (ended : Bool) (input : List ℕ) (s : List Statement) (place : ℕ) (text : Span) (block : Option Span) (at : ℕ) → Begins ended input s (drop place input) → IsCut ended (drop place input) (cuts.Statement text block at)
    → Begins ended input (s ++ statement_at (drop place input) text block ∷ []) (drop (place + at) input)
Begins-statement ended input s place text block at h k =
    subst (Begins ended input (s ++ statement_at (drop place input) text block ∷ [])) (drop-drop at place input)
    (Begins-push ended input s (drop place input) (statement_at (drop place input) text block) (drop at (drop place input)) h (first_statement ended (drop place input) text block at k))

pub Cuts-blank : (ended : Bool) (input : List ℕ) (s : List Statement) (rest : List ℕ) → Begins ended input s rest → IsCut ended rest cuts.Blank → Cuts ended input s rest
Cuts-blank ended input s rest h k = record { begins = h; over = space_over ended rest k }

pub Cuts-part : (ended : Bool) (input : List ℕ) (s : List Statement) (rest : List ℕ) → Begins ended input s rest → IsCut ended rest cuts.Part → Cuts ended input s rest
Cuts-part ended input s rest h k = record { begins = h; over = k.1 }

-- an input that its statements take up
pub Cuts-end : (ended : Bool) (input : List ℕ) (s : List Statement) → Begins ended input s [] → Cuts ended input s []
Cuts-end ended input s h = Cuts-blank ended input s [] h (record { ends = Outside; leads = refl; whole = λ e. absurd (cc e) })

-- For a recursion: the first statement before the cut of what follows it.
pub Cuts-statement : (ended : Bool) (bytes : List ℕ) (text : Span) (block : Option Span) (at : ℕ) (s : List Statement) (rest : List ℕ) → IsCut ended bytes (cuts.Statement text block at) → Cuts ended (drop at bytes) s rest
    → Cuts ended bytes (statement_at bytes text block ∷ s) rest
Cuts-statement ended bytes text block at s rest h k = record { begins = (drop at bytes, first_statement ended bytes text block at h, k.begins); over = k.over }

-- spans of the same bytes are the same

take_same : (bytes : List ℕ) (m n : ℕ) → m ≤ length bytes → n ≤ length bytes → take m bytes ≡ take n bytes → m ≡ n
take_same bytes m n lm ln e = omega (arith, length-take m bytes, length-take n bytes, ap length e)

range_same : (bytes : List ℕ) (from a b : ℕ) → from ≤ a → from ≤ b → a ≤ length bytes → b ≤ length bytes → slice_range bytes from a ≡ slice_range bytes from b → a ≡ b
range_same bytes from a b fa fb la lb e =
    omega (arith, length-take (a - from) (drop from bytes), length-take (b - from) (drop from bytes), length-drop from bytes, ap length e)

drop_same : (bytes : List ℕ) (m n : ℕ) → m ≤ length bytes → n ≤ length bytes → drop m bytes ≡ drop n bytes → m ≡ n
drop_same bytes m n lm ln e = omega (arith, length-drop m bytes, length-drop n bytes, ap length e)

span_same : (a b : Span) → a.from ≡ b.from → a.to ≡ b.to → a ≡ b
span_same a b f t = λ i. record { from = f i; to = t i }

blocks_same : (bytes : List ℕ) (to r q : ℕ) (k l : Option Span) → r ≤ length bytes → q ≤ length bytes → IfSome k (λ b. (to < b.from) × (b.from ≤ b.to) × (b.to ≤ r)) → IfSome l (λ b. (to < b.from) × (b.from ≤ b.to) × (b.to ≤ q))
    → block_at bytes to k ≡ block_at bytes to l → k ≡ l
blocks_same bytes to r q None None lr lq h g e = refl
blocks_same bytes to r q None (Some b) lr lq h g e = (cc)
blocks_same bytes to r q (Some a) None lr lq h g e = (cc)
blocks_same bytes to r q (Some a) (Some b) lr lq h g e =
    let skipped : slice_range bytes (to + 1) a.from ≡ slice_range bytes (to + 1) b.from = ap (λ z. skipped_of z) e in
    let inside : slice_range bytes a.from a.to ≡ slice_range bytes b.from b.to = ap (λ z. inside_of z) e in
    let from : a.from ≡ b.from = range_same bytes (to + 1) a.from b.from (omega arith) (omega arith) (omega arith) (omega arith) skipped in
    let end : a.to ≡ b.to = range_same bytes b.from a.to b.to (omega arith) (omega arith) (omega arith) (omega arith) (subst (λ z. slice_range bytes z a.to ≡ slice_range bytes b.from b.to) from inside) in
    ap Some (span_same a b from end)
  where
    skipped_of : Option (List ℕ × List ℕ) → List ℕ
    skipped_of None = []
    skipped_of (Some p) = p.0

    inside_of : Option (List ℕ × List ℕ) → List ℕ
    inside_of None = []
    inside_of (Some p) = p.1

-- a first cut is one alone
pub cut_same : (ended : Bool) (bytes : List ℕ) (c d : Cut) → IsCut ended bytes c → IsCut ended bytes d → d ≡ c
cut_same ended bytes (cuts.Statement t k r) (cuts.Statement u l q) h g =
    let same = first_same ended bytes (take t.from bytes) (take u.from bytes) (slice_range bytes t.from t.to) (slice_range bytes u.from u.to) (block_at bytes t.to k) (block_at bytes u.to l) (drop r bytes) (drop q bytes) h.1 g.1 in
    let hs = h.0.begins in
    let he = h.0.ends in
    let hw = h.0.within in
    let gs = g.0.begins in
    let ge = g.0.ends in
    let gw = g.0.within in
    let from : t.from ≡ u.from = take_same bytes t.from u.from (omega arith) (omega arith) same.gap in
    let to : t.to ≡ u.to = range_same bytes u.from t.to u.to (omega arith) (omega arith) (omega arith) (omega arith) (subst (λ z. slice_range bytes z t.to ≡ slice_range bytes u.from u.to) from same.text) in
    let rest : r ≡ q = drop_same bytes r q hw gw same.rest in
    let block : k ≡ l = blocks_same bytes u.to r q k l hw gw (subst (λ z. IfSome k (λ b. (z < b.from) × (b.from ≤ b.to) × (b.to ≤ r))) to h.0.block_within) g.0.block_within
    (subst (λ z. block_at bytes z k ≡ block_at bytes u.to l) to same.block) in
    sym (λ i. cuts.Statement (span_same t u from to i) (block i) (rest i))
cut_same ended bytes (cuts.Statement t k r) cuts.Blank h g = absurd (space_over ended bytes g (statement_at bytes t k) (drop r bytes) (first_statement ended bytes t k r h))
cut_same ended bytes (cuts.Statement t k r) cuts.Part h g = absurd (g.1 (statement_at bytes t k) (drop r bytes) (first_statement ended bytes t k r h))
cut_same ended bytes cuts.Blank (cuts.Statement u l q) h g = absurd (space_over ended bytes h (statement_at bytes u l) (drop q bytes) (first_statement ended bytes u l q g))
cut_same ended bytes cuts.Blank cuts.Blank h g = refl
cut_same ended bytes cuts.Blank cuts.Part h g = absurd (g.0 h)
cut_same ended bytes cuts.Part (cuts.Statement u l q) h g = absurd (h.1 (statement_at bytes u l) (drop q bytes) (first_statement ended bytes u l q g))
cut_same ended bytes cuts.Part cuts.Blank h g = absurd (h.0 g)
cut_same ended bytes cuts.Part cuts.Part h g = refl
