-- Where bytes lead, from mode to mode.
use Rattle.std.proofs.Common.{◌≡◌, ◌+◌, ◌<◌, ◌==◌, ℕ, zero, suc, Bool, true, false, not, ◌&&◌, List, [], ◌∷◌, ◌++◌, length, take, drop, get_or, refl, sym, ◌∙◌, ap, subst, arith, length-drop, if◌then◌else◌, take-add}
use Rattle.std.proofs.lemmas.Bool.Decides.{nat_tests}
use Rattle.std.proofs.lemmas.List.{take_more}
use Rattle.cqa_value.proofs.Words.{clash}
use Rattle.script_lex.specs.declared.modes.Mode.{Mode}
use Rattle.script_lex.specs.declared.modes.Mode.TheVariants.{Outside, Dash, Text, Comment}
use Rattle.script_lex.specs.declared.modes.Region.{Region}
use Rattle.script_lex.specs.declared.modes.Region.TheVariants as regions
use Rattle.script_lex.specs.declared.bytes.Class.{Class}
use Rattle.script_lex.specs.declared.bytes.Class.TheVariants.{NotQuote, Plain}
use Rattle.script_lex.specs.Bytes.{is_blank, quote, dash, semicolon, test_of, AllPass, Runs}
use Rattle.script_lex.specs.ScriptParts.{passes_in, Reaches, Stays}
use Rattle.script_lex.specs.Scripts.{after, is_outside, Leads, is_gap_byte, is_text_byte, IsGap, IsSpace, BeginsOutright, IsText}

-- one byte more
pub Leads-push : (test : Mode → ℕ → Bool) (from : Mode) (xs : List ℕ) (to : Mode) (b : ℕ) → Leads test from xs to → test to b ≡ true → Leads test from (xs ++ b ∷ []) (after to b)
Leads-push test from [] to b h k = subst (λ m. Leads test m (b ∷ []) (after to b)) (sym h) (k, refl)
Leads-push test from (x ∷ xs) to b h k = (h.0, Leads-push test (after from x) xs to b h.1 k)

pub Leads-more : (test : Mode → ℕ → Bool) (bytes : List ℕ) (n : ℕ) (from to : Mode) → n < length bytes → Leads test from (take n bytes) to → test to (get_or bytes n 0) ≡ true → Leads test from (take (n + 1) bytes) (after to (get_or bytes n 0))
Leads-more test bytes n from to lt h k = rw (take_more bytes n 0 lt) (Leads-push test from (take n bytes) to (get_or bytes n 0) h k)

pub Leads-append : (test : Mode → ℕ → Bool) (from : Mode) (xs ys : List ℕ) (mid to : Mode) → Leads test from xs mid → Leads test mid ys to → Leads test from (xs ++ ys) to
Leads-append test from [] ys mid to h k = subst (λ m. Leads test m ys to) (sym h) k
Leads-append test from (x ∷ xs) ys mid to h k = (h.0, Leads-append test (after from x) xs ys mid to h.1 k)

-- bytes of a class lead from a mode to itself
Leads-still : (class : Class) (test : Mode → ℕ → Bool) (mode : Mode) → ((b : ℕ) → test_of class b ≡ true → (test mode b ≡ true) × (after mode b ≡ mode)) → (xs : List ℕ) → AllPass (test_of class) xs → Leads test mode xs mode
Leads-still class test mode step [] h = refl
Leads-still class test mode step (b ∷ xs) h = let s = step b h.0 in (s.0, subst (λ m. Leads test m xs mode) (sym s.1) (Leads-still class test mode step xs h.1))

plain_stays : (q d s : Bool) → (not q && not d) && not s ≡ true → (not (true && s) ≡ true) × ((if q then Text else (if d then Dash else Outside)) ≡ Outside)
plain_stays false false false h = (refl, refl)
plain_stays false false true h = absurd (cc)
plain_stays false true s h = absurd (cc)
plain_stays true d s h = absurd (cc)

text_stays : (q : Bool) → not q ≡ true → (if q then Outside else Text) ≡ Text
text_stays false h = refl
text_stays true h = absurd (cc)

pub plain_leads : (bytes : List ℕ) (n : ℕ) → Runs Plain bytes n → Stays regions.Statement Outside bytes n
plain_leads bytes n r = record { within = r.within; leads = Leads-still Plain is_text_byte Outside (λ b h. plain_stays (b == quote) (b == dash) (b == semicolon) h) (take n bytes) r.each }

pub text_leads : (bytes : List ℕ) (n : ℕ) → Runs NotQuote bytes n → Stays regions.Statement Text bytes n
text_leads bytes n r = record { within = r.within; leads = Leads-still NotQuote is_text_byte Text (λ b h. (refl, text_stays (b == quote) h)) (take n bytes) r.each }

-- a place is reached behind bytes that leave its mode as it is
pub reaches_on : (region : Region) (bytes : List ℕ) (at n : ℕ) (mode : Mode) → Reaches region bytes (record { at = at; mode = mode }) → Stays region mode (drop at bytes) n → Reaches region bytes (record { at = at + n; mode = mode })
reaches_on region bytes at n mode h stays = record {
  within = omega (arith, h.within, stays.within, length-drop at bytes);
  leads = rw (take-add at n bytes) (Leads-append (passes_in region) Outside (take at bytes) (take n (drop at bytes)) mode mode h.leads stays.leads);
}

-- bytes that begin with others lead on from where those lead
pub Leads-rest : (test other : Mode → ℕ → Bool) (from : Mode) (xs ys : List ℕ) (mid to : Mode) → Leads test from xs mid → Leads other from (xs ++ ys) to → Leads other mid ys to
Leads-rest test other from [] ys mid to h k = subst (λ m. Leads other m ys to) h k
Leads-rest test other from (x ∷ xs) ys mid to h k = Leads-rest test other (after from x) xs ys mid to h.1 k.1

-- the bytes up to the first that doesn't pass are one list alone
pub stop_same : (test : Mode → ℕ → Bool) (from : Mode) (x y u v : List ℕ) (b c : ℕ) (p q : Mode) → Leads test from x p → test p b ≡ false → Leads test from y q → test q c ≡ false
    → x ++ b ∷ u ≡ y ++ c ∷ v → (x ≡ y) × (b ∷ u ≡ c ∷ v)
stop_same test from [] [] u v b c p q h k g l e = (refl, e)
stop_same test from [] (d ∷ y) u v b c p q h k g l e =
    let same : b ≡ d = cc in absurd (clash (test p b) (subst (λ m. test m b ≡ true) h (rw same g.0)) k)
stop_same test from (a ∷ x) [] u v b c p q h k g l e =
    let same : a ≡ c = cc in absurd (clash (test q c) (subst (λ m. test m c ≡ true) g (rw (← same) h.0)) l)
stop_same test from (a ∷ x) (d ∷ y) u v b c p q h k g l e =
    let head : a ≡ d = cc in
    let rest = stop_same test (after from a) x y u v b c p q h.1 k (subst (λ z. Leads test (after from z) y q) (sym head) g.1) l (cc) in
    (ap (λ z. z ∷ x) head ∙ ap (λ z. d ∷ z) rest.0, rest.1)

-- where all bytes pass, none that doesn't stands behind some
pub stop_none : (test : Mode → ℕ → Bool) (from : Mode) (x u : List ℕ) (b : ℕ) (p to : Mode) → Leads test from x p → test p b ≡ false → Leads test from (x ++ b ∷ u) to → ⊥
stop_none test from x u b p to h k g = let rest : Leads test p (b ∷ u) to = Leads-rest test test from x (b ∷ u) p to h g in clash (test p b) rest.0 k

-- a `;` ends a text
pub semicolon_ends : (mode : Mode) → is_outside mode ≡ true → is_text_byte mode 59 ≡ false
semicolon_ends Outside h = refl
semicolon_ends Dash h = refl
semicolon_ends Text h = (cc)
semicolon_ends Comment h = (cc)

-- only a `;` outside texts and comments ends a text
pub only_semicolon : (mode : Mode) (b : ℕ) → is_text_byte mode b ≡ false → (is_outside mode ≡ true) × (b ≡ 59)
only_semicolon Outside b h = (refl, grind (arith, nat_tests))
only_semicolon Dash b h = (refl, grind (arith, nat_tests))
only_semicolon Text b h = (cc)
only_semicolon Comment b h = (cc)

-- what begins outright lies in no gap
outside_gap : (b : ℕ) → is_gap_byte Outside b ≡ true → is_blank b ≡ false → b ≡ 45
outside_gap b h k = grind (arith, nat_tests)

dash_gap : (b : ℕ) → is_gap_byte Dash b ≡ true → b ≡ 45
dash_gap b h = grind (arith, nat_tests)

pub outright_stays : (b : ℕ) (u : List ℕ) (to : Mode) → BeginsOutright (b ∷ u) → Leads is_gap_byte Outside (b ∷ u) to → to ≡ Dash
outright_stays b [] to h g = sym g.1 ∙ ap (λ z. after Outside z) (outside_gap b g.0 h)
outright_stays b (c ∷ u) to h g =
    let dash = outside_gap b g.0 h.0 in
    absurd (h.1 dash (dash_gap c (subst (λ z. is_gap_byte (after Outside z) c ≡ true) dash g.1.0)))

outright_first : (d : ℕ) (v : List ℕ) → BeginsOutright (d ∷ v) → is_blank d ≡ false
outright_first d [] h = h
outright_first d (c ∷ v) h = h.0

no_gap : (d : ℕ) (y v : List ℕ) → BeginsOutright (d ∷ (y ++ v)) → Leads is_gap_byte Outside (d ∷ y) Outside → ⊥
no_gap d [] v h g = absurd (cc (sym g.1 ∙ ap (λ z. after Outside z) (outside_gap d g.0 (outright_first d v h))))
no_gap d (c ∷ y) v h g =
    let dash = outside_gap d g.0 h.0 in
    h.1 dash (dash_gap c (subst (λ z. is_gap_byte (after Outside z) c ≡ true) dash g.1.0))

-- a gap is one alone
pub gap_same : (from : Mode) (x y u v : List ℕ) → Leads is_gap_byte from x Outside → BeginsOutright u → Leads is_gap_byte from y Outside → BeginsOutright v → x ++ u ≡ y ++ v → (x ≡ y) × (u ≡ v)
gap_same from [] [] u v h k g l e = (refl, e)
gap_same from [] (d ∷ y) u v h k g l e =
    let begun : BeginsOutright (d ∷ (y ++ v)) = subst BeginsOutright e k in
    absurd (no_gap d y v begun (subst (λ m. Leads is_gap_byte m (d ∷ y) Outside) h g))
gap_same from (a ∷ x) [] u v h k g l e =
    let begun : BeginsOutright (a ∷ (x ++ u)) = subst BeginsOutright (sym e) l in
    absurd (no_gap a x u begun (subst (λ m. Leads is_gap_byte m (a ∷ x) Outside) g h))
gap_same from (a ∷ x) (d ∷ y) u v h k g l e =
    let head : a ≡ d = cc in
    let rest = gap_same (after from a) x y u v h.1 k (subst (λ z. Leads is_gap_byte (after from z) y Outside) (sym head) g.1) l (cc) in
    (ap (λ z. z ∷ x) head ∙ ap (λ z. d ∷ z) rest.0, rest.1)

-- a text that begins outright still does with its `;`
pub outright-semicolon : (text more : List ℕ) → BeginsOutright text → BeginsOutright (text ++ 59 ∷ more)
outright-semicolon [] [] h = refl
outright-semicolon [] (b ∷ more) h = (refl, λ e k. absurd (omega arith))
outright-semicolon (a ∷ []) more h = (h, λ e k. absurd (omega arith))
outright-semicolon (a ∷ b ∷ text) more h = h

pub outright-take : (bytes : List ℕ) (n : ℕ) → BeginsOutright bytes → BeginsOutright (take n bytes)
outright-take [] zero h = tt
outright-take [] (suc n) h = tt
outright-take (a ∷ bytes) zero h = tt
outright-take (a ∷ []) (suc n) h = one n
  where
    one : (n : ℕ) → BeginsOutright (a ∷ take n [])
    one zero = h
    one (suc n) = h
outright-take (a ∷ b ∷ bytes) (suc zero) h = h.0
outright-take (a ∷ b ∷ bytes) (suc (suc n)) h = h

-- space holds no statement
pub space_none : (gap text more : List ℕ) → IsGap gap → IsText text → IsSpace (gap ++ (text ++ 59 ∷ more)) → ⊥
space_none gap text more g t s =
    let rest : Leads is_gap_byte Outside (text ++ 59 ∷ more) s.ends = Leads-rest is_gap_byte is_gap_byte Outside gap (text ++ 59 ∷ more) Outside s.ends g.leads s.leads in
    let begun = outright-semicolon text more t.outright in
    s.whole (go text begun rest)
  where
    go : (text : List ℕ) → BeginsOutright (text ++ 59 ∷ more) → Leads is_gap_byte Outside (text ++ 59 ∷ more) s.ends → s.ends ≡ Dash
    go [] h l = outright_stays 59 more s.ends h l
    go (b ∷ text) h l = outright_stays b (text ++ 59 ∷ more) s.ends h l

-- the dash at which a gap goes over to something else
dash_before : (mode : Mode) (b : ℕ) → is_gap_byte mode b ≡ true → after mode b ≡ Dash → (mode ≡ Outside) × (b ≡ 45)
dash_before Outside b h e = (refl, go (b == 39) (b == 45) refl e)
  where
    go : (q d : Bool) → (b == 45) ≡ d → (if q then Text else (if d then Dash else Outside)) ≡ Dash → b ≡ 45
    go q true k e = grind (arith, nat_tests)
    go true false k e = (cc)
    go false false k e = (cc)
dash_before Dash b h e = absurd (go b (dash_gap b h) e)
  where
    go : (b : ℕ) → b ≡ 45 → after Dash b ≡ Dash → ⊥
    go b k e = let comment : Comment ≡ Dash = ap (λ z. after Dash z) (sym k) ∙ e in (cc)
dash_before Text b h e = (cc)
dash_before Comment b h e = absurd (go (b == 10) e)
  where
    go : (t : Bool) → (if t then Outside else Comment) ≡ Dash → ⊥
    go true e = (cc)
    go false e = (cc)

-- bytes of a gap that end behind a dash are a shorter gap and the dash
pub last_dash : (bytes : List ℕ) (from : Mode) (b : ℕ) → Leads is_gap_byte from (b ∷ bytes) Dash → (front : List ℕ) × (b ∷ bytes ≡ front ++ 45 ∷ []) × Leads is_gap_byte from front Outside
last_dash [] from b h = let before = dash_before from b h.0 h.1 in ([], ap (λ z. z ∷ []) before.1, before.0)
last_dash (c ∷ bytes) from b h =
    let later = last_dash bytes (after from b) c h.1 in
    (b ∷ later.0, ap (λ z. b ∷ z) later.1, (h.0, later.2))
