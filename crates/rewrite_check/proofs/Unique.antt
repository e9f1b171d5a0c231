-- At most one thing is said of bytes.
use Rattle.std.proofs.Common.{◌≡◌, inl, inr, ℕ, suc, true, List, [], ◌∷◌, ◌+◌, length, refl, ap, sym, ◌∙◌, subst}
use Rattle.script_lex.specs.Scripts.{Statement as Part, StartsWith, HasNoStatement, Begins, IsSpace}
use Rattle.script_lex.proofs.Statements.{starts_same}
use Rattle.block_tree.specs.declared.cause.RewriteCheck.TheVariants.{Verified, BadText, BadBlock}
use Rattle.block_tree.specs.Trees.{PassesFor}
use Rattle.block_tree.specs.Judging.{Judged}
use Rattle.block_tree.proofs.Judging.{verified_is_passing, judged_once}
use Rattle.rewrite_check.specs.declared.certificate.Certificate.{Certificate}
use Rattle.rewrite_check.specs.Spelling.{Stage, Created, Ordered, LeadsOn, LeadsThrough, StopsShort, SpellsCertificate, IsBadFrom}
use Rattle.rewrite_check.specs.Laws.{ChecksOnce}
use Rattle.rewrite_check.proofs.Once.{leads_once}

stops_not : (stage : Stage) (bytes : List ℕ) (p : Part) (mid : List ℕ) (next : Stage) → StopsShort stage bytes → StartsWith true bytes p mid → LeadsOn stage p.0 next → ⊥
stops_not stage bytes p mid next (inl (s, more, starts, none)) h l = none next (subst (λ z. LeadsOn stage z.0 next) (starts_same true bytes p s mid more h starts).0 l)
stops_not stage bytes p mid next (inr (none, end)) h l = none p mid h

stops_end : (bytes : List ℕ) (c : Certificate) → StopsShort (Ordered c) bytes → HasNoStatement true bytes → IsSpace bytes → ⊥
stops_end bytes c (inl (s, more, starts, none)) h b = h s more starts
stops_end bytes c (inr (none, end)) h b = end (b, tt)

-- two runs that begin at one place
module _ (f p : Part) (stage next after : Stage) (bytes mid more : List ℕ) (a : StartsWith true bytes f mid) (l : LeadsOn stage f.0 next) (b : StartsWith true bytes p more) (k : LeadsOn stage p.0 after) where
  same_mid : mid ≡ more
  same_mid = (starts_same true bytes f p mid more a b).1

  same_next : next ≡ after
  same_next = leads_once stage p.0 next after (subst (λ z. LeadsOn stage z.0 next) (starts_same true bytes f p mid more a b).0 l) k

-- bytes that are spelled have no bad statement
spelled_not_bad : (stage : Stage) (bytes : List ℕ) (front parts : List Part) (left rest : List ℕ) (last : Stage) (c : Certificate) →
    Begins true bytes front left → LeadsThrough stage front last → StopsShort last left → Begins true bytes parts rest → LeadsThrough stage parts (Ordered c) → HasNoStatement true rest → IsSpace rest → ⊥
spelled_not_bad stage bytes [] [] left rest last c b l s d k none blank =
    stops_end rest c (subst (λ z. StopsShort (Ordered c) z) (sym b ∙ d) (subst (λ z. StopsShort z left) (sym l ∙ k) s)) none blank
spelled_not_bad stage bytes [] (p ∷ ps) left rest last c b l s d k none blank =
    stops_not stage bytes p d.0 k.0 (subst (λ z. StopsShort stage z) (sym b) (subst (λ z. StopsShort z left) (sym l) s)) d.1 k.1
spelled_not_bad stage bytes (f ∷ fs) [] left rest last c b l s d k none blank = none f b.0 (subst (λ z. StartsWith true z f b.0) d b.1)
spelled_not_bad stage bytes (f ∷ fs) (p ∷ ps) left rest last c b l s d k none blank =
    let m = same_mid f p stage l.0 k.0 bytes b.0 d.0 b.1 l.1 d.1 k.1 in
    let n = same_next f p stage l.0 k.0 bytes b.0 d.0 b.1 l.1 d.1 k.1 in
    spelled_not_bad k.0 d.0 fs ps left rest last c (subst (λ z. Begins true z fs left) m b.2) (subst (λ z. LeadsThrough z fs last) n l.2) s d.2 k.2 none blank

-- one bad statement
bad_same : (stage : Stage) (bytes : List ℕ) (front parts : List Part) (left rest : List ℕ) (last end : Stage) →
    Begins true bytes front left → LeadsThrough stage front last → StopsShort last left → Begins true bytes parts rest → LeadsThrough stage parts end → StopsShort end rest → length front ≡ length parts
bad_same stage bytes [] [] left rest last end b l s d k t = refl
bad_same stage bytes [] (p ∷ ps) left rest last end b l s d k t = absurd (stops_not stage bytes p d.0 k.0 (subst (λ z. StopsShort stage z) (sym b) (subst (λ z. StopsShort z left) (sym l) s)) d.1 k.1)
bad_same stage bytes (f ∷ fs) [] left rest last end b l s d k t = absurd (stops_not stage bytes f b.0 l.0 (subst (λ z. StopsShort stage z) (sym d) (subst (λ z. StopsShort z rest) (sym k) t)) b.1 l.1)
bad_same stage bytes (f ∷ fs) (p ∷ ps) left rest last end b l s d k t =
    let m = same_mid f p stage l.0 k.0 bytes b.0 d.0 b.1 l.1 d.1 k.1 in
    let n = same_next f p stage l.0 k.0 bytes b.0 d.0 b.1 l.1 d.1 k.1 in
    ap suc (bad_same k.0 d.0 fs ps left rest last end (subst (λ z. Begins true z fs left) m b.2) (subst (λ z. LeadsThrough z fs last) n l.2) s d.2 k.2 t)

-- one certificate
run_same : (stage : Stage) (bytes : List ℕ) (front parts : List Part) (left rest : List ℕ) (c e : Certificate) →
    Begins true bytes front left → LeadsThrough stage front (Ordered c) → HasNoStatement true left → Begins true bytes parts rest → LeadsThrough stage parts (Ordered e) → HasNoStatement true rest → c ≡ e
run_same stage bytes [] [] left rest c e b l s d k t = let h : Ordered c ≡ Ordered e = sym l ∙ k in cc
run_same stage bytes [] (p ∷ ps) left rest c e b l s d k t = absurd (s p d.0 (subst (λ z. StartsWith true z p d.0) b d.1))
run_same stage bytes (f ∷ fs) [] left rest c e b l s d k t = absurd (t f b.0 (subst (λ z. StartsWith true z f b.0) d b.1))
run_same stage bytes (f ∷ fs) (p ∷ ps) left rest c e b l s d k t =
    let m = same_mid f p stage l.0 k.0 bytes b.0 d.0 b.1 l.1 d.1 k.1 in
    let n = same_next f p stage l.0 k.0 bytes b.0 d.0 b.1 l.1 d.1 k.1 in
    run_same k.0 d.0 fs ps left rest c e (subst (λ z. Begins true z fs left) m b.2) (subst (λ z. LeadsThrough z fs (Ordered c)) n l.2) s d.2 k.2 t

pub spelled_once : (bytes : List ℕ) (c e : Certificate) → SpellsCertificate bytes c → SpellsCertificate bytes e → c ≡ e
spelled_once bytes c e a b = run_same (Created []) bytes a.parts b.parts a.rest b.rest c e a.begins a.leads a.ends b.begins b.leads b.ends

not_both : (bytes : List ℕ) (c : Certificate) (n : ℕ) → SpellsCertificate bytes c → IsBadFrom (Created []) bytes 0 n → ⊥
not_both bytes c n a b = spelled_not_bad (Created []) bytes b.front a.parts b.left a.rest b.last c b.begins b.leads b.ends a.begins a.leads a.ends a.blank

judged : (c : Certificate) → PassesFor c.query c.row c.order c.nodes → Judged c.query c.row c.order c.nodes Verified
judged c p = (verified_is_passing c.query c.row c.order c.nodes).1 (p.tree, p.alike)

pub checks_once : ChecksOnce
checks_once bytes Verified Verified a b = refl
checks_once bytes Verified (BadText n) a b = absurd (not_both bytes a.0 n a.1 b)
checks_once bytes Verified (BadBlock n k) a b =
    let e = spelled_once bytes a.0 b.0 a.1 b.1 in
    judged_once b.0.query b.0.row b.0.order b.0.nodes Verified (BadBlock n k) (subst (λ c. Judged c.query c.row c.order c.nodes Verified) e (judged a.0 a.2)) b.2
checks_once bytes (BadText n) Verified a b = absurd (not_both bytes b.0 n b.1 a)
checks_once bytes (BadText n) (BadText m) a b =
    let h = bad_same (Created []) bytes a.front b.front a.left b.left a.last b.last a.begins a.leads a.ends b.begins b.leads b.ends in
    ap BadText (a.number_is ∙ ap (λ z. 0 + z + 1) h ∙ sym b.number_is)
checks_once bytes (BadText n) (BadBlock m k) a b = absurd (not_both bytes b.0 n b.1 a)
checks_once bytes (BadBlock n k) Verified a b =
    let e = spelled_once bytes b.0 a.0 b.1 a.1 in
    sym (judged_once a.0.query a.0.row a.0.order a.0.nodes Verified (BadBlock n k) (subst (λ c. Judged c.query c.row c.order c.nodes Verified) e (judged b.0 b.2)) a.2)
checks_once bytes (BadBlock n k) (BadText m) a b = absurd (not_both bytes a.0 m a.1 b)
checks_once bytes (BadBlock n k) (BadBlock m j) a b =
    let e = spelled_once bytes a.0 b.0 a.1 b.1 in
    judged_once b.0.query b.0.row b.0.order b.0.nodes (BadBlock n k) (BadBlock m j) (subst (λ c. Judged c.query c.row c.order c.nodes (BadBlock n k)) e a.2) b.2
