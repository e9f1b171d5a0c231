-- A whole certificate, and what its statements speak of.
use Rattle.std.proofs.Common.{◌≡◌, ℕ, ◌<◌, List, [], ◌∷◌, length, map, Contains, false, ◌∙◌, subst}
use Rattle.std.proofs.lemmas.List.{get_or_default}
use Rattle.cqa_value.specs.declared.value.Value.{Value}
use Rattle.cqa_model.specs.declared.query.Atom.{Atom}
use Rattle.cqa_model.specs.declared.query.Query.{Query}
use Rattle.cqa_model.specs.Database.{Table, IsDatabase}
use Rattle.cqa_model.specs.Query.{FitsDatabase}
use Rattle.cqa_model.specs.Plan.{HoldsOver}
use Rattle.plan_rows.specs.Left.{AreQueryAtoms}
use Rattle.rewrite_text.specs.declared.draft.Draft.{Draft}
use Rattle.rewrite_text.specs.Texts.{certificate_block, certificate_creates, certificate_head, certificate_order, certificate_prove, certificate_statements, first_line}
use Rattle.rewrite_text.specs.Certificates.{HasLongCertificate, IsCertificate}
use Rattle.rewrite_text.specs.Drafts.{AddsStatements, IsTooLongBehind}
use Rattle.rewrite_text.specs.Growing.{AddsTree, IsLongTree}
use Rattle.rewrite_text.proofs.Made.{made_exists}
use Rattle.rewrite_text.proofs.Drafting.{adds_both, front_over, rest_over, whole_text, whole_short, whole_over}

-- the tables of a query's atoms are there
pub tables_there : (q : Query) (db : List Table) → FitsDatabase q db → (atoms : List Atom) → atoms ≡ q.atoms → (atom : Atom) → Contains atoms atom → atom.table < length db
tables_there q db fits atoms e atom m = there (subst (λ (z : List Atom). Contains z atom) e m)
  where
    there : Contains q.atoms atom → atom.table < length db
    there (i, l, is) = subst (λ (z : Atom). z.table < length db) (get_or_default q.atoms i (record { table = 0; width = 0; key = []; strict = false }) atom l ∙ is) (fits.there i l)

module _ (db : List Table) (q : Query) (row : List Value) (plan : List ℕ) where
  abbrev creates : List (List ℕ)
  creates = certificate_creates db q.atoms

  abbrev prove : List ℕ
  prove = certificate_prove db q row

  abbrev order : List ℕ
  order = certificate_order db q plan

  pub head_added : (old one two new : Draft) → AddsStatements creates old one → AddsStatements (prove ∷ []) one two → AddsStatements (order ∷ []) two new → AddsStatements (certificate_head db q row plan) old new
  head_added old one two new a b c = adds_both creates (prove ∷ order ∷ []) old one new a (adds_both (prove ∷ []) (order ∷ []) one two new b c)

  pub creates_over : (before : ℕ) → IsTooLongBehind before creates → IsTooLongBehind before (certificate_head db q row plan)
  creates_over before h = front_over creates (prove ∷ order ∷ []) before h

  pub prove_over : (old one : Draft) → AddsStatements creates old one → IsTooLongBehind (length one.out.items) (prove ∷ []) → IsTooLongBehind (length old.out.items) (certificate_head db q row plan)
  prove_over old one a h = rest_over creates (prove ∷ order ∷ []) old one a (front_over (prove ∷ []) (order ∷ []) (length one.out.items) h)

  pub order_over : (old one two : Draft) → AddsStatements creates old one → AddsStatements (prove ∷ []) one two → IsTooLongBehind (length two.out.items) (order ∷ []) → IsTooLongBehind (length old.out.items) (certificate_head db q row plan)
  order_over old one two a b h = rest_over creates (prove ∷ order ∷ []) old one a (rest_over (prove ∷ []) (order ∷ []) one two b h)

  pub certified : (old mid new : Draft) → old.out.items ≡ first_line → AddsStatements (certificate_head db q row plan) old mid → AddsTree db q row [] plan mid new → IsCertificate db q row plan new.out.items
  certified old mid new line head tree =
      let all = adds_both (certificate_head db q row plan) (map (certificate_block db q) tree.nodes) old mid new head tree.added in
      record {
        nodes = tree.nodes;
        made = tree.made;
        is = whole_text (certificate_statements db q row plan tree.nodes) old new line all;
        short = whole_short (certificate_statements db q row plan tree.nodes) old new line all;
      }

  module _ (valid : IsDatabase db) (fits : FitsDatabase q db) (inside : AreQueryAtoms q plan) (holds : HoldsOver db q row plan) where
    pub long_head : (old : Draft) → old.out.items ≡ first_line → IsTooLongBehind (length old.out.items) (certificate_head db q row plan) → HasLongCertificate db q row plan
    long_head old line h =
        let made = made_exists db q row plan valid fits inside holds in
        record { nodes = made.0; made = made.1; long = whole_over (certificate_statements db q row plan made.0) old line (front_over (certificate_head db q row plan) (map (certificate_block db q) made.0) (length old.out.items) h) }

    pub long_blocks : (old mid : Draft) → old.out.items ≡ first_line → AddsStatements (certificate_head db q row plan) old mid → IsLongTree db q row [] plan (length mid.out.items) → HasLongCertificate db q row plan
    long_blocks old mid line head h =
        let made = made_exists db q row plan valid fits inside holds in
        record { nodes = made.0; made = made.1; long = whole_over (certificate_statements db q row plan made.0) old line (rest_over (certificate_head db q row plan) (map (certificate_block db q) made.0) old mid head (h made.0 made.1)) }
