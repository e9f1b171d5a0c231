-- What is known of a certificate that is spelled.
use Rattle.std.proofs.Common.{◌≡◌, ◌<◌, ◌^◌, ℕ, List, [], ◌∷◌, length, None, ap, sym, ◌∙◌, subst, arith}
use Rattle.std.proofs.lemmas.List.{length-map}
use Rattle.cqa_value.specs.declared.value.Value.{Value}
use Rattle.cqa_model.specs.declared.query.Query.{Query}
use Rattle.cqa_model.specs.Database.{Table}
use Rattle.cqa_model.specs.Query.{kind_at}
use Rattle.cqa_value.proofs.Words.{mem-head}
use Rattle.cqa_value.specs.Values.{kind_of}
use Rattle.refusals.specs.Refusal.{first_of}
use Rattle.refusals.proofs.Faults.{rows_fit}
use Rattle.script_lex.specs.Scripts.{Statement as Part}
use Rattle.spj_syntax.specs.declared.tree.Select.{Select}
use Rattle.query_resolve.specs.Resolved.{IsAtomOf}
use Rattle.query_resolve.proofs.Lookups.{zip_length}
use Rattle.query_resolve.specs.Checks.{answer_fault, answer_kinds}
use Rattle.block_tree.specs.Trees.{IsOrderOf}
use Rattle.rewrite_check.specs.declared.certificate.Certificate.{Certificate}
use Rattle.rewrite_check.specs.declared.certificate.Claim.{Claim}
use Rattle.rewrite_check.specs.Reading.{Position, GoesFrom, asked_stage}
use Rattle.rewrite_check.specs.Spelling.{Stage, Created, Asked, Ordered, CanAsk, LeadsOn, LeadsThrough, SpellsCertificate}

-- no check of the query and of the row fails, and the order is one of the query
abbrev IsSound : Stage → Type 0
IsSound (Created db) = Unit {0}
IsSound (Asked db s q r) = CanAsk db s q r
IsSound (Ordered c) = CanAsk c.tables c.select c.query c.row × IsOrderOf c.query c.order

sound_on : (stage : Stage) (text : List ℕ) (next : Stage) → LeadsOn stage text next → IsSound stage → IsSound next
sound_on (Created db) text (Created n) l a = tt
sound_on (Created db) text (Asked o s q r) l a = subst (λ z. CanAsk z s q r) (sym l.0) l.2
sound_on (Created db) text (Ordered c) l a = absurd l
sound_on (Asked db s q r) text (Created n) l a = absurd l
sound_on (Asked db s q r) text (Asked o t k w) l a = absurd l
sound_on (Asked db s q r) text (Ordered c) l a = (subst (λ (z : Certificate). CanAsk z.tables z.select z.query z.row) (sym l.3) a, subst (λ (z : Certificate). IsOrderOf z.query c.order) (sym l.3) l.2.1)
sound_on (Ordered c) text (Created n) l a = absurd l
sound_on (Ordered c) text (Asked o s q r) l a = absurd l
sound_on (Ordered c) text (Ordered e) l a = subst (λ z. IsSound (Ordered z)) (sym l.3) a

sound_all : (stage : Stage) (parts : List Part) (last : Stage) → LeadsThrough stage parts last → IsSound stage → IsSound last
sound_all stage [] last l a = subst IsSound l a
sound_all stage (p ∷ ps) last l a = sound_all l.0 ps last l.2 (sound_on stage p.0 l.0 l.1 a)

module _ (bytes : List ℕ) (c : Certificate) (spells : SpellsCertificate bytes c) where
  pub spelled_claim : CanAsk c.tables c.select c.query c.row
  spelled_claim = (sound_all (Created []) spells.parts (Ordered c) spells.leads tt).0

  pub spelled_order : IsOrderOf c.query c.order
  spelled_order = (sound_all (Created []) spells.parts (Ordered c) spells.leads tt).1

-- tables that a query names: as many as its atoms, and few
named_places : (db : List Table) (select : Select) (q : Query) (row : List Value) → CanAsk db select q row → length select.tables ≡ length q.atoms
named_places db select q row can = sym (zip_length (IsAtomOf db) select.tables q.atoms can.1.atoms)

named_few : (db : List Table) (select : Select) (q : Query) (row : List Value) → CanAsk db select q row → length select.tables < 2 ^ 32
named_few db select q row can = omega (arith, named_places db select q row can, q.kept.size.1)

module _ (old last : Position) where
  pub asked_places : (db : List Table) (claim : Claim) → GoesFrom (Created []) old (asked_stage db claim) last → length claim.select.tables ≡ length claim.query.atoms
  asked_places db claim g = named_places db claim.select claim.query claim.row (sound_all (Created []) g.front (asked_stage db claim) g.leads tt)

  pub ordered_few : (c : Certificate) → GoesFrom (Created []) old (Ordered c) last → length c.select.tables < 2 ^ 32
  ordered_few c g = named_few c.tables c.select c.query c.row (sound_all (Created []) g.front (Ordered c) g.leads tt).0

-- a row that no check refuses has a value for each answer column
pub answer_long : (db : List Table) (q : Query) (row : List Value) → answer_fault db q row ≡ None → length row ≡ length q.answer
answer_long db q row none =
    let kinds = answer_kinds db q in
    let fits = rows_fit kinds 1 (row ∷ []) (ap (λ o. first_of o None) none) row (mem-head row []) in
    sym (length-map row kind_of) ∙ ap length fits ∙ length-map q.answer (kind_at q db)
