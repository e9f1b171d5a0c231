use Rattle.std.proofs.Common.{◌≡◌, get_or, take, false, sym, List, subst}
use Rattle.std.proofs.lemmas.List.Elements.{Contains-get_or}
use Rattle.std.proofs.lemmas.Grind.{take_at_read}
use Rattle.cnf_form.specs.declared.formula.Lit.{Lit}
use Rattle.search_trail.specs.Analysis.{AllSeen}
use Rattle.search_trail.proofs.Works.{all_seen_more}
use Rattle.search_trail.proofs.Walking.{more_on}
use Rattle.std.proofs.lemmas.List.{take_all}
use Rattle.search_trail.proofs.implications.Implications.mark_all.Goals as goal

abbrev none : Lit
none = record { var = 0; positive = false }

pub mark_var-requires-clause-range : goal.mark_var-requires-clause-range
mark_var-requires-clause-range c = c.requires.range _ (Contains-get_or c.args.clause.now c.loop-lit.lit-index none c.loop-lit-test.true)

pub loop-lit-preserved : goal.loop-lit-preserved
loop-lit-preserved c =
    let i = c.loop-lit.lit-index in
    let cl = c.args.clause.now in
    let seen = c.mark_var.new.marks.seen.items in
    record {
      more = more_on _ _ _ _ c.loop-lit.invariant.more c.in_ok-mark_var.ensures.more;
      all = subst (λ (ys : List Lit). AllSeen seen ys) (sym ((take_at_read cl i none c.loop-lit-test.true).1))
          (all_seen_more seen (take i cl) (get_or cl i none)
          (λ m j. c.in_ok-mark_var.ensures.more.grow.more m.var (c.loop-lit.invariant.all m j)) c.in_ok-mark_var.ensures.seen);
    }

pub returns-clause-seen : goal.returns-clause-seen
returns-clause-seen c =
    let e : take c.loop-lit.lit-index c.args.clause.now ≡ c.args.clause.now = take_all c.loop-lit.lit-index c.args.clause.now c.loop-lit-test.false in
    subst (λ (ys : List Lit). AllSeen c.loop-lit.marks.seen.items ys) e c.loop-lit.invariant.all
