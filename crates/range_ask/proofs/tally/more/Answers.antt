use Rattle.std.proofs.Common.{◌≡◌, ◌⊎◌, inr, rules, suc, true, sym, ◌∙◌, ap, subst}
use Rattle.std.specs.Prelude.{Some}
use mir.Val.{SFits}
use mir.Syntax.{w64}
use Rattle.std.proofs.lemmas.Int.{to_z-of_z}
use Rattle.range_ask.specs.declared.tally.Tally.TheVariants.{Peak, Total}
use Rattle.range_ask.specs.declared.way.Way.TheVariants.{Up, Down}
use Rattle.range_ask.specs.Picks.{worth}
use Rattle.range_ask.specs.Finding.{added, row_in_block}
use Rattle.range_ask.specs.Walking.{IsTotal}
use Rattle.range_ask.specs.Tallying.{rows_so_far, AreAdding, AreFar, IsPartly, IsPeaking, IsPeakSettled, NoneOf}
use Rattle.range_ask.proofs.Tallied.{known-hit, worth-none, worth-met, from_part, to_part}
use Rattle.range_ask.proofs.tally.more.Goals as goal

pub returns-in-Min : goal.returns-in-Min
returns-in-Min c =
    let sure = c.args.turn.sure in
    let col = c.in-Min.col in
    let peak = c.peak_of.ensures in
    λ p front block n is h l e t (k, w).
    let old = subst (λ g. IsPartly g p sure front block n c.args.tally) c.in-Min.is w in (
      known-hit p sure front block h n (Peak c.more_peak.result) l (ap p e ∙ t),
      subst (λ g. IsPartly g p sure front block (suc n) (Some (Peak c.more_peak.result))) (sym c.in-Min.is) (
        inr (c.more_peak.ensures.peaking p front block n is h l e t (subst (λ q. (IsPeakSettled Down p col front q × NoneOf p block n) ⊎ IsPeaking Down p col sure front block n q) (sym peak) old.0)),
        c.more_peak.ensures.far p front block n l e t (subst (λ q. AreFar Down p col (rows_so_far front block n) q) (sym peak) old.1),
      ),
    )

pub returns-in-Max : goal.returns-in-Max
returns-in-Max c =
    let sure = c.args.turn.sure in
    let col = c.in-Max.col in
    let peak = c.peak_of-in-Max.ensures in
    λ p front block n is h l e t (k, w).
    let old = subst (λ g. IsPartly g p sure front block n c.args.tally) c.in-Max.is w in (
      known-hit p sure front block h n (Peak c.more_peak-in-Max.result) l (ap p e ∙ t),
      subst (λ g. IsPartly g p sure front block (suc n) (Some (Peak c.more_peak-in-Max.result))) (sym c.in-Max.is) (
        inr (c.more_peak-in-Max.ensures.peaking p front block n is h l e t (subst (λ q. (IsPeakSettled Up p col front q × NoneOf p block n) ⊎ IsPeaking Up p col sure front block n q) (sym peak) old.0)),
        c.more_peak-in-Max.ensures.far p front block n l e t (subst (λ q. AreFar Up p col (rows_so_far front block n) q) (sym peak) old.1),
      ),
    )

pub returns-in-Count : goal.returns-in-Count
returns-in-Count c =
    let sure = c.args.turn.sure in
    let goal_is = c.in-Count.is in
    let adds : IsTotal c.args.goal.now = search rules in
    let fits : SFits w64 c.added.result = search rules in
    λ p front block n is h l e t (k, w).
    let f = worth p (added c.args.goal.now) in
    let met : p (row_in_block block n) ≡ true = ap p e ∙ t in
    let same = to_z-of_z w64 c.added.result fits ∙ (c.added.ensures ∙ sym (ap (added c.args.goal.now) e)) in (
      known-hit p sure front block h n (Total c.more_total.result) l met,
      to_part c.args.goal.now adds p sure front block (suc n) (Some (Total c.more_total.result))
          (c.more_total.ensures f p front block n (worth-none p (added c.args.goal.now)) is h l met (worth-met p (added c.args.goal.now) (row_in_block block n) met ∙ sym same)
          (subst (λ q. AreAdding f p sure front block n q) (sym c.total_of.ensures) (from_part c.args.goal.now adds p sure front block n c.args.tally w))),
    )
