use Rattle.std.proofs.Common.{◌<◌, length, sym, ap, subst}
use Rattle.cqa_model.specs.Query.{atom_at}
use Rattle.range_join.specs.declared.sought.Sought.{Sought}
use Rattle.range_join.specs.Peaks.{held_value}
use Rattle.range_join.specs.Worths.{IsNameAt}
use Rattle.range_groups.specs.Asked.{asked_tables, asked_query}
use Rattle.range_groups.specs.JoinGroups.{HasThere}
use Rattle.range_groups.specs.Members.{names_by}
use Rattle.range_groups.specs.Touched.{carried_at, AreCarriers, AreEndValues}
use Rattle.range_groups.proofs.Asking.{spans-few, member-named, member-place}
use Rattle.range_groups.proofs.Extremal.{if_ok-both, carriers-there, group-ends}
use Rattle.range_groups.proofs.group_peaks.peak_ends.Goals as goal

pub find_carriers-requires-clause-named : goal.find_carriers-requires-clause-named
find_carriers-requires-clause-named c m k =
    let ask = c.args.ask.now in
    subst (λ a. IsNameAt (asked_tables ask) a (names_by m)) (sym (ap (λ (s : Sought). s.atom) c.requires.look)) (member-named ask c.requires.asked c.args.members.now c.requires.of m k)

pub peak_rows-rows-requires-clause-carriers : goal.peak_rows-rows-requires-clause-carriers
peak_rows-rows-requires-clause-carriers c =
    let ask = c.args.ask.now in
    let look = c.args.look in
    subst (AreCarriers (length ask.spans.now)) (sym c.deref.ensures.value)
    (carriers-there look.way (asked_tables ask) look.atom look.col c.args.members.now c.find_carriers.new.carriers.items (length ask.spans.now) c.in_ok-find_carriers.ensures (member-place ask c.requires.asked c.args.members.now c.requires.of))

pub peak_rows-rows-requires-clause-few : goal.peak_rows-rows-requires-clause-few
peak_rows-rows-requires-clause-few c = spans-few c.args.ask.now c.requires.asked

pub returns : goal.returns
returns c =
    let ask = c.args.ask.now in
    let look = c.args.look in
    let asked = c.requires.asked in
    let db = asked_tables ask in
    let q = asked_query ask in
    let table = (atom_at q ask.lax).table in
    let n = length ask.spans.now in
    let rows = c.peak_rows-rows.result in
    let e = subst (λ cs. AreEndValues look.way (carried_at look.col cs) n db table (held_value look.col rows.least) (held_value look.col rows.greatest)) c.deref.ensures.value (c.peak_rows-rows.ensures db table asked.spans) in
    if_ok-both c.both_ends.result _ _ _ c.both_ends.ensures.least c.both_ends.ensures.greatest (λ ends least greatest value part.
    let bound = ask.found.now.bound.now in
    let of_q = subst (λ a. a < length q.atoms) (sym (ap (λ (s : Sought). s.atom) c.requires.look)) asked.atom in
    let r = group-ends db q bound.fits bound.database ask.lax asked.strict asked.lax (HasThere ask.column value) c.args.members.now part look.atom of_q look.col (λ m k. (c.requires.of m k).0.place) look.way c.find_carriers.new.carriers.items c.in_ok-find_carriers.ensures
    ask.spans.now asked.spans (member-place ask asked c.args.members.now c.requires.of) (held_value look.col rows.least) (held_value look.col rows.greatest) e ask.sought.now (sym c.requires.look) ends.0 ends.1 least greatest in
    record { low = r.0; high = r.1; is = r.2 })
