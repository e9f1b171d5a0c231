use Rattle.std.proofs.Common.{◌≡◌, rules, [], ◌∷◌, ◌++◌, map, sym, subst}
use Rattle.std.specs.List.{AllZip}
use Rattle.std.specs.Map.Iter.{deref_pair}
use Rattle.std.proofs.lemmas.List.{map_push}
use Rattle.std.proofs.lemmas.Map.Iter.{iter_end}
use Rattle.cqa_value.specs.declared.value.Value.{Value}
use Rattle.range_ask.specs.declared.groups.Group.{Group}
use Rattle.range_ask.specs.declared.tally.Tally.{Tally}
use Rattle.range_ask.specs.Tallying.{IsEnded}
use Rattle.cqa_value.proofs.Words.{all_zip_push}
use Rattle.range_ask.proofs.groups.gather.Goals as goal

pub loop-value-preserved : goal.loop-value-preserved
loop-value-preserved c =
    let R : Value × Tally → Group → Type 0 = λ entry group. IsEnded c.args.goal.now entry.0 entry.1 group in
    let entry : Value × Tally = (c.in-Some.value.now, c.in-Some.tally.now) in
    subst (λ es. AllZip R es c.push.new.self) (sym (map_push deref_pair c.loop-value.yielded (c.in-Some.value, c.in-Some.tally)))
    (subst (AllZip R (map deref_pair c.loop-value.yielded ++ entry ∷ [])) (sym c.in_ok-push.ensures.ok)
    (all_zip_push R (map deref_pair c.loop-value.yielded) c.loop-value.list entry c.in_ok-group_of.field-0 c.loop-value.invariant c.in_ok-group_of.ensures))

pub returns-clause-ended : goal.returns-clause-ended
returns-clause-ended c =
    let whole : map deref_pair c.loop-value.yielded ≡ c.args.groups.now.entries = search (rules, iter_end) in
    subst (λ es. AllZip (λ (entry : Value × Tally) group. IsEnded c.args.goal.now entry.0 entry.1 group) es c.loop-value.list) whole c.loop-value.invariant
