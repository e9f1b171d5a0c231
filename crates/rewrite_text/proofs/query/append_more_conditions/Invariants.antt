use Rattle.std.proofs.Common.{◌≡◌, ◌++◌, codes, drop}
use Rattle.std.specs.List.{flat_map}
use Rattle.rewrite_text.specs.Texts.{condition_text}
use Rattle.rewrite_text.proofs.query.append_more_conditions.Given as goal

-- the conditions so far and those that are left are all conditions
abbrev pub invariant-loop-condition : goal.invariant-loop-condition
invariant-loop-condition l = record {
  text : l.draft.out.items ++ flat_map (λ condition. codes " and " ++ condition_text l.bound.db.now l.bound.query.now condition) (drop l.condition-index l.conditions) ≡
      l.fn.draft.out.items ++ flat_map (λ condition. codes " and " ++ condition_text l.bound.db.now l.bound.query.now condition) l.conditions;
  start : l.draft.start ≡ l.fn.draft.start;
}
