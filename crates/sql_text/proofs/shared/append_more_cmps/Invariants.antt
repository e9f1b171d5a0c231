use Rattle.std.proofs.Common.{◌≡◌, ◌++◌, take, codes}
use Rattle.std.specs.List.{flat_map}
use Rattle.sql_text.specs.declared.syntax.Cmp.{Cmp}
use Rattle.sql_text.specs.Texts.{cmp_text}
use Rattle.sql_text.proofs.shared.append_more_cmps.Given as goal

-- those so far
abbrev pub invariant-loop-cmp : goal.invariant-loop-cmp
invariant-loop-cmp l = l.out.items ≡ l.fn.out.items ++ flat_map (λ (c : Cmp). codes " AND " ++ cmp_text l.names l.steps l.sources c) (take l.cmp-index l.cmps)
