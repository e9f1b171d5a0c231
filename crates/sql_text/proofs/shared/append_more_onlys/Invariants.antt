use Rattle.std.proofs.Common.{◌≡◌, ◌++◌, take, codes}
use Rattle.std.specs.List.{flat_map}
use Rattle.sql_text.specs.declared.syntax.Within.{Within}
use Rattle.sql_text.specs.Texts.{only_text}
use Rattle.sql_text.proofs.shared.append_more_onlys.Given as goal

-- those so far
abbrev pub invariant-loop-only : goal.invariant-loop-only
invariant-loop-only l = l.out.items ≡ l.fn.out.items ++ flat_map (λ (c : Within). codes " AND " ++ only_text l.names l.steps l.sources c) (take l.only-index l.onlys)
