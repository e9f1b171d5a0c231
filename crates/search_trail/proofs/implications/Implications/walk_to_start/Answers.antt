use Rattle.std.proofs.Common.{◌+◌, ◌++◌, ◌∷◌, [], ℤ, pos, List, arith, ◌∙◌, ap}
use Rattle.search_trail.proofs.Walking.{walked_first}
use Rattle.search_trail.proofs.implications.Implications.walk_to_start.Goals as goal

pub loop-at-init : goal.loop-at-init
loop-at-init c =
    let cited = c.in_ok-cite.ensures in
    record {
      within = omega arith;
      walked = walked_first c.args.self.now c.args.conflict c.args.marks.now c.cite.new.marks c.cite.new.hints.items c.requires.conflict c.requires.clear cited.more cited.seen
          (cited.hint ∙ ap (λ (xs : List ℤ). xs ++ pos (c.args.conflict + 1) ∷ []) c.new-hints.ensures.items);
    }
