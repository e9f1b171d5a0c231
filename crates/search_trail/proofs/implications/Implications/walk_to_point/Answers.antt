use Rattle.std.proofs.Common.{◌≡◌, ◌+◌, ◌-◌, ◌++◌, ◌∷◌, [], ℕ, ℤ, pos, List, length, arith, subst, ◌∙◌, ap}
use Rattle.search_trail.specs.Walks.{IsWalkedTo}
use Rattle.search_trail.proofs.Walking.{walked_first}
use Rattle.search_trail.proofs.implications.Implications.walk_to_point.Goals as goal

pub loop-at-init : goal.loop-at-init
loop-at-init c =
    let g = c.args.self.now in
    let cited = c.in_ok-cite.ensures in
    let place : length g.trail.now ≡ length g.trail.now - 1 + 1 = omega (arith, c.requires.level) in
    record {
      after = omega (arith, c.requires.level);
      within = omega (arith, c.requires.level);
      walked = subst (λ (k : ℕ). IsWalkedTo g k c.cite.new.marks c.cite.new.hints.items) place
          (walked_first g c.args.conflict c.args.marks.now c.cite.new.marks c.cite.new.hints.items c.requires.conflict c.requires.clear cited.more cited.seen
          (cited.hint ∙ ap (λ (xs : List ℤ). xs ++ pos (c.args.conflict + 1) ∷ []) c.requires.none));
    }
