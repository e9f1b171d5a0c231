use Rattle.std.proofs.Common.{◌≡◌, ◌<◌, ◌+◌, ℕ, List, true, set, length, arith, ap, subst, sym, ◌∙◌}
use Rattle.std.proofs.lemmas.List.{length-set, length_push}
use Rattle.search_trail.specs.Marks.{AllMet}
use Rattle.search_trail.specs.Trail.{held}
use Rattle.search_trail.proofs.Marking.{at_most_more, grow_one, met_push, read_true}
use Rattle.search_trail.proofs.implications.Implications.mark_var.Goals as goal

pub returns-then-index-clause-seen : goal.returns-then-index-clause-seen
returns-then-index-clause-seen c =
    let m = c.args.marks.now in
    let range : c.args.var < length m.seen.items = omega (arith, c.requires.marks.room, c.requires.range) in
    read_true m.seen.items c.args.var _ range c.index.ensures c.if-index.true

pub returns-then-place-self-clause-more : goal.returns-then-place-self-clause-more
returns-then-place-self-clause-more c =
    let g = c.args.self.now in
    let m = c.args.marks.now in
    let range : c.args.var < length m.seen.items = omega (arith, c.requires.marks.room, c.requires.range) in
    record {
      marks = record {
        room = length-set m.seen.items c.args.var true ∙ c.requires.marks.room;
        met = subst (λ (xs : List ℕ). AllMet (set m.seen.items c.args.var true) xs) (sym c.in_ok-push.ensures.items) (met_push m.seen.items m.met.items c.args.var range c.requires.marks.met);
        few = let l : length c.push.new.self.items ≡ length m.met.items + 1 = ap (λ (xs : List ℕ). length xs) c.in_ok-push.ensures.items ∙ length_push m.met.items c.args.var in omega (arith, l, c.requires.marks.few);
      };
      grow = grow_one m.seen.items c.args.var range;
      counted = λ end few. at_most_more (held g.trail.now) g.places.now g.start end m.seen.items m.left c.args.var c.in-Some.place g.placed c.in-Some.is range few;
    }
