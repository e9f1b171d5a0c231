use Rattle.std.proofs.Common.{◌≡◌, ◌∙◌, arith, [], ◌∷◌, ◌++◌, length, sym, subst}
use Rattle.std.specs.Option.{option_copied}
use Rattle.range_ask.specs.Picks.{AvoidsFar, MeetsFar}
use Rattle.range_ask.specs.Finding.{IsFurthest, avoided_place, spot_place}
use Rattle.range_ask.specs.Reaching.{IsTop}
use Rattle.range_ask.proofs.Chosen.{IsTakenAt, avoids, meets}
use Rattle.range_ask.proofs.Closed.{kept-of, reach-more}
use Rattle.range_ask.proofs.Walked.{chosen-length}
use Rattle.range_ask.proofs.extremes.close.Goals as goal

pub returns : goal.returns
returns c =
    let way = c.args.way in
    let col = c.args.col in
    let held = c.args.held in
    let old = c.args.ends.now in
    let turn = c.turned.ensures in
    let number : c.len-number.result ≡ length old.avoids.places.items = omega (arith, c.len-number.ensures, old.avoids.places.ok) in
    λ p rows front block later next met ends.
    let avoid : IsTakenAt (AvoidsFar way p col) p block c.avoiding.result.at (option_copied c.avoiding.result.row) =
    subst (λ a. IsTakenAt (AvoidsFar way p col) p block a (option_copied c.avoiding.result.row)) (sym c.avoiding.ensures.at)
    (subst (λ o. IsTakenAt (AvoidsFar way p col) p block (avoided_place held.missing held.near) o) (sym c.avoiding.ensures.row) (avoids way p col block next.some held.missing held.near met.missing met.near)) in
    let meet : IsTakenAt (MeetsFar way p col) p block c.meeting.result.at (option_copied c.meeting.result.row) =
    subst (λ a. IsTakenAt (MeetsFar way p col) p block a (option_copied c.meeting.result.row)) (sym c.meeting.ensures.at)
    (subst (λ o. IsTakenAt (MeetsFar way p col) p block (spot_place held.far) o) (sym c.meeting.ensures.row) (meets way p col block next.some held.far met.far)) in
    record {
      avoids = reach-more way p col rows front block later held.start next (AvoidsFar way p col) c.avoiding.result.at (option_copied c.avoiding.result.row) avoid old.avoids c.keep.new.reach ends.avoids c.in_ok-keep.ensures.places
          (λ xs x. c.in_ok-keep.ensures.extreme p xs x);
      meets = reach-more way p col rows front block later held.start next (MeetsFar way p col) c.meeting.result.at (option_copied c.meeting.result.row) meet old.meets c.keep-2.new.reach ends.meets c.in_ok-keep-2.ensures.places
          (λ xs x. c.in_ok-keep-2.ensures.extreme p xs x);
      top = subst (λ w. IsTop w p col rows (front ++ block ∷ []) c.keep.new.reach.places.items c.further_top-ends.result) turn
          (c.further_top-ends.ensures p rows front block later old.avoids.places.items c.keep.new.reach.places.items c.avoiding.result.at next
          (subst (λ w. IsFurthest w p col block (length block) held.near) (sym turn) met.near)
          (kept-of (AvoidsFar way p col) (λ b x r. r.there) rows front old.avoids.places.items ends.avoids.chosen) number avoid.there c.in_ok-keep.ensures.places
          (subst (λ w. IsTop w p col rows front old.avoids.places.items old.top) (sym turn) ends.top));
      wide = c.in_ok-note.ensures front block ends.wide (number ∙ chosen-length (AvoidsFar way p col) rows front old.avoids.places.items ends.avoids.chosen) met.read_is;
    }
