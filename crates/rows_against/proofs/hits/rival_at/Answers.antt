use Rattle.std.proofs.Common.{Err}
use Rattle.std.proofs.lemmas.List.Sorted.{searched}
use Rattle.rows_against.proofs.Reading.{found_there, rise}
use Rattle.rows_against.proofs.hits.rival_at.Goals as goal

pub returns-in-Err : goal.returns-in-Err
returns-in-Err c =
    let places = c.args.places.now in
    let at = c.in-Err.field-0 in
    let h = searched places c.args.place (Err at) c.in-Err.ensures.position (rise places c.requires.rising) in
    absurd (found_there places c.args.place at h.1 h.2 c.requires.there)
