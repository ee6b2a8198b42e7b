use Rattle.std.proofs.Common.{◌≡◌, [], ◌∷◌, ◌++◌, refl, ap, ◌∙◌}
use Rattle.book.specs.Held.{book_held, lookup}
use Rattle.matching.specs.Match.{live, sightings}
use Rattle.matching.proofs.Sightings.{sightings_live}
use Rattle.watch.proofs.Writing.{wrote_same}
use Rattle.watch.proofs.watch.Watch.follow_one.Goals as goal

pub returns : goal.returns
returns g c =
    let m = g.L.Engine in
    let v = c.args.self.now.engine in
    let w = c.step.new.self in
    let s = lookup g.E.Event.same (book_held c.args.book.now) c.args.event.now in
    let text = m.live v ++ s ∷ [] in
    let went : m.live w ≡ live (m.cues v) text = c.step.ensures.live ∙ ap (λ x. live (m.cues v) (m.live v ++ x ∷ [])) c.sign.ensures.value in
    let seen : sightings (m.cues w) (m.live w) ≡ sightings (m.cues v) text =
    ap (λ cs. sightings cs (m.live w)) c.step.ensures.cues ∙ (ap (sightings (m.cues v)) went ∙ (sightings_live (m.cues v) text).1) in
    record {
      cues = c.step.ensures.cues;
      live = went;
      cost = c.step.ensures.cost;
      len = refl;
      bound = c.write_sightings.ensures.bound;
      wrote = wrote_same (m.cues v) (m.cues w) text (m.live w) c.args.self.now.len c.args.free.now _ _ seen c.write_sightings.ensures.wrote;
    }
