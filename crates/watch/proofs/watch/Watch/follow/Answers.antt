use Rattle.std.proofs.Common.{◌≡◌, ℕ, ◌+◌, ◌-◌, ◌≤◌, List, [], ◌∷◌, ◌++◌, map, length, get_or, take, drop, sym, ap, ◌∙◌, subst, arith}
use Rattle.std.proofs.lemmas.List.{get_or-map, length-drop, length-map, take_rest}
use Rattle.book.specs.Held.{book_held, lookup, lookups}
use Rattle.book.specs.declared.draft.Book.{Book}
use Rattle.matching.specs.Calls.{Account}
use Rattle.matching.specs.Match.{sightings}
use Rattle.watch.specs.Following.{entry_at, LoadedEvents, obstacle, WroteFirst}
use Rattle.watch.proofs.Books.{book_cues_of, book_within}
use Rattle.watch.proofs.Hearing.{loaded_events}
use Rattle.watch.proofs.Runs.{followed_right}
use Rattle.watch.proofs.Sofar.{Ended, ended_done, ended_early, free_enough, sofar_step}
use Rattle.watch.proofs.Writing.{put_rest, wrote_same}
use Rattle.watch.proofs.watch.Watch.follow.Given.{Over}
use Rattle.watch.proofs.watch.Watch.follow.Goals as goal

in-events : (g : Over) (b : Book g.row.E.Denot) (events : List g.row.E.Denot) (free : ℕ) (a : Account) → LoadedEvents g.E.Event.same (book_held b) events free a
in-events g b events free a =
    loaded_events g.E.Event.same (record { reflexive = g.met.E.Event.reflexive; symmetric = g.met.E.Event.symmetric; transitive = g.met.E.Event.transitive }) (book_held b)
    (omega (arith, b.material.short, b.material.events.ok.0)) (book_within b) (book_cues_of b).some_signs a events free

pub returns-in-Some : goal.returns-in-Some
returns-in-Some g c =
    let m = g.L.Engine in
    let v = c.args.self.now in
    let b = c.args.book.now in
    let signs = lookups g.E.Event.same (book_held b) c.args.events.now in
    let long = length-map c.args.events.now (lookup g.E.Event.same (book_held b)) in
    let why = c.in-Some.ensures ∙ ap (λ n. obstacle c.loop-taken.self.len (n - c.loop-taken.written)) c.loop-taken.auto.entries in
    let right = followed_right m v _ signs c.args.entries.now _ _ (λ begun few. ended_early (m.cues v.engine) (m.live v.engine) v.len (m.cost v.engine) signs c.args.entries.now c.in-Some.ending (c.loop-taken.invariant.1 begun few) (omega (arith, c.loop-taken-test.true)) why) in
    record { answer = right.0; leads = right.1; events = λ calls h. in-events g b c.args.events.now (length c.args.entries.now) _ }

pub loop-taken-preserved : goal.loop-taken-preserved
loop-taken-preserved g c =
    let m = g.L.Engine in
    let v = c.args.self.now in
    let w = c.loop-taken.self in
    let told = c.follow_one-written.ensures in
    let f = lookup g.E.Event.same (book_held c.args.book.now) in
    let events = c.args.events.now in
    let signs = lookups g.E.Event.same (book_held c.args.book.now) events in
    let s = f c.index-events-taken.result in
    let cues = m.cues v.engine in
    let text = m.live w.engine ++ s ∷ [] in
    let long = length-map events f in
    let now = c.loop-taken.entries in
    let n = c.loop-taken.written in
    let free = take_rest now n in
    let left = length-drop n now in
    let fits : n ≤ length now = omega (arith, c.loop-taken.invariant.0, c.loop-taken.auto.entries) in
    let at : s ≡ get_or signs c.loop-taken.taken 0 = ap f c.index-events-taken.is ∙ sym (get_or-map f events c.loop-taken.taken c.index-events-taken.result 0 c.loop-taken-test.true) in
    let none = sym c.in_default.is ∙ (c.obstacle.ensures ∙ ap (λ k. obstacle w.len (k - n)) c.loop-taken.auto.entries) in
    let told_wrote = subst (λ zs. WroteFirst (m.cues w.engine) text w.len zs c.follow_one-written.new.free c.follow_one-written.result) free told.wrote in (
      omega (arith, told.bound, ap length free, left, fits, c.loop-taken.auto.entries),
      λ begun few.
          let h = c.loop-taken.invariant.1 begun few in
          let wrote = wrote_same cues (m.cues w.engine) text text w.len (drop n now) _ _ (ap (λ cs. sightings cs text) h.same) told_wrote (omega (arith, few text, left, free_enough w.len _ none, c.loop-taken.auto.entries)) in
          sofar_step cues (m.live v.engine) v.len (m.cost v.engine) signs c.args.entries.now h _ _ _ _ _ _ s
          (omega (arith, c.loop-taken-test.true)) at none told.cues told.live told.len told.cost (ap (λ k. n + k) wrote.0)
          (put_rest now c.follow_one-written.new.free n fits ∙ ap (λ z. take n now ++ z) (wrote.1 ∙ ap (λ k. map (entry_at w.len) (sightings cues text) ++ drop k (drop n now)) wrote.0)),
    )

pub returns : goal.returns
returns g c =
    let m = g.L.Engine in
    let v = c.args.self.now in
    let b = c.args.book.now in
    let signs = lookups g.E.Event.same (book_held b) c.args.events.now in
    let long = length-map c.args.events.now (lookup g.E.Event.same (book_held b)) in
    let all : c.loop-taken.taken ≡ length c.args.events.now = omega (arith, c.loop-taken-test.false, c.loop-taken.auto.taken-end) in
    let w = c.loop-taken.self in
    let old = c.args.entries.now in
    let right = followed_right m v w signs old _ _ (λ begun few.
    subst (λ k. Ended (m.cues v.engine) (m.live v.engine) v.len (m.cost v.engine) signs old k c.loop-taken.written 0 (m.cues w.engine) (m.live w.engine) w.len (m.cost w.engine) c.loop-taken.entries) all
    (ended_done (m.cues v.engine) (m.live v.engine) v.len (m.cost v.engine) signs old (c.loop-taken.invariant.1 begun few) (omega (arith, all)))) in
    record { answer = right.0; leads = right.1; events = λ calls h. in-events g b c.args.events.now (length old) _ }
