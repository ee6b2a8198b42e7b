use Rattle.std.proofs.Common.{◌≡◌, ℕ, List, vec_items, refl, ap, ◌∙◌}
use Rattle.book.specs.declared.cue.Cue.{Cue}
use Rattle.book.specs.Cues.{parts_of}
use Rattle.links_theory.proofs.Paths.{path_root}
use Rattle.links.specs.Tables.{cues_in}
use Rattle.links.proofs.link_engine.calls.LinkEngineEngine.load.Goals as goal

-- the cues of the table are those of the book
read : (all : List (List ℕ)) (xs signs : List ℕ) (ys cues : List Cue) → all ≡ parts_of xs ys → xs ≡ signs → ys ≡ cues → all ≡ parts_of signs cues
read all xs signs ys cues e p q = e ∙ ap (λ zs. parts_of zs ys) p ∙ ap (parts_of signs) q

pub returns-clause-held : goal.returns-clause-held
returns-clause-held g c =
    let told = c.rebuild.ensures in
    let t = c.rebuild.new.self in
    (read _ _ _ _ _ told.cues c.signs.ensures c.cues.ensures, path_root (cues_in t) (vec_items t.nodes) t.heads.value told.ready.sound, refl)
