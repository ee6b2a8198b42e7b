-- What a table keeps while it is built, and the steps of a build.
use Rattle.std.proofs.Common.{◌≡◌, ℕ, ◌+◌, ◌≤◌, length, vec_items, sym, refl, ap, ◌∙◌, subst, arith}
use Rattle.book.specs.Cues.{AllWithin, parts_of}
use Rattle.matching.specs.Calls.{total}
use Rattle.links_theory.specs.Entries.{Growing, done}
use Rattle.links_theory.proofs.Growth.{growing_level, done_all}
use Rattle.links_theory.proofs.Parts.{cues_length}
use Rattle.links.specs.declared.table.Table.{Table}
use Rattle.links.specs.Tables.{cues_in, Kept, Building}

pub kept_same : (t : Table) → Kept t t
kept_same t = record { signs = refl; cues = refl; nodes = refl; places = refl }

pub kept_more : (t u v : Table) → Kept t u → Kept u v → Kept t v
kept_more t u v p q =
    record {
      signs = q.signs ∙ p.signs;
      cues = q.cues ∙ p.cues;
      nodes = q.nodes ∙ p.nodes;
      places = q.places ∙ p.places;
    }

pub kept_cues : (t u : Table) → Kept t u → cues_in u ≡ cues_in t
kept_cues t u k = ap (λ v. parts_of (vec_items v) (vec_items u.cues)) k.signs ∙ ap (λ v. parts_of (vec_items t.signs) (vec_items v)) k.cues

pub within_kept : (t u : Table) → Kept t u → AllWithin (length (vec_items t.signs)) (vec_items t.cues) → AllWithin (length (vec_items u.signs)) (vec_items u.cues)
within_kept t u k w =
    subst (λ v. AllWithin (length (vec_items v)) (vec_items u.cues)) (sym k.signs) (subst (λ v. AllWithin (length (vec_items t.signs)) (vec_items v)) (sym k.cues) w)

-- a build goes on in a table that has kept the cues
pub building_kept : (t u : Table) (k i j : ℕ) → Building t k i → Kept t u → Growing (cues_in t) (vec_items u.nodes) u.heads.value (vec_items u.places) k j → length (vec_items u.nodes) ≤ 1 + done k j (cues_in t) → Building u k j
building_kept t u k i j b e g few =
    record {
      growing = subst (λ cs. Growing cs (vec_items u.nodes) u.heads.value (vec_items u.places) k j) (sym (kept_cues t u e)) g;
      few = subst (λ cs. length (vec_items u.nodes) ≤ 1 + done k j cs) (sym (kept_cues t u e)) few;
      fits = subst (λ cs. total cs ≤ 1024) (sym (kept_cues t u e)) b.fits;
      within = within_kept t u e b.within;
      numbers = subst (λ v. length (vec_items v) ≤ 128) (sym e.cues) b.numbers;
    }

-- a level done
pub building_level : (t : Table) (k i : ℕ) → Building t k i → length (vec_items t.cues) ≤ i → Building t (k + 1) 0
building_level t k i b h =
    let long : length (cues_in t) ≤ i = omega (arith, h, cues_length (vec_items t.signs) (vec_items t.cues)) in
    record {
      growing = growing_level (cues_in t) (vec_items t.nodes) t.heads.value (vec_items t.places) k i b.growing long;
      few = omega (arith, b.few, done_all k i (cues_in t) long);
      fits = b.fits;
      within = b.within;
      numbers = b.numbers;
    }
