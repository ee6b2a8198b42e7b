-- Writing sightings to the front of a list of entries, one by one.
use Rattle.std.proofs.Common.{◌≡◌, ℕ, ◌-◌, ◌≤◌, List, ◌++◌, map, length, take, drop, ap, ◌∙◌, subst, append-nil, arith}
use Rattle.std.proofs.lemmas.List.{drop_all, length-drop}
use borrow.Rule.Slice.PartMut.{put_mid}
use Rattle.book.specs.declared.entry.Entry.{Entry}
use Rattle.matching.specs.Match.{sightings}
use Rattle.watch.specs.Following.{entry_at, WroteFirst}

-- The first i sightings are written within the list, and the rest is as it was.
pub record WrittenUpTo (place : ℕ) (seen : List (ℕ × ℕ)) (old new : List Entry) (i : ℕ) : Type 0 where
  pub within : i ≤ length old
  pub front : take i new ≡ map (entry_at place) (take i seen)
  pub rest : drop i new ≡ drop i old

-- What was written depends on the sightings alone.
pub wrote_same : (cues cues' : List (List ℕ)) (text text' : List ℕ) (place : ℕ) (old new : List Entry) (r : ℕ) → sightings cues' text' ≡ sightings cues text → WroteFirst cues' text' place old new r → WroteFirst cues text place old new r
wrote_same cues cues' text text' place old new r same =
    subst (λ seen. length seen ≤ length old → (r ≡ length seen) × (new ≡ map (entry_at place) seen ++ drop r old)) same

-- A write to the part from an index on.
pub put_rest : {X : Type 0} (xs ys : List X) (a : ℕ) → a ≤ length xs → put_mid a (length xs - a) xs ys ≡ take a xs ++ ys
put_rest xs ys a h = ap (λ z. take a xs ++ (ys ++ z)) (drop_all (length xs - a) (drop a xs) (omega (arith, length-drop a xs))) ∙ ap (λ z. take a xs ++ z) (append-nil ys)
