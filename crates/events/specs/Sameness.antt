-- Sameness of events, the relation that all matching is up to.
use Rattle.std.specs.Prelude.{ℕ, ◌+◌, Bool, true, false, ◌&&◌, ◌||◌, List, [], ◌∷◌, ◌≡◌, eqb, leb}

-- The three laws of a sameness: it is an equivalence relation, given as a test.
pub record Lawful {E : Type 0} (same : E → E → Bool) : Type 0 where
  pub reflexive : (x : E) → same x x ≡ true
  pub symmetric : (x y : E) → same x y ≡ same y x
  pub transitive : (x y z : E) → same x y ≡ true → same y z ≡ true → same x z ≡ true

-- Two lists are the same event by event, and so of one length.
abbrev pub same_lists : {E : Type 0} → (E → E → Bool) → List E → List E → Bool
same_lists same [] [] = true
same_lists same [] (y ∷ ys) = false
same_lists same (x ∷ xs) [] = false
same_lists same (x ∷ xs) (y ∷ ys) = same x y && same_lists same xs ys

-- A capital letter of ASCII, as a byte.
abbrev pub capital : ℕ → Bool
capital b = leb 65 b && leb b 90

-- Two bytes of text are the same where they are equal, or one is a capital letter and the other is 32 higher.
abbrev pub same_bytes : ℕ → ℕ → Bool
same_bytes x y = eqb x y || ((capital x && eqb y (x + 32)) || (capital y && eqb x (y + 32)))
