-- The sign of an event (textbook: its symbol): a number that stands for all events the same as it.
use Rattle.std.specs.Prelude.{ℕ, suc, Bool, cond, List, [], ◌∷◌, map, length, nat_lt}

-- The lowest place in the material with an event that is the same, its length where there is none.
abbrev pub first_place : {E : Type 0} → (E → E → Bool) → List E → E → ℕ
first_place same [] e = 0
first_place same (m ∷ ms) e = cond (same m e) 0 (suc (first_place same ms e))

-- The sign of an event under some material: that place, else 2,048.
abbrev pub sign_of : {E : Type 0} → (E → E → Bool) → List E → E → ℕ
sign_of same material e = cond (nat_lt (first_place same material e) (length material)) (first_place same material e) 2048

-- The signs of a list of events.
abbrev pub signs_of : {E : Type 0} → (E → E → Bool) → List E → List E → List ℕ
signs_of same material events = map (sign_of same material) events
