-- What a writer holds after two writes, or none, and what is known of it where the input is known.
use Rattle.std.proofs.Common.{◌≡◌, ℕ, ◌∙◌, List, [], ◌++◌, ap, sym, subst, Option, Some, None, IfSome}
use Rattle.std.proofs.lemmas.List.{append-nil, append_assoc}
use Rattle.std.specs.Io.KnownBytes.{Appends}
use Rattle.frames.specs.declared.frame.Frame.{Frame}
use Rattle.frames.specs.Answers.{Answered, WritesAnswers}
use Rattle.frames.specs.Answers.Answered.{a_frame}
use Rattle.frames.specs.Frames.{GivesFrame}

pub appends_nothing : (held : Option (List ℕ)) → Appends held held []
appends_nothing None = tt
appends_nothing (Some xs) = sym (append-nil xs)

pub appends_both : (a b c : Option (List ℕ)) (xs ys : List ℕ) → Appends a b xs → Appends b c ys → Appends a c (xs ++ ys)
appends_both None b c xs ys p q = tt
appends_both (Some u) None c xs ys p q = elim p [ ]
appends_both (Some u) (Some v) None xs ys p q = elim q [ ]
appends_both (Some u) (Some v) (Some w) xs ys p q = q ∙ ap (λ t. t ++ ys) p ∙ append_assoc u xs ys

-- the input was read behind nothing
pub writes_answers : (Says : Frame → List ℕ → Type 0) (known old new : Option (List ℕ)) (start read input written : List ℕ) → start ≡ [] → IfSome known (λ xs. read ≡ start ++ xs) → input ≡ read → Answered Says input (written ++ []) → Appends old new written → WritesAnswers Says known old new
writes_answers Says None old new start read input written s k i a h = tt
writes_answers Says (Some xs) old new start read input written s k i a h =
    (written, subst (λ w. Answered Says xs w) (append-nil written) (subst (λ b. Answered Says b (written ++ [])) (i ∙ k ∙ ap (λ t. t ++ xs) s) a), h)

-- what is written is the answers to the frames so far, and one frame more is answered
pub frame_answered : (Says : Frame → List ℕ → Type 0) (held now new : Option (List ℕ)) (start input left said : List ℕ) (frame : Frame) →
    (written : List ℕ) × Appends held now written × ((more : List ℕ) → Answered Says input more → Answered Says start (written ++ more)) →
    GivesFrame input (Some frame) left → Says frame said → Appends now new said →
    (written : List ℕ) × Appends held new written × ((more : List ℕ) → Answered Says left more → Answered Says start (written ++ more))
frame_answered Says held now new start input left said frame (written, held-now, sofar) gives says appends = (
  written ++ said,
  appends_both held now new written said held-now appends,
  λ more a. subst (Answered Says start) (sym (append_assoc written said more)) (sofar (said ++ more) (a_frame input left said more frame gives says a)),
)
