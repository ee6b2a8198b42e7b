-- Where the first byte 10 of an input stands, by its first line.
use Rattle.std.proofs.Common.{◌≡◌, ℕ, eqb, List, [], ◌∷◌, ◌++◌, length, drop, sym, ap, ◌∙◌, append_assoc, arith}
use Rattle.std.proofs.lemmas.List.{length-append, same_from_push}
use Rattle.std.proofs.lemmas.Bool.{cond_both, cond-false, ne_eqb}
use Rattle.columns.specs.Lines.{first_line}
use Rattle.columns.proofs.Splits.{first_rest}
use Rattle.note_report.specs.Inputs.{Unbroken}

-- only the last byte of a first line can be byte 10
pub front_unbroken : (xs t : List ℕ) (l : ℕ) → first_line xs ≡ t ++ l ∷ [] → Unbroken t
front_unbroken xs [] l = λ h. tt
front_unbroken [] (a ∷ t) l = λ h. absurd (grind arith)
front_unbroken (b ∷ bs) (a ∷ t) l =
    cond_both (eqb b 10) (b ∷ []) (b ∷ first_line bs) (λ ys. ys ≡ a ∷ (t ++ l ∷ []) → Unbroken (a ∷ t))
    (λ e h. absurd (grind (arith, length-append t (l ∷ []))))
    (λ e h. ((λ z. absurd (grind arith)), front_unbroken bs t l (cc)))

-- where the first line does not end with byte 10, there is none
pub unended : (xs : List ℕ) → ((t : List ℕ) → first_line xs ≡ t ++ 10 ∷ [] → ⊥) → Unbroken xs
unended [] h = tt
unended (b ∷ bs) h =
    let other : b ≡ 10 → ⊥ = λ z. h [] (grind arith) in
    (other, unended bs (λ t e. h (b ∷ t) (cond-false (eqb b 10) _ _ (ne_eqb b 10 other) ∙ ap (λ l. b ∷ l) e)))

-- where another byte is its last, it lacks its byte 10
pub no_end : (xs line t : List ℕ) (l : ℕ) → line ≡ first_line xs → line ≡ t ++ l ∷ [] → (l ≡ 10 → ⊥) → Unbroken xs
no_end xs line t l f s other = unended xs (λ u e. other (same_from_push t u l 10 (sym s ∙ (f ∙ e))).1)

pub first_split : (xs t rest : List ℕ) (l : ℕ) → first_line xs ≡ t ++ l ∷ [] → rest ≡ drop (length (first_line xs)) xs → xs ≡ t ++ (l ∷ rest)
first_split xs t rest l e d = let s = first_rest xs in let a = append_assoc t (l ∷ []) rest in cc
