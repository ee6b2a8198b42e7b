-- The lines of entries.
use Rattle.std.proofs.Common.{◌≡◌, ℕ, List, [], ◌∷◌, ◌++◌, map, sym, refl, ap, ◌∙◌, append_assoc}
use Rattle.std.specs.List.{flat_map}
use Rattle.script.specs.Report.{entry_lines}
use Rattle.watch.specs.Following.{entry_of}
use Rattle.report.specs.Reached.{entry_text}

pub lines_of_entries : (es : List (ℕ × ℕ × ℕ)) → flat_map entry_text (map entry_of es) ≡ entry_lines es
lines_of_entries [] = refl
lines_of_entries (e ∷ es) = ap (λ x. entry_text (entry_of e) ++ x) (lines_of_entries es)

pub entry_lines_append : (xs ys : List (ℕ × ℕ × ℕ)) → entry_lines (xs ++ ys) ≡ entry_lines xs ++ entry_lines ys
entry_lines_append [] ys = refl
entry_lines_append (e ∷ xs) ys = ap (λ x. entry_text (entry_of e) ++ x) (entry_lines_append xs ys) ∙ sym (append_assoc (entry_text (entry_of e)) (entry_lines xs) (entry_lines ys))
