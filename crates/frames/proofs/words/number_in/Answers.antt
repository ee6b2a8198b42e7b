use Rattle.std.proofs.Common.{rules, ◌≡◌, ◌%◌, ◌^◌, refl, subst}
use Rattle.std.proofs.lemmas.Fn.{fold_over, slice_gives, fronts}
use Rattle.frames.specs.Words.{digits_value}
use Rattle.frames.proofs.Digits.{digit_more, other_more}
use Rattle.frames.proofs.words.number_in.Goals as goal

pub returns : goal.returns
returns c =
    subst (λ l. c.fold.result ≡ digits_value l % 2 ^ 64) c.iter.ensures.rest
    (fold_over fronts (λ y. y.now) _ (λ ys n. n ≡ digits_value ys % 2 ^ 64) _ (λ ys a x b f' j k. let digit = digit_more (2 ^ 64) ys x.now in let other = other_more (2 ^ 64) ys x.now in search rules)
    _ _ _ _ (slice_gives c.iter.result) refl c.fold.ensures.ran)
