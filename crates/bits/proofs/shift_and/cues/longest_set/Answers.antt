use Rattle.std.proofs.Common.{◌≡◌, ℕ, ◌<◌, ◌≤◌, ◌+◌, ◌-◌, ◌&&◌, ltb, Bool, true, List, [], length, get_or, rules, tests, Option, Some, None, MatchOption, sym, ap, ◌∙◌, subst, arith}
use Rattle.book.specs.Cues.{cue_at}
use Rattle.book.specs.declared.cue.Cue.{Cue}
use Rattle.std.proofs.lemmas.Bool.{lt-ltb}
use Rattle.std.proofs.lemmas.Iterator.{YieldsList-from_slice}
use Rattle.std.proofs.lemmas.Iterator.Consumers.{YieldsList-at, YieldsList-from_enumerate, YieldsList-from_filter}
use Rattle.std.proofs.lemmas.List.FromFn.{get_or-enumerate_from, length-enumerate_from}
use Rattle.std.specs.List.{All, enumerate_from, filter}
use Rattle.std.specs.Option.{IsSomeAnd, option_map}
use denote.Ref.{Bor}
use Rattle.bits_theory.specs.Laid.{span_at}
use Rattle.bits_theory.specs.Words.{bit}
use Rattle.bits_theory.proofs.Picks.{of_passing, picks_most}
use Rattle.bits.specs.Views.{whole_set}
use Rattle.bits.proofs.shift_and.cues.longest_set.Goals as goal

-- The test of the filter, of a cue with its number.
abbrev passes : ℕ → ℕ → ℕ × Cue → Bool
passes state below p = ltb p.1.len below && bit state (p.1.place + p.1.len - 1)

listed_at : (spans : List Cue) (i : ℕ) → i < length spans → get_or (enumerate_from 0 spans) i (0, cue_at 0 0) ≡ (i, span_at spans i)
listed_at spans i h = get_or-enumerate_from 0 spans i (0, cue_at 0 0) h ∙ ap (λ n. (n, span_at spans i)) (omega arith)

passing : (P : ℕ × Cue → Type 0) (state below : ℕ) (spans : List Cue) (i : ℕ) → All P (filter (passes state below) (enumerate_from 0 spans)) → i < length spans → (span_at spans i).len < below → whole_set state (span_at spans i) ≡ true → P (i, span_at spans i)
passing P state below spans i all h short set =
    subst P (listed_at spans i h) (of_passing (passes state below) P (enumerate_from 0 spans) i (0, cue_at 0 0) all (omega (arith, length-enumerate_from 0 spans)) (ap (passes state below) (listed_at spans i h) ∙ rw (lt-ltb (span_at spans i).len below short) set))

most_of : (state below : ℕ) (spans : List Cue) (r : Option (ℕ × Bor Cue)) → MatchOption {T = ℕ × Cue} (option_map (λ x. (x.0, x.1.now)) r) (filter (passes state below) (enumerate_from 0 spans) ≡ []) (λ m. All (λ z. z.1.len ≤ m.1.len) (filter (passes state below) (enumerate_from 0 spans))) →
    (c : ℕ) → c < length spans → (span_at spans c).len < below → whole_set state (span_at spans c) ≡ true → IsSomeAnd r (λ m. (span_at spans c).len ≤ m.1.now.len)
most_of state below spans None none c h short set = passing (λ z. ⊥) state below spans c (subst (All (λ z. ⊥)) (sym none) (λ k d l. absurd (omega arith))) h short set
most_of state below spans (Some m) most c h short set = passing (λ z. z.1.len ≤ m.1.now.len) state below spans c most h short set

pub returns-clause-most : goal.returns-clause-most
returns-clause-most c =
    most_of c.args.state c.args.below c.args.spans.now c.max_by_key.result
    (picks_most _ (λ (p : ℕ × Cue). p.1.len) c.filter.result _ c.max_by_key.result c.max_by_key.ensures.ran
    (YieldsList-from_filter _ (passes c.args.state c.args.below) (YieldsList-at c.filter.ensures.source (YieldsList-from_enumerate (YieldsList-from_slice c.args.spans.now (cc)) (cc))) c.filter.ensures.closure (λ x r q k. search (rules, tests)))
    (λ x k q h. search (rules, tests)))
