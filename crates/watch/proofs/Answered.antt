-- What an answer says of the refusal behind it.
use Rattle.std.proofs.Common.{◌≡◌, Some, None, Ok, Err, Option, refl, arith}
use Rattle.events.specs.declared.Refusal.{Refusal}
use Rattle.book.specs.Cues.{answer}

pub answer_ok : {T : Type 0} (o : Option Refusal) (n x : T) → Ok n ≡ answer o x → o ≡ None
answer_ok None n x h = refl
answer_ok (Some r) n x h = absurd (grind arith)

pub answer_err : {T : Type 0} (o : Option Refusal) (x : T) (e : Refusal) → Err e ≡ answer o x → o ≡ Some e
answer_err None x e h = absurd (grind arith)
answer_err (Some r) x e h = grind arith
