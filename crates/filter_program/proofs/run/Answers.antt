use Rattle.std.proofs.Common.{◌≡◌, ℕ, List, [], ◌++◌, take, Option, None, Some, IfSome, vec_items, ap, ◌∙◌, subst}
use Rattle.std.specs.Io.KnownBytes.{Appends}
use Rattle.std.specs.Option.{option_map}
use Rattle.filter_program.specs.declared.TheConstants.{READ}
use Rattle.filter_program.proofs.run.Goals as goal

-- What is read up to a limit, behind no byte.
known : (bytes items old : List ℕ) (limit : ℕ) (o : Option (List ℕ)) → bytes ≡ items → old ≡ [] → IfSome (option_map (take limit) o) (λ xs. items ≡ old ++ xs) → IfSome o (λ xs. bytes ≡ take limit xs)
known bytes items old limit None is none h = h
known bytes items old limit (Some xs) is none h = is ∙ (h ∙ ap (λ ys. ys ++ take limit xs) none)

pub returns : goal.returns
returns g c =
    let bytes = c.read_to_end.new.buf in
    let old = c.new-bytes.result in
    let inner = subst (λ r. IfSome (option_map (take c.take.result.limit) (g.R.Read.remaining r)) (λ xs. vec_items bytes ≡ vec_items old ++ xs)) c.take.ensures.inner c.in_ok-read_to_end.ensures.bytes in
    let read = subst (λ n. IfSome (option_map (take n) (g.R.Read.remaining c.args.input)) (λ xs. vec_items bytes ≡ vec_items old ++ xs)) c.take.ensures.limit inner in (
      c.as_slice.result,
      c.in_ok-out.out,
      c.in_ok-out.ensures,
      subst (Appends (g.W.Write.contents c.args.output.now) (g.W.Write.contents c.write_all.new.self)) c.as_slice-2.ensures.value c.in_ok-write_all.ensures.bytes,
      known c.as_slice.result.now (vec_items bytes) (vec_items old) READ (g.R.Read.remaining c.args.input) c.as_slice.ensures.value c.new-bytes.ensures.items read,
    )
