-- Fields written into a line of blanks.
use Rattle.std.proofs.Common.{◌≡◌, ℕ, ◌+◌, ◌≤◌, List, [], ◌∷◌, ◌++◌, length, take, drop, replicate, sym, refl, ap, ◌∙◌, arith}
use borrow.Rule.Slice.PartMut.{put_mid}
use Rattle.std.proofs.lemmas.List.{append_assoc, length-append, length_push, length-replicate, take_at, drop_at}
use Rattle.columns.specs.Written.{number_field, entry_line}
use Rattle.columns.proofs.Writing.{length_number}

-- a field, with a byte between it and what stands in front
next_field : (before old behind new : List ℕ) (b from width : ℕ) → length before + 1 ≡ from → length old ≡ width → put_mid from width (before ++ (b ∷ (old ++ behind))) new ≡ before ++ (b ∷ (new ++ behind))
next_field before old behind new b from width h k =
    let front : List ℕ = before ++ (b ∷ []) in
    let split : before ++ (b ∷ (old ++ behind)) ≡ front ++ (old ++ behind) = sym (append_assoc before (b ∷ []) (old ++ behind)) in
    let long : length front ≡ from = length_push before b ∙ h in
    let head : take from (before ++ (b ∷ (old ++ behind))) ≡ front = ap (take from) split ∙ take_at front (old ++ behind) from long in
    let tail : drop from (before ++ (b ∷ (old ++ behind))) ≡ old ++ behind = ap (drop from) split ∙ drop_at front (old ++ behind) from long in
    let rest : drop width (drop from (before ++ (b ∷ (old ++ behind)))) ≡ behind = ap (drop width) tail ∙ drop_at old behind width k in
    ap (λ ys. ys ++ (new ++ drop width (drop from (before ++ (b ∷ (old ++ behind)))))) head
    ∙ (ap (λ ys. front ++ (new ++ ys)) rest ∙ append_assoc before (b ∷ []) (new ++ behind))

field_width : (before old behind : List ℕ) (b from width : ℕ) → length before + 1 ≡ from → length old ≡ width → length (take width (drop from (before ++ (b ∷ (old ++ behind))))) ≡ width
field_width before old behind b from width h k =
    let front : List ℕ = before ++ (b ∷ []) in
    let split : before ++ (b ∷ (old ++ behind)) ≡ front ++ (old ++ behind) = sym (append_assoc before (b ∷ []) (old ++ behind)) in
    let long : length front ≡ from = length_push before b ∙ h in
    ap (λ xs. length (take width (drop from xs))) split
    ∙ (ap (λ xs. length (take width xs)) (drop_at front (old ++ behind) from long) ∙ (ap length (take_at old behind width k) ∙ k))

-- a number written into a field of a line
field_step : (xs before old behind new : List ℕ) (b from width n : ℕ) → xs ≡ before ++ (b ∷ (old ++ behind)) → length before + 1 ≡ from → length old ≡ width → new ≡ number_field (length (take width (drop from xs))) n → put_mid from width xs new ≡ before ++ (b ∷ (number_field width n ++ behind))
field_step xs before old behind new b from width n e h k w =
    let wide : length (take width (drop from xs)) ≡ width = ap (λ ys. length (take width (drop from ys))) e ∙ field_width before old behind b from width h k in
    let number : new ≡ number_field width n = w ∙ ap (λ m. number_field m n) wide in
    ap (λ ys. put_mid from width ys new) e ∙ (next_field before old behind new b from width h k ∙ ap (λ ys. before ++ (b ∷ (ys ++ behind))) number)

-- the first two fields of a line, the second written into its blanks
pub pair_placed : (w v from n m : ℕ) (behind xs a b : List ℕ) → w + 1 ≡ from → a ≡ number_field w n → xs ≡ a ++ (32 ∷ (replicate v 32 ++ behind)) → b ≡ number_field (length (take v (drop from xs))) m → put_mid from v xs b ≡ number_field w n ++ (32 ∷ (number_field v m ++ behind))
pair_placed w v from n m behind xs a b h ea e eb =
    let long : length a ≡ w = ap length ea ∙ length_number w n in
    field_step xs a (replicate v 32) behind b 32 from v m e (omega arith) (length-replicate v 32) eb ∙ ap (λ ys. ys ++ (32 ∷ (number_field v m ++ behind))) ea

-- the rest of a sighting's line behind its second field
abbrev pub last_field : List ℕ
last_field = 32 ∷ (replicate 2 32 ++ (10 ∷ []))

pub entry_long : (place cue : ℕ) (xs a b : List ℕ) → a ≡ number_field 7 place → xs ≡ a ++ (32 ∷ (replicate 4 32 ++ last_field)) → b ≡ number_field (length (take 4 (drop 8 xs))) cue → 15 ≤ length (put_mid 8 4 xs b)
entry_long place cue xs a b ea e eb =
    rw (pair_placed 7 4 8 place cue last_field xs a b refl ea e eb) (simp length-append (omega (arith, length_number 7 place, length_number 4 cue)))

pub entry_placed : (place cue len : ℕ) (xs a b c : List ℕ) → a ≡ number_field 7 place → xs ≡ a ++ (32 ∷ (replicate 4 32 ++ last_field)) → b ≡ number_field (length (take 4 (drop 8 xs))) cue → c ≡ number_field (length (take 2 (drop 13 (put_mid 8 4 xs b)))) len → put_mid 13 2 (put_mid 8 4 xs b) c ≡ entry_line place cue len
unfolding entry_line
entry_placed place cue len xs a b c ea e eb ec =
    let front : List ℕ = number_field 7 place ++ (32 ∷ number_field 4 cue) in
    let two : put_mid 8 4 xs b ≡ front ++ last_field = pair_placed 7 4 8 place cue last_field xs a b refl ea e eb ∙ sym (append_assoc (number_field 7 place) (32 ∷ number_field 4 cue) last_field) in
    let long : length front + 1 ≡ 13 = simp length-append (omega (arith, length_number 7 place, length_number 4 cue)) in
    field_step (put_mid 8 4 xs b) front (replicate 2 32) (10 ∷ []) c 32 13 2 len two long refl ec
    ∙ append_assoc (number_field 7 place) (32 ∷ number_field 4 cue) (32 ∷ (number_field 2 len ++ (10 ∷ [])))
