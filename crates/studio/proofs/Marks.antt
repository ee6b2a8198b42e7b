-- After every list of offers the marks are in order, share no event, and are as many as the lane counts.
use Rattle.std.proofs.Common.{◌≡◌, ℕ, ◌+◌, ◌<◌, ◌≤◌, Bool, true, false, cond, ◌⊎◌, List, [], ◌∷◌, ◌++◌, length, get_or, Some, None, Option, sym, refl, ap, ◌∙◌, subst, ⊎_elim, arith}
use Rattle.std.proofs.lemmas.List.{get_or_append_left, get_or_at, length_push}
use Rattle.std.proofs.lemmas.Bool.{cases_lt, cases_order, leb-true}
use Rattle.events.specs.declared.Refusal.{Refusal}
use Rattle.studio.specs.Lane.{LaneHeld, marked, offered, offer_refusal, start_of, unless}
use Rattle.studio.specs.Marks.{AllBefore, Covers, EachHas, InOrder, MarksApart, NoneShared, Offer, offer_of, Played, played, played_from, played_one, Reached, unplayed}

-- What every offer keeps.
record Sound (p : Played) : Type 0 where
  count : p.lane.marks ≡ length p.spans
  each : EachHas p.spans
  before : AllBefore p.lane.edge p.spans
  order : InOrder p.spans

abbrev begin : Offer → ℕ
begin o = start_of o.end o.len

-- What holds of each of some offers and of one more holds of each of them all.
each_push : (P : Offer → Type 0) (spans : List Offer) (o : Offer) → ((i : ℕ) (d : Offer) → i < length spans → P (get_or spans i d)) → P o →
    (i : ℕ) (d : Offer) → i < length (spans ++ o ∷ []) → P (get_or (spans ++ o ∷ []) i d)
each_push P spans o all one i d l =
    let n = length_push spans o in
    ⊎_elim (λ (b : i < length spans). subst P (sym (get_or_append_left spans (o ∷ []) d i b)) (all i d b))
    (λ (b : length spans ≤ i). subst P (sym (get_or_at spans o [] d i (omega arith))) one)
    (cases_lt i (length spans))

order_push : (spans : List Offer) (o : Offer) (edge : ℕ) → edge ≤ begin o → AllBefore edge spans → InOrder spans → InOrder (spans ++ o ∷ [])
order_push spans o edge h all sorted i j d below l =
    let n = length_push spans o in
    let first : i < length spans = omega arith in
    subst (λ (x : Offer). x.end < begin (get_or (spans ++ o ∷ []) j d)) (sym (get_or_append_left spans (o ∷ []) d i first))
    (⊎_elim (λ (b : j < length spans). subst (λ (x : Offer). (get_or spans i d).end < begin x) (sym (get_or_append_left spans (o ∷ []) d j b)) (sorted i j d below b))
    (λ (b : length spans ≤ j). subst (λ (x : Offer). (get_or spans i d).end < begin x) (sym (get_or_at spans o [] d j (omega arith))) (omega (arith, all i d first)))
    (cases_lt j (length spans)))

-- One offer, by its refusal and by whether it is marked.
sound_one : (p : Played) (o : Offer) (why : Option Refusal) (is : Bool) → (why ≡ None → begin o ≤ o.end) → (is ≡ true → p.lane.edge ≤ begin o) → Sound p →
    Sound (record {
      lane = unless why (cond is (record { edge = o.end + 1; marks = p.lane.marks + 1; last = o.end }) (record { edge = p.lane.edge; marks = p.lane.marks; last = o.end })) p.lane;
      spans = unless why (cond is (p.spans ++ o ∷ []) p.spans) p.spans;
    })
sound_one p o (Some refusal) is has h s = record { count = s.count; each = s.each; before = s.before; order = s.order }
sound_one p o None true has h s =
    let one = has refl in
    let behind = h refl in
    record {
      count = omega (arith, s.count, length_push p.spans o);
      each = each_push (λ (x : Offer). Covers x x.end) p.spans o s.each (one, omega arith);
      before = each_push (λ (x : Offer). x.end < o.end + 1) p.spans o (λ i d l. omega (arith, s.before i d l)) (omega arith);
      order = order_push p.spans o p.lane.edge behind s.before s.order;
    }
sound_one p o None false has h s = record { count = s.count; each = s.each; before = s.before; order = s.order }

-- An offer that is not refused has an event.
has_event : (h : LaneHeld) (o : Offer) → offer_refusal h o.end o.len ≡ None → begin o ≤ o.end
has_event h o granted = grind arith

sound_from : (p : Played) (offers : List Offer) → Sound p → Sound (played_from p offers)
sound_from p [] s = s
sound_from p (o ∷ offers) s =
    sound_from (played_one p o) offers
    (sound_one p o (offer_refusal p.lane o.end o.len) (marked p.lane o.end o.len) (has_event p.lane o) (leb-true p.lane.edge (begin o)) s)

sound : (offers : List Offer) → Sound (played offers)
sound offers =
    sound_from unplayed offers
    (record { count = refl; each = λ i d h. absurd (omega arith); before = λ i d h. absurd (omega arith); order = λ i j d b h. absurd (omega arith) })

none_shared : (spans : List Offer) → InOrder spans → NoneShared spans
none_shared spans sorted i j place d a b one other =
    ⊎_elim (λ (e : i ≡ j). e)
    (λ (u : (i < j) ⊎ (j < i)).
    ⊎_elim (λ (l : i < j). absurd (omega (arith, sorted i j d l b, one.1, other.0))) (λ (l : j < i). absurd (omega (arith, sorted j i d l a, other.1, one.0))) u)
    (cases_order i j)

played_push : (p : Played) (offers : List Offer) (o : Offer) → played_from p (offers ++ o ∷ []) ≡ played_one (played_from p offers) o
played_push p [] o = refl
played_push p (x ∷ offers) o = played_push (played_one p x) offers o

pub marks_apart : {h k : LaneHeld} (end len : ℕ) → k ≡ offered h end len → (offers : List Offer) → Reached offers h → MarksApart (offers ++ offer_of end len ∷ []) k
marks_apart {h = h} {k = k} end len after offers reached =
    let all = offers ++ offer_of end len ∷ [] in
    let here : k ≡ (played all).lane =
    after ∙ (ap (λ (x : LaneHeld). offered x end len) reached ∙ ap (λ (p : Played). p.lane) (sym (played_push unplayed offers (offer_of end len)))) in
    let s = sound all in
    record {
      reached = here;
      count = ap (λ (x : LaneHeld). x.marks) here ∙ s.count;
      each = s.each;
      before = subst (λ (x : LaneHeld). AllBefore x.edge (played all).spans) (sym here) s.before;
      order = s.order;
      shared = none_shared (played all).spans s.order;
    }
