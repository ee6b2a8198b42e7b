-- Which cues a book takes: all of them, or all before the first that it refuses.
use Rattle.std.proofs.Common.{◌≡◌, ℕ, zero, suc, ◌+◌, ◌<◌, ◌≤◌, Bool, false, ◌⊎◌, List, [], ◌∷◌, ◌++◌, length, get_or, Some, None, Option, sym, refl, ap, ◌∙◌, subst, inl, inr, ⊎_elim, append_assoc, append-nil, arith, length-append}
use Rattle.std.proofs.ByRecursion.{All-get_or, All-push}
use Rattle.std.proofs.lemmas.List.{get_or_append_left, get_or_at, get_or_push, length_push}
use Rattle.std.proofs.lemmas.Bool.{cases_lt}
use Rattle.events.specs.Sameness.{same_lists}
use Rattle.events.specs.declared.Refusal.{Refusal}
use Rattle.script.specs.Booking.{Booked, book_refusal, has_cue, size}
use Rattle.script.specs.Report.{first_refused, line_count}
use Rattle.script.specs.declared.contents.Layout.{Layout}

size_append : {E : Type 0} (xs ys : List (List E)) → size (xs ++ ys) ≡ size xs + size ys
size_append [] ys = omega arith
size_append (x ∷ xs) ys = omega (arith, size_append xs ys)

-- There is a value, or there is none.
pub cases_option : {A : Type 0} (o : Option A) → (o ≡ None) ⊎ ((a : A) × (o ≡ Some a))
cases_option None = inl refl
cases_option (Some a) = inr (a, refl)

module _ {E : Type 0} (same : E → E → Bool) where
  -- No cue is the same as the given one.
  has_none : (cues : List (List E)) (c : List E) → ((i : ℕ) → i < length cues → same_lists same (get_or cues i []) c ≡ false) → has_cue same cues c ≡ false
  has_none [] c h = refl
  has_none (d ∷ cues) c h =
      let e : same_lists same d c ≡ false = h 0 (omega arith) in
      let r = has_none cues c (λ i l. h (suc i) (omega arith)) in
      grind arith

  none_has : (cues : List (List E)) (c : List E) → has_cue same cues c ≡ false → (i : ℕ) → i < length cues → same_lists same (get_or cues i []) c ≡ false
  none_has [] c h i l = grind arith
  none_has (d ∷ cues) c h zero l = grind arith
  none_has (d ∷ cues) c h (suc i) l = grind (arith, none_has cues c)

  -- What it takes that a cue is not refused.
  record Fitting (before : List (List E)) (c : List E) : Type 0 where
    filled : 1 ≤ length c
    short : length c ≤ 32
    room : (length before ≡ 128) → ⊥
    space : size before + length c ≤ 1024
    new : has_cue same before c ≡ false

  fitting : (before : List (List E)) (c : List E) → book_refusal same before c ≡ None → Fitting before c
  fitting before c h = record {
    filled = grind arith;
    short = grind arith;
    room = λ e. grind arith;
    space = grind arith;
    new = grind arith;
  }

  fits : (before : List (List E)) (c : List E) → Fitting before c → book_refusal same before c ≡ None
  fits before c f =
      let a = f.filled in
      let b = f.short in
      let r = f.room in
      let s = f.space in
      let n = f.new in
      grind arith

  pub booked_none : Booked same []
  booked_none = record { sizes = tt; few = omega arith; together = omega arith; apart = λ i j l m. grind arith }

  -- A book takes a cue more that is not refused.
  pub booked_push : (before : List (List E)) (c : List E) → Booked same before → book_refusal same before c ≡ None → Booked same (before ++ c ∷ [])
  booked_push before c b h =
      let f = fitting before c h in
      let n = length_push before c in
      record {
        sizes = All-push (λ d. (1 ≤ length d) × (length d ≤ 32)) before c b.sizes (f.filled, f.short);
        few = omega (arith, b.few, f.room, n);
        together = omega (arith, f.space, size_append before (c ∷ []));
        apart = λ i j l m. ⊎_elim
            (λ (k : j < length before).
            subst (λ d. same_lists same d (get_or (before ++ c ∷ []) j []) ≡ false) (sym (get_or_append_left before (c ∷ []) [] i (omega arith)))
            (subst (λ d. same_lists same (get_or before i []) d ≡ false) (sym (get_or_append_left before (c ∷ []) [] j k)) (b.apart i j l k)))
            (λ (k : length before ≤ j).
            subst (λ d. same_lists same d (get_or (before ++ c ∷ []) j []) ≡ false) (sym (get_or_append_left before (c ∷ []) [] i (omega (arith, n))))
            (subst (λ d. same_lists same (get_or before i []) d ≡ false) (sym (get_or_push before c [] j (omega (arith, n)))) (none_has before c f.new i (omega (arith, n)))))
            (cases_lt j (length before));
      }

  -- No cue of a book is refused behind those before it.
  pub booked_taken : (before : List (List E)) (c : List E) (after : List (List E)) → Booked same (before ++ c ∷ after) → book_refusal same before c ≡ None
  booked_taken before c after b =
      let n = length-append before (c ∷ after) in
      let g = get_or_at before c after [] (length before) refl in
      let z : (1 ≤ length c) × (length c ≤ 32) = subst (λ d. (1 ≤ length d) × (length d ≤ 32)) g (All-get_or (λ d. (1 ≤ length d) × (length d ≤ 32)) (before ++ c ∷ after) (length before) [] (omega (arith, n)) b.sizes) in
      fits before c
      (record {
        filled = z.0;
        short = z.1;
        room = λ e. omega (arith, b.few, n);
        space = omega (arith, b.together, size_append before (c ∷ after));
        new = has_none before c (λ i l.
            subst (λ d. same_lists same d c ≡ false) (get_or_append_left before (c ∷ after) [] i l)
            (subst (λ d. same_lists same (get_or (before ++ c ∷ after) i []) d ≡ false) g (b.apart i (length before) l (omega (arith, n)))));
      })

  -- Of a book's cues none is the first that is refused.
  pub first_none : (layout : Layout) (before cues : List (List E)) (later : Option (Refusal × ℕ)) → Booked same (before ++ cues) → first_refused same layout before cues later ≡ later
  first_none layout before [] later b = refl
  first_none layout before (c ∷ cues) later b =
      rw (booked_taken before c cues b)
      (first_none layout (before ++ c ∷ []) cues later (subst (λ x. Booked same x) (sym (append_assoc before (c ∷ []) cues)) b))

  -- The first cue that is refused behind those of a book.
  pub first_some : (layout : Layout) (before cues : List (List E)) (c : List E) (after : List (List E)) (refusal : Refusal) (later : Option (Refusal × ℕ)) → Booked same (before ++ cues) → book_refusal same (before ++ cues) c ≡ Some refusal → first_refused same layout before (cues ++ c ∷ after) later ≡ Some (refusal, line_count layout ((before ++ cues) ++ c ∷ []))
  first_some layout before [] c after refusal later b h =
      let n = append-nil before in
      let r : book_refusal same before c ≡ Some refusal = subst (λ x. book_refusal same x c ≡ Some refusal) n h in
      rw r (ap (λ x. Some (refusal, line_count layout (x ++ c ∷ []))) (sym n))
  first_some layout before (d ∷ cues) c after refusal later b h =
      let e = append_assoc before (d ∷ []) cues in
      rw (booked_taken before d cues b)
      (first_some layout (before ++ d ∷ []) cues c after refusal later (subst (λ x. Booked same x) (sym e) b) (subst (λ x. book_refusal same x c ≡ Some refusal) (sym e) h)
      ∙ ap (λ x. Some (refusal, line_count layout (x ++ c ∷ []))) e)

  -- The cues of a book, one that is refused behind them, and those behind that one.
  pub record Refused (cues : List (List E)) : Type 0 where
    pub before : List (List E)
    pub cue : List E
    pub after : List (List E)
    pub refusal : Refusal
    pub parts : cues ≡ before ++ cue ∷ after
    pub booked : Booked same before
    pub refused : book_refusal same before cue ≡ Some refusal

  -- All cues are those of a book, or one is refused behind those before it.
  pub booked_or_refused : (before cues : List (List E)) → Booked same before → Booked same (before ++ cues) ⊎ Refused (before ++ cues)
  booked_or_refused before [] b = inl (subst (λ x. Booked same x) (sym (append-nil before)) b)
  booked_or_refused before (c ∷ cues) b =
      ⊎_elim
      (λ (h : book_refusal same before c ≡ None).
      subst (λ x. Booked same x ⊎ Refused x) (append_assoc before (c ∷ []) cues) (booked_or_refused (before ++ c ∷ []) cues (booked_push before c b h)))
      (λ (h : (a : Refusal) × (book_refusal same before c ≡ Some a)).
      inr (record { before = before; cue = c; after = cues; refusal = h.0; parts = refl; booked = b; refused = h.1 }))
      (cases_option (book_refusal same before c))
