-- Every answer means what is said of it, a list passes exactly if it is passable, and where it passes nothing is accepted. Assumes nothing.
use Rattle.std.proofs.Common.{◌≡◌, ℕ, ◌<◌, ◌≤◌, ltb, List, length, is_some, Some, None, Ok, Err, Option, Result, sym, refl, ap, ◌∙◌, subst, inl, inr, arith}
use Rattle.std.specs.List.{slice_get}
use Rattle.std.specs.Option.{option_map}
use Rattle.std.proofs.lemmas.Option.{slice_get_within}
use Rattle.std.proofs.lemmas.Bool.{cases_Bool, both_ways, ltb-true, ltb-false}
use Rattle.kinds.specs.Shape.{Shape}
use Rattle.kinds.specs.Laws.{Laws}
use Rattle.kinds.specs.Accepted.{NothingAccepted}
use Rattle.kinds.specs.Certificate.{covered, Certifies}
use Rattle.kinds.proofs.Values.{none_some, none_or_some, from_value, true_if_not_false, false_if_not_true}
use Rattle.kinds.proofs.Certificates.{certificates_sound}
use Rattle.inspector.specs.declared.answers.Inspection.{Inspection}
use Rattle.inspector.specs.declared.answers.Inspection.TheVariants.{Passed, First, Goal, Back}
use Rattle.inspector.specs.declared.answers.Refused.{Refused}
use Rattle.inspector.specs.declared.answers.Refused.TheVariants.{TooLong, Unfit}
use Rattle.inspector.specs.Inspected.{max_entries, least, has_such, leads_out, unfit_entry, uncovered_first, goal_entry, escaping_move, escape, inspected}
use Rattle.inspector.specs.Meaning.{Entry, Least, Nowhere, UnfitEntry, UncoveredFirst, GoalEntry, Escape, Escapable, Passable, Says, PassesExactly}
use Rattle.inspector.proofs.Leasts.{least_found, nowhere, least_place}
use Rattle.inspector.proofs.Places.{unfit_decides, uncovered_decides, goal_decides, escape_decides, escape_below, escapable_decides}
use Rattle.inspector.proofs.Finds.{escape_some}

-- what a function makes of a value comes of it
of_value : {A B : Type 0} (f : A → B) (o : Option A) (b : B) → option_map f o ≡ Some b → (a : A) × (o ≡ Some a) × (f a ≡ b)
of_value f None b h = none_some refl h
of_value f (Some a) b h = (a, refl, cc)

module _ {C : Type 0} (s : Shape C) (laws : Laws s) (xs : List C) where
  entry_below : (ys : List C) (P : C → Type 0) (i : ℕ) → Entry ys P i → i < length ys
  entry_below ys P i e = slice_get_within ys i e.entry e.there

  fits_found : unfit_entry s xs ≡ None → Nowhere (UnfitEntry s xs)
  fits_found = nowhere (λ i. has_such _ (slice_get xs i)) (UnfitEntry s xs) (unfit_decides s xs) (length xs) (entry_below xs _)

  unfit_found : (i : ℕ) → unfit_entry s xs ≡ Some i → Least (UnfitEntry s xs) i
  unfit_found = least_place (λ i. has_such _ (slice_get xs i)) (UnfitEntry s xs) (unfit_decides s xs) (length xs) (entry_below xs _)

  firsts_found : uncovered_first s xs ≡ None → Nowhere (UncoveredFirst s xs)
  firsts_found = nowhere (λ i. has_such _ (slice_get s.firsts i)) (UncoveredFirst s xs) (uncovered_decides s xs) (length s.firsts) (entry_below s.firsts _)

  uncovered_found : (i : ℕ) → uncovered_first s xs ≡ Some i → Least (UncoveredFirst s xs) i
  uncovered_found = least_place (λ i. has_such _ (slice_get s.firsts i)) (UncoveredFirst s xs) (uncovered_decides s xs) (length s.firsts) (entry_below s.firsts _)

  no_goal_found : goal_entry s xs ≡ None → Nowhere (GoalEntry s xs)
  no_goal_found = nowhere (λ i. has_such _ (slice_get xs i)) (GoalEntry s xs) (goal_decides s xs) (length xs) (entry_below xs _)

  goal_found : (i : ℕ) → goal_entry s xs ≡ Some i → Least (GoalEntry s xs) i
  goal_found = least_place (λ i. has_such _ (slice_get xs i)) (GoalEntry s xs) (goal_decides s xs) (length xs) (entry_below xs _)

  escapable_below : (i : ℕ) → Escapable s xs i → i < length xs
  escapable_below i e = entry_below xs _ i e.1

  no_escape_found : escape s xs ≡ None → Nowhere (Escapable s xs)
  no_escape_found e =
      nowhere (λ i. is_some (escaping_move s xs i)) (Escapable s xs) (escapable_decides s laws xs) (length xs) escapable_below
      (elim (none_or_some (least (λ i. is_some (escaping_move s xs i)) (length xs))) [
        | inl n ↦ n
        | inr f ↦ elim (none_or_some (escaping_move s xs f.0)) [
          | inl m ↦ absurd (both_ways (is_some (escaping_move s xs f.0)) (ap is_some m) (least_found (λ i. is_some (escaping_move s xs i)) (length xs) f.0 f.1).1)
          | inr m ↦ none_some e (escape_some s xs f.0 m.0 f.1 m.1)
        ]
      ])

  escape_found : (i k : ℕ) → escape s xs ≡ Some (i, k) → Least (Escapable s xs) i × Least (Escape s xs i) k
  escape_found i k e =
      let f = from_value (least (λ i. is_some (escaping_move s xs i)) (length xs)) (λ i. option_map (λ k. (i, k)) (escaping_move s xs i)) (i, k) e in
      let m = of_value (λ (n : ℕ). (f.0, n)) (escaping_move s xs f.0) (i, k) f.2 in
      let same_entry : f.0 ≡ i = ap (λ (v : ℕ × ℕ). v.0) m.2 in
      let same_move : m.0 ≡ k = ap (λ (v : ℕ × ℕ). v.1) m.2 in
      let entry : least (λ i. is_some (escaping_move s xs i)) (length xs) ≡ Some i = f.1 ∙ ap Some same_entry in
      let move : escaping_move s xs i ≡ Some k = ap (escaping_move s xs) (sym same_entry) ∙ m.1 ∙ ap Some same_move in (
        least_place (λ i. is_some (escaping_move s xs i)) (Escapable s xs) (escapable_decides s laws xs) (length xs) escapable_below i entry,
        least_place (λ k. has_such (leads_out s xs k) (slice_get xs i)) (Escape s xs i) (escape_decides s xs i) s.moves (escape_below s laws xs i) k move,
      )

  -- a list in which nothing was found certifies
  certifies : Nowhere (UnfitEntry s xs) → Nowhere (UncoveredFirst s xs) → Nowhere (GoalEntry s xs) → Nowhere (Escapable s xs) → Certifies s xs
  certifies u f g b = record {
    fitting = λ i y e. true_if_not_false (s.fits y) (λ h. u i record { entry = y; there = e; has = h });
    firsts = λ i c e. true_if_not_false (covered s xs c) (λ h. f i record { entry = c; there = e; has = h });
    goals = λ i y e. false_if_not_true (s.goal y) (λ h. g i record { entry = y; there = e; has = h });
    backs = λ i y k x e w. true_if_not_false (covered s xs x) (λ h. b i (k, record { entry = y; there = e; has = record { to = x; leads = w; uncovered = h } }));
  }

  pub says : Says s xs (inspected s xs)
  says = elim (cases_Bool (ltb max_entries (length xs))) [
    | inl t ↦ rw t (ltb-true max_entries (length xs) t)
    | inr t ↦
        let short : length xs ≤ max_entries = ltb-false max_entries (length xs) t in
        elim (none_or_some (unfit_entry s xs)) [
          | inr u ↦ rw (t, u.1) (short, unfit_found u.0 u.1)
          | inl u ↦ elim (none_or_some (uncovered_first s xs)) [
            | inr f ↦ rw (t, u, f.1) ((short, fits_found u), uncovered_found f.0 f.1)
            | inl f ↦ elim (none_or_some (goal_entry s xs)) [
              | inr g ↦ rw (t, u, f, g.1) ((short, fits_found u), firsts_found f, goal_found g.0 g.1)
              | inl g ↦ elim (none_or_some (escape s xs)) [
                | inr b ↦
                    let e = escape_found b.0.0 b.0.1 b.1 in
                    rw (t, u, f, g, b.1) ((short, fits_found u), firsts_found f, no_goal_found g, e.0, e.1)
                | inl b ↦ rw (t, u, f, g, b) (short, certifies (fits_found u) (firsts_found f) (no_goal_found g) (no_escape_found b))
              ]
            ]
          ]
        ]
  ]

  -- no answer but Passed means anything of a list that is passable
  passable_passes : (r : Result Inspection Refused) → Says s xs r → Passable s xs → r ≡ Ok Passed
  passable_passes (Err TooLong) h p = let l = p.0 in absurd (omega arith)
  passable_passes (Err (Unfit i)) h p =
      let e = h.1.here in
      absurd (both_ways (s.fits e.entry) e.has (p.1.fitting i e.entry e.there))
  passable_passes (Ok (First i)) h p =
      let e = h.1.here in
      absurd (both_ways (covered s xs e.entry) e.has (p.1.firsts i e.entry e.there))
  passable_passes (Ok (Goal i)) h p =
      let e = h.2.here in
      absurd (both_ways (s.goal e.entry) (p.1.goals i e.entry e.there) e.has)
  passable_passes (Ok (Back i k)) h p =
      let e = h.4.here in
      absurd (both_ways (covered s xs e.has.to) e.has.uncovered (p.1.backs i e.entry k e.has.to e.there e.has.leads))
  passable_passes (Ok Passed) h p = refl

  -- what the answer of an inspection gives
  pub record Account (r : Result Inspection Refused) : Type 0 where
    pub cases : Says s xs r
    pub test : PassesExactly s xs r
    pub ok : r ≡ Ok Passed → NothingAccepted s

  pub account : (r : Result Inspection Refused) → r ≡ inspected s xs → Account r
  account r e =
      let h = subst (Says s xs) (sym e) says in
      let passed : r ≡ Ok Passed → Passable s xs = λ q. subst (Says s xs) q h in
      record { cases = h; test = (passed, passable_passes r h); ok = λ q. certificates_sound s laws xs (passed q).1 }
