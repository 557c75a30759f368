-- The dual of a pattern accepts exactly what the pattern does not.
use Rattle.std.proofs.Common.{◌≡◌, ℕ, ◌+◌, ◌*◌, ◌^◌, ◌<◌, Bool, true, false, not, List, [], ◌∷◌, map, length, get_or, Decides, sym, refl, ap, ◌∙◌, ⊎_elim, arith}
use Rattle.std.proofs.lemmas.List.{length-map, get_or-map}
use Rattle.std.proofs.lemmas.Bool.{both_ways, cases_Bool, not-true, not_from_false, not_from_true}
use Rattle.std.proofs.lemmas.Bool.Decides.{Decides-not}
use Rattle.sets.specs.Sets.{has, Within}
use Rattle.sets.proofs.Members.{has_set_of, in_set_of, has_one, in_one}
use Rattle.patterns.specs.Accepted.{Leads, done, step, Accepted}
use Rattle.patterns.specs.Automaton.{Automaton, states, root, row, blank}
use Rattle.patterns.specs.Formed.{Formed}
use Rattle.patterns.specs.Values.{value, back}
use Rattle.patterns.proofs.Accepting.{backs, step_back, back_step, back_leads, back_grows, decides_accepted}
use Rattle.duals.specs.Complement.{Exactly, Complements}
use Rattle.duals.specs.Dual.{dual, dual_at, row_dual, dual_rows, others}
use Rattle.duals.proofs.Dualised.{Dualised}
use Rattle.duals.proofs.Marked.{is_free, length_dual_rows, copy_entry, dual_entry}
use Rattle.duals.proofs.Opposite.{back_opposite, backs_opposite}

-- where one step back grows with the set, working back from the final set finds exactly the accepted sequences
module _ (E : Automaton) (grows : (a d d' : ℕ) → Within d d' → Within (back E a d) (back E a d')) where
  within_backs : {es : List ℕ} {c d : ℕ} → Leads E es c d → Within d E.finals → Within c (backs E es E.finals)
  within_backs done w = w
  within_backs (step {a = a} {es = es} {c = c} {d = d} s l) w = λ q h.
      grows a d (backs E es E.finals) (within_backs l w) q (step_back E a c d s q h)

  found : (es : List ℕ) → has (backs E es E.finals) E.start ≡ true → Accepted E es
  found [] h = (2 ^ E.start, done, λ q e. ap (has E.finals) (in_one E.start q e) ∙ h)
  found (a ∷ es) h = (
    E.finals,
    step (back_step E a (2 ^ E.start) (backs E es E.finals)
        (λ q e. ap (has (back E a (backs E es E.finals))) (in_one E.start q e) ∙ h)) (back_leads E es E.finals),
    λ q e. e,
  )

  decides_growing : (es : List ℕ) → Decides (has (backs E es E.finals) E.start) (Accepted E es)
  decides_growing es = (found es, λ x. within_backs x.1 x.2 E.start (has_one E.start))

not_not : (b : Bool) → not (not b) ≡ b
not_not true = refl
not_not false = refl

pub exactly_from : {P Q : Type 0} (r s : Bool) → r ≡ s → Decides r P → Decides s Q → Exactly P Q
exactly_from r s e p q = ((λ x. q.0 (sym e ∙ p.1 x)), λ y. p.0 (e ∙ q.1 y))

module _ (A : Automaton) (F : Formed A) where
  dual_dualised : Dualised A (dual A) 0 0
  dual_dualised =
      let n = states A in
      let N = length A.rows in
      let rows = length_dual_rows 0 0 [] A.rows in
      let roots = length-map A.roots (dual_at 0) in
      record {
        long = omega arith;
        signals = omega arith;
        fits = omega arith;
        copies = λ i h.
            let z : 0 + 2 * i ≡ 2 * i = omega arith in
            ap (λ (k : ℕ). get_or (dual_rows 0 0 [] A.rows) k blank) z ∙ copy_entry 0 0 [] A.rows i h;
        duals = λ i h.
            let z : 0 + 2 * i + 1 ≡ 2 * i + 1 = omega arith in
            let y : 0 + i ≡ i = omega arith in
            ap (λ (k : ℕ). get_or (dual_rows 0 0 [] A.rows) k blank) z ∙ dual_entry 0 0 [] A.rows i h
            ∙ ap (λ (k : ℕ). row_dual 0 0 k (is_free A i) (row A i)) y;
        roots = λ q h.
            let z : 0 + q ≡ q = omega arith in
            ap (λ (k : ℕ). get_or (map (dual_at 0) A.roots) k 0) z ∙ get_or-map (dual_at 0) A.roots q 0 0 h;
        ends = λ q h.
            let z : 0 + q ≡ q = omega arith in
            ap (has (others n A.finals)) z ∙ has_set_of (λ (j : ℕ). not (has A.finals j)) n q h;
      }

  opposed : (d q : ℕ) → q < states A → has d (0 + q) ≡ not (has (others (states A) d) q)
  opposed d q h =
      let z : 0 + q ≡ q = omega arith in
      ap (has d) z ∙ sym (ap not (has_set_of (λ (j : ℕ). not (has d j)) (states A) q h) ∙ not_not (has d q))

  -- more states have fewer others
  others_shrink : (d d' : ℕ) → Within d d' → Within (others (states A) d') (others (states A) d)
  others_shrink d d' w q e =
      let i = in_set_of (λ (j : ℕ). not (has d' j)) (states A) q e in
      has_set_of (λ (j : ℕ). not (has d j)) (states A) q i.0
      ∙ ⊎_elim
      (λ (t : has d q ≡ true). absurd (both_ways (has d' q) (not-true (has d' q) i.1) (w q t)))
      (λ (f : has d q ≡ false). not_from_false (has d q) f)
      (cases_Bool (has d q))

  back_dual : (a d q : ℕ) → q < states A → has (back (dual A) a d) q ≡ not (has (back A a (others (states A) d)) q)
  back_dual a d q h =
      let z : 0 + q ≡ q = omega arith in
      sym (ap (has (back (dual A) a d)) z)
      ∙ back_opposite A (dual A) 0 0 F dual_dualised a d (others (states A) d) (opposed d) q h

  dual_grows : (a d d' : ℕ) → Within d d' → Within (back (dual A) a d) (back (dual A) a d')
  dual_grows a d d' w q e =
      let n = length-map A.roots (dual_at 0) in
      let i = in_set_of (λ (j : ℕ). value (dual A) a d (root (dual A) j)) (states (dual A)) q e in
      let h : q < states A = let k = i.0 in omega arith in
      let c = others (states A) d in
      let c' = others (states A) d' in
      back_dual a d' q h
      ∙ ⊎_elim
      (λ (t : has (back A a c') q ≡ true).
      absurd (both_ways (has (back (dual A) a d) q)
      (back_dual a d q h ∙ not_from_true (has (back A a c) q) (back_grows A F a c' c (others_shrink d d' w) q t)) e))
      (λ (f : has (back A a c') q ≡ false). not_from_false (has (back A a c') q) f)
      (cases_Bool (has (back A a c') q))

  -- the dual accepts the complement
  pub complements : Complements A
  complements es =
      let z : 0 + A.start ≡ A.start = omega arith in
      let E = dual A in
      exactly_from (has (backs E es E.finals) A.start) (not (has (backs A es A.finals) A.start))
      (sym (ap (has (backs E es E.finals)) z) ∙ backs_opposite A E 0 0 F dual_dualised es A.start F.starts)
      (decides_growing E dual_grows es)
      (Decides-not (has (backs A es A.finals) A.start) (decides_accepted A F es))
