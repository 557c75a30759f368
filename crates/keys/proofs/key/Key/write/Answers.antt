use Rattle.std.proofs.Common.{◌≡◌, ℕ, ◌+◌, ◌<◌, true, false, [], ◌∷◌, ◌++◌, length, take, Option, sym, ap, ◌∙◌, add-one, arith}
use Rattle.std.proofs.lemmas.Bool.{not-true, not-false}
use Rattle.std.proofs.lemmas.List.{append_assoc, length-append, take_more_set}
use Rattle.sets.specs.Sets.{has}
use Rattle.keys.specs.Numbers.{missing}
use Rattle.keys.specs.Listed.{leading}
use Rattle.keys.proofs.Numbers.{missing_none, missing_more, missing_skip}
use Rattle.keys.proofs.key.Key.write.Goals as goal
use Rattle.keys.proofs.key.Key.write.Goals.{in-Some, in_default, then-lacks, else-lacks}

module _ (o : Option ℕ) (c q : ℕ) where
  -- one state more is asked: it is written last, or nothing is
  more : has c q ≡ false → (leading o ++ missing c q) ++ q ∷ [] ≡ leading o ++ missing c (q + 1)
  more e = append_assoc (leading o) (missing c q) (q ∷ []) ∙ ap (λ v. leading o ++ v) (sym (ap (missing c) (add-one q) ∙ missing_more c q e))

  skip : has c q ≡ true → leading o ++ missing c q ≡ leading o ++ missing c (q + 1)
  skip e = ap (λ v. leading o ++ v) (sym (ap (missing c) (add-one q) ∙ missing_skip c q e))

pub loop-q-init : goal.loop-q-init
loop-q-init c =
    let k = c.args.self.now in
    elim c.match-self.branch [
      | in-Some w ↦
          let all : leading k.lead ++ missing k.set 0 ≡ w.in-Some.first ∷ [] = ap (λ o. leading o ++ missing k.set 0) w.in-Some.is ∙ ap (λ v. w.in-Some.first ∷ v) (missing_none k.set) in (
            omega (arith, w.count-is),
            ap (λ n. take n c.match-self.out) w.count-is ∙ ap (take 1) w.out-is ∙ take_more_set c.args.out.now 0 w.in-Some.first (omega (arith, c.told-out)) ∙ sym all,
            w.count-is ∙ sym (ap length all),
          )
      | in_default w ↦
          let all : leading k.lead ++ missing k.set 0 ≡ [] = ap (λ o. leading o ++ missing k.set 0) w.in_default.is ∙ missing_none k.set in
          (omega (arith, w.count-is), ap (λ n. take n c.match-self.out) w.count-is ∙ sym all, w.count-is ∙ sym (ap length all))
    ]

pub loop-q-preserved : goal.loop-q-preserved
loop-q-preserved c =
    let k = c.args.self.now in
    let q = c.loop-q.q in
    let v = c.loop-q.invariant in
    elim c.if-lacks.branch [
      | then-lacks w ↦
          let e : has k.set q ≡ false = not-true (has k.set q) (sym c.lacks.ensures ∙ w.if-lacks.true) in
          let lt : c.loop-q.count < length c.loop-q.out = omega (arith, v.0) in
          let all : leading k.lead ++ missing k.set (q + 1) ≡ (leading k.lead ++ missing k.set q) ++ q ∷ [] = sym (more k.lead k.set q e) in (
            omega (arith, w.count-is, v.0),
            ap (λ n. take n c.if-lacks.out) w.count-is ∙ ap (take (c.loop-q.count + 1)) w.out-is
                ∙ take_more_set c.loop-q.out c.loop-q.count q lt ∙ ap (λ z. z ++ q ∷ []) v.1 ∙ sym all,
            w.count-is ∙ ap (λ n. n + 1) v.2 ∙ sym (length-append (leading k.lead ++ missing k.set q) (q ∷ [])) ∙ sym (ap length all),
          )
      | else-lacks w ↦
          let e : has k.set q ≡ true = not-false (has k.set q) (sym c.lacks.ensures ∙ w.if-lacks.false) in (
            omega (arith, w.count-is, v.0),
            ap (λ n. take n c.if-lacks.out) w.count-is ∙ ap (take c.loop-q.count) w.out-is ∙ v.1 ∙ skip k.lead k.set q e,
            w.count-is ∙ v.2 ∙ ap length (skip k.lead k.set q e),
          )
    ]
