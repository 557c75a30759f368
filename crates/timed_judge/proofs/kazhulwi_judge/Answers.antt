use Rattle.std.proofs.Common.{◌≡◌, ℕ, List, [], ◌∷◌, ◌++◌, length, drop, refl, ap, ◌∙◌, arith}
use Rattle.judging.specs.Judgement.{judgement_text}
use Rattle.timed_judge.proofs.kazhulwi_judge.Goals as goal

-- nothing is put where there is nothing to put
none_put : (bytes after before : List ℕ) → after ≡ bytes ++ drop (length bytes) before → length bytes ≡ 0 → after ≡ before
none_put [] after before e z = e ∙ whole before
  where
    whole : (xs : List ℕ) → drop 0 xs ≡ xs
    whole [] = refl
    whole (x ∷ xs) = refl
none_put (b ∷ bs) after before e z = absurd (omega arith)

pub returns : goal.returns
returns c =
    let bytes = c.as_bytes-bytes.result.now in
    let before = c.args.text.now in
    let e : bytes ≡ judgement_text c.args.file.now = c.as_bytes-bytes.ensures.value ∙ c.in-Ok.ensures.value in
    record {
      same = none_put bytes c.put.new.target before c.put.ensures;
      len = λ _. ap length e;
      after = λ _. c.put.ensures ∙ ap (λ (xs : List ℕ). xs ++ drop (length bytes) before) e;
    }
