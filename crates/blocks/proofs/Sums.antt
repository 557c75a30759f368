-- Weighted sums and runs of zeros.
use Rattle.std.proofs.Common.{◌≡◌, ℕ, zero, suc, ◌+◌, ◌*◌, ◌<◌, ◌≤◌, true, eqb, List, [], ◌∷◌, ◌++◌, length, get_or, take, replicate, refl, ap, ◌∙◌, arith, length-take}
use Rattle.std.proofs.lemmas.List.{take_more}
use Rattle.std.proofs.lemmas.Nat.{mul-le}
use Rattle.std.proofs.lemmas.Bool.{and_parts, eqb-true}
use Rattle.blocks.specs.Bytes.{Bytes}
use Rattle.blocks.specs.Layout.{weighed}
use Rattle.blocks.specs.Faults.{zeros}

pub weighed_none : (k : ℕ) → weighed k [] ≡ 0
unfolding weighed
weighed_none k = refl

pub weighed_push : (k : ℕ) (xs : List ℕ) (y : ℕ) → weighed k (xs ++ y ∷ []) ≡ weighed k xs + (k + length xs) * y
unfolding weighed
weighed_push k [] y = let e : k + 0 ≡ k = omega arith in let f = ap (λ (n : ℕ). n * y) e in omega arith
weighed_push k (x ∷ xs) y =
    let i = weighed_push (k + 1) xs y in
    let e : k + 1 + length xs ≡ k + suc (length xs) = omega arith in
    let f = ap (λ (n : ℕ). n * y) e in
    omega arith

pub weighed_more : (bs : List ℕ) (i : ℕ) → i < length bs → weighed 1 (take (i + 1) bs) ≡ weighed 1 (take i bs) + (i + 1) * get_or bs i 0
weighed_more bs i h =
    let e = length-take i bs in
    let f : 1 + length (take i bs) ≡ i + 1 = omega arith in
    ap (weighed 1) (take_more bs i 0 h) ∙ weighed_push 1 (take i bs) (get_or bs i 0)
    ∙ ap (λ (n : ℕ). weighed 1 (take i bs) + n * get_or bs i 0) f

-- the sum of a block's 508 bytes fits 32 bits
pub weighed_le : (k : ℕ) (xs : List ℕ) → Bytes xs → k + length xs ≤ 509 → weighed k xs ≤ 129795 * length xs
unfolding weighed
weighed_le k [] b h = omega arith
weighed_le k (x ∷ xs) b h =
    let l = b.0 in
    let p = mul-le k x 509 255 (omega arith) (omega arith) in
    let i = weighed_le (k + 1) xs b.1 (omega arith) in
    omega arith

pub zeros_are : (xs : List ℕ) → zeros xs ≡ true → xs ≡ replicate (length xs) 0
zeros_are [] e = refl
zeros_are (x ∷ xs) e =
    let p = and_parts (eqb x 0) (zeros xs) e in
    ap (λ (y : ℕ). y ∷ xs) (eqb-true x 0 p.0) ∙ ap (λ (ys : List ℕ). 0 ∷ ys) (zeros_are xs p.1)

pub zeros_replicate : (n : ℕ) → zeros (replicate n 0) ≡ true
zeros_replicate zero = refl
zeros_replicate (suc n) = zeros_replicate n
