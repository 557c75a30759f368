-- Bytes laid down one after the other.
use Rattle.std.proofs.Common.{◌≡◌, ℕ, ◌+◌, ◌*◌, ◌<◌, ◌≤◌, List, [], ◌++◌, length, get_or, take, drop, sym, ap, ◌∙◌, arith, length-append}
use borrow.Rule.Slice.PartMut.{put_mid}
use Rattle.std.proofs.lemmas.List.{append_assoc, take_at, take-append-drop, drop_at, drop-drop, take_more, flat_map_more, length-take-le}
use Rattle.std.specs.List.{flat_map}
use Rattle.files.specs.Laying.{laid}
use Rattle.files.proofs.Fields.{length_joined}

-- to lay xs down and then ys behind them is to lay both down
pub laid_behind : (old xs ys : List ℕ) (at to : ℕ) → at ≤ length old → to ≡ at + length xs → laid to ys (laid at xs old) ≡ laid at (xs ++ ys) old
laid_behind old xs ys at to h e =
    let front = take at old ++ xs in
    let rest = drop (at + length xs) old in
    let l = length-take-le at old h in
    let a = length-append (take at old) xs in
    let b = length-append xs ys in
    let long : length front ≡ to = omega arith in
    let end : at + length xs + length ys ≡ at + length (xs ++ ys) = omega arith in
    let behind : drop (to + length ys) (front ++ rest) ≡ drop (at + length (xs ++ ys)) old =
    sym (drop-drop (length ys) to (front ++ rest)) ∙ ap (drop (length ys)) (drop_at front rest to long)
    ∙ drop-drop (length ys) (at + length xs) old ∙ ap (λ (k : ℕ). drop k old) end in
    ap (laid to ys) (sym (append_assoc (take at old) xs rest))
    ∙ ap (λ (zs : List ℕ). zs ++ (ys ++ drop (to + length ys) (front ++ rest))) (take_at front rest to long)
    ∙ ap (λ (zs : List ℕ). front ++ (ys ++ zs)) behind
    ∙ append_assoc (take at old) xs (ys ++ drop (at + length (xs ++ ys)) old)
    ∙ ap (λ (zs : List ℕ). take at old ++ zs) (sym (append_assoc xs ys (drop (at + length (xs ++ ys)) old)))

-- what was written over k bytes from place `a` on is laid down there
pub put_laid : (a k : ℕ) (xs ys : List ℕ) → length ys ≡ k → put_mid a k xs ys ≡ laid a ys xs
put_laid a k xs ys e = ap (λ (zs : List ℕ). take a xs ++ (ys ++ zs)) (drop-drop k a xs ∙ ap (λ (n : ℕ). drop (a + n) xs) (sym e))

-- nothing laid down
pub laid_none : (old : List ℕ) (at : ℕ) → old ≡ laid at [] old
laid_none old at =
    let e : at + 0 ≡ at = omega arith in
    sym (take-append-drop at old) ∙ ap (λ (k : ℕ). take at old ++ drop k old) (sym e)

-- one more part of k bytes
pub laid_more : {X : Type 0} (k : ℕ) (g : X → List ℕ) → ((x : X) → length (g x) ≡ k) → (xs : List X) (i : ℕ) (d : X) (old : List ℕ) (at : ℕ)
    → i < length xs → at ≤ length old → laid (at + k * i) (g (get_or xs i d)) (laid at (flat_map g (take i xs)) old) ≡ laid at (flat_map g (take (i + 1) xs)) old
laid_more k g long xs i d old at h room =
    let l = length-take-le i xs (omega arith) in
    let j = length_joined k g long (take i xs) ∙ ap (λ (n : ℕ). k * n) l in
    laid_behind old (flat_map g (take i xs)) (g (get_or xs i d)) at (at + k * i) room (omega arith)
    ∙ ap (λ (zs : List ℕ). laid at zs old) (flat_map_more g [] (take i xs) (get_or xs i d) ∙ ap (flat_map g) (sym (take_more xs i d h)))

-- what was laid down at the front
pub take_laid : (xs old : List ℕ) (n : ℕ) → n ≡ length xs → take n (laid 0 xs old) ≡ xs
take_laid xs old n e = take_at xs (drop (0 + length xs) old) n (sym e)
