-- Blocks laid into a buffer one after the other.
use Rattle.std.proofs.Common.{◌≡◌, ℕ, suc, ◌+◌, ◌-◌, ◌*◌, ◌<◌, ◌≤◌, List, ◌++◌, length, take, drop, replicate, refl, sym, ap, ◌∙◌, subst, arith, min, length-append, length-drop, length-take}
use borrow.Rule.Slice.PartMut.{put_mid, mid_of, same_len_mid}
use Rattle.std.proofs.lemmas.List.{append_assoc, append-nil, drop-drop, drop_all, drop_at, take_at, take-append-drop, drop-replicate, replicate-append-replicate, length-take-le}
use Rattle.std.proofs.lemmas.Slice.{take-put_mid, drop-put_mid}
use Rattle.blocks.specs.Bytes.{bytes_of}
use Rattle.blocks.specs.Layout.{weighed, head_of, block_count, block_of, blocks_from, blocks_of}
use Rattle.blocks.proofs.Cuts.{chunk_front, chunk_behind}
use Rattle.blocks.proofs.OneBlock.{length_head_of, length_block_of}

-- block b of n is laid into the buffer, as the code marks it out there
module _ (p buffer block : List ℕ) (b n : ℕ) (h : b < n) (room : 512 * b + 512 ≤ length buffer)
    (made : block ≡ block_of b (take 504 (drop (504 * b) p))) (whole : length block ≡ 512) where
  pub laid_front : take (512 * (b + 1)) (put_mid (512 * b) (512 * b + 512 - 512 * b) buffer block) ++ blocks_from (n - (b + 1)) (b + 1) (drop (504 * (b + 1)) p)
      ≡ take (512 * b) buffer ++ blocks_from (n - b) b (drop (504 * b) p)
  laid_front =
      let e : n - b ≡ suc (n - (b + 1)) = omega arith in
      let d : 504 * (b + 1) ≡ 504 * b + 504 = omega arith in
      let front = take (512 * b) buffer in
      let behind : List ℕ → List ℕ = λ xs. blocks_from (n - (b + 1)) (b + 1) xs in
      ap (λ (xs : List ℕ). xs ++ behind (drop (504 * (b + 1)) p))
      (take-put_mid (512 * b) (512 * b + 512 - 512 * b) buffer block (512 * (b + 1)) (omega arith) (omega arith)
      ∙ ap (λ (xs : List ℕ). front ++ xs) made)
      ∙ append_assoc front (block_of b (take 504 (drop (504 * b) p))) (behind (drop (504 * (b + 1)) p))
      ∙ ap (λ (xs : List ℕ). front ++ (block_of b (take 504 (drop (504 * b) p)) ++ behind xs))
      (ap (λ (k : ℕ). drop k p) d ∙ sym (drop-drop 504 (504 * b) p))
      ∙ ap (λ (k : ℕ). front ++ blocks_from k b (drop (504 * b) p)) (sym e)

  pub laid_behind : (old : List ℕ) → drop (512 * b) buffer ≡ drop (512 * b) old
      → drop (512 * (b + 1)) (put_mid (512 * b) (512 * b + 512 - 512 * b) buffer block) ≡ drop (512 * (b + 1)) old
  laid_behind old e =
      let d : 512 * b + 512 ≡ 512 * (b + 1) = omega arith in
      drop-put_mid (512 * b) (512 * b + 512 - 512 * b) buffer block (512 * (b + 1)) (omega arith) (omega arith) (omega arith)
      ∙ ap (λ (k : ℕ). drop k buffer) (sym d)
      ∙ sym (drop-drop 512 (512 * b) buffer) ∙ ap (drop 512) e ∙ drop-drop 512 (512 * b) old
      ∙ ap (λ (k : ℕ). drop k old) d

-- b blocks are laid into the buffer, where rest is what is left of the payload p, and old was there before
pub record Laid (p old buffer rest : List ℕ) (b : ℕ) : Type 0 where
  pub left : rest ≡ drop (504 * b) p
  pub few : b ≤ block_count (length p)
  pub front : take (512 * b) buffer ++ blocks_from (block_count (length p) - b) b (drop (504 * b) p) ≡ blocks_from (block_count (length p)) 0 p
  pub behind : drop (512 * b) buffer ≡ drop (512 * b) old

pub laid_none : (p old rest : List ℕ) (b : ℕ) → rest ≡ p → b ≡ 0 → Laid p old old rest b
laid_none p old rest b e f =
    let n = block_count (length p) in
    let z : n - 0 ≡ n = omega arith in
    let start : Laid p old old p 0 = record { left = refl; few = omega arith; front = ap (λ (k : ℕ). blocks_from k 0 p) z; behind = refl } in
    subst (Laid p old old rest) (sym f) (subst (λ (xs : List ℕ). Laid p old old xs 0) (sym e) start)

pub laid_more : (p old buffer rest part rest' block : List ℕ) (b : ℕ) → Laid p old buffer rest b → 512 * block_count (length p) ≤ length buffer
    → rest ≡ part ++ rest' → length part ≡ min 504 (length rest) → 0 < length rest → block ≡ block_of b part
    → Laid p old (put_mid (512 * b) (512 * b + 512 - 512 * b) buffer block) rest' (b + 1)
laid_more p old buffer rest part rest' block b l room e cut some made =
    let n = block_count (length p) in
    let d = ap length l.left ∙ length-drop (504 * b) p in
    let h : b < n = omega arith in
    let is : part ≡ take 504 (drop (504 * b) p) = chunk_front rest part rest' e cut ∙ ap (take 504) l.left in
    let whole = ap length made ∙ length_block_of b part (omega arith) in
    let m : block ≡ block_of b (take 504 (drop (504 * b) p)) = made ∙ ap (block_of b) is in
    let k : 504 * b + 504 ≡ 504 * (b + 1) = omega arith in
    record {
      left = chunk_behind rest part rest' e cut ∙ ap (drop 504) l.left ∙ drop-drop 504 (504 * b) p ∙ ap (λ (i : ℕ). drop i p) k;
      few = omega arith;
      front = laid_front p buffer block b n h (omega arith) m whole ∙ l.front;
      behind = laid_behind p buffer block b n h (omega arith) m whole old l.behind;
    }

pub laid_all : (p old buffer rest : List ℕ) (b : ℕ) → Laid p old buffer rest b → length rest ≡ 0
    → buffer ≡ blocks_of p ++ drop (512 * block_count (length p)) old
unfolding blocks_of
laid_all p old buffer rest b l none =
    let n = block_count (length p) in
    let d = ap length l.left ∙ length-drop (504 * b) p in
    let f = l.few in
    let e : b ≡ n = omega arith in
    let z : n - b ≡ 0 = omega arith in
    let front : take (512 * b) buffer ≡ blocks_from n 0 p =
    sym (append-nil (take (512 * b) buffer))
    ∙ ap (λ (k : ℕ). take (512 * b) buffer ++ blocks_from k b (drop (504 * b) p)) (sym z)
    ∙ l.front in
    sym (take-append-drop (512 * b) buffer)
    ∙ ap (λ (xs : List ℕ). xs ++ drop (512 * b) buffer) front
    ∙ ap (λ (xs : List ℕ). blocks_from n 0 p ++ xs) l.behind
    ∙ ap (λ (k : ℕ). blocks_from n 0 p ++ drop (512 * k) old) e

-- the fields of block b written one after the other into zeros
module _ (b sum : ℕ) (part zeroed number used inside check : List ℕ)
    (zeros-are : zeroed ≡ replicate 510 0) (number_is : number ≡ bytes_of 2 b) (used_is : used ≡ bytes_of 2 (length part))
    (inside_is : inside ≡ part) (check_is : check ≡ bytes_of 4 sum) (short : length part ≤ 504) where
  headed : List ℕ
  headed = put_mid 2 2 (number ++ zeroed) used

  filled : List ℕ
  unfolding headed
  filled = put_mid 4 (4 + length part - 4) headed inside

  field-lengths : (length number ≡ 2) × (length used ≡ 2) × (length inside ≡ length part) × (length check ≡ 4) × (length zeroed ≡ 510)
  field-lengths = (ap length number_is, ap length used_is, ap length inside_is, ap length check_is, ap length zeros-are)

  front_filled : take (4 + length part) filled ≡ (bytes_of 2 b ++ bytes_of 2 (length part)) ++ part
  unfolding headed filled
  front_filled =
      let l = field-lengths in
      let s = length-append number zeroed in
      let m = length-append (take 2 (number ++ zeroed)) used in
      let t : take 4 headed ≡ number ++ used =
      take-put_mid 2 2 (number ++ zeroed) used 4 (omega arith) (omega arith)
      ∙ ap (λ (xs : List ℕ). xs ++ used) (take_at number zeroed 2 l.0) in
      let h = ap length t ∙ length-append number used in
      let k = length-take 4 headed in
      take-put_mid 4 (4 + length part - 4) headed inside (4 + length part) (omega arith) (omega arith)
      ∙ ap (λ (xs : List ℕ). xs ++ inside) t
      ∙ ap (λ (xs : List ℕ). (xs ++ used) ++ inside) number_is
      ∙ ap (λ (xs : List ℕ). (bytes_of 2 b ++ xs) ++ inside) used_is
      ∙ ap (λ (xs : List ℕ). (bytes_of 2 b ++ bytes_of 2 (length part)) ++ xs) inside_is

  behind_filled : drop (4 + length part) filled ≡ replicate (504 - length part) 0 ++ replicate 4 0
  unfolding headed filled
  behind_filled =
      let p = length part in
      let l = field-lengths in
      let s = length-append number zeroed in
      let d = length-drop 2 (number ++ zeroed) in
      let m : length (mid_of 2 2 (number ++ zeroed)) ≡ 2 = length-take-le 2 (drop 2 (number ++ zeroed)) (omega arith) in
      let h = same_len_mid 2 2 (number ++ zeroed) used (omega arith) in
      let e : 4 + p ≡ 2 + (2 + p) = omega arith in
      let n : 510 - (2 + p) ≡ 504 - p + 4 = omega arith in
      drop-put_mid 4 (4 + p - 4) headed inside (4 + p) (omega arith) (omega arith) (omega arith)
      ∙ drop-put_mid 2 2 (number ++ zeroed) used (4 + p) (omega arith) (omega arith) (omega arith)
      ∙ ap (λ (k : ℕ). drop k (number ++ zeroed)) e
      ∙ sym (drop-drop (2 + p) 2 (number ++ zeroed))
      ∙ ap (drop (2 + p)) (drop_at number zeroed 2 l.0 ∙ zeros-are)
      ∙ drop-replicate (2 + p) 510 0
      ∙ ap (λ (k : ℕ). replicate k 0) n
      ∙ sym (replicate-append-replicate (504 - p) 4 0)

  filled_is : filled ≡ head_of b part ++ replicate 4 0
  unfolding head_of
  filled_is =
      sym (take-append-drop (4 + length part) filled)
      ∙ ap (λ (xs : List ℕ). xs ++ drop (4 + length part) filled) front_filled
      ∙ ap (λ (xs : List ℕ). ((bytes_of 2 b ++ bytes_of 2 (length part)) ++ part) ++ xs) behind_filled
      ∙ sym (append_assoc ((bytes_of 2 b ++ bytes_of 2 (length part)) ++ part) (replicate (504 - length part) 0) (replicate 4 0))

  pub block_made : sum ≡ weighed 1 (take 508 (put_mid 4 (4 + length part - 4) (put_mid 2 2 (number ++ zeroed) used) inside))
      → put_mid 508 4 (put_mid 4 (4 + length part - 4) (put_mid 2 2 (number ++ zeroed) used) inside) check ≡ block_of b part
  unfolding headed filled block_of
  block_made weight =
      let l = field-lengths in
      let h = length_head_of b part short in
      let n = ap length filled_is ∙ length-append (head_of b part) (replicate 4 0) in
      let t : take 508 filled ≡ head_of b part = ap (take 508) filled_is ∙ take_at (head_of b part) (replicate 4 0) 508 h in
      sym (take-append-drop 512 (put_mid 508 4 filled check))
      ∙ ap (λ (xs : List ℕ). take 512 (put_mid 508 4 filled check) ++ xs)
      (drop-put_mid 508 4 filled check 512 (omega arith) (omega arith) (omega arith) ∙ drop_all 512 filled (omega arith))
      ∙ append-nil (take 512 (put_mid 508 4 filled check))
      ∙ take-put_mid 508 4 filled check 512 (omega arith) (omega arith)
      ∙ ap (λ (xs : List ℕ). xs ++ check) t
      ∙ ap (λ (xs : List ℕ). head_of b part ++ xs) (check_is ∙ ap (bytes_of 4) (weight ∙ ap (weighed 1) t))
