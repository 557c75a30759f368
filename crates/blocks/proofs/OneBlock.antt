-- One block: what its questions tell, and that block and used bytes give each other.
use Rattle.std.proofs.Common.{◌≡◌, ℕ, zero, suc, ◌+◌, ◌-◌, ◌<◌, ◌≤◌, Bool, true, false, eqb, List, ◌++◌, length, get_or, take, drop, replicate, is_some, None, Option, sym, refl, ap, ◌∙◌, arith, length-append, length-drop, take-add, w8, Fits}
use lib.ListN.{length-replicate}
use Rattle.std.proofs.lemmas.List.{append_assoc, drop-drop, drop_at, take_at, take_all, take-append-drop, length-take-le}
use Rattle.std.proofs.ByRecursion.{All-from_get_or, All-take, All-drop, All-append}
use Rattle.std.proofs.lemmas.Slice.{between_is}
use Rattle.std.proofs.lemmas.Bool.{eqb-true, eq-eqb}
use Rattle.std.proofs.lemmas.Bool.Decides.{nat_tests}
use Rattle.blocks.specs.declared.fault.BlockFault.{BlockFault}
use Rattle.blocks.specs.declared.fault.BlockCause.{BlockCause}
use Rattle.blocks.specs.declared.fault.BlockCause.TheVariants.{Check, Number, Used, Unused}
use Rattle.blocks.specs.Bytes.{Bytes, number, bytes_of}
use Rattle.blocks.specs.Layout.{number_in, used_in, room_in, check_in, weighed, sum_of, front_of, head_of, block_of}
use Rattle.blocks.specs.Faults.{fills, zeros, asked, block_fault}
use Rattle.blocks.proofs.Numbers.{bytes_of_number, number_bytes_of, length_bytes_of, bytes_bytes_of}
use Rattle.blocks.proofs.Sums.{weighed_le, zeros_are, zeros_replicate}

pub bytes_from_typed : (bs : List ℕ) → ((i : ℕ) → Fits w8 (get_or bs i 0)) → Bytes bs
bytes_from_typed bs h = All-from_get_or (λ b. b < 256) bs 0 (λ i l. let f = h i in omega arith)

bytes_zeros : (n : ℕ) → Bytes (replicate n 0)
bytes_zeros zero = tt
bytes_zeros (suc n) = (omega arith, bytes_zeros n)

-- the payload bytes behind those in use, as the code takes them
pub unused_part : (block : List ℕ) (used : ℕ) → used ≤ 504 → take (508 - (4 + used)) (drop (4 + used) block) ≡ drop used (room_in block)
unused_part block used h =
    let e : 508 - (4 + used) ≡ 504 - used = omega arith in
    ap (λ (n : ℕ). take n (drop (4 + used) block)) e
    ∙ ap (take (504 - used)) (sym (drop-drop used 4 block))
    ∙ between_is (drop 4 block) used 504

pub fills_range : (used : ℕ) (last : Bool) → fills used last ≡ true → (0 < used) × (used ≤ 504)
fills_range used true e = (grind (arith, nat_tests), grind (arith, nat_tests))
fills_range used false e = (grind (arith, nat_tests), grind (arith, nat_tests))

pub record Right (b : ℕ) (last : Bool) (block : List ℕ) : Type 0 where
  pub check : check_in block ≡ sum_of block
  pub place : number_in block ≡ b
  pub used : fills (used_in block) last ≡ true
  pub unused : zeros (drop (used_in block) (room_in block)) ≡ true

pub asked_none : (answer : Bool) (c : BlockCause) (p : ℕ) (next : Option BlockFault) → is_some (asked answer c p next) ≡ false → (answer ≡ true) × (is_some next ≡ false)
asked_none true c p next e = (refl, e)
asked_none false c p next e = let z : ◌≡◌ {A = Bool} true false = e in (cc, cc)

pub right_from : (b : ℕ) (last : Bool) (block : List ℕ) → is_some (block_fault b last block) ≡ false → Right b last block
right_from b last block e =
    let p = asked_none (eqb (check_in block) (sum_of block)) Check b _ e in
    let q = asked_none (eqb (number_in block) b) Number b _ p.1 in
    let r = asked_none (fills (used_in block) last) Used b _ q.1 in
    let s = asked_none (zeros (drop (used_in block) (room_in block))) Unused b None r.1 in
    record {
      check = eqb-true (check_in block) (sum_of block) p.0;
      place = eqb-true (number_in block) b q.0;
      used = r.0;
      unused = s.0;
    }

pub none_from_right : (b : ℕ) (last : Bool) (block : List ℕ) → Right b last block → is_some (block_fault b last block) ≡ false
none_from_right b last block r =
    let p = eq-eqb (check_in block) (sum_of block) r.check in
    let q = eq-eqb (number_in block) b r.place in
    rw (p, q, r.used, r.unused)

-- from a right block to its used bytes and back
module _ (b : ℕ) (last : Bool) (block : List ℕ) (whole : length block ≡ 512) (bytes : Bytes block) (r : Right b last block) where
  pub used_range : (0 < used_in block) × (used_in block ≤ 504)
  used_range = fills_range (used_in block) last r.used

  length_room : length (room_in block) ≡ 504
  length_room = let d = length-drop 4 block in length-take-le 504 (drop 4 block) (omega arith)

  pub length_front : length (front_of block) ≡ used_in block
  length_front =
      let u = used_range in
      let l = length_room in
      length-take-le (used_in block) (room_in block) (omega arith)

  field : (n at : ℕ) → at + n ≤ 512 → bytes_of n (number (take n (drop at block))) ≡ take n (drop at block)
  field n at h =
      let d = length-drop at block in
      bytes_of_number n (take n (drop at block)) (length-take-le n (drop at block) (omega arith))
      (All-take (λ x. x < 256) n (drop at block) (All-drop (λ x. x < 256) at block bytes))

  room_again : front_of block ++ replicate (504 - length (front_of block)) 0 ≡ room_in block
  room_again =
      let l = length_front in
      let m = length_room in
      let d = length-drop (used_in block) (room_in block) in
      let e : 504 - length (front_of block) ≡ length (drop (used_in block) (room_in block)) = omega arith in
      ap (λ (n : ℕ). front_of block ++ replicate n 0) e
      ∙ ap (λ (xs : List ℕ). front_of block ++ xs) (sym (zeros_are (drop (used_in block) (room_in block)) r.unused))
      ∙ take-append-drop (used_in block) (room_in block)

  head_again : head_of b (front_of block) ≡ take 508 block
  unfolding head_of
  head_again =
      let zs : List ℕ = replicate (504 - length (front_of block)) 0 in
      let n : bytes_of 2 b ≡ take 2 block = ap (bytes_of 2) (sym r.place) ∙ field 2 0 (omega arith) in
      let u : bytes_of 2 (length (front_of block)) ≡ take 2 (drop 2 block) = ap (bytes_of 2) length_front ∙ field 2 2 (omega arith) in
      append_assoc (bytes_of 2 b ++ bytes_of 2 (length (front_of block))) (front_of block) zs
      ∙ ap (λ (xs : List ℕ). (xs ++ bytes_of 2 (length (front_of block))) ++ (front_of block ++ zs)) n
      ∙ ap (λ (xs : List ℕ). (take 2 block ++ xs) ++ (front_of block ++ zs)) u
      ∙ ap (λ (xs : List ℕ). xs ++ (front_of block ++ zs)) (sym (take-add 2 2 block))
      ∙ ap (λ (xs : List ℕ). take 4 block ++ xs) room_again
      ∙ sym (take-add 4 504 block)

  pub block_again : block_of b (front_of block) ≡ block
  unfolding block_of
  block_again =
      ap (λ (xs : List ℕ). xs ++ bytes_of 4 (weighed 1 xs)) head_again
      ∙ ap (λ (n : ℕ). take 508 block ++ bytes_of 4 n) (sym r.check)
      ∙ ap (λ (xs : List ℕ). take 508 block ++ xs) (field 4 508 (omega arith))
      ∙ sym (take-add 508 4 block)
      ∙ take_all 512 block (omega arith)

-- from used bytes to their block and back
module _ (b : ℕ) (part : List ℕ) (small : length part ≤ 504) where
  filled : List ℕ
  filled = part ++ replicate (504 - length part) 0

  length_filled : length filled ≡ 504
  unfolding filled
  length_filled =
      let p = length-append part (replicate (504 - length part) 0) in
      let q : length (replicate {A = ℕ} (504 - length part) 0) ≡ 504 - length part = length-replicate (504 - length part) 0 in
      omega arith

  head_is : head_of b part ≡ (bytes_of 2 b ++ bytes_of 2 (length part)) ++ filled
  unfolding head_of filled
  head_is = append_assoc (bytes_of 2 b ++ bytes_of 2 (length part)) part (replicate (504 - length part) 0)

  pub length_head_of : length (head_of b part) ≡ 508
  length_head_of = let l = length_filled in ap length head_is ∙ omega arith

  pub length_block_of : length (block_of b part) ≡ 512
  unfolding block_of
  length_block_of =
      let h = length_head_of in
      let p = length-append (head_of b part) (bytes_of 4 (weighed 1 (head_of b part))) in
      let q = length_bytes_of 4 (weighed 1 (head_of b part)) in
      omega arith

  module _ (low : b < 65536) (bytes : Bytes part) where
    bytes_head : Bytes (head_of b part)
    unfolding head_of
    bytes_head =
        let P : ℕ → Type 0 = λ x. x < 256 in
        let n = 504 - length part in
        All-append P ((bytes_of 2 b ++ bytes_of 2 (length part)) ++ part) (replicate n 0)
        (All-append P (bytes_of 2 b ++ bytes_of 2 (length part)) part
        (All-append P (bytes_of 2 b) (bytes_of 2 (length part)) (bytes_bytes_of 2 b) (bytes_bytes_of 2 (length part))) bytes)
        (bytes_zeros n)

    block_is : block_of b part ≡ (bytes_of 2 b ++ bytes_of 2 (length part)) ++ (filled ++ bytes_of 4 (weighed 1 (head_of b part)))
    unfolding block_of
    block_is =
        let k = bytes_of 4 (weighed 1 (head_of b part)) in
        ap (λ (xs : List ℕ). xs ++ k) head_is ∙ append_assoc (bytes_of 2 b ++ bytes_of 2 (length part)) filled k

    used_is : used_in (block_of b part) ≡ length part
    used_is = ap used_in block_is ∙ number_bytes_of 2 (length part) (omega arith)

    room_is : room_in (block_of b part) ≡ filled
    room_is = ap room_in block_is ∙ take_at filled (bytes_of 4 (weighed 1 (head_of b part))) 504 length_filled

    pub front_is : front_of (block_of b part) ≡ part
    unfolding filled
    front_is =
        ap (λ (n : ℕ). take n (room_in (block_of b part))) used_is
        ∙ ap (take (length part)) room_is
        ∙ take_at part (replicate (504 - length part) 0) (length part) refl

    check_is : check_in (block_of b part) ≡ sum_of (block_of b part)
    unfolding block_of
    check_is =
        let s = weighed 1 (head_of b part) in
        let h = length_head_of in
        let l = weighed_le 1 (head_of b part) bytes_head (omega arith) in
        let t = take_at (head_of b part) (bytes_of 4 s) 508 h in
        ap (λ (xs : List ℕ). number (take 4 xs)) (drop_at (head_of b part) (bytes_of 4 s) 508 h)
        ∙ number_bytes_of 4 s (omega arith)
        ∙ ap (weighed 1) (sym t)

    pub right_block : (last : Bool) → fills (length part) last ≡ true → Right b last (block_of b part)
    unfolding filled
    right_block last f =
        record {
          check = check_is;
          place = ap number_in block_is ∙ number_bytes_of 2 b low;
          used = ap (λ (n : ℕ). fills n last) used_is ∙ f;
          unused = ap (λ (n : ℕ). zeros (drop n (room_in (block_of b part)))) used_is
              ∙ ap (λ (xs : List ℕ). zeros (drop (length part) xs)) room_is
              ∙ ap zeros (drop_at part (replicate (504 - length part) 0) (length part) refl)
              ∙ zeros_replicate (504 - length part);
        }
