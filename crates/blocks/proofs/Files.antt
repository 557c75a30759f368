-- Rows of blocks: the steps of a walk over them, and that file and payload give each other.
use Rattle.std.proofs.Common.{◌≡◌, ℕ, zero, suc, ◌+◌, ◌-◌, ◌*◌, ◌/◌, ◌%◌, ◌<◌, ◌≤◌, Bool, true, false, eqb, leb, List, [], ◌++◌, length, get_or, take, drop, is_some, Some, None, Option, sym, refl, ap, ◌∙◌, subst, add_comm, mul-suc, arith, length-append, length-drop, length-take}
use Rattle.std.proofs.lemmas.List.{append-nil, drop-drop, drop-take, drop_at, take_at, take_all, take-take, take-append-drop, length-take-le}
use Rattle.std.proofs.ByRecursion.{All-take, All-drop}
use Rattle.std.proofs.lemmas.Bool.{and_parts, leb-true, eqb-true, ne_eqb}
use Rattle.std.proofs.lemmas.Bool.Decides.{nat_tests}
use Rattle.std.specs.Simd.{first_chunks}
use Rattle.blocks.specs.declared.fault.BlockFault.{BlockFault}
use Rattle.blocks.specs.declared.fault.BlockCause.TheVariants.{Length}
use Rattle.blocks.specs.Bytes.{Bytes, number}
use Rattle.blocks.specs.Layout.{used_in, front_of, fronts, payload, block_count, block_of, blocks_from, blocks_of}
use Rattle.blocks.specs.Faults.{length_fits, fills, block_fault, first, blocks_fault, file_fault}
use Rattle.blocks.specs.Reading.{payload_len_of}
use Rattle.blocks.specs.Laws.{Rewritten, Readable, Counted}
use Rattle.blocks.proofs.OneBlock.{Right, right_from, none_from_right, asked_none, used_range, length_front, block_again, length_block_of, front_is, right_block}

-- the blocks from b on, the first of them apart
pub blocks_more : (file : List ℕ) (b n : ℕ) → b < n
    → blocks_fault (n - b) b (drop (512 * b) file)
    ≡ first (block_fault b (eqb (b + 1) n) (take 512 (drop (512 * b) file))) (blocks_fault (n - (b + 1)) (b + 1) (drop (512 * (b + 1)) file))
blocks_more file b n h =
    let e : n - b ≡ suc (n - (b + 1)) = omega arith in
    let l : eqb (n - (b + 1)) 0 ≡ eqb (b + 1) n = grind (arith, nat_tests) in
    let d : 512 * b + 512 ≡ 512 * (b + 1) = omega arith in
    let here : Bool → Option BlockFault = λ t. block_fault b t (take 512 (drop (512 * b) file)) in
    ap (λ (k : ℕ). blocks_fault k b (drop (512 * b) file)) e
    ∙ ap (λ (t : Bool). first (here t) (blocks_fault (n - (b + 1)) (b + 1) (drop 512 (drop (512 * b) file)))) l
    ∙ ap (λ (xs : List ℕ). first (here (eqb (b + 1) n)) (blocks_fault (n - (b + 1)) (b + 1) xs))
    (drop-drop 512 (512 * b) file ∙ ap (λ (k : ℕ). drop k file) d)

first_none : (o p : Option BlockFault) → is_some (first o p) ≡ false → (is_some o ≡ false) × (is_some p ≡ false)
first_none None p e = (refl, e)
first_none (Some f) p e = let z : ◌≡◌ {A = Bool} true false = e in (cc, cc)

none_first : (o p : Option BlockFault) → is_some o ≡ false → first o p ≡ p
none_first None p e = refl
none_first (Some f) p e = let z : ◌≡◌ {A = Bool} true false = e in cc

pub chunk_at : (n k i : ℕ) (xs d : List ℕ) (ds : List (List ℕ)) → ds ≡ first_chunks n k xs → i < k → get_or ds i d ≡ take n (drop (n * i) xs)
chunk_at n zero i xs d ds e h = absurd (omega arith)
chunk_at n (suc k) zero xs d ds e h =
    let z : n * 0 ≡ 0 = omega arith in
    ap (λ (cs : List (List ℕ)). get_or cs 0 d) e ∙ ap (λ (m : ℕ). take n (drop m xs)) (sym z)
chunk_at n (suc k) (suc i) xs d ds e h =
    let m : n + n * i ≡ n * suc i = sym (mul-suc n i ∙ add_comm (n * i) n) in
    ap (λ (cs : List (List ℕ)). get_or cs (suc i) d) e
    ∙ chunk_at n k i (drop n xs) d (first_chunks n k (drop n xs)) refl (omega arith)
    ∙ ap (take n) (drop-drop (n * i) n xs ∙ ap (λ (j : ℕ). drop j xs) m)

-- one turn of the walk, where the block is the one at place b
module _ (file block : List ℕ) (b n : ℕ) (h : b < n) (is : block ≡ take 512 (drop (512 * b) file)) where
  pub blocks_pass : is_some (block_fault b (eqb (b + 1) n) block) ≡ false
      → blocks_fault (n - (b + 1)) (b + 1) (drop (512 * (b + 1)) file) ≡ blocks_fault (n - b) b (drop (512 * b) file)
  blocks_pass p =
      sym (blocks_more file b n h
      ∙ none_first _ _ (ap (λ (bs : List ℕ). is_some (block_fault b (eqb (b + 1) n) bs)) (sym is) ∙ p))

  pub blocks_stop : (f : BlockFault) → block_fault b (eqb (b + 1) n) block ≡ Some f → blocks_fault (n - b) b (drop (512 * b) file) ≡ Some f
  blocks_stop f p =
      blocks_more file b n h
      ∙ ap (λ (o : Option BlockFault). first o (blocks_fault (n - (b + 1)) (b + 1) (drop (512 * (b + 1)) file)))
      (ap (block_fault b (eqb (b + 1) n)) (sym is) ∙ p)

-- a row of n right blocks from number b on
module _ (b n : ℕ) (bytes : List ℕ) (long : length bytes ≡ 512 * suc n) (known : Bytes bytes)
    (none : is_some (blocks_fault (suc n) b bytes) ≡ false) where
  length_block : length (take 512 bytes) ≡ 512
  length_block = length-take-le 512 bytes (omega arith)

  right_here : Right b (eqb n 0) (take 512 bytes)
  right_here = right_from b (eqb n 0) (take 512 bytes) (first_none _ (blocks_fault n (b + 1) (drop 512 bytes)) none).0

  none_behind : is_some (blocks_fault n (b + 1) (drop 512 bytes)) ≡ false
  none_behind = (first_none (block_fault b (eqb n 0) (take 512 bytes)) _ none).1

  length_behind : length (drop 512 bytes) ≡ 512 * n
  length_behind = length-drop 512 bytes ∙ omega arith

  known_behind : Bytes (drop 512 bytes)
  known_behind = All-drop (λ x. x < 256) 512 bytes known

  front_length : (length (front_of (take 512 bytes)) ≡ used_in (take 512 bytes)) × (0 < used_in (take 512 bytes)) × (used_in (take 512 bytes) ≤ 504)
  front_length =
      let known-here = All-take (λ x. x < 256) 512 bytes known in
      let u = used_range b (eqb n 0) (take 512 bytes) length_block known-here right_here in
      (length_front b (eqb n 0) (take 512 bytes) length_block known-here right_here, u.0, u.1)

  block_back : block_of b (front_of (take 512 bytes)) ≡ take 512 bytes
  block_back = block_again b (eqb n 0) (take 512 bytes) length_block (All-take (λ x. x < 256) 512 bytes known) right_here

fills_whole : (used n : ℕ) → fills used (eqb (suc n) 0) ≡ true → used ≡ 504
fills_whole used n e =
    let f : eqb (suc n) 0 ≡ false = ne_eqb (suc n) 0 (λ h. omega arith) in
    eqb-true used 504 (ap (fills used) (sym f) ∙ e)

-- the used count is the same in the block and in the bytes that begin with it
pub used_in_block : (bytes : List ℕ) → used_in (take 512 bytes) ≡ used_in bytes
used_in_block bytes =
    ap (λ (xs : List ℕ). number (take 2 xs)) (drop-take 2 510 bytes)
    ∙ ap number (take-take 2 510 (drop 2 bytes) (omega arith))

pub length_fronts : (b n : ℕ) (bytes : List ℕ) → length bytes ≡ 512 * suc n → Bytes bytes → is_some (blocks_fault (suc n) b bytes) ≡ false
    → (length (fronts (suc n) bytes) ≡ 504 * n + used_in (drop (512 * n) bytes)) × (0 < used_in (drop (512 * n) bytes)) × (used_in (drop (512 * n) bytes) ≤ 504)
length_fronts b zero bytes l k e =
    let f = front_length b 0 bytes l k e in
    let u = used_in_block bytes in
    let a = length-append (front_of (take 512 bytes)) [] in
    (omega arith, omega arith, omega arith)
length_fronts b (suc n) bytes l k e =
    let f = front_length b (suc n) bytes l k e in
    let w = fills_whole (used_in (take 512 bytes)) n (right_here b (suc n) bytes l k e).used in
    let i = length_fronts (b + 1) n (drop 512 bytes) (length_behind b (suc n) bytes l k e) (known_behind b (suc n) bytes l k e) (none_behind b (suc n) bytes l k e) in
    let a = length-append (front_of (take 512 bytes)) (fronts (suc n) (drop 512 bytes)) in
    let d : 512 + 512 * n ≡ 512 * suc n = omega arith in
    let u = ap used_in (drop-drop (512 * n) 512 bytes ∙ ap (λ (m : ℕ). drop m bytes) d) in
    (omega arith, omega arith, omega arith)

row_again : (b n : ℕ) (bytes : List ℕ) → length bytes ≡ 512 * suc n → Bytes bytes → is_some (blocks_fault (suc n) b bytes) ≡ false
    → blocks_from (suc n) b (fronts (suc n) bytes) ≡ bytes
row_again b zero bytes l k e =
    let f = front_length b 0 bytes l k e in
    let front = front_of (take 512 bytes) in
    let t : take 504 (front ++ []) ≡ front = ap (take 504) (append-nil front) ∙ take_all 504 front (omega arith) in
    ap (λ (xs : List ℕ). block_of b xs ++ []) t
    ∙ append-nil (block_of b front)
    ∙ block_back b 0 bytes l k e
    ∙ take_all 512 bytes (omega arith)
row_again b (suc n) bytes l k e =
    let f = front_length b (suc n) bytes l k e in
    let w = fills_whole (used_in (take 512 bytes)) n (right_here b (suc n) bytes l k e).used in
    let front = front_of (take 512 bytes) in
    let behind = fronts (suc n) (drop 512 bytes) in
    let s : length front ≡ 504 = omega arith in
    let i = row_again (b + 1) n (drop 512 bytes) (length_behind b (suc n) bytes l k e) (known_behind b (suc n) bytes l k e) (none_behind b (suc n) bytes l k e) in
    ap (λ (xs : List ℕ). block_of b xs ++ blocks_from (suc n) (b + 1) (drop 504 (front ++ behind))) (take_at front behind 504 s)
    ∙ ap (λ (xs : List ℕ). block_of b front ++ blocks_from (suc n) (b + 1) xs) (drop_at front behind 504 s)
    ∙ ap (λ (xs : List ℕ). xs ++ blocks_from (suc n) (b + 1) behind) (block_back b (suc n) bytes l k e)
    ∙ ap (λ (xs : List ℕ). take 512 bytes ++ xs) i
    ∙ take-append-drop 512 bytes

-- what the question about the length tells of a file with no fault
pub record Sized (file : List ℕ) : Type 0 where
  pub count : ℕ
  pub some : length file / 512 ≡ suc count
  pub whole : length file ≡ 512 * suc count
  pub none : is_some (blocks_fault (suc count) 0 file) ≡ false

pub sized : (file : List ℕ) (limit : ℕ) → is_some (file_fault file limit) ≡ false → Sized file
unfolding file_fault
sized file limit e =
    let q = asked_none (length_fits (length file) limit) Length (length file) _ e in
    let a = and_parts (leb 512 (length file)) _ q.0 in
    let b = and_parts (leb (length file) limit) _ a.1 in
    let l = leb-true 512 (length file) a.0 in
    let m = eqb-true (length file % 512) 0 b.1 in
    let s : length file / 512 ≡ suc (length file / 512 - 1) = omega arith in
    record {
      count = length file / 512 - 1;
      some = s;
      whole = omega arith;
      none = subst (λ (n : ℕ). is_some (blocks_fault n 0 file) ≡ false) s q.1;
    }

-- reading, then writing
pub rewritten : (file : List ℕ) (limit : ℕ) → Bytes file → is_some (file_fault file limit) ≡ false → Rewritten file
unfolding payload blocks_of
rewritten file limit known e =
    let s = sized file limit e in
    let n = s.count in
    let f = length_fronts 0 n file s.whole known s.none in
    let c : block_count (length (fronts (suc n) file)) ≡ suc n = omega arith in
    ap (λ (k : ℕ). blocks_of (fronts k file)) s.some
    ∙ ap (λ (k : ℕ). blocks_from k 0 (fronts (suc n) file)) c
    ∙ row_again 0 n file s.whole known s.none

pub counted : (file : List ℕ) → Bytes file → Counted file (payload_len_of file)
unfolding payload
counted file known limit e =
    let s = sized file limit e in
    let n = s.count in
    let f = length_fronts 0 n file s.whole known s.none in
    let p = s.some in
    let w = s.whole in
    let m : length file / 512 - 1 ≡ n = omega arith in
    let u = ap (λ (k : ℕ). used_in (drop (512 * k) file)) m in
    let v = ap (λ (k : ℕ). length (fronts k file)) p in
    grind (arith, nat_tests)

-- writing, then reading
pub length_blocks_from : (n b : ℕ) (p : List ℕ) → length (blocks_from n b p) ≡ 512 * n
length_blocks_from zero b p = refl
length_blocks_from (suc n) b p =
    let t = length-take 504 p in
    let h = length_block_of b (take 504 p) (omega arith) in
    let i = length_blocks_from n (b + 1) (drop 504 p) in
    let a = length-append (block_of b (take 504 p)) (blocks_from n (b + 1) (drop 504 p)) in
    omega arith

fills_all : (t : Bool) → fills 504 t ≡ true
fills_all true = refl
fills_all false = refl

first_both : (o p : Option BlockFault) → is_some o ≡ false → is_some p ≡ false → is_some (first o p) ≡ false
first_both o p e f = ap is_some (none_first o p e) ∙ f

module _ (n b : ℕ) (p : List ℕ) (full : fills (length (take 504 p)) (eqb n 0) ≡ true) (low : b < 65536) (known : Bytes p) where
  made : List ℕ
  made = block_of b (take 504 p)

  behind : List ℕ
  behind = blocks_from n (b + 1) (drop 504 p)

  short : length (take 504 p) ≤ 504
  short = let l = length-take 504 p in omega arith

  known_part : Bytes (take 504 p)
  known_part = All-take (λ x. x < 256) 504 p known

  length_made : length made ≡ 512
  unfolding made
  length_made = length_block_of b (take 504 p) short

  made_front : take 512 (made ++ behind) ≡ made
  made_front = take_at made behind 512 length_made

  made_behind : drop 512 (made ++ behind) ≡ behind
  made_behind = drop_at made behind 512 length_made

  step_none : is_some (blocks_fault n (b + 1) (blocks_from n (b + 1) (drop 504 p))) ≡ false → is_some (blocks_fault (suc n) b (blocks_from (suc n) b p)) ≡ false
  unfolding made behind
  step_none e =
      first_both _ _
      (ap (λ (xs : List ℕ). is_some (block_fault b (eqb n 0) xs)) made_front
      ∙ none_from_right b (eqb n 0) made (right_block b (take 504 p) short low known_part (eqb n 0) full))
      (ap (λ (xs : List ℕ). is_some (blocks_fault n (b + 1) xs)) made_behind ∙ e)

  step_fronts : fronts (suc n) (blocks_from (suc n) b p) ≡ take 504 p ++ fronts n (blocks_from n (b + 1) (drop 504 p))
  unfolding made behind
  step_fronts =
      ap (λ (xs : List ℕ). front_of xs ++ fronts n (drop 512 (made ++ behind))) made_front
      ∙ ap (λ (xs : List ℕ). front_of made ++ fronts n xs) made_behind
      ∙ ap (λ (xs : List ℕ). xs ++ fronts n behind) (front_is b (take 504 p) short low known_part)

row_read : (n b : ℕ) (p : List ℕ) → 504 * n < length p → length p ≤ 504 * suc n → b + suc n ≤ 65536 → Bytes p
    → (is_some (blocks_fault (suc n) b (blocks_from (suc n) b p)) ≡ false) × (fronts (suc n) (blocks_from (suc n) b p) ≡ p)
row_read zero b p low high few known =
    let all = take_all 504 p (omega arith) in
    let l = ap length all in
    let full : fills (length (take 504 p)) (eqb 0 0) ≡ true = grind (arith, nat_tests) in (
      step_none 0 b p full (omega arith) known refl,
      step_fronts 0 b p full (omega arith) known ∙ append-nil (take 504 p) ∙ all,
    )
row_read (suc n) b p low high few known =
    let l : length (take 504 p) ≡ 504 = length-take-le 504 p (omega arith) in
    let d = length-drop 504 p in
    let full = ap (λ (k : ℕ). fills k (eqb (suc n) 0)) l ∙ fills_all (eqb (suc n) 0) in
    let i = row_read n (b + 1) (drop 504 p) (omega arith) (omega arith) (omega arith) (All-drop (λ x. x < 256) 504 p known) in (
      step_none (suc n) b p full (omega arith) known i.0,
      step_fronts (suc n) b p full (omega arith) known
          ∙ ap (λ (xs : List ℕ). take 504 p ++ xs) i.1
          ∙ take-append-drop 504 p,
    )

pub length_blocks_of : (p : List ℕ) → length (blocks_of p) ≡ 512 * block_count (length p)
unfolding blocks_of
length_blocks_of p = length_blocks_from (block_count (length p)) 0 p

pub readable : (p : List ℕ) → 0 < length p → block_count (length p) ≤ 65536 → Bytes p → Readable (blocks_of p) p
unfolding file_fault payload blocks_of
readable p some few known =
    let file = blocks_of p in
    let n = block_count (length p) - 1 in
    let e : block_count (length p) ≡ suc n = omega arith in
    let l = length_blocks_of p in
    let k : length file / 512 ≡ suc n = omega arith in
    let r = row_read n 0 p (omega arith) (omega arith) (omega arith) known in
    let f : blocks_from (suc n) 0 p ≡ file = ap (λ (m : ℕ). blocks_from m 0 p) (sym e) in
    let none : is_some (blocks_fault (length file / 512) 0 file) ≡ false =
    ap (λ (m : ℕ). is_some (blocks_fault m 0 file)) k ∙ ap (λ (xs : List ℕ). is_some (blocks_fault (suc n) 0 xs)) (sym f) ∙ r.0 in (
      (λ limit h. grind (arith, nat_tests)),
      ap (λ (m : ℕ). fronts m file) k ∙ ap (fronts (suc n)) (sym f) ∙ r.1,
    )
