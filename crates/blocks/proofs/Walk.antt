-- The walk over a payload: entering a block, and handing out its bytes.
use Rattle.std.proofs.Common.{◌≡◌, ℕ, suc, ◌+◌, ◌-◌, ◌/◌, ◌<◌, ◌≤◌, min, leb, List, [], ◌∷◌, ◌++◌, length, get_or, take, drop, Some, None, sym, ap, ◌∙◌, arith, length-drop, length-take}
use Rattle.std.proofs.lemmas.List.{length-append, take-append-le, drop-append-le, drop-drop, drop-take, drop_more, drop_all, take-take, get_or-take}
use Rattle.std.proofs.lemmas.Bool.{le-leb, cond-true}
use Rattle.blocks.specs.Bytes.{number, next_number}
use Rattle.blocks.specs.Layout.{used_in, room_in, front_of, fronts, payload}
use Rattle.blocks.specs.declared.reader.Reader.{Reader}
use Rattle.blocks.specs.Reading.{rest}
use Rattle.blocks.proofs.Cuts.{take_both}
use Rattle.blocks.proofs.Files.{used_in_block}

pub payload_short : (bytes : List ℕ) → length bytes < 512 → payload bytes ≡ []
unfolding payload
payload_short bytes h = let e : length bytes / 512 ≡ 0 = omega arith in ap (λ (n : ℕ). fronts n bytes) e

pub payload_more : (bytes : List ℕ) → 512 ≤ length bytes → payload bytes ≡ front_of (take 512 bytes) ++ payload (drop 512 bytes)
unfolding payload
payload_more bytes h =
    let l = length-drop 512 bytes in
    let e : length bytes / 512 ≡ suc (length (drop 512 bytes) / 512) = omega arith in
    ap (λ (n : ℕ). fronts n bytes) e

-- the block that begins at start, once its bytes in use are marked out by place and end
module _ (file : List ℕ) (start used : ℕ) (read : used ≡ number (take 2 (drop (start + 2) file))) where
  pub front_marked : drop (start + 4) (take (start + 4 + min used 504) file) ≡ front_of (take 512 (drop start file))
  front_marked =
      let bytes = drop start file in
      let u : used ≡ used_in (take 512 bytes) =
      read ∙ ap (λ (xs : List ℕ). number (take 2 xs)) (sym (drop-drop 2 start file)) ∙ sym (used_in_block bytes) in
      let room : room_in (take 512 bytes) ≡ take 504 (drop 4 bytes) =
      ap (take 504) (drop-take 4 508 bytes) ∙ take-take 504 508 (drop 4 bytes) (omega arith) in
      drop-take (start + 4) (min used 504) file
      ∙ ap (take (min used 504)) (sym (drop-drop 4 start file))
      ∙ sym (take_both used 504 (drop 4 bytes))
      ∙ ap (λ (n : ℕ). take n (take 504 (drop 4 bytes))) u
      ∙ ap (take (used_in (take 512 bytes))) (sym room)

  pub entered : start + 512 ≤ length file
      → drop (start + 4) (take (start + 4 + min used 504) file) ++ payload (drop (start + 512) file) ≡ payload (drop start file)
  entered h =
      let l = length-drop start file in
      ap (λ (xs : List ℕ). xs ++ payload (drop (start + 512) file)) front_marked
      ∙ ap (λ (xs : List ℕ). front_of (take 512 (drop start file)) ++ payload xs) (sym (drop-drop 512 start file))
      ∙ sym (payload_more (drop start file) (omega arith))

pub marked_more : (file : List ℕ) (place end : ℕ) → place < end → place < length file
    → drop place (take end file) ≡ get_or file place 0 ∷ drop (place + 1) (take end file)
marked_more file place end h k =
    let l = length-take end file in
    drop_more (take end file) place 0 (omega arith)
    ∙ ap (λ (x : ℕ). x ∷ drop (place + 1) (take end file)) (get_or-take end file place 0 h)

pub marked_none : (file : List ℕ) (place end : ℕ) → min end (length file) ≤ place → drop place (take end file) ≡ []
marked_none file place end h = let l = length-take end file in drop_all place (take end file) (omega arith)

-- a reader that has handed out all of the block that it entered goes on to the next one
pub entering : (r : Reader) (used m : ℕ) → used ≡ number (take 2 (drop (r.block + 2) r.file.now)) → m ≡ min used 504
    → r.block + 512 ≤ length r.file.now → drop r.place (take r.end r.file.now) ≡ []
    → rest (record { file = r.file; block = r.block + 512; place = r.block + 4; end = r.block + 4 + m }) ≡ rest r
entering r used m u e h none =
    let file = r.file.now in
    let start = r.block in
    ap (λ (n : ℕ). drop (start + 4) (take (start + 4 + n) file) ++ payload (drop (start + 512) file)) e
    ∙ entered file start used u h
    ∙ sym (ap (λ (xs : List ℕ). xs ++ payload (drop start file)) none)

pub rest_more : (r : Reader) → r.place < r.end → r.place < length r.file.now
    → rest r ≡ get_or r.file.now r.place 0 ∷ rest (record { file = r.file; block = r.block; place = r.place + 1; end = r.end })
rest_more r h k =
    ap (λ (xs : List ℕ). xs ++ payload (drop r.block r.file.now)) (marked_more r.file.now r.place r.end h k)

pub rest_none : (r : Reader) → length r.file.now - r.block < 512 → drop r.place (take r.end r.file.now) ≡ [] → rest r ≡ []
rest_none r h none =
    let l = length-drop r.block r.file.now in
    ap (λ (xs : List ℕ). xs ++ payload (drop r.block r.file.now)) none ∙ payload_short (drop r.block r.file.now) (omega arith)

-- n bytes in the block that was entered
module _ (r : Reader) (n : ℕ) (h : r.place + n ≤ r.end) (k : r.place + n ≤ length r.file.now) where
  here : List ℕ
  here = drop r.place (take r.end r.file.now)

  enough : n ≤ length here
  unfolding here
  enough =
      let a = length-take r.end r.file.now in
      let b = length-drop r.place (take r.end r.file.now) in
      omega arith

  pub long_rest : n ≤ length (rest r)
  unfolding here
  long_rest =
      let a = length-append here (payload (drop r.block r.file.now)) in
      let b = enough in
      omega arith

  pub passed_over : rest (record { file = r.file; block = r.block; place = r.place + n; end = r.end }) ≡ drop n (rest r)
  unfolding here
  passed_over =
      let behind = payload (drop r.block r.file.now) in
      sym (drop-append-le n here behind enough ∙ ap (λ (xs : List ℕ). xs ++ behind) (drop-drop n r.place (take r.end r.file.now)))

  -- what stands in the file there comes next
  pub comes_next : take n (rest r) ≡ take n (drop r.place r.file.now)
  unfolding here
  comes_next =
      let file = r.file.now in
      let z : r.end ≡ r.place + (r.end - r.place) = omega arith in
      take-append-le n here (payload (drop r.block file)) enough
      ∙ ap (λ (j : ℕ). take n (drop r.place (take j file))) z
      ∙ ap (take n) (drop-take r.place (r.end - r.place) file)
      ∙ take-take n (r.end - r.place) (drop r.place file) (omega arith)

  -- a part of it too
  pub part_next : (i m : ℕ) → i + m ≤ n → take m (drop i (rest r)) ≡ take m (drop (r.place + i) r.file.now)
  part_next i m l =
      let file = r.file.now in
      let z : i + (n - i) ≡ n = omega arith in
      sym (take-take m (n - i) (drop i (rest r)) (omega arith))
      ∙ ap (take m)
      (sym (drop-take i (n - i) (rest r))
      ∙ ap (drop i) (ap (λ (j : ℕ). take j (rest r)) z ∙ comes_next ∙ ap (λ (j : ℕ). take j (drop r.place file)) (sym z))
      ∙ drop-take i (n - i) (drop r.place file))
      ∙ take-take m (n - i) (drop i (drop r.place file)) (omega arith)
      ∙ ap (take m) (drop-drop i r.place file)

  pub next_number_is : Some (number (take n (drop r.place r.file.now))) ≡ next_number n (rest r)
  next_number_is =
      sym (cond-true (leb n (length (rest r))) (Some (number (take n (rest r)))) None (le-leb n (length (rest r)) long_rest)
      ∙ ap (λ (xs : List ℕ). Some (number xs)) comes_next)
