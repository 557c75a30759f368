-- Fields of bytes and rows of parts: what was written is read again, and what was read is written again.
use Rattle.std.proofs.Common.{◌≡◌, ℕ, zero, suc, ◌+◌, ◌*◌, ◌<◌, ◌≤◌, List, [], ◌∷◌, ◌++◌, length, take, drop, sym, refl, ap, ◌∙◌, mul-zero, mul-suc, arith, length-append, length-drop}
use Rattle.std.proofs.lemmas.List.{append_assoc, drop-drop, drop_at, take-append-drop, length-take-le}
use Rattle.std.proofs.ByRecursion.{All-append, All-take, All-drop}
use Rattle.std.specs.List.{flat_map, AllByRecursion}
use Rattle.blocks.specs.Bytes.{Bytes, bytes_of}
use Rattle.blocks.proofs.Numbers.{bytes_of_number}
use Rattle.files.specs.Layout.{field, each}

-- a field that is read and written again, before what stands behind it
pub field_back : (p : List ℕ) (at n : ℕ) (behind : List ℕ) → Bytes p → at + n ≤ length p → behind ≡ drop (at + n) p
    → bytes_of n (field p at n) ++ behind ≡ drop at p
field_back p at n behind known h e =
    let l = length-drop at p in
    let part = take n (drop at p) in
    let whole : length part ≡ n = length-take-le n (drop at p) (omega arith) in
    let bytes = All-take (λ b. b < 256) n (drop at p) (All-drop (λ b. b < 256) at p known) in
    ap (λ (xs : List ℕ). xs ++ behind) (bytes_of_number n part whole bytes)
    ∙ ap (λ (xs : List ℕ). part ++ xs) (e ∙ sym (drop-drop n at p))
    ∙ take-append-drop n (drop at p)

pub length_each : {X : Type 0} (k : ℕ) (f : List ℕ → X) (n : ℕ) (p : List ℕ) → length (each k f n p) ≡ n
length_each k f zero p = refl
length_each k f (suc n) p = ap suc (length_each k f n (drop k p))

pub bytes_joined : {X : Type 0} (g : X → List ℕ) → ((x : X) → Bytes (g x)) → (xs : List X) → Bytes (flat_map g xs)
bytes_joined g known [] = tt
bytes_joined g known (x ∷ xs) = All-append (λ b. b < 256) (g x) (flat_map g xs) (known x) (bytes_joined g known xs)

pub length_joined : {X : Type 0} (k : ℕ) (g : X → List ℕ) → ((x : X) → length (g x) ≡ k) → (xs : List X) → length (flat_map g xs) ≡ k * length xs
length_joined k g long [] = sym (mul-zero k)
length_joined k g long (x ∷ xs) =
    let a = length-append (g x) (flat_map g xs) in
    let l = long x in
    let i = length_joined k g long xs in
    let m = mul-suc k (length xs) in
    omega arith

-- parts of k bytes, which f reads and g writes
module _ {X : Type 0} (k : ℕ) (f : List ℕ → X) (g : X → List ℕ) where
  -- f reads what g wrote
  pub each_joined : ((x : X) → length (g x) ≡ k) → (xs : List X) (behind : List ℕ) → AllByRecursion (λ x. (zs : List ℕ) → f (g x ++ zs) ≡ x) xs
      → each k f (length xs) (flat_map g xs ++ behind) ≡ xs
  each_joined long [] behind h = refl
  each_joined long (x ∷ xs) behind h =
      let rest = flat_map g xs ++ behind in
      ap (λ (zs : List ℕ). f zs ∷ each k f (length xs) (drop k zs)) (append_assoc (g x) (flat_map g xs) behind)
      ∙ ap (λ (y : X). y ∷ each k f (length xs) (drop k (g x ++ rest))) (h.0 rest)
      ∙ ap (λ (zs : List ℕ). x ∷ each k f (length xs) zs) (drop_at (g x) rest k (long x))
      ∙ ap (λ (ys : List X). x ∷ ys) (each_joined long xs behind h.1)

  -- g writes what f read
  pub joined_each : ((p : List ℕ) → Bytes p → k ≤ length p → g (f p) ++ drop k p ≡ p)
      → (n : ℕ) (p behind : List ℕ) → Bytes p → k * n ≤ length p → behind ≡ drop (k * n) p → flat_map g (each k f n p) ++ behind ≡ p
  joined_each back zero p behind known h e = e ∙ ap (λ (m : ℕ). drop m p) (mul-zero k)
  joined_each back (suc n) p behind known h e =
      let m = mul-suc k n in
      let s : k * suc n ≡ k + k * n = omega arith in
      let l = length-drop k p in
      let i = joined_each back n (drop k p) behind (All-drop (λ b. b < 256) k p known) (omega arith)
      (e ∙ ap (λ (j : ℕ). drop j p) s ∙ sym (drop-drop (k * n) k p)) in
      append_assoc (g (f p)) (flat_map g (each k f n (drop k p))) behind
      ∙ ap (λ (xs : List ℕ). g (f p) ++ xs) i
      ∙ back p known (omega arith)
