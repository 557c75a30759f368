-- Numbers of several bytes: what two parts make together, and that bytes and number give each other.
use Rattle.std.proofs.Common.{◌≡◌, ℕ, zero, suc, ◌+◌, ◌*◌, ◌/◌, ◌%◌, ◌^◌, ◌<◌, ◌≤◌, List, [], ◌∷◌, length, take, drop, refl, ap, ◌∙◌, mul_assoc, arith}
use native.Mathlib.Nat.{pow-succ'}
use Rattle.blocks.specs.Bytes.{Bytes, number, bytes_of}

pub number_join : (m n : ℕ) (bs : List ℕ) → m ≤ length bs → number (take (m + n) bs) ≡ number (take m bs) + 256 ^ m * number (take n (drop m bs))
number_join zero n bs h =
    let e : 0 + n ≡ n = omega arith in
    ap (λ (k : ℕ). number (take k bs)) e ∙ omega arith
number_join (suc m) n [] h = absurd (omega arith)
number_join (suc m) n (b ∷ bs) h =
    let e : suc m + n ≡ suc (m + n) = omega arith in
    let i = number_join m n bs (omega arith) in
    let rest = number (take n (drop m bs)) in
    let p = ap (λ (k : ℕ). k * rest) (pow-succ' 256 m) in
    let q = mul_assoc 256 (256 ^ m) rest in
    ap (λ (k : ℕ). number (take k (b ∷ bs))) e ∙ omega arith

pub bytes_of_number : (n : ℕ) (bs : List ℕ) → length bs ≡ n → Bytes bs → bytes_of n (number bs) ≡ bs
bytes_of_number zero [] e h = refl
bytes_of_number zero (b ∷ bs) e h = absurd (omega arith)
bytes_of_number (suc n) [] e h = absurd (omega arith)
bytes_of_number (suc n) (b ∷ bs) e h =
    let l = h.0 in
    let p : (b + 256 * number bs) % 256 ≡ b = omega arith in
    let q : (b + 256 * number bs) / 256 ≡ number bs = omega arith in
    ap (λ (x : ℕ). x ∷ bytes_of n ((b + 256 * number bs) / 256)) p
    ∙ ap (λ (x : ℕ). b ∷ bytes_of n x) q
    ∙ ap (λ (xs : List ℕ). b ∷ xs) (bytes_of_number n bs (omega arith) h.1)

pub number_bytes_of : (n x : ℕ) → x < 256 ^ n → number (bytes_of n x) ≡ x
number_bytes_of zero x h = omega arith
number_bytes_of (suc n) x h =
    let p = pow-succ' 256 n in
    let i = number_bytes_of n (x / 256) (omega arith) in
    omega arith

pub length_bytes_of : (n x : ℕ) → length (bytes_of n x) ≡ n
length_bytes_of zero x = refl
length_bytes_of (suc n) x = ap suc (length_bytes_of n (x / 256))

pub bytes_bytes_of : (n x : ℕ) → Bytes (bytes_of n x)
bytes_bytes_of zero x = tt
bytes_bytes_of (suc n) x = (omega arith, bytes_bytes_of n (x / 256))
