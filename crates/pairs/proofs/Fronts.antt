-- Tables filled from the front.
use borrow.Rule.Slice.PartMut.{put_mid}
use Rattle.std.proofs.Common.{◌≡◌, ℕ, ◌+◌, ◌-◌, ◌<◌, ◌≤◌, List, [], ◌∷◌, ◌++◌, length, get_or, take, drop, set, sym, refl, ap, ◌∙◌, arith}
use Rattle.std.proofs.lemmas.List.{append-nil, append_assoc, length-append, length_push, length-drop, drop_more, set_at, drop-drop, drop_at, drop_all}
use Rattle.std.proofs.lemmas.Slice.{drop-append-drop}
use Rattle.files.specs.Layout.{fronted}

module _ {X : Type 0} where
  -- one entry more
  pub front_push : (xs t : List X) (v : X) (k : ℕ) → length xs ≡ k → k < length t
      → set (fronted xs t) k v ≡ fronted (xs ++ v ∷ []) t
  front_push xs t v k e h =
      let l : length xs < length t = omega arith in
      let n : length xs + 1 ≡ length (xs ++ v ∷ []) = sym (length_push xs v) in
      ap (λ (ys : List X). set (xs ++ ys) k v) (drop_more t (length xs) v l)
      ∙ set_at xs (get_or t (length xs) v) (drop (length xs + 1) t) v k e
      ∙ sym (append_assoc xs (v ∷ []) (drop (length xs + 1) t))
      ∙ ap (λ (j : ℕ). (xs ++ v ∷ []) ++ drop j t) n

  pub length_fronted : (xs t : List X) → length xs ≤ length t → length (fronted xs t) ≡ length t
  length_fronted xs t h =
      let e = length-append xs (drop (length xs) t) in
      let f = length-drop (length xs) t in
      omega arith

  -- a table whose part from entry b on was lent, and filled from its own front
  pub part_fronted : (xs ys t part : List X) (b : ℕ) → length xs ≡ b → b ≤ length t
      → part ≡ fronted ys (drop b (fronted xs t)) → xs ++ part ≡ fronted (xs ++ ys) t
  part_fronted xs ys t part b e h is =
      let n : b + length ys ≡ length (xs ++ ys) = let l = length-append xs ys in omega arith in
      let rest : drop b (fronted xs t) ≡ drop b t =
      ap (λ (j : ℕ). drop b (xs ++ drop j t)) e ∙ drop_at xs (drop b t) b e in
      ap (λ (zs : List X). xs ++ zs) (is ∙ ap (fronted ys) rest)
      ∙ ap (λ (zs : List X). xs ++ (ys ++ zs)) (drop-drop (length ys) b t ∙ ap (λ (j : ℕ). drop j t) n)
      ∙ sym (append_assoc xs ys (drop (length (xs ++ ys)) t))

  -- a front laid over a shorter one
  pub front_front : (xs ys t : List X) → fronted (xs ++ ys) (fronted xs t) ≡ fronted (xs ++ ys) t
  front_front xs ys t =
      let n = length-append xs ys in
      ap (λ (zs : List X). (xs ++ ys) ++ zs) (drop-append-drop (length xs) t xs (length (xs ++ ys)) (omega arith) refl)

  -- a table whose part from entry b on was lent
  pub lent_part : (b : ℕ) (t part : List X) → put_mid b (length t - b) t part ≡ take b t ++ part
  lent_part b t part =
      let l = length-drop b t in
      ap (λ (zs : List X). take b t ++ (part ++ zs)) (drop_all (length t - b) (drop b t) (omega arith))
      ∙ ap (λ (zs : List X). take b t ++ zs) (append-nil part)
