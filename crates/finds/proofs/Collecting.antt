-- The rows whose configuration a store holds, counted and copied one by one. Assumes nothing.
use Rattle.std.proofs.Common.{◌≡◌, ℕ, ◌+◌, ◌<◌, ◌≤◌, true, false, cond, List, [], ◌∷◌, ◌++◌, map, length, get_or, take, drop, set, filter, sym, ap, ◌∙◌, arith, length-append}
use Rattle.std.proofs.lemmas.Bool.{cond-true, cond-false}
use Rattle.std.proofs.lemmas.List.{append-nil, map-append, map_push, take_all, take_more, take_more_set, take-append-drop, drop-set-lt, drop-drop, length_push}
use Rattle.std.proofs.lemmas.List.Elements.{filter-append}
use Rattle.kinds.specs.Shape.{Shape}
use Rattle.stores.specs.Holding.{alike}
use Rattle.search.specs.declared.Find.{Find}
use Rattle.finds.specs.Results.{certificate_of}

module _ {C : Type 0} (s : Shape C) (h : List C) (fs : List (Find C)) where
  -- so many of the first i rows are held
  pub record Counting (count i : ℕ) : Type 0 where
    pub long : count ≡ length (certificate_of s h (take i fs))
    pub few : count ≤ i

  -- those of the first i rows that are held stand in front of the list
  pub record Copying (before list : List C) (count i : ℕ) : Type 0 where
    pub counted : Counting count i
    pub front : take count list ≡ certificate_of s h (take i fs)
    pub rest : drop count list ≡ drop count before

  -- the first rows have no more than all rows have
  front_within : (n : ℕ) → length (certificate_of s h (take n fs)) ≤ length (certificate_of s h fs)
  front_within n =
      let whole : certificate_of s h fs ≡ certificate_of s h (take n fs) ++ certificate_of s h (drop n fs) =
      ap (certificate_of s h) (sym (take-append-drop n fs))
      ∙ ap (filter (alike s h)) (map-append (λ (y : Find C). y.configuration) (take n fs) (drop n fs))
      ∙ filter-append (alike s h) (map (λ (y : Find C). y.configuration) (take n fs)) (map (λ (y : Find C). y.configuration) (drop n fs)) in
      omega (arith, ap length whole, length-append (certificate_of s h (take n fs)) (certificate_of s h (drop n fs)))

  -- ---- one row more, which is read as y

  module _ {i : ℕ} (y : Find C) (l : i < length fs) (is : y ≡ get_or fs i y) where
    one_row : certificate_of s h (take (i + 1) fs) ≡ certificate_of s h (take i fs) ++ cond (alike s h y.configuration) (y.configuration ∷ []) []
    one_row =
        ap (certificate_of s h) (take_more fs i y l)
        ∙ ap (λ (z : Find C). certificate_of s h (take i fs ++ z ∷ [])) (sym is)
        ∙ ap (filter (alike s h)) (map_push (λ (z : Find C). z.configuration) (take i fs) y)
        ∙ filter-append (alike s h) (map (λ (z : Find C). z.configuration) (take i fs)) (y.configuration ∷ [])

    module _ (held : true ≡ alike s h y.configuration) where
      held_more : certificate_of s h (take (i + 1) fs) ≡ certificate_of s h (take i fs) ++ y.configuration ∷ []
      held_more = one_row ∙ ap (λ xs. certificate_of s h (take i fs) ++ xs) (cond-true (alike s h y.configuration) (y.configuration ∷ []) [] (sym held))

      pub counting_held : {count : ℕ} → Counting count i → Counting (count + 1) (i + 1)
      counting_held {count} c =
          let a = ap length held_more in
          let b = length_push (certificate_of s h (take i fs)) y.configuration in
          let e = c.long in
          let f = c.few in
          record { long = omega arith; few = omega arith }

      -- there is room for it where there is room for all
      pub counting_room : {count : ℕ} → Counting count i → (n : ℕ) → length (certificate_of s h fs) ≤ n → count < n
      counting_room {count} c n room =
          let e = (counting_held c).long in
          let f = front_within (i + 1) in
          omega arith

      pub copying_held :
          {before list : List C} {count : ℕ} → Copying before list count i → length (certificate_of s h fs) ≤ length list
          → Copying before (set list count y.configuration) (count + 1) (i + 1)
      copying_held {before} {list} {count} c room =
          let m = counting_room c.counted (length list) room in
          let x = y.configuration in
          record {
            counted = counting_held c.counted;
            front = take_more_set list count x m ∙ ap (λ xs. xs ++ x ∷ []) c.front ∙ sym held_more;
            rest = drop-set-lt (count + 1) list count x (omega arith) ∙ sym (drop-drop 1 count list) ∙ ap (drop 1) c.rest ∙ drop-drop 1 count before;
          }

    module _ (gone : false ≡ alike s h y.configuration) where
      gone_more : certificate_of s h (take (i + 1) fs) ≡ certificate_of s h (take i fs)
      gone_more =
          one_row ∙ ap (λ xs. certificate_of s h (take i fs) ++ xs) (cond-false (alike s h y.configuration) (y.configuration ∷ []) [] (sym gone))
          ∙ append-nil (certificate_of s h (take i fs))

      pub counting_gone : {count : ℕ} → Counting count i → Counting count (i + 1)
      counting_gone {count} c = let f = c.few in record { long = c.long ∙ sym (ap length gone_more); few = omega arith }

      pub copying_gone : {before list : List C} {count : ℕ} → Copying before list count i → Copying before list count (i + 1)
      copying_gone {before} {list} {count} c = record { counted = counting_gone c.counted; front = c.front ∙ sym gone_more; rest = c.rest }

  -- ---- all rows

  pub counting_all : {count i : ℕ} → Counting count i → length fs ≤ i → count ≡ length (certificate_of s h fs)
  counting_all {count} {i} c l = c.long ∙ ap (λ ys. length (certificate_of s h ys)) (take_all i fs l)

  pub copying_all : {before list : List C} {count i : ℕ} → Copying before list count i → length fs ≤ i → list ≡ certificate_of s h fs ++ drop (length (certificate_of s h fs)) before
  copying_all {before} {list} {count} {i} c l =
      sym (take-append-drop count list)
      ∙ ap (λ xs. xs ++ drop count list) (c.front ∙ ap (certificate_of s h) (take_all i fs l))
      ∙ ap (λ xs. certificate_of s h fs ++ xs) c.rest
      ∙ ap (λ n. certificate_of s h fs ++ drop n before) (counting_all c.counted l)
