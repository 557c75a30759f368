-- What is left of a key on the way down. Assumes nothing.
use Rattle.std.proofs.Common.{◌≡◌, ℕ, zero, suc, ◌<◌, ◌≤◌, List, [], length, get_or, take, set, sym, ap, ◌∙◌, ⊎_elim, arith}
use Rattle.std.proofs.lemmas.Bool.{cases_eq}
use Rattle.std.proofs.lemmas.List.{get_or-set_same, get_or-set_other, take_all, length-set}
use Rattle.keys.specs.declared.key.Key.{Key}
use Rattle.keys.specs.Listed.{numbers}
use Rattle.keys.specs.Numbers.{rest, without}
use Rattle.keys.proofs.Numbers.{rest_nil, rest_more}
use Rattle.tries.specs.declared.row.Row.{Row}
use Rattle.tries.specs.Rows.{way}
use Rattle.tries.specs.Trails.{before}
use Rattle.tries.proofs.Paths.{length_way, way_take}

-- for each depth on the way p, what is left of the key
pub record Trail (key : Key) (left : List Key) (p : List ℕ) : Type 0 where
  pub long : length left ≡ 65
  pub at : (j : ℕ) → j < length p → numbers (get_or left j key) ≡ rest (numbers key) (take (suc j) p)

pub trail_start : (key : Key) (left : List Key) → length left ≡ 65 → Trail key left []
trail_start key left l = record { long = l; at = λ j h. absurd (omega arith) }

module _ (key : Key) (left : List Key) (p : List ℕ) (t : Trail key left p) where
  left_before : (d : ℕ) → d ≤ length p → numbers (before key left d) ≡ rest (numbers key) (take d p)
  left_before zero h = sym (rest_nil (numbers key))
  left_before (suc d) h = t.at d h

  module _ (row : Row) (r : Key) (deep : row.depth ≤ length p) (few : row.depth < 65) (is : numbers r ≡ without row.number (numbers (before key left row.depth))) where
    -- what is left after the row
    pub trail_left : numbers r ≡ rest (numbers key) (way p row)
    trail_left = is ∙ ap (without row.number) (left_before row.depth deep) ∙ sym (rest_more (numbers key) (take row.depth p) row.number)

    pub trail_more : Trail key (set left row.depth r) (way p row)
    trail_more = record {
      long = length_set_is ∙ t.long;
      at = λ j h. ⊎_elim
          (λ (e : j ≡ row.depth).
          ap (λ k. numbers (get_or (set left row.depth r) k key)) e ∙ ap numbers (get_or-set_same left row.depth r key (omega (arith, t.long))) ∙ trail_left
          ∙ ap (rest (numbers key)) (sym (take_all (suc j) (way p row) (omega (arith, long)))))
          (λ (e : j ≡ row.depth → ⊥).
          ap numbers (get_or-set_other left row.depth j r key e) ∙ t.at j (omega (arith, long))
          ∙ ap (rest (numbers key)) (sym (way_take p row (suc j) (omega (arith, long)) deep)))
          (cases_eq j row.depth);
    }
      where
        long : length (way p row) ≡ suc row.depth
        long = length_way p row deep

        length_set_is : length (set left row.depth r) ≡ length left
        length_set_is = length-set left row.depth r
