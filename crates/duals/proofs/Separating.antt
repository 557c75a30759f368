-- "B without A" accepts exactly what B accepts and A does not.
use Rattle.std.proofs.Common.{◌≡◌, ℕ, ◌+◌, ◌<◌, Bool, false, not, ◌&&◌, List, [], ◌∷◌, length, get_or, sym, refl, ap, ◌∙◌, arith}
use Rattle.std.proofs.lemmas.Bool.Decides.{Decides-and, Decides-not}
use Rattle.sets.specs.Sets.{has}
use Rattle.sets.proofs.Members.{has_set_of}
use Rattle.patterns.specs.declared.row.Row.{Row}
use Rattle.patterns.specs.Automaton.{Automaton, states, root}
use Rattle.patterns.specs.Formed.{Formed}
use Rattle.patterns.specs.Values.{row_value_of, values, value, back}
use Rattle.patterns.proofs.Accepting.{backs, decides_accepted}
use Rattle.patterns.proofs.Depending.{value_same}
use Rattle.patterns.proofs.Folding.{front}
use Rattle.duals.specs.Complement.{Fits, Separates}
use Rattle.duals.specs.Dual.{dual_at}
use Rattle.duals.specs.Without.{without, row_count_of, state_count_of}
use Rattle.duals.proofs.Complementing.{exactly_from}
use Rattle.duals.proofs.Opposite.{value_proper, dual_value, backs_opposite}
use Rattle.duals.proofs.Pairing.{length_rows, length_roots, rows_front, row_last, root_front, root_last, final_front, final_last, pair_dualised, rows_proper, pair_formed, start_is}

module _ (B A : Automaton) (G : Formed B) (F : Formed A) where
  value_front : (a d i : ℕ) → i < length B.rows → value (without B A) a d i ≡ value B a d i
  value_front a d i h =
      let e = length_rows B A in
      sym (front (row_value_of a d) (without B A).rows (length B.rows) i h (omega arith))
      ∙ ap (λ (rs : List Row). get_or (values rs a d) i false) (rows_front B A)

  -- worked back, B's states stay as they are in B alone
  backs_front : (es : List ℕ) (q : ℕ) → q < states B
      → has (backs (without B A) es (without B A).finals) q ≡ has (backs B es B.finals) q
  backs_front [] q h = final_front B A q h
  backs_front (a ∷ es) q h =
      let C = without B A in
      let d = backs C es C.finals in
      let d' = backs B es B.finals in
      let n = length_roots B A in
      has_set_of (λ (j : ℕ). value C a d (root C j)) (states C) q (omega arith)
      ∙ ap (value C a d) (root_front B A q h)
      ∙ value_front a d (root B q) (G.rooted q h)
      ∙ value_same B G a a d d' (λ s l. refl) (backs_front es) (1 + root B q) (root B q) (omega arith) (G.rooted q h)
      ∙ sym (has_set_of (λ (j : ℕ). value B a d' (root B j)) (states B) q h)

  -- the new state asks for B's start and for the opposite of A's
  backs_last : (es : List ℕ)
      → has (backs (without B A) es (without B A).finals) (state_count_of B A)
      ≡ (has (backs B es B.finals) B.start && not (has (backs A es A.finals) A.start))
  backs_last [] = final_last B A
  backs_last (a ∷ es) =
      let C = without B A in
      let b = length B.rows in
      let d = backs C es C.finals in
      let dB = backs B es B.finals in
      let dA = backs A es A.finals in
      let n = length_roots B A in
      let N = length_rows B A in
      let i = root B B.start in
      let j = root A A.start in
      let hi = G.rooted B.start G.starts in
      let hj = F.rooted A.start F.starts in
      let l : row_count_of B A < length C.rows = omega arith in
      has_set_of (λ (k : ℕ). value C a d (root C k)) (states C) (state_count_of B A) (omega arith)
      ∙ ap (value C a d) (root_last B A)
      ∙ value_proper C a d (row_count_of B A) l (rows_proper B A G F (row_count_of B A) l)
      ∙ ap (row_value_of a d (values C.rows a d)) (row_last B A)
      ∙ ap (λ (x : Bool). x && value C a d (dual_at b j))
      (value_front a d i hi
      ∙ value_same B G a a d dB (λ s m. refl) (backs_front es) (1 + i) i (omega arith) hi
      ∙ sym (has_set_of (λ (k : ℕ). value B a dB (root B k)) (states B) B.start G.starts))
      ∙ ap (λ (x : Bool). has (back B a dB) B.start && x)
      (dual_value A C b (states B) F (pair_dualised B A) a d dA (backs_opposite A C b (states B) F (pair_dualised B A) es)
      (1 + j) j (omega arith) hj
      ∙ ap not (sym (has_set_of (λ (k : ℕ). value A a dA (root A k)) (states A) A.start F.starts)))

  pub separates : Fits B A → Separates B A
  separates s es =
      let C = without B A in
      let x = has (backs B es B.finals) B.start in
      let y = has (backs A es A.finals) A.start in
      exactly_from (has (backs C es C.finals) C.start) (x && not y)
      (ap (has (backs C es C.finals)) (start_is B A G F) ∙ backs_last es)
      (decides_accepted C (pair_formed B A G F s) es)
      (Decides-and x (not y) (decides_accepted B G es) (Decides-not y (decides_accepted A F es)))
