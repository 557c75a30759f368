-- The steps of the questions on roots and rows as they are read.
use Rattle.std.proofs.Common.{◌≡◌, ℕ, ◌+◌, ◌-◌, ◌*◌, ◌<◌, ◌≤◌, Bool, false, ltb, List, [], ◌∷◌, ◌++◌, length, drop, Some, None, Option, sym, ap, ◌∙◌}
use Rattle.std.proofs.lemmas.Bool.{lt-ltb, le-ltb}
use Rattle.patterns.specs.declared.fault.Fault.{Fault}
use Rattle.patterns.specs.declared.fault.Fault.TheVariants.{Sizes, Ends, Root, Operation, Operand, Negation}
use Rattle.patterns.specs.Questions.{judged, sized, ended, roots_fault, rows_fault, row_fault, free_step, free, first, unless, known, placed, negatable}
use Rattle.files.specs.declared.heading.Heading.{Heading}
use Rattle.files.specs.Heading.{tables_of}
use Rattle.files.specs.Layout.{each, root_of, row_of, roots_in, table_in}
use Rattle.files.proofs.Portions.{each_step}
use Rattle.files.proofs.Fields.{length_each}

module _ (N n q : ℕ) (p : List ℕ) (h : q < n) where
  later : Bool → Option Fault
  later b = first (unless b (Root q)) (roots_fault N (q + 1) (each 2 root_of (n - (q + 1)) (drop 2 p)))

  stepped : roots_fault N q (each 2 root_of (n - q) p) ≡ later (ltb (root_of p) N)
  unfolding later
  stepped = ap (roots_fault N q) (each_step 2 root_of n q p h)

  pub roots_more : root_of p < N → roots_fault N (q + 1) (each 2 root_of (n - (q + 1)) (drop 2 p)) ≡ roots_fault N q (each 2 root_of (n - q) p)
  unfolding later
  roots_more l = sym (stepped ∙ ap later (lt-ltb (root_of p) N l))

  pub roots_stop : N ≤ root_of p → roots_fault N q (each 2 root_of (n - q) p) ≡ Some (Root q)
  unfolding later
  roots_stop l = stepped ∙ ap later (le-ltb (root_of p) N l)

module _ (n m N i : ℕ) (p : List ℕ) (h : i < N) (fs : List Bool) where
  rest_fault : List Bool → Option Fault
  rest_fault gs = rows_fault n m gs (each 6 row_of (N - (i + 1)) (drop 6 p))

  row_stepped : rows_fault n m fs (each 6 row_of (N - i) p) ≡ first (row_fault n m fs (row_of p)) (rest_fault (free_step fs (row_of p)))
  unfolding rest_fault
  row_stepped = ap (rows_fault n m fs) (each_step 6 row_of N i p h)

  pub rows_more : (b : Bool) → row_fault n m fs (row_of p) ≡ None → b ≡ free fs (row_of p)
      → rows_fault n m (fs ++ b ∷ []) (each 6 row_of (N - (i + 1)) (drop 6 p)) ≡ rows_fault n m fs (each 6 row_of (N - i) p)
  unfolding rest_fault
  rows_more b e f =
      ap (λ (c : Bool). rest_fault (fs ++ c ∷ [])) f
      ∙ sym (row_stepped ∙ ap (λ (o : Option Fault). first o (rest_fault (free_step fs (row_of p)))) e)

  pub rows_stop : (g : Fault) → row_fault n m fs (row_of p) ≡ Some g → rows_fault n m fs (each 6 row_of (N - i) p) ≡ Some g
  rows_stop g e = row_stepped ∙ ap (λ (o : Option Fault). first o (rest_fault (free_step fs (row_of p)))) e

  -- an operation that no pattern has
  pub rows_unknown : known (row_of p) ≡ false → rows_fault n m fs (each 6 row_of (N - i) p) ≡ Some (Operation (length fs))
  rows_unknown e = rows_stop (Operation (length fs))
      (ap (λ (b : Bool). first (unless b (Operation (length fs))) (first (unless (placed n m (length fs) (row_of p)) (Operand (length fs))) (unless (negatable fs (row_of p)) (Negation (length fs))))) e)

-- the questions in order, over the tables of a payload with its heading
module _ (h : Heading) (p : List ℕ) where
  in_order : Bool → Bool → Option Fault → Option Fault → Option Fault
  in_order s e o w = first (unless s Sizes) (first (unless e Ends) (first o w))

  asks : ℕ → ℕ → Option Fault
  asks n N =
      in_order (sized n h.signals N) (ended n h.start h.finals)
      (roots_fault N 0 (roots_in h.states p)) (rows_fault n h.signals [] (table_in h.states h.rows p))

  pub judged_as : (s e : Bool) (o w : Option Fault)
      → sized h.states h.signals h.rows ≡ s → ended h.states h.start h.finals ≡ e
      → roots_fault h.rows 0 (roots_in h.states p) ≡ o → rows_fault h.states h.signals [] (table_in h.states h.rows p) ≡ w
      → judged (tables_of h p) ≡ first (unless s Sizes) (first (unless e Ends) (first o w))
  unfolding judged asks in_order
  judged_as s e o w a b c d =
      ap (λ (n : ℕ). asks n (length (table_in h.states h.rows p))) (length_each 2 root_of h.states (drop 16 p))
      ∙ ap (asks h.states) (length_each 6 row_of h.rows (drop (16 + 2 * h.states) p))
      ∙ ap (λ (x : Bool). in_order x (ended h.states h.start h.finals) (roots_fault h.rows 0 (roots_in h.states p)) (rows_fault h.states h.signals [] (table_in h.states h.rows p))) a
      ∙ ap (λ (x : Bool). in_order s x (roots_fault h.rows 0 (roots_in h.states p)) (rows_fault h.states h.signals [] (table_in h.states h.rows p))) b
      ∙ ap (λ (x : Option Fault). in_order s e x (rows_fault h.states h.signals [] (table_in h.states h.rows p))) c
      ∙ ap (in_order s e o) d
