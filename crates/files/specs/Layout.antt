-- The payload of a pattern file.
--
-- A heading of 16 bytes: edition 1, the numbers of states and of signals, the start state (a byte each), the number of
-- rows (2 bytes), the final set (8), two zero bytes. Then a root for each state (2 bytes), then the rows: operation (a
-- byte), a zero byte, left and right (2 bytes each). Low bytes come first.
--
-- field p at n   the number in the n bytes of p from place `at` on
-- each k f n p   what f reads from each of n parts of p, of k bytes each
-- row_of p       the row at the front of p; its operation is read with the zero byte behind it, as two bytes, so that a
--                row whose zero byte is not zero has an operation that no pattern has
-- decoded p      the automaton in the payload p
-- encoded A      the payload of the automaton A
-- file_of A      the file of the automaton A
-- fronted xs t   the table t with xs in its front, and what lies behind as it was
use Rattle.std.specs.Prelude.{ℕ, zero, suc, ◌+◌, ◌*◌, List, [], ◌∷◌, ◌++◌, length, take, drop}
use Rattle.std.specs.List.{flat_map}
use Rattle.blocks.specs.Bytes.{number, bytes_of}
use Rattle.blocks.specs.Layout.{blocks_of}
use Rattle.patterns.specs.declared.row.Row.{Row}
use Rattle.patterns.specs.Automaton.{Automaton, states}

abbrev pub field : List ℕ → ℕ → ℕ → ℕ
field p at n = number (take n (drop at p))

abbrev pub edition_in : List ℕ → ℕ
edition_in p = field p 0 1

abbrev pub states_in : List ℕ → ℕ
states_in p = field p 1 1

abbrev pub rows_in : List ℕ → ℕ
rows_in p = field p 4 2

abbrev pub zeros_in : List ℕ → ℕ
zeros_in p = field p 14 2

abbrev pub each : {X : Type 0} → ℕ → (List ℕ → X) → ℕ → List ℕ → List X
each k f zero p = []
each k f (suc n) p = f p ∷ each k f n (drop k p)

abbrev pub root_of : List ℕ → ℕ
root_of p = field p 0 2

abbrev pub row_of : List ℕ → Row
row_of p = record { operation = field p 0 2; left = field p 2 2; right = field p 4 2 }

abbrev pub roots_in : ℕ → List ℕ → List ℕ
roots_in n p = each 2 root_of n (drop 16 p)

abbrev pub table_in : ℕ → ℕ → List ℕ → List Row
table_in n N p = each 6 row_of N (drop (16 + 2 * n) p)

unfoldable pub decoded : List ℕ → Automaton
decoded p = record {
  signals = field p 2 1;
  start = field p 3 1;
  finals = field p 6 8;
  roots = roots_in (states_in p) p;
  rows = table_in (states_in p) (rows_in p) p;
}

abbrev pub row_bytes_of : Row → List ℕ
row_bytes_of r = bytes_of 2 r.operation ++ (bytes_of 2 r.left ++ bytes_of 2 r.right)

abbrev pub heading_bytes : Automaton → List ℕ
heading_bytes A =
    bytes_of 1 1 ++ (bytes_of 1 (states A) ++ (bytes_of 1 A.signals ++ (bytes_of 1 A.start
    ++ (bytes_of 2 (length A.rows) ++ (bytes_of 8 A.finals ++ bytes_of 2 0)))))

unfoldable pub encoded : Automaton → List ℕ
encoded A = heading_bytes A ++ (flat_map (bytes_of 2) A.roots ++ flat_map row_bytes_of A.rows)

abbrev pub file_of : Automaton → List ℕ
file_of A = blocks_of (encoded A)

abbrev pub fronted : {X : Type 0} → List X → List X → List X
fronted xs t = xs ++ drop (length xs) t
