-- The text that a program prints of a check that has ended.
--
-- Outcome             what a check ended in, with what is printed of it:
--   matches es          MATCHES, with the events of the sequence
--   never ss            NEVER, with the sets of the certificate
--   full n              FULL, with the cleared length
-- line w n            the word w, a space, the number n in decimal, and a newline
-- lines w ns          such a line for each number of ns, in order
-- head_text v q f     the first three lines: the verdict v, q queries, f finds
-- report_text q f o   the whole report of a check with q queries, f finds and the outcome o
use Rattle.std.specs.Prelude.{ℕ, List, ◌++◌, length, codes, decimal}
use Rattle.std.specs.List.{flat_map}

pub data Outcome : Type 0 where
  matches : List ℕ → Outcome
  never : List ℕ → Outcome
  full : ℕ → Outcome

abbrev pub line : List ℕ → ℕ → List ℕ
line word n = word ++ (codes " " ++ (decimal n ++ codes "\n"))

abbrev pub lines : List ℕ → List ℕ → List ℕ
lines word ns = flat_map (line word) ns

unfoldable pub head_text : List ℕ → ℕ → ℕ → List ℕ
head_text verdict queries finds =
    codes "verdict " ++ (verdict ++ codes "\n") ++ line (codes "queries") queries ++ line (codes "finds") finds

abbrev pub report_text : ℕ → ℕ → Outcome → List ℕ
report_text queries finds (matches events) =
    head_text (codes "MATCHES") queries finds ++ line (codes "length") (length events) ++ lines (codes "event") events
report_text queries finds (never sets) = head_text (codes "NEVER") queries finds ++ lines (codes "held") sets
report_text queries finds (full cleared) = head_text (codes "FULL") queries finds ++ line (codes "length") cleared
