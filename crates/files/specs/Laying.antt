-- Bytes laid into others.
--
-- laid at bytes old   old, once bytes stand there from place `at` on
use Rattle.std.specs.Prelude.{ℕ, ◌+◌, List, ◌++◌, length, take, drop}

abbrev pub laid : ℕ → List ℕ → List ℕ → List ℕ
laid at bytes old = take at old ++ (bytes ++ drop (at + length bytes) old)
