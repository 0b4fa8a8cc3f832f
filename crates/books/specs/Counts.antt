-- How many entries of a list are something else than x.
use Rattle.std.specs.Prelude.{ℕ, ◌+◌, cond, List, [], ◌∷◌, ◌==◌}

abbrev pub others : ℕ → List ℕ → ℕ
others x [] = 0
others x (y ∷ ys) = cond (y == x) 0 1 + others x ys
