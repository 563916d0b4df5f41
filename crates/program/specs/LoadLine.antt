-- The line on the run of a load (our choice).
use Rattle.std.specs.Prelude.{ℕ, List, [], ◌∷◌, ◌++◌, codes, decimal}

-- the number of the load, and the numbers of turns, of links, and of the octets of data that the hosts of A and of B
-- receive
abbrev pub line_of_counts : ℕ → ℕ → ℕ → ℕ → ℕ → List ℕ
line_of_counts number turns links a b =
    (codes "make " ++ decimal number) ++ (codes " turns " ++ decimal turns) ++ (codes " links " ++ decimal links)
    ++ (codes " a " ++ decimal a) ++ (codes " b " ++ decimal b) ++ 10 ∷ []
