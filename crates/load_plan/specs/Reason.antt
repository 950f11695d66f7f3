-- The reason of a refusal. What the tests of a list stand for is left open: refusals, or their numbers.
-- Holds ts r            a test of the list that stands for r holds
-- Ascends number m ts   the numbers of what the tests stand for ascend, from m on
-- Assumes nothing.
use Rattle.std.specs.Prelude.{ℕ, ◌≤◌, ◌≡◌, Bool, true, List, [], ◌∷◌, ◌⊎◌}

abbrev pub Holds : {R : Type 0} → List (Bool × R) → R → Type 0
Holds [] r = ⊥
Holds (t ∷ ts) r = ((t.0 ≡ true) × (t.1 ≡ r)) ⊎ Holds ts r

abbrev pub Ascends : {R : Type 0} → (R → ℕ) → ℕ → List (Bool × R) → Type 0
Ascends number m [] = Unit {0}
Ascends number m (t ∷ ts) = (m ≤ number t.1) × Ascends number (number t.1) ts
