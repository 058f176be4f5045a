-- Where the leads of maps take a position, and on which way (UAG chapter 5, section 3)
use Rattle.std.specs.Ordering.{nat_cmp, ordering_then}
use Rattle.std.specs.Prelude.{List, [], ℕ, ◌∷◌}
use Rattle.std.specs.declared.cmp.Ordering.{Ordering}
use Rattle.std.specs.declared.cmp.Ordering.TheVariants.{Equal}
use Rattle.monomials.specs.Exponents.{unit}
use Rattle.formal_sums.specs.FormalSums.{FormalSum, Key, shift}
use Rattle.bases.specs.Leads.{leads}

-- where the leads of the maps take a key of the last one's cofactors
abbrev pub bottom : {n : ℕ} → List (List (FormalSum n)) → Key n → Key n
bottom [] k = k
bottom (F ∷ maps) k = shift (bottom maps k).1 (leads F (bottom maps k).0)

-- the positions on the way, the lowest first and the position itself last
abbrev pub way : {n : ℕ} → List (List (FormalSum n)) → ℕ → List ℕ
way [] i = []
way {n} (F ∷ maps) i = (bottom maps (i, unit n)).0 ∷ way maps i

-- compares two ways: the first positions that differ decide, and the earlier one is the greater
abbrev pub by_way : List ℕ → List ℕ → Ordering
by_way [] ys = Equal
by_way (x ∷ xs) [] = Equal
by_way (x ∷ xs) (y ∷ ys) = ordering_then (nat_cmp y x) (by_way xs ys)
