-- Lists of pairs, and of their indices
use Rattle.std.proofs.Common.{List, [], ap, drop, length, refl, suc, sym, take, ℕ, ◌++◌, ◌∷◌, ◌≡◌}
use Rattle.std.proofs.lemmas.List.{drop-map, map-append, take-map}
use Rattle.formal_sums.specs.FormalSums.{Each}
use Rattle.basis_steps.specs.Criteria.{IsPair}
use Rattle.pair_criteria.specs.declared.pair.Pair.{Pair as CodePair}
use Rattle.pair_updates.specs.Leads.{LeadsShown, sums_shown}
use Rattle.pair_updates.specs.Pairs.{HasLcm, IsRealPair, index_pair_of, pairs_of}

pub pairs_length : (xs : List CodePair) → length (pairs_of xs) ≡ length xs
pairs_length [] = refl
pairs_length (x ∷ xs) = ap suc (pairs_length xs)

pub pairs_append : (xs ys : List CodePair) → pairs_of (xs ++ ys) ≡ pairs_of xs ++ pairs_of ys
pairs_append xs ys = map-append (λ x. index_pair_of x) xs ys

pub pairs_take : (k : ℕ) (xs : List CodePair) → pairs_of (take k xs) ≡ take k (pairs_of xs)
pairs_take k xs = sym (take-map (λ x. index_pair_of x) k xs)

pub pairs_drop : (k : ℕ) (xs : List CodePair) → pairs_of (drop k xs) ≡ drop k (pairs_of xs)
pairs_drop k xs = sym (drop-map (λ x. index_pair_of x) k xs)

-- pairs with their lcms
pub reals_of : (m : LeadsShown) (xs : List CodePair) → Each (IsPair (sums_shown m)) (pairs_of xs) → Each (HasLcm m) xs
    → Each (IsRealPair m) xs
reals_of m [] h k = tt
reals_of m (x ∷ xs) h k = (record { pair = h.0; lcm = k.0 }, reals_of m xs h.1 k.1)
