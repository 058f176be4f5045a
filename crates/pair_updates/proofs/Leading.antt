-- The leads of a list of keys
use Rattle.std.proofs.Common.{List, [], ap, arith, get_or, length, refl, suc, zero, ℕ, ◌++◌, ◌<◌, ◌∷◌, ◌≡◌}
use Rattle.bases.specs.Leads.{leads}
use Rattle.term_lists.specs.Vectors.{key_of}
use Rattle.term_lists.specs.declared.key.Key.{Key as CodeKey}
use Rattle.pair_criteria.specs.declared.pair.Pair.{Pair as CodePair}
use Rattle.formal_sums.specs.FormalSums.{Each}
use Rattle.basis_steps.specs.Criteria.{IsPair}
use Rattle.pair_updates.specs.Leads.{LeadsShown, lead_sums, sums_shown}
use Rattle.pair_updates.specs.Pairs.{HasLcm, IsRealPair, pairs_of}

pub leads_length : (n : ℕ) (ks : List CodeKey) → length (lead_sums n ks) ≡ length ks
leads_length n [] = refl
leads_length n (k ∷ ks) = ap suc (leads_length n ks)

pub lead_at : (n : ℕ) (ks : List CodeKey) (i : ℕ) (k : CodeKey) → i < length ks → k ≡ get_or ks i k → key_of n k ≡ leads (lead_sums n ks) i
lead_at n [] i k h e = absurd (omega arith)
lead_at n (l ∷ ks) zero k h e = ap (key_of n) e
lead_at n (l ∷ ks) (suc i) k h e = lead_at n ks i k (omega arith) e

-- later leads change no earlier one
pub leads_front : (n : ℕ) (ks more : List CodeKey) (i : ℕ) → i < length ks → leads (lead_sums n (ks ++ more)) i ≡ leads (lead_sums n ks) i
leads_front n [] more i h = absurd (omega arith)
leads_front n (k ∷ ks) more zero h = refl
leads_front n (k ∷ ks) more (suc i) h = leads_front n ks more i (omega arith)

pub lcms_of : (m : LeadsShown) (xs : List CodePair) → Each (IsRealPair m) xs → Each (HasLcm m) xs
lcms_of m [] h = tt
lcms_of m (x ∷ xs) h = (h.0.lcm, lcms_of m xs h.1)

pub pairs_real : (m : LeadsShown) (xs : List CodePair) → Each (IsRealPair m) xs → Each (IsPair (sums_shown m)) (pairs_of xs)
pairs_real m [] h = tt
pairs_real m (x ∷ xs) h = (h.0.pair, pairs_real m xs h.1)
