-- Rows of products of the columns, by numbers of keys
use Rattle.std.proofs.Common.{List, Some, [], ap, arith, get_or, length, refl, subst₂, suc, ℕ, ◌<◌, ◌∙◌, ◌∷◌, ◌≡◌}
use Rattle.std.proofs.lemmas.List.{length-map}
use Rattle.monomials.specs.Exponents.{exponents_of}
use Rattle.formal_sums.specs.FormalSums.{Each, Key, shift}
use Rattle.orders.specs.KeyOrders.{KeyDivides}
use Rattle.bases.specs.Leads.{head_key, leads}
use Rattle.term_lists.proofs.Parts.{Each_member}
use Rattle.term_lists.specs.Vectors.{sum_of, sums_of}
use Rattle.term_lists.specs.declared.key.Key.{Key as CodeKey}
use Rattle.module_vectors.specs.Trails.{KeptProduct, lead_at}
use Rattle.vector_division.proofs.Members.{sums_at}
use Rattle.induced_leads.specs.Spans.{IsFoundLast}
use Rattle.induced_leads.specs.Pairs.{AreNonzero}
use Rattle.schreyer_resolution.specs.Steps.{IsLastDivisor}

abbrev Terms : Type 0
Terms = List (CodeKey × ℕ)

-- what holds of each item by its place holds of all
pub each_told : {X : Type 0} (P : X → Type 0) (xs : List X) → ((j : ℕ) (s : X) → j < length xs → s ≡ get_or xs j s → P s) → Each P xs
each_told P [] h = tt
each_told P (x ∷ xs) h = (h 0 x (omega arith) refl, each_told P xs (λ j s lt is. h (suc j) s (omega (arith, lt)) is))

-- the last column that was found is a last divisor
pub last_found :
    (n : ℕ) (ws : List ℕ) (cols : List Terms) (k : Key n) (s : KeptProduct) → AreNonzero cols → IsFoundLast n ws cols k (Some s)
    → IsLastDivisor (sums_of n cols) (s.0, exponents_of n s.1.exponents)
last_found n ws cols k s some found j after inside d =
    let there : j < length cols = omega (arith, inside, length-map cols (λ v. sum_of n v)) in
    let at : (i : ℕ) → leads (sums_of n cols) i ≡ lead_at n cols i = λ i. ap head_key (sums_at n cols i) in
    found.1 j (omega (arith, after)) there (Each_member (λ v. 0 < length v) cols j [] some there)
    (subst₂ KeyDivides (at j) (ap (shift (exponents_of n s.1.exponents)) (at s.0) ∙ found.0.lead) d)
