-- The rings of a graph: their variables, their settings, and exponents between the two rings
use Rattle.std.proofs.Common.{List, [], ap, arith, drop, length, map, refl, subst, suc, sym, take, zero, ℕ, ◌++◌, ◌+◌, ◌<◌, ◌∙◌, ◌∷◌, ◌≡◌, ◌≤◌}
use Rattle.std.proofs.lemmas.List.{length-append, length-map, take_all}
use Rattle.std.specs.Prelude.{replicate}
use Rattle.monomials.specs.Exponents.{cons, exponents_of, nil}
use Rattle.bases.specs.Settings.{Setting}
use Rattle.operation_laws.specs.Operations.{elimination_setting}
use Rattle.map_laws.proofs.Places.{behind-variable}
use Rattle.map_laws.specs.Graphs.{behind, exponents_from, fitted, variable_monomial}
use Rattle.monomial_orders.specs.Comparisons.{key_comparison}
use Rattle.monomial_orders.specs.Monomials.{IsMonomial, variable}
use Rattle.monomial_orders.specs.declared.order.Order.TheVariants.{Elim}
use Rattle.monomial_orders.specs.declared.order.ModOrder.TheVariants.{Top}
use Rattle.term_lists.specs.Doubling.{IsDoubled, second_name}
use Rattle.term_lists.specs.Rings.{ring_comparison, setting, variables}
use Rattle.term_lists.specs.declared.ring.Ring.{Ring}
use Rattle.ring_maps.specs.GraphRings.{IsGraphRing}

-- ---- the ring
-- with the same weights again it is doubled
pub doubled_graph : (ring graph : Ring) → IsDoubled ring graph → IsGraphRing ring graph
doubled_graph ring graph d = record { modulus = d.modulus; vars = d.vars; order = d.order; module_order = d.module_order }

pub graph_count : (ring graph : Ring) → IsGraphRing ring graph → variables graph ≡ variables ring + variables ring
graph_count ring graph d =
    ap length d.vars ∙ length-append ring.vars (map second_name ring.vars) ∙ ap (λ k. variables ring + k) (length-map ring.vars second_name)

pub graph_modulus : (ring graph : Ring) → IsGraphRing ring graph → graph.modulus.value ≡ ring.modulus.value
graph_modulus ring graph d = ap (λ z. z.value) d.modulus

-- its setting eliminates the first variables
pub graph_setting :
    (ring graph : Ring) (rank : ℕ) (S : Setting (variables ring)) → IsGraphRing ring graph → S.modulus ≡ ring.modulus.value → S.rank ≡ rank
    → setting graph (variables graph) (ring_comparison graph (variables graph)) rank ≡ elimination_setting graph.weights (variables graph) (variables ring) S
graph_setting ring graph rank S d em er =
    let m = variables graph in
    let n = variables ring in
    let ws = graph.weights in
    let p = graph.modulus.value in
    let base : Setting m = setting graph m (ring_comparison graph m) rank in
    let one : base ≡ record { modulus = p; weights = ws; rank = rank; compare = key_comparison Top graph.order ws m } =
    ap (λ o. record { modulus = p; weights = ws; rank = rank; compare = key_comparison o graph.order ws m }) d.module_order in
    let two : base ≡ record { modulus = p; weights = ws; rank = rank; compare = key_comparison Top (Elim n) ws m } =
    one ∙ ap (λ o. record { modulus = p; weights = ws; rank = rank; compare = key_comparison Top o ws m }) d.order in
    let three : base ≡ record { modulus = S.modulus; weights = ws; rank = rank; compare = key_comparison Top (Elim n) ws m } =
    two ∙ ap (λ q. record { modulus = q; weights = ws; rank = rank; compare = key_comparison Top (Elim n) ws m }) (graph_modulus ring graph d ∙ sym em) in
    three ∙ ap (λ r. record { modulus = S.modulus; weights = ws; rank = r; compare = key_comparison Top (Elim n) ws m }) (sym er)

-- ---- exponents
-- what is missing is 0
pub zeros_behind : (m : ℕ) (xs : List ℕ) (k : ℕ) → exponents_of m (xs ++ replicate k 0) ≡ exponents_of m xs
zeros_behind zero xs k = refl
zeros_behind (suc m) [] zero = refl
zeros_behind (suc m) [] (suc k) = ap (cons 0) (zeros_behind m [] k)
zeros_behind (suc m) (x ∷ xs) k = ap (cons x) (zeros_behind m xs k)

-- the exponents of the ring among those of the graph
pub first_exponents : (n m : ℕ) (xs : List ℕ) → length xs ≡ n → exponents_of m xs ≡ fitted m (exponents_of n xs)
first_exponents zero m [] h = go m
  where
    go : (m : ℕ) → exponents_of m [] ≡ fitted m nil
    go zero = refl
    go (suc m) = ap (cons 0) (go m)
first_exponents (suc n) m [] h = absurd (omega (arith, h))
first_exponents zero m (x ∷ xs) h = absurd (omega (arith, h))
first_exponents (suc n) zero (x ∷ xs) h = refl
first_exponents (suc n) (suc m) (x ∷ xs) h = ap (cons x) (first_exponents n m xs (omega (arith, h)))

-- the exponents of the second variables
pub second_exponents :
    (n k m : ℕ) (xs : List ℕ) → length xs ≡ m → m ≡ k + n → exponents_of n (drop k xs) ≡ exponents_from n k (exponents_of m xs)
second_exponents n zero m xs h e = first_exponents m n xs h
second_exponents n (suc k) zero xs h e = absurd (omega (arith, e))
second_exponents n (suc k) (suc m) [] h e = absurd (omega (arith, h))
second_exponents n (suc k) (suc m) (x ∷ xs) h e = second_exponents n k m xs (omega (arith, h)) (omega (arith, e))

variable_same : (n i : ℕ) → variable n i ≡ variable_monomial n i
variable_same zero i = refl
variable_same (suc n) zero = refl
variable_same (suc n) (suc i) = ap (cons 0) (variable_same n i)

-- the second variable that stands for the one with index i
pub second_variable_is : (n m i j : ℕ) → i < n → m ≡ n + n → j ≡ n + i → variable m j ≡ behind m n (variable_monomial n i)
second_variable_is n m i j lt two e =
    variable_same m j ∙ ap (variable_monomial m) e ∙ sym (behind-variable n m n i lt (omega (arith, two)))

-- exponents with zeros behind them, up to so many
pub with_zeros_same :
    (count k : ℕ) (xs old new : List ℕ) → length xs ≤ count → old ≡ xs → new ≡ take count old ++ replicate k 0 → exponents_of count new ≡ exponents_of count xs
with_zeros_same count k xs old new le e h =
    ap (exponents_of count) h ∙ zeros_behind count (take count old) k ∙ ap (λ z. exponents_of count (take count z)) e ∙ ap (exponents_of count) (take_all count xs le)

pub variable_among :
    (n m k i j : ℕ) (y : List ℕ) → k ≡ m → IsMonomial k (variable k j) y → i < n → m ≡ n + n → j ≡ n + i
    → exponents_of m y ≡ behind m n (variable_monomial n i)
variable_among n m k i j y e is lt two at =
    subst (λ l. exponents_of l y ≡ variable l j) e is.exponents ∙ second_variable_is n m i j lt two at
