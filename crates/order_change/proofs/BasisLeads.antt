-- The leads of a reduced basis as a list of monomials
use Rattle.std.proofs.Common.{List, Ordering, [], ap, ap₂, arith, get_or, inl, inr, length, refl, subst, suc, sym, zero, ℕ, ◌++◌, ◌+◌, ◌<◌, ◌∙◌, ◌∷◌, ◌≡◌, ◌≤◌, ◌⊎◌}
use Rattle.std.proofs.lemmas.Bool.{cases_lt}
use Rattle.std.proofs.lemmas.List.{get_or-map}
use Rattle.residues.proofs.Congruences.{IsCongruent_nonzero, IsCongruent_sym}
use Rattle.monomials.specs.Exponents.{Exponents, exponents_of, unit}
use Rattle.formal_sums.specs.FormalSums.{Each, FormalSum, Key}
use Rattle.bases.specs.Leads.{IsMonicLead, head_key, leads}
use Rattle.bases.specs.Settings.{IsLawful, Setting}
use Rattle.monomial_orders.specs.Kept.{IsWeighed, Monomial, monomials}
use Rattle.term_lists.specs.Rings.{ring_comparison, setting, variables}
use Rattle.term_lists.specs.Vectors.{AreVectorsOver, IsTerm, IsVectorOver, sum_of, sums_of}
use Rattle.term_lists.specs.declared.key.Key.{Key as CodeKey}
use Rattle.term_lists.specs.declared.ring.Ring.{Ring}
use Rattle.groebner_iface.specs.Runs.{IsReducedBasisOf}
use Rattle.change_laws.proofs.Pushing.{at_new, at_old}
use Rattle.change_laws.specs.Standard.{lead_monomials}
use Rattle.order_change.proofs.Items.{length_monomials, monomials_push}

monic_some : {n : ℕ} (S : Setting n) (v : List (CodeKey × ℕ)) (k : Key n) → 1 < S.modulus → IsMonicLead S (sum_of n v) k → 0 < length v
monic_some S [] k big h = absurd (IsCongruent_nonzero S.modulus 1 (omega arith) big (IsCongruent_sym h.one))
monic_some S (t ∷ v) k big h = omega arith

pub sums_at : (n : ℕ) (basis : List (List (CodeKey × ℕ))) (i : ℕ) → get_or (sums_of n basis) i [] ≡ sum_of n (get_or basis i [])
sums_at n [] i = refl
sums_at n (v ∷ basis) zero = refl
sums_at n (v ∷ basis) (suc i) = sums_at n basis i

pub length_sums : (n : ℕ) (basis : List (List (CodeKey × ℕ))) → length (sums_of n basis) ≡ length basis
length_sums n [] = refl
length_sums n (v ∷ basis) = ap suc (length_sums n basis)

-- no vector of a reduced basis is zero
pub basis_some :
    (ring : Ring) (basis : List (List (CodeKey × ℕ))) → IsLawful (setting ring (variables ring) (ring_comparison ring (variables ring)) 1)
    → IsReducedBasisOf ring 1 basis basis → (i : ℕ) → i < length basis → 0 < length (get_or basis i [])
basis_some ring basis lawful h i lt =
    let n = variables ring in
    let S = setting ring n (ring_comparison ring n) 1 in
    monic_some S (get_or basis i []) (leads (sums_of n basis) i) lawful.domain.above_one
    (subst (λ v. IsMonicLead S v (leads (sums_of n basis) i)) (sums_at n basis i) (h.basis.reduced.monic i (omega (arith, length_sums n basis, lt))))

vector_at : (ring : Ring) (compare : (n : ℕ) → Key n → Key n → Ordering) (basis : List (List (CodeKey × ℕ))) (i : ℕ) → AreVectorsOver ring compare basis → i < length basis → IsVectorOver ring compare (get_or basis i [])
vector_at ring compare [] i h lt = absurd (omega (arith, lt))
vector_at ring compare (v ∷ basis) zero h lt = h.0
vector_at ring compare (v ∷ basis) (suc i) h lt = vector_at ring compare basis i h.1 (omega (arith, lt))

first_weighed : (n : ℕ) (ws : List ℕ) (p : ℕ) (v : List (CodeKey × ℕ)) (t : CodeKey × ℕ) → Each (IsTerm n ws p) v → 0 < length v → t ≡ get_or v 0 t → IsWeighed n ws t.0.monomial
first_weighed n ws p [] t h lt e = absurd (omega (arith, lt))
first_weighed n ws p (u ∷ v) t h lt e = subst (λ x. IsWeighed n ws x.0.monomial) (sym e) h.0.weighed

first_lead : (n : ℕ) (v : List (CodeKey × ℕ)) (t : CodeKey × ℕ) → 0 < length v → t ≡ get_or v 0 t → exponents_of n t.0.monomial.exponents ≡ (head_key (sum_of n v)).1
first_lead n [] t lt e = absurd (omega (arith, lt))
first_lead n (u ∷ v) t lt e = ap (λ x. exponents_of n x.0.monomial.exponents) e

-- the monomial of a lead
pub lead_weighed :
    (ring : Ring) (basis : List (List (CodeKey × ℕ))) (i : ℕ) (v : List (CodeKey × ℕ)) (t : CodeKey × ℕ)
    → IsReducedBasisOf ring 1 basis basis → i < length basis → v ≡ get_or basis i [] → 0 < length v → t ≡ get_or v 0 t
    → IsWeighed (variables ring) ring.weights t.0.monomial
lead_weighed ring basis i v t h lt e some is =
    first_weighed (variables ring) ring.weights ring.modulus.value v t (subst (λ z. Each (IsTerm (variables ring) ring.weights ring.modulus.value) z) (sym e) (vector_at ring (ring_comparison ring) basis i h.vectors lt).each) some is

pub lead_is :
    (n : ℕ) (basis : List (List (CodeKey × ℕ))) (i : ℕ) (v : List (CodeKey × ℕ)) (t : CodeKey × ℕ)
    → v ≡ get_or basis i [] → 0 < length v → t ≡ get_or v 0 t
    → exponents_of n t.0.monomial.exponents ≡ (head_key (sum_of n (get_or basis i []))).1
lead_is n basis i v t e some is = first_lead n v t some is ∙ ap (λ z. (head_key (sum_of n z)).1) e

-- one more lead
pub leads_push :
    (n : ℕ) (basis : List (List (CodeKey × ℕ))) (xs : List Monomial) (y : Monomial) (i : ℕ) → length xs ≡ i
    → ((k : ℕ) → k < i → get_or (monomials n xs) k (unit n) ≡ (head_key (sum_of n (get_or basis k []))).1)
    → exponents_of n y.exponents ≡ (head_key (sum_of n (get_or basis i []))).1
    → (k : ℕ) → k < i + 1 → get_or (monomials n (xs ++ y ∷ [])) k (unit n) ≡ (head_key (sum_of n (get_or basis k []))).1
leads_push n basis xs y i long old new k lt = ap (λ z. get_or z k (unit n)) (monomials_push n xs y) ∙ go (cases_lt k i)
  where
    go : (k < i) ⊎ (i ≤ k) → get_or (monomials n xs ++ exponents_of n y.exponents ∷ []) k (unit n) ≡ (head_key (sum_of n (get_or basis k []))).1
    go (inl l) = at_old (monomials n xs) (exponents_of n y.exponents) k (omega (arith, length_monomials n xs, long, l)) ∙ old k l
    go (inr g) =
        let same : k ≡ i = omega (arith, lt, g) in
        let last : k ≡ length (monomials n xs) = omega (arith, same, long, length_monomials n xs) in
        ap (λ z. get_or (monomials n xs ++ exponents_of n y.exponents ∷ []) z (unit n)) last
        ∙ at_new (monomials n xs) (exponents_of n y.exponents) ∙ new ∙ ap (λ z. (head_key (sum_of n (get_or basis z []))).1) (sym same)

same_items : {n : ℕ} (xs ys : List (Exponents n)) → length xs ≡ length ys → ((k : ℕ) → k < length xs → get_or xs k (unit n) ≡ get_or ys k (unit n)) → xs ≡ ys
same_items [] [] e h = refl
same_items [] (y ∷ ys) e h = absurd (omega (arith, e))
same_items (x ∷ xs) [] e h = absurd (omega (arith, e))
same_items {n} (x ∷ xs) (y ∷ ys) e h = ap₂ ◌∷◌ (h 0 (omega arith)) (same_items xs ys (omega (arith, e)) (λ k lt. h (suc k) (omega (arith, lt))))

pub length_leads : {n : ℕ} (G : List (FormalSum n)) → length (lead_monomials G) ≡ length G
length_leads [] = refl
length_leads (g ∷ G) = ap suc (length_leads G)

-- all leads
pub leads_all :
    (n : ℕ) (basis : List (List (CodeKey × ℕ))) (xs : List Monomial) (i : ℕ) → length xs ≡ i → i ≡ length basis
    → ((k : ℕ) → k < i → get_or (monomials n xs) k (unit n) ≡ (head_key (sum_of n (get_or basis k []))).1)
    → monomials n xs ≡ lead_monomials (sums_of n basis)
leads_all n basis xs i long all h =
    same_items (monomials n xs) (lead_monomials (sums_of n basis)) (omega (arith, length_monomials n xs, long, all, length_leads (sums_of n basis), length_sums n basis))
    (λ k lt. let ki : k < i = omega (arith, length_monomials n xs, long, lt) in
    h k ki ∙ sym (get_or-map (λ g. (head_key g).1) (sums_of n basis) k [] (unit n) (omega (arith, length_sums n basis, ki, all)) ∙ ap (λ g. (head_key g).1) (sums_at n basis k)))

-- what holds of each item
pub each_item : (P : Monomial → Type 0) (xs : List Monomial) → ((k : ℕ) (m : Monomial) → k < length xs → get_or xs k m ≡ m → P m) → Each P xs
each_item P [] h = tt
each_item P (x ∷ xs) h = (h 0 x (omega arith) refl, each_item P xs (λ k m lt e. h (suc k) m (omega (arith, lt)) e))
