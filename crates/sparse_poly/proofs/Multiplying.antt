-- The products of a polynomial's terms with another, and their sum
use Rattle.std.proofs.Common.{List, [], ap, ap₂, arith, refl, suc, subst, sym, ℕ, ◌++◌, ◌+◌, ◌<◌, ◌∙◌, ◌∷◌, ◌≡◌, ◌≤◌}
use Rattle.monomials.specs.Exponents.{exponents_of}
use Rattle.formal_sums.specs.FormalSums.{Each, product, scale}
use Rattle.monomial_orders.specs.Kept.{IsWeighed}
use Rattle.term_lists.specs.Stops.{Fits, HasMonomial}
use Rattle.term_lists.specs.Vectors.{IsTerm, sum_of}
use Rattle.term_lists.specs.declared.key.Key.{Key as CodeKey}
use Rattle.term_lists.specs.declared.stop.VectStop.{VectStop}
use Rattle.term_lists.specs.declared.stop.VectStop.TheVariants.{Degree, Memory}
use Rattle.module_vectors.specs.Products.{product_of, sum_of_product_list}
use Rattle.module_vectors.specs.ProductStops.{ProductsFit, ProductsStop}
use Rattle.module_vectors.specs.declared.product.Product.{Product}
use Rattle.sparse_poly.proofs.Terms.{each_at, each_of}
use Rattle.sparse_poly.specs.Multiples.{AreTermMultiples, exchanged}
use Rattle.sparse_poly.specs.Stops.{ProductFits, PolynomialProductStops}

pub AreMultiples_push :
    (v terms : List (CodeKey × ℕ)) (xs : List Product) (t : CodeKey × ℕ) (x : Product)
    → x.residue ≡ t.1 → x.monomial.now ≡ t.0.monomial → x.vector.now ≡ v → AreTermMultiples v terms xs
    → AreTermMultiples v (terms ++ t ∷ []) (xs ++ x ∷ [])
AreMultiples_push v [] [] t x a b c h = (a, b, c, tt)
AreMultiples_push v [] (y ∷ xs) t x a b c h = absurd h
AreMultiples_push v (s ∷ terms) [] t x a b c h = absurd h
AreMultiples_push v (s ∷ terms) (y ∷ xs) t x a b c h = (h.0, h.1, h.2, AreMultiples_push v terms xs t x a b c h.3)

-- their factors are residues and monomials
pub multiples_factors :
    (n : ℕ) (ws : List ℕ) (p : ℕ) (v terms : List (CodeKey × ℕ)) (xs : List Product) → AreTermMultiples v terms xs
    → Each (IsTerm n ws p) terms → Each (λ x. (x.residue < p) × IsWeighed n ws x.monomial.now) xs
multiples_factors n ws p v [] [] h e = tt
multiples_factors n ws p v [] (x ∷ xs) h e = absurd h
multiples_factors n ws p v (t ∷ terms) [] h e = absurd h
multiples_factors n ws p v (t ∷ terms) (x ∷ xs) h e =
    ((subst (λ c. c < p) (sym h.0) e.0.reduced, subst (IsWeighed n ws) (sym h.1) e.0.weighed), multiples_factors n ws p v terms xs h.3 e.1)

-- their vectors are v
pub multiples_vectors :
    (P : List (CodeKey × ℕ) → Type 0) (v terms : List (CodeKey × ℕ)) (xs : List Product) → AreTermMultiples v terms xs
    → P v → Each (λ x. P x.vector.now) xs
multiples_vectors P v [] [] h e = tt
multiples_vectors P v [] (x ∷ xs) h e = absurd h
multiples_vectors P v (t ∷ terms) [] h e = absurd h
multiples_vectors P v (t ∷ terms) (x ∷ xs) h e = (subst P (sym h.2) e, multiples_vectors P v terms xs h.3 e)

-- their sum is the product
pub multiples_sum :
    (n : ℕ) (v terms : List (CodeKey × ℕ)) (xs : List Product) → AreTermMultiples v terms xs
    → sum_of_product_list n xs ≡ product (sum_of n terms) (sum_of n v)
multiples_sum n v [] [] h = refl
multiples_sum n v [] (x ∷ xs) h = absurd h
multiples_sum n v (t ∷ terms) [] h = absurd h
multiples_sum n v (t ∷ terms) (x ∷ xs) h = ap₂ ◌++◌ one (multiples_sum n v terms xs h.3)
  where
    one : product_of n x ≡ scale t.1 (exponents_of n t.0.monomial.exponents) (sum_of n v)
    one =
        ap (λ c. scale c (exponents_of n x.monomial.now.exponents) (sum_of n x.vector.now)) h.0
        ∙ ap₂ (λ m w. scale t.1 (exponents_of n m.exponents) (sum_of n w)) h.1 h.2

pub multiples_fit :
    (n : ℕ) (ws : List ℕ) (p : ℕ) (v terms : List (CodeKey × ℕ)) (xs : List Product) → AreTermMultiples v terms xs
    → Each (IsTerm n ws p) terms → ProductsFit xs → ProductFits terms v
multiples_fit n ws p v [] [] h e f = tt
multiples_fit n ws p v [] (x ∷ xs) h e f = absurd h
multiples_fit n ws p v (t ∷ terms) [] h e f = absurd h
multiples_fit n ws p v (t ∷ terms) (x ∷ xs) h e f =
    (subst (λ w. Fits t.0.monomial w) h.2 (subst (λ m. Fits m x.vector.now) h.1 (f.0 (subst (λ c. 0 < c) (sym h.0) e.0.nonzero))), multiples_fit n ws p v terms xs h.3 e.1 f.1)

-- each product has a term's monomial and the vector v
pub multiples_monomial :
    (v terms : List (CodeKey × ℕ)) (xs : List Product) → AreTermMultiples v terms xs
    → Each (λ x. HasMonomial terms x.monomial.now × (x.vector.now ≡ v)) xs
multiples_monomial v [] [] h = tt
multiples_monomial v [] (x ∷ xs) h = absurd h
multiples_monomial v (t ∷ terms) [] h = absurd h
multiples_monomial v (t ∷ terms) (x ∷ xs) h = (((t, (0, omega arith, refl), sym h.1), h.2), later xs (multiples_monomial v terms xs h.3))
  where
    later :
        (xs : List Product) → Each (λ x. HasMonomial terms x.monomial.now × (x.vector.now ≡ v)) xs
        → Each (λ x. HasMonomial (t ∷ terms) x.monomial.now × (x.vector.now ≡ v)) xs
    later [] h = tt
    later (x ∷ xs) h =
        let has = h.0.0 in
        (((has.0, (suc has.1.0, (let lt = has.1.1 in omega arith), has.1.2), has.2), h.0.1), later xs h.1)

pub multiples_stop :
    (v terms : List (CodeKey × ℕ)) (xs : List Product) (stop : VectStop) → AreTermMultiples v terms xs
    → ProductsStop xs stop → PolynomialProductStops terms v stop
multiples_stop v terms xs Memory h s = tt
multiples_stop v terms xs (Degree a b) h s =
    let x = s.0 in
    let has = each_at (λ x. HasMonomial terms x.monomial.now × (x.vector.now ≡ v)) xs x (multiples_monomial v terms xs h) s.1 in
    (subst (HasMonomial terms) (sym s.3) has.0, subst (λ w. HasMonomial w b) has.1 s.4, s.5)

-- the same with the factors exchanged
pub ProductFits_exchanged : (a b : List (CodeKey × ℕ)) → ProductFits a b → ProductFits b a
ProductFits_exchanged a b h =
    each_of (λ u. Fits u.0.monomial a) b (λ u d. each_of (λ t. u.0.monomial.degree + t.0.monomial.degree ≤ 65535) a (λ t c. (let le : t.0.monomial.degree + u.0.monomial.degree ≤ 65535 = each_at (λ w. t.0.monomial.degree + w.0.monomial.degree ≤ 65535) b u (each_at (λ w. Fits w.0.monomial b) a t h c) d in omega arith)))

pub PolynomialProductStops_exchanged :
    (a b : List (CodeKey × ℕ)) (stop : VectStop) → PolynomialProductStops a b stop → PolynomialProductStops b a (exchanged stop)
PolynomialProductStops_exchanged a b Memory h = tt
PolynomialProductStops_exchanged a b (Degree s t) h = (h.1, h.0, (let lt : 65535 < s.degree + t.degree = h.2 in omega arith))
