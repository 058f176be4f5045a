-- When products of terms and vectors cannot be made
use Rattle.std.specs.Prelude.{List, ⊤, get_or, [], ℕ, ◌<◌, ◌≡◌, Contains}
use Rattle.formal_sums.specs.FormalSums.{Each}
use Rattle.term_lists.specs.Stops.{Fits, HasMonomial, IsTooGreat}
use Rattle.term_lists.specs.declared.key.Key.{Key as CodeKey}
use Rattle.term_lists.specs.declared.stop.VectStop.{VectStop}
use Rattle.term_lists.specs.declared.stop.VectStop.TheVariants.{Memory, Degree}
use Rattle.module_vectors.specs.declared.product.Product.{Product}

-- Degree comes where a product of two factors has too great a degree, and carries the two
abbrev pub ProductsStop : List Product → VectStop → Type 0
ProductsStop xs Memory = ⊤
ProductsStop xs (Degree a b) = (x : Product) × Contains xs x × (0 < x.residue) × (a ≡ x.monomial.now) × HasMonomial x.vector.now b × IsTooGreat a b

-- each product of two factors fits
abbrev pub ProductsFit : List Product → Type 0
ProductsFit xs = Each (λ x. 0 < x.residue → Fits x.monomial.now x.vector.now) xs

-- Degree comes where a cofactor's term times a monomial of its member has too great a degree, and carries the two
abbrev pub CombinationStops : List (CodeKey × ℕ) → List (List (CodeKey × ℕ)) → VectStop → Type 0
CombinationStops cofactors list Memory = ⊤
CombinationStops cofactors list (Degree a b) =
    (t : CodeKey × ℕ) × Contains cofactors t × (a ≡ t.0.monomial) × HasMonomial (get_or list t.0.position []) b × IsTooGreat a b

-- each cofactor's term times its member fits
abbrev pub CombinationFits : List (CodeKey × ℕ) → List (List (CodeKey × ℕ)) → Type 0
CombinationFits cofactors list = Each (λ t. Fits t.0.monomial (get_or list t.0.position [])) cofactors
