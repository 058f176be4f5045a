-- Products of the terms of one polynomial with another
use Rattle.std.specs.Prelude.{List, [], ◌∷◌, ℕ, ◌≡◌}
use Rattle.term_lists.specs.declared.key.Key.{Key as CodeKey}
use Rattle.term_lists.specs.declared.stop.VectStop.{VectStop}
use Rattle.term_lists.specs.declared.stop.VectStop.TheVariants.{Memory, Degree}
use Rattle.module_vectors.specs.declared.product.Product.{Product}

-- item by item, xs are the products of the terms and v
abbrev pub AreTermMultiples : List (CodeKey × ℕ) → List (CodeKey × ℕ) → List Product → Type 0
AreTermMultiples v [] [] = Unit {0}
AreTermMultiples v [] (x ∷ xs) = ⊥
AreTermMultiples v (t ∷ terms) [] = ⊥
AreTermMultiples v (t ∷ terms) (x ∷ xs) =
    (x.residue ≡ t.1) × (x.monomial.now ≡ t.0.monomial) × (x.vector.now ≡ v) × AreTermMultiples v terms xs

-- the stop with its two monomials exchanged
abbrev pub exchanged : VectStop → VectStop
exchanged Memory = Memory
exchanged (Degree s t) = Degree t s
