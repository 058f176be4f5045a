-- Substitution of polynomials for the variables (IVA chapter 3, section 3)
use Rattle.std.specs.Prelude.{List, [], drop, flat_map, get_or, ℕ}
use Rattle.monomials.specs.Exponents.{Exponents, cons, nil, unit}
use Rattle.formal_sums.specs.FormalSums.{FormalSum, scale}
use Rattle.operation_laws.specs.Operations.{basis_vector, power_times}

-- v times the image of a monomial: the product of the polynomials, each as often as the exponent of its variable says
abbrev pub image_times : {n m : ℕ} → List (FormalSum m) → Exponents n → FormalSum m → FormalSum m
image_times F nil v = v
image_times F (cons a e) v = power_times (get_or F 0 []) a (image_times (drop 1 F) e v)

-- v with each variable replaced by its polynomial of F, the first by the first
abbrev pub substituted : {n m : ℕ} → List (FormalSum m) → FormalSum n → FormalSum m
substituted {m} F v = flat_map (λ t. scale t.1 (unit m) (image_times F t.0.1 (basis_vector t.0.0))) v
