-- The monomials of vectors are monomials of their ring
use Rattle.std.proofs.Common.{List, [], ap, arith, get_or, subst, suc, zero, ℕ, ◌<◌, ◌∙◌, ◌∷◌}
use Rattle.std.specs.declared.cmp.Ordering.{Ordering}
use Rattle.formal_sums.specs.FormalSums.{Each, Key}
use Rattle.monomial_orders.specs.Kept.{IsWeighed, Monomial}
use Rattle.term_lists.specs.Stops.{HasMonomial}
use Rattle.term_lists.specs.Vectors.{IsTerm, IsVector}
use Rattle.term_lists.specs.declared.key.Key.{Key as CodeKey}

pub monomial_weighed : (n : ℕ) (ws : List ℕ) (p : ℕ) (v : List (CodeKey × ℕ)) (m : Monomial) → Each (IsTerm n ws p) v → HasMonomial v m → IsWeighed n ws m
monomial_weighed n ws p [] m h (t, (i, lt, e), is) = absurd (let z : i < 0 = lt in omega arith)
monomial_weighed n ws p (w ∷ v) m h (t, (zero, lt, e), is) = subst (IsWeighed n ws) (ap (λ z. z.0.monomial) e ∙ is) h.0.weighed
monomial_weighed n ws p (w ∷ v) m h (t, (suc i, lt, e), is) = monomial_weighed n ws p v m h.1 (t, (i, omega arith, e), is)

-- those of a vector of a list too
pub monomial_at :
    (n : ℕ) (ws : List ℕ) (p : ℕ) (compare : Key n → Key n → Ordering) (list : List (List (CodeKey × ℕ))) (i : ℕ) (m : Monomial)
    → Each (IsVector n ws p compare) list → HasMonomial (get_or list i []) m → IsWeighed n ws m
monomial_at n ws p compare [] i m h g = monomial_weighed n ws p [] m tt g
monomial_at n ws p compare (v ∷ list) zero m h g = monomial_weighed n ws p v m h.0.each g
monomial_at n ws p compare (v ∷ list) (suc i) m h g = monomial_at n ws p compare list i m h.1 g
