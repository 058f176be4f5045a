-- Whether two keys make the pair of a monomial
use Rattle.std.specs.Prelude.{Bool, IsTrue, ◌↔◌}
use Rattle.std.proofs.Common.{List, length, subst, sym, ℕ, ◌∙◌, ◌≡◌}
use Rattle.monomials.specs.Exponents.{exponents_of, lcm, quotient}
use Rattle.monomial_orders.specs.Kept.{IsWeighed, Monomial}
use Rattle.term_lists.specs.declared.key.Key.{Key as CodeKey}
use Rattle.schreyer_resolution.specs.Columns.{IsWhetherPair}

-- at one position they do where the monomial of their pair is the same
pub whether_pair :
    (n : ℕ) (ws : List ℕ) (a b : CodeKey) (m x : Monomial) (answer : Bool) → a.position ≡ b.position → IsWeighed n ws x → IsWeighed n ws m
    → exponents_of n x.exponents ≡ quotient (lcm (exponents_of n a.monomial.exponents) (exponents_of n b.monomial.exponents)) (exponents_of n a.monomial.exponents)
    → ((vs : List ℕ) → IsWeighed (length x.exponents) vs x → IsWeighed (length x.exponents) vs m → (IsTrue answer ↔ (exponents_of (length x.exponents) x.exponents ≡ exponents_of (length x.exponents) m.exponents)))
    → IsWhetherPair n a b m answer
whether_pair n ws a b m x answer at wx wm is same = record {
  position = λ t. at;
  is = λ t. sym (both.0 t) ∙ is;
  other = λ no p e. no (both.1 (is ∙ sym e));
}
  where
    both : IsTrue answer ↔ (exponents_of n x.exponents ≡ exponents_of n m.exponents)
    both = subst (λ (k : ℕ). (vs : List ℕ) → IsWeighed k vs x → IsWeighed k vs m → (IsTrue answer ↔ (exponents_of k x.exponents ≡ exponents_of k m.exponents))) wx.variables same ws wx wm
