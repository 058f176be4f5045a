-- Multiples of a polynomial, and the rank of members
use Rattle.std.proofs.Common.{List, [], ap, ap₂, arith, get_or, length, refl, suc, sym, take, zero, ℕ, ◌++◌, ◌+◌, ◌<◌, ◌∙◌, ◌∷◌, ◌≡◌}
use Rattle.residues.proofs.Congruences.{IsCongruent_sym, IsCongruent_trans}
use Rattle.monomials.specs.Exponents.{exponents_of}
use Rattle.formal_sums.proofs.OfRank.{IsOfRank_of}
use Rattle.formal_sums.specs.Combinations.{IsMember, combination}
use Rattle.formal_sums.specs.FormalSums.{Each, FormalSum, HasRank, IsOfRank, product}
use Rattle.syzygy_laws.proofs.Marking.{combination_rank}
use Rattle.operation_laws.proofs.Linear.{Each_at}
use Rattle.operation_laws.proofs.Saturate.{single_vector}
use Rattle.operation_laws.specs.Operations.{basis_vector, listed, multiples_of}
use Rattle.term_lists.specs.Vectors.{AreTermsOver, sum_of}
use Rattle.term_lists.specs.declared.key.Key.{Key as CodeKey}
use Rattle.term_lists.specs.declared.ring.Ring.{Ring}
use Rattle.syzygy_engine.proofs.Standing.{Terms}
use Rattle.ideal_ops.specs.Components.{positioned_at}

-- ---- terms
pub sum_placed : (n j : ℕ) (v : Terms) → sum_of n (positioned_at j v) ≡ product (sum_of n v) (basis_vector j)
sum_placed n j [] = refl
sum_placed n j (t ∷ v) = ap₂ ◌++◌ (sym (single_vector ((j, exponents_of n t.0.monomial.exponents), t.1))) (sum_placed n j v)

-- one more term
pub placed_next :
    (j : ℕ) (items : Terms) (i : ℕ) (x : CodeKey × ℕ) → i < length items → x ≡ get_or items i x
    → positioned_at j (take (i + 1) items) ≡ positioned_at j (take i items) ++ (record { position = j; monomial = x.0.monomial }, x.1) ∷ []
placed_next j items i x lt e =
    let s : i + 1 ≡ suc i = omega arith in
    ap (λ z. positioned_at j (take z items)) s ∙ go items i lt e
  where
    go :
        (items : Terms) (i : ℕ) → i < length items → x ≡ get_or items i x
        → positioned_at j (take (suc i) items) ≡ positioned_at j (take i items) ++ (record { position = j; monomial = x.0.monomial }, x.1) ∷ []
    go [] i lt e = absurd (omega (arith, lt))
    go (y ∷ ys) zero lt e = ap (λ z. (record { position = j; monomial = z.0.monomial }, z.1) ∷ []) (sym e)
    go (y ∷ ys) (suc i) lt e = ap (λ z. (record { position = j; monomial = y.0.monomial }, y.1) ∷ z) (go ys i (omega (arith, lt)) e)

pub placed_over : (ring : Ring) (j : ℕ) (v : Terms) → AreTermsOver ring v → AreTermsOver ring (positioned_at j v)
placed_over ring j [] h = tt
placed_over ring j (t ∷ v) h = (h.0, placed_over ring j v h.1)

pub listed_next : {X : Type 0} (i m : ℕ) (g : ℕ → X) → listed i (m + 1) g ≡ listed i m g ++ g (i + m) ∷ []
listed_next {X} i m g = let s : m + 1 ≡ suc m = omega arith in ap (λ z. listed i z g) s ∙ go i m
  where
    go : (i m : ℕ) → listed i (suc m) g ≡ listed i m g ++ g (i + m) ∷ []
    go i zero = let e : i ≡ i + 0 = omega arith in ap (λ z. g z ∷ []) e
    go i (suc m) = let e : suc i + m ≡ i + suc m = omega arith in ap (λ z. g i ∷ z) (go (suc i) m ∙ ap (λ z. listed (suc i) m g ++ g z ∷ []) e)

pub multiples_next : {n : ℕ} (m : ℕ) (f : FormalSum n) → multiples_of (m + 1) f ≡ multiples_of m f ++ product f (basis_vector m) ∷ []
multiples_next m f = let e : 0 + m ≡ m = omega arith in
    listed_next 0 m (λ j. product f (basis_vector j)) ∙ ap (λ j. multiples_of m f ++ product f (basis_vector j) ∷ []) e

-- ---- members
-- members of the module of vectors of a rank have the rank
pub member_rank : {n : ℕ} (p m : ℕ) (F : List (FormalSum n)) → Each (HasRank m) F → (v : FormalSum n) → IsMember p F v → IsOfRank p m v
member_rank p m F h v a = record {
  past = λ k le. IsCongruent_trans (IsCongruent_sym (a.sums.by_key k))
      ((IsOfRank_of p m (combination F a.cofactors) (combination_rank m F a.cofactors a.positions (Each_at (HasRank m) [] F h))).past k le);
}
