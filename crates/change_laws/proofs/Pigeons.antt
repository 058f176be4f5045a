-- Where each of a things has its own among b, a is at most b
use Rattle.std.proofs.Common.{arith, inl, inr, refl, subst, suc, sym, zero, ℕ, ◌<◌, ◌∙◌, ◌≡◌, ◌≤◌, ◌⊎◌}
use Rattle.std.proofs.lemmas.Bool.{cases_eq}

-- R after v and b have changed places
data Swapped (R : ℕ → ℕ → Type 0) (v b : ℕ) (i j : ℕ) : Type 0 where
  at_v : j ≡ v → R i b → Swapped R v b i j
  other : (j ≡ v → ⊥) → R i j → Swapped R v b i j

below_other : (x b : ℕ) → x < suc b → (x ≡ b → ⊥) → x < b
below_other x b l ne = elim (cases_eq x b) [
  | inl e ↦ absurd (ne e)
  | inr d ↦ omega arith
]

-- the last of the a + 1 has v; whoever of the others has b takes v
place :
    (a b : ℕ) (R : ℕ → ℕ → Type 0)
    → ((i k j : ℕ) → i < k → k < suc a → R i j → R k j → ⊥)
    → (v : ℕ) → v < suc b → R a v
    → (i : ℕ) → i < a → (t : (j : ℕ) × (j < suc b) × R i j) → (t.0 ≡ b) ⊎ (t.0 ≡ b → ⊥)
    → (j : ℕ) × (j < b) × Swapped R v b i j
place a b R apart v vb r i lt (j, h, s) (inl e) =
    (v, below_other v b vb (λ d. apart i a b lt (omega arith) (subst (R i) e s) (subst (R a) d r)), at_v refl (subst (R i) e s))
place a b R apart v vb r i lt (j, h, s) (inr ne) =
    (j, below_other j b h ne, other (λ d. apart i a j lt (omega arith) s (subst (R a) (sym d) r)) s)

never :
    (a b v : ℕ) (R : ℕ → ℕ → Type 0)
    → ((i k j : ℕ) → i < k → k < suc a → R i j → R k j → ⊥)
    → (i k j : ℕ) → i < k → k < suc a → Swapped R v b i j → Swapped R v b k j → ⊥
never a b v R apart i k j ik ka (at_v e r) (at_v d s) = apart i k b ik ka r s
never a b v R apart i k j ik ka (at_v e r) (other d s) = d e
never a b v R apart i k j ik ka (other e r) (at_v d s) = e d
never a b v R apart i k j ik ka (other e r) (other d s) = apart i k j ik ka r s

pub pigeons :
    (a b : ℕ) (R : ℕ → ℕ → Type 0)
    → ((i : ℕ) → i < a → (j : ℕ) × (j < b) × R i j)
    → ((i k j : ℕ) → i < k → k < a → R i j → R k j → ⊥)
    → a ≤ b
pigeons zero b R total apart = omega arith
pigeons (suc a) zero R total apart = absurd (let h = (total a (omega arith)).1 in omega arith)
pigeons (suc a) (suc b) R total apart =
    let t = total a (omega arith) in
    let le : a ≤ b = pigeons a b (Swapped R t.0 b) (λ i lt. let s = total i (omega arith) in place a b R apart t.0 t.1 t.2 i lt s (cases_eq s.0 b))
    (λ i k j ik ka x y. never a b t.0 R apart i k j ik (omega arith) x y) in
    omega arith
