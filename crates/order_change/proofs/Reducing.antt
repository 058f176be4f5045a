-- Numbers and their residues
use Rattle.std.proofs.Common.{Err, IfOk, List, Ok, Result, [], arith, inl, inr, length, mod-lt, refl, subst, suc, sym, zero, ℕ, ◌%◌, ◌*◌, ◌<◌, ◌∙◌, ◌∷◌, ◌≡◌, ◌≤◌, ◌⊎◌}
use Rattle.std.proofs.lemmas.Bool.{cases_lt}
use Rattle.std.specs.Prelude.{slice_index}
use Rattle.residues.proofs.Congruences.{IsCongruent_equal, IsCongruent_mod, IsCongruent_of, IsCongruent_sym, IsCongruent_trans}
use Rattle.residues.specs.Residues.{IsCongruent}
use Rattle.monomials.proofs.Weighing.{mul_least}
use Rattle.monomials.specs.Exponents.{Exponents}
use Rattle.formal_sums.specs.FormalSums.{IsSame}
use Rattle.change_laws.proofs.Expansions.{expansion_same}
use Rattle.change_laws.specs.Combinations.{expansion}
use Rattle.order_change.specs.Forms.{AreResidues}

pub if_ok2 : {X E : Type 0} (P Q R : X → Type 0) (r : Result X E) → ((x : X) → P x → Q x → R x) → IfOk r P → IfOk r Q → IfOk r R
if_ok2 P Q R (Ok x) f p q = f x p q
if_ok2 P Q R (Err e) f p q = tt

past : (row : List ℕ) (t : ℕ) → length row ≤ t → slice_index row t ≡ 0
past [] t le = refl
past (x ∷ row) zero le = absurd (omega (arith, le))
past (x ∷ row) (suc t) le = past row t (omega (arith, le))

-- the residues of the numbers
pub record AreReduced (p : ℕ) (numbers out : List ℕ) : Type 0 where
  pub long : length out ≡ length numbers
  pub same : (k : ℕ) → k < length numbers → slice_index out k ≡ slice_index numbers k % p

-- residues are numbers
pub residues_wider : (p d : ℕ) (row : List ℕ) → 0 < p → AreResidues p d row → AreResidues (p * p) d row
residues_wider p d row pos h = record { long = h.long; small = λ k. let s = h.small k in omega (arith, s, mul_least p p pos) }

pub square_positive : (p : ℕ) → 0 < p → 0 < p * p
square_positive p pos = omega (arith, pos, mul_least p p pos)

-- numbers that were residues
pub copied : (numbers row : List ℕ) → length numbers ≡ length row → ((k : ℕ) → k < length row → slice_index numbers k ≡ slice_index row k) → (k : ℕ) → slice_index numbers k ≡ slice_index row k
copied numbers row long same k = go (cases_lt k (length row))
  where
    go : (k < length row) ⊎ (length row ≤ k) → slice_index numbers k ≡ slice_index row k
    go (inl l) = same k l
    go (inr g) = past numbers k (omega (arith, g, long)) ∙ sym (past row k g)

pub copied_residues : (p : ℕ) (numbers row : List ℕ) → 0 < p → ((k : ℕ) → slice_index numbers k ≡ slice_index row k) → ((k : ℕ) → slice_index row k < p) → AreResidues (p * p) (length numbers) numbers
copied_residues p numbers row pos same small = record { long = refl; small = λ k. subst (λ z. z < p * p) (sym (same k)) (let s = small k in omega (arith, s, mul_least p p pos)) }

module _ (p : ℕ) (pos : 0 < p) (numbers out : List ℕ) (h : AreReduced p numbers out) where
  pub reduced_congruent : (k : ℕ) → IsCongruent p (slice_index out k) (slice_index numbers k)
  reduced_congruent k = go (cases_lt k (length numbers))
    where
      go : (k < length numbers) ⊎ (length numbers ≤ k) → IsCongruent p (slice_index out k) (slice_index numbers k)
      go (inl l) = IsCongruent_trans (IsCongruent_of p _ _ (h.same k l)) (IsCongruent_mod p (slice_index numbers k))
      go (inr g) = IsCongruent_of p _ _ (past out k (omega (arith, g, h.long)) ∙ sym (past numbers k g))

  pub reduced_residues : AreResidues p (length numbers) out
  reduced_residues = record { long = h.long; small = λ k. go k (cases_lt k (length numbers)) }
    where
      go : (k : ℕ) → (k < length numbers) ⊎ (length numbers ≤ k) → slice_index out k < p
      go k (inl l) = subst (λ z. z < p) (sym (h.same k l)) (mod-lt (slice_index numbers k) pos)
      go k (inr g) = let z = past out k (omega (arith, g, h.long)) in omega (arith, z, pos)

  pub reduced_at : (k c : ℕ) → c < p → IsCongruent p (slice_index numbers k) c → slice_index out k ≡ c
  reduced_at k c small e = IsCongruent_equal p (slice_index out k) c (reduced_residues.small k) small (IsCongruent_trans (reduced_congruent k) e)

  pub reduced_expansion : {n : ℕ} (B : List (Exponents n)) → IsSame p (expansion B (slice_index numbers)) (expansion B (slice_index out))
  reduced_expansion B = expansion_same B (slice_index numbers) (slice_index out) (λ k lt. IsCongruent_sym (reduced_congruent k))
