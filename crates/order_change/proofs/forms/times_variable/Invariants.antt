use Rattle.std.proofs.Common.{get_or, length, ℕ, List, [], ◌*◌, ◌<◌, ◌≡◌}
use Rattle.std.specs.Prelude.{slice_index}
use Rattle.residues.specs.Residues.{IsCongruent}
use Rattle.monomials.specs.Exponents.{Exponents}
use Rattle.formal_sums.specs.FormalSums.{FormalSum, scale}
use Rattle.change_laws.specs.Combinations.{expansion}
use Rattle.order_change.specs.Forms.{AreProductsOf, AreResidues, IsRowForm, before}
use Rattle.order_change.proofs.forms.times_variable.Given as goal

abbrev pub invariant-loop-k : goal.invariant-loop-k
invariant-loop-k l = record {
  residues : AreResidues (l.modulus.value * l.modulus.value) (length l.form) l.product;
  zeros : (t : ℕ) → ((s : ℕ) → 0 < slice_index l.form s → slice_index (get_or l.rows s []) t ≡ 0) → IsCongruent l.modulus.value (slice_index l.product t) 0;
  product : (n : ℕ) (F : List (FormalSum n)) (B : List (Exponents n)) (x : Exponents n) → length B ≡ length l.form
      → AreProductsOf l.modulus.value F B x l.rows l.form
      → IsRowForm l.modulus.value F B (scale 1 x (expansion B (before l.k (slice_index l.form)))) l.product;
}
