-- An Ext module has one text
use Rattle.std.proofs.Common.{Bool, List, ap, ap₂, false, length, refl, subst, suc, sym, true, ℕ, ◌∙◌, ◌≡◌}
use Rattle.std.specs.Prelude.{◌↔◌}
use Rattle.formal_sums.specs.Combinations.{IsMember}
use Rattle.formal_sums.specs.FormalSums.{Each}
use Rattle.operation_laws.specs.Operations.{IsSyzygyModulo}
use Rattle.ext_laws.specs.Transposes.{IsInTransposedKernel, rank_at}
use Rattle.ext_modules.specs.Ext.{IsExt, columns_at, image_of}
use Rattle.ext_modules.specs.declared.presentation.Ext.{Ext}
use Rattle.syzygy_engine.specs.Answers.{IsBasisOfThose}
use Rattle.term_lists.specs.Rings.{variables}
use Rattle.term_lists.specs.Vectors.{sums_of}
use Rattle.term_lists.specs.declared.key.Key.{Key}
use Rattle.term_lists.specs.declared.ring.Ring.{Ring}
use Rattle.resolution_maps.specs.Inducing.{Columns}
use Rattle.session_lang.proofs.OneResolution.{started_once}
use Rattle.session_lang.proofs.OneWork.{basis_once}
use Rattle.session_values.specs.Extending.{IsExtText, ext_text}
use Rattle.session_values.specs.Names.{Value}
use Rattle.session_lang.proofs.OneResolution.{resolved_once}

-- marks of one fact are one
marks_same : {P : Type 0} (a b : Bool) → (a ≡ true) ↔ P → (b ≡ true) ↔ P → a ≡ b
marks_same true b g h = sym (h.1 (g.0 refl))
marks_same false true g h = g.1 (h.0 refl)
marks_same false false g h = refl

module _ (ring : Ring) (rank : ℕ) (maps : Columns) (step : ℕ) (a b : Ext) (g : IsExt ring rank maps step a) (h : IsExt ring rank maps step b) where
  kernels_same : a.kernel ≡ b.kernel
  kernels_same =
      basis_once ring (rank_at rank maps step) (IsInTransposedKernel ring.modulus.value (rank_at rank maps step) (columns_at ring maps step)) a.kernel b.kernel
      g.kernel h.kernel

  relations_same : a.relations ≡ b.relations
  relations_same =
      basis_once ring (length a.kernel) (IsSyzygyModulo ring.modulus.value (sums_of (variables ring) a.kernel) (image_of ring rank maps step)) a.relations
      b.relations g.relations
      (subst
      (λ Z. IsBasisOfThose ring (length Z) (IsSyzygyModulo ring.modulus.value (sums_of (variables ring) Z) (image_of ring rank maps step)) b.relations)
      (sym kernels_same) h.relations)

  zero_same : a.zero ≡ b.zero
  zero_same =
      marks_same a.zero b.zero g.zero
      (subst (λ Z. (b.zero ≡ true) ↔ Each (IsMember ring.modulus.value (image_of ring rank maps step)) (sums_of (variables ring) Z)) (sym kernels_same) h.zero)

  one_ext : a ≡ b
  one_ext = λ i. record { kernel = kernels_same i; relations = relations_same i; zero = zero_same i }

pub ext_once : (ring : Ring) (value : Value) (step : ℕ) (x y : List ℕ) → IsExtText ring value step x → IsExtText ring value step y → x ≡ y
ext_once ring value step x y g h =
    g.text_is
    ∙ ap₂ (λ M e. ext_text ring value.name step (rank_at value.rank M step) e) maps_same
    (one_ext ring value.rank g.maps step g.answer h.answer g.ext (subst (λ M. IsExt ring value.rank M step h.answer) (sym maps_same) h.ext))
    ∙ sym h.text_is
  where
    maps_same : g.maps ≡ h.maps
    maps_same =
        started_once ring value.rank value.list g.basis h.basis (suc step) g.maps h.maps g.reduced h.reduced g.resolution.start h.resolution.start
        g.resolution.vectors h.resolution.vectors
