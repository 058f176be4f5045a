-- Lists of vectors with the same formal sums are one
use Rattle.std.proofs.Common.{List, [], ap₂, refl, ℕ, ◌∷◌, ◌≡◌}
use Rattle.formal_sums.specs.FormalSums.{Key}
use Rattle.std.specs.declared.cmp.Ordering.{Ordering}
use Rattle.bases.specs.Settings.{IsLawful}
use Rattle.formal_sums.proofs.Sameness.{IsSame_of}
use Rattle.term_lists.proofs.NormalVectors.{vector_unique}
use Rattle.term_lists.specs.Rings.{setting, variables}
use Rattle.term_lists.specs.Vectors.{AreVectorsOver, sums_of}
use Rattle.term_lists.specs.declared.key.Key.{Key as CodeKey}
use Rattle.term_lists.specs.declared.ring.Ring.{Ring}

pub one_list_of_sums :
    (ring : Ring) (compare : (n : ℕ) → Key n → Key n → Ordering) (rank : ℕ) (left right : List (List (CodeKey × ℕ)))
    → IsLawful (setting ring (variables ring) (compare (variables ring)) rank)
    → AreVectorsOver ring compare left → AreVectorsOver ring compare right
    → sums_of (variables ring) left ≡ sums_of (variables ring) right → left ≡ right
one_list_of_sums ring compare rank [] [] lawful hl hr e = refl
one_list_of_sums ring compare rank [] (w ∷ right) lawful hl hr e = absurd (cc)
one_list_of_sums ring compare rank (v ∷ left) [] lawful hl hr e = absurd (cc)
one_list_of_sums ring compare rank (v ∷ left) (w ∷ right) lawful hl hr e =
    ap₂ ◌∷◌
    (vector_unique ring compare rank v w lawful hl.0 hr.0 (IsSame_of ring.modulus.value _ _ (head e)))
    (one_list_of_sums ring compare rank left right lawful hl.1 hr.1 (tail e))
  where
    head : {X : Type 0} {x y : X} {xs ys : List X} → x ∷ xs ≡ y ∷ ys → x ≡ y
    head e = cc

    tail : {X : Type 0} {x y : X} {xs ys : List X} → x ∷ xs ≡ y ∷ ys → xs ≡ ys
    tail e = cc
