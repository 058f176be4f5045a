-- The members of a list as plain data
use Rattle.std.proofs.Common.{List, [], ap, arith, false, length, refl, sym, true, true≢false, ℕ, ◌<◌, ◌==◌, ◌∙◌, ◌∷◌, ◌≡◌}
use Rattle.std.proofs.lemmas.Bool.Decides.{nat_tests}
use Rattle.std.proofs.lemmas.List.{length-map}
use Rattle.term_lists.specs.Vectors.{sum_of, sums_of}
use Rattle.basis_steps.specs.States.{vectors}
use Rattle.basis_core.specs.Members.{MemberShown, members_of}
use Rattle.basis_core.specs.Rows.{vectors_in}

pub vectors_are : (n : ℕ) (ms : List MemberShown) → vectors (members_of n ms) ≡ sums_of n (vectors_in ms)
vectors_are n [] = refl
vectors_are n (m ∷ ms) = ap (λ l. sum_of n m.vector ∷ l) (vectors_are n ms)

pub length-vectors_in : (ms : List MemberShown) → length (vectors_in ms) ≡ length ms
length-vectors_in ms = length-map ms (λ m. m.vector)

-- a list without items, and one with some
pub empty_list : {X : Type 0} (v : List X) → (length v == 0) ≡ true → v ≡ []
empty_list [] h = refl
empty_list (x ∷ v) h = let other : (length (x ∷ v) == 0) ≡ false = grind (arith, nat_tests) in absurd (true≢false (sym h ∙ other))

pub filled_list : {X : Type 0} (v : List X) → (length v == 0) ≡ false → 0 < length v
filled_list [] h = let other : (0 == 0) ≡ true = grind (arith, nat_tests) in absurd (true≢false (sym other ∙ h))
filled_list (x ∷ v) h = omega arith
