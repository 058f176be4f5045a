-- Words that are below another, and those that are passed over
use Rattle.std.proofs.Common.{List, ap, arith, inl, inr, sym, w64, ℕ, ◌+◌, ◌^◌, ◌<◌, ◌∙◌, ◌≡◌, ◌≤◌, ◌⊎◌}
use Rattle.std.proofs.lemmas.Bool.{cases_lt}
use Rattle.std.proofs.lemmas.Nat.{and-not, and_assoc, and_comm}
use Rattle.std.proofs.lemmas.Nat.Bits.{bit_at_and}
use Rattle.std.specs.Int.{bit_at, bit_not}
use Rattle.std.specs.Int.Bits.{and_self, and_zero_r}
use Rattle.std.specs.Prelude.{bit_and, slice_index}
use Rattle.pair_updates.specs.Rows.{EachHasMissing, EachNotBelow, TellsAll}

-- a word has none of the bits that it lacks
none_of_others : (b : ℕ) → b < 2 ^ 64 → bit_and b (bit_not w64 b) ≡ 0
none_of_others b fits = and_comm b (bit_not w64 b) ∙ omega (arith, and-not 64 b b fits fits, and_self b)

-- nor does what is within it
pub within_lacks : (a b : ℕ) → b < 2 ^ 64 → bit_and a b ≡ a → bit_and a (bit_not w64 b) ≡ 0
within_lacks a b fits e =
    ap (λ z. bit_and z (bit_not w64 b)) (sym e) ∙ and_assoc (bit_not w64 b) a b ∙ ap (bit_and a) (none_of_others b fits) ∙ and_zero_r a

-- and what has none of them is within it
pub lacks_within : (a b : ℕ) → a < 2 ^ 64 → b < 2 ^ 64 → bit_and a (bit_not w64 b) ≡ 0 → bit_and a b ≡ a
lacks_within a b small fits e = omega (arith, and-not 64 b a fits small, and_comm a b, and_comm a (bit_not w64 b), e)

-- what is within a word that tells all tells all
pub tells_within : (a b : ℕ) → bit_and a b ≡ a → TellsAll b → TellsAll a
tells_within a b within all i late =
    let x = ap (λ z. bit_at z i) within in
    let y = bit_at_and a b i in
    omega (arith, x, y, all i late)

module _ (words : List ℕ) (word from : ℕ) where
  -- words that each have a bit that this one lacks are passed over
  pub below_passed :
      (k l : ℕ) → word < 2 ^ 64 → EachNotBelow words word from k → EachHasMissing words (bit_not w64 word) k l → EachNotBelow words word from l
  below_passed k l fits none lacks i late lt below = go (cases_lt i k)
    where
      go : (i < k) ⊎ (k ≤ i) → ⊥
      go (inl q) = none i late q below
      go (inr q) = lacks i q lt (within_lacks (slice_index words i) word fits below.0)

  -- and so is the word itself
  pub same_passed : (k : ℕ) → EachNotBelow words word from k → slice_index words k ≡ word → EachNotBelow words word from (k + 1)
  same_passed k none same i late lt below = go (cases_lt i k)
    where
      go : (i < k) ⊎ (k ≤ i) → ⊥
      go (inl q) = none i late q below
      go (inr q) = let e : i ≡ k = omega (arith, lt, q) in below.1 (ap (slice_index words) e ∙ same)
