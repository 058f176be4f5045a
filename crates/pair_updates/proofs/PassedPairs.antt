-- Pairs that are passed over by their bits alone
use Rattle.std.proofs.Common.{List, ap, arith, get_or, inl, inr, length, subst, sym, w64, ℕ, ◌+◌, ◌^◌, ◌<◌, ◌∙◌, ◌≡◌, ◌≤◌, ◌⊎◌}
use Rattle.std.proofs.lemmas.Bool.{cases_lt}
use Rattle.std.specs.Int.{bit_not}
use Rattle.std.specs.Int.Bits.{and_self}
use Rattle.std.specs.Prelude.{bit_and}
use Rattle.basis_steps.proofs.RuleTests.{yields, yields_first, yields_not}
use Rattle.basis_steps.specs.Drops.{YieldsTo}
use Rattle.pair_updates.proofs.MetPairs.{divides_told, kept_same, kept_within}
use Rattle.pair_updates.proofs.WordsBelow.{tells_within, within_lacks}
use Rattle.pair_updates.specs.Dropping.{IsPairWithBits}
use Rattle.pair_updates.specs.FirstYields.{AreActive}
use Rattle.pair_updates.specs.Leads.{LeadsShown, sums_shown}
use Rattle.pair_updates.specs.Rows.{EachHasMissing, IsBelow, TellsAll}
use Rattle.pair_updates.specs.declared.meeting.NewPair.{NewPair}

-- the pair yields to none of these members from place `from` on and before place k
abbrev pub YieldsToNone : LeadsShown → NewPair → List ℕ → ℕ → ℕ → Type 0
YieldsToNone m x members from k = (z : ℕ) → from ≤ z → z < k → YieldsTo (sums_shown m) x.j x.i (get_or members z 0) → ⊥

module _ (m : LeadsShown) (x : NewPair) (members : List ℕ) (from : ℕ) where
  -- one with a bit that this one lacks: this one does not yield to it
  lacking :
      (j a : ℕ) → IsPairWithBits m x → x.above < 2 ^ 64 → IsPairWithBits m (record { i = j; j = x.j; above = a })
      → (bit_and a (bit_not w64 x.above) ≡ 0 → ⊥) → YieldsTo (sums_shown m) x.j x.i j → ⊥
  lacking j a met fits other lacks y =
      lacks (within_lacks a x.above fits
      (kept_within m x.i x.j j a x.above other.above met.above
      (yields_first (sums_shown m) x.j x.i j other.pair.within other.pair.ordered met.pair y)))

  -- nor to those from place k on and before place l, where each has such a bit
  pub passed :
      (above : List ℕ) (k l : ℕ) → IsPairWithBits m x → x.above < 2 ^ 64 → AreActive m x.j members above → l ≤ length above
      → EachHasMissing above (bit_not w64 x.above) k l → YieldsToNone m x members from k → YieldsToNone m x members from l
  passed above k l met fits active bound lacks none z late lt = go (cases_lt z k)
    where
      go : (z < k) ⊎ (k ≤ z) → YieldsTo (sums_shown m) x.j x.i (get_or members z 0) → ⊥
      go (inl q) = none z late q
      go (inr q) =
          lacking (get_or members z 0) (get_or above z 0) met fits
          (active.each z (let e = active.len in omega (arith, lt, bound, e))) (lacks z q lt)

  -- one place more
  pub none_more :
      (k : ℕ) → YieldsToNone m x members from k → (YieldsTo (sums_shown m) x.j x.i (get_or members k 0) → ⊥) → YieldsToNone m x members from (k + 1)
  none_more k none not z late lt = go (cases_lt z k)
    where
      go : (z < k) ⊎ (k ≤ z) → YieldsTo (sums_shown m) x.j x.i (get_or members z 0) → ⊥
      go (inl q) = none z late q
      go (inr q) =
          let e : z ≡ k = omega (arith, lt, q) in
          λ y. not (subst (λ l. YieldsTo (sums_shown m) x.j x.i (get_or members l 0)) e y)

-- in a ring of at most sixteen variables a pair whose word tells all yields to those with words below its own, and to no others
module _ (m : LeadsShown) (x : NewPair) (few : m.variables ≤ 16) (all : TellsAll x.above) (met : IsPairWithBits m x) (j a : ℕ)
    (other : IsPairWithBits m (record { i = j; j = x.j; above = a })) where
  pub yields_below : IsBelow a x.above → YieldsTo (sums_shown m) x.j x.i j
  yields_below below =
      let d = divides_told m x.i x.j j a x.above other.above met.above below.0 (tells_within a x.above below.0 all) few
      (other.pair.position ∙ sym met.pair.position) in
      yields (sums_shown m) x.j x.i j other.pair.within other.pair.ordered met.pair d
      (λ e. below.1 (kept_same m x.i x.j j a x.above other.above met.above d e))

  pub below_yielded : YieldsTo (sums_shown m) x.j x.i j → IsBelow a x.above
  below_yielded y = (
    kept_within m x.i x.j j a x.above other.above met.above
        (yields_first (sums_shown m) x.j x.i j other.pair.within other.pair.ordered met.pair y),
    (λ e. yields_not (sums_shown m) x.j x.i j other.pair.within other.pair.ordered met.pair y
        (divides_told m j x.j x.i x.above a met.above other.above (ap (bit_and x.above) e ∙ and_self x.above) all few
        (met.pair.position ∙ sym other.pair.position))),
  )
