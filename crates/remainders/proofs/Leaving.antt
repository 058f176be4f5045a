-- The sums that are left, as terms
use Rattle.std.proofs.Common.{List, [], append-nil, drop, get_or, length, set, sym, ℕ, ◌++◌, ◌<◌, ◌∷◌, ◌≤◌}
use Rattle.std.proofs.lemmas.List.{append_assoc}
use Rattle.residues.specs.Residues.{IsCongruent}
use Rattle.formal_sums.proofs.Sameness.{IsSame_append, IsSame_of, IsSame_refl, IsSame_sym, IsSame_trans}
use Rattle.formal_sums.specs.FormalSums.{FormalSum, IsSame, Key}
use Rattle.numbered_sums.proofs.NumberedSums.{idle_rest, idle_sums, taken_out}
use Rattle.numbered_sums.specs.KeySums.{AreTouched, numbered_sum}

-- a sum goes over to the terms
pub left_more :
    {n p : ℕ} (key : ℕ → Key n) (c r : ℕ) (sums : List ℕ) (start old new : FormalSum n) → c < length sums → IsCongruent p (get_or sums c 0) r
    → IsSame p start (old ++ numbered_sum key 0 sums) → IsSame p new (old ++ (key c, r) ∷ [])
    → IsSame p start (new ++ numbered_sum key 0 (set sums c 0))
left_more {n} {p} key c r sums start old new lt e h more =
    let rest = numbered_sum key 0 (set sums c 0) in
    IsSame_trans h
    (IsSame_trans (IsSame_append (IsSame_refl p old) (taken_out key c r sums lt e))
    (IsSame_trans (IsSame_of p _ _ (sym (append_assoc old ((key c, r) ∷ []) rest)))
    (IsSame_append (IsSame_sym more) (IsSame_refl p rest))))

-- no sum is left
pub left_all :
    {n p : ℕ} (key : ℕ → Key n) (sums touched : List ℕ) (i : ℕ) (start left : FormalSum n)
    → IsSame p start (left ++ numbered_sum key 0 sums) → AreTouched (drop i touched) sums → length touched ≤ i → IsSame p start left
left_all {n} {p} key sums touched i start left h rest le =
    IsSame_trans h
    (IsSame_trans (IsSame_append (IsSame_refl p left) (idle_sums p key 0 sums (idle_rest touched i sums rest le)))
    (IsSame_of p _ _ (append-nil left)))
