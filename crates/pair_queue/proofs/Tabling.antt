-- The flags of the pairs that wait, and a pair that waits no more
use Rattle.std.proofs.Common.{Bool, List, ap, arith, cond, false, refl, true, ℕ, ◌++◌, ◌∷◌, ◌≡◌, ◌≤◌}
use Rattle.basis_steps.proofs.Counting.{count-append}
use Rattle.basis_steps.specs.Criteria.{waiting}
use Rattle.basis_steps.specs.Pairs.{Pair, is_same_pair}
use Rattle.pair_queue.specs.Tables.{IsFlagTable, flag_cleared, flagged}

-- the other flags stay
pub flagged_other : (f : Pair → Bool) (x y : Pair) → is_same_pair y x ≡ false → flagged (flag_cleared f x) y ≡ flagged f y
flagged_other f x y e = ap (λ s. cond (cond s false (f y)) 1 0) e

pub flagged_cleared : (f : Pair → Bool) (x y : Pair) → flagged (flag_cleared f x) y ≤ flagged f y
flagged_cleared f x y = go (is_same_pair y x) (f y)
  where
    go : (b d : Bool) → cond {A = ℕ} (cond b false d) 1 0 ≤ cond d 1 0
    go true d = omega arith
    go false d = omega arith

pub one_at_most : (c : Bool) → cond {A = ℕ} c 1 0 ≤ 1
one_at_most true = omega arith
one_at_most false = omega arith

-- the table of the queue without the pair
pub table_less :
    (f : Pair → Bool) (front back : List Pair) (x : Pair) (out : List (Pair × ℕ))
    → IsFlagTable f (front ++ x ∷ back) out → IsFlagTable (flag_cleared f x) (front ++ back) out
table_less f front back x out t = record { flags = λ y. go y (is_same_pair y x) refl }
  where
    go : (y : Pair) (c : Bool) → is_same_pair y x ≡ c → flagged (flag_cleared f x) y ≡ waiting (front ++ back) out y
    go y true e =
        let z : ◌≡◌ {A = ℕ} (cond (is_same_pair y x) 1 0) 1 = ap (λ s. cond s 1 0) e in
        let u : ◌≡◌ {A = ℕ} (flagged (flag_cleared f x) y) 0 = ap (λ s. cond (cond s false (f y)) 1 0) e in
        omega (arith, z, u, t.flags y, one_at_most (f y), count-append y front (x ∷ back), count-append y front back)
    go y false e =
        let z : ◌≡◌ {A = ℕ} (cond (is_same_pair y x) 1 0) 0 = ap (λ s. cond s 1 0) e in
        let u : ◌≡◌ {A = ℕ} (flagged (flag_cleared f x) y) (flagged f y) = flagged_other f x y e in
        omega (arith, z, u, t.flags y, count-append y front (x ∷ back), count-append y front back)

-- what the table says is what waits
pub table_is : (f : Pair → Bool) (queue : List Pair) (out : List (Pair × ℕ)) → IsFlagTable f queue out → flagged f ≡ waiting queue out
table_is f queue out t = λ i x. t.flags x i
