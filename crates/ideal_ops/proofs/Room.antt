-- Room for positions
use Rattle.std.proofs.Common.{arith, subst, suc, sym, zero, ℕ, ◌*◌, ◌<◌, ◌≡◌, ◌≤◌}
use Rattle.monomials.proofs.Weighing.{mul_least}

-- the positions of all blocks, by another name for their number
pub blocks_room : (rank s count : ℕ) → s ≡ count → rank * count < 9223372036854775808 → rank * s < 9223372036854775808
blocks_room rank s count e room = subst (λ z. rank * z < 9223372036854775808) (sym e) room

-- the positions of one block are below their end
pub block_room : (a rank s count : ℕ) → s ≡ count → a ≤ rank * s → rank * count < 9223372036854775808 → a < 9223372036854775808
block_room a rank s count e le room = let all = blocks_room rank s count e room in omega (arith, le, all)

-- the positions of one block, where there is one
pub rank_room : (rank s count : ℕ) → s ≡ count → (s ≡ 0 → ⊥) → rank * count < 9223372036854775808 → rank < 9223372036854775808
rank_room rank zero count e some room = absurd (omega (arith, some))
rank_room rank (suc s) count e some room =
    let all = blocks_room rank (suc s) count e room in
    let least = mul_least (suc s) rank (omega arith) in
    omega (arith, all, least)
