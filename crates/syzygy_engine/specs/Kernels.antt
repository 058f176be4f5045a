-- Syzygies of a list (UAG chapter 5, section 3)
use Rattle.std.specs.Prelude.{List, length, ℕ, ◌+◌, ◌≡◌, ◌↔◌, ◌⊎◌}
use Rattle.formal_sums.specs.Combinations.{IsMember, IsSyzygy}
use Rattle.formal_sums.specs.FormalSums.{FormalSum}
use Rattle.bases.specs.Bases.{IsReducedBasis}
use Rattle.syzygy_laws.specs.Kernels.{kernel_of}
use Rattle.syzygy_laws.specs.Syzygies.{marked}
use Rattle.monomial_orders.specs.declared.order.ModOrder.{ModOrder}
use Rattle.monomial_orders.specs.declared.order.ModOrder.TheVariants.{Pot, Top}
use Rattle.term_lists.specs.Rings.{ring_comparison, variables}
use Rattle.term_lists.specs.Vectors.{AreVectorsOver, sums_of}
use Rattle.term_lists.specs.declared.key.Key.{Key as CodeKey}
use Rattle.term_lists.specs.declared.ring.Ring.{Ring}
use Rattle.syzygy_engine.specs.Marking.{IsMarkedRun, StandOneByOne, position_setting}

-- K generates the syzygies of F: a vector is in its module exactly where it is one
abbrev pub GeneratesSyzygies : {n : ℕ} → ℕ → List (FormalSum n) → List (FormalSum n) → Type 0
GeneratesSyzygies {n} p F K = (a : FormalSum n) → IsMember p K a ↔ IsSyzygy p F a

-- the kernel that a basis of the marked list shows: its members that vanish at the first q positions, without these
pub record IsKernelOf (ring : Ring) (q : ℕ) (list kernel : List (List (CodeKey × ℕ))) : Type 0 where
  pub basis : List (FormalSum (variables ring))
  pub reduced : IsReducedBasis (position_setting ring (q + length list)) (marked q 0 (sums_of (variables ring) list)) basis
  pub members : StandOneByOne ring kernel (kernel_of q basis)

-- the run that follows: the kernel in the ring's own order
abbrev pub IsKernelRun : Ring → ℕ → List (List (CodeKey × ℕ)) → Ring → ℕ → List (List (CodeKey × ℕ)) → Type 0
IsKernelRun ring q list over rank kernel =
    (over ≡ ring) × (rank ≡ length list) × AreVectorsOver ring (ring_comparison ring) kernel × IsKernelOf ring q list kernel

-- the runs that the syzygies of a list of rank q need
abbrev pub IsSyzygyRun : Ring → ℕ → List (List (CodeKey × ℕ)) → Ring → ℕ → List (List (CodeKey × ℕ)) → Type 0
IsSyzygyRun ring q list over rank F = IsMarkedRun ring q list over rank F ⊎ IsKernelRun ring q list over rank F

-- how many runs an answer in this order of modules takes at most: one position over term, and one more where the order is another
abbrev pub runs_in_module_order : ModOrder → ℕ
runs_in_module_order Pot = 1
runs_in_module_order Top = 2

-- how many one in the ring's own order takes at most
abbrev pub runs_in_order : Ring → ℕ
runs_in_order ring = runs_in_module_order ring.module_order
