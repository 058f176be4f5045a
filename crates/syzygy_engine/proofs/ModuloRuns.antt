-- The syzygies of one list modulo another, by the run on the one with marks and the other without
use Rattle.std.proofs.Common.{List, [], ap, arith, get_or, inl, inr, length, subst, suc, sym, zero, ℕ, ◌++◌, ◌+◌, ◌<◌, ◌∙◌, ◌∷◌, ◌≡◌}
use Rattle.std.proofs.lemmas.List.{length-map}
use Rattle.std.specs.Prelude.{◌↔◌}
use Rattle.monomials.specs.Exponents.{unit}
use Rattle.formal_sums.proofs.Combining.{IsMember_same, IsMember_through, IsSame_combination_members}
use Rattle.formal_sums.proofs.Sameness.{IsSame_append, IsSame_of, IsSame_refl, IsSame_sym, IsSame_trans}
use Rattle.formal_sums.proofs.WeightedSums.{Each_append}
use Rattle.formal_sums.specs.Combinations.{IsMember, IsSameModule, combination}
use Rattle.formal_sums.specs.FormalSums.{Each, FormalSum, HasRank, IsOfRank, IsSame}
use Rattle.orders.specs.KeyOrders.{top}
use Rattle.bases.proofs.Leading.{positive}
use Rattle.bases.specs.Bases.{IsReducedBasis}
use Rattle.bases.specs.Settings.{IsLawful, Setting}
use Rattle.reduced_bases.proofs.Comparing.{IsReducedBasis_same}
use Rattle.syzygy_laws.specs.Kernels.{kernel_of}
use Rattle.syzygy_laws.specs.Syzygies.{marked}
use Rattle.operation_laws.proofs.OneMarkRuns.{modulo_exact, modulo_reduced, one_mark_rank}
use Rattle.operation_laws.proofs.OnePosition.{one_position}
use Rattle.operation_laws.proofs.RankFacts.{kernel_rank}
use Rattle.operation_laws.proofs.Running.{through}
use Rattle.operation_laws.specs.Operations.{IsSyzygyModulo}
use Rattle.monomial_orders.specs.Comparisons.{comparison, key_comparison}
use Rattle.monomial_orders.specs.Laws.{comparison_order}
use Rattle.monomial_orders.specs.declared.order.ModOrder.{ModOrder}
use Rattle.monomial_orders.specs.declared.order.ModOrder.TheVariants.{Pot, Top}
use Rattle.term_lists.specs.Rings.{ring_comparison, setting, variables}
use Rattle.term_lists.specs.Vectors.{AreVectorsOver, HasPositions, sum_of, sums_of}
use Rattle.term_lists.specs.declared.ring.Ring.{Ring}
use Rattle.vector_division.proofs.Members.{sums_at}
use Rattle.groebner_iface.specs.Runs.{IsReducedBasisOf}
use Rattle.syzygy_engine.specs.Answers.{IsBasisOfThose}
use Rattle.syzygy_engine.specs.Marking.{AreMarked, StandOneByOne, position_ring, position_setting}
use Rattle.syzygy_engine.specs.Modulo.{AreModuloRuns}
use Rattle.syzygy_engine.specs.Runs.{AreVectorsFor}
use Rattle.syzygy_engine.proofs.Generated.{lawful_at}
use Rattle.syzygy_engine.proofs.Marks.{lawful_by_position}
use Rattle.syzygy_engine.proofs.RunAnswers.{members_of_run, own_basis}
use Rattle.syzygy_engine.proofs.Standing.{Terms, ranks_of_positions, stand_basis, stand_both, stand_itself, stand_module}
use Rattle.syzygy_engine.proofs.VectorLists.{positions_for}

-- ---- lists that are the same one by one
abbrev AreSame : {n : ℕ} → ℕ → List (FormalSum n) → List (FormalSum n) → Type 0
AreSame p F H = (length F ≡ length H) × ((i : ℕ) → IsSame p (get_or F i []) (get_or H i []))

same_next : {n p : ℕ} (f h : FormalSum n) (F H : List (FormalSum n)) → IsSame p f h → AreSame p F H → AreSame p (f ∷ F) (h ∷ H)
same_next {n} {p} f h F H e same = (ap suc same.0, at)
  where
    at : (i : ℕ) → IsSame p (get_or (f ∷ F) i []) (get_or (h ∷ H) i [])
    at zero = e
    at (suc i) = same.1 i

same_rest : {n p : ℕ} (f h : FormalSum n) (F H : List (FormalSum n)) → AreSame p (f ∷ F) (h ∷ H) → AreSame p F H
same_rest f h F H same = let e = same.0 in (omega (arith, e), λ i. same.1 (suc i))

same_marked : {n p : ℕ} (q i : ℕ) (F H : List (FormalSum n)) → AreSame p F H → AreSame p (marked q i F) (marked q i H)
same_marked q i [] [] same = same
same_marked q i [] (h ∷ H) same = let e = same.0 in absurd (omega (arith, e))
same_marked q i (f ∷ F) [] same = let e = same.0 in absurd (omega (arith, e))
same_marked {n} {p} q i (f ∷ F) (h ∷ H) same =
    same_next _ _ (marked q (suc i) F) (marked q (suc i) H) (IsSame_append (same.1 0) (IsSame_refl p (((q + i, unit n), 1) ∷ [])))
    (same_marked q (suc i) F H (same_rest f h F H same))

same_both : {n p : ℕ} (F H K L : List (FormalSum n)) → AreSame p F H → AreSame p K L → AreSame p (F ++ K) (H ++ L)
same_both [] [] K L a b = b
same_both [] (h ∷ H) K L a b = let e = a.0 in absurd (omega (arith, e))
same_both (f ∷ F) [] K L a b = let e = a.0 in absurd (omega (arith, e))
same_both (f ∷ F) (h ∷ H) K L a b = same_next f h (F ++ K) (H ++ L) (a.1 0) (same_both F H K L (same_rest f h F H a) b)

same_stand : (ring : Ring) (list : List Terms) (G : List (FormalSum (variables ring))) → StandOneByOne ring list G → AreSame ring.modulus.value (sums_of (variables ring) list) G
same_stand ring list G h = (
  length-map list (λ v. sum_of (variables ring) v) ∙ h.count,
  λ i. IsSame_trans (IsSame_of ring.modulus.value _ _ (sums_at (variables ring) list i)) (h.each i),
)

stand_same : (ring : Ring) (list : List Terms) (F G : List (FormalSum (variables ring))) → StandOneByOne ring list F → AreSame ring.modulus.value F G → StandOneByOne ring list G
stand_same ring list F G h same = record { count = h.count ∙ same.0; each = λ i. IsSame_trans (h.each i) (same.1 i) }

-- ---- the list
-- the heads with marks, and the members behind them
pub heads_list :
    (ring : Ring) (q : ℕ) (heads done members list : List Terms) → AreMarked ring q heads done → AreVectorsOver (position_ring ring) (ring_comparison (position_ring ring)) members
    → list ≡ done ++ members → AreVectorsFor (position_ring ring) (marked q 0 (sums_of (variables ring) heads) ++ sums_of (variables ring) members) list
heads_list ring q heads done members list d vectors e =
    let over = position_ring ring in
    let H = marked q 0 (sums_of (variables ring) heads) in
    let M = sums_of (variables ring) members in
    subst (AreVectorsFor over (H ++ M)) (sym e) (record {
      vectors = Each_append _ done members d.vectors vectors;
      stand = stand_both over done members H M (record { count = d.marks.count; each = d.marks.each }) (stand_itself over members);
    })

pub list_positions :
    (ring : Ring) (q : ℕ) (heads members list : List Terms) → IsLawful (setting ring (variables ring) (ring_comparison ring (variables ring)) 0)
    → Each (HasPositions q) heads → Each (HasPositions q) members
    → AreVectorsFor (position_ring ring) (marked q 0 (sums_of (variables ring) heads) ++ sums_of (variables ring) members) list → Each (HasPositions (q + length heads)) list
list_positions ring q heads members list lawful h l stand =
    let n = variables ring in
    positions_for (position_ring ring) (q + length heads) (lawful_by_position ring (q + length heads) lawful) list (marked q 0 (sums_of n heads) ++ sums_of n members) stand
    (one_mark_rank q (length heads) (sums_of n heads) (sums_of n members) (length-map heads (λ v. sum_of n v)) (ranks_of_positions n q heads h) (ranks_of_positions n q members l))

-- heads and members that stand for X and Y
module _ (ring : Ring) (q : ℕ) (heads members : List Terms) (X Y : List (FormalSum (variables ring)))
    (x : AreVectorsFor ring X heads) (y : AreVectorsFor (position_ring ring) Y members) where
  abbrev H : List (FormalSum (variables ring))
  H = sums_of (variables ring) heads

  abbrev M : List (FormalSum (variables ring))
  M = sums_of (variables ring) members

  same_heads : AreSame ring.modulus.value (sums_of (variables ring) heads) X
  same_heads = same_stand ring heads X x.stand

  list_for :
      (list : List Terms) → AreVectorsFor (position_ring ring) (marked q 0 (sums_of (variables ring) heads) ++ sums_of (variables ring) members) list
      → AreVectorsFor (position_ring ring) (marked q 0 X ++ Y) list
  list_for list h = record {
    vectors = h.vectors;
    stand =
        stand_same (position_ring ring) list (marked q 0 H ++ M) (marked q 0 X ++ Y) h.stand
        (same_both (marked q 0 H) (marked q 0 X) M Y (same_marked q 0 H X same_heads) (same_stand (position_ring ring) members Y y.stand));
  }

  pub runs_for :
      (r : Ring) (m : ℕ) (l : List Terms) → AreModuloRuns ring q (sums_of (variables ring) heads) (sums_of (variables ring) members) r m l → AreModuloRuns ring q X Y r m l
  runs_for r m l (inl h) = inl (h.0, h.1 ∙ ap (λ s. q + s) same_heads.0, list_for l h.2)
  runs_for r m l (inr k) = inr (record {
    first_ring = k.first_ring;
    first_rank = k.first_rank;
    first_list = k.first_list;
    before = (k.before.0, k.before.1 ∙ ap (λ s. q + s) same_heads.0, list_for k.first_list k.before.2);
    basis = k.basis;
    reduced = k.reduced;
    kept = k.kept;
    own_ring = k.own_ring;
    own_rank = k.own_rank ∙ same_heads.0;
  })

  pub syzygies_for :
      0 < ring.modulus.value → (v : FormalSum (variables ring))
      → IsSyzygyModulo ring.modulus.value (sums_of (variables ring) heads) (sums_of (variables ring) members) v ↔ IsSyzygyModulo ring.modulus.value X Y v
  syzygies_for pos v =
      let p = ring.modulus.value in
      let e = IsSame_combination_members pos H X same_heads.1 v in
      let same = stand_module (position_ring ring) members Y y.stand in (
        λ h. (subst (λ s. IsOfRank p s v) same_heads.0 h.0, IsMember_same Y (combination H v) (combination X v) e (IsMember_through pos Y M same.inside (combination H v) h.1)),
        λ h. (subst (λ s. IsOfRank p s v) (sym same_heads.0) h.0, IsMember_through pos M Y same.outside (combination H v) (IsMember_same Y (combination X v) (combination H v) (IsSame_sym e) h.1)),
      )

-- ---- the kernel: what vanishes before the marks
module _ (ring : Ring) (q : ℕ) (heads members list basis kernel : List Terms) (lawful : IsLawful (setting ring (variables ring) (ring_comparison ring (variables ring)) 0))
    (heads_low : Each (HasPositions q) heads) (members_low : Each (HasPositions q) members)
    (stand : AreVectorsFor (position_ring ring) (marked q 0 (sums_of (variables ring) heads) ++ sums_of (variables ring) members) list)
    (run : IsReducedBasisOf (position_ring ring) (q + length heads) list basis) (part : AreVectorsFor ring (kernel_of q (sums_of (variables ring) basis)) kernel) where
  abbrev n : ℕ
  n = variables ring

  abbrev p : ℕ
  p = ring.modulus.value

  abbrev s : ℕ
  s = length heads

  abbrev S : Setting (variables ring)
  S = setting ring (variables ring) (ring_comparison ring (variables ring)) 0

  abbrev X : List (FormalSum (variables ring))
  X = sums_of (variables ring) heads

  abbrev Y : List (FormalSum (variables ring))
  Y = sums_of (variables ring) members

  abbrev G : List (FormalSum (variables ring))
  G = sums_of (variables ring) basis

  pos : 0 < ring.modulus.value
  pos = positive S lawful

  count : length (sums_of (variables ring) heads) ≡ length heads
  count = length-map heads (λ v. sum_of n v)

  x : Each (HasRank q) (sums_of (variables ring) heads)
  x = ranks_of_positions n q heads heads_low

  y : Each (HasRank q) (sums_of (variables ring) members)
  y = ranks_of_positions n q members members_low

  reduced : IsReducedBasis (position_setting ring (q + length heads)) (marked q 0 (sums_of (variables ring) heads) ++ sums_of (variables ring) members) (sums_of (variables ring) basis)
  reduced =
      IsReducedBasis_same (position_setting ring (q + s)) (lawful_by_position ring (q + s) lawful) (sums_of n list) (marked q 0 X ++ Y) G
      (stand_module (position_ring ring) list (marked q 0 X ++ Y) stand.stand) run.basis

  own : IsReducedBasis (position_setting ring (length heads)) (kernel_of q (sums_of (variables ring) basis)) (kernel_of q (sums_of (variables ring) basis))
  own = modulo_reduced S (comparison ring.order ring.weights n) lawful (comparison_order ring.order ring.weights n) q s X Y G count x y reduced

  same : IsSameModule ring.modulus.value (sums_of (variables ring) kernel) (kernel_of q (sums_of (variables ring) basis))
  same = stand_module ring kernel (kernel_of q G) part.stand

  kernel_syzygies :
      (v : FormalSum (variables ring)) → IsMember ring.modulus.value (sums_of (variables ring) kernel) v
      ↔ IsSyzygyModulo ring.modulus.value (sums_of (variables ring) heads) (sums_of (variables ring) members) v
  kernel_syzygies v =
      through (IsMember_through pos (kernel_of q G) (sums_of n kernel) same.inside v, IsMember_through pos (sums_of n kernel) (kernel_of q G) same.outside v)
      (modulo_exact S (comparison ring.order ring.weights n) lawful (comparison_order ring.order ring.weights n) q s X Y G count x y reduced v)

  kernel_ranks : Each (HasRank (length heads)) (kernel_of q (sums_of (variables ring) basis))
  kernel_ranks = kernel_rank q s G (ranks_of_positions n (q + s) basis run.positions)

  pub kernel_low : Each (HasPositions (length heads)) kernel
  kernel_low = positions_for ring s (lawful_at ring s lawful) kernel (kernel_of q G) part kernel_ranks

  -- what is a reduced basis in the ring's own order is the answer
  finished :
      IsReducedBasis (setting ring (variables ring) (ring_comparison ring (variables ring)) (length heads)) (kernel_of q (sums_of (variables ring) basis)) (kernel_of q (sums_of (variables ring) basis))
      → IsBasisOfThose ring (length heads) (IsSyzygyModulo ring.modulus.value (sums_of (variables ring) heads) (sums_of (variables ring) members)) kernel
  finished b = record {
    basis = stand_basis ring s kernel (kernel_of q G) (lawful_at ring s lawful) part.vectors part.stand kernel_low b;
    members = kernel_syzygies;
  }

  -- by position nothing is left to do
  pub kernel_by_position :
      ring.module_order ≡ Pot → IsBasisOfThose ring (length heads) (IsSyzygyModulo ring.modulus.value (sums_of (variables ring) heads) (sums_of (variables ring) members)) kernel
  kernel_by_position e =
      finished (subst (λ o. IsReducedBasis (record { modulus = ring.modulus.value; weights = ring.weights; rank = s; compare = key_comparison o ring.order ring.weights n }) (kernel_of q G) (kernel_of q G)) (sym e) own)

  -- nor at one position
  pub kernel_at_one :
      length heads ≡ 1 → IsBasisOfThose ring (length heads) (IsSyzygyModulo ring.modulus.value (sums_of (variables ring) heads) (sums_of (variables ring) members)) kernel
  kernel_at_one e = finished (go ring.module_order)
    where
      go :
          (o : ModOrder) → IsReducedBasis (record { modulus = ring.modulus.value; weights = ring.weights; rank = length heads; compare = key_comparison o ring.order ring.weights (variables ring) })
          (kernel_of q (sums_of (variables ring) basis)) (kernel_of q (sums_of (variables ring) basis))
      go Pot = own
      go Top =
          subst (λ r. IsReducedBasis (record { modulus = ring.modulus.value; weights = ring.weights; rank = r; compare = top (comparison ring.order ring.weights n) }) (kernel_of q G) (kernel_of q G)) (sym e)
          (one_position (comparison ring.order ring.weights n) S lawful (comparison_order ring.order ring.weights n) (kernel_of q G) (kernel_of q G)
          (subst (λ r. Each (HasRank r) (kernel_of q G)) e kernel_ranks) (subst (λ r. IsReducedBasis (position_setting ring r) (kernel_of q G) (kernel_of q G)) e own))

  -- else a run on it in the ring's own order gives the answer
  pub kernel_again :
      (answer : List Terms) → IsReducedBasisOf ring (length heads) kernel answer
      → IsBasisOfThose ring (length heads) (IsSyzygyModulo ring.modulus.value (sums_of (variables ring) heads) (sums_of (variables ring) members)) answer
  kernel_again answer second = record {
    basis = own_basis ring s (lawful_at ring s lawful) kernel answer kernel_low second;
    members = λ v. through (members_of_run ring s (lawful_at ring s lawful) kernel answer kernel_low second v) (kernel_syzygies v);
  }
