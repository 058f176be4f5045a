-- One product as a trail, and as a combination; lists of products
use Rattle.std.proofs.Common.{List, [], ap, ap₂, append_assoc, arith, get_or, length, map, refl, subst, suc, sym, zero, ℕ, ◌++◌, ◌+◌, ◌<◌, ◌∙◌, ◌∷◌, ◌≡◌}
use Rattle.std.specs.Prelude.{Contains, Option}
use Rattle.monomials.specs.Exponents.{exponents_of}
use Rattle.formal_sums.proofs.Combining.{Each_map, IsMember_through}
use Rattle.formal_sums.proofs.WeightedSums.{Each_append}
use Rattle.formal_sums.specs.Combinations.{IsMember, combination}
use Rattle.formal_sums.specs.FormalSums.{Each, FormalSum, HasRank, product, scale}
use Rattle.bases.proofs.Leading.{positive}
use Rattle.bases.specs.Settings.{IsLawful}
use Rattle.operation_laws.proofs.Linear.{Each_of_map}
use Rattle.operation_laws.proofs.Saturate.{HasRank_product}
use Rattle.operation_laws.specs.Operations.{products_of}
use Rattle.monomial_orders.specs.Kept.{IsWeighed, Monomial}
use Rattle.term_lists.specs.Rings.{ring_comparison, setting, variables}
use Rattle.term_lists.specs.Stops.{HasMonomial}
use Rattle.term_lists.specs.Vectors.{AreVectorsOver, HasPositions, IsTerm, IsVectorOver, sum_of, sums_of}
use Rattle.term_lists.specs.declared.ring.Ring.{Ring}
use Rattle.term_lists.specs.declared.stop.VectStop.TheVariants.{Degree}
use Rattle.module_vectors.specs.ProductStops.{CombinationStops}
use Rattle.module_vectors.specs.Trails.{IsOfProduct, IsStart}
use Rattle.module_vectors.specs.declared.trail.KeptTrail.{KeptTrail}
use Rattle.module_vectors.specs.declared.trail.TrailStart.TheVariants.{Product}
use Rattle.module_vectors.specs.declared.trail.WorkStop.{WorkStop}
use Rattle.module_vectors.specs.declared.trail.WorkStop.TheVariants as works
use Rattle.groebner_iface.specs.Calls.{CallStops}
use Rattle.groebner_iface.specs.Runs.{IsReducedBasisOf, StoppedRun}
use Rattle.groebner_iface.specs.Stops.{op_stop_of_work}
use Rattle.syzygy_engine.specs.Answers.{IsBasisOfThose}
use Rattle.syzygy_engine.specs.Runs.{AreVectorsFor, OfRuns}
use Rattle.syzygy_engine.proofs.RunAnswers.{members_of_run, own_basis}
use Rattle.syzygy_engine.proofs.Standing.{Terms, ranks_of_positions, stand_both, stand_module}
use Rattle.syzygy_engine.proofs.VectorLists.{positions_for}
use Rattle.ideal_ops.specs.Products.{IsProductTrail, WorkStops}

-- the combination of one vector is the product
pub combination_one : (n : ℕ) (b c : Terms) → HasPositions 1 b → combination (sum_of n c ∷ []) (sum_of n b) ≡ product (sum_of n b) (sum_of n c)
combination_one n [] c h = refl
combination_one n (t ∷ b) c h =
    let z : t.0.position ≡ 0 = let a = h.0 in omega (arith, a) in
    ap₂ ◌++◌ (ap (λ i. scale t.1 (exponents_of n t.0.monomial.exponents) (get_or (sum_of n c ∷ []) i [])) z) (combination_one n b c h.1)

each_at : {X : Type 0} (P : X → Type 0) (d : X) (xs : List X) (i : ℕ) → Each P xs → i < length xs → P (get_or xs i d)
each_at P d [] i h lt = absurd (omega (arith, lt))
each_at P d (x ∷ xs) zero h lt = h.0
each_at P d (x ∷ xs) (suc i) h lt = each_at P d xs i h.1 (omega (arith, lt))

contained : {X : Type 0} (P : X → Type 0) (xs : List X) (x : X) → Each P xs → Contains xs x → P x
contained P xs x h k = subst P k.2 (each_at P x xs k.0 h k.1)

weighed : (ring : Ring) (v : Terms) (m : Monomial) → Each (IsTerm (variables ring) ring.weights ring.modulus.value) v → HasMonomial v m → IsWeighed (variables ring) ring.weights m
weighed ring v m h k = subst (IsWeighed (variables ring) ring.weights) k.2 (contained (IsTerm (variables ring) ring.weights ring.modulus.value) v k.0 h k.1).weighed

pub product_trail :
    (ring : Ring) (b : Terms) (members : List Terms) (k : ℕ) (s m : Monomial) (t : KeptTrail)
    → Each (IsTerm (variables ring) ring.weights ring.modulus.value) b → HasPositions 1 b → AreVectorsOver ring (ring_comparison ring) members
    → k < length members → CombinationStops b (get_or members k [] ∷ []) (Degree s m)
    → t.ring ≡ ring → t.rank ≡ 0 → t.generators ≡ [] → t.below.items ≡ [] → t.start ≡ Product → t.vector ≡ b → t.members ≡ members
    → t.products.items ≡ (k, s) ∷ [] → t.last ≡ m → IsProductTrail ring b members k t
product_trail ring b members k s m t hb low over below stops ering erank egen ebelow estart evector emembers esteps elast = record {
  trail = (
    (k, s),
    [],
    record {
      products = esteps;
      known = (subst (λ l. k < length l) (sym emembers) below, tt);
      variables = (subst (λ r. IsWeighed (variables r) r.weights s) (sym ering) (weighed ring b s hb of_b), tt);
      begins = subst (λ st. IsStart (variables t.ring) st t.vector t.members (k, s) []) (sym estart) (subst (λ v. HasMonomial v s) (sym evector) of_b, refl);
      met = tt;
      last = subst (λ l. IsOfProduct l (k, s) t.last) (sym emembers) (subst (HasMonomial c) (sym elast) of_c);
      last_variables = subst (λ r. IsWeighed (variables r) r.weights t.last) (sym ering) (subst (IsWeighed (variables ring) ring.weights) (sym elast) (weighed ring c m hc of_c));
      too_great = subst (λ z. 65535 < s.degree + z.degree) (sym elast) stops.4;
    },
  );
  over = ering;
  rank = erank;
  generators = egen;
  below = ebelow;
  start = estart;
  vector_is = evector;
  members_are = emembers;
  factor = s;
  product = esteps;
}
  where
    c : Terms
    c = get_or members k []

    hc : Each (IsTerm (variables ring) ring.weights ring.modulus.value) c
    hc = (each_at (IsVectorOver ring (ring_comparison ring)) [] members k over below).each

    of_b : HasMonomial b s
    of_b = (stops.0, stops.1, sym stops.2)

    first_position : stops.0.0.position ≡ 0
    first_position = let a = contained (λ t. t.0.position < 1) b stops.0 low stops.1 in omega (arith, a)

    of_c : HasMonomial c m
    of_c = subst (λ i. HasMonomial (get_or (c ∷ []) i []) m) first_position stops.3

-- ---- stops
pub work_stops :
    (old : ℕ) (kept : Option StoppedRun) (Runs : OfRuns) (Trails : KeptTrail → Type 0) (stop : WorkStop) → WorkStops Trails stop
    → CallStops Runs Trails old old kept kept (op_stop_of_work stop)
work_stops old kept Runs Trails works.Memory h = (refl, refl)
work_stops old kept Runs Trails (works.Degree t) h = (refl, refl, h)

pub more_trails : (Trails More : KeptTrail → Type 0) → ((t : KeptTrail) → Trails t → More t) → (stop : WorkStop) → WorkStops Trails stop → WorkStops More stop
more_trails Trails More meets works.Memory h = h
more_trails Trails More meets (works.Degree t) h = meets t h

-- ---- lists
pub products_next : {n : ℕ} (F H : List (FormalSum n)) (f : FormalSum n) → products_of (F ++ f ∷ []) H ≡ products_of F H ++ map (product f) H
products_next [] H f = append-none (map (product f) H)
  where
    append-none : {X : Type 0} (xs : List X) → xs ++ [] ≡ xs
    append-none [] = refl
    append-none (x ∷ xs) = ap (λ z. x ∷ z) (append-none xs)
products_next (g ∷ F) H f = ap (λ z. map (product g) H ++ z) (products_next F H f) ∙ sym (append_assoc (map (product g) H) (products_of F H) (map (product f) H))

pub vectors_after :
    (ring : Ring) (G H : List (FormalSum (variables ring))) (list more : List Terms) → AreVectorsFor ring G list → AreVectorsFor ring H more → AreVectorsFor ring (G ++ H) (list ++ more)
vectors_after ring G H list more a b = record {
  vectors = Each_append _ list more a.vectors b.vectors;
  stand = stand_both ring list more G H a.stand b.stand;
}

products_rank : {n : ℕ} (m : ℕ) (F H : List (FormalSum n)) → Each (HasRank m) H → Each (HasRank m) (products_of F H)
products_rank m [] H h = tt
products_rank m (f ∷ F) H h =
    Each_append (HasRank m) (map (product f) H) (products_of F H)
    (Each_of_map (HasRank m) (product f) H (Each_map (HasRank m) (λ g. HasRank m (product f g)) H (λ g r. HasRank_product m f g r) h)) (products_rank m F H h)

pub product_positions :
    (ring : Ring) (rank : ℕ) (left right list : List Terms) → IsLawful (setting ring (variables ring) (ring_comparison ring (variables ring)) rank) → Each (HasPositions rank) right
    → AreVectorsFor ring (products_of (sums_of (variables ring) left) (sums_of (variables ring) right)) list → Each (HasPositions rank) list
product_positions ring rank left right list lawful h stand =
    let n = variables ring in
    positions_for ring rank lawful list (products_of (sums_of n left) (sums_of n right)) stand (products_rank rank (sums_of n left) (sums_of n right) (ranks_of_positions n rank right h))

pub basis_of_product :
    (ring : Ring) (rank : ℕ) (left right list answer : List Terms) → IsLawful (setting ring (variables ring) (ring_comparison ring (variables ring)) rank) → Each (HasPositions rank) right
    → AreVectorsFor ring (products_of (sums_of (variables ring) left) (sums_of (variables ring) right)) list → IsReducedBasisOf ring rank list answer
    → IsBasisOfThose ring rank (IsMember ring.modulus.value (products_of (sums_of (variables ring) left) (sums_of (variables ring) right))) answer
basis_of_product ring rank left right list answer lawful h stand run =
    let n = variables ring in
    let P = products_of (sums_of n left) (sums_of n right) in
    let positions = product_positions ring rank left right list lawful h stand in
    let pos = positive (setting ring n (ring_comparison ring n) rank) lawful in
    let same = stand_module ring list P stand.stand in
    record {
      basis = own_basis ring rank lawful list answer positions run;
      members = λ v. let e = members_of_run ring rank lawful list answer positions run v in (
        λ a. IsMember_through pos P (sums_of n list) same.inside v (e.0 a),
        λ a. e.1 (IsMember_through pos (sums_of n list) P same.outside v a),
      );
    }
