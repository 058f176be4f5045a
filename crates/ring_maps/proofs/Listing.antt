-- The list of a graph, one vector after another
use Rattle.std.proofs.Common.{List, Option, [], ap, arith, get_or, length, map, refl, subst, suc, sym, take, zero, ℕ, ◌++◌, ◌+◌, ◌-◌, ◌<◌, ◌∙◌, ◌∷◌, ◌≡◌}
use Rattle.std.proofs.lemmas.List.{map-append}
use Rattle.monomials.specs.Exponents.{unit}
use Rattle.formal_sums.specs.FormalSums.{Each, FormalSum, scale}
use Rattle.bases.specs.Settings.{IsLawful}
use Rattle.operation_laws.specs.Operations.{listed}
use Rattle.map_laws.proofs.Evaluating.{graph_list_rank}
use Rattle.map_laws.specs.Graphs.{behind, graph_list, graph_member, in_first, variable_monomial}
use Rattle.term_lists.proofs.Scaling.{take_item}
use Rattle.term_lists.specs.Rings.{ring_comparison, setting, variables}
use Rattle.term_lists.specs.Vectors.{HasPositions, IsVectorOver, StandsFor, sum_of, sums_of}
use Rattle.term_lists.specs.declared.ring.Ring.{Ring}
use Rattle.module_vectors.specs.declared.trail.KeptTrail.{KeptTrail}
use Rattle.module_vectors.specs.declared.trail.WorkStop.{WorkStop}
use Rattle.module_vectors.specs.declared.trail.WorkStop.TheVariants as works
use Rattle.groebner_iface.specs.Calls.{CallStops}
use Rattle.groebner_iface.specs.Runs.{StoppedRun}
use Rattle.groebner_iface.specs.Stops.{op_stop_of_work}
use Rattle.vector_division.proofs.Members.{sums_at}
use Rattle.syzygy_engine.specs.Runs.{AreVectorsFor, OfRuns}
use Rattle.syzygy_engine.proofs.Generated.{lawful_at}
use Rattle.syzygy_engine.proofs.Standing.{Terms, ranks_of_positions}
use Rattle.syzygy_engine.proofs.VectorLists.{positions_for, vectors_next}
use Rattle.ideal_ops.specs.Products.{WorkStops}

-- ---- the members of a graph
pub listed_next : {X : Type 0} (m : ℕ) (g : ℕ → X) → listed 0 (m + 1) g ≡ listed 0 m g ++ g m ∷ []
listed_next {X} m g =
    let s : m + 1 ≡ suc m = omega arith in
    let z : 0 + m ≡ m = omega arith in
    ap (λ z. listed 0 z g) s ∙ go 0 m ∙ ap (λ j. listed 0 m g ++ g j ∷ []) z
  where
    go : (i m : ℕ) → listed i (suc m) g ≡ listed i m g ++ g (i + m) ∷ []
    go i zero = let e : i + 0 ≡ i = omega arith in ap (λ z. g z ∷ []) (sym e)
    go i (suc m) = let e : suc i + m ≡ i + suc m = omega arith in ap (λ z. g i ∷ z) (go (suc i) m ∙ ap (λ z. listed (suc i) m g ++ g z ∷ []) e)

pub member_next :
    (ring graph : Ring) (images vectors : List Terms) (i : ℕ) (f u : Terms) → f ≡ get_or images i []
    → AreVectorsFor graph (listed 0 i (graph_member ring.modulus.value (variables graph) (sums_of (variables ring) images))) vectors
    → IsVectorOver graph (ring_comparison graph) u
    → StandsFor graph u (((0, behind (variables graph) (variables ring) (variable_monomial (variables ring) i)), 1)
    ∷ scale (ring.modulus.value - 1) (unit (variables graph)) (in_first (variables graph) (sum_of (variables ring) f)))
    → AreVectorsFor graph (listed 0 (i + 1) (graph_member ring.modulus.value (variables graph) (sums_of (variables ring) images))) (vectors ++ u ∷ [])
member_next ring graph images vectors i f u e h hu s =
    let n = variables ring in
    let m = variables graph in
    let p = ring.modulus.value in
    let g : ℕ → FormalSum m = graph_member p m (sums_of n images) in
    let at : sum_of n f ≡ get_or (sums_of n images) i [] = ap (sum_of n) e ∙ sym (sums_at n images i) in
    let y : FormalSum m = ((0, behind m n (variable_monomial n i)), 1) ∷ [] in
    subst (λ G. AreVectorsFor graph G (vectors ++ u ∷ [])) (sym (listed_next i g))
    (vectors_next graph vectors (listed 0 i g) u (g i) h hu
    (subst (λ x. StandsFor graph u (((0, behind m n (variable_monomial n i)), 1) ∷ scale (p - 1) (unit m) (in_first m x))) at s))

-- ---- the members of the list behind them
pub sums_next : (n : ℕ) (items : List Terms) (i : ℕ) (x : Terms) → i < length items → x ≡ get_or items i x → sums_of n (take (i + 1) items) ≡ sums_of n (take i items) ++ sum_of n x ∷ []
sums_next n items i x lt e = ap (sums_of n) (take_item items i x lt e) ∙ map-append (λ v. sum_of n v) (take i items) (x ∷ [])

pub first_next :
    (ring graph : Ring) (G : List (FormalSum (variables graph))) (items vectors : List Terms) (i : ℕ) (x u : Terms) → i < length items → x ≡ get_or items i x
    → AreVectorsFor graph (G ++ map (in_first (variables graph)) (sums_of (variables ring) (take i items))) vectors → IsVectorOver graph (ring_comparison graph) u
    → StandsFor graph u (in_first (variables graph) (sum_of (variables ring) x))
    → AreVectorsFor graph (G ++ map (in_first (variables graph)) (sums_of (variables ring) (take (i + 1) items))) (vectors ++ u ∷ [])
first_next ring graph G items vectors i x u lt e h hu s =
    let n = variables ring in
    let m = variables graph in
    let f : FormalSum n → FormalSum m = in_first m in
    subst (λ H. AreVectorsFor graph H (vectors ++ u ∷ []))
    (append_after G (map f (sums_of n (take i items))) (f (sum_of n x)) ∙ ap (λ z. G ++ z) (sym (ap (map f) (sums_next n items i x lt e) ∙ map-append f (sums_of n (take i items)) (sum_of n x ∷ []))))
    (vectors_next graph vectors (G ++ map f (sums_of n (take i items))) u (f (sum_of n x)) h hu s)
  where
    append_after : {X : Type 0} (a b : List X) (x : X) → (a ++ b) ++ x ∷ [] ≡ a ++ (b ++ x ∷ [])
    append_after [] b x = refl
    append_after (y ∷ a) b x = ap (λ z. y ∷ z) (append_after a b x)

-- the whole list has rank 1
pub graph_positions :
    (ring graph : Ring) (images list listed : List Terms) → IsLawful (setting graph (variables graph) (ring_comparison graph (variables graph)) 0)
    → Each (HasPositions 1) images → Each (HasPositions 1) list
    → AreVectorsFor graph (graph_list ring.modulus.value (variables graph) (sums_of (variables ring) images) (sums_of (variables ring) list)) listed → Each (HasPositions 1) listed
graph_positions ring graph images list listed lawful f l h =
    let n = variables ring in
    positions_for graph 1 (lawful_at graph 1 lawful) listed (graph_list ring.modulus.value (variables graph) (sums_of n images) (sums_of n list)) h
    (graph_list_rank ring.modulus.value (variables graph) (sums_of n images) (sums_of n list) (ranks_of_positions n 1 images f) (ranks_of_positions n 1 list l))

-- ---- stops
-- the stop of work after a run that left the count and the kept run as they were
pub later_work :
    (old new : ℕ) (kept kept' : Option StoppedRun) (Runs : OfRuns) (Trails : KeptTrail → Type 0) (stop : WorkStop) → (new ≡ old) × (kept' ≡ kept)
    → WorkStops Trails stop → CallStops Runs Trails old new kept kept' (op_stop_of_work stop)
later_work old new kept kept' Runs Trails works.Memory same h = same
later_work old new kept kept' Runs Trails (works.Degree t) same h = (same.0, same.1, h)
