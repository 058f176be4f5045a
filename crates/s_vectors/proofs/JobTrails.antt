-- The chain of a pair is a trail of the job
use Rattle.std.proofs.Common.{List, [], ap, ap₂, arith, get_or, length, length-append, refl, subst, subst₂, suc, sym, zero, ℕ, ◌++◌, ◌+◌, ◌<◌, ◌∙◌, ◌∷◌, ◌≡◌}
use Rattle.monomials.specs.Exponents.{exponents_of}
use Rattle.monomials.specs.Weights.{weighted_degree}
use Rattle.formal_sums.specs.FormalSums.{Each, FormalSum}
use Rattle.bases.specs.Representations.{key_lcm}
use Rattle.monomial_orders.specs.Kept.{IsWeighed, Monomial}
use Rattle.term_lists.proofs.Monomials.{monomial_at}
use Rattle.term_lists.proofs.Scaling.{Each_at}
use Rattle.term_lists.proofs.Parts.{Each_split}
use Rattle.term_lists.specs.Rings.{ring_comparison, variables}
use Rattle.term_lists.specs.Stops.{HasMonomial}
use Rattle.term_lists.specs.Vectors.{AreVectorsOver, key_of, sum_of, sums_of}
use Rattle.term_lists.specs.declared.key.Key.{Key as CodeKey}
use Rattle.term_lists.specs.declared.ring.Ring.{Ring}
use Rattle.module_vectors.specs.Trails.{AreMet, IsStart, HasKey, IsChain, IsOfProduct, IsTrail as IsKeptTrail, KeptProduct, last_product, lead_at}
use Rattle.module_vectors.specs.declared.trail.KeptTrail.{KeptTrail}
use Rattle.module_vectors.specs.declared.trail.TrailStart.TheVariants as starts
use Rattle.pair_criteria.specs.declared.pair.Pair.{Pair as CodePair}
use Rattle.basis_steps.specs.Criteria.{IsPair, lcm_of}
use Rattle.basis_steps.specs.Divisions.{Occurs}
use Rattle.basis_steps.specs.Outcomes.{AreJobProducts}
use Rattle.basis_steps.specs.Pairs.{Pair, count}
use Rattle.basis_steps.specs.States.{Trail, vectors}
use Rattle.basis_core.proofs.Tracking.{vectors_over}
use Rattle.basis_core.specs.Jobs.{HasLcmOfMembers, IsJob, JobShown, index_pair_of, pairs_of}
use Rattle.basis_core.specs.Members.{IsMemberShown, MembersShown, members_of, setting_of}
use Rattle.basis_core.specs.Outcomes.{indexed_product_of, indexed_products_of}
use Rattle.basis_core.specs.Rows.{vectors_in}
use Rattle.basis_core.specs.Stops.{IsPairTrail, IsTrailBy, earlier_products, start_pair, trail_by, trail_members, trail_over}
use Rattle.s_vectors.proofs.Lists.{vectors_are}
use Rattle.s_vectors.proofs.Making.{job_steps, vector_occurs}
use Rattle.s_vectors.proofs.TopParts.{lead_is, left_within, member_some, right_within, same_position, shared_lawful}
use Rattle.s_vectors.specs.Divided.{AreOfPair}
use Rattle.s_vectors.specs.PairProducts.{ArePairProducts, IsPairChain}
use Rattle.basis_core.proofs.Tracing.{pair_counted}

-- all products, the last one apart
steps_apart : (n : ℕ) (first : KeptProduct) (later : List KeptProduct) → indexed_products_of n (earlier_products first later) ++ indexed_product_of n (last_product first later) ∷ [] ≡ indexed_products_of n (first ∷ later)
steps_apart n first [] = refl
steps_apart n first (s ∷ later) = ap (λ l. indexed_product_of n first ∷ l) (steps_apart n s later)

-- the key of a term
monomial_key : (n : ℕ) (v : List (CodeKey × ℕ)) (t : Monomial) → HasMonomial v t → (i : ℕ) × HasKey (sum_of n v) (i, exponents_of n t.exponents)
monomial_key n [] t (u, (i, lt, e), is) = absurd (let z : i < 0 = lt in omega arith)
monomial_key n (w ∷ v) t (u, (zero, lt, e), is) = (w.0.position, (0, omega arith, ap (λ z. (w.0.position, exponents_of n z.exponents)) (ap (λ z. z.0.monomial) e ∙ is)))
monomial_key n (w ∷ v) t (u, (suc i, lt, e), is) =
    let r = monomial_key n v t (u, (i, omega arith, e), is) in
    (r.0, (suc r.1.0, (let l = r.1.1 in omega arith), r.1.2))

-- what a list of products ends with
ends_with : (front : List KeptProduct) (s : KeptProduct) (first : KeptProduct) (later : List KeptProduct) → first ∷ later ≡ front ++ s ∷ [] → last_product first later ≡ s
ends_with [] s first [] e = cc
ends_with [] s first (t ∷ later) e = absurd (cc)
ends_with (f ∷ front) s first [] e = absurd (let l = ap length e in omega (arith, length-append front (s ∷ [])))
ends_with (f ∷ front) s first (t ∷ later) e = let d : t ∷ later ≡ front ++ s ∷ [] = cc in ends_with front s t later d

some_products : (front : List KeptProduct) (s : KeptProduct) (products : List KeptProduct) → products ≡ front ++ s ∷ [] → (first : KeptProduct) × (later : List KeptProduct) × (products ≡ first ∷ later)
some_products [] s products e = (s, [], e)
some_products (f ∷ front) s products e = (f, front ++ s ∷ [], e)

-- what a trail has to hold
record HoldsTrail (n : ℕ) (ws : List ℕ) (p : ℕ) (G : List (FormalSum n)) (pairs : List Pair) (w : Trail n) : Type 0 where
  members : w.members ≡ G
  start : 0 < count w.start pairs
  real : IsPair G w.start
  products : AreJobProducts p G (w.start ∷ []) (w.earlier ++ (w.last ∷ []))
  monomial : (i : ℕ) × Occurs p (get_or G w.last.0 []) (i, w.monomial)
  above : 65535 < weighted_degree ws w.last.1 + weighted_degree ws w.monomial

module _ (m : MembersShown) (x : CodePair) (of : AreOfPair m x) (tracked : Each (IsMemberShown m.shared) m.list) (t : KeptTrail) (pairs : List Pair)
    (chain : IsPairChain (variables m.shared.ring) m.shared.ring.weights m.list (key_of (variables m.shared.ring) x.lcm) t.products.items t.last)
    (ring_is : t.ring ≡ m.shared.ring) (rank_is : t.rank ≡ m.shared.rank) (generators_are : t.generators ≡ m.shared.generators)
    (below_none : t.below.items ≡ []) (start_is : t.start ≡ starts.Pair x.i x.j) (vector_is : t.vector ≡ [])
    (members_are : t.members ≡ vectors_in m.list) (taken : 0 < count (index_pair_of x) pairs)
  where
    -- the monomial that is too great is one of the ring
    last_weighed : IsWeighed (variables m.shared.ring) m.shared.ring.weights t.last
    last_weighed =
        monomial_at (variables m.shared.ring) m.shared.ring.weights m.shared.ring.modulus.value (ring_comparison m.shared.ring (variables m.shared.ring)) (vectors_in m.list) chain.at_end.0 t.last (vectors_over m.shared m.list tracked) chain.monomial

    -- the products as the trail has them
    kept_trail : (first : KeptProduct) (later : List KeptProduct) → t.products.items ≡ first ∷ later → IsKeptTrail t
    kept_trail first later e =
        let n = variables m.shared.ring in
        let list = vectors_in m.list in
        let pair : ArePairProducts n m.shared.ring.weights list (key_of n x.lcm) (first ∷ later) = subst (ArePairProducts n m.shared.ring.weights list (key_of n x.lcm)) e chain.pair in
        let last : last_product first later ≡ chain.at_end = ends_with chain.front chain.at_end first later (sym e ∙ chain.split) in
        let lw = left_within n m.shared m.list x of.monic of.real of.lcm in
        let rw' = right_within n m.shared m.list x of.monic of.real of.lcm in
        let some = member_some n m.shared m.list x of.monic of.real of.lcm in
        let lcm_key : key_of n x.lcm ≡ key_lcm (lead_at n list x.i) (lead_at n list x.j) = lcm_leads in (
          first,
          later,
          subst (λ (r : Ring). IsChain (variables r) (record t { ring = r }) first later) (sym ring_is) (record {
            products = e;
            known = subst (λ l. Each (λ z. z.0 < length l) (first ∷ later)) (sym members_are) pair.known;
            variables = pair.weighed;
            begins = subst₂ (λ s l. IsStart n s t.vector l first later) (sym start_is) (sym members_are) (
              record { left = lw; right = rw'; left_some = some x.i lw; right_some = some x.j rw'; apart = λ q. (let o = of.real.ordered in absurd (omega arith)); position = same_position n m.shared m.list x of.monic of.real of.lcm; lcm = pair.linked.0 ∙ lcm_key },
              vector_is,
            );
            met = subst₂ (λ v l. AreMet n (sum_of n v) l (first ∷ []) later) (sym vector_is) (sym members_are) pair.linked.1;
            last = subst (λ s. IsOfProduct t.members s t.last) (sym last) (subst (λ l. IsOfProduct l chain.at_end t.last) (sym members_are) chain.monomial);
            last_variables = last_weighed;
            too_great = subst (λ (s : KeptProduct). 65535 < s.1.degree + t.last.degree) (sym last) chain.too_great;
          }),
        )
      where
        lcm_leads : key_of (variables m.shared.ring) x.lcm ≡ key_lcm (lead_at (variables m.shared.ring) (vectors_in m.list) x.i) (lead_at (variables m.shared.ring) (vectors_in m.list) x.j)
        lcm_leads = of.lcm.lcm ∙ ap₂ key_lcm (lead_is (variables m.shared.ring) m.list x.i) (lead_is (variables m.shared.ring) m.list x.j)

    pub pair_trail : IsPairTrail m.shared t
    pair_trail =
        let s = some_products chain.front chain.at_end t.products.items chain.split in
        record {
          over = record {
            trail = kept_trail s.0 s.1 s.2;
            ring = ring_is;
            rank = rank_is;
            generators = generators_are;
            below = below_none;
            vectors = subst (AreVectorsOver m.shared.ring (ring_comparison m.shared.ring)) (sym members_are) (vectors_over m.shared m.list tracked);
          };
          vector = vector_is;
          start = (x.i, x.j, start_is);
        }

    -- the same over plain data
    members_same : trail_members (variables m.shared.ring) t ≡ vectors (members_of (variables m.shared.ring) m.list)
    members_same = ap (sums_of (variables m.shared.ring)) members_are ∙ sym (vectors_are (variables m.shared.ring) m.list)

    -- a monomial of the last product's member
    last_occurs : (i : ℕ) × Occurs m.shared.ring.modulus.value (get_or (vectors (members_of (variables m.shared.ring) m.list)) chain.at_end.0 []) (i, exponents_of (variables m.shared.ring) t.last.exponents)
    last_occurs =
        let n = variables m.shared.ring in
        let k = monomial_key n (get_or (vectors_in m.list) chain.at_end.0 []) t.last chain.monomial in (
          k.0,
          subst (λ G. Occurs m.shared.ring.modulus.value (get_or G chain.at_end.0 []) (k.0, exponents_of n t.last.exponents)) (sym (vectors_are n m.list))
              (vector_occurs (setting_of n m.shared) (shared_lawful n m.shared) (vectors_in m.list) (vectors_over m.shared m.list tracked) chain.at_end.0 (k.0, exponents_of n t.last.exponents) k.1),
        )

    end_weighed : IsWeighed (variables m.shared.ring) m.shared.ring.weights chain.at_end.1
    end_weighed = (Each_split (λ s. IsWeighed (variables m.shared.ring) m.shared.ring.weights s.1) chain.front (chain.at_end ∷ []) (subst (Each (λ s. IsWeighed (variables m.shared.ring) m.shared.ring.weights s.1)) chain.split chain.pair.weighed)).1.0

    -- what the trail holds, by its products
    plain_trail :
        (first : KeptProduct) (later : List KeptProduct)
        → t.products.items ≡ first ∷ later
        → HoldsTrail (variables m.shared.ring) m.shared.ring.weights m.shared.ring.modulus.value (vectors (members_of (variables m.shared.ring) m.list)) pairs (trail_by (variables m.shared.ring) t first later)
    plain_trail first later e =
        let n = variables m.shared.ring in
        let p = m.shared.ring.modulus.value in
        let pair : ArePairProducts n m.shared.ring.weights (vectors_in m.list) (key_of n x.lcm) (first ∷ later) = subst (ArePairProducts n m.shared.ring.weights (vectors_in m.list) (key_of n x.lcm)) e chain.pair in
        let last : last_product first later ≡ chain.at_end = ends_with chain.front chain.at_end first later (sym e ∙ chain.split) in
        let lcm_is : key_of n x.lcm ≡ lcm_of (sums_of n (vectors_in m.list)) (index_pair_of x) = subst (λ G. key_of n x.lcm ≡ lcm_of G (index_pair_of x)) (vectors_are n m.list) of.lcm.lcm in
        let high = chain.too_great in
        let start : start_pair t.start ≡ index_pair_of x = ap start_pair start_is in
        record {
          members = members_same;
          start = subst (λ y. 0 < count y pairs) (sym start) taken;
          real = subst (IsPair (vectors (members_of n m.list))) (sym start) of.real;
          products =
              subst (AreJobProducts p (vectors (members_of n m.list)) (start_pair t.start ∷ [])) (sym (steps_apart n first later))
              (subst₂ (λ G y. AreJobProducts p G (y ∷ []) (indexed_products_of n (first ∷ later))) (sym (vectors_are n m.list)) (sym start)
              (job_steps (setting_of n m.shared) (shared_lawful n m.shared) (vectors_in m.list) (vectors_over m.shared m.list tracked) (index_pair_of x) (key_of n x.lcm) (first ∷ later) lcm_is pair));
          monomial =
              subst (λ (s : KeptProduct). (i : ℕ) × Occurs p (get_or (vectors (members_of n m.list)) s.0 []) (i, exponents_of n t.last.exponents)) (sym last) last_occurs;
          above =
              subst (λ (s : KeptProduct). 65535 < weighted_degree m.shared.ring.weights (exponents_of n s.1.exponents) + weighted_degree m.shared.ring.weights (exponents_of n t.last.exponents)) (sym last)
              (omega (arith, end_weighed.degree, last_weighed.degree));
        }

    pub trail_by_members : IsTrailBy m.shared m.list pairs t
    trail_by_members =
        let n = variables m.shared.ring in
        let s = some_products chain.front chain.at_end t.products.items chain.split in
        let h = subst (λ l. HoldsTrail n m.shared.ring.weights m.shared.ring.modulus.value (vectors (members_of n m.list)) pairs (trail_over n t l)) (sym s.2) (plain_trail s.0 s.1 s.2) in
        record { pair = pair_trail; members = h.members; start = h.start; real = h.real; products = h.products; monomial = h.monomial; above = h.above }

-- a pair of the job
pub job_pair :
    (j : JobShown) (i : ℕ) (x : CodePair)
    → IsJob (variables j.shared.ring) j → i < length j.pairs → x ≡ get_or j.pairs i x
    → AreOfPair (record { shared = j.shared; list = j.members }) x
job_pair j i x h lt e = record {
  monic = h.monic;
  real = pair_real j.pairs i x h.real lt e;
  lcm = Each_at (HasLcmOfMembers (variables j.shared.ring) j.shared.ring.weights j.members) j.pairs i x h.lcms lt e;
}
  where
    pair_real :
        (xs : List CodePair) (k : ℕ) (y : CodePair)
        → Each (IsPair (vectors (members_of (variables j.shared.ring) j.members))) (pairs_of xs) → k < length xs → y ≡ get_or xs k y
        → IsPair (vectors (members_of (variables j.shared.ring) j.members)) (index_pair_of y)
    pair_real [] k y r l q = absurd (omega arith)
    pair_real (z ∷ xs) zero y r l q = subst (λ w. IsPair (vectors (members_of (variables j.shared.ring) j.members)) (index_pair_of w)) (sym q) r.0
    pair_real (z ∷ xs) (suc k) y r l q = pair_real xs k y r.1 (omega arith) q

-- the chain of a pair of the job
pub job_trail :
    (j : JobShown) (i : ℕ) (x : CodePair) (t : KeptTrail)
    → IsJob (variables j.shared.ring) j → Each (IsMemberShown j.shared) j.members → i < length j.pairs → x ≡ get_or j.pairs i x
    → IsPairChain (variables j.shared.ring) j.shared.ring.weights j.members (key_of (variables j.shared.ring) x.lcm) t.products.items t.last
    → t.ring ≡ j.shared.ring → t.rank ≡ j.shared.rank → t.generators ≡ j.shared.generators → t.below.items ≡ []
    → t.start ≡ starts.Pair x.i x.j → t.vector ≡ [] → t.members ≡ vectors_in j.members
    → IsTrailBy j.shared j.members (pairs_of j.pairs) t
job_trail j i x t h tracked lt e chain e_ring e_rank e_generators e_below e_start e_vector e_members =
    trail_by_members (record { shared = j.shared; list = j.members }) x (job_pair j i x h lt e) tracked t (pairs_of j.pairs) chain
    e_ring e_rank e_generators e_below e_start e_vector e_members (pair_counted x j.pairs (i, lt, sym e))
