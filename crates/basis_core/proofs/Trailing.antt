-- The trail that a chain of products stands for
use Rattle.std.proofs.Common.{List, cond, [], ap, arith, get_or, inl, inr, length, length-append, refl, subst, suc, sym, take, zero, ℕ, ◌++◌}
use Rattle.std.proofs.Common.{◌+◌, ◌-◌, ◌<◌, ◌∙◌, ◌∷◌, ◌≡◌, ◌⊎◌}
use Rattle.std.proofs.lemmas.List.{length-map, length-take}
use Rattle.std.specs.Prelude.{Contains}
use Rattle.monomials.specs.Exponents.{exponents_of}
use Rattle.monomials.specs.Weights.{weighted_degree}
use Rattle.monomial_orders.specs.Kept.{IsWeighed, Monomial}
use Rattle.formal_sums.specs.FormalSums.{Each, FormalSum, Key, shift}
use Rattle.bases.specs.Leads.{head_key}
use Rattle.bases.specs.Representations.{key_lcm}
use Rattle.term_lists.specs.Rings.{ring_comparison, variables}
use Rattle.term_lists.specs.Stops.{HasMonomial}
use Rattle.term_lists.specs.Vectors.{IsMonomialOver, IsVectorOver, key_of, sum_of}
use Rattle.term_lists.specs.declared.key.Key.{Key as CodeKey}
use Rattle.module_vectors.specs.Trails.{HasKey, IsChain, IsInProduct, IsOfProduct, IsKeptProduct}
use Rattle.module_vectors.specs.Trails.{KeptProduct, last_product, no_product, kept_product_lead, kept_at}
use Rattle.module_vectors.specs.declared.trail.KeptTrail.{KeptTrail}
use Rattle.module_vectors.specs.declared.trail.TrailStart.TheVariants as starts
use Rattle.pair_criteria.specs.declared.pair.Pair.{Pair as CodePair}
use Rattle.basis_steps.proofs.Counting.{count_each, is_same_pair-refl}
use Rattle.basis_steps.proofs.Growing.{each_at}
use Rattle.basis_steps.proofs.JobProducts.{IsJobProductAt, job_products_from}
use Rattle.basis_core.proofs.AfterPut.{members_length}
use Rattle.basis_steps.specs.Criteria.{IsPair, lcm_of}
use Rattle.basis_steps.specs.Outcomes as plain
use Rattle.basis_steps.specs.Outcomes.{AreJobProducts, IsOutcome, product_at, product_vector}
use Rattle.basis_steps.specs.Pairs.{count, is_same_pair}
use Rattle.basis_steps.specs.States.{Product, Trail, vectors}
use Rattle.basis_core.specs.Chains.{IsTracedTo}
use Rattle.basis_core.specs.Jobs.{HasLcmOfMembers, IsJobOver, pairs_of}
use Rattle.basis_core.specs.Makings.{TrailEndsAs}
use Rattle.basis_core.specs.Members.{IsRunRow, IsMemberShown, Shared, MemberShown, members_of, reduct_rows_of, setting_of}
use Rattle.basis_core.specs.Outcomes.{IsOutcomeOver, OutcomeShown, indexed_product_of, indexed_products_of}
use Rattle.basis_core.specs.Rows.{IsRowTrail, vectors_in}
use Rattle.basis_core.specs.Stops.{IsTrailBy, earlier_products, trail_by, trail_of, trail_over}
use Rattle.basis_core.proofs.Chaining.{nonzero_at}
use Rattle.basis_core.proofs.MemberKeys.{in_occurs, key_occurs, member_vector, vector_at}
use Rattle.basis_core.proofs.Tracing.{HasStoppedRow, at_base, contained_each, listed_length, met_index, pair_counted, product_is, step_behind}
use Rattle.bases.proofs.Leading.{one_not_zero}
use Rattle.residues.proofs.Congruences.{IsCongruent_sym}
use Rattle.basis_steps.specs.Divisions.{IsMonicMember, Occurs}
use Rattle.member_products.specs.declared.member.Reduct.{Reduct as CodeReduct}
use Rattle.basis_core.proofs.Tracking.{last_weighed, ring_lawful, vectors_of_members, vectors_over}

-- ---- lists of products
last_at : (s : KeptProduct) (ss : List KeptProduct) → kept_at (s ∷ ss) (length ss) ≡ last_product s ss
last_at s [] = refl
last_at s (t ∷ ss) = last_at t ss

-- the last of all is the last product of the row
pub last_of_all : (products : List KeptProduct) (s : KeptProduct) (ss : List KeptProduct) → kept_at (products ++ s ∷ ss) (length (products ++ s ∷ ss) - 1) ≡ last_product s ss
last_of_all products s ss =
    let e : length (products ++ s ∷ ss) - 1 ≡ length products + length ss = omega (arith, length-append products (s ∷ ss)) in
    ap (kept_at (products ++ s ∷ ss)) e ∙ step_behind products (s ∷ ss) (length ss) ∙ last_at s ss

products_whole : (n : ℕ) (s : KeptProduct) (ss : List KeptProduct) → indexed_products_of n (earlier_products s ss) ++ (indexed_product_of n (last_product s ss) ∷ []) ≡ indexed_products_of n (s ∷ ss)
products_whole n s [] = refl
products_whole n s (t ∷ ss) = ap (λ l. indexed_product_of n s ∷ l) (products_whole n t ss)

-- ---- monomials of vectors
term_key : (n : ℕ) (v : List (CodeKey × ℕ)) (t : CodeKey × ℕ) → Contains v t → HasKey (sum_of n v) (key_of n t.0)
term_key n [] t (k, l, e) = absurd (omega arith)
term_key n (u ∷ v) t (zero, l, e) = (0, omega arith, ap (λ (z : CodeKey × ℕ). key_of n z.0) e)
term_key n (u ∷ v) t (suc k, l, e) =
    let r = term_key n v t (k, omega arith, e) in
    (suc r.0, omega (arith, r.1), r.2)

monomial_occurs :
    (shared : Shared) (v : List (CodeKey × ℕ)) (m : Monomial)
    → IsVectorOver shared.ring (ring_comparison shared.ring) v → HasMonomial v m
    → (i : ℕ) × Occurs shared.ring.modulus.value (sum_of (variables shared.ring) v) (i, exponents_of (variables shared.ring) m.exponents)
monomial_occurs shared v m h (t, there, e) =
    let n : ℕ = variables shared.ring in (
      t.0.position,
      subst (λ x. Occurs shared.ring.modulus.value (sum_of n v) (t.0.position, exponents_of n x.exponents)) e
          (key_occurs (setting_of n shared) (ring_lawful shared) v (key_of n t.0) h (term_key n v t there)),
    )

each_last : (P : KeptProduct → Type 0) (s : KeptProduct) (ss : List KeptProduct) → Each P (s ∷ ss) → P (last_product s ss)
each_last P s [] h = h.0
each_last P s (t ∷ ss) h = each_last P t ss h.1

-- what a trail has to hold
record HoldsTrail (shared : Shared) (ms : List MemberShown) (o : OutcomeShown) (w : Trail (variables shared.ring)) : Type 0 where
  members : w.members ≡ vectors (members_of (variables shared.ring) ms)
  start : 0 < count w.start (pairs_of o.job.pairs)
  real : IsPair (vectors (members_of (variables shared.ring) ms)) w.start
  products : AreJobProducts shared.ring.modulus.value (vectors (members_of (variables shared.ring) ms)) (w.start ∷ []) (w.earlier ++ (w.last ∷ []))
  monomial : (i : ℕ) × Occurs shared.ring.modulus.value (get_or (vectors (members_of (variables shared.ring) ms)) w.last.0 []) (i, w.monomial)
  above : 65535 < weighted_degree shared.ring.weights w.last.1 + weighted_degree shared.ring.weights w.monomial

module _
    (shared : Shared) (ms : List MemberShown) (o : OutcomeShown) (row : CodeReduct) (taken : List KeptProduct) (last : Monomial)
    (h : HasStoppedRow shared ms o.job.members o.rows o.job.pairs o.products row taken last) (chain : List KeptProduct) (i j : ℕ)
    (c : IsTracedTo (variables shared.ring) shared.ring.weights (vectors_in ms) o.job.pairs (o.products ++ taken) chain i j) where
  abbrev n : ℕ
  n = variables shared.ring

  abbrev p : ℕ
  p = shared.ring.modulus.value

  abbrev vs : List (List (CodeKey × ℕ))
  vs = vectors_in ms

  abbrev G : List (FormalSum (variables shared.ring))
  G = vectors (members_of (variables shared.ring) ms)

  abbrev base : List (FormalSum (variables shared.ring))
  base = vectors (members_of (variables shared.ring) o.job.members)

  abbrev first : KeptProduct
  first = c.first

  abbrev later : List KeptProduct
  later = (c.chain_is).later

  same_last : last_product first later ≡ last_product (h.trail).first (h.trail).later
  same_last = (c.chain_is).last ∙ ap (λ l. kept_at (o.products ++ l) (length (o.products ++ l) - 1)) (h.trail).products
      ∙ last_of_all o.products (h.trail).first (h.trail).later

  counted : 0 < count (i, j) (pairs_of o.job.pairs)
  counted = subst (λ x. 0 < count x (pairs_of o.job.pairs)) c.indices (pair_counted c.pair o.job.pairs (c.lcm).0)

  base_pair : IsPair base (i, j)
  base_pair = count_each (IsPair base) (i, j) (pairs_of o.job.pairs) (h.outcome).pairs counted

  left : i < length o.job.members
  left = omega (arith, base_pair.ordered, base_pair.within, members_length n o.job.members)

  right : j < length o.job.members
  right = omega (arith, base_pair.within, members_length n o.job.members)

  from_base : (k : ℕ) → k < length o.job.members → get_or base k [] ≡ sum_of n (get_or vs k [])
  from_base k l = at_base shared ms o.job.members o.rows o.job.pairs o.products row taken last h k l

  same_vector : (k : ℕ) → k < length o.job.members → get_or G k [] ≡ get_or base k []
  same_vector k l = vector_at n ms k ∙ sym (from_base k l)

  real : IsPair G (i, j)
  real = record {
    ordered = base_pair.ordered;
    within = omega (arith, right, h.fewer, members_length n ms);
    position = ap (λ v. (head_key v).0) (same_vector i left) ∙ base_pair.position ∙ ap (λ v. (head_key v).0) (sym (same_vector j right));
  }

  lcm_key : kept_product_lead n vs first ≡ lcm_of base (i, j)
  lcm_key = (c.lcm).1 ∙ (contained_each (HasLcmOfMembers n shared.ring.weights o.job.members) o.job.pairs c.pair h.lcms (c.lcm).0).lcm ∙ ap (lcm_of base) c.indices

  known : Each (IsKeptProduct n shared.ring.weights vs) (first ∷ later)
  known = (c.chain_is).known

  lead_here : (s : KeptProduct) → plain.product_lead G (indexed_product_of n s) ≡ kept_product_lead n vs s
  lead_here s = ap (λ v. shift (exponents_of n s.1.exponents) (head_key v)) (vector_at n ms s.0)

  numbered : (k : ℕ) → k < length (indexed_products_of n (first ∷ later)) → IsJobProductAt p G ((i, j) ∷ []) (indexed_products_of n (first ∷ later)) k
  numbered zero l = (
    omega (arith, (known.0).0, listed_length ms, members_length n ms),
    inl ((i, j), pair_first, lead_here first ∙ lcm_key ∙ (λ t. key_lcm (head_key (sym (same_vector i left) t)) (head_key (sym (same_vector j right) t)))),
  )
    where
      pair_first : 0 < count (i, j) ((i, j) ∷ [])
      pair_first =
          let one : ◌≡◌ {A = ℕ} (cond (is_same_pair (i, j) (i, j)) 1 0) 1 = ap (λ b. cond b 1 0) (is_same_pair-refl (i, j)) in
          omega (arith, one)
  numbered (suc k) l = (here, go (met_index n [] vs (first ∷ []) later (c.chain_is).met k short))
    where
      short : k < length later
      short = omega (arith, l, length-map later (λ t. indexed_product_of n t))

      is : product_at (indexed_products_of n (first ∷ later)) (suc k) ≡ indexed_product_of n (kept_at later k)
      is = product_is n (first ∷ later) (suc k) (omega (arith, short))

      here : (product_at (indexed_products_of n (first ∷ later)) (suc k)).0 < length G
      here =
          omega (
            arith,
            ap (λ (t : Product n). t.0) is,
            (each_at (IsKeptProduct n shared.ring.weights vs) later k no_product known.1 short).0,
            listed_length ms,
            members_length n ms,
          )

      occurs : (m : ℕ) → m < suc k → IsInProduct n vs (kept_product_lead n vs (kept_at later k)) (kept_at (first ∷ later) m)
          → Occurs p (product_vector G (product_at (indexed_products_of n (first ∷ later)) m))
          (plain.product_lead G (product_at (indexed_products_of n (first ∷ later)) (suc k)))
      occurs m low there = subst (λ (z : Product n × Key n). Occurs p (product_vector G z.0) z.1)
          (λ t. (sym (product_is n (first ∷ later) m (omega (arith, short, low))) t, sym (ap (plain.product_lead G) is ∙ lead_here (kept_at later k)) t))
          (in_occurs (setting_of n shared) (ring_lawful shared) vs G (kept_at (first ∷ later) m) (kept_product_lead n vs (kept_at later k))
          (vector_at n ms (kept_at (first ∷ later) m).0) (member_vector shared ms (kept_at (first ∷ later) m).0 (h.tracked)) there)

      go : HasKey {n = n} [] (kept_product_lead n vs (kept_at later k))
          ⊎ ((m : ℕ) × (m < length (first ∷ []) + k) × IsInProduct n vs (kept_product_lead n vs (kept_at later k)) (kept_at ((first ∷ []) ++ later) m))
          → plain.IsJobLcm G ((i, j) ∷ []) (plain.product_lead G (product_at (indexed_products_of n (first ∷ later)) (suc k)))
          ⊎ plain.OccursBefore p G (indexed_products_of n (first ∷ later)) (suc k) (plain.product_lead G (product_at (indexed_products_of n (first ∷ later)) (suc k)))
      go (inl (m, low, e)) = absurd (let z : m < 0 = low in omega arith)
      go (inr (m, low, there)) = inr (m, omega (arith, low), omega (arith, l, low), occurs m (omega (arith, low)) there)

  products : AreJobProducts p G ((i, j) ∷ []) (indexed_products_of n (first ∷ later))
  products = job_products_from p G ((i, j) ∷ []) (indexed_products_of n (first ∷ later)) numbered

  of_last : IsOfProduct vs (last_product first later) last
  of_last = subst (λ s. IsOfProduct vs s last) (sym same_last) (h.trail).monomial

  monomial : (k : ℕ) × Occurs p (get_or G (last_product first later).0 []) (k, exponents_of n last.exponents)
  monomial =
      let r = monomial_occurs shared (get_or vs (last_product first later).0 []) last (member_vector shared ms (last_product first later).0 h.tracked) of_last in
      (r.0, subst (λ v. Occurs p v (r.0, exponents_of n last.exponents)) (sym (vector_at n ms (last_product first later).0)) r.1)

  last_here : IsMonomialOver shared.ring last
  last_here = last_weighed shared ms (last_product first later) last h.tracked of_last

  too_great : 65535 < (last_product first later).1.degree + last.degree
  too_great = subst (λ (s : KeptProduct). 65535 < s.1.degree + last.degree) (sym same_last) (h.trail).too_great

  above :
      65535
      < weighted_degree shared.ring.weights (exponents_of n (last_product first later).1.exponents)
      + weighted_degree shared.ring.weights (exponents_of n last.exponents)
  above = omega (arith, too_great, (each_last (IsKeptProduct n shared.ring.weights vs) first later known).1.degree, last_here.degree)

  -- the trail with these fields
  abbrev whole : KeptTrail → KeptTrail
  whole t = record t {
    ring = shared.ring;
    rank = shared.rank;
    generators = shared.generators;
    start = starts.Pair i j;
    vector = [];
    members = vectors_in ms;
    last = last;
  }

  holds : (t : KeptTrail) → HoldsTrail shared ms o (trail_by n (whole t) first later)
  holds t = record {
    members = sym (vectors_of_members n ms);
    start = counted;
    real = real;
    products = subst (AreJobProducts p G ((i, j) ∷ [])) (sym (products_whole n first later)) products;
    monomial = monomial;
    above = above;
  }

  steps_known : (ss : List KeptProduct) → Each (IsKeptProduct n shared.ring.weights vs) ss → Each (λ s. s.0 < length vs) ss
  steps_known [] k = tt
  steps_known (s ∷ ss) k = ((k.0).0, steps_known ss k.1)

  steps_weighed : (ss : List KeptProduct) → Each (IsKeptProduct n shared.ring.weights vs) ss → Each (λ s. IsMonomialOver shared.ring s.1) ss
  steps_weighed [] k = tt
  steps_weighed (s ∷ ss) k = ((k.0).1, steps_weighed ss k.1)

  kept_chain :
      Each (λ m. 0 < length m.vector) ms → (t : KeptTrail) → t.products.items ≡ chain → IsChain n (whole t) first later
  kept_chain some t e = record {
    products = e ∙ (c.chain_is).products;
    known = steps_known (first ∷ later) known;
    variables = steps_weighed (first ∷ later) known;
    begins = (
      record {
        left = omega (arith, left, h.fewer, listed_length ms);
        right = omega (arith, right, h.fewer, listed_length ms);
        left_some = nonzero_at ms i some (omega (arith, left, h.fewer, listed_length ms));
        right_some = nonzero_at ms j some (omega (arith, right, h.fewer, listed_length ms));
        apart = λ s. omega (arith, s, base_pair.ordered);
        position = ap (λ v. (head_key v).0) (sym (from_base i left)) ∙ base_pair.position ∙ ap (λ v. (head_key v).0) (from_base j right);
        lcm = lcm_key ∙ (λ k. key_lcm (head_key (from_base i left k)) (head_key (from_base j right k)));
      },
      refl,
    );
    met = (c.chain_is).met;
    last = of_last;
    last_variables = last_here;
    too_great = too_great;
  }

  pub trail_at :
      Each (λ m. 0 < length m.vector) ms → (t : KeptTrail) → t.products.items ≡ chain → t.below.items ≡ [] → t ≡ whole t
      → IsTrailBy shared ms (pairs_of o.job.pairs) t
  trail_at some t e b w =
      let at : trail_of n (whole t) ≡ trail_by n (whole t) first later = ap (trail_over n (whole t)) (e ∙ (c.chain_is).products) in
      let all : HoldsTrail shared ms o (trail_of n (whole t)) = subst (HoldsTrail shared ms o) (sym at) (holds t) in
      subst (IsTrailBy shared ms (pairs_of o.job.pairs)) (sym w)
      (record {
        pair = record {
          over = record {
            trail = (first, later, kept_chain some t e);
            ring = refl;
            rank = refl;
            generators = refl;
            below = b;
            vectors = vectors_over shared ms h.tracked;
          };
          vector = refl;
          start = (i, j, refl);
        };
        members = all.members;
        start = all.start;
        real = all.real;
        products = all.products;
        monomial = all.monomial;
        above = all.above;
      })

  pub ends_as : (t : KeptTrail) → t.products.items ≡ chain → t ≡ whole t → TrailEndsAs n taken t
  ends_as t e w =
      let at : trail_of n (whole t) ≡ trail_by n (whole t) first later = ap (trail_over n (whole t)) (e ∙ (c.chain_is).products) in
      record {
        first = (h.trail).first;
        later = (h.trail).later;
        products_are = (h.trail).products;
        last = ap (λ z. (trail_of n z).last) w ∙ ap (λ (z : Trail n). z.last) at ∙ ap (indexed_product_of n) same_last;
      }

-- ---- what the calls of a Put that stops have
pub has_stopped_row :
    (shared : Shared) (ms : List MemberShown) (o : OutcomeShown) (taken : List KeptProduct) (last : Monomial)
    → Each (IsMemberShown shared) ms → o.job.shared ≡ shared → IsOutcomeOver o → IsJobOver o.job
    → o.job.members ≡ take (length o.job.members) ms
    → (r : (row : CodeReduct) × Contains o.rows row × IsRowTrail (variables shared.ring) shared.ring.weights ms row.vector taken last)
    → HasStoppedRow shared ms o.job.members o.rows o.job.pairs o.products r.0 taken last
has_stopped_row shared ms o taken last tracked same outcome job front r = record {
  tracked = tracked;
  rows_over = subst (λ (sh : Shared). Each (IsRunRow sh (length o.job.members)) o.rows) same outcome.rows;
  front = front;
  fewer = omega (arith, ap length front, length-take (length o.job.members) ms);
  lcms = subst (λ (sh : Shared). Each (HasLcmOfMembers (variables sh.ring) sh.ring.weights o.job.members) o.job.pairs) same job.lcms;
  known = subst (λ (sh : Shared). Each (λ t. IsMonomialOver sh.ring t.1) o.products) same outcome.weighed;
  outcome = subst (λ (sh : Shared). IsOutcome (setting_of (variables sh.ring) sh) (vectors (members_of (variables sh.ring) o.job.members)) (pairs_of o.job.pairs) (reduct_rows_of (variables sh.ring) o.rows) (indexed_products_of (variables sh.ring) o.products)) same outcome.outcome;
  there = r.1;
  trail = r.2;
}

pub members_nonzero : (shared : Shared) (ms : List MemberShown)
    → Each (IsMonicMember (setting_of (variables shared.ring) shared)) (vectors (members_of (variables shared.ring) ms)) → Each (λ m. 0 < length m.vector) ms
members_nonzero shared [] h = tt
members_nonzero shared (m ∷ ms) h = (go m.vector h.0, members_nonzero shared ms h.1)
  where
    go : (v : List (CodeKey × ℕ)) → IsMonicMember (setting_of (variables shared.ring) shared) (sum_of (variables shared.ring) v) → 0 < length v
    go [] h = absurd (one_not_zero (setting_of (variables shared.ring) shared) (ring_lawful shared) (IsCongruent_sym h.monic.one))
    go (t ∷ v) h = omega arith

pub lcm_weighed :
    (n : ℕ) (ws : List ℕ) (ms : List MemberShown) (xs : List CodePair) → Each (HasLcmOfMembers n ws ms) xs → Each (λ x. IsWeighed n ws x.lcm.monomial) xs
lcm_weighed n ws ms [] h = tt
lcm_weighed n ws ms (x ∷ xs) h = (h.0.weighed, lcm_weighed n ws ms xs h.1)
