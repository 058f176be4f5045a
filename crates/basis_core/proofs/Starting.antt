-- The members that the generators make, one after another, and the state that a run begins with
use Rattle.std.proofs.Common.{List, None, [], add-one, ap, arith, false, get_or, length, refl, subst, subst₂, suc, sym, take, zero, ℕ, ◌++◌, ◌+◌, ◌<◌}
use Rattle.std.proofs.Common.{◌∙◌, ◌∷◌, ◌≡◌, ◌≤◌}
use Rattle.std.proofs.Math.ListN.{get_or-map}
use Rattle.std.proofs.lemmas.List.{length-map, map-append, take_all}
use Rattle.monomials.specs.Exponents.{unit}
use Rattle.formal_sums.specs.FormalSums.{Each, FormalSum}
use Rattle.bases.proofs.NormalForms.{normal_unique}
use Rattle.monomial_orders.specs.Kept.{IsWeighed, Monomial}
use Rattle.term_lists.proofs.NormalVectors.{residues_of}
use Rattle.term_lists.specs.Rings.{ring_comparison, variables}
use Rattle.term_lists.specs.Vectors.{AreVectorsOver, sum_of, sums_of}
use Rattle.term_lists.specs.declared.key.Key.{Key as CodeKey}
use Rattle.term_lists.specs.declared.ring.Ring.{Ring}
use Rattle.module_vectors.specs.Trails.{IsChain, KeptProduct, last_product}
use Rattle.module_vectors.specs.declared.trail.KeptTrail.{KeptTrail}
use Rattle.module_vectors.specs.declared.trail.TrailStart.TheVariants as starts
use Rattle.formal_sums.proofs.OfRank.{IsOfRank_of}
use Rattle.member_products.proofs.Ranks.{ranked_by}
use Rattle.member_products.specs.Generators.{AreGenerators, IsRanked, IsVectorOf}
use Rattle.member_products.specs.declared.member.Reduct.{Reduct as CodeReduct}
use Rattle.basis_steps.proofs.Making.{makes_members}
use Rattle.basis_steps.specs.Divisions.{IsMonicMember, MakesMembers}
use Rattle.basis_steps.specs.Updates.{QueuesPairs}
use Rattle.basis_steps.specs.States as plain
use Rattle.basis_steps.specs.States.{Member, vectors}
use Rattle.basis_steps.specs.Steps.{Begins, Reaches, Replays, generator_rows, none_ended}
use Rattle.basis_core.proofs.Making.{makes_append}
use Rattle.basis_core.proofs.Tracking.{last_weighed, ring_lawful, vectors_of_members, vectors_over}
use Rattle.basis_core.specs.Answers.{IsBeginningTrail}
use Rattle.basis_core.specs.Beginning.{HaveMade, IsUnitMultiple}
use Rattle.basis_core.specs.Inside.{shown}
use Rattle.basis_core.specs.Jobs.{pairs_of}
use Rattle.basis_core.specs.Members.{IsRunMember, IsMemberShown, Shared, MemberShown, member_of, members_of, setting_of}
use Rattle.basis_core.specs.RowDivision.{with_multiple}
use Rattle.basis_core.specs.Rows.{IsRowTrail, vectors_in}
use Rattle.basis_core.specs.Shown.{Shown}
use Rattle.basis_core.specs.Stops.{stop_of}
use Rattle.basis_core.specs.Views.{history_of, run_of, state_of}
use Rattle.basis_core.specs.declared.state.BasisState.TheInside.{Inside}

-- ---- who has ended
pub none_ended_more : (k : ℕ) → none_ended (k + 1) ≡ none_ended k ++ false ∷ []
none_ended_more k = ap none_ended (add-one k) ∙ go k
  where
    go : (k : ℕ) → none_ended (suc k) ≡ none_ended k ++ false ∷ []
    go zero = refl
    go (suc k) = ap (λ l. false ∷ l) (go k)

-- ---- rows of generators
-- generator i as a row
abbrev generator_row : {n : ℕ} → FormalSum n → ℕ → Member n
generator_row {n} f i = record { vector = f; multiple = ((i, unit n), 1) ∷ []; products = [] }

rows_more :
    {n : ℕ} (fs : List (FormalSum n)) (k i : ℕ)
    → i < length fs
    → generator_rows k (take (suc i) fs) ≡ generator_rows k (take i fs) ++ generator_row (get_or fs i []) (k + i) ∷ []
rows_more [] k i lt = absurd (omega arith)
rows_more {n} (f ∷ fs) k zero lt =
    let e : k ≡ k + 0 = omega arith in
    ap (λ (j : ℕ). generator_row f j ∷ []) e
rows_more {n} (f ∷ fs) k (suc i) lt =
    let e : (k + 1) + i ≡ k + suc i = omega arith in
    ap (λ (l : List (Member n)). generator_row f k ∷ l)
    (rows_more fs (k + 1) i (omega arith)
    ∙ ap (λ (j : ℕ). generator_rows (k + 1) (take i fs) ++ generator_row (get_or fs i []) j ∷ []) e)

-- 1 times a generator is one term
unit_terms :
    (shared : Shared) (i : ℕ) (multiple : List (CodeKey × ℕ))
    → IsVectorOf shared.ring multiple → IsUnitMultiple shared.ring i multiple
    → sum_of (variables shared.ring) multiple ≡ ((i, unit (variables shared.ring)), 1) ∷ []
unit_terms shared i multiple v u =
    let n = variables shared.ring in
    let above : 1 < shared.ring.modulus.value = (ring_lawful shared).domain.above_one in
    normal_unique (setting_of n shared) (ring_lawful shared) (sum_of n multiple) (((i, unit n), 1) ∷ []) v.descends (tt, tt)
    (residues_of n shared.ring.weights shared.ring.modulus.value multiple v.each) ((omega arith, above), tt) u

-- it is of a generator
pub unit_ranked :
    (shared : Shared) (i : ℕ) (multiple : List (CodeKey × ℕ))
    → i < length shared.generators → IsVectorOf shared.ring multiple → IsUnitMultiple shared.ring i multiple
    → IsRanked shared.ring (length shared.generators) multiple
unit_ranked shared i multiple lt v u =
    let p : ℕ = shared.ring.modulus.value in
    ranked_by shared.ring (length shared.generators) multiple _ v u
    (IsOfRank_of p (length shared.generators) (((i, unit (variables shared.ring)), 1) ∷ []) (lt, tt))

-- the generator with a number is of the run's ring and rank
pub generator_ranked : (ring : Ring) (rank : ℕ) (fs : List (List (CodeKey × ℕ))) (i : ℕ) → AreGenerators ring rank fs → i < length fs
    → IsRanked ring rank (get_or fs i [])
generator_ranked ring rank [] i h lt = absurd (omega arith)
generator_ranked ring rank (f ∷ fs) zero h lt = h.0
generator_ranked ring rank (f ∷ fs) (suc i) h lt = generator_ranked ring rank fs i h.1 (omega arith)

-- a generator, as a row with its multiple, is of vectors of the run
pub generator_member :
    (shared : Shared) (ms : List MemberShown) (i : ℕ) (row : CodeReduct) (multiple : List (CodeKey × ℕ))
    → AreGenerators shared.ring shared.rank shared.generators → i < length shared.generators
    → row.vector ≡ get_or shared.generators i [] → row.products ≡ [] → IsVectorOf shared.ring multiple → IsUnitMultiple shared.ring i multiple
    → IsRunMember shared (length ms) (with_multiple row multiple)
generator_member shared ms i row multiple h lt e p v u = record {
  vector = subst (IsRanked shared.ring shared.rank) (sym e) (generator_ranked shared.ring shared.rank shared.generators i h lt);
  multiple = unit_ranked shared i multiple lt v u;
  products = subst (IsRanked shared.ring (length ms)) (sym p) (record { vector = record { each = tt; descends = tt }; positions = tt });
}

module _ (shared : Shared) where
  abbrev n : ℕ
  n = variables shared.ring

  abbrev fs : List (FormalSum n)
  fs = sums_of n shared.generators

  -- the row of a generator
  row_is :
      (i : ℕ) (row : CodeReduct) (multiple : List (CodeKey × ℕ))
      → row.vector ≡ get_or shared.generators i [] → row.products ≡ [] → IsVectorOf shared.ring multiple → IsUnitMultiple shared.ring i multiple
      → member_of n (with_multiple row multiple) ≡ generator_row (get_or fs i []) (0 + i)
  row_is i row multiple e p v u =
      let zero_more : i ≡ 0 + i = omega arith in
      let vector : sum_of n row.vector ≡ get_or fs i [] = ap (sum_of n) e ∙ sym (get_or-map (sum_of n) shared.generators i []) in
      let terms : sum_of n multiple ≡ ((0 + i, unit n), 1) ∷ [] = unit_terms shared i multiple v u ∙ ap (λ (j : ℕ). ((j, unit n), 1) ∷ []) zero_more in
      λ t. record { vector = vector t; multiple = terms t; products = sum_of n (p t) }

  -- one generator more
  pub made_more :
      (i : ℕ) (ms made more : List MemberShown) (row : CodeReduct) (multiple : List (CodeKey × ℕ))
      → i < length shared.generators → HaveMade shared i ms → row.vector ≡ get_or shared.generators i [] → row.products ≡ []
      → IsVectorOf shared.ring multiple → IsUnitMultiple shared.ring i multiple → more ≡ ms ++ made
      → MakesMembers (setting_of n shared) (vectors (members_of n ms)) (member_of n (with_multiple row multiple) ∷ []) (members_of n made)
      → HaveMade shared (i + 1) more
  made_more i ms made more row multiple lt h e p v u em g =
      let S = setting_of n shared in
      let lf : i < length fs = omega (arith, length-map shared.generators (sum_of n)) in
      let one : Member n = member_of n (with_multiple row multiple) in
      let rows : generator_rows 0 (take i fs) ++ (one ∷ []) ≡ generator_rows 0 (take (i + 1) fs) =
      ap (λ (m : Member n). generator_rows 0 (take i fs) ++ (m ∷ [])) (row_is i row multiple e p v u) ∙ sym (rows_more fs 0 i lf)
      ∙ ap (λ (j : ℕ). generator_rows 0 (take j fs)) (sym (add-one i)) in
      let members : members_of n ms ++ members_of n made ≡ members_of n more = sym (map-append (λ m. member_of n m) ms made) ∙ ap (members_of n) (sym em) in
      subst₂ (λ (r : List (Member n)) (m : List (Member n)). MakesMembers S [] r m) rows members
      (makes_append S [] (generator_rows 0 (take i fs)) (members_of n ms) (one ∷ []) (members_of n made) h g)

  -- they are monic
  pub made_monic : (i : ℕ) (ms : List MemberShown) → HaveMade shared i ms → Each (IsMonicMember (setting_of n shared)) (vectors (members_of n ms))
  made_monic i ms h = makes_members (setting_of n shared) (ring_lawful shared) [] (generator_rows 0 (take i fs)) (members_of n ms) h tt

-- ---- the trail of a generator that is not divided
pub beginning_kept :
    (shared : Shared) (ms : List MemberShown) (v : List (CodeKey × ℕ)) (number : ℕ) (products : List KeptProduct) (last : Monomial) (t : KeptTrail)
    → number < length shared.generators → v ≡ get_or shared.generators number [] → HaveMade shared number ms
    → Each (IsMemberShown shared) ms → IsRowTrail (variables shared.ring) shared.ring.weights ms v products last → t.ring ≡ shared.ring → t.rank ≡ shared.rank
    → t.generators ≡ shared.generators → t.below.items ≡ [] → t.start ≡ starts.Term → t.vector ≡ v
    → t.members ≡ vectors_in ms → t.products.items ≡ products → t.last ≡ last
    → IsBeginningTrail (variables shared.ring) shared t
beginning_kept shared ms v number products last t lt e made tracked h e_ring e_rank e_generators e_below e_start e_vector e_members e_steps e_last = record {
  over = record {
    trail = (
      h.first,
      h.later,
      subst (λ (r : Ring). IsChain (variables r) t h.first h.later) (sym e_ring) (record {
        products = e_steps ∙ h.products;
        known = subst (λ (k : ℕ). Each (λ s. s.0 < k) (h.first ∷ h.later)) (sym (ap length e_members ∙ length-map ms (λ m. m.vector))) h.known;
        variables = subst (λ (r : Ring). Each (λ s. IsWeighed (variables shared.ring) r.weights s.1) (h.first ∷ h.later)) (sym e_ring) h.weighed;
        begins = rw (e_start, e_vector, e_members) h.begins;
        met = rw (e_vector, e_members) h.met;
        last = rw (e_members, e_last) h.monomial;
        last_variables = rw (e_ring, e_last) (last_weighed shared ms (last_product h.first h.later) last tracked h.monomial);
        too_great = rw e_last h.too_great;
      }),
    );
    ring = e_ring;
    rank = e_rank;
    generators = e_generators;
    below = e_below;
    vectors = subst (AreVectorsOver shared.ring (ring_comparison shared.ring)) (sym e_members) (vectors_over shared ms tracked);
  };
  start = e_start;
  number = number;
  known = lt;
  vector = e_vector ∙ e;
  made = members_of (variables shared.ring) ms;
  makes = made;
  members = ap (sums_of (variables shared.ring)) e_members ∙ sym (vectors_of_members (variables shared.ring) ms);
}

-- no generator yet
pub none_made : (shared : Shared) (ms : List MemberShown) → ms ≡ [] → HaveMade shared 0 ms
none_made shared ms e = subst (HaveMade shared 0) (sym e) (go (sums_of (variables shared.ring) shared.generators))
  where
    go : (xs : List (FormalSum (variables shared.ring))) → MakesMembers (setting_of (variables shared.ring) shared) [] (generator_rows 0 (take 0 xs)) []
    go [] = refl
    go (x ∷ xs) = refl

-- all of them
all_made :
    (shared : Shared) (k : ℕ) (ms : List MemberShown)
    → k ≡ length shared.generators → HaveMade shared k ms
    → MakesMembers (setting_of (variables shared.ring) shared) [] (generator_rows 0 (sums_of (variables shared.ring) shared.generators))
    (members_of (variables shared.ring) ms)
all_made shared k ms e h =
    let fs = sums_of (variables shared.ring) shared.generators in
    let le : length fs ≤ k = omega (arith, length-map shared.generators (sum_of (variables shared.ring))) in
    subst (λ (l : List (FormalSum (variables shared.ring))). MakesMembers (setting_of (variables shared.ring) shared) [] (generator_rows 0 l)
    (members_of (variables shared.ring) ms)) (take_all k fs le) h

-- ---- the state at the beginning
begun :
    (n : ℕ) (s : Shown)
    → MakesMembers (setting_of n s.shared) [] (generator_rows 0 (sums_of n s.shared.generators)) (members_of n s.members)
    → QueuesPairs s.update (setting_of n s.shared) 0 (vectors (members_of n s.members)) [] [] s.queue s.dropped → s.out ≡ [] → s.taken ≡ 0
    → s.ended ≡ none_ended s.workers → s.stop ≡ None → s.history ≡ [] → Begins (run_of n s) (state_of n s)
begun n s makes queues out taken ended stop history = record {
  makes = makes;
  queues = queues;
  out = out;
  taken = taken;
  ended = ended;
  stop = ap (stop_of n) stop;
  history = ap (history_of n s.members s.stop) history;
}

-- the same of the fields of a state
pub begun_inside :
    (i : Inside)
    → HaveMade i.members.shared (length i.members.shared.generators) i.members.list
    → QueuesPairs i.pairs.update (setting_of (variables i.members.shared.ring) i.members.shared) 0
    (vectors (members_of (variables i.members.shared.ring) i.members.list)) [] [] (pairs_of i.pairs.queue) i.pairs.dropped
    → i.pairs.out ≡ [] → i.taken ≡ 0 → i.ended.items ≡ none_ended i.workers → i.stop ≡ None → i.history.items ≡ []
    → Begins (run_of (variables i.members.shared.ring) (shown i)) (state_of (variables i.members.shared.ring) (shown i))
begun_inside i made queues out taken ended stop history =
    begun (variables i.members.shared.ring) (shown i) (all_made i.members.shared (length i.members.shared.generators) i.members.list refl made)
    queues out taken ended stop history

-- it replays no event
pub begun_replays : {n : ℕ} (r : plain.Run n) (s : plain.State n) → Begins r s → Replays r s
begun_replays {n} r s h = (s, h, subst (λ (es : List (plain.Event n)). Reaches r s es s) (sym h.history) refl)
