-- A member with its tail reduced
use Rattle.std.specs.Prelude.{IfOk, List, MatchResult, [], drop, get_or, length, map, take, ⊤, ℕ, ◌++◌, ◌-◌, ◌<◌, ◌≤◌, ◌∷◌, ◌≡◌}
use Rattle.std.specs.declared.cmp.Ordering.{Ordering}
use Rattle.std.specs.declared.result.Result.{Result}
use Rattle.std.specs.declared.result.Result.TheVariants.{Err, Ok}
use Rattle.formal_sums.specs.Combinations.{IsMember, combination}
use Rattle.formal_sums.specs.FormalSums.{Each, Key}
use Rattle.bases.specs.Leads.{head_coefficient, head_key}
use Rattle.term_lists.specs.Rings.{variables}
use Rattle.term_lists.specs.Vectors.{IsVectorOver, StandsFor, sum_of, sums_of}
use Rattle.term_lists.specs.declared.key.Key.{Key as CodeKey}
use Rattle.term_lists.specs.declared.ring.Ring.{Ring}
use Rattle.module_vectors.specs.Trails.{lead_at}
use Rattle.module_vectors.specs.declared.trail.KeptTrail.{KeptTrail}
use Rattle.module_vectors.specs.declared.trail.WorkStop.{WorkStop}
use Rattle.module_vectors.specs.declared.trail.WorkStop.TheVariants.{Degree, Memory}
use Rattle.vector_division.specs.Divisions.{IsDivisionTrail, IsFreeOfLeads}
use Rattle.vector_division.specs.Reductions.{AreMetFrom, IsScaledProduct, cofactors_of}
use Rattle.vector_division.specs.declared.reduction.ScaledProduct.{ScaledProduct}
use Rattle.interreduce.specs.Leads.{AreNeeded}
use Rattle.interreduce.specs.Trails.{MemberStops}

-- v is member i with its tail reduced: a monic vector with the same lead, of what the list generates, and no lead of the list
-- divides a key behind its first (IVA chapter 2, section 7)
pub record IsReducedMember (ring : Ring) (compare : (n : ℕ) → Key n → Key n → Ordering) (list : List (List (CodeKey × ℕ))) (i : ℕ)
    (v : List (CodeKey × ℕ)) : Type 0 where
  pub vector : IsVectorOver ring compare v
  pub lead : head_key (sum_of (variables ring) v) ≡ lead_at (variables ring) list i
  pub monic : head_coefficient (sum_of (variables ring) v) ≡ 1
  pub generated : IsMember ring.modulus.value (sums_of (variables ring) list) (sum_of (variables ring) v)
  pub tail : IsFreeOfLeads (sums_of (variables ring) list) (drop 1 (sum_of (variables ring) v))

-- v is w with its tail reduced by the list: a monic vector with the same lead, of what w and the list generate, and no lead of the
-- list divides a key behind its first
pub record HasReducedTail (ring : Ring) (compare : (n : ℕ) → Key n → Key n → Ordering) (list : List (List (CodeKey × ℕ)))
    (w v : List (CodeKey × ℕ)) : Type 0 where
  pub vector : IsVectorOver ring compare v
  pub lead : head_key (sum_of (variables ring) v) ≡ head_key (sum_of (variables ring) w)
  pub monic : head_coefficient (sum_of (variables ring) v) ≡ 1
  pub generated : IsMember ring.modulus.value (sums_of (variables ring) (w ∷ list)) (sum_of (variables ring) v)
  pub tail : IsFreeOfLeads (sums_of (variables ring) list) (drop 1 (sum_of (variables ring) v))

-- the members with these indices, each with its tail reduced, in the same order
pub record AreReducedMembers (ring : Ring) (compare : (n : ℕ) → Key n → Key n → Ordering) (list : List (List (CodeKey × ℕ))) (kept : List ℕ)
    (answer : List (List (CodeKey × ℕ))) : Type 0 where
  pub count : length answer ≡ length kept
  pub each : (k : ℕ) → k < length answer → IsReducedMember ring compare list (get_or kept k 0) (get_or answer k [])

-- v can be divided by the list: products within the bound of the degree, each met by v or by an earlier one, leave a rest of which no
-- key is divisible by a lead of the list (IVA chapter 2, section 3)
pub record HasDivision (ring : Ring) (list : List (List (CodeKey × ℕ))) (v : List (CodeKey × ℕ)) : Type 0 where
  pub products : List ScaledProduct
  pub rest : List (CodeKey × ℕ)
  pub known : Each (IsScaledProduct (variables ring) ring.weights ring.modulus.value list) products
  pub met : AreMetFrom (variables ring) (sum_of (variables ring) v) list [] products
  pub sum : StandsFor ring v (combination (sums_of (variables ring) list) (cofactors_of (variables ring) products) ++ sum_of (variables ring) rest)
  pub free : IsFreeOfLeads (sums_of (variables ring) list) (sum_of (variables ring) rest)

-- v is member i with its tail reduced, which was divided by the list
pub record IsDividedMember (ring : Ring) (compare : (n : ℕ) → Key n → Key n → Ordering) (list : List (List (CodeKey × ℕ))) (i : ℕ)
    (v : List (CodeKey × ℕ)) : Type 0 where
  pub member : IsReducedMember ring compare list i v
  pub divided : HasDivision ring list (drop 1 (get_or list i []))

-- member i with its tail reduced, or why it is not
abbrev pub ReducesMember : (ring : Ring) → ((n : ℕ) → Key n → Key n → Ordering) → List (List (CodeKey × ℕ)) → ℕ → Result (List (CodeKey × ℕ)) WorkStop → Type 0
ReducesMember ring compare list i r = MatchResult r (IsDividedMember ring compare list i) (MemberStops ring list i)

-- member i with its tail reduced by these vectors; nothing is said of a stop
abbrev pub ReducesTail : (ring : Ring) → ((n : ℕ) → Key n → Key n → Ordering) → List (List (CodeKey × ℕ)) → List (List (CodeKey × ℕ)) → ℕ
    → Result (List (CodeKey × ℕ)) WorkStop → Type 0
ReducesTail ring compare list known i r = IfOk r (HasReducedTail ring compare known (get_or list i []))

-- the members with these indices, each with its tail reduced by these vectors, in the same order
pub record HaveReducedTails (ring : Ring) (compare : (n : ℕ) → Key n → Key n → Ordering) (list known : List (List (CodeKey × ℕ)))
    (indices : List ℕ) (answer : List (List (CodeKey × ℕ))) : Type 0 where
  pub count : length answer ≡ length indices
  pub each : (k : ℕ) → k < length answer → HasReducedTail ring compare known (get_or list (get_or indices k 0) []) (get_or answer k [])

-- the known vectors, and behind them the members of a batch with their tails reduced: by these and by the batch but its last one
pub record AreBatchOf (ring : Ring) (compare : (n : ℕ) → Key n → Key n → Ordering) (list known : List (List (CodeKey × ℕ)))
    (batch : List ℕ) (answer : List (List (CodeKey × ℕ))) : Type 0 where
  pub members : List (List (CodeKey × ℕ))
  pub behind : answer ≡ known ++ members
  pub tails : HaveReducedTails ring compare list (known ++ map (λ i. get_or list i []) (take (length batch - 1) batch)) batch members

-- so many vectors are these members, and those behind them are the first of the needed members with their tails reduced
pub record AreReducedTo (ring : Ring) (compare : (n : ℕ) → Key n → Key n → Ordering) (list : List (List (CodeKey × ℕ))) (kept others : List ℕ)
    (width reached : ℕ) (known : List (List (CodeKey × ℕ))) : Type 0 where
  pub front : take width known ≡ map (λ i. get_or list i []) others
  pub long : width ≤ length known
  pub count : length (drop width known) ≡ reached
  pub each : (k : ℕ) → k < reached → IsReducedMember ring compare list (get_or kept k 0) (get_or (drop width known) k [])

-- the trail is that of the first of these members whose tail can't be divided by the list: the tails of those before it are
pub record IsFirstTrail (ring : Ring) (compare : (n : ℕ) → Key n → Key n → Ordering) (list : List (List (CodeKey × ℕ))) (kept : List ℕ)
    (t : KeptTrail) : Type 0 where
  pub before : List (List (CodeKey × ℕ))
  pub fewer : length before < length kept
  pub reduced : AreReducedMembers ring compare list (take (length before) kept) before
  pub divided : (k : ℕ) → k < length before → HasDivision ring list (drop 1 (get_or list (get_or kept k 0) []))
  pub division : IsDivisionTrail ring (get_or list (get_or kept (length before) 0) []) list t

-- Degree comes with such a trail alone
abbrev pub StopsAtFirst : (ring : Ring) → ((n : ℕ) → Key n → Key n → Ordering) → List (List (CodeKey × ℕ)) → List ℕ → WorkStop → Type 0
StopsAtFirst ring compare list kept Memory = ⊤
StopsAtFirst ring compare list kept (Degree t) = IsFirstTrail ring compare list kept t

-- Degree comes with the trail of the first of the needed members, by ascending leads, whose tail can't be divided by the list
abbrev pub StopsAtLeast : (ring : Ring) → ((n : ℕ) → Key n → Key n → Ordering) → List (List (CodeKey × ℕ)) → WorkStop → Type 0
StopsAtLeast ring compare list Memory = ⊤
StopsAtLeast ring compare list (Degree t) =
    (kept : List ℕ) × AreNeeded (variables ring) (compare (variables ring)) list kept × IsFirstTrail ring compare list kept t

-- Degree is the first refusal of the list
abbrev pub IsFirstRefusal : List (Result (List (CodeKey × ℕ)) WorkStop) → WorkStop → Type 0
IsFirstRefusal answers Memory = ⊤
IsFirstRefusal answers (Degree t) =
    (before : List (List (CodeKey × ℕ))) × (after : List (Result (List (CodeKey × ℕ)) WorkStop)) × (answers ≡ map Ok before ++ Err (Degree t) ∷ after)
