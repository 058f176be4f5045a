-- Members that are reduced side by side
use Rattle.std.proofs.Common.{Err, List, Ok, [], ap, arith, drop, length, sym, map, refl, subst, suc, take, zero, ℕ, ◌++◌, ◌+◌, ◌<◌, ◌∷◌, ◌≡◌}
use Rattle.std.specs.Prelude.{IfErr, get_or}
use Rattle.std.specs.List.{AllZip}
use Rattle.std.proofs.lemmas.List.{get_or-take, length-take-le}
use Rattle.std.specs.declared.cmp.Ordering.{Ordering}
use Rattle.std.specs.declared.result.Result.{Result}
use Rattle.formal_sums.specs.FormalSums.{Key}
use Rattle.term_lists.specs.declared.key.Key.{Key as CodeKey}
use Rattle.term_lists.specs.declared.ring.Ring.{Ring}
use Rattle.module_vectors.specs.declared.trail.WorkStop.{WorkStop}
use Rattle.module_vectors.specs.declared.trail.WorkStop.TheVariants.{Degree, Memory}
use Rattle.vector_division.specs.Divisions.{IsDivisionTrail}
use Rattle.interreduce.specs.Members.{AreReducedMembers, HasDivision, HasReducedTail, HaveReducedTails, IsFirstRefusal, IsReducedMember, ReducesMember, ReducesTail, StopsAtFirst}
use Rattle.interreduce.specs.Trails.{MemberStops}

module _ (ring : Ring) (compare : (n : ℕ) → Key n → Key n → Ordering) (list : List (List (CodeKey × ℕ))) where
  next_reduced :
      (i : ℕ) (indices : List ℕ) (v : List (CodeKey × ℕ)) (vs : List (List (CodeKey × ℕ))) → IsReducedMember ring compare list i v
      → AreReducedMembers ring compare list indices vs → AreReducedMembers ring compare list (i ∷ indices) (v ∷ vs)
  next_reduced i indices v vs h rest = record { count = ap suc rest.count; each = go }
    where
      go : (k : ℕ) → k < length (v ∷ vs) → IsReducedMember ring compare list (get_or (i ∷ indices) k 0) (get_or (v ∷ vs) k [])
      go zero l = h
      go (suc k) l = rest.each k (omega arith)

  all_reduced :
      (indices : List ℕ) (vs : List (List (CodeKey × ℕ))) → AllZip (ReducesMember ring compare list) indices (map Ok vs)
      → AreReducedMembers ring compare list indices vs
  all_reduced [] [] h = record { count = refl; each = λ k l. absurd (omega (arith, l)) }
  all_reduced [] (v ∷ vs) h = absurd h
  all_reduced (i ∷ indices) [] h = absurd h
  all_reduced (i ∷ indices) (v ∷ vs) h = next_reduced i indices v vs h.0.member (all_reduced indices vs h.1)

  -- the same of tails that were reduced by other vectors
  all_tails :
      (known : List (List (CodeKey × ℕ))) (indices : List ℕ) (vs : List (List (CodeKey × ℕ)))
      → AllZip (ReducesTail ring compare list known) indices (map Ok vs) → HaveReducedTails ring compare list known indices vs
  all_tails known [] [] h = record { count = refl; each = λ k l. absurd (omega (arith, l)) }
  all_tails known [] (v ∷ vs) h = absurd h
  all_tails known (i ∷ indices) [] h = absurd h
  all_tails known (i ∷ indices) (v ∷ vs) h = next h.0 (all_tails known indices vs h.1)
    where
      next : HasReducedTail ring compare known (get_or list i []) v → HaveReducedTails ring compare list known indices vs → HaveReducedTails ring compare list known (i ∷ indices) (v ∷ vs)
      next here rest = record { count = ap suc rest.count; each = go }
        where
          go : (k : ℕ) → k < length (v ∷ vs) → HasReducedTail ring compare known (get_or list (get_or (i ∷ indices) k 0) []) (get_or (v ∷ vs) k [])
          go zero l = here
          go (suc k) l = rest.each k (omega arith)

  pub gathered_tails :
      (known : List (List (CodeKey × ℕ))) (indices : List ℕ) (answers : List (Result (List (CodeKey × ℕ)) WorkStop))
      → AllZip (ReducesTail ring compare list known) indices answers → (vs : List (List (CodeKey × ℕ))) → answers ≡ map Ok vs → HaveReducedTails ring compare list known indices vs
  gathered_tails known indices answers each vs all = all_tails known indices vs (subst (AllZip (ReducesTail ring compare list known) indices) all each)

  abbrev Divided : ℕ → Type 0
  Divided i = HasDivision ring list (drop 1 (get_or list i []))

  next_divided :
      (i : ℕ) (indices : List ℕ) (n : ℕ) → Divided i → ((k : ℕ) → k < n → Divided (get_or indices k 0)) → (k : ℕ) → k < suc n → Divided (get_or (i ∷ indices) k 0)
  next_divided i indices n here rest zero l = here
  next_divided i indices n here rest (suc k) l = rest k (omega arith)

  -- the members before the first refusal are reduced, and it is that of the next one
  pub first_reduced :
      (indices : List ℕ) (before : List (List (CodeKey × ℕ))) (stop : WorkStop) (after : List (Result (List (CodeKey × ℕ)) WorkStop))
      → AllZip (ReducesMember ring compare list) indices (map Ok before ++ Err stop ∷ after)
      → (length before < length indices) × AreReducedMembers ring compare list (take (length before) indices) before
      × MemberStops ring list (get_or indices (length before) 0) stop × ((k : ℕ) → k < length before → Divided (get_or indices k 0))
  first_reduced [] [] stop after h = absurd h
  first_reduced [] (v ∷ vs) stop after h = absurd h
  first_reduced (i ∷ indices) [] stop after h = (omega arith, record { count = refl; each = λ k l. absurd (omega (arith, l)) }, h.0, λ k l. absurd (omega (arith, l)))
  first_reduced (i ∷ indices) (v ∷ vs) stop after h =
      let rest = first_reduced indices vs stop after h.1 in
      (omega (arith, rest.0), next_reduced i (take (length vs) indices) v vs h.0.member rest.1, rest.2, next_divided i indices (length vs) h.0.divided rest.3)

  -- one member more is reduced
  add_one :
      (f : ℕ → ℕ) (vs : List (List (CodeKey × ℕ))) (v : List (CodeKey × ℕ)) → ((k : ℕ) → k < length vs → IsReducedMember ring compare list (f k) (get_or vs k []))
      → IsReducedMember ring compare list (f (length vs)) v → (k : ℕ) → k < length vs + 1 → IsReducedMember ring compare list (f k) (get_or (vs ++ v ∷ []) k [])
  add_one f [] v each h zero l = h
  add_one f [] v each h (suc k) l = absurd (omega (arith, l))
  add_one f (w ∷ vs) v each h zero l = each zero (omega arith)
  add_one f (w ∷ vs) v each h (suc k) l = add_one (λ j. f (suc j)) vs v (λ j m. each (suc j) (omega (arith, m))) h k (omega (arith, l))

  pub one_more :
      (f : ℕ → ℕ) (vs : List (List (CodeKey × ℕ))) (i : ℕ) (v : List (CodeKey × ℕ)) → length vs ≡ i
      → ((k : ℕ) → k < i → IsReducedMember ring compare list (f k) (get_or vs k [])) → IsReducedMember ring compare list (f i) v
      → (k : ℕ) → k < i + 1 → IsReducedMember ring compare list (f k) (get_or (vs ++ v ∷ []) k [])
  one_more f vs i v e each h k l =
      add_one f vs v (λ j m. each j (omega (arith, m, e))) (subst (λ x. IsReducedMember ring compare list (f x) v) (sym e) h) k (omega (arith, l, e))

  -- members that were reduced in turn, and the stop of the next one
  pub stopped_in_turn :
      (indices : List ℕ) (vs : List (List (CodeKey × ℕ))) (i : ℕ) (stop : WorkStop) → length vs ≡ i → i < length indices
      → ((k : ℕ) → k < i → IsReducedMember ring compare list (get_or indices k 0) (get_or vs k []))
      → ((k : ℕ) → k < i → Divided (get_or indices k 0))
      → MemberStops ring list (get_or indices i 0) stop → StopsAtFirst ring compare list indices stop
  stopped_in_turn indices vs i Memory e fewer each divided h = tt
  stopped_in_turn indices vs i (Degree t) e fewer each divided h = record {
    divided = λ k l. divided k (omega (arith, l, e));
    before = vs;
    fewer = omega (arith, fewer, e);
    reduced = record {
      count = sym (length-take-le (length vs) indices (omega (arith, fewer, e)));
      each = λ k l. subst (λ x. IsReducedMember ring compare list x (get_or vs k [])) (sym (get_or-take (length vs) indices k 0 l)) (each k (omega (arith, l, e)));
    };
    division = subst (λ x. IsDivisionTrail ring (get_or list (get_or indices x 0) []) list t) (sym e) h;
  }

  module _ (indices : List ℕ) (answers : List (Result (List (CodeKey × ℕ)) WorkStop)) (each : AllZip (ReducesMember ring compare list) indices answers) where
    -- what the whole list comes to, by what each member does
    pub gathered : (vs : List (List (CodeKey × ℕ))) → answers ≡ map Ok vs → AreReducedMembers ring compare list indices vs
    gathered vs all = all_reduced indices vs (subst (AllZip (ReducesMember ring compare list) indices) all each)

    stopped : (stop : WorkStop) → IsFirstRefusal answers stop → StopsAtFirst ring compare list indices stop
    stopped Memory h = tt
    stopped (Degree t) (before, after, all) =
        let found = first_reduced indices before (Degree t) after (subst (AllZip (ReducesMember ring compare list) indices) all each) in
        record { before = before; fewer = found.0; reduced = found.1; divided = found.3; division = found.2 }

    pub stops_at_first :
        {A : Type 0} (items : List (Result (List (CodeKey × ℕ)) WorkStop)) → items ≡ answers
        → (r : Result A WorkStop) → IfErr r (IsFirstRefusal items) → IfErr r (StopsAtFirst ring compare list indices)
    stops_at_first items e (Ok v) h = tt
    stops_at_first items e (Err stop) h = stopped stop (subst (λ z. IsFirstRefusal z stop) e h)
