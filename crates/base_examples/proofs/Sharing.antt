-- Three workers on (x^2, xy, y^2), event by event
use Rattle.std.proofs.Common.{Bool, List, [], ap, arith, cond, false, inl, inr, refl, suc, true, zero, ℕ, ◌+◌, ◌<◌, ◌∷◌, ◌≡◌}
use Rattle.monomials.specs.Exponents.{head, tail}
use Rattle.formal_sums.proofs.Comparing.{IsSame_compared}
use Rattle.formal_sums.proofs.Sameness.{IsSame_of}
use Rattle.bases.proofs.NormalForms.{IsMonicLead_normal}
use Rattle.bases.specs.Bases.{IsCovered}
use Rattle.bases.specs.Representations.{HasLcmRepresentation}
use Rattle.base_examples.proofs.Bases.{lawful, x_apart, y_apart}
use Rattle.base_examples.proofs.Histories.{monic_1, monic_2, queued_of}
use Rattle.base_examples.specs.Examples.{at, plane_setting, xy}
use Rattle.base_examples.specs.Histories.{member_1}
use Rattle.base_examples.specs.Sharing.{all, monomial_members, none, sharing, sharing_state, x_member, x_squared, y_member}
use Rattle.basis_steps.specs.Criteria.{CriterionApplies}
use Rattle.basis_steps.specs.Divisions.{IsMonicMember, LeavesMember, MakesMembers}
use Rattle.basis_steps.specs.Outcomes.{IsOutcome}
use Rattle.basis_steps.specs.Pairs.{Pair, count}
use Rattle.basis_steps.specs.Queues.{is_new_pair}
use Rattle.basis_steps.specs.States.{End, Ended, Put, Take, vectors}
use Rattle.basis_steps.specs.Steps.{Begins, Replays, Step, generator_rows}

monic_x : IsMonicMember plane_setting x_squared
monic_x = record {
  monic = IsMonicLead_normal plane_setting lawful x_squared (record { descends = (tt, tt); residues = ((omega arith, omega arith), tt) }) refl;
  ranked = (omega arith, tt);
}

free_x : IsCovered plane_setting [] (at 0 2 0) → ⊥
free_x (i, h, lead, d) = absurd (omega arith)

free_xy : IsCovered plane_setting (x_squared ∷ []) (at 0 1 1) → ⊥
free_xy (zero, h, lead, d) = x_apart 2 0 1 1 (omega arith) d
free_xy (suc i, h, lead, d) = absurd (omega arith)

free_y : IsCovered plane_setting (x_squared ∷ (xy ∷ [])) (at 0 0 2) → ⊥
free_y (zero, h, lead, d) = x_apart 2 0 0 2 (omega arith) d
free_y (suc zero, h, lead, d) = x_apart 1 1 0 2 (omega arith) d
free_y (suc (suc i), h, lead, d) = absurd (omega arith)

leaves_x : LeavesMember plane_setting [] x_member [] 1 1 x_member
leaves_x = record { quotients = tt; reached = tt; at_most = inr refl; inverse = record { same = refl }; vector = IsSame_of 101 _ _ refl; multiple = IsSame_of 101 _ _ refl; products = IsSame_of 101 _ _ refl; member = monic_x; free = free_x }

leaves_xy : LeavesMember plane_setting (vectors (x_member ∷ [])) member_1 [] 1 1 member_1
leaves_xy = record { quotients = tt; reached = tt; at_most = inr refl; inverse = record { same = refl }; vector = IsSame_of 101 _ _ refl; multiple = IsSame_of 101 _ _ refl; products = IsSame_of 101 _ _ refl; member = monic_1; free = free_xy }

leaves_y : LeavesMember plane_setting (vectors (x_member ∷ (member_1 ∷ []))) y_member [] 1 1 y_member
leaves_y = record { quotients = tt; reached = tt; at_most = inr refl; inverse = record { same = refl }; vector = IsSame_of 101 _ _ refl; multiple = IsSame_of 101 _ _ refl; products = IsSame_of 101 _ _ refl; member = monic_2; free = free_y }

makes_all : MakesMembers plane_setting [] (generator_rows 0 sharing.generators) monomial_members
makes_all = inr ([], 1, 1, x_member, member_1 ∷ (y_member ∷ []), leaves_x, refl, inr ([], 1, 1, member_1, y_member ∷ [], leaves_xy, refl, inr ([], 1, 1, y_member, [], leaves_y, refl, refl)))

first_queue : (i j : ℕ) → i < j → j < 3 → count (i, j) ((1, 2) ∷ ((0, 1) ∷ ((0, 2) ∷ []))) ≡ count (i, j) [] + cond (is_new_pair 0 (vectors monomial_members) (i, j)) 1 0
first_queue i zero lt h = absurd (omega arith)
first_queue zero (suc zero) lt h = refl
first_queue (suc i) (suc zero) lt h = absurd (omega arith)
first_queue zero (suc (suc zero)) lt h = refl
first_queue (suc zero) (suc (suc zero)) lt h = refl
first_queue (suc (suc i)) (suc (suc zero)) lt h = absurd (omega arith)
first_queue i (suc (suc (suc j))) lt h = absurd (omega arith)

no_queue : (i j : ℕ) → i < j → j < 3 → count (i, j) [] ≡ count (i, j) [] + cond (is_new_pair 3 (vectors monomial_members) (i, j)) 1 0
no_queue i zero lt h = absurd (omega arith)
no_queue zero (suc zero) lt h = refl
no_queue (suc i) (suc zero) lt h = absurd (omega arith)
no_queue zero (suc (suc zero)) lt h = refl
no_queue (suc zero) (suc (suc zero)) lt h = refl
no_queue (suc (suc i)) (suc (suc zero)) lt h = absurd (omega arith)
no_queue i (suc (suc (suc j))) lt h = absurd (omega arith)

not_01 : (waits : Pair → ℕ) → CriterionApplies plane_setting (vectors monomial_members) waits (0, 1) → ⊥
not_01 waits (inl (one, e)) = let q : ◌≡◌ {A = ℕ} 3 2 = ap head e in absurd (omega arith)
not_01 waits (inr (zero, c)) = c.left refl
not_01 waits (inr (suc zero, c)) = c.right refl
not_01 waits (inr (suc (suc zero), c)) = y_apart 0 2 2 1 (omega arith) c.divides
not_01 waits (inr (suc (suc (suc k)), c)) = let w = c.within in absurd (omega arith)

not_12 : (waits : Pair → ℕ) → CriterionApplies plane_setting (vectors monomial_members) waits (1, 2) → ⊥
not_12 waits (inl (one, e)) = let q : ◌≡◌ {A = ℕ} 3 2 = ap (λ m. head (tail m)) e in absurd (omega arith)
not_12 waits (inr (zero, c)) = x_apart 2 0 1 2 (omega arith) c.divides
not_12 waits (inr (suc zero, c)) = c.left refl
not_12 waits (inr (suc (suc zero), c)) = c.right refl
not_12 waits (inr (suc (suc (suc k)), c)) = let w = c.within in absurd (omega arith)

represents_01 : HasLcmRepresentation plane_setting (vectors monomial_members) 0 1
represents_01 = record { cofactors = []; below = tt; sums = IsSame_compared _ _ (record { same = refl }, (record { same = refl }, tt)) }

represents_12 : HasLcmRepresentation plane_setting (vectors monomial_members) 1 2
represents_12 = record { cofactors = []; below = tt; sums = IsSame_compared _ _ (record { same = refl }, (record { same = refl }, tt)) }

outcome_01 : IsOutcome plane_setting (vectors monomial_members) ((0, 1) ∷ []) [] []
outcome_01 = record { some = omega arith; pairs = (record { ordered = omega arith; within = omega arith; position = refl }, tt); represented = (represents_01, tt); few = omega arith; low = tt; sums = tt; job_products = (tt, tt) }

outcome_12 : IsOutcome plane_setting (vectors monomial_members) ((1, 2) ∷ []) [] []
outcome_12 = record { some = omega arith; pairs = (record { ordered = omega arith; within = omega arith; position = refl }, tt); represented = (represents_12, tt); few = omega arith; low = tt; sums = tt; job_products = (tt, tt) }

begins : Begins sharing (sharing_state 0 ((1, 2) ∷ ((0, 1) ∷ ((0, 2) ∷ []))) [] 0 none)
begins = record {
  makes = makes_all;
  queues = (record { sorted = ((refl, (refl, tt)), ((refl, tt), (tt, tt))); same = queued_of 0 (vectors monomial_members) [] ((1, 2) ∷ ((0, 1) ∷ ((0, 2) ∷ []))) tt ((omega arith, omega arith), ((omega arith, omega arith), ((omega arith, omega arith), tt))) first_queue }, refl);
  out = refl;
  taken = refl;
  ended = refl;
  stop = refl;
  history = refl;
}

step_1 : Step sharing (sharing_state 0 ((1, 2) ∷ ((0, 1) ∷ ((0, 2) ∷ []))) [] 0 none) (Take 0 ((0, 2) ∷ []) ((1, 2) ∷ [])) (sharing_state 1 ((0, 1) ∷ []) (((1, 2), 0) ∷ []) 1 none)
step_1 = (
  512,
  record { known = omega arith; works = refl; free = refl; some = omega arith },
  inr (
    (1, 2) ∷ ((0, 1) ∷ []),
    record {
      unstopped = refl;
      skips = ((1, 2) ∷ ((0, 1) ∷ []), [], refl, (not_12 _, (not_01 _, tt)), inl (refl, refl), refl);
      none_applies = λ e. (not_12 _, (not_01 _, tt));
      skips_none = λ e. cc;
      gives = refl;
      after = refl;
    },
  ),
)

step_2 : Step sharing (sharing_state 1 ((0, 1) ∷ []) (((1, 2), 0) ∷ []) 1 none) (Take 1 [] ((0, 1) ∷ [])) (sharing_state 2 [] (((1, 2), 0) ∷ (((0, 1), 1) ∷ [])) 2 none)
step_2 = (512, record { known = omega arith; works = refl; free = refl; some = omega arith }, inr ((0, 1) ∷ [], record { unstopped = refl; skips = refl; none_applies = λ e. (not_01 _, tt); skips_none = λ e. refl; gives = refl; after = refl }))

step_3 : Step sharing (sharing_state 2 [] (((1, 2), 0) ∷ (((0, 1), 1) ∷ [])) 2 none) (Take 2 [] []) (sharing_state 3 [] (((1, 2), 0) ∷ (((0, 1), 1) ∷ [])) 2 none)
step_3 = (512, record { known = omega arith; works = refl; free = refl; some = omega arith }, inr ([], record { unstopped = refl; skips = refl; none_applies = λ e. tt; skips_none = λ e. refl; gives = refl; after = refl }))

-- worker 2 has ended
abbrev two_left : List Bool
two_left = false ∷ (false ∷ (true ∷ []))

-- workers 1 and 2 have
abbrev one_left : List Bool
one_left = false ∷ (true ∷ (true ∷ []))

step_4 : Step sharing (sharing_state 3 [] (((1, 2), 0) ∷ (((0, 1), 1) ∷ [])) 2 none) (End 2 Ended) (sharing_state 4 [] (((1, 2), 0) ∷ (((0, 1), 1) ∷ [])) 2 two_left)
step_4 = record { may = record { known = omega arith; works = refl; done = λ e. (refl, refl) }; answers = refl; after = refl }

step_5 : Step sharing (sharing_state 4 [] (((1, 2), 0) ∷ (((0, 1), 1) ∷ [])) 2 two_left) (Put 1 []) (sharing_state 5 [] (((1, 2), 0) ∷ []) 2 two_left)
step_5 = (3, [], [], record { may = record { known = omega arith; works = refl; had = omega arith; outcome = outcome_01 }; makes = refl; queue = []; dropped = []; queues = (record { sorted = tt; same = queued_of 3 (vectors monomial_members) [] [] tt tt no_queue }, refl); after = refl })

step_6 : Step sharing (sharing_state 5 [] (((1, 2), 0) ∷ []) 2 two_left) (Take 1 [] []) (sharing_state 6 [] (((1, 2), 0) ∷ []) 2 two_left)
step_6 = (512, record { known = omega arith; works = refl; free = refl; some = omega arith }, inr ([], record { unstopped = refl; skips = refl; none_applies = λ e. tt; skips_none = λ e. refl; gives = refl; after = refl }))

step_7 : Step sharing (sharing_state 6 [] (((1, 2), 0) ∷ []) 2 two_left) (End 1 Ended) (sharing_state 7 [] (((1, 2), 0) ∷ []) 2 one_left)
step_7 = record { may = record { known = omega arith; works = refl; done = λ e. (refl, refl) }; answers = refl; after = refl }

step_8 : Step sharing (sharing_state 7 [] (((1, 2), 0) ∷ []) 2 one_left) (Put 0 []) (sharing_state 8 [] [] 2 one_left)
step_8 = (3, [], [], record { may = record { known = omega arith; works = refl; had = omega arith; outcome = outcome_12 }; makes = refl; queue = []; dropped = []; queues = (record { sorted = tt; same = queued_of 3 (vectors monomial_members) [] [] tt tt no_queue }, refl); after = refl })

step_9 : Step sharing (sharing_state 8 [] [] 2 one_left) (Take 0 [] []) (sharing_state 9 [] [] 2 one_left)
step_9 = (512, record { known = omega arith; works = refl; free = refl; some = omega arith }, inr ([], record { unstopped = refl; skips = refl; none_applies = λ e. tt; skips_none = λ e. refl; gives = refl; after = refl }))

step_10 : Step sharing (sharing_state 9 [] [] 2 one_left) (End 0 Ended) (sharing_state 10 [] [] 2 all)
step_10 = record { may = record { known = omega arith; works = refl; done = λ e. (refl, refl) }; answers = refl; after = refl }

pub sharing_replays : Replays sharing (sharing_state 10 [] [] 2 all)
sharing_replays = (_, begins, (_, step_1, (_, step_2, (_, step_3, (_, step_4, (_, step_5, (_, step_6, (_, step_7, (_, step_8, (_, step_9, (_, step_10, refl)))))))))))
