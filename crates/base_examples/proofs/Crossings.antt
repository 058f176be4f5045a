-- Two jobs out at once on (x^2 + y, xy, y^3 + x), event by event
use Rattle.std.proofs.Common.{List, [], ap, arith, cond, inl, inr, length, refl, suc, zero, ℕ, ◌+◌, ◌<◌, ◌∷◌, ◌≡◌}
use Rattle.monomials.specs.Exponents.{cons, head, nil, tail}
use Rattle.formal_sums.proofs.Comparing.{IsSame_compared}
use Rattle.formal_sums.proofs.Sameness.{IsSame_of}
use Rattle.bases.proofs.Leading.{IsLead_of_monic, lead_unique}
use Rattle.bases.proofs.NormalForms.{IsMonicLead_normal}
use Rattle.bases.specs.Bases.{IsCovered}
use Rattle.bases.specs.Representations.{HasLcmRepresentation}
use Rattle.base_examples.proofs.Bases.{lawful, x_apart, y_apart}
use Rattle.base_examples.proofs.Histories.{basis_12, leaves_0, leaves_1, monic_2, occurs_at, queued_of}
use Rattle.base_examples.proofs.Vectors.{membership_sum}
use Rattle.base_examples.specs.Crossings.{budget_met, crossing, crossing_1, crossing_2, crossing_3, crossing_first, crossing_last, cubic, cubic_member, new_members, old_members, one_pair, only_y, square_row, y_member}
use Rattle.base_examples.specs.Examples.{at, generators, plane_setting, square_plus, xy, y_squared}
use Rattle.base_examples.specs.Histories.{member_0, member_1, state_4, two_members}
use Rattle.basis_steps.specs.Criteria.{CriterionApplies}
use Rattle.basis_steps.specs.Divisions.{IsMonicMember, LeavesMember, LeavesNothing, MakesMembers}
use Rattle.basis_steps.proofs.JobProducts.{IsJobProductAt, job_products_from}
use Rattle.basis_steps.specs.Outcomes.{AreJobProducts, HasLeadBelowJob, IsOutcome}
use Rattle.basis_steps.specs.Pairs.{Pair, count}
use Rattle.basis_steps.specs.Queues.{is_new_pair}
use Rattle.basis_steps.specs.States.{Product, Put, Take, vectors}
use Rattle.basis_steps.specs.Steps.{Begins, Replays, Step, generator_rows}

monic_cubic : IsMonicMember plane_setting cubic
monic_cubic = record {
  monic = IsMonicLead_normal plane_setting lawful cubic (record { descends = ((refl, tt), (tt, tt)); residues = ((omega arith, omega arith), ((omega arith, omega arith), tt)) }) refl;
  ranked = (omega arith, (omega arith, tt));
}

monic_y : IsMonicMember plane_setting only_y
monic_y = record {
  monic = IsMonicLead_normal plane_setting lawful only_y (record { descends = (tt, tt); residues = ((omega arith, omega arith), tt) }) refl;
  ranked = (omega arith, tt);
}

-- ---- the members
free_cubic : IsCovered plane_setting generators (at 0 0 3) → ⊥
free_cubic (zero, h, lead, d) = x_apart 2 0 0 3 (omega arith) d
free_cubic (suc zero, h, lead, d) = x_apart 1 1 0 3 (omega arith) d
free_cubic (suc (suc i), h, lead, d) = absurd (omega arith)

free_y : IsCovered plane_setting (vectors old_members) (at 0 0 1) → ⊥
free_y (zero, h, lead, d) = x_apart 2 0 0 1 (omega arith) d
free_y (suc zero, h, lead, d) = x_apart 1 1 0 1 (omega arith) d
free_y (suc (suc zero), h, lead, d) = y_apart 0 3 0 1 (omega arith) d
free_y (suc (suc (suc i)), h, lead, d) = absurd (omega arith)

leaves_cubic : LeavesMember plane_setting (vectors two_members) cubic_member [] 1 1 cubic_member
leaves_cubic = record { quotients = tt; reached = tt; at_most = inr refl; inverse = record { same = refl }; vector = IsSame_of 101 _ _ refl; multiple = IsSame_of 101 _ _ refl; products = IsSame_of 101 _ _ refl; member = monic_cubic; free = free_cubic }

leaves_y : LeavesMember plane_setting (vectors old_members) y_member [] 1 1 y_member
leaves_y = record { quotients = tt; reached = tt; at_most = inr refl; inverse = record { same = refl }; vector = IsSame_of 101 _ _ refl; multiple = IsSame_of 101 _ _ refl; products = IsSame_of 101 _ _ refl; member = monic_y; free = free_y }

-- y^2 is y times the newest member
leaves_nothing : LeavesNothing plane_setting (vectors new_members) square_row ((at 3 0 1, 1) ∷ [])
leaves_nothing = record { quotients = ((omega arith, inr refl), tt); reached = (inl (occurs_at square_row.vector (at 0 0 2) refl), tt); vector = IsSame_of 101 _ _ refl }

makes_old : MakesMembers plane_setting [] (generator_rows 0 crossing.generators) old_members
makes_old = inr ([], 1, 1, member_0, member_1 ∷ (cubic_member ∷ []), leaves_0, refl, inr ([], 1, 1, member_1, cubic_member ∷ [], leaves_1, refl, inr ([], 1, 1, cubic_member, [], leaves_cubic, refl, refl)))

-- ---- the queues
first_queue : (i j : ℕ) → i < j → j < 3 → count (i, j) ((0, 1) ∷ ((1, 2) ∷ ((0, 2) ∷ []))) ≡ count (i, j) [] + cond (is_new_pair 0 (vectors old_members) (i, j)) 1 0
first_queue i zero lt h = absurd (omega arith)
first_queue zero (suc zero) lt h = refl
first_queue (suc i) (suc zero) lt h = absurd (omega arith)
first_queue zero (suc (suc zero)) lt h = refl
first_queue (suc zero) (suc (suc zero)) lt h = refl
first_queue (suc (suc i)) (suc (suc zero)) lt h = absurd (omega arith)
first_queue i (suc (suc (suc j))) lt h = absurd (omega arith)

-- the pairs with y
abbrev y_queue : List Pair
y_queue = (1, 3) ∷ ((2, 3) ∷ ((0, 3) ∷ []))

new_queue : (i j : ℕ) → i < j → j < 4 → count (i, j) y_queue ≡ count (i, j) [] + cond (is_new_pair 3 (vectors new_members) (i, j)) 1 0
new_queue i zero lt h = absurd (omega arith)
new_queue zero (suc zero) lt h = refl
new_queue (suc i) (suc zero) lt h = absurd (omega arith)
new_queue zero (suc (suc zero)) lt h = refl
new_queue (suc zero) (suc (suc zero)) lt h = refl
new_queue (suc (suc i)) (suc (suc zero)) lt h = absurd (omega arith)
new_queue zero (suc (suc (suc zero))) lt h = refl
new_queue (suc zero) (suc (suc (suc zero))) lt h = refl
new_queue (suc (suc zero)) (suc (suc (suc zero))) lt h = refl
new_queue (suc (suc (suc i))) (suc (suc (suc zero))) lt h = absurd (omega arith)
new_queue i (suc (suc (suc (suc j)))) lt h = absurd (omega arith)

same_queue : (i j : ℕ) → i < j → j < 4 → count (i, j) y_queue ≡ count (i, j) y_queue + cond (is_new_pair 4 (vectors new_members) (i, j)) 1 0
same_queue i zero lt h = absurd (omega arith)
same_queue zero (suc zero) lt h = refl
same_queue (suc i) (suc zero) lt h = absurd (omega arith)
same_queue zero (suc (suc zero)) lt h = refl
same_queue (suc zero) (suc (suc zero)) lt h = refl
same_queue (suc (suc i)) (suc (suc zero)) lt h = absurd (omega arith)
same_queue zero (suc (suc (suc zero))) lt h = refl
same_queue (suc zero) (suc (suc (suc zero))) lt h = refl
same_queue (suc (suc zero)) (suc (suc (suc zero))) lt h = refl
same_queue (suc (suc (suc i))) (suc (suc (suc zero))) lt h = absurd (omega arith)
same_queue i (suc (suc (suc (suc j)))) lt h = absurd (omega arith)

-- ---- the criteria: to (0, 1) and (1, 2) none applies
not_01 : (waits : Pair → ℕ) → CriterionApplies plane_setting (vectors old_members) waits (0, 1) → ⊥
not_01 waits (inl (one, e)) = let q : ◌≡◌ {A = ℕ} 3 2 = ap head e in absurd (omega arith)
not_01 waits (inr (zero, c)) = c.left refl
not_01 waits (inr (suc zero, c)) = c.right refl
not_01 waits (inr (suc (suc zero), c)) = y_apart 0 3 2 1 (omega arith) c.divides
not_01 waits (inr (suc (suc (suc k)), c)) = let w = c.within in absurd (omega arith)

not_12 : (waits : Pair → ℕ) → CriterionApplies plane_setting (vectors old_members) waits (1, 2) → ⊥
not_12 waits (inl (one, e)) = let q : ◌≡◌ {A = ℕ} 4 3 = ap (λ m. head (tail m)) e in absurd (omega arith)
not_12 waits (inr (zero, c)) = x_apart 2 0 1 3 (omega arith) c.divides
not_12 waits (inr (suc zero, c)) = c.left refl
not_12 waits (inr (suc (suc zero), c)) = c.right refl
not_12 waits (inr (suc (suc (suc k)), c)) = let w = c.within in absurd (omega arith)

-- ---- the outcome y of the job (1, 2)
-- y^2 (xy), x (y^3 + x) and x^2 + y
abbrev y_products : List (Product 2)
y_products = (1, cons 0 (cons 2 nil)) ∷ ((2, cons 1 (cons 0 nil)) ∷ ((0, cons 0 (cons 0 nil)) ∷ []))

y_represents : HasLcmRepresentation plane_setting (square_plus ∷ (xy ∷ (cubic ∷ (only_y ∷ [])))) 1 2
y_represents = record {
  cofactors = (at 0 0 0, 100) ∷ ((at 3 0 0, 1) ∷ []);
  below = ((omega arith, refl), ((omega arith, refl), tt));
  sums = IsSame_compared _ _ (record { same = refl }, (record { same = refl }, (record { same = refl }, (record { same = refl }, (record { same = refl }, (record { same = refl }, tt))))));
}

y_low : HasLeadBelowJob plane_setting (vectors old_members) ((1, 2) ∷ []) only_y
y_low k h = ((1, 2), omega arith, ap (λ l. plane_setting.compare l (at 0 1 3)) (lead_unique plane_setting lawful only_y k (at 0 0 1) h (IsLead_of_monic plane_setting lawful monic_y.monic)))

y_job_products : AreJobProducts 101 (vectors old_members) ((1, 2) ∷ []) y_products
y_job_products = job_products_from 101 (vectors old_members) ((1, 2) ∷ []) y_products by_number
  where
    by_number : (i : ℕ) → i < length y_products → IsJobProductAt 101 (vectors old_members) ((1, 2) ∷ []) y_products i
    by_number zero h = (omega arith, inl ((1, 2), omega arith, refl))
    by_number (suc zero) h = (omega arith, inl ((1, 2), omega arith, refl))
    by_number (suc (suc zero)) h = (omega arith, inr (1, omega arith, omega arith, occurs_at ((at 0 1 3, 1) ∷ ((at 0 2 0, 1) ∷ [])) (at 0 2 0) refl))
    by_number (suc (suc (suc i))) h = absurd (omega arith)

y_outcome : IsOutcome plane_setting (vectors old_members) ((1, 2) ∷ []) (y_member ∷ []) y_products
y_outcome = record {
  some = omega arith;
  pairs = (record { ordered = omega arith; within = omega arith; position = refl }, tt);
  represented = (y_represents, tt);
  few = omega arith;
  low = (y_low, tt);
  sums = (record { alone = refl; listed = ((2, omega arith, refl), ((0, omega arith, refl), ((1, omega arith, refl), tt))); sums = IsSame_compared _ _ (record { same = refl }, (record { same = refl }, (record { same = refl }, (record { same = refl }, (record { same = refl }, (record { same = refl }, tt)))))) }, tt);
  job_products = y_job_products;
}

-- ---- the outcome y^2 of the job (0, 1)
-- y (x^2 + y) and x (xy)
abbrev square_products : List (Product 2)
square_products = (0, cons 0 (cons 1 nil)) ∷ ((1, cons 1 (cons 0 nil)) ∷ [])

square_represents : HasLcmRepresentation plane_setting (square_plus ∷ (xy ∷ (cubic ∷ (y_squared ∷ [])))) 0 1
square_represents = record {
  cofactors = (at 3 0 0, 1) ∷ [];
  below = ((omega arith, refl), tt);
  sums = IsSame_compared _ _ (record { same = refl }, (record { same = refl }, (record { same = refl }, (record { same = refl }, tt))));
}

square_low : HasLeadBelowJob plane_setting (vectors old_members) ((0, 1) ∷ []) y_squared
square_low k h = ((0, 1), omega arith, ap (λ l. plane_setting.compare l (at 0 2 1)) (lead_unique plane_setting lawful y_squared k (at 0 0 2) h (IsLead_of_monic plane_setting lawful monic_2.monic)))

square_job_products : AreJobProducts 101 (vectors old_members) ((0, 1) ∷ []) square_products
square_job_products = ((omega arith, (omega arith, tt)), (inl ((0, 1), omega arith, refl), (inl ((0, 1), omega arith, refl), tt)))

square_outcome : IsOutcome plane_setting (vectors old_members) ((0, 1) ∷ []) (square_row ∷ []) square_products
square_outcome = record {
  some = omega arith;
  pairs = (record { ordered = omega arith; within = omega arith; position = refl }, tt);
  represented = (square_represents, tt);
  few = omega arith;
  low = (square_low, tt);
  sums = (record { alone = refl; listed = ((0, omega arith, refl), ((1, omega arith, refl), tt)); sums = membership_sum }, tt);
  job_products = square_job_products;
}

-- ---- the beginning and the events
begins : Begins crossing crossing_first
begins = record {
  makes = makes_old;
  queues = (record { sorted = ((refl, (refl, tt)), ((refl, tt), (tt, tt))); same = queued_of 0 (vectors old_members) [] ((0, 1) ∷ ((1, 2) ∷ ((0, 2) ∷ []))) tt ((omega arith, omega arith), ((omega arith, omega arith), ((omega arith, omega arith), tt))) first_queue }, refl);
  out = refl;
  taken = refl;
  ended = refl;
  stop = refl;
  history = refl;
}

step_1 : Step crossing crossing_first (Take 0 ((0, 2) ∷ []) ((0, 1) ∷ [])) crossing_1
step_1 = (
  512,
  record { known = omega arith; works = refl; free = refl; some = omega arith },
  inr (
    (0, 1) ∷ ((1, 2) ∷ []),
    record {
      unstopped = refl;
      skips = ((0, 1) ∷ ((1, 2) ∷ []), [], refl, (not_01 _, (not_12 _, tt)), inl (refl, refl), refl);
      none_applies = λ e. (not_01 _, (not_12 _, tt));
      skips_none = λ e. cc;
      gives = refl;
      after = refl;
    },
  ),
)

step_2 : Step crossing crossing_1 (Take 1 [] ((1, 2) ∷ [])) crossing_2
step_2 = (512, record { known = omega arith; works = refl; free = refl; some = omega arith }, inr ((1, 2) ∷ [], record { unstopped = refl; skips = refl; none_applies = λ e. (not_12 _, tt); skips_none = λ e. refl; gives = refl; after = refl }))

step_3 : Step crossing crossing_2 (Put 1 (y_member ∷ [])) crossing_3
step_3 = (
  3,
  y_member ∷ [],
  y_products,
  record {
    may = record { known = omega arith; works = refl; had = omega arith; outcome = y_outcome };
    makes = inr ([], 1, 1, y_member, [], leaves_y, refl, refl);
    queue = y_queue;
    dropped = [];
    queues = (record { sorted = ((refl, (refl, tt)), ((refl, tt), (tt, tt))); same = queued_of 3 (vectors new_members) [] y_queue tt ((omega arith, omega arith), ((omega arith, omega arith), ((omega arith, omega arith), tt))) new_queue }, refl);
    after = refl;
  },
)

step_4 : Step crossing crossing_3 (Put 0 []) crossing_last
step_4 = (
  3,
  square_row ∷ [],
  square_products,
  record {
    may = record { known = omega arith; works = refl; had = omega arith; outcome = square_outcome };
    makes = inl ((at 3 0 1, 1) ∷ [], leaves_nothing, refl);
    queue = y_queue;
    dropped = [];
    queues = (record { sorted = ((refl, (refl, tt)), ((refl, tt), (tt, tt))); same = queued_of 4 (vectors new_members) y_queue y_queue ((omega arith, omega arith), ((omega arith, omega arith), ((omega arith, omega arith), tt))) ((omega arith, omega arith), ((omega arith, omega arith), ((omega arith, omega arith), tt))) same_queue }, refl);
    after = refl;
  },
)

pub crossing_replays : Replays crossing crossing_last
crossing_replays = (crossing_first, begins, (crossing_1, step_1, (crossing_2, step_2, (crossing_3, step_3, (crossing_last, step_4, refl)))))

-- a Take that meets the budget of one pair
pub budget_step : Step one_pair state_4 (Take 0 ((0, 2) ∷ []) []) budget_met
budget_step = (
  512,
  record { known = omega arith; works = refl; free = refl; some = omega arith },
  inr (
    (1, 2) ∷ [],
    record {
      unstopped = refl;
      skips = ((1, 2) ∷ [], [], refl, (basis_12 _, tt), inl (refl, refl), refl);
      none_applies = λ e. (basis_12 _, tt);
      skips_none = λ e. cc;
      gives = refl;
      after = refl;
    },
  ),
)
