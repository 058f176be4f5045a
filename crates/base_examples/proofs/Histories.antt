-- The run of two workers on (x^2 + y, xy), event by event
use Rattle.std.proofs.Common.{Bool, List, [], false, true, ap, arith, inl, inr, length, refl, subst, suc, sym, zero, ℕ, ◌*◌, ◌+◌, ◌<◌, ◌∙◌, ◌∷◌, ◌≡◌, ◌≤◌, ◌⊎◌}
use Rattle.std.proofs.Common.{cond}
use Rattle.std.proofs.lemmas.Bool.{cases_lt}
use Rattle.residues.proofs.Congruences.{IsCongruent_nonzero, IsCongruent_of, IsCongruent_trans}
use Rattle.monomials.specs.Exponents.{cons, head, nil, tail}
use Rattle.formal_sums.proofs.Sameness.{IsSame_of}
use Rattle.formal_sums.proofs.WeightedSums.{indicator_other, key_cases}
use Rattle.formal_sums.specs.FormalSums.{Each, FormalSum, Key, Term, coefficient}
use Rattle.bases.proofs.Leading.{IsLead_of_monic, lead_unique}
use Rattle.bases.proofs.NormalForms.{IsMonicLead_normal}
use Rattle.bases.specs.Bases.{IsCovered}
use Rattle.base_examples.proofs.Bases.{basis_normal, lawful, pair_01, pair_12, x_apart}
use Rattle.base_examples.proofs.Vectors.{membership_sum}
use Rattle.base_examples.specs.Examples.{at, basis, generators, plane_setting, square_plus, xy, y_squared}
use Rattle.base_examples.specs.Histories.{after_put, first_state, last_state, member_0, member_1, member_2, more_work, state_1, state_2, state_3, state_4, state_5, state_6, state_7, three_members, two_members, two_workers}
use Rattle.basis_steps.proofs.Counting.{is_same_pair-true}
use Rattle.basis_steps.proofs.Updating.{pair_of_new}
use Rattle.basis_steps.specs.Criteria.{CriterionApplies}
use Rattle.basis_steps.specs.Divisions.{IsMonicMember, LeavesMember, MakesMembers, Occurs}
use Rattle.basis_steps.specs.Invariant.{HaveAllEnded}
use Rattle.basis_steps.specs.Outcomes.{AreJobProducts, HasLeadBelowJob, IsOutcome}
use Rattle.basis_steps.specs.Pairs.{Pair, count, is_same_pair}
use Rattle.basis_steps.specs.Queues.{is_new_pair}
use Rattle.basis_steps.specs.States.{End, Ended, IsLawfulRun, MoreWork, Product, Put, Take, vectors}
use Rattle.basis_steps.specs.Steps.{Begins, Replays, Step, generator_rows}

pub run_lawful : IsLawfulRun two_workers
run_lawful = record { setting = lawful; some = omega arith }

pub monic_0 : IsMonicMember plane_setting square_plus
monic_0 = record { monic = IsMonicLead_normal plane_setting lawful square_plus (basis_normal 0 (omega arith)) refl; ranked = (omega arith, (omega arith, tt)) }

pub monic_1 : IsMonicMember plane_setting xy
monic_1 = record { monic = IsMonicLead_normal plane_setting lawful xy (basis_normal 1 (omega arith)) refl; ranked = (omega arith, tt) }

pub monic_2 : IsMonicMember plane_setting y_squared
monic_2 = record { monic = IsMonicLead_normal plane_setting lawful y_squared (basis_normal 2 (omega arith)) refl; ranked = (omega arith, tt) }

-- ---- the members: no row is divided
pub free_0 : IsCovered plane_setting [] (at 0 2 0) → ⊥
free_0 (i, h, lead, d) = absurd (omega arith)

pub free_1 : IsCovered plane_setting (square_plus ∷ []) (at 0 1 1) → ⊥
free_1 (zero, h, lead, d) = x_apart 2 0 1 1 (omega arith) d
free_1 (suc i, h, lead, d) = absurd (omega arith)

free_2 : IsCovered plane_setting generators (at 0 0 2) → ⊥
free_2 (zero, h, lead, d) = x_apart 2 0 0 2 (omega arith) d
free_2 (suc zero, h, lead, d) = x_apart 1 1 0 2 (omega arith) d
free_2 (suc (suc i), h, lead, d) = absurd (omega arith)

pub leaves_0 : LeavesMember plane_setting [] member_0 [] 1 1 member_0
leaves_0 = record { quotients = tt; reached = tt; at_most = inr refl; inverse = record { same = refl }; vector = IsSame_of 101 _ _ refl; multiple = IsSame_of 101 _ _ refl; products = IsSame_of 101 _ _ refl; member = monic_0; free = free_0 }

pub leaves_1 : LeavesMember plane_setting (vectors (member_0 ∷ [])) member_1 [] 1 1 member_1
leaves_1 = record { quotients = tt; reached = tt; at_most = inr refl; inverse = record { same = refl }; vector = IsSame_of 101 _ _ refl; multiple = IsSame_of 101 _ _ refl; products = IsSame_of 101 _ _ refl; member = monic_1; free = free_1 }

leaves_2 : LeavesMember plane_setting (vectors two_members) member_2 [] 1 1 member_2
leaves_2 = record { quotients = tt; reached = tt; at_most = inr refl; inverse = record { same = refl }; vector = IsSame_of 101 _ _ refl; multiple = IsSame_of 101 _ _ refl; products = IsSame_of 101 _ _ refl; member = monic_2; free = free_2 }

makes_two : MakesMembers plane_setting [] (generator_rows 0 generators) two_members
makes_two = inr ([], 1, 1, member_0, member_1 ∷ [], leaves_0, refl, inr ([], 1, 1, member_1, [], leaves_1, refl, refl))

makes_third : MakesMembers plane_setting (vectors two_members) (member_2 ∷ []) (member_2 ∷ [])
makes_third = inr ([], 1, 1, member_2, [], leaves_2, refl, refl)

-- ---- the queues
-- the pair of two of m members, in their order
abbrev pub IsWithin : ℕ → Pair → Type 0
IsWithin m x = (x.0 < x.1) × (x.1 < m)

-- a pair that is none of the members is not in the list
not_listed : (m : ℕ) (x : Pair) (ys : List Pair) → (IsWithin m x → ⊥) → Each (IsWithin m) ys → count x ys ≡ 0
not_listed m x [] bad h = refl
not_listed m x (y ∷ ys) bad h = go (is_same_pair x y) refl (not_listed m x ys bad h.1)
  where
    go : (b : Bool) → is_same_pair x y ≡ b → count x ys ≡ 0 → cond b 1 0 + count x ys ≡ 0
    go true e z = absurd (bad (subst (IsWithin m) (sym (is_same_pair-true x y e)) h.0))
    go false e z = omega arith

-- nor is it new
not_new : (k : ℕ) (G : List (FormalSum 2)) (x : Pair) → (IsWithin (length G) x → ⊥) → is_new_pair k G x ≡ false
not_new k G x bad = go (is_new_pair k G x) refl
  where
    go : (b : Bool) → is_new_pair k G x ≡ b → is_new_pair k G x ≡ false
    go true e = let p = (pair_of_new k G x e).1 in absurd (bad (p.ordered, p.within))
    go false e = e

-- so the queue is right where it is at the members
pub queued_of :
    (k : ℕ) (G : List (FormalSum 2)) (old new : List Pair) → Each (IsWithin (length G)) old
    → Each (IsWithin (length G)) new
    → ((i j : ℕ) → i < j → j < length G → count (i, j) new ≡ count (i, j) old + cond (is_new_pair k G (i, j)) 1 0)
    → (x : Pair) → count x new ≡ count x old + cond (is_new_pair k G x) 1 0
queued_of k G old new g h at x = go (cases_lt x.0 x.1) (cases_lt x.1 (length G))
  where
    none : (IsWithin (length G) x → ⊥) → count x new ≡ count x old + cond (is_new_pair k G x) 1 0
    none bad =
        let z : ◌≡◌ {A = ℕ} (cond (is_new_pair k G x) 1 0) 0 = ap (λ b. cond b 1 0) (not_new k G x bad) in
        omega (arith, z, not_listed (length G) x new bad h, not_listed (length G) x old bad g)

    go :
        (x.0 < x.1) ⊎ (x.1 ≤ x.0) → (x.1 < length G) ⊎ (length G ≤ x.1)
        → count x new ≡ count x old + cond (is_new_pair k G x) 1 0
    go (inl a) (inl b) = at x.0 x.1 a b
    go (inr a) b = none (λ w. let q = w.0 in omega arith)
    go (inl a) (inr b) = none (λ w. let q = w.1 in omega arith)

queued_01 : (i j : ℕ) → i < j → j < 2 → count (i, j) ((0, 1) ∷ []) ≡ count (i, j) [] + cond (is_new_pair 0 generators (i, j)) 1 0
queued_01 i zero lt h = absurd (omega arith)
queued_01 zero (suc zero) lt h = refl
queued_01 (suc i) (suc zero) lt h = absurd (omega arith)
queued_01 i (suc (suc j)) lt h = absurd (omega arith)

queued_2 : (i j : ℕ) → i < j → j < 3 → count (i, j) ((1, 2) ∷ ((0, 2) ∷ [])) ≡ count (i, j) [] + cond (is_new_pair 2 basis (i, j)) 1 0
queued_2 i zero lt h = absurd (omega arith)
queued_2 zero (suc zero) lt h = refl
queued_2 (suc i) (suc zero) lt h = absurd (omega arith)
queued_2 zero (suc (suc zero)) lt h = refl
queued_2 (suc zero) (suc (suc zero)) lt h = refl
queued_2 (suc (suc i)) (suc (suc zero)) lt h = absurd (omega arith)
queued_2 i (suc (suc (suc j))) lt h = absurd (omega arith)

queued_none : (i j : ℕ) → i < j → j < 3 → count (i, j) [] ≡ count (i, j) [] + cond (is_new_pair 3 basis (i, j)) 1 0
queued_none i zero lt h = absurd (omega arith)
queued_none zero (suc zero) lt h = refl
queued_none (suc i) (suc zero) lt h = absurd (omega arith)
queued_none zero (suc (suc zero)) lt h = refl
queued_none (suc zero) (suc (suc zero)) lt h = refl
queued_none (suc (suc i)) (suc (suc zero)) lt h = absurd (omega arith)
queued_none i (suc (suc (suc j))) lt h = absurd (omega arith)

-- ---- the criteria: to (0, 1) and (1, 2) none applies
not_01 : (waits : Pair → ℕ) → CriterionApplies plane_setting generators waits (0, 1) → ⊥
not_01 waits (inl (one, e)) = let q : ◌≡◌ {A = ℕ} 3 2 = ap head e in absurd (omega arith)
not_01 waits (inr (zero, c)) = c.left refl
not_01 waits (inr (suc zero, c)) = c.right refl
not_01 waits (inr (suc (suc k), c)) = let w = c.within in absurd (omega arith)

pub basis_12 : (waits : Pair → ℕ) → CriterionApplies plane_setting basis waits (1, 2) → ⊥
basis_12 waits (inl (one, e)) = let q : ◌≡◌ {A = ℕ} 3 2 = ap (λ m. head (tail m)) e in absurd (omega arith)
basis_12 waits (inr (zero, c)) = x_apart 2 0 1 2 (omega arith) c.divides
basis_12 waits (inr (suc zero, c)) = c.left refl
basis_12 waits (inr (suc (suc zero), c)) = c.right refl
basis_12 waits (inr (suc (suc (suc k)), c)) = let w = c.within in absurd (omega arith)

-- ---- the outcome y^2 of the job (0, 1)
pub occurs_cases : (t : Term 2) (v : FormalSum 2) (k : Key 2) → Occurs 101 (t ∷ v) k → (k ≡ t.0) ⊎ Occurs 101 v k
occurs_cases t v k h = go (key_cases k t.0)
  where
    go : (k ≡ t.0) ⊎ (k ≡ t.0 → ⊥) → (k ≡ t.0) ⊎ Occurs 101 v k
    go (inl e) = inl e
    go (inr ne) = inr (λ z. h (IsCongruent_trans (IsCongruent_of 101 (coefficient (t ∷ v) k) (coefficient v k) (ap (λ x. t.1 * x + coefficient v k) (indicator_other k t.0 ne) ∙ omega arith)) z))

pub occurs_none : (k : Key 2) → Occurs 101 [] k → ⊥
occurs_none k h = h (record { same = refl })

pub occurs_at : (v : FormalSum 2) (k : Key 2) → coefficient v k ≡ 1 → Occurs 101 v k
occurs_at v k e z = IsCongruent_nonzero 101 1 (omega arith) (omega arith) (IsCongruent_trans (IsCongruent_of 101 _ _ (sym e)) z)

-- y (x^2 + y) and x (xy)
abbrev products : List (Product 2)
products = (0, cons 0 (cons 1 nil)) ∷ ((1, cons 1 (cons 0 nil)) ∷ [])

low : HasLeadBelowJob plane_setting generators ((0, 1) ∷ []) y_squared
low k h = ((0, 1), omega arith, ap (λ l. plane_setting.compare l (at 0 2 1)) (lead_unique plane_setting lawful y_squared k (at 0 0 2) h (IsLead_of_monic plane_setting lawful monic_2.monic)))

job_products : AreJobProducts 101 generators ((0, 1) ∷ []) products
job_products = ((omega arith, (omega arith, tt)), (inl ((0, 1), omega arith, refl), (inl ((0, 1), omega arith, refl), tt)))

outcome_01 : IsOutcome plane_setting (vectors two_members) ((0, 1) ∷ []) (member_2 ∷ []) products
outcome_01 = record {
  some = omega arith;
  pairs = (record { ordered = omega arith; within = omega arith; position = refl }, tt);
  represented = (pair_01, tt);
  few = omega arith;
  low = (low, tt);
  sums = (record { alone = refl; listed = ((0, omega arith, refl), ((1, omega arith, refl), tt)); sums = membership_sum }, tt);
  job_products = job_products;
}

outcome_12 : IsOutcome plane_setting (vectors three_members) ((1, 2) ∷ []) [] []
outcome_12 = record {
  some = omega arith;
  pairs = (record { ordered = omega arith; within = omega arith; position = refl }, tt);
  represented = (pair_12, tt);
  few = omega arith;
  low = tt;
  sums = tt;
  job_products = (tt, tt);
}

-- ---- the beginning and the events
pub begins : Begins two_workers first_state
begins = record { makes = makes_two; queues = (record { sorted = (tt, tt); same = queued_of 0 generators [] ((0, 1) ∷ []) tt ((omega arith, omega arith), tt) queued_01 }, refl); out = refl; taken = refl; ended = refl; stop = refl; history = refl }

step_1 : Step two_workers first_state (Take 0 [] ((0, 1) ∷ [])) state_1
step_1 = (512, record { known = omega arith; works = refl; free = refl; some = omega arith }, inr ((0, 1) ∷ [], record { unstopped = refl; skips = refl; none_applies = λ e. (not_01 _, tt); skips_none = λ e. refl; gives = refl; after = refl }))

step_2 : Step two_workers state_1 (Take 1 [] []) state_2
step_2 = (512, record { known = omega arith; works = refl; free = refl; some = omega arith }, inr ([], record { unstopped = refl; skips = refl; none_applies = λ e. tt; skips_none = λ e. refl; gives = refl; after = refl }))

step_3 : Step two_workers state_2 (End 1 Ended) state_3
step_3 = record { may = record { known = omega arith; works = refl; done = λ e. (refl, refl) }; answers = refl; after = refl }

step_4 : Step two_workers state_3 (Put 0 (member_2 ∷ [])) state_4
step_4 = (
  2,
  member_2 ∷ [],
  products,
  record {
    may = record { known = omega arith; works = refl; had = omega arith; outcome = outcome_01 };
    makes = makes_third;
    queue = (1, 2) ∷ ((0, 2) ∷ []);
    dropped = [];
    queues = (record { sorted = ((refl, tt), (tt, tt)); same = queued_of 2 basis [] ((1, 2) ∷ ((0, 2) ∷ [])) tt ((omega arith, omega arith), ((omega arith, omega arith), tt)) queued_2 }, refl);
    after = refl;
  },
)

step_5 : Step two_workers state_4 (Take 0 ((0, 2) ∷ []) ((1, 2) ∷ [])) state_5
step_5 = (
  512,
  record { known = omega arith; works = refl; free = refl; some = omega arith },
  inr (
    (1, 2) ∷ [],
    record {
      unstopped = refl;
      skips = ((1, 2) ∷ [], [], refl, (basis_12 _, tt), inl (refl, refl), refl);
      none_applies = λ e. (basis_12 _, tt);
      skips_none = λ e. cc;
      gives = refl;
      after = refl;
    },
  ),
)

step_6 : Step two_workers state_5 (Put 0 []) state_6
step_6 = (
  3,
  [],
  [],
  record {
    may = record { known = omega arith; works = refl; had = omega arith; outcome = outcome_12 };
    makes = refl;
    queue = [];
    dropped = [];
    queues = (record { sorted = tt; same = queued_of 3 basis [] [] tt tt queued_none }, refl);
    after = refl;
  },
)

step_7 : Step two_workers state_6 (Take 0 [] []) state_7
step_7 = (512, record { known = omega arith; works = refl; free = refl; some = omega arith }, inr ([], record { unstopped = refl; skips = refl; none_applies = λ e. tt; skips_none = λ e. refl; gives = refl; after = refl }))

step_8 : Step two_workers state_7 (End 0 Ended) last_state
step_8 = record { may = record { known = omega arith; works = refl; done = λ e. (refl, refl) }; answers = refl; after = refl }

pub replays : Replays two_workers last_state
replays = (first_state, begins, (state_1, step_1, (state_2, step_2, (state_3, step_3, (state_4, step_4, (state_5, step_5, (state_6, step_6, (state_7, step_7, (last_state, step_8, refl)))))))))

pub both_ended : HaveAllEnded two_workers last_state
both_ended zero h = refl
both_ended (suc zero) h = refl
both_ended (suc (suc w)) h = absurd (omega arith)

-- ---- a worker that would end while pairs are queued
put_early : Step two_workers state_2 (Put 0 (member_2 ∷ [])) after_put
put_early = (
  2,
  member_2 ∷ [],
  products,
  record {
    may = record { known = omega arith; works = refl; had = omega arith; outcome = outcome_01 };
    makes = makes_third;
    queue = (1, 2) ∷ ((0, 2) ∷ []);
    dropped = [];
    queues = (record { sorted = ((refl, tt), (tt, tt)); same = queued_of 2 basis [] ((1, 2) ∷ ((0, 2) ∷ [])) tt ((omega arith, omega arith), ((omega arith, omega arith), tt)) queued_2 }, refl);
    after = refl;
  },
)

end_early : Step two_workers after_put (End 1 MoreWork) more_work
end_early = record { may = record { known = omega arith; works = refl; done = λ e. (refl, refl) }; answers = refl; after = refl }

pub more_work_replays : Replays two_workers more_work
more_work_replays = (first_state, begins, (state_1, step_1, (state_2, step_2, (after_put, put_early, (more_work, end_early, refl)))))
