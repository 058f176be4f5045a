-- The trail of a job is one of the run
use Rattle.std.proofs.Common.{List, [], arith, get_or, inl, length, subst, sym, take, ℕ, ◌++◌, ◌∙◌, ◌∷◌, ◌≡◌, ◌≤◌}
use Rattle.term_lists.specs.Rings.{variables}
use Rattle.term_lists.specs.Vectors.{sums_of}
use Rattle.module_vectors.specs.declared.trail.KeptTrail.{KeptTrail}
use Rattle.basis_steps.specs.Criteria.{IsPair}
use Rattle.basis_steps.specs.Divisions.{Occurs}
use Rattle.basis_steps.specs.Outcomes.{AreJobProducts}
use Rattle.basis_steps.specs.Pairs.{Pair}
use Rattle.queue_updates.specs.declared.Update.{Update}
use Rattle.basis_steps.specs.States.{Run, vectors}
use Rattle.basis_steps.specs.Trails.{IsJobTrail}
use Rattle.basis_core.specs.Members.{Shared, MemberShown, members_of, setting_of}
use Rattle.basis_core.specs.Stops.{IsTrailBy, trail_of}
use Rattle.basis_core.proofs.AfterPut.{base_vectors, members_length}

-- a run on these
abbrev run_with : (n : ℕ) (shared : Shared) (budget workers : ℕ) → Update → Run n
run_with n shared budget workers update = record {
  setting = setting_of n shared;
  generators = sums_of n shared.generators;
  budget = budget;
  workers = workers;
  degree_limit = 65535;
  update = update;
}

-- a trail by the first members is one of a job that has these
pub trail_of_job :
    (shared : Shared) (budget workers : ℕ) (update : Update) (ms all : List MemberShown) (job : List Pair) (t : KeptTrail)
    → ms ≡ take (length ms) all → length ms ≤ length all → IsTrailBy shared ms job t
    → IsJobTrail (run_with (variables shared.ring) shared budget workers update) (vectors (members_of (variables shared.ring) all)) job
    (trail_of (variables shared.ring) t)
trail_of_job shared budget workers update ms all job t front had h =
    let n : ℕ = variables shared.ring in
    let p : ℕ = shared.ring.modulus.value in
    record {
      start = h.start;
      place = inl (record { base = length ms; had = omega (arith, had, members_length n all); members = h.members ∙ base_vectors n all ms front });
      pair = subst (λ l. IsPair l (trail_of n t).start) (sym h.members) h.real;
      products = subst (λ l. AreJobProducts p l ((trail_of n t).start ∷ []) ((trail_of n t).earlier ++ ((trail_of n t).last ∷ []))) (sym h.members) h.products;
      monomial = subst (λ l. (i : ℕ) × Occurs p (get_or l (trail_of n t).last.0 []) (i, (trail_of n t).monomial)) (sym h.members) h.monomial;
      above = h.above;
    }
