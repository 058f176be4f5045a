-- What a Take, a Put and a beginning keep of the pairs, with either update
use Rattle.std.proofs.Common.{List, [], ap, arith, cond, drop, inl, inr, length, length-append, refl, subst, sym, take, true, ℕ, ◌++◌, ◌+◌, ◌-◌, ◌<◌, ◌∙◌, ◌≡◌, ◌≤◌, ◌⊎◌, eq-eqb}
use Rattle.std.proofs.lemmas.Bool.{cases_lt, le-leb, lt-ltb}
use Rattle.std.specs.Cmp.Derive.{both_true}
use Rattle.bases.proofs.MoreMembers.{HasLcmRepresentation_more}
use Rattle.bases.specs.Leads.{leads}
use Rattle.bases.specs.Settings.{IsLawful, Setting}
use Rattle.formal_sums.specs.FormalSums.{Each, FormalSum}
use Rattle.basis_steps.proofs.Counting.{count-append, count-split, count_each, count_out_with, count_workers, pairs_out-append}
use Rattle.basis_steps.proofs.Covering.{covered_more, gives_covered, put_covered, put_represented, skips_covered}
use Rattle.basis_steps.proofs.Dropping.{followed_front}
use Rattle.basis_steps.proofs.Growing.{leads_front, length-vectors, vectors-append}
use Rattle.basis_steps.proofs.Updating.{IsBetween, IsQueue, all_updates, plain_queue, queue_of}
use Rattle.basis_steps.specs.Criteria.{AreCovered, IsPair, IsRepresented, Skips, waiting}
use Rattle.basis_steps.specs.Divisions.{IsMonicMember, MakesMembers}
use Rattle.basis_steps.specs.Drops.{AreCoveredBy, AreFollowed}
use Rattle.basis_steps.specs.Pairs.{Drop, Pair, count, pairs_dropped}
use Rattle.basis_steps.specs.Queues.{IsSorted, is_new_pair}
use Rattle.queue_updates.specs.declared.Update.{Update}
use Rattle.queue_updates.specs.declared.Update.TheVariants.{Gebauer, Plain}
use Rattle.basis_steps.specs.States.{Member, job_of, pairs_out, vectors, with_others}
use Rattle.basis_steps.specs.Steps.{out_with}
use Rattle.basis_steps.specs.Updates.{QueuesPairs}

-- the queue behind new members, which come from k on: sorted, of pairs, and with what is out and was dropped it covers all pairs
pub record IsJoined {n : ℕ} (S : Setting n) (u : Update) (k : ℕ) (G : List (FormalSum n)) (old new : List Pair) (out : List (Pair × ℕ)) (drops : List Drop) : Type 0 where
  pub sorted : IsSorted S G new
  pub queue : IsQueue k G old new
  pub covered : AreCoveredBy u S G (waiting new out) drops

-- ---- a Take
module _ {n : ℕ} (S : Setting n) (lawful : IsLawful S) (G : List (FormalSum n)) (ms : Each (IsMonicMember S) G) (out : List (Pair × ℕ)) (queue skipped left : List Pair) (drops : List Drop) (w k : ℕ) where
  given : (x : Pair) → waiting (drop k left) (out ++ out_with w (take k left)) x ≡ waiting left out x
  given x = omega (
    arith,
    ap (count x) (pairs_out-append out (out_with w (take k left))),
    count-append x (pairs_out out) (pairs_out (out_with w (take k left))),
    count_out_with x w (take k left),
    count-split x k left,
  )

  take_kept :
      Skips S G out queue skipped left → ((x : Pair) → 0 < count x queue → IsPair G x)
      → (u : Update) → (u ≡ Gebauer → skipped ≡ [])
      → AreCoveredBy u S G (waiting queue out) drops → AreCoveredBy u S G (waiting (drop k left) (out ++ out_with w (take k left))) drops
  take_kept skips real Plain none cov = gives_covered S lawful G ms out left w k (skips_covered S lawful G ms out queue skipped left skips real cov)
  take_kept skips real Gebauer none (cov, follow) =
      let same : left ≡ queue = subst (λ l. Skips S G out queue l left) (none refl) skips in
      (covered_more S G (λ x. waiting queue out x + count x (pairs_dropped drops)) _ (λ x. omega (arith, given x, ap (count x) same)) cov, follow)

  pub take_covered :
      (job : List Pair) → job ≡ take k left
      → Skips S G out queue skipped left → ((x : Pair) → 0 < count x queue → IsPair G x)
      → (u : Update) → (u ≡ Gebauer → skipped ≡ [])
      → AreCoveredBy u S G (waiting queue out) drops → AreCoveredBy u S G (waiting (drop k left) (out ++ out_with w job)) drops
  take_covered job e skips real u none cov = subst (λ j. AreCoveredBy u S G (waiting (drop k left) (out ++ out_with w j)) drops) (sym e) (take_kept skips real u none cov)

-- ---- a Put
module _ {n : ℕ} (S : Setting n) (lawful : IsLawful S) (G rows made : List (Member n)) (base : ℕ) (makes : MakesMembers S (vectors G) rows made) where
  abbrev H : List (FormalSum n)
  H = vectors (G ++ made)

  -- the pairs of the earlier members, with those that were dropped
  old_covered :
      (queue : List Pair) (out : List (Pair × ℕ)) (w : ℕ)
      → Each (IsPair (take base (vectors G))) (job_of w out)
      → Each (IsRepresented S (take base (vectors G) ++ vectors rows)) (job_of w out)
      → (extra : Pair → ℕ) → AreCovered S (vectors G) (λ x. waiting queue out x + extra x)
      → (x : Pair) → IsPair H x → x.1 < length G
      → (0 < (count x queue + count x (pairs_out (with_others w out))) + extra x) ⊎ IsRepresented S H x
  old_covered queue out w of_base represented extra cov x h l = elim (cov x old) [
    | inl p ↦ waits (in_job p)
    | inr r ↦ inr (stays r)
  ]
    where
      first : x.0 < length G
      first = omega (arith, h.ordered, l)

      stays : IsRepresented S (vectors G) x → IsRepresented S H x
      stays r = subst (λ v. IsRepresented S v x) (sym (vectors-append G made)) (HasLcmRepresentation_more S (vectors G) (vectors made) x.0 x.1 (omega (arith, first, length-vectors G)) (omega (arith, l, length-vectors G)) r)

      lead_same : (i : ℕ) → i < length G → leads H i ≡ leads (vectors G) i
      lead_same i q = ap (λ v. leads v i) (vectors-append G made) ∙ leads_front (vectors G) (vectors made) i (omega (arith, q, length-vectors G))

      old : IsPair (vectors G) x
      old = record {
        ordered = h.ordered;
        within = omega (arith, l, length-vectors G);
        position = ap (λ k. k.0) (sym (lead_same x.0 first)) ∙ h.position ∙ ap (λ k. k.0) (lead_same x.1 l);
      }

      in_job : 0 < waiting queue out x + extra x → (0 < count x (job_of w out)) ⊎ (0 < (count x queue + count x (pairs_out (with_others w out))) + extra x)
      in_job p = elim (cases_lt 0 (count x (job_of w out))) [ inl q ↦ inl q | inr q ↦ inr (omega (arith, p, q, count_workers x w out)) ]

      waits :
          (0 < count x (job_of w out)) ⊎ (0 < (count x queue + count x (pairs_out (with_others w out))) + extra x)
          → (0 < (count x queue + count x (pairs_out (with_others w out))) + extra x) ⊎ IsRepresented S H x
      waits (inl q) = inr (put_represented S lawful G rows made base makes x (count_each (IsPair (take base (vectors G))) x (job_of w out) of_base q) (count_each (IsRepresented S (take base (vectors G) ++ vectors rows)) x (job_of w out) represented q))
      waits (inr q) = inl q

  pub put_joined :
      (queue new : List Pair) (out : List (Pair × ℕ)) (w : ℕ)
      → Each (IsPair (take base (vectors G))) (job_of w out)
      → Each (IsRepresented S (take base (vectors G) ++ vectors rows)) (job_of w out)
      → (drops later : List Drop) → Each (IsMonicMember S) H
      → ((x : Pair) → 0 < count x queue → IsPair H x × (x.1 < length G))
      → (u : Update) → QueuesPairs u S (length G) H queue drops new later
      → AreCoveredBy u S (vectors G) (waiting queue out) drops
      → IsJoined S u (length G) H queue new (with_others w out) later
  put_joined queue new out w of_base represented drops later ms before Plain (queues, same) cov = record {
    sorted = queues.sorted;
    queue = plain_queue S (length G) H queue new queues before;
    covered = put_covered S lawful G rows made base makes queue new out w of_base represented queues cov;
  }
  put_joined queue new out w of_base represented drops later ms before Gebauer updates (cov, follow) =
      let others : Pair → ℕ = λ x. count x (pairs_out (with_others w out)) in
      let start : IsBetween S lawful H ms others (length G) queue (length G) queue drops = record {
        real = before;
        covered = λ x p l. old_covered queue out w of_base represented (λ y. count y (pairs_dropped drops)) cov x p l;
        followed = subst (λ v. AreFollowed S v drops) (sym (vectors-append G made)) (followed_front S (vectors G) (vectors made) drops follow);
        behind = omega arith;
        fewer = λ x l. omega arith;
        once = λ x l. fresh x l (cases_lt 0 (count x queue));
      } in
      let long : length H ≡ length G + length made = length-vectors (G ++ made) ∙ length-append G made in
      let end = all_updates S lawful H ms others (length G) queue (length H - length G) (length G) queue drops new later (omega (arith, long)) updates.in_turn start in
      record {
        sorted = updates.sorted;
        queue = queue_of S lawful H ms others (length G) queue new later end;
        covered = (λ x p. end.covered x p p.within, end.followed);
      }
    where
      fresh : (x : Pair) → length G ≤ x.1 → (0 < count x queue) ⊎ (count x queue ≤ 0) → count x queue ≤ 1
      fresh x l (inr z) = omega (arith, z)
      fresh x l (inl q) = absurd (let b = (before x q).1 in omega (arith, b, l))

-- ---- a beginning
module _ {n : ℕ} (S : Setting n) (lawful : IsLawful S) (G : List (FormalSum n)) (ms : Each (IsMonicMember S) G) where
  is_new-true : (k : ℕ) (x : Pair) → k ≤ x.1 → IsPair G x → is_new_pair k G x ≡ true
  is_new-true k x l h = both_true (le-leb k x.1 l) (both_true (lt-ltb x.1 (length G) h.within) (both_true (lt-ltb x.0 x.1 h.ordered) (eq-eqb _ _ h.position)))

  pub begin_joined :
      (new : List Pair) (later : List Drop) (u : Update)
      → QueuesPairs u S 0 G [] [] new later → IsJoined S u 0 G [] new [] later
  begin_joined new later Plain (queues, same) = record {
    sorted = queues.sorted;
    queue = plain_queue S 0 G [] new queues (λ x p. absurd (omega (arith, p)));
    covered = λ x p. let one : ◌≡◌ {A = ℕ} (cond (is_new_pair 0 G x) 1 0) 1 = ap (λ c. cond c 1 0) (is_new-true 0 x (omega arith) p) in inl (omega (arith, one, queues.same x));
  }
  begin_joined new later Gebauer updates =
      let nothing : Pair → ℕ = λ x. 0 in
      let start : IsBetween S lawful G ms nothing 0 [] 0 [] [] = record {
        real = λ x p. absurd (omega (arith, p));
        covered = λ x p l. absurd (omega (arith, l));
        followed = tt;
        behind = omega arith;
        fewer = λ x l. omega arith;
        once = λ x l. omega arith;
      } in
      let end = all_updates S lawful G ms nothing 0 [] (length G - 0) 0 [] [] new later (omega arith) updates.in_turn start in
      record {
        sorted = updates.sorted;
        queue = queue_of S lawful G ms nothing 0 [] new later end;
        covered = (λ x p. end.covered x p p.within, end.followed);
      }
