use Rattle.std.proofs.Common.{List, [], ap, arith, cond, get_or, subst, sym, take, true, ℕ, ◌++◌, ◌+◌, ◌<◌, ◌∙◌, ◌∷◌, ◌≡◌}
use Rattle.std.proofs.lemmas.List.{take_all}
use Rattle.basis_steps.proofs.Counting.{count-append}
use Rattle.basis_steps.specs.Pairs.{Pair, count, is_same_pair}
use Rattle.basis_steps.specs.States.{job_of}
use Rattle.pair_queue.proofs.Clearing.{mine_taken, more_cleared, other_taken}
use Rattle.pair_queue.specs.declared.out.Out.{Out}
use Rattle.pair_queue.specs.Giving.{HasCleared}
use Rattle.pair_updates.specs.Leads.{LeadsShown}
use Rattle.pair_queue.specs.Outs.{outs_of}
use Rattle.pair_queue.specs.Skipping.{IsKnown}
use Rattle.pair_queue.specs.Tables.{TableShown, flag, member_count}
use Rattle.pair_queue.proofs.giving.pass_all.Goals as goal
use Rattle.pair_queue.proofs.giving.pass_all.Goals.{else-o-worker, then-o-worker}

pub loop-o-preserved : goal.loop-o-preserved
loop-o-preserved c =
    let w = c.args.worker in
    let out : List Out = c.args.out.now in
    let i = c.loop-o.o-index in
    let d : Out = record { i = 0; j = 0; worker = 0 } in
    let o : Out = get_or out i d in
    let p : Pair = (o.i, o.j) in
    let m : LeadsShown = c.args.leads.now in
    let inv = c.loop-o.invariant in
    let old = flag c.args.waits.now in
    let before : List Pair = job_of w (outs_of (take i out)) in
    elim c.if-o-worker.branch [
      | then-o-worker w₁ ↦
          (let job : job_of w (outs_of (take (i + 1) out)) ≡ before ++ (p ∷ []) = mine_taken w out i d c.loop-o-test.true w₁.if-o-worker.true in
          record {
            waits_size = ap member_count w₁.waits-is ∙ w₁.pass.ensures.waits_size ∙ inv.waits_size;
            due_size = ap member_count w₁.due-is ∙ w₁.pass.ensures.due_size ∙ inv.due_size;
            flags = subst (λ (z : List Pair × TableShown). HasCleared z.0 old (flag z.1)) (λ t. (sym job t, sym w₁.waits-is t))
                (more_cleared before p old (flag c.loop-o.waits) (flag w₁.pass.new.waits) inv.flags w₁.pass.ensures.waits);
            known = λ x lt none kn.
                let all : count x before + (cond (is_same_pair x p) 1 0 + 0) ≡ 0 = sym (count-append x before (p ∷ [])) ∙ sym (ap (count x) job) ∙ none in
                let other : is_same_pair x p ≡ true → ⊥ = λ s. let one : ◌≡◌ {A = ℕ} (cond (is_same_pair x p) 1 0) 1 =
                ap (λ b. cond b 1 0) s in omega (arith, one, all) in
                subst (λ (z : TableShown × TableShown). IsKnown m (flag z.0) (flag z.1) x) (λ t. (sym w₁.waits-is t, sym w₁.due-is t))
                (w₁.pass.ensures.known x lt (λ s. absurd (other s)) (inv.known x lt (omega (arith, all)) kn));
          })
      | else-o-worker w₁ ↦
          (let job : job_of w (outs_of (take (i + 1) out)) ≡ before = other_taken w out i d c.loop-o-test.true w₁.if-o-worker.false in
          record {
            waits_size = ap member_count w₁.waits-is ∙ inv.waits_size;
            due_size = ap member_count w₁.due-is ∙ inv.due_size;
            flags = subst (λ (z : List Pair × TableShown). HasCleared z.0 old (flag z.1)) (λ t. (sym job t, sym w₁.waits-is t)) inv.flags;
            known = λ x lt none kn.
                subst (λ (z : TableShown × TableShown). IsKnown m (flag z.0) (flag z.1) x) (λ t. (sym w₁.waits-is t, sym w₁.due-is t))
                (inv.known x lt (sym (ap (count x) job) ∙ none) kn);
          })
    ]

pub returns : goal.returns
returns c =
    let m : LeadsShown = c.args.leads.now in
    let inv = c.loop-o.invariant in
    let whole : take c.loop-o.o-index c.args.out.now ≡ c.args.out.now = take_all c.loop-o.o-index c.args.out.now (omega (arith, c.loop-o-test.false)) in
    record {
      waits_size = inv.waits_size ∙ sym c.requires.waits;
      due_size = inv.due_size ∙ sym c.requires.due;
      flags = subst (λ (l : List Out). HasCleared (job_of c.args.worker (outs_of l)) (flag c.args.waits.now) (flag c.loop-o.waits)) whole inv.flags;
      known = subst (λ (l : List Out). (x : Pair) → x.0 < x.1 → count x (job_of c.args.worker (outs_of l)) ≡ 0
          → IsKnown m (flag c.args.waits.now) (flag c.args.due.now) x → IsKnown m (flag c.loop-o.waits) (flag c.loop-o.due) x) whole inv.known;
    }
