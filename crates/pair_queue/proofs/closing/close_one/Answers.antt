use Rattle.std.proofs.Common.{arith, false, inl, inr, subst, sym, true, ℕ, ◌<◌, ◌≡◌, ◌≤◌, ◌⊎◌}
use Rattle.std.proofs.lemmas.Bool.{cases_lt}
use Rattle.basis_steps.proofs.Counting.{pair_ordered, pair_swapped}
use Rattle.basis_steps.specs.Pairs.{Pair, is_same_pair}
use Rattle.pair_updates.specs.LeadCriteria.{DividesLcm}
use Rattle.pair_queue.specs.Tables.{flag}
use Rattle.pair_queue.proofs.closing.close_one.Goals as goal

pub returns-then-a-c-clause-other : goal.returns-then-a-c-clause-other
returns-then-a-c-clause-other c = λ x e. c.close_pair.ensures.other x
    (subst (λ (p : Pair). is_same_pair x p ≡ false) (pair_ordered c.args.a c.args.c c.if-a-c.true) e)

pub returns-then-a-c-clause-closed : goal.returns-then-a-c-clause-closed
returns-then-a-c-clause-closed c =
    subst (λ (p : Pair). flag c.close_pair.new.due p ≡ false → flag c.args.due.now p ≡ true → DividesLcm c.args.leads.now p c.args.k)
    (sym (pair_ordered c.args.a c.args.c c.if-a-c.true)) c.close_pair.ensures.closed

pub returns-then-a-c-clause-free : goal.returns-then-a-c-clause-free
returns-then-a-c-clause-free c =
    subst (λ (p : Pair). flag c.close_pair.new.due p ≡ true → DividesLcm c.args.leads.now p c.args.k → ⊥)
    (sym (pair_ordered c.args.a c.args.c c.if-a-c.true)) c.close_pair.ensures.free

less : (a c : ℕ) → c ≤ a → (a ≡ c → ⊥) → c < a
less a c l n = go (cases_lt c a)
  where
    go : (c < a) ⊎ (a ≤ c) → c < a
    go (inl h) = h
    go (inr h) = absurd (n (omega (arith, l, h)))

pub returns-else-a-c-clause-other : goal.returns-else-a-c-clause-other
returns-else-a-c-clause-other c = λ x e. c.close_pair-else-a-c.ensures.other x
    (subst (λ (p : Pair). is_same_pair x p ≡ false) (pair_swapped c.args.a c.args.c (less c.args.a c.args.c c.if-a-c.false c.requires.apart)) e)

pub returns-else-a-c-clause-closed : goal.returns-else-a-c-clause-closed
returns-else-a-c-clause-closed c =
    subst (λ (p : Pair). flag c.close_pair-else-a-c.new.due p ≡ false → flag c.args.due.now p ≡ true → DividesLcm c.args.leads.now p c.args.k)
    (sym (pair_swapped c.args.a c.args.c (less c.args.a c.args.c c.if-a-c.false c.requires.apart))) c.close_pair-else-a-c.ensures.closed

pub returns-else-a-c-clause-free : goal.returns-else-a-c-clause-free
returns-else-a-c-clause-free c =
    subst (λ (p : Pair). flag c.close_pair-else-a-c.new.due p ≡ true → DividesLcm c.args.leads.now p c.args.k → ⊥)
    (sym (pair_swapped c.args.a c.args.c (less c.args.a c.args.c c.if-a-c.false c.requires.apart))) c.close_pair-else-a-c.ensures.free
