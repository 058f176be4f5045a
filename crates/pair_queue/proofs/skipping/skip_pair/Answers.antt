use Rattle.std.proofs.Common.{List, ap, arith, drop, get_or, length, subst, sym, take, ◌++◌, ◌+◌, ◌∙◌, ◌∷◌, ◌≡◌, ◌≤◌}
use Rattle.std.proofs.lemmas.List.{length-take, take-take}
use Rattle.formal_sums.proofs.WeightedSums.{Each_append}
use Rattle.formal_sums.specs.FormalSums.{Each}
use Rattle.term_lists.proofs.Parts.{Each_drop, Each_take}
use Rattle.pair_criteria.specs.declared.pair.Pair.{Pair as CodePair}
use Rattle.basis_steps.specs.Criteria.{IsPair}
use Rattle.basis_steps.specs.Pairs.{Pair}
use Rattle.basis_steps.specs.Queues.{IsSorted}
use Rattle.basis_steps.proofs.Counting.{is_same_pair-true}
use Rattle.pair_queue.proofs.Knowing.{each_left, indices_of, known_passed, none_due}
use Rattle.pair_updates.proofs.Leading.{pairs_real}
use Rattle.pair_queue.proofs.Passing.{left_back}
use Rattle.pair_updates.proofs.PairLists.{pairs_take}
use Rattle.pair_queue.proofs.SameLcm.{none_kept}
use Rattle.pair_updates.specs.Leads.{setting_of_leads, sums_shown}
use Rattle.pair_updates.specs.Pairs.{IsRealPair, pairs_of}
use Rattle.pair_queue.specs.Skipping.{IsKnown, IsSpared, NoneIsSpared}
use Rattle.pair_queue.specs.Tables.{flag, member_count}
use Rattle.pair_queue.proofs.skipping.skip_pair.Goals as goal

pub count_due-count-requires-clause-within : goal.count_due-count-requires-clause-within
count_due-count-requires-clause-within c =
    let m = c.args.leads.now in
    let real : Each (IsRealPair m) c.as_slice-pairs.result.now = subst (Each (IsRealPair m)) (sym c.as_slice-pairs.ensures) c.requires.real in
    indices_of m (take c.args.kept c.as_slice-pairs.result.now) (member_count c.pass.new.due) (c.pass.ensures.due_size ∙ c.requires.due)
    (Each_take (IsRealPair m) c.args.kept c.as_slice-pairs.result.now real)

pub returns-clause-real : goal.returns-clause-real
returns-clause-real c = c.put_back-next.ensures.real c.args.leads.now c.requires.real

pub returns-clause-none : goal.returns-clause-none
returns-clause-none c =
    let m = c.args.leads.now in
    let kept = c.args.kept in
    let pair : Pair = c.args.pair in
    let count = c.count_due-count.result in
    let queue : List CodePair = c.args.queue.now.items in
    let pairs : List CodePair = c.as_slice-pairs.result.now in
    let is : pairs ≡ queue = c.as_slice-pairs.ensures in
    let before = c.count_before-before.result in
    let f = flag c.args.waits.now in
    let w = flag c.pass.new.waits in
    let e = flag c.pass.new.due in
    let x : CodePair = get_or pairs c.args.next c.index-pairs-next.result in
    let real : Each (IsRealPair m) pairs = subst (Each (IsRealPair m)) (sym is) c.requires.real in
    let none : NoneIsSpared m f (pairs_of (take kept pairs)) =
    subst (λ (q : List CodePair). NoneIsSpared m f (pairs_of (take kept q))) (sym is) c.requires.none in
    let first : NoneIsSpared m w (take before (pairs_of (take kept pairs))) =
    none_kept m pairs kept c.args.next before x pair f w
    real (omega (arith, c.requires.next, ap length is)) (ap (λ (z : CodePair). get_or pairs c.args.next z) c.index-pairs-next.is)
    (subst (λ (q : List CodePair). pairs_of (drop c.args.next q) ≡ pair ∷ pairs_of (drop (c.args.next + 1) q)) (sym is) c.requires.place)
    (subst (λ (q : List CodePair). IsSorted (setting_of_leads m.variables m) (sums_shown m) (pairs_of (take kept q) ++ pairs_of (drop c.args.next q)))
    (sym is) c.requires.sorted)
    c.count_before-before.ensures.within c.count_before-before.ensures.other c.pass.ensures.waits none in
    let known : Each (IsKnown m f (flag c.args.due.now)) (pairs_of (take kept pairs)) =
    subst (λ (q : List CodePair). Each (IsKnown m f (flag c.args.due.now)) (pairs_of (take kept q))) (sym is)
    (each_left (IsKnown m f (flag c.args.due.now)) (pairs_of (take kept queue)) (pairs_of (drop (c.args.next + 1) queue)) c.requires.known) in
    let now : Each (IsKnown m w e) (pairs_of (take kept pairs)) =
    known_passed m f (flag c.args.due.now) w e pair (pairs_of (take kept pairs)) c.pass.ensures.known
    (λ y s. subst (IsSpared m f) (sym (is_same_pair-true y pair s)) c.requires.spared)
    (pairs_real m (take kept pairs) (Each_take (IsRealPair m) kept pairs real)) known in
    let few : count ≤ kept = omega (arith, c.count_due-count.ensures.few, length-take kept pairs) in
    subst (NoneIsSpared m w) (ap (λ (q : List CodePair). take count (pairs_of (take kept q))) is ∙ sym (pairs_take count (take kept queue))
    ∙ ap pairs_of (take-take count kept queue few) ∙ ap pairs_of (sym c.put_back-next.ensures.first))
    (none_due m w e (take kept pairs) before count first c.count_due-count.ensures.due now)

pub returns-clause-known : goal.returns-clause-known
returns-clause-known c =
    let m = c.args.leads.now in
    let kept = c.args.kept in
    let pair : Pair = c.args.pair in
    let count = c.count_due-count.result in
    let queue : List CodePair = c.args.queue.now.items in
    let K : List CodePair = take kept queue in
    let R : List CodePair = drop (c.args.next + 1) queue in
    let f = flag c.args.waits.now in
    let w = flag c.pass.new.waits in
    let e = flag c.pass.new.due in
    let new : List CodePair = c.put_back-next.new.queue.items in
    let few : count ≤ kept = omega (arith, c.count_due-count.ensures.few, length-take kept c.as_slice-pairs.result.now) in
    let real : Each (IsPair (sums_shown m)) (pairs_of K ++ pairs_of R) =
    Each_append (IsPair (sums_shown m)) (pairs_of K) (pairs_of R) (pairs_real m K (Each_take (IsRealPair m) kept queue c.requires.real))
    (pairs_real m R (Each_drop (IsRealPair m) (c.args.next + 1) queue c.requires.real)) in
    subst (Each (IsKnown m w e)) (left_back count K R (take count new) (drop c.put_back-next.result new)
    (c.put_back-next.ensures.first ∙ sym (take-take count kept queue few)) c.put_back-next.ensures.rest)
    (known_passed m f (flag c.args.due.now) w e pair (pairs_of K ++ pairs_of R) c.pass.ensures.known
    (λ y s. subst (IsSpared m f) (sym (is_same_pair-true y pair s)) c.requires.spared) real c.requires.known)
