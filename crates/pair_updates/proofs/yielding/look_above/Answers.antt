use Rattle.std.proofs.Common.{List, None, Some, [], length, set, subst, sym, ℕ, ◌++◌, ◌+◌, ◌∙◌, ◌∷◌}
use Rattle.std.proofs.lemmas.List.{get_or_default}
use Rattle.pair_updates.proofs.FirstYields.{now_remains, now_yields, settled_none, settled_some}
use Rattle.pair_updates.specs.FirstYields.{AreSettled, IsFirstAmong}
use Rattle.pair_updates.specs.Leads.{sums_shown}
use Rattle.pair_updates.proofs.yielding.look_above.Goals as goal

pub returns-in-Some-clause-settled : goal.returns-in-Some-clause-settled
returns-in-Some-clause-settled c = λ lower low old.
    let m = c.args.leads.now in
    let h = length c.args.news.now in
    let k = c.args.k in
    let active = c.args.active.now.members.items in
    let firsts = c.args.yields.now.firsts.items in
    let left = c.args.yields.now.left.items in
    let at = get_or_default active k 0 c.index-i.result.now c.requires.k ∙ sym c.index-i.ensures in
    subst (λ (r : ℕ). IsFirstAmong (sums_shown m) h r active (k + 1) (Some c.in-Some.c) → AreSettled m h active (k + 1) (set firsts r (Some c.in-Some.c)) left) at
    (λ f. settled_some m h k lower active low c.requires.k firsts left old c.in-Some.c (now_yields m h k lower active low c.requires.k c.in-Some.c f))
    c.in-Some.ensures.first

pub returns-in_ok-push-in-None-clause-settled : goal.returns-in_ok-push-in-None-clause-settled
returns-in_ok-push-in-None-clause-settled c = λ lower low old.
    let m = c.args.leads.now in
    let h = length c.args.news.now in
    let k = c.args.k in
    let active = c.args.active.now.members.items in
    let firsts = c.args.yields.now.firsts.items in
    let left = c.args.yields.now.left.items in
    let at = get_or_default active k 0 c.index-i.result.now c.requires.k ∙ sym c.index-i.ensures in
    subst (λ (l : List ℕ). AreSettled m h active (k + 1) firsts l) (sym c.in_ok-push-in-None.ensures.items)
    (subst (λ (r : ℕ). IsFirstAmong (sums_shown m) h r active (k + 1) None → AreSettled m h active (k + 1) firsts (left ++ r ∷ [])) at
    (λ f. settled_none m h k lower active low c.requires.k firsts left old (now_remains m h k lower active low c.requires.k f))
    c.in-None.ensures.first)
