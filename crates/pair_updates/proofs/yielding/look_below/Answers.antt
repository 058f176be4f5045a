use Rattle.std.proofs.Common.{List, None, Option, [], length, subst, sym, ℕ, ◌++◌, ◌+◌, ◌∷◌}
use Rattle.pair_updates.proofs.FirstYields.{lower_pushed, lower_same}
use Rattle.pair_updates.proofs.NewFates.{news_at}
use Rattle.pair_updates.specs.FirstYields.{AreLowerYields}
use Rattle.pair_updates.proofs.yielding.look_below.Goals as goal

pub returns-in_ok-push-in-Some-2-clause-lower : goal.returns-in_ok-push-in-Some-2-clause-lower
returns-in_ok-push-in-Some-2-clause-lower c = λ low.
    let m = c.args.leads.now in
    let h = length c.args.news.now in
    let i = c.args.i in
    let r = c.first_among-first.result in
    let firsts = c.args.firsts.now.items in
    let members = c.args.active.now.members.items in
    subst (λ (a : List ℕ). AreLowerYields m h (i + 1) c.push_reserved.new.self.items a) (sym c.in_ok-push-in-Some.ensures.items)
    (subst (λ (f : List (Option ℕ)). AreLowerYields m h (i + 1) f (members ++ i ∷ [])) (sym c.push_reserved.ensures.items)
    (lower_pushed m h i firsts members r low c.first_among-first.ensures.first (c.in-Some.ensures.0)))

pub returns-in-None-clause-lower : goal.returns-in-None-clause-lower
returns-in-None-clause-lower c = λ low.
    let m = c.args.leads.now in
    let h = length c.args.news.now in
    let i = c.args.i in
    let r = c.first_among-first.result in
    let firsts = c.args.firsts.now.items in
    let members = c.args.active.now.members.items in
    subst (λ (f : List (Option ℕ)). AreLowerYields m h (i + 1) f members) (sym c.push_reserved.ensures.items)
    (lower_same m h i firsts members r low c.first_among-first.ensures.first
    (λ e. news_at m c.args.news.now h i None c.requires.news c.requires.known (c.in-None.ensures e)))
