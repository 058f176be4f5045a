use Rattle.std.proofs.Common.{List, None, Option, arith, inl, subst, sym, ◌+◌, ◌∙◌, ℕ}
use Rattle.std.proofs.lemmas.List.{get_or_default}
use Rattle.std.specs.Prelude.{MatchOption}
use Rattle.basis_steps.specs.Criteria.{IsPair}
use Rattle.basis_steps.specs.Pairs.{Drop}
use Rattle.basis_steps.specs.Updates.{Remains, YieldsFirstTo}
use Rattle.pair_updates.proofs.FirstYields.{yielding_pair}
use Rattle.pair_updates.proofs.JoiningPairs.{dropped_joins, one_more}
use Rattle.pair_updates.specs.Dropping.{drops_of}
use Rattle.pair_updates.specs.Leads.{sums_shown}
use Rattle.pair_updates.specs.Updating.{Joining}
use Rattle.pair_updates.proofs.updating.join_one.Goals as goal

pub returns-in_ok-push-in-Some-clause-joining : goal.returns-in_ok-push-in-Some-clause-joining
returns-in_ok-push-in-Some-clause-joining c = λ start drops within j.
    let m = c.args.leads.now in
    let h = c.args.h in
    let i = c.args.i in
    let k = c.in-Some.k in
    let firsts = c.args.yields.now.firsts.items in
    let at = get_or_default firsts i None c.index.result.now (omega (arith, c.requires.known, c.requires.yields.len)) ∙ sym c.index.ensures in
    let y : YieldsFirstTo (sums_shown m) h i k =
    subst (λ (o : Option ℕ). MatchOption o (IsPair (sums_shown m) (i, h) → Remains (sums_shown m) h i) (YieldsFirstTo (sums_shown m) h i))
    (at ∙ c.in-Some.is) (c.requires.yields.each i c.requires.known) in
    subst (λ (ds : List Drop). Joining m h (i + 1) start drops c.args.queued.now.items ds)
    (one_more c.args.dropped.now.items c.push.new.self.items (record { i = i; j = h; k = k }) c.in_ok-push-in-Some.ensures.items)
    (dropped_joins m h start drops within i c.requires.known c.args.queued.now.items (drops_of c.args.dropped.now.items) j k
    (yielding_pair (sums_shown m) h i k c.requires.known y.yields) (inl y))
