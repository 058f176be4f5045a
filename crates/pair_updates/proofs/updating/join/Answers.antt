use Rattle.std.proofs.Common.{List, Option, ap, arith, length, refl, subst, sym, ℕ, ◌∙◌, ◌≡◌}
use Rattle.pair_updates.proofs.JoiningPairs.{none_joined}
use Rattle.pair_updates.specs.Dropping.{AreNewPairs, drops_of}
use Rattle.pair_updates.specs.Pairs.{pairs_of}
use Rattle.pair_updates.specs.FirstYields.{AreFirstYields}
use Rattle.pair_updates.specs.Updating.{Joining}
use Rattle.pair_updates.proofs.updating.join.Goals as goal

pub loop-i-init : goal.loop-i-init
loop-i-init c = record {
  joining = none_joined c.args.leads.now c.args.h (pairs_of c.args.queued.now.items) (drops_of c.args.dropped.now.items) c.requires.earlier c.args.queued.now.items refl c.requires.real;
  real = c.requires.real;
  news = c.in_ok-news.ensures;
  yields = subst (λ (k : ℕ). AreFirstYields c.args.leads.now k c.in_ok-yields.yields.firsts.items c.in_ok-yields.yields.left.items) (ap length c.deref.ensures.value ∙ (c.in_ok-news.ensures).len) c.in_ok-yields.ensures;
  few = omega arith;
}

pub join_one-requires : goal.join_one-requires
join_one-requires c = record {
  within = c.requires.within;
  known = c.loop-i-test.true;
  news = subst (λ (l : List (Option ℕ)). AreNewPairs c.args.leads.now c.args.h l) (sym c.deref-in-loop-i.ensures.value) c.loop-i.invariant.news;
  yields = c.loop-i.invariant.yields;
  real = c.loop-i.invariant.real;
}

pub loop-i-preserved : goal.loop-i-preserved
loop-i-preserved c = record {
  joining = c.in_ok-join_one.ensures.joining (pairs_of c.args.queued.now.items) (drops_of c.args.dropped.now.items) c.requires.earlier c.loop-i.invariant.joining;
  real = c.in_ok-join_one.ensures.real;
  news = c.loop-i.invariant.news;
  yields = c.loop-i.invariant.yields;
  few = omega (arith, c.loop-i-test.true);
}

pub returns : goal.returns
returns c =
    let end : c.loop-i.i ≡ c.args.h = omega (arith, c.loop-i-test.false, c.loop-i.invariant.few) in
    subst (λ (k : ℕ). Joining c.args.leads.now c.args.h k (pairs_of c.args.queued.now.items) (drops_of c.args.dropped.now.items) c.loop-i.queued.items (drops_of c.loop-i.dropped.items)) end c.loop-i.invariant.joining

pub first_yields-requires : goal.first_yields-requires
first_yields-requires c =
    subst (λ (l : List (Option ℕ)). AreNewPairs c.args.leads.now (length l) l) (sym c.deref.ensures.value)
    (subst (λ (k : ℕ). AreNewPairs c.args.leads.now k c.in_ok-news.news.items) (sym (c.in_ok-news.ensures).len) c.in_ok-news.ensures)
