use Rattle.std.proofs.Common.{List, [], ap, arith, subst, sym, ◌++◌, ◌∙◌, ◌≡◌}
use Rattle.std.proofs.lemmas.List.{map-append}
use Rattle.formal_sums.specs.FormalSums.{Each}
use Rattle.basis_steps.specs.Pairs.{Drop}
use Rattle.basis_steps.specs.Queues.{IsSorted}
use Rattle.basis_steps.specs.Updates.{Updates}
use Rattle.pair_criteria.specs.declared.pair.Pair.{Pair as CodePair}
use Rattle.pair_updates.proofs.UpdatedQueues.{updates_front, updates_of_none}
use Rattle.pair_updates.specs.Dropping.{drops_of}
use Rattle.pair_updates.specs.Leads.{setting_of_leads, sums_shown}
use Rattle.pair_updates.specs.Pairs.{IsRealPair, pairs_of, AreIndices}
use Rattle.pair_updates.specs.declared.dropped.Dropped.{Dropped}
use Rattle.pair_queue.proofs.queueing.update_queue.Goals as goal

pub returns-then-first-len-clause-updates : goal.returns-then-first-len-clause-updates
returns-then-first-len-clause-updates c =
    updates_of_none c.args.leads.now c.args.first (pairs_of c.args.queue.now.items) (drops_of c.args.dropped.now.items)
    (omega (arith, c.if-first-len.true, c.len.ensures)) c.requires.sorted

pub updated-requires : goal.updated-requires
updated-requires c =
    let m = c.args.leads.now in
    let back = sym c.as_slice.ensures in
    record {
      first = omega (arith, c.if-first-len.false, c.len.ensures);
      real = subst (Each (IsRealPair m)) back c.requires.real;
      earlier = subst (λ (l : List CodePair). Each (AreIndices c.args.first) (pairs_of l)) back c.requires.earlier;
      sorted = subst (λ (l : List CodePair). IsSorted (setting_of_leads m.variables m) (sums_shown m) (pairs_of l)) back c.requires.sorted;
    }

pub returns-clause-updates : goal.returns-clause-updates
returns-clause-updates c =
    let m = c.args.leads.now in
    let S = setting_of_leads m.variables m in
    let G = sums_shown m in
    let added = c.in_ok-pairs.added.items in
    let all : drops_of c.args.dropped.now.items ++ drops_of added ≡ drops_of c.append.new.self.items =
    sym (ap drops_of c.in_ok-append.ensures.items ∙ map-append (λ (d : Dropped). ((d.i, d.j), d.k)) c.args.dropped.now.items added) in
    subst (λ (z : List CodePair × List Drop). Updates S c.args.first G (pairs_of c.args.queue.now.items) (drops_of c.args.dropped.now.items) (pairs_of z.0) z.1)
    (λ t. (sym c.from_vec.ensures t, all t))
    (updates_front S G c.args.first (pairs_of c.args.queue.now.items) (pairs_of c.in_ok-pairs.pairs.items) (drops_of c.args.dropped.now.items) (drops_of added)
    (subst (λ (l : List CodePair). Updates S c.args.first G (pairs_of l) [] (pairs_of c.in_ok-pairs.pairs.items) (drops_of added)) c.as_slice.ensures c.in_ok-pairs.ensures.updates))

pub returns-clause-real : goal.returns-clause-real
returns-clause-real c = subst (Each (IsRealPair c.args.leads.now)) (sym c.from_vec.ensures) c.in_ok-pairs.ensures.real
