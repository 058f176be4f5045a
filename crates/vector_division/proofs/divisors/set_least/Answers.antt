use Rattle.std.proofs.Common.{[], ap, arith, get_or, length, refl, set, subst, sym, ◌+◌, ◌-◌, ◌<◌, ◌∙◌, ◌≡◌, ◌≤◌}
use Rattle.std.proofs.Math.Seq.{map-set_same}
use Rattle.std.proofs.lemmas.List.{get_or_default, length-set}
use Rattle.vector_division.specs.Divisors.{AreLeastFrom, IsLeastFrom, IsNoHigher, indexed}
use Rattle.vector_division.specs.declared.divisors.Divisor.{Divisor}
use Rattle.vector_division.proofs.LeastDegrees.{are_least, index_within, least_more, least_there, no_higher_less}
use Rattle.vector_division.proofs.divisors.set_least.Goals as goal

pub at-requires : goal.at-requires
at-requires g c =
    let count = length (g.L.Vectors.listed c.args.list.now) in
    let items = c.loop-k.divisors.items in
    let i = c.args.count - 1 - c.loop-k.k in
    let lt : i < length items = omega (arith, c.loop-k-test.true, c.loop-k.invariant.count) in
    subst (λ (d : Divisor). d.index < count) (sym c.index.ensures)
    (index_within count c.args.divisors.now.items items i c.index.result.now c.loop-k.invariant.kept c.requires.within lt)

pub returns-clause-least : goal.returns-clause-least
returns-clause-least g c =
    let list = g.L.Vectors.listed c.args.list.now in
    let items = c.loop-k.divisors.items in
    let none : c.args.count - c.loop-k.k ≡ 0 = omega arith in
    are_least list items (subst (AreLeastFrom list items) none c.loop-k.invariant.each)

pub loop-k-preserved : goal.loop-k-preserved
loop-k-preserved g c =
    let list = g.L.Vectors.listed c.args.list.now in
    let items = c.loop-k.divisors.items in
    let i = c.args.count - 1 - c.loop-k.k in
    let least = c.min-least.result in
    let read = c.index.result.now in
    let old = c.index_mut.result.now in
    let new : Divisor = record { index = old.index; mark = old.mark; least = least } in
    let lt : i < length items = omega (arith, c.loop-k-test.true, c.loop-k.invariant.count) in
    let before : c.args.count - c.loop-k.k ≡ i + 1 = omega (arith, c.loop-k-test.true) in
    let after : i ≡ c.args.count - (c.loop-k.k + 1) = omega arith in
    let same : read ≡ old = c.index.ensures ∙ get_or_default items i read old lt ∙ sym c.index_mut.ensures.value in
    let vector = get_or list old.index [] in
    let lead : IsNoHigher c.lead_degree.result vector =
    subst (λ (d : Divisor). IsNoHigher c.lead_degree.result (get_or list d.index [])) same
    (subst (IsNoHigher c.lead_degree.result) c.at.ensures c.lead_degree.ensures) in
    let own : IsNoHigher least vector = no_higher_less least c.lead_degree.result vector (omega (arith, c.min-least.ensures)) lead in
    let less : least ≤ c.loop-k.least = omega (arith, c.min-least.ensures) in
    let below : IsLeastFrom list (set items i new) i least =
    least_there list items i new lt c.loop-k.least (subst (λ z. IsLeastFrom list items z c.loop-k.least) before c.loop-k.invariant.below) less own in
    let each : AreLeastFrom list (set items i new) i =
    least_more list items i new lt (subst (AreLeastFrom list items) before c.loop-k.invariant.each) below in
    record {
      kept = map-set_same indexed items i new old (ap indexed c.index_mut.ensures.value) ∙ c.loop-k.invariant.kept;
      count = subst (λ z. c.args.count ≤ z) (sym (length-set items i new)) c.loop-k.invariant.count;
      below = subst (λ z. IsLeastFrom list (set items i new) z least) after below;
      each = subst (AreLeastFrom list (set items i new)) after each;
    }

pub loop-k-init : goal.loop-k-init
loop-k-init g c =
    let list = g.L.Vectors.listed c.args.list.now in
    let items = c.args.divisors.now.items in
    let none : c.args.count ≡ c.args.count - 0 = omega arith in
    record {
      kept = refl;
      count = c.requires.count;
      below = subst (λ z. IsLeastFrom list items z c.least_from-least.result) none c.least_from-least.ensures;
      each = subst (AreLeastFrom list items) none c.requires.behind;
    }

pub least_from-least-requires : goal.least_from-least-requires
least_from-least-requires g c = c.requires.behind
