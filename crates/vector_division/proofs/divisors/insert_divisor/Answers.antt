use Rattle.std.proofs.Common.{List, [], ap, arith, get_or, length, map, subst, sym, ◌+◌, ◌-◌, ◌<◌, ◌∙◌, ◌≡◌, ◌≤◌}
use Rattle.std.proofs.lemmas.List.Edits.{length-insert}
use Rattle.formal_sums.specs.FormalSums.{Each}
use Rattle.vector_division.specs.Divisors.{AreLeastFrom, indexed}
use Rattle.vector_division.specs.Marks.{IsMarkOf}
use Rattle.vector_division.specs.declared.divisors.Divisor.{Divisor}
use Rattle.vector_division.proofs.Inserting.{more_behind, more_count, more_divisors, more_within}
use Rattle.vector_division.proofs.divisors.insert_divisor.Goals as goal

pub set_least-requires-clause-within : goal.set_least-requires-clause-within
set_least-requires-clause-within g c =
    let list = g.L.Vectors.listed c.args.list.now in
    let d : Divisor = record { index = c.count-index.result - 1; mark = c.mark_of-mark.result; least = 0 } in
    let e : d.index ≡ length list - 1 = omega arith in
    let m = subst (λ v. IsMarkOf v d.mark) (c.at.ensures ∙ ap (λ i. get_or list i []) e) c.mark_of-mark.ensures in
    subst (Each (λ (e : Divisor). e.index < length list)) (sym c.in_ok-insert.ensures.items)
    (more_within list c.requires.some c.args.divisors.now.items c.args.place c.requires.place c.requires.divisors d e m)

pub set_least-requires-clause-count : goal.set_least-requires-clause-count
set_least-requires-clause-count g c =
    let old = c.args.divisors.now.items in
    let d : Divisor = record { index = c.count-index.result - 1; mark = c.mark_of-mark.result; least = 0 } in
    let longer = length-insert old c.args.place d c.requires.place in
    subst (λ (xs : List Divisor). c.args.place + 1 ≤ length xs) (sym c.in_ok-insert.ensures.items) (omega (arith, longer, c.requires.place))

pub set_least-requires-clause-behind : goal.set_least-requires-clause-behind
set_least-requires-clause-behind g c =
    let list = g.L.Vectors.listed c.args.list.now in
    let d : Divisor = record { index = c.count-index.result - 1; mark = c.mark_of-mark.result; least = 0 } in
    let e : d.index ≡ length list - 1 = omega arith in
    let m = subst (λ v. IsMarkOf v d.mark) (c.at.ensures ∙ ap (λ i. get_or list i []) e) c.mark_of-mark.ensures in
    subst (λ xs. AreLeastFrom list xs (c.args.place + 1)) (sym c.in_ok-insert.ensures.items)
    (more_behind list c.requires.some c.args.divisors.now.items c.args.place c.requires.place c.requires.divisors d e m)

pub returns-clause-divisors : goal.returns-clause-divisors
returns-clause-divisors g c =
    let list = g.L.Vectors.listed c.args.list.now in
    let d : Divisor = record { index = c.count-index.result - 1; mark = c.mark_of-mark.result; least = 0 } in
    let e : d.index ≡ length list - 1 = omega arith in
    let m = subst (λ v. IsMarkOf v d.mark) (c.at.ensures ∙ ap (λ i. get_or list i []) e) c.mark_of-mark.ensures in
    more_divisors list c.requires.some c.args.divisors.now.items c.args.place c.requires.place c.requires.divisors d e m
    c.set_least.new.divisors.items (c.set_least.ensures.kept ∙ ap (map indexed) c.in_ok-insert.ensures.items) c.set_least.ensures.least

pub returns-clause-count : goal.returns-clause-count
returns-clause-count g c =
    let list = g.L.Vectors.listed c.args.list.now in
    let d : Divisor = record { index = c.count-index.result - 1; mark = c.mark_of-mark.result; least = 0 } in
    let e : d.index ≡ length list - 1 = omega arith in
    let m = subst (λ v. IsMarkOf v d.mark) (c.at.ensures ∙ ap (λ i. get_or list i []) e) c.mark_of-mark.ensures in
    more_count list c.requires.some c.args.divisors.now.items c.args.place c.requires.place c.requires.divisors d e m
    c.set_least.new.divisors.items (c.set_least.ensures.kept ∙ ap (map indexed) c.in_ok-insert.ensures.items) c.set_least.ensures.least
