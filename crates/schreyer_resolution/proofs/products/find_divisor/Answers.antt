use Rattle.std.proofs.Common.{Some, [], arith, false, length, subst, sym, ◌<◌, ◌∷◌}
use Rattle.std.proofs.lemmas.Bool.{true≢false}
use Rattle.formal_sums.proofs.WeightedSums.{Each_append}
use Rattle.formal_sums.specs.FormalSums.{Each}
use Rattle.term_lists.specs.Rings.{variables}
use Rattle.term_lists.specs.Vectors.{key_of}
use Rattle.induced_leads.specs.Spans.{IsFoundLast}
use Rattle.schreyer_resolution.proofs.FreeRows.{flags_push}
use Rattle.schreyer_resolution.proofs.Rows.{last_found}
use Rattle.schreyer_resolution.specs.FreeKeys.{AreFreeNumbers}
use Rattle.schreyer_resolution.specs.Sharing.{IsFoundProduct, no_stretch}
use Rattle.schreyer_resolution.specs.declared.products.Product.{Product}
use Rattle.schreyer_resolution.proofs.products.find_divisor.Goals as goal

pub returns-in_ok-keep_flag-in-Some-clause-free : goal.returns-in_ok-keep_flag-in-Some-clause-free
returns-in_ok-keep_flag-in-Some-clause-free c =
    let n = variables c.args.ring.now in
    let cols = c.args.columns.now in
    let numbers = c.args.numbers.now in
    let flags = c.args.free.now.items in
    let inside = c.requires.number in
    let lt : length flags < length numbers = omega (arith, inside, c.requires.next) in
    subst (AreFreeNumbers n cols numbers) (sym c.in_ok-keep_flag-in-Some.ensures)
    (flags_push n cols numbers flags false lt c.requires.free (λ e. absurd (true≢false (sym e))))

pub returns-in_ok-keep_flag-in-Some-clause-found : goal.returns-in_ok-keep_flag-in-Some-clause-found
returns-in_ok-keep_flag-in-Some-clause-found c =
    let ring = c.args.ring.now in
    let n = variables ring in
    let cols = c.args.columns.now in
    let old = c.args.list.now.items in
    let k = key_of n c.index-keys-number.result in
    let at = c.in-Some.at in
    let m = c.in-Some.monomial in
    let s : Product = record { number = c.in_ok-kept_number-in-Some.field-0; index = at; monomial = m; stretch = no_stretch } in
    let found : IsFoundLast n ring.weights cols k (Some (at, m)) = subst (IsFoundLast n ring.weights cols k) c.in-Some.is c.in_ok-found.ensures in
    subst (Each (IsFoundProduct ring cols)) (sym c.in_ok-keep_product-in-Some.ensures)
    (Each_append _ old (s ∷ []) c.requires.found (
      record { index = found.0.index; weighed = found.0.variables; last = last_found n ring.weights cols k (at, m) c.requires.some found },
      tt,
    ))
