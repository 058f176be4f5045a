use Rattle.std.proofs.Common.{[], ap, get_or, length, subst, sym, ◌<◌, ◌∷◌, ◌∙◌}
use Rattle.std.proofs.lemmas.List.{get_or_default}
use Rattle.term_lists.specs.Rings.{variables}
use Rattle.term_lists.specs.Vectors.{IsVectorOver, key_of}
use Rattle.vector_division.specs.Progress.{IsSubtraction}
use Rattle.vector_division.specs.Runs.{total}
use Rattle.induced_leads.proofs.LeastLeads.{each_at}
use Rattle.schreyer_resolution.specs.Chains.{IsFailing}
use Rattle.schreyer_resolution.specs.Columns.{IsColumnUnderway}
use Rattle.schreyer_resolution.proofs.Dividing.{failing_is, rest_below, underway_next}
use Rattle.schreyer_resolution.proofs.column.take_last.Goals as goal

pub later_stop-requires-clause-failing : goal.later_stop-requires-clause-failing
later_stop-requires-clause-failing g c = λ a last is.
    let ring = g.F.Frame.over c.args.frame.now in
    let compare = g.F.Frame.compare c.args.frame.now in
    let base = c.requires.base in
    let cols = c.args.columns.now in
    let x = c.index-as_slice-at.result in
    let at = c.index-as_slice-at.is ∙ ap (λ l. get_or l c.in_ok-at.at x) c.as_slice.ensures ∙ get_or_default cols c.in_ok-at.at x [] c.in_ok-at.ensures.0.index in
    subst (λ q. IsFailing ring compare cols c.args.key.now q (c.in_ok-at.at, c.in_ok-at.monomial) last) (sym c.deref-in-Err.ensures.value)
    (failing_is ring compare base.rank (c.lawful_setting.ensures base.rank) (g.met.F.Frame.laws c.args.frame.now (variables ring) 0) cols c.requires.vectors base.monic base.basis
    c.args.key.now c.requires.pair c.args.quotients.now.items c.args.term c.args.buckets.now c.requires.variables c.requires.nonzero c.requires.reduced c.requires.below c.requires.underway
    (c.in_ok-at.at, c.in_ok-at.monomial) c.in_ok-at.ensures x c.in-Err.stop a last at is c.in-Err.ensures.stop)

pub returns-in_ok-push-in-Ok-clause-below : goal.returns-in_ok-push-in-Ok-clause-below
returns-in_ok-push-in-Ok-clause-below g c =
    let ring = g.F.Frame.over c.args.frame.now in
    let n = variables ring in
    let compare = g.F.Frame.compare c.args.frame.now in
    let base = c.requires.base in
    let cols = c.args.columns.now in
    let x = c.index-as_slice-at.result in
    let at = c.index-as_slice-at.is ∙ ap (λ l. get_or l c.in_ok-at.at x) c.as_slice.ensures ∙ get_or_default cols c.in_ok-at.at x [] c.in_ok-at.ensures.0.index in
    let put = c.in_ok-put_covered-in-Ok.ensures in
    put.below (key_of n c.args.term.0) c.requires.below
    (rest_below ring compare base.rank (c.lawful_setting.ensures base.rank) (g.met.F.Frame.laws c.args.frame.now n 0) cols c.requires.vectors base.monic base.basis
    c.args.key.now c.requires.pair c.args.quotients.now.items c.args.term c.args.buckets.now c.requires.variables c.requires.nonzero c.requires.reduced c.requires.below c.requires.underway
    (c.in_ok-at.at, c.in_ok-at.monomial) c.in_ok-at.ensures c.put_covered.new.buckets c.in-Ok.rest put.kept c.in-Ok.residue put.runs
    (subst (λ v. IsSubtraction n ring.weights ring.modulus.value (compare n) c.in_ok-at.monomial v 0 (c.args.term ∷ []) c.in-Ok.rest c.in-Ok.residue) at c.in-Ok.ensures.taken) put.sifted
    put.sum)

pub returns-in_ok-push-in-Ok-clause-underway : goal.returns-in_ok-push-in-Ok-clause-underway
returns-in_ok-push-in-Ok-clause-underway g c =
    let ring = g.F.Frame.over c.args.frame.now in
    let n = variables ring in
    let compare = g.F.Frame.compare c.args.frame.now in
    let base = c.requires.base in
    let cols = c.args.columns.now in
    let x = c.index-as_slice-at.result in
    let at = c.index-as_slice-at.is ∙ ap (λ l. get_or l c.in_ok-at.at x) c.as_slice.ensures ∙ get_or_default cols c.in_ok-at.at x [] c.in_ok-at.ensures.0.index in
    let put = c.in_ok-put_covered-in-Ok.ensures in
    subst (λ q. IsColumnUnderway ring compare cols c.args.key.now q c.put_covered.new.buckets (total n c.put_covered.new.buckets)) (sym c.in_ok-push-in-Ok.ensures.items)
    (underway_next ring compare base.rank (c.lawful_setting.ensures base.rank) (g.met.F.Frame.laws c.args.frame.now n 0) cols c.requires.vectors base.monic base.basis
    c.args.key.now c.requires.pair c.args.quotients.now.items c.args.term c.args.buckets.now c.requires.variables c.requires.nonzero c.requires.reduced c.requires.below c.requires.underway
    (c.in_ok-at.at, c.in_ok-at.monomial) c.in_ok-at.ensures c.put_covered.new.buckets c.in-Ok.rest put.kept c.in-Ok.residue put.runs
    (subst (λ v. IsSubtraction n ring.weights ring.modulus.value (compare n) c.in_ok-at.monomial v 0 (c.args.term ∷ []) c.in-Ok.rest c.in-Ok.residue) at c.in-Ok.ensures.taken) put.sifted
    put.sum)

pub next_divisor-requires-clause-vectors : goal.next_divisor-requires-clause-vectors
next_divisor-requires-clause-vectors g c = c.requires.vectors

pub next_divisor-requires-clause-base : goal.next_divisor-requires-clause-base
next_divisor-requires-clause-base g c = c.requires.base

pub next_divisor-requires-clause-index : goal.next_divisor-requires-clause-index
next_divisor-requires-clause-index g c = c.requires.index

pub next_divisor-requires-clause-pair : goal.next_divisor-requires-clause-pair
next_divisor-requires-clause-pair g c = c.requires.pair

pub next_divisor-requires-clause-variables : goal.next_divisor-requires-clause-variables
next_divisor-requires-clause-variables g c = c.requires.variables

pub next_divisor-requires-clause-nonzero : goal.next_divisor-requires-clause-nonzero
next_divisor-requires-clause-nonzero g c = c.requires.nonzero

pub next_divisor-requires-clause-reduced : goal.next_divisor-requires-clause-reduced
next_divisor-requires-clause-reduced g c = c.requires.reduced

pub next_divisor-requires-clause-below : goal.next_divisor-requires-clause-below
next_divisor-requires-clause-below g c = c.requires.below

pub later_stop-requires-clause-vectors : goal.later_stop-requires-clause-vectors
later_stop-requires-clause-vectors g c = c.requires.vectors

pub later_stop-requires-clause-base : goal.later_stop-requires-clause-base
later_stop-requires-clause-base g c = c.requires.base

pub later_stop-requires-clause-monomial : goal.later_stop-requires-clause-monomial
later_stop-requires-clause-monomial g c = c.requires.monomial

pub later_stop-requires-clause-pair : goal.later_stop-requires-clause-pair
later_stop-requires-clause-pair g c = c.requires.pair

pub put_covered-requires-clause-vectors : goal.put_covered-requires-clause-vectors
put_covered-requires-clause-vectors g c = c.requires.vectors

pub put_covered-requires-clause-index : goal.put_covered-requires-clause-index
put_covered-requires-clause-index g c = c.requires.index

pub subtract_lead-taken-requires-clause-term_variables : goal.subtract_lead-taken-requires-clause-term_variables
subtract_lead-taken-requires-clause-term_variables g c = c.requires.variables

pub subtract_lead-taken-requires-clause-nonzero : goal.subtract_lead-taken-requires-clause-nonzero
subtract_lead-taken-requires-clause-nonzero g c = c.requires.nonzero

pub subtract_lead-taken-requires-clause-reduced : goal.subtract_lead-taken-requires-clause-reduced
subtract_lead-taken-requires-clause-reduced g c = c.requires.reduced

pub next_divisor-requires-clause-underway : goal.next_divisor-requires-clause-underway
next_divisor-requires-clause-underway g c =
    let ring = g.F.Frame.over c.args.frame.now in
    let n = variables ring in
    subst (λ q. IsColumnUnderway ring (g.F.Frame.compare c.args.frame.now) c.args.columns.now c.args.key.now q c.args.buckets.now
    ((key_of n c.args.term.0, c.args.term.1) ∷ total n c.args.buckets.now))
    (sym c.deref.ensures.value) c.requires.underway

pub bounds-as_slice-at : goal.bounds-as_slice-at
bounds-as_slice-at g c = subst (λ l. c.in_ok-at.at < length l) (sym c.as_slice.ensures) c.in_ok-at.ensures.0.index

pub subtract_lead-taken-requires-clause-variables : goal.subtract_lead-taken-requires-clause-variables
subtract_lead-taken-requires-clause-variables g c = c.in_ok-at.ensures.0.variables

pub subtract_lead-taken-requires-clause-divisor : goal.subtract_lead-taken-requires-clause-divisor
subtract_lead-taken-requires-clause-divisor g c =
    let x = c.index-as_slice-at.result in
    each_at (IsVectorOver (g.F.Frame.over c.args.frame.now) (g.F.Frame.compare c.args.frame.now)) c.args.columns.now x c.requires.vectors
    (c.in_ok-at.at, c.in_ok-at.ensures.0.index, sym (c.index-as_slice-at.is ∙ ap (λ l. get_or l c.in_ok-at.at x) c.as_slice.ensures))

pub put_covered-requires-clause-vector : goal.put_covered-requires-clause-vector
put_covered-requires-clause-vector g c = c.in-Ok.ensures.taken.vector
