use Rattle.std.proofs.Common.{ap, arith, length, subst, suc, sym, ◌+◌, ◌<◌, ◌∙◌, ◌≡◌, ◌≤◌}
use Rattle.betti_laws.proofs.Tables.{betti}
use Rattle.betti_laws.specs.Tables.{occurrences, step_count}
use Rattle.term_lists.specs.Rings.{variables}
use Rattle.vector_division.specs.Progress.{AreWeighed}
use Rattle.resolution_maps.specs.Resolved.{degrees_of}
use Rattle.minimal_betti.specs.Graded.{graded_of}
use Rattle.minimal_betti.specs.Growing.{IsTableTo}
use Rattle.minimal_betti.proofs.Counts.{columns_at, step_joined, step_past, table_same}
use Rattle.minimal_betti.proofs.Growing.{table_done, table_start}
use Rattle.minimal_betti.proofs.tables.table.Goals as goal

pub loop-k-init : goal.loop-k-init
loop-k-init c =
    let C = graded_of c.args.ring.now c.args.resolution.now in
    let counts = step_count C.positions C.maps in
    c.in_ok-push_step.ensures counts (λ d. ap (occurrences d) (sym c.deref.ensures.value))
    (subst (λ es. IsTableTo counts es 0 0) (sym c.new-entries.ensures.items) (table_start counts))

pub column_degrees-requires : goal.column_degrees-requires
column_degrees-requires c =
    let ring = c.args.ring.now in
    columns_at (AreWeighed (variables ring) ring.weights)
    (λ m. m.columns) c.args.resolution.now.maps.items c.loop-k.k c.index-map.result.now c.requires.weighed (omega arith) c.index-map.ensures

pub loop-k-preserved : goal.loop-k-preserved
loop-k-preserved c =
    let ring = c.args.ring.now in
    let r = c.args.resolution.now in
    let C = graded_of ring r in
    let counts = step_count C.positions C.maps in
    let k = c.loop-k.k in
    let m = c.index-map.result.now in
    let lt : k < length r.maps.items = omega arith in
    let s = c.in_ok-step_above.field-0 in
    let es : s ≡ k + 1 = c.in_ok-step_above.ensures in
    let next : k + 1 ≡ suc k = omega arith in
    let degrees = ap (λ z. degrees_of ring z m.columns) (sym c.deref-in-loop-k.ensures.value) ∙ sym c.in_ok-degrees.ensures
    ∙ sym c.deref-in-loop-k-2.ensures.value in
    subst (λ z. IsTableTo counts c.push_step-in-loop-k.new.entries.items (z + 1) 0) es
    (c.in_ok-push_step-2.ensures counts
    (λ d. ap (λ z. counts z d) (es ∙ next) ∙ step_joined ring r.positions.items r.maps.items k d m c.requires.joined lt c.index-map.ensures
    ∙ ap (occurrences d) degrees)
    (subst (λ z. IsTableTo counts c.loop-k.entries.items z 0) (sym es) c.loop-k.invariant))

pub returns-clause-counts : goal.returns-clause-counts
returns-clause-counts c =
    let ring = c.args.ring.now in
    let r = c.args.resolution.now in
    let C = graded_of ring r in
    let n : length r.maps.items ≤ c.loop-k.k = omega arith in
    table_done (step_count C.positions C.maps) c.loop-k.entries.items (c.loop-k.k + 1) c.loop-k.invariant
    (λ k d le. step_past ring r.positions.items r.maps.items k d (omega (arith, n, le)))

pub returns-clause-every : goal.returns-clause-every
returns-clause-every c = λ places A D cm cp dm dp.
    let ring = c.args.ring.now in
    let C = graded_of ring c.args.resolution.now in
    table_same (step_count C.positions C.maps) (step_count D.positions D.maps) c.loop-k.entries.items
    (λ k d. betti ring.modulus.value (c.lawful_setting.ensures 0).domain places A C D cm dm cp dp k d)
    (returns-clause-counts c)
