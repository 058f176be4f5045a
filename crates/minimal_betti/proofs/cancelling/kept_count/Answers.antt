use Rattle.std.proofs.Common.{arith, get_or, ◌-◌, ◌<◌, ◌∙◌}
use Rattle.std.proofs.lemmas.List.{get_or_default}
use Rattle.minimal_betti.proofs.Ending.{kept_full, kept_less, no_columns, some_columns}
use Rattle.minimal_betti.proofs.cancelling.kept_count.Goals as goal

pub returns-then-not-is_empty : goal.returns-then-not-is_empty
returns-then-not-is_empty c = λ n.
    let maps = c.args.maps.now in
    let k = c.loop-kept.kept in
    let b = c.loop-kept.invariant.bound in
    let pos : 0 < k = omega arith in
    let m = get_or maps (k - 1) c.index-maps-kept.result in
    c.loop-kept.invariant.is n
    ∙ kept_full n maps k m pos b (get_or_default maps (k - 1) c.index-maps-kept.result m (omega (arith, pos, b)))
    (some_columns m.columns c.if-not-is_empty.ensures)

pub loop-kept-preserved : goal.loop-kept-preserved
loop-kept-preserved c =
    let maps = c.args.maps.now in
    let k = c.loop-kept.kept in
    let b = c.loop-kept.invariant.bound in
    let pos : 0 < k = omega arith in
    let m = get_or maps (k - 1) c.index-maps-kept.result in
    record {
      bound = omega (arith, b);
      is = λ n. c.loop-kept.invariant.is n
          ∙ kept_less n maps k m pos b (get_or_default maps (k - 1) c.index-maps-kept.result m (omega (arith, pos, b)))
          (no_columns m.columns c.if-not-is_empty.ensures);
    }
