use Rattle.std.proofs.Common.{replicate}
use Rattle.std.specs.List.{each_same}
use Rattle.dense_reduction.proofs.Lanes.{all_idle}
use Rattle.dense_reduction.proofs.together.room_for_eight.Goals as goal

pub returns : goal.returns
returns c =
    all_idle c.args.columns c.in_ok-vec.field-0.items (c.in_ok-vec.ensures.items_if_clones_equal (λ y h. each_same (replicate 8 0) y h.whole))
