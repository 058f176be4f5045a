use Rattle.std.proofs.Common.{List, length, subst, ℕ, ◌<◌, ◌≤◌, ◌≡◌}
use Rattle.std.specs.Prelude.{slice_index_or}
use Rattle.session_top.proofs.Degrees.{weight_behind, weight_there}
use Rattle.session_top.proofs.stops.weight_at.Goals as goal

pub returns-in-Some : goal.returns-in-Some
returns-in-Some c =
    let k = c.args.k in
    let w = c.in-Some.weight.now in
    let found = subst (λ (ws : List ℕ). (k < length ws) × (w ≡ slice_index_or ws k w)) c.as_slice.ensures.value
    (c.in-Some.ensures.lookup.3.0, c.in-Some.ensures.lookup.1) in
    weight_there c.args.weights.now k w found.0 (c.as_slice.ensures.positive k found.0) found.1

pub returns-in-None : goal.returns-in-None
returns-in-None c =
    weight_behind c.args.weights.now c.args.k
    (subst (λ (ws : List ℕ). length ws ≤ c.args.k) c.as_slice.ensures.value c.in-None.ensures.lookup.3)
