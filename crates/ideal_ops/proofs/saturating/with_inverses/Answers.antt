use Rattle.std.proofs.Common.{Err, IfOk, Ok, Result, map, subst, sym, ◌++◌, ◌≡◌}
use Rattle.operation_laws.specs.Operations.{inverse_vector, listed, saturation_list, with_first}
use Rattle.term_lists.specs.FrontVariables.{front_ring}
use Rattle.term_lists.specs.Rings.{variables}
use Rattle.term_lists.specs.Vectors.{sums_of}
use Rattle.syzygy_engine.specs.Runs.{AreVectorsFor}
use Rattle.ideal_ops.proofs.Multiplied.{vectors_after}
use Rattle.ideal_ops.proofs.saturating.with_inverses.Goals as goal

if_ok : {X E : Type 0} (P Q : X → Type 0) (r : Result X E) → ((x : X) → P x → Q x) → IfOk r P → IfOk r Q
if_ok P Q (Ok x) f p = f x p
if_ok P Q (Err e) f p = tt

pub returns : goal.returns
returns c = λ f stands.
    let ring = c.args.ring.now in
    let p = ring.modulus.value in
    let m = c.args.rank in
    let F = sums_of (variables ring) c.args.list.now in
    let first = c.in_ok-first.first in
    let second = c.in_ok-second.second in
    let both = vectors_after (front_ring ring) (map with_first F) (listed 0 m (inverse_vector p f)) first second c.in_ok-first.ensures (c.in_ok-second.ensures f stands) in
    if_ok (λ all. all ≡ first ++ second) (AreVectorsFor (front_ring ring) (saturation_list p m f F)) c.followed.result
    (λ all e. subst (AreVectorsFor (front_ring ring) (saturation_list p m f F)) (sym e) both) c.followed.ensures

pub all_in_front-requires-clause-front : goal.all_in_front-requires-clause-front
all_in_front-requires-clause-front c = c.requires.front

pub all_in_front-requires-clause-vectors : goal.all_in_front-requires-clause-vectors
all_in_front-requires-clause-vectors c = c.requires.list

pub inverses-requires-clause-front : goal.inverses-requires-clause-front
inverses-requires-clause-front c = c.requires.front

pub inverses-requires-clause-w : goal.inverses-requires-clause-w
inverses-requires-clause-w c = c.requires.w
