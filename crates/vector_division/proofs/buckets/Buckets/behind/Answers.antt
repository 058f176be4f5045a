use Rattle.std.proofs.Common.{subst, sym, ◌∷◌, ◌≡◌}
use Rattle.std.proofs.lemmas.Result.{IfOk-weaker}
use Rattle.term_lists.specs.Rings.{variables}
use Rattle.term_lists.specs.Vectors.{IsVectorOver, key_of}
use Rattle.vector_division.proofs.Topping.{vector_behind}
use Rattle.vector_division.proofs.buckets.Buckets.behind.Goals as goal

pub behind-requires : goal.behind-requires
behind-requires g c =
    let ring = g.F.Frame.over c.args.frame.now in
    let n = variables ring in
    vector_behind n ring.weights ring.modulus.value (g.F.Frame.compare c.args.frame.now n) c.args.first c.in_ok-run.run'
    c.requires.term c.in_ok-run.ensures.vector
    (c.in_ok-run.ensures.below (key_of n c.args.first.0) c.requires.below)

pub returns-clause-vector : goal.returns-clause-vector
returns-clause-vector g c =
    let ring = g.F.Frame.over c.args.frame.now in
    let n = variables ring in
    let P = IsVectorOver ring (g.F.Frame.compare c.args.frame.now) in
    let whole = vector_behind n ring.weights ring.modulus.value (g.F.Frame.compare c.args.frame.now n) c.args.first c.in_ok-run.run'
    c.requires.term c.in_ok-run.ensures.vector
    (c.in_ok-run.ensures.below (key_of n c.args.first.0) c.requires.below) in
    IfOk-weaker c.behind.result (λ v. v ≡ c.args.first ∷ c.in_ok-run.run') P (λ v e. subst P (sym e) whole) c.behind.ensures
