use Rattle.std.proofs.Common.{ap, subst, sym, ◌++◌, ◌∙◌, ◌∷◌, []}
use Rattle.schreyer_resolution.specs.Progress.{AreResolvedTo}
use Rattle.schreyer_resolution.proofs.Starting.{resolved_start}
use Rattle.schreyer_resolution.proofs.resolving.first_maps.Goals as goal

pub returns-clause-resolved : goal.returns-clause-resolved
returns-clause-resolved c =
    let first = c.in_ok-first.first in
    let e = c.in_ok-push.ensures.items ∙ ap (λ z. z ++ first ∷ []) c.new-maps.ensures.items in
    subst (AreResolvedTo c.args.ring.now c.args.rank c.args.reduced.now) (sym e)
    (resolved_start c.args.ring.now c.args.rank c.args.reduced.now first c.in_ok-first.ensures.top c.in_ok-first.ensures.positions c.in_ok-first.ensures.canonical)

pub sorted_columns-requires-clause-vectors : goal.sorted_columns-requires-clause-vectors
sorted_columns-requires-clause-vectors c = c.requires.vectors

pub sorted_columns-requires-clause-positions : goal.sorted_columns-requires-clause-positions
sorted_columns-requires-clause-positions c = c.requires.positions

pub sorted_columns-requires-clause-basis : goal.sorted_columns-requires-clause-basis
sorted_columns-requires-clause-basis c = c.requires.basis

pub sorted_columns-requires-clause-some : goal.sorted_columns-requires-clause-some
sorted_columns-requires-clause-some c = c.requires.some
