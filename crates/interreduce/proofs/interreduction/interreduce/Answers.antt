use Rattle.std.proofs.Common.{length, reverse, subst, sym, ◌<◌, ◌∙◌, ◌≡◌}
use Rattle.formal_sums.specs.FormalSums.{Each}
use Rattle.bases.specs.Bases.{IsReducedBasis}
use Rattle.term_lists.specs.Rings.{setting, variables}
use Rattle.term_lists.specs.Vectors.{AreVectorsOver, HasPositions, sums_of}
use Rattle.interreduce.specs.Leads.{AreNeeded}
use Rattle.interreduce.proofs.Reducing.{reduced_basis, reduced_positions, reduced_vectors}
use Rattle.interreduce.proofs.interreduction.interreduce.Goals as goal

pub reduced_members-requires-clause-needed : goal.reduced_members-requires-clause-needed
reduced_members-requires-clause-needed g c =
    let n = variables (g.F.Frame.over c.args.frame.now) in
    λ _ _. subst (AreNeeded n (g.F.Frame.compare c.args.frame.now n) (g.L.Vectors.listed c.args.list.now)) (sym c.deref.ensures.value) c.in_ok-kept.ensures.needed

pub returns-clause-vectors : goal.returns-clause-vectors
returns-clause-vectors g c =
    let ring = g.F.Frame.over c.args.frame.now in
    let compare = g.F.Frame.compare c.args.frame.now in
    let members = c.in_ok-members.members.items in
    let e : c.from_vec.result ≡ reverse members = c.from_vec.ensures ∙ c.reverse.ensures.items in
    subst (AreVectorsOver ring compare) (sym e) (reduced_vectors ring compare c.lawful_setting.ensures (g.L.Vectors.listed c.args.list.now) c.deref.result.now members c.in_ok-members.ensures.reduced)

pub returns-clause-reduced : goal.returns-clause-reduced
returns-clause-reduced g c = λ rank G basis.
    let ring = g.F.Frame.over c.args.frame.now in
    let compare = g.F.Frame.compare c.args.frame.now in
    let n = variables ring in
    let list = g.L.Vectors.listed c.args.list.now in
    let members = c.in_ok-members.members.items in
    let e : c.from_vec.result ≡ reverse members = c.from_vec.ensures ∙ c.reverse.ensures.items in
    let needed : AreNeeded n (compare n) list c.deref.result.now = subst (AreNeeded n (compare n) list) (sym c.deref.ensures.value) c.in_ok-kept.ensures.needed in
    subst (λ z. IsReducedBasis (setting ring n (compare n) rank) G (sums_of n z)) (sym e)
    (reduced_basis ring compare c.lawful_setting.ensures list c.deref.result.now members c.in_ok-members.ensures.reduced c.requires.vectors needed rank G basis)

pub returns-clause-positions : goal.returns-clause-positions
returns-clause-positions g c = λ rank h.
    let ring = g.F.Frame.over c.args.frame.now in
    let compare = g.F.Frame.compare c.args.frame.now in
    let members = c.in_ok-members.members.items in
    let e : c.from_vec.result ≡ reverse members = c.from_vec.ensures ∙ c.reverse.ensures.items in
    subst (Each (HasPositions rank)) (sym e) (reduced_positions ring compare c.lawful_setting.ensures (g.L.Vectors.listed c.args.list.now) c.deref.result.now members c.in_ok-members.ensures.reduced rank h)

pub needed_members-requires : goal.needed_members-requires
needed_members-requires g c = c.requires.vectors

pub reduced_members-requires-clause-others : goal.reduced_members-requires-clause-others
reduced_members-requires-clause-others g c =
    let count = length (g.L.Vectors.listed c.args.list.now) in
    λ _ _. c.serving.ensures count (subst (Each (λ i. i < count)) (sym c.deref-3.ensures.value) c.in_ok-kept.ensures.others)
