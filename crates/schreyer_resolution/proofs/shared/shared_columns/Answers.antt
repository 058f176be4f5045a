use Rattle.std.proofs.Common.{arith, length, subst, subst₂, sym, ◌<◌, ◌≤◌, ◌∙◌}
use Rattle.std.specs.Prelude.{IfSome}
use Rattle.formal_sums.specs.FormalSums.{Each}
use Rattle.term_lists.specs.Rings.{setting, variables}
use Rattle.term_lists.specs.Vectors.{IsMonomialOver}
use Rattle.vector_division.proofs.Looping.{are_weighed}
use Rattle.vector_division.specs.Progress.{AreWeighed}
use Rattle.induced_leads.proofs.PairSteps.{base_leads}
use Rattle.induced_leads.specs.Pairs.{AreNonzero}
use Rattle.induced_leads.specs.Spans.{IsIndexOf}
use Rattle.schreyer_resolution.proofs.FreeMembers.{free_members_zero}
use Rattle.schreyer_resolution.proofs.SharedColumns.{columns_of_made, positions_of, vectors_reduced}
use Rattle.schreyer_resolution.specs.Columns.{AreColumnsTo}
use Rattle.numbered_sums.specs.ProductEntries.{AreReduced}
use Rattle.schreyer_resolution.specs.FreeKeys.{AreFreeMembersZero}
use Rattle.schreyer_resolution.specs.Sharing.{AreColumnsMade}
use Rattle.schreyer_resolution.proofs.shared.shared_columns.Goals as goal

pub made_columns-made-requires-clause-frame : goal.made_columns-made-requires-clause-frame
made_columns-made-requires-clause-frame g c = sym c.ring-ring.ensures

pub made_columns-made-requires-clause-over : goal.made_columns-made-requires-clause-over
made_columns-made-requires-clause-over g c = c.requires.over ∙ sym c.ring-ring.ensures

pub made_columns-made-requires-clause-base : goal.made_columns-made-requires-clause-base
made_columns-made-requires-clause-base g c =
    let ring = g.F.Frame.over c.args.frame.now in
    let base = c.requires.base in
    subst₂ AreFreeMembersZero (sym c.ring-ring.ensures) (sym c.as_slice.ensures)
    (free_members_zero ring (g.F.Frame.compare c.args.frame.now) base.rank (c.lawful_setting.ensures base.rank) c.args.columns.now base.basis)

pub made_columns-made-requires-clause-some : goal.made_columns-made-requires-clause-some
made_columns-made-requires-clause-some g c =
    let ring = g.F.Frame.over c.args.frame.now in
    let n = variables ring in
    let base = c.requires.base in
    subst AreNonzero (sym c.as_slice.ensures) (base_leads n (setting ring n (g.F.Frame.compare c.args.frame.now n) base.rank) (c.lawful_setting.ensures base.rank) c.args.columns.now base.monic)

pub made_columns-made-requires-clause-index : goal.made_columns-made-requires-clause-index
made_columns-made-requires-clause-index g c = subst (λ z. IsIndexOf z c.args.index.now) (sym c.as_slice.ensures) c.requires.index

pub made_columns-made-requires-clause-positions : goal.made_columns-made-requires-clause-positions
made_columns-made-requires-clause-positions g c =
    subst (λ z. Each (λ k. k.position < length z) c.args.keys.now) (sym c.as_slice.ensures)
    (positions_of (variables (g.F.Frame.over c.args.frame.now)) c.args.columns.now c.args.keys.now c.requires.pairs)

pub made_columns-made-requires-clause-monomials : goal.made_columns-made-requires-clause-monomials
made_columns-made-requires-clause-monomials g c =
    subst (λ r. Each (λ k. IsMonomialOver r k.monomial) c.args.keys.now) (sym c.ring-ring.ensures) c.requires.monomials

pub made_columns-made-requires-clause-weighed : goal.made_columns-made-requires-clause-weighed
made_columns-made-requires-clause-weighed g c =
    let ring = g.F.Frame.over c.args.frame.now in
    let n = variables ring in
    subst₂ (λ r z. AreWeighed (variables r) r.weights z) (sym c.ring-ring.ensures) (sym c.as_slice.ensures) (are_weighed n ring.weights ring.modulus.value (g.F.Frame.compare c.args.frame.now n) c.args.columns.now c.requires.vectors)

pub made_columns-made-requires-clause-reduced : goal.made_columns-made-requires-clause-reduced
made_columns-made-requires-clause-reduced g c =
    let ring = g.F.Frame.over c.args.frame.now in
    subst₂ (λ r z. AreReduced r.modulus.value z) (sym c.ring-ring.ensures) (sym c.as_slice.ensures) (vectors_reduced ring (g.F.Frame.compare c.args.frame.now) c.args.columns.now c.requires.vectors)

pub returns-in-Ok-Some : goal.returns-in-Ok-Some
returns-in-Ok-Some g c =
    let ring = g.F.Frame.over c.args.frame.now in
    let compare = g.F.Frame.compare c.args.frame.now in
    let base = c.requires.base in
    let cols = c.args.columns.now in
    let t = c.args.induced.now in
    let keys = c.args.keys.now in
    let next = c.in-Ok-Some.next.items in
    let some : AreColumnsMade c.ring-ring.result.now c.as_slice.result.now t keys (length keys) next =
    subst (λ o. IfSome o (λ x. AreColumnsMade c.ring-ring.result.now c.as_slice.result.now t keys (length keys) x.items)) c.in-Ok-Some.field-0-is c.in-Ok-Some.ensures in
    let made : AreColumnsMade ring cols t keys (length keys) next = subst₂ (λ r z. AreColumnsMade r z t keys (length keys) next) c.ring-ring.ensures c.as_slice.ensures some in
    let whole : length keys ≤ length keys = omega arith in
    subst (AreColumnsTo ring compare cols t keys (length keys)) (sym c.from_vec.ensures)
    (columns_of_made ring compare cols t keys base.rank (c.lawful_setting.ensures base.rank) base.monic (c.requires.above (variables ring)) c.requires.pairs
    (length keys) next whole made)
