use Rattle.std.specs.Prelude.{IfErr, IfSome}
use Rattle.std.proofs.Common.{[], length, map, subst, sym, ◌++◌, ◌∙◌, ◌∷◌, ◌≡◌}
use Rattle.formal_sums.specs.FormalSums.{Each}
use Rattle.term_lists.specs.Rings.{variables}
use Rattle.term_lists.specs.Vectors.{IsMonomialOver, key_of, sums_of}
use Rattle.resolution_maps.specs.Inducing.{tower_comparison}
use Rattle.resolution_maps.proofs.Joining.{if_more}
use Rattle.induced_leads.specs.Heads.{AreHeads}
use Rattle.induced_leads.specs.PairLeads.{ArePairLeads}
use Rattle.schreyer_resolution.specs.Columns.{AreColumnsTo, ColumnStops}
use Rattle.schreyer_resolution.specs.Progress.{IsNextMap}
use Rattle.schreyer_resolution.proofs.FirstMaps.{above_by, kept_heads, next_by, tower_is}
use Rattle.schreyer_resolution.proofs.Starting.{base_at, vectors_at}
use Rattle.schreyer_resolution.proofs.resolving.later_map.Goals as goal

pub above-requires-clause-maps : goal.above-requires-clause-maps
above-requires-clause-maps c = subst (λ z. c.args.maps.now ≡ z ++ c.args.columns.now ∷ []) (sym c.in_ok-frame.ensures.maps) c.requires.maps

pub pair_leads-requires-clause-vectors : goal.pair_leads-requires-clause-vectors
pair_leads-requires-clause-vectors c =
    vectors_at c.args.ring.now c.args.below.now c.args.columns.now c.in_ok-frame.frame
    (tower_is c.in_ok-frame.frame c.args.ring.now c.args.below.now c.in_ok-frame.ensures.ring c.in_ok-frame.ensures.maps) c.requires.top

pub pair_leads-requires-clause-base : goal.pair_leads-requires-clause-base
pair_leads-requires-clause-base c =
    base_at c.args.ring.now c.args.below.now c.args.columns.now c.in_ok-frame.frame
    (tower_is c.in_ok-frame.frame c.args.ring.now c.args.below.now c.in_ok-frame.ensures.ring c.in_ok-frame.ensures.maps) c.requires.top

pub columns_at-next-requires-clause-over : goal.columns_at-next-requires-clause-over
columns_at-next-requires-clause-over c = c.in_ok-induced.ensures.ring ∙ sym c.in_ok-frame.ensures.ring

pub columns_at-next-requires-clause-vectors : goal.columns_at-next-requires-clause-vectors
columns_at-next-requires-clause-vectors c =
    vectors_at c.args.ring.now c.args.below.now c.args.columns.now c.in_ok-frame.frame
    (tower_is c.in_ok-frame.frame c.args.ring.now c.args.below.now c.in_ok-frame.ensures.ring c.in_ok-frame.ensures.maps) c.requires.top

pub columns_at-next-requires-clause-base : goal.columns_at-next-requires-clause-base
columns_at-next-requires-clause-base c =
    base_at c.args.ring.now c.args.below.now c.args.columns.now c.in_ok-frame.frame
    (tower_is c.in_ok-frame.frame c.args.ring.now c.args.below.now c.in_ok-frame.ensures.ring c.in_ok-frame.ensures.maps) c.requires.top

pub columns_at-next-requires-clause-monomials : goal.columns_at-next-requires-clause-monomials
columns_at-next-requires-clause-monomials c =
    subst (Each (λ k. IsMonomialOver c.in_ok-frame.frame.ring k.monomial)) (sym c.deref.ensures.value) c.in_ok-keys.ensures.monomials

pub columns_at-next-requires-clause-pairs : goal.columns_at-next-requires-clause-pairs
columns_at-next-requires-clause-pairs c =
    let n = variables c.in_ok-frame.frame.ring in
    subst (λ z. ArePairLeads (sums_of n c.args.columns.now) (map (key_of n) z)) (sym c.deref.ensures.value) c.in_ok-keys.ensures.pairs

pub returns-clause-stop : goal.returns-clause-stop
returns-clause-stop c =
    subst (λ r. IfErr c.columns_at-next.result (ColumnStops r c.args.below.now c.args.columns.now)) c.in_ok-frame.ensures.ring c.columns_at-next.ensures.stop

pub columns_at-next-requires-clause-above : goal.columns_at-next-requires-clause-above
columns_at-next-requires-clause-above c =
    above_by c.args.ring.now c.args.below.now c.args.columns.now c.in_ok-frame.frame c.in_ok-induced.induced
    (tower_is c.in_ok-frame.frame c.args.ring.now c.args.below.now c.in_ok-frame.ensures.ring c.in_ok-frame.ensures.maps)
    (tower_is c.in_ok-induced.induced c.args.ring.now (c.args.below.now ++ c.args.columns.now ∷ []) c.in_ok-induced.ensures.ring (c.in_ok-induced.ensures.maps ∙ c.requires.maps))

pub returns-clause-next : goal.returns-clause-next
returns-clause-next c =
    if_more (AreColumnsTo c.in_ok-frame.frame.ring (tower_comparison c.in_ok-frame.frame) c.args.columns.now c.in_ok-induced.induced c.deref.result.now (length c.deref.result.now)) (IsNextMap c.args.ring.now c.args.below.now c.args.columns.now) c.columns_at-next.result
    (next_by c.args.ring.now c.args.below.now c.args.columns.now c.in_ok-frame.frame c.in_ok-induced.induced c.in_ok-keys.keys.items c.deref.result.now
    (tower_is c.in_ok-frame.frame c.args.ring.now c.args.below.now c.in_ok-frame.ensures.ring c.in_ok-frame.ensures.maps)
    (tower_is c.in_ok-induced.induced c.args.ring.now (c.args.below.now ++ c.args.columns.now ∷ []) c.in_ok-induced.ensures.ring (c.in_ok-induced.ensures.maps ∙ c.requires.maps))
    c.deref.ensures.value c.requires.top c.lawful_setting.ensures c.in_ok-keys.ensures.pairs)
    c.columns_at-next.ensures.columns

pub order_by-requires-clause-heads : goal.order_by-requires-clause-heads
order_by-requires-clause-heads c =
    let ring = c.args.ring.now in
    subst (λ o. IfSome o (AreHeads (variables ring) ring.weights c.args.below.now)) (sym c.take.ensures.value) c.requires.heads

pub returns-clause-heads : goal.returns-clause-heads
returns-clause-heads c =
    kept_heads c.columns_at-next.result c.in_ok-induced.induced c.args.ring.now c.args.maps.now c.into_heads.result c.in_ok-induced.ensures.ring c.in_ok-induced.ensures.maps c.into_heads.ensures
