use Rattle.std.proofs.Common.{[], arith, length, map, refl, subst, sym, ◌<◌, ◌∙◌, ◌∷◌}
use Rattle.formal_sums.specs.FormalSums.{Each}
use Rattle.term_lists.specs.Rings.{ring_comparison, variables}
use Rattle.term_lists.specs.Vectors.{IsMonomialOver, key_of, sums_of}
use Rattle.resolution_maps.specs.Inducing.{over}
use Rattle.resolution_maps.proofs.Joining.{if_more}
use Rattle.induced_leads.specs.PairLeads.{ArePairLeads}
use Rattle.schreyer_resolution.specs.Columns.{AreColumnsTo}
use Rattle.schreyer_resolution.specs.Progress.{IsNextMap}
use Rattle.schreyer_resolution.proofs.FirstMaps.{above_by, kept_heads, next_by, tower_is}
use Rattle.schreyer_resolution.proofs.resolving.second_map.Goals as goal

pub through-requires : goal.through-requires
through-requires c = subst (λ z. 0 < length z) (sym c.requires.maps) (omega arith)

pub pair_leads-requires-clause-vectors : goal.pair_leads-requires-clause-vectors
pair_leads-requires-clause-vectors c = c.requires.top.vectors

pub pair_leads-requires-clause-base : goal.pair_leads-requires-clause-base
pair_leads-requires-clause-base c = c.requires.top.base

pub columns_at-next-requires-clause-above : goal.columns_at-next-requires-clause-above
columns_at-next-requires-clause-above c =
    above_by c.args.ring.now [] c.args.columns.now (over c.args.ring.now []) c.in_ok-induced.induced refl
    (tower_is c.in_ok-induced.induced c.args.ring.now (c.args.columns.now ∷ []) c.in_ok-induced.ensures.ring (c.in_ok-induced.ensures.maps ∙ c.requires.maps))

pub columns_at-next-requires-clause-vectors : goal.columns_at-next-requires-clause-vectors
columns_at-next-requires-clause-vectors c = c.requires.top.vectors

pub columns_at-next-requires-clause-base : goal.columns_at-next-requires-clause-base
columns_at-next-requires-clause-base c = c.requires.top.base

pub columns_at-next-requires-clause-monomials : goal.columns_at-next-requires-clause-monomials
columns_at-next-requires-clause-monomials c =
    subst (Each (λ k. IsMonomialOver c.args.ring.now k.monomial)) (sym c.deref.ensures.value) c.in_ok-keys.ensures.monomials

pub columns_at-next-requires-clause-pairs : goal.columns_at-next-requires-clause-pairs
columns_at-next-requires-clause-pairs c =
    let n = variables c.args.ring.now in
    subst (λ z. ArePairLeads (sums_of n c.args.columns.now) (map (key_of n) z)) (sym c.deref.ensures.value) c.in_ok-keys.ensures.pairs

pub returns-clause-next : goal.returns-clause-next
returns-clause-next c =
    if_more (AreColumnsTo c.args.ring.now (ring_comparison c.args.ring.now) c.args.columns.now c.in_ok-induced.induced c.deref.result.now (length c.deref.result.now)) (IsNextMap c.args.ring.now [] c.args.columns.now) c.columns_at-next.result
    (next_by c.args.ring.now [] c.args.columns.now (over c.args.ring.now []) c.in_ok-induced.induced c.in_ok-keys.keys.items c.deref.result.now refl
    (tower_is c.in_ok-induced.induced c.args.ring.now (c.args.columns.now ∷ []) c.in_ok-induced.ensures.ring (c.in_ok-induced.ensures.maps ∙ c.requires.maps))
    c.deref.ensures.value c.requires.top c.lawful_setting.ensures c.in_ok-keys.ensures.pairs)
    c.columns_at-next.ensures.columns

pub returns-clause-heads : goal.returns-clause-heads
returns-clause-heads c =
    kept_heads c.columns_at-next.result c.in_ok-induced.induced c.args.ring.now c.args.maps.now c.into_heads.result c.in_ok-induced.ensures.ring c.in_ok-induced.ensures.maps c.into_heads.ensures
