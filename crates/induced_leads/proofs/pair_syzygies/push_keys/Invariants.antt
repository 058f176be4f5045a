use Rattle.std.proofs.Common.{map, reverse, ◌++◌, ◌≡◌}
use Rattle.std.specs.Vec.{vec_len}
use Rattle.induced_leads.specs.Pairs.{key_at_position}
use Rattle.induced_leads.proofs.pair_syzygies.push_keys.Given as goal

abbrev pub invariant-loop-monomial : goal.invariant-loop-monomial
invariant-loop-monomial l = l.keys.items ++ map (key_at_position l.position) (reverse l.rest.items) ≡ l.fn.keys.items ++ map (key_at_position l.position) (reverse l.fn.monomials.items)

abbrev pub decreases-loop-monomial : goal.decreases-loop-monomial
decreases-loop-monomial l = vec_len l.rest
