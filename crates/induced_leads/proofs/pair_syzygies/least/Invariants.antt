use Rattle.std.proofs.Common.{drop, take}
use Rattle.term_lists.specs.Rings.{variables}
use Rattle.induced_leads.specs.Pairs.{AreLeastSoFar}
use Rattle.induced_leads.proofs.pair_syzygies.least.Given as goal

abbrev pub invariant-loop-m : goal.invariant-loop-m
invariant-loop-m l = AreLeastSoFar (variables l.ring) (take l.m-index l.m-items) (drop l.m-index l.m-items) l.kept.items
