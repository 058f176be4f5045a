use Rattle.std.proofs.Common.{List, subst, sym, ℕ}
use Rattle.member_products.specs.Generators.{AreGenerators}
use Rattle.term_lists.specs.declared.key.Key.{Key as CodeKey}
use Rattle.term_lists.specs.declared.ring.Ring.{Ring}
use Rattle.run_endings.proofs.Closings.{are_generators}
use Rattle.plain_buchberger.proofs.Taking.{begins_free}
use Rattle.plain_buchberger.proofs.runs.begin.Goals as goal

pub begin-requires-clause-generators : goal.begin-requires-clause-generators
begin-requires-clause-generators c =
    subst (λ (ring : Ring). AreGenerators ring c.args.rank c.in_ok-generators.generators) (sym c.in_ok-ring.ensures)
    (subst (λ (list : List (List (CodeKey × ℕ))). AreGenerators c.args.ring.now c.args.rank list) (sym c.in_ok-generators.ensures)
    (are_generators c.args.ring.now c.args.rank c.args.list.now c.requires.vectors c.requires.positions))

pub returns-clause-free : goal.returns-clause-free
returns-clause-free c = begins_free c.in_ok-ring.ring c.args.rank c.in_ok-generators.generators c.args.pairs c.args.update c.begin.result c.begin.ensures.run c.begin.ensures.begins
