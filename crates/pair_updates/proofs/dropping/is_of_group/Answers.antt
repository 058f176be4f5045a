use Rattle.std.proofs.Common.{None, Some}
use Rattle.std.proofs.lemmas.Bool.{false≢true}
use Rattle.pair_updates.proofs.NewFates.{new_at}
use Rattle.pair_updates.proofs.dropping.is_of_group.Goals as goal

pub have_one_lcm-requires : goal.have_one_lcm-requires
have_one_lcm-requires c = record {
  pair = c.requires.new.met;
  other = new_at c.args.leads.now c.args.news.now c.args.pair.now c.requires.new c.args.j (Some c.in-Some.above) c.requires.known c.in-Some.is;
}

pub returns-in-None : goal.returns-in-None
returns-in-None c = (
  (λ e. absurd (false≢true e)),
  (λ q. absurd (new_at c.args.leads.now c.args.news.now c.args.pair.now c.requires.new c.args.j None c.requires.known c.in-None.is q.pair)),
)
