use Rattle.std.proofs.Common.{None, Some, subst, sym, ℕ, ◌<◌}
use Rattle.formal_sums.specs.FormalSums.{Each}
use Rattle.pair_updates.proofs.NewFates.{news_at}
use Rattle.pair_updates.proofs.dropping.fate_of_left.Goals as goal

pub returns-in-None : goal.returns-in-None
returns-in-None c = news_at c.args.leads.now c.args.news.now c.args.h c.args.i None c.requires.news c.requires.known c.in-None.is

pub fate_in_group-requires : goal.fate_in_group-requires
fate_in_group-requires c =
    let met = news_at c.args.leads.now c.args.news.now c.args.h c.args.i (Some c.in-Some.above) c.requires.news c.requires.known c.in-Some.is in
    record {
      new = record { pairs = c.requires.news; met = met };
      within = subst (λ (k : ℕ). Each (λ l. l < k) c.args.left.now) (sym c.requires.news.len) c.requires.within;
      group = c.requires.group met.pair;
      remains = c.requires.remains met.pair;
    }
