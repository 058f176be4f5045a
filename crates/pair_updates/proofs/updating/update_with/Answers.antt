use Rattle.pair_updates.proofs.StayingPairs.{stayed_within}
use Rattle.pair_updates.proofs.UpdatedQueues.{updating_more}
use Rattle.pair_updates.specs.Dropping.{drops_of}
use Rattle.pair_updates.specs.Pairs.{pairs_of}
use Rattle.pair_updates.proofs.updating.update_with.Goals as goal

pub stay-requires : goal.stay-requires
stay-requires c = record { within = c.requires.within; real = c.requires.kept; earlier = c.requires.kept_earlier }

pub stay-requires-2 : goal.stay-requires-2
stay-requires-2 c = record { within = c.requires.within; real = c.requires.queued; earlier = c.requires.queued_earlier }

pub join-requires : goal.join-requires
join-requires c =
    let s = c.in_ok-stay-2.ensures in
    record {
      within = c.requires.within;
      real = s.kept_real;
      earlier = stayed_within c.args.leads.now c.args.h c.args.h (pairs_of c.args.queued.now.items) (drops_of c.stay.new.dropped.items)
          c.stay-2.new.pairs.items (drops_of c.stay-2.new.dropped.items) s c.requires.queued_earlier;
    }

pub returns : goal.returns
returns c = λ first old drops le u.
    updating_more c.args.leads.now first c.args.h old drops c.args.kept.now.items c.args.queued.now.items c.stay.new.pairs.items
    c.stay-2.new.pairs.items c.join.new.queued.items (drops_of c.args.dropped.now.items) (drops_of c.stay.new.dropped.items)
    (drops_of c.stay-2.new.dropped.items) (drops_of c.join.new.dropped.items) le u c.in_ok-stay.ensures c.in_ok-stay-2.ensures c.in_ok-join.ensures
