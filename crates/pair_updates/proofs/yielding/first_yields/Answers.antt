use Rattle.std.proofs.Common.{List, arith, length, subst, sym, ℕ, ◌≡◌}
use Rattle.pair_updates.proofs.FirstYields.{all_settled, no_lower_yields, settled_first}
use Rattle.pair_updates.proofs.MetPairs.{active_none}
use Rattle.pair_updates.specs.FirstYields.{AreLowerYields, AreSettled}
use Rattle.pair_updates.proofs.yielding.first_yields.Goals as goal

pub loop-i-init : goal.loop-i-init
loop-i-init c =
    let m = c.args.leads.now in
    let h = length c.args.news.now in
    record {
      lower = rw (c.in_ok-firsts.ensures.items, c.in_ok-with_capacity.ensures.items) (no_lower_yields m h);
      active = rw (c.in_ok-with_capacity.ensures.items, c.in_ok-with_capacity-2.ensures.items) (active_none m h);
      seen = c.no_words-seen.ensures c.in_ok-with_capacity-2.field-0.items;
      len = omega (arith, c.in_ok-firsts.ensures.len);
      room = omega (arith, c.in_ok-firsts.ensures.capacity);
    }

pub loop-i-preserved : goal.loop-i-preserved
loop-i-preserved c = record {
  lower = c.in_ok-look_below.ensures.lower c.loop-i.invariant.lower;
  active = c.in_ok-look_below.ensures.active;
  seen = c.in_ok-look_below.ensures.seen;
  len = omega (arith, c.in_ok-look_below.ensures.len, c.loop-i.invariant.len);
  room = omega (arith, c.in_ok-look_below.ensures.capacity, c.loop-i.invariant.room);
}

pub loop-k-init : goal.loop-k-init
loop-k-init c =
    let m = c.args.leads.now in
    let h = length c.args.news.now in
    let end : c.loop-i.i ≡ h = omega (arith, c.loop-i-test.false, c.loop-i.auto.i-end) in
    let whole = subst (λ (k : ℕ). AreLowerYields m h k c.loop-i.firsts.items c.loop-i.active.members.items) end c.loop-i.invariant.lower in
    record {
      settled = (
        c.loop-i.firsts.items,
        (
          whole,
          subst (λ (l : List ℕ). AreSettled m h c.loop-i.active.members.items 0 c.loop-i.firsts.items l) (sym c.in_ok-with_capacity-3.ensures.items)
              (settled_first m h c.args.news.now c.loop-i.firsts.items c.loop-i.active.members.items c.requires whole),
        ),
      );
      active = c.loop-i.invariant.active;
      seen = c.loop-i.invariant.seen;
      long = whole.len;
    }

pub loop-k-preserved : goal.loop-k-preserved
loop-k-preserved c =
    let old = c.loop-k.invariant.settled in
    record {
      settled = (old.0, (old.1.0, c.in_ok-look_above.ensures.settled old.0 old.1.0 old.1.1));
      active = c.loop-k.invariant.active;
      seen = c.in_ok-look_above.ensures.seen;
      long = c.in_ok-look_above.ensures.long;
    }

pub returns : goal.returns
returns c =
    let s = c.loop-k.invariant.settled in
    all_settled c.args.leads.now (length c.args.news.now) c.loop-k.k c.loop-i.active.members.items c.loop-k.yields.firsts.items c.loop-k.yields.left.items
    (omega (arith, c.loop-k-test.false, c.len-k-end.ensures)) s.1.1
