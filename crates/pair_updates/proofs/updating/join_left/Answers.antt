use Rattle.std.proofs.Common.{List, subst, ◌+◌, ◌≡◌, ℕ}
use Rattle.basis_steps.specs.Pairs.{Drop}
use Rattle.pair_updates.proofs.Leading.{lcms_of}
use Rattle.pair_updates.proofs.JoiningPairs.{apart_joins, dropped_joins, one_more, pushed_count, pushed_real, queued_joins, spared_joins}
use Rattle.pair_updates.specs.Dropping.{IsFate, drops_of}
use Rattle.pair_updates.specs.declared.dropping.Fate.{Fate}
use Rattle.pair_updates.specs.declared.dropping.Fate.TheVariants as fates
use Rattle.pair_updates.specs.Leads.{LeadsShown, setting_of_leads, sums_shown}
use Rattle.pair_updates.specs.Updating.{Joining}
use Rattle.pair_updates.proofs.updating.join_left.Goals as goal

-- what the fate says, at the variant that was met
fate_is :
    (m : LeadsShown) (h i : ℕ) (met f : Fate) → met ≡ f → IsFate (setting_of_leads m.variables m) (sums_shown m) h i met
    → IsFate (setting_of_leads m.variables m) (sums_shown m) h i f
fate_is m h i met f e is = subst (λ (z : Fate). IsFate (setting_of_leads m.variables m) (sums_shown m) h i z) e is

pub push_pair-requires : goal.push_pair-requires
push_pair-requires c = record { order = c.requires.known; known = c.requires.within; lcms = lcms_of c.args.leads.now c.args.queued.now.items c.requires.real }

pub returns-in_ok-push_pair-in-Queued : goal.returns-in_ok-push_pair-in-Queued
returns-in_ok-push_pair-in-Queued c =
    let m = c.args.leads.now in
    let f = fate_is m c.args.h c.args.i c.fate_of_left.result fates.Queued c.in-Queued.is c.fate_of_left.ensures in
    let new = c.push_pair.new.pairs.items in
    let same = pushed_count m c.args.i c.args.h c.args.queued.now.items new f.0 c.in_ok-push_pair-in-Queued.ensures.same in
    let real = pushed_real m c.args.i c.args.h c.args.queued.now.items new f.0 same c.requires.real c.in_ok-push_pair-in-Queued.ensures.lcms in
    record {
      joining = λ start drops within j.
          queued_joins m c.args.h start drops within c.args.i c.requires.known c.args.queued.now.items (drops_of c.args.dropped.now.items) j
          new real f.0 f.1 f.2 same;
      real = real;
    }

pub returns-in_ok-push-in-Dropped : goal.returns-in_ok-push-in-Dropped
returns-in_ok-push-in-Dropped c =
    let m = c.args.leads.now in
    let k = c.in-Dropped.k in
    let f = fate_is m c.args.h c.args.i c.fate_of_left.result (fates.Dropped k) c.in-Dropped.is c.fate_of_left.ensures in
    record {
      joining = λ start drops within j.
          subst (λ (ds : List Drop). Joining m c.args.h (c.args.i + 1) start drops c.args.queued.now.items ds)
          (one_more c.args.dropped.now.items c.push.new.self.items (record { i = c.args.i; j = c.args.h; k = k }) c.in_ok-push-in-Dropped.ensures.items)
          (dropped_joins m c.args.h start drops within c.args.i c.requires.known c.args.queued.now.items (drops_of c.args.dropped.now.items) j k f.0 f.1);
      real = c.requires.real;
    }

pub returns-in-Apart : goal.returns-in-Apart
returns-in-Apart c =
    let m = c.args.leads.now in
    let f = fate_is m c.args.h c.args.i c.fate_of_left.result fates.Apart c.in-Apart.is c.fate_of_left.ensures in
    record {
      joining = λ start drops within j.
          apart_joins m c.args.h start drops within c.args.i c.requires.known c.args.queued.now.items (drops_of c.args.dropped.now.items) j f;
      real = c.requires.real;
    }

pub returns-in-Spared : goal.returns-in-Spared
returns-in-Spared c =
    let m = c.args.leads.now in
    let f = fate_is m c.args.h c.args.i c.fate_of_left.result fates.Spared c.in-Spared.is c.fate_of_left.ensures in
    record {
      joining = λ start drops within j.
          spared_joins m c.args.h start drops within c.args.i c.requires.known c.args.queued.now.items (drops_of c.args.dropped.now.items) j f.1 f.2;
      real = c.requires.real;
    }
