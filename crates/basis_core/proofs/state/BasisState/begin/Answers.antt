use Rattle.std.proofs.Common.{List, None, [], ap, arith, length, refl, subst, sym, ◌∙◌, ◌≡◌, ℕ}
use Rattle.formal_sums.specs.FormalSums.{Each}
use Rattle.term_lists.specs.Rings.{variables}
use Rattle.queue_updates.specs.declared.Update.{Update}
use Rattle.basis_steps.specs.States.{vectors}
use Rattle.basis_steps.specs.Steps.{Begins}
use Rattle.basis_steps.specs.Updates.{QueuesPairs}
use Rattle.basis_core.proofs.Room.{room_bound}
use Rattle.basis_core.proofs.Starting.{begun_inside, begun_replays, made_monic}
use Rattle.basis_core.specs.Beginning.{HaveMade}
use Rattle.basis_core.specs.Inside.{IsEventRead, shown}
use Rattle.basis_core.specs.Jobs.{pairs_of}
use Rattle.basis_core.specs.Members.{MembersShown, Shared, members_of, setting_of, shared_of}
use Rattle.basis_core.specs.Shown.{Shown}
use Rattle.basis_core.specs.Views.{run_of, state_of}
use Rattle.basis_core.specs.declared.event.Event.{Event}
use Rattle.basis_core.specs.declared.state.BasisState.TheInside.{Inside}
use Rattle.pair_queue.specs.Shown.{PairsShown}
use Rattle.basis_core.proofs.state.BasisState.begin.Goals as goal

pub first_pairs-requires : goal.first_pairs-requires
first_pairs-requires c =
    let members = c.make_generators.new.members in
    made_monic members.shared (length members.shared.generators) members.list
    (subst (λ (x : Shared). HaveMade x (length x.generators) members.list) (sym c.make_generators.ensures.shared) c.in_ok-make_generators.ensures.makes)

-- what is queued with these members
abbrev Queues : MembersShown → PairsShown → Update → Type 0
Queues members pairs update =
    QueuesPairs update (setting_of (variables members.shared.ring) members.shared) 0 (vectors (members_of (variables members.shared.ring) members.list))
    [] [] (pairs_of pairs.queue) pairs.dropped

-- it is by the update that the pairs keep
queues_inside : (members : MembersShown) (pairs : PairsShown) (update : Update) → pairs.update ≡ update → Queues members pairs update → Queues members pairs pairs.update
queues_inside members pairs update e h = subst (Queues members pairs) (sym e) h

pub invariant_of-result : goal.invariant_of-result
invariant_of-result c =
    let i : Inside = record {
      budget = c.args.budget;
      workers = c.args.workers;
      members = c.make_generators.new.members;
      pairs = c.in_ok-pairs.pairs;
      taken = 0;
      ended = c.in_ok-ended.ended;
      stop = None;
      history = c.in_ok-history.history;
    } in
    let s : Shown = shown i in
    let n = variables s.shared.ring in
    let made = subst (λ (x : Shared). HaveMade x (length x.generators) s.members)
    (sym c.make_generators.ensures.shared) c.in_ok-make_generators.ensures.makes in
    let begins : Begins (run_of n s) (state_of n s) =
    begun_inside i made (queues_inside c.make_generators.new.members c.in_ok-pairs.pairs c.args.update c.in_ok-pairs.ensures.update c.in_ok-pairs.ensures.queues) c.in_ok-pairs.ensures.out refl c.in_ok-ended.ensures refl c.in_ok-history.ensures.items in
    record {
      some = c.requires.workers;
      replays = begun_replays (run_of n s) (state_of n s) begins;
      leads = c.in_ok-pairs.ensures.leads;
      stop = tt;
      read = subst (λ (l : List Event). Each (IsEventRead (length s.members) None) l) (sym c.in_ok-history.ensures.items) tt;
      room = omega (arith, ap length c.in_ok-history.ensures.items, room_bound (state_of n s) c.args.workers, c.in_ok-history.ensures.capacity);
    }

pub returns-clause-begins : goal.returns-clause-begins
returns-clause-begins c =
    let i : Inside = record {
      budget = c.args.budget;
      workers = c.args.workers;
      members = c.make_generators.new.members;
      pairs = c.in_ok-pairs.pairs;
      taken = 0;
      ended = c.in_ok-ended.ended;
      stop = None;
      history = c.in_ok-history.history;
    } in
    let s : Shown = shown i in
    let n = variables s.shared.ring in
    let made = subst (λ (x : Shared). HaveMade x (length x.generators) s.members)
    (sym c.make_generators.ensures.shared) c.in_ok-make_generators.ensures.makes in
    let begins : Begins (run_of n s) (state_of n s) =
    begun_inside i made (queues_inside c.make_generators.new.members c.in_ok-pairs.pairs c.args.update c.in_ok-pairs.ensures.update c.in_ok-pairs.ensures.queues) c.in_ok-pairs.ensures.out refl c.in_ok-ended.ensures refl c.in_ok-history.ensures.items in
    let e : s.shared ≡ shared_of
    (record { ring = c.args.ring; rank = c.args.rank; generators = c.args.generators; vectors = c.requires.generators }) =
    c.make_generators.ensures.shared ∙ c.new-members.ensures.shared ∙ ap shared_of c.in_ok-shared.ensures.ok in
    subst (λ (k : ℕ). Begins (run_of k s) (state_of k s)) (ap (λ (x : Shared). variables x.ring) e) begins
