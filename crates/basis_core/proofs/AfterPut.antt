-- A state after a Put
use Rattle.std.proofs.Common.{Global, List, Vec, [], ap, append-nil, arith, false, get_or, inr, length, length-append, refl, subst, suc, sym, take}
use Rattle.std.proofs.Common.{true, vec_capacity, zero, ℕ, ◌*◌, ◌++◌, ◌+◌, ◌-◌, ◌<◌, ◌∙◌, ◌∷◌, ◌≡◌, ◌≤◌}
use Rattle.std.proofs.lemmas.List.{length-map, take-map}
use Rattle.formal_sums.specs.FormalSums.{Each, FormalSum}
use Rattle.term_lists.specs.Rings.{variables}
use Rattle.term_lists.specs.Vectors.{sum_of}
use Rattle.module_vectors.specs.Trails.{KeptProduct, last_product, no_product}
use Rattle.module_vectors.specs.declared.trail.KeptTrail.{KeptTrail}
use Rattle.member_products.specs.Generators.{IsVectorOf}
use Rattle.member_products.specs.declared.member.Reduct.{Reduct as CodeReduct}
use Rattle.basis_steps.proofs.Reading.{replays_given}
use Rattle.basis_steps.specs.Criteria.{IsPair}
use Rattle.basis_steps.specs.Divisions.{AreReached, MakesMembers, Occurs}
use Rattle.basis_steps.specs.Outcomes.{AreJobProducts, IsOutcome}
use Rattle.basis_steps.specs.Pairs.{Drop, Pair}
use Rattle.basis_steps.specs.Updates.{QueuesPairs}
use Rattle.basis_steps.specs.States as plain
use Rattle.basis_steps.specs.States.{vectors, with_others}
use Rattle.basis_steps.specs.Steps.{Puts, Replays}
use Rattle.basis_steps.specs.Trails.{HasGiven, row_at}
use Rattle.basis_core.specs.declared.event.Event.{Event}
use Rattle.basis_core.specs.declared.event.Event.TheVariants.{Put}
use Rattle.basis_core.specs.declared.row_division.RowStop.{RowStop}
use Rattle.basis_core.specs.declared.row_division.RowTrail.{RowTrail}
use Rattle.basis_core.specs.declared.row_division.RowStop.TheVariants as row_stops
use Rattle.basis_core.specs.Stops.{IsTrailBy, earlier_products, trail_of}
use Rattle.std.specs.Prelude.{Contains}
use Rattle.basis_core.specs.declared.state.BasisState.TheInside.{Inside}
use Rattle.module_vectors.specs.declared.trail.WorkStop.{WorkStop}
use Rattle.module_vectors.specs.declared.trail.WorkStop.TheVariants.{Degree, Memory}
use Rattle.basis_core.specs.Answers.{IsJobOut, IsPutTrail, PutStops}
use Rattle.basis_core.specs.Inside.{IsCoherentState, IsEventRead, all_left, shown}
use Rattle.pair_queue.specs.Shown.{PairsShown}
use Rattle.basis_core.specs.Jobs.{pairs_of}
use Rattle.basis_core.specs.Leads.{leads_shown_of}
use Rattle.basis_core.specs.Makings.{TrailEndsAs, HaveMadeRows, StopsAt, StopsOne, StopsRow, StopsWork}
use Rattle.basis_core.specs.Members.{IsRunRow, IsMemberShown, MembersShown, Shared, MemberShown}
use Rattle.basis_core.specs.Members.{member_of, members_of, reduct_row_of, reduct_rows_of, setting_of}
use Rattle.basis_core.specs.Outcomes.{OutcomeShown, IsOutcomeOver, indexed_product_of, indexed_products_of}
use Rattle.basis_core.specs.Shown.{Shown}
use Rattle.basis_core.specs.Views.{history_of, run_of, state_of, variables_of}
use Rattle.basis_core.proofs.Growing.{history_more, put_made, read_more, stays}
use Rattle.basis_core.proofs.MadeMembers.{members-append, rows-append, vectors_more}
use Rattle.basis_core.proofs.Reaching.{row_reached, terms_of}
use Rattle.basis_core.proofs.Replaying.{replays_after}
use Rattle.basis_core.proofs.Room.{room_after_put, room_bound}

-- ---- lists of members
pub members_length : (n : ℕ) (ms : List MemberShown) → length (vectors (members_of n ms)) ≡ length ms
members_length n [] = refl
members_length n (m ∷ ms) = ap suc (members_length n ms)

-- ---- members that were taken back
take_front : {X : Type 0} (xs ys : List X) → take (length xs) (xs ++ ys) ≡ xs
take_front {X} [] ys = none ys
  where
    none : (l : List X) → take 0 l ≡ []
    none [] = refl
    none (x ∷ l) = refl
take_front (x ∷ xs) ys = ap (λ l. x ∷ l) (take_front xs ys)

pub front_same : (ms made : List MemberShown) (k : ℕ) → k ≡ length ms → take k (ms ++ made) ≡ ms
front_same ms made k e = ap (λ j. take j (ms ++ made)) e ∙ take_front ms made

-- the members behind the old ones are taken back
pub taken_back :
    (old after now : MembersShown) (first : ℕ) (made : List MemberShown)
    → after.shared ≡ old.shared → after.list ≡ old.list ++ made → first ≡ length old.list → now.shared ≡ after.shared
    → now.list ≡ take first after.list → now ≡ old
taken_back old after now first made shared list first_is same front = λ i. record {
  shared = (same ∙ shared) i;
  list = (front ∙ ap (take first) list ∙ front_same old.list made first first_is) i;
}

-- ---- the step
-- the state after a Put
abbrev pub after_put : Shown → List MemberShown → List Pair → List Drop → List (Pair × ℕ) → List Event → Shown
after_put s after queue dropped out es = record s { members = after; queue = queue; dropped = dropped; out = out; history = es }

-- what the code of a Put came to
pub record HasPut (n : ℕ) (s : Shown) (o : OutcomeShown) (after : List MemberShown) (queue : List Pair) (dropped : List Drop) (out : List (Pair × ℕ)) (es : List Event) : Type 0 where
  pub known : o.job.worker < s.workers
  pub works : get_or s.ended o.job.worker true ≡ false
  pub job : IsJobOut s o
  pub outcome : IsOutcome (setting_of n s.shared) (vectors (members_of n o.job.members)) (pairs_of o.job.pairs) (reduct_rows_of n o.rows) (indexed_products_of n o.products)
  pub made : HaveMadeRows n s.shared s.members o.rows after
  pub first : ℕ
  pub first_is : first ≡ length s.members
  pub queues : QueuesPairs s.update (setting_of n s.shared) first (vectors (members_of n after)) s.queue s.dropped queue dropped
  pub out_is : out ≡ with_others o.job.worker s.out
  pub read : Each (IsEventRead (length s.members) s.stop) s.history
  pub events : es ≡ s.history ++ (Put o.job.worker first (length after - first) ∷ [])

-- the outcome in the number of variables of the run's ring
pub outcome_of :
    (s : Shown) (o : OutcomeShown) → o.job.shared ≡ s.shared → IsOutcomeOver o
    → IsOutcome (setting_of (variables_of s) s.shared) (vectors (members_of (variables_of s) o.job.members)) (pairs_of o.job.pairs)
    (reduct_rows_of (variables_of s) o.rows) (indexed_products_of (variables_of s) o.products)
outcome_of s o e h =
    subst (λ (sh : Shared). IsOutcome (setting_of (variables sh.ring) sh) (vectors (members_of (variables sh.ring) o.job.members))
    (pairs_of o.job.pairs) (reduct_rows_of (variables sh.ring) o.rows) (indexed_products_of (variables sh.ring) o.products)) e h.outcome

-- the vectors of the job's members are the first ones
pub base_vectors : (n : ℕ) (ms base : List MemberShown) → base ≡ take (length base) ms
    → vectors (members_of n base) ≡ take (length base) (vectors (members_of n ms))
base_vectors n ms base e =
    ap (λ l. vectors (members_of n l)) e
    ∙ ap vectors (sym (take-map (λ m. member_of n m) (length base) ms))
    ∙ sym (take-map (λ (m : plain.Member n). m.vector) (length base) (members_of n ms))

module _ (n : ℕ) (s : Shown) (o : OutcomeShown) (after : List MemberShown) (queue : List Pair) (dropped : List Drop) (out : List (Pair × ℕ)) (es : List Event)
    (h : HasPut n s o after queue dropped out es) where
  made_count : length after - h.first ≡ length (h.made).made
  made_count = omega (arith, ap length (h.made).same, length-append s.members (h.made).made, h.first_is)

  pub put_step :
      Puts (run_of n s) (state_of n s) o.job.worker (length o.job.members) (reduct_rows_of n o.rows) (indexed_products_of n o.products)
      (members_of n (h.made).made) (state_of n (after_put s after queue dropped out es))
  put_step = record {
    may = record {
      known = h.known;
      works = h.works;
      had = omega (arith, (h.job).had, length-map s.members (λ m. member_of n m));
      outcome = subst (λ (z : List (FormalSum n) × List Pair). IsOutcome (setting_of n s.shared) z.0 z.1 (reduct_rows_of n o.rows)
          (indexed_products_of n o.products)) (λ i. (base_vectors n s.members o.job.members (h.job).members i, sym (h.job).out i)) h.outcome;
    };
    makes = (h.made).makes;
    queue = queue;
    dropped = dropped;
    queues = subst (λ (z : ℕ × List (plain.Member n)). QueuesPairs s.update (setting_of n s.shared) z.0 (vectors z.1) s.queue s.dropped queue dropped)
        (λ i. ((h.first_is ∙ sym (length-map s.members (λ m. member_of n m))) i, all i)) h.queues;
    after = λ i. record (state_of n s) { members = all i; queue = queue; dropped = dropped; out = h.out_is i; history = history i };
  }
    where
      all : members_of n after ≡ members_of n s.members ++ members_of n (h.made).made
      all = ap (members_of n) (h.made).same ∙ members-append n s.members (h.made).made

      events : es ≡ s.history ++ (Put o.job.worker (length s.members) (length (h.made).made) ∷ [])
      events = h.events ∙ (λ i. s.history ++ (Put o.job.worker (h.first_is i) (made_count i) ∷ []))

      history : history_of n after s.stop es ≡ history_of n s.members s.stop s.history ++ (plain.Put o.job.worker (members_of n (h.made).made) ∷ [])
      history =
          (λ i. history_of n ((h.made).same i) s.stop (events i))
          ∙ history_more n s.members (h.made).made s.stop s.stop s.history (Put o.job.worker (length s.members) (length (h.made).made))
          (stays s.stop s.stop refl) h.read
          ∙ ap (λ e. history_of n s.members s.stop s.history ++ (e ∷ [])) (put_made n s.members (h.made).made s.stop o.job.worker)

  pub put_read : Each (IsEventRead (length after) s.stop) es
  put_read =
      let count : length after ≡ length s.members + length (h.made).made = ap length (h.made).same ∙ length-append s.members (h.made).made in
      subst (Each (IsEventRead (length after) s.stop)) (sym h.events)
      (read_more (length s.members) (length after) s.stop s.stop s.history (Put o.job.worker h.first (length after - h.first)) (omega (arith, count))
      (stays s.stop s.stop refl) h.read (omega (arith, count, h.first_is)))

-- what is kept is kept
pub put_kept :
    (i : Inside) (o : OutcomeShown) (members : MembersShown) (pairs : PairsShown) (history : Vec Event Global)
    → IsCoherentState i → members.shared ≡ i.members.shared
    → HasPut (variables_of (shown i)) (shown i) o members.list (pairs_of pairs.queue) pairs.dropped pairs.out history.items
    → pairs.leads ≡ leads_shown_of i.members.shared members.list → pairs.update ≡ i.pairs.update
    → length i.history.items + (3 * i.workers + 1) ≤ vec_capacity history
    → IsCoherentState (record i { members = members; pairs = pairs; history = history })
put_kept i o members pairs history kept same h leads update room =
    let n : ℕ = variables_of (shown i) in
    let t : Shown = record (after_put (shown i) members.list (pairs_of pairs.queue) pairs.dropped pairs.out history.items) { update = pairs.update } in
    let step : Puts (run_of n (shown i)) (state_of n (shown i)) o.job.worker (length o.job.members) (reduct_rows_of n o.rows) (indexed_products_of n o.products)
    (members_of n (h.made).made) (state_of n t) =
    put_step n (shown i) o members.list (pairs_of pairs.queue) pairs.dropped pairs.out history.items h in
    subst (λ (m : MembersShown). IsCoherentState (record i { members = m; pairs = pairs; history = history }))
    (λ j. record { shared = sym same j; list = members.list })
    (record {
      some = kept.some;
      replays = replays_after (shown i) t (plain.Put o.job.worker (members_of n (h.made).made))
          (record { shared = refl; budget = refl; workers = refl; update = update }) kept.replays
          (length o.job.members, reduct_rows_of n o.rows, indexed_products_of n o.products, step);
      leads = leads;
      stop = kept.stop;
      read = put_read n (shown i) o members.list (pairs_of pairs.queue) pairs.dropped pairs.out history.items h;
      room =
          let long : length history.items ≡ length i.history.items + 1 = ap length h.events
          ∙ length-append i.history.items (Put o.job.worker h.first (length members.list - h.first) ∷ []) in
          let left : all_left (state_of n t) i.workers ≡ all_left (state_of n (shown i)) i.workers =
          room_after_put (run_of n (shown i)) (state_of n (shown i)) (state_of n t) o.job.worker (length o.job.members) (reduct_rows_of n o.rows)
          (indexed_products_of n o.products) (members_of n (h.made).made) step in
          omega (arith, long, left, room_bound (state_of n (shown i)) i.workers, room);
    })

-- ---- a stop
-- the members at a stop, of which the job had the first
pub base_more :
    (ms made after base : List MemberShown) → after ≡ ms ++ made → length base ≤ length ms → base ≡ take (length base) ms → base ≡ take (length base) after
base_more ms made after base e l b = b ∙ sym (ap (take (length base)) e ∙ go (length base) ms l)
  where
    go : (k : ℕ) (ms : List MemberShown) → k ≤ length ms → take k (ms ++ made) ≡ take k ms
    go zero ms l = none (ms ++ made) ∙ sym (none ms)
      where
        none : (l : List MemberShown) → take 0 l ≡ []
        none [] = refl
        none (x ∷ l) = refl
    go (suc k) [] l = absurd (omega arith)
    go (suc k) (m ∷ ms) l = ap (λ r. m ∷ r) (go k ms (omega arith))

stands : (before later : List CodeReduct) (row : CodeReduct) → Contains (before ++ row ∷ later) row
stands before later row = (length before, omega (arith, length-append before (row ∷ later)), at before)
  where
    at : (before : List CodeReduct) → get_or (before ++ row ∷ later) (length before) row ≡ row
    at [] = refl
    at (b ∷ before) = at before

pub one_stops :
    (n : ℕ) (shared : Shared) (ms : List MemberShown) (rows : List CodeReduct) (after : List MemberShown) (stop : RowStop)
    → StopsRow n shared ms rows after stop → StopsOne n shared.ring.weights after rows stop
one_stops n shared ms rows after row_stops.Memory h = tt
one_stops n shared ms rows after (row_stops.Degree t) h = (h.row, subst (λ l. Contains l h.row) (sym h.split) (stands h.before h.later h.row), h.stops)

-- the row behind the first ones
row_behind : (n : ℕ) (before later : List CodeReduct) (row : CodeReduct) → row_at (reduct_rows_of n (before ++ row ∷ later)) (length before) ≡ reduct_row_of n row
row_behind n [] later row = refl
row_behind n (b ∷ before) later row = row_behind n before later row

front_rows : (n : ℕ) (before later : List CodeReduct) (row : CodeReduct) → take (length before) (reduct_rows_of n (before ++ row ∷ later)) ≡ reduct_rows_of n before
front_rows n before later row =
    ap (take (length before)) (rows-append n before (row ∷ later))
    ∙ ap (λ k. take k (reduct_rows_of n before ++ reduct_rows_of n (row ∷ later))) (sym (length-map before (λ r. reduct_row_of n r)))
    ∙ take_front (reduct_rows_of n before) (reduct_rows_of n (row ∷ later))

all_of : {X : Type 0} (xs : List X) → take (length xs) xs ≡ xs
all_of xs = ap (take (length xs)) (sym (append-nil xs)) ∙ take_front xs []

-- the last of products; a step of nothing where there is none
abbrev last_of : List KeptProduct → KeptProduct
last_of [] = no_product
last_of (s ∷ ss) = last_product s ss

-- a Put that stops by the degree
module _ (s : Shown) (o : OutcomeShown) (after : List MemberShown) (row : RowTrail) (t : KeptTrail)
    (replays : Replays (run_of (variables_of s) s) (state_of (variables_of s) s)) (job : IsJobOut s o)
    (outcome : IsOutcome (setting_of (variables_of s) s.shared) (vectors (members_of (variables_of s) o.job.members)) (pairs_of o.job.pairs)
    (reduct_rows_of (variables_of s) o.rows) (indexed_products_of (variables_of s) o.products))
    (r : StopsRow (variables_of s) s.shared s.members o.rows after (row_stops.Degree row))
    (reached : AreReached s.shared.ring.modulus.value (vectors (members_of (variables_of s) after)) (sum_of (variables_of s) (r.row).vector) []
    (terms_of (variables_of s) (earlier_products (r.stops).first (r.stops).later) ++
    ((indexed_product_of (variables_of s) (last_product (r.stops).first (r.stops).later), 1) ∷ []))) (h : IsTrailBy s.shared after (pairs_of o.job.pairs) t)
    (ends : TrailEndsAs (variables_of s) row.products.items t) where
  abbrev n : ℕ
  n = variables_of s

  abbrev G : List (FormalSum (variables_of s))
  G = vectors (members_of n s.members)

  abbrev made : List (plain.Member (variables_of s))
  made = members_of n (r.made).made

  abbrev number : ℕ
  number = length r.before

  all_vectors : vectors (members_of n after) ≡ G ++ vectors made
  all_vectors = ap (λ l. vectors (members_of n l)) (r.made).same ∙ vectors_more n s.members (r.made).made

  members : (trail_of n t).members ≡ G ++ vectors made
  members = h.members ∙ all_vectors

  front : take number (reduct_rows_of n o.rows) ≡ reduct_rows_of n r.before
  front = ap (λ l. take number (reduct_rows_of n l)) r.split ∙ front_rows n r.before r.later r.row

  makes : MakesMembers (setting_of n s.shared) G (take number (reduct_rows_of n o.rows)) made
  makes = subst (λ l. MakesMembers (setting_of n s.shared) G l made) (sym front) (r.made).makes

  failed : row_at (reduct_rows_of n o.rows) number ≡ reduct_row_of n r.row
  failed = ap (λ l. row_at (reduct_rows_of n l) number) r.split ∙ row_behind n r.before r.later r.row

  same_last : indexed_product_of n (last_product (r.stops).first (r.stops).later) ≡ (trail_of n t).last
  same_last = same_end (ends).first (ends).later (r.stops).first (r.stops).later (sym (ends).products_are ∙ (r.stops).products) ∙ sym (ends).last
    where
      same_end : (x : KeptProduct) (xs : List KeptProduct) (y : KeptProduct) (ys : List KeptProduct) → x ∷ xs ≡ y ∷ ys → indexed_product_of n (last_product y ys) ≡ indexed_product_of n (last_product x xs)
      same_end x xs y ys e = ap (λ l. indexed_product_of n (last_of l)) (sym e)

  given : HasGiven (state_of n s).history (pairs_of o.job.pairs)
  given = subst (HasGiven (state_of n s).history) job.out
      (replays_given (run_of n s) (state_of n s) o.job.worker replays (omega (arith, ap length job.out, outcome.some)))

  pub put_trail_at : IsPutTrail n s o t
  put_trail_at = record {
    trail = record {
      pair = h.pair;
      way = record {
        job = pairs_of o.job.pairs;
        given = given;
        way = record {
          start = h.start;
          place = inr (record {
            base = length o.job.members;
            rows = reduct_rows_of n o.rows;
            products = indexed_products_of n o.products;
            outcome = subst (λ l. IsOutcome (setting_of n s.shared) l (pairs_of o.job.pairs) (reduct_rows_of n o.rows) (indexed_products_of n o.products))
                (base_vectors n s.members o.job.members job.members) outcome;
            first = length G;
            after = omega (arith, job.had, long);
            had = omega arith;
            failed = number;
            within = omega (arith, ap length r.split, length-append r.before (r.row ∷ r.later), length-map o.rows (λ x. reduct_row_of n x));
            made = made;
            makes = subst (λ l. MakesMembers (setting_of n s.shared) l (take number (reduct_rows_of n o.rows)) made) (sym (all_of G)) makes;
            members = members ∙ ap (λ l. l ++ vectors made) (sym (all_of G));
            division = terms_of n (earlier_products (r.stops).first (r.stops).later);
            reached = reached_here;
          });
          pair = subst (λ l. IsPair l (trail_of n t).start) (sym h.members) h.real;
          products = subst (λ l. AreJobProducts s.shared.ring.modulus.value l ((trail_of n t).start ∷ [])
              ((trail_of n t).earlier ++ ((trail_of n t).last ∷ []))) (sym h.members) h.products;
          monomial = subst (λ l. (i : ℕ) × Occurs s.shared.ring.modulus.value (get_or l (trail_of n t).last.0 []) (i, (trail_of n t).monomial))
              (sym h.members) h.monomial;
          above = h.above;
        };
      };
    };
    start = h.start;
    number = number;
    known = omega (arith, ap length r.split, length-append r.before (r.row ∷ r.later));
    made = made;
    makes = makes;
    members = members;
    given = given;
    division = terms_of n (earlier_products (r.stops).first (r.stops).later);
    reached = reached_here;
  }
    where
      reached_here : AreReached s.shared.ring.modulus.value (trail_of n t).members (row_at (reduct_rows_of n o.rows) number).vector []
          (terms_of n (earlier_products (r.stops).first (r.stops).later) ++ (((trail_of n t).last, 1) ∷ []))
      reached_here = subst (λ (z : List (FormalSum n) × FormalSum n × plain.Product n). AreReached s.shared.ring.modulus.value z.0 z.1 []
          (terms_of n (earlier_products (r.stops).first (r.stops).later) ++ ((z.2, 1) ∷ [])))
          (λ i. (sym h.members i, (sym failed i).vector, same_last i)) reached

      long : length G ≡ length s.members
      long = members_length n s.members

pub put_stops :
    (s : Shown) (o : OutcomeShown) (stop : WorkStop)
    → Replays (run_of (variables_of s) s) (state_of (variables_of s) s) → IsJobOut s o → IsOutcomeOver o
    → StopsWork (variables_of s) s.shared s.members o stop → PutStops (variables_of s) s o stop
put_stops s o Memory replays job outcome r = tt
put_stops s o (Degree t) replays job outcome r =
    let rows = r.stops in
    put_trail_at s o r.after r.row t replays job (outcome_of s o job.shared outcome) rows
    (row_reached s.shared r.after r.tracked (rows.row).vector
    (contained_row o.rows rows.row outcome.rows (subst (λ l. Contains l rows.row) (sym rows.split) (stands rows.before rows.later rows.row)))
    r.row.products.items r.row.last rows.stops)
    r.trail r.ends
  where
    contained_row : (rows : List CodeReduct) (x : CodeReduct) → Each (IsRunRow o.job.shared (length o.job.members)) rows → Contains rows x
        → IsVectorOf s.shared.ring x.vector
    contained_row [] x e (k, l, is) = absurd (omega arith)
    contained_row (y ∷ rows) x e (zero, l, is) = subst (λ (z : CodeReduct). IsVectorOf s.shared.ring z.vector) is
        (subst (λ (sh : Shared). IsVectorOf sh.ring y.vector) job.shared e.0.vector.vector)
    contained_row (y ∷ rows) x e (suc k, l, is) = contained_row rows x e.1 (k, omega arith, is)

-- the calls on a row that stopped
pub stops_outcome :
    (n : ℕ) (shared : Shared) (ms after : List MemberShown) (o : OutcomeShown) (row : RowStop) (stop : WorkStop)
    → n ≡ variables shared.ring → StopsRow n shared ms o.rows after row → Each (IsMemberShown shared) after → StopsAt shared after o row stop
    → StopsWork n shared ms o stop
stops_outcome n shared ms after o row Memory e r tracked h = tt
stops_outcome n shared ms after o row_stops.Memory (Degree t) e r tracked h = absurd h
stops_outcome n shared ms after o (row_stops.Degree row) (Degree t) e r tracked h = record {
  after = after;
  tracked = tracked;
  row = row;
  stops = r;
  trail = h.0;
  ends = subst (λ k. TrailEndsAs k row.products.items t) (sym e) h.1;
}
