-- Each step on the lock's table keeps the rule.
use Rattle.std.proofs.Common.{◌≡◌, ◌≢◌, ℕ, ◌-◌, ◌<◌, eqb, cond, true, false, List, [], ◌∷◌, ◌++◌, map, length, drop, get_or, set, sym, refl, ap, ◌∙◌, subst, ⊎_elim, arith, Option, Some, length-set, get_or-set_other, get_or-set_same, eq-eqb, ne_eqb}
use Rattle.std.specs.Prelude.{All}
use Rattle.std.specs.List.{Contains}
use Rattle.std.proofs.lemmas.List.Elements.{All-append, All-cons, All-push, All-nil, All-weaker, All-contains, All-map}
use mathlib.Core.Logic.{dite}
use mathlib.Core.Option as maybe
use native.Mathlib.Decide.{ℕ_discrete}
use lib.ListN.{get_elem?}
use lib.Seq.{set-get_or}
use prog.Atomic.{either}
use Rattle.atomic_table.specs.Table.{State, step, keeps, takes, gives, stepped, opening, Final, Seen, Allows, Splits, Joins}
use Rattle.atomic_table.proofs.Lists.{at_set, set_here, set_else, at_longer}
use Rattle.ruled_lock.specs.declared.law.Old.{Old}
use Rattle.ruled_lock.specs.declared.law.View.{View}
use Rattle.ruled_lock.specs.Events.{calls_by, StartsWith}
use Rattle.ruled_lock.specs.Law.{Owns, OwnsOld, Knows, LockKept, opener, spent, parted, newcomer, old_of, joined_views}
use Rattle.ruled_lock.specs.Plays.{LockSeat, held, freed, seeing, added, Sees, Won, tried, carried, appended, released, OldSees, looked, AddsEvent, Holds, AllBack, Tallied}
use Rattle.ruled_lock.proofs.Hands.{one_hand}
use Rattle.ruled_lock.proofs.Lists.{within, drop_front, calls_by-other, calls_by-own, starts_self, starts_longer, at_snoc_place, all_without, range_all}

module _ {C N B : Type 0} (base_of : C → B) (log_of : C → List N) (by : N → ℕ) (workers : B → ℕ) (base : B) where
  abbrev V : Type 0
  V = View N B

  abbrev St : Type 0
  St = State (Option C) V

  abbrev M : Type 0
  M = LockSeat C N B

  abbrev Rule : St → Type 0
  Rule = LockKept base_of log_of by workers base

  abbrev turn : St → ℕ
  turn s = get_or s.words 0 0

  -- what a seat knows, where all that it knows stays so
  still : (log log' : List N) (seat kind seat' kind' : ℕ → ℕ) (j n h n' h' : ℕ) (v : V) → ((seen : List N) → StartsWith log seen → StartsWith log' seen)
      → ((k x : ℕ) (es : List N) → Owns by log (workers base) seat kind j k x es → Owns by log' (workers base) seat' kind' j k x es)
      → (v.turn ≡ true → (j ≡ h') × (n' ≢ 0) × (v.seen ≡ log')) → Knows by log (workers base) seat kind j n h v → Knows by log' (workers base) seat' kind' j n' h' v
  still log log' seat kind seat' kind' j n h n' h' v more owns turns k = record {
    seen = more v.seen k.seen;
    own = owns 0 v.worker v.mine k.own;
    gives = All-weaker (λ x. Owns by log (workers base) seat kind j 1 x []) (λ x. Owns by log' (workers base) seat' kind' j 1 x []) (λ x o. owns 1 x [] o) v.give k.gives;
    olds = All-weaker (OwnsOld by log (workers base) seat kind j) (OwnsOld by log' (workers base) seat' kind' j) (λ o t. (owns 2 o.worker o.mine t.0, more o.seen t.1)) v.olds k.olds;
    has_turn = turns;
  }

  -- the same where history and numbers are the same
  still_here : (log : List N) (seat kind : ℕ → ℕ) (j n h n' h' : ℕ) (v : V) → (v.turn ≡ true → (j ≡ h') × (n' ≢ 0) × (v.seen ≡ log))
      → Knows by log (workers base) seat kind j n h v → Knows by log (workers base) seat kind j n' h' v
  still_here log seat kind j n h n' h' v turns k = still log log seat kind seat kind j n h n' h' v (λ seen t. t) (λ k x es o. o) turns k

  set_there : (vs : List V) (i : ℕ) (v w : V) → get_elem? vs i ≡ maybe.some v → get_elem? (set vs i w) i ≡ maybe.some w
  set_there vs i v w at = set_here vs i w (within vs i v at)

  -- each seat, after one has changed
  each : (P : ℕ → V → Type 0) (vs : List V) (id : ℕ) (w : V) → P id w → ((j : ℕ) (v : V) → j ≢ id → get_elem? vs j ≡ maybe.some v → P j v)
      → (j : ℕ) (v : V) → get_elem? (set vs id w) j ≡ maybe.some v → P j v
  each P vs id w mine others j v e = ⊎_elim (λ (t : (j ≡ id) × (w ≡ v)). subst (λ (x : ℕ × V). P x.0 x.1) (λ i. (sym t.0 i, t.1 i)) mine)
      (λ (t : (j ≢ id) × (get_elem? vs j ≡ maybe.some v)). others j v t.0 t.1) (at_set vs id j w v e)

  -- the turn is won, and the counter taken
  win : (s : St) (r : Rule s) (id : ℕ) (cs : List (ℕ × Option C)) (v : V) (b : C) → get_elem? s.views id ≡ maybe.some v → v.live ≡ true → turn s ≡ 0 → (log_of b) ≡ r.log
      → Rule (stepped s 0 1 id cs (held v (log_of b)) (takes 0 (Some b)))
  win s r id cs v b at live zero_turn is = let w : V = held v (log_of b) in let wide = r.wide in
      let now : get_or (set s.words 0 1) 0 0 ≡ 1 = get_or-set_same s.words 0 1 0 (omega arith) in
      let count : get_or (set s.words 0 1) 1 0 ≡ get_or s.words 1 0 = get_or-set_other s.words 0 1 1 0 (λ e. omega arith) in record {
        log = r.log;
        seat = r.seat;
        kind = r.kind;
        holder = id;
        wide = length-set s.words 0 1 ∙ wide;
        count = count ∙ r.count;
        bounded = r.bounded;
        free = λ z. absurd (omega arith);
        taken = λ _. (w, set_there s.views id v w at, live, refl);
        each_seat = subst (λ (n : ℕ). (j : ℕ) (u : V) → get_elem? (set s.views id w) j ≡ maybe.some u → u.live ≡ true → Knows by r.log (workers base) r.seat r.kind j n id u) (sym now)
            (each (λ j u. u.live ≡ true → Knows by r.log (workers base) r.seat r.kind j 1 id u) s.views id w
            (λ _. let k = r.each_seat id v at live in record { seen = subst (StartsWith r.log) (sym is) (starts_self r.log); own = k.own; gives = k.gives; olds = k.olds; has_turn = λ _. (refl, (λ e. omega arith), is) })
            (λ j u other e lives. let k = r.each_seat j u e lives in still_here r.log r.seat r.kind j (turn s) r.holder 1 id u (λ t. let h = k.has_turn t in absurd (h.1 zero_turn)) k));
      }

  -- a step that changes no word, where the seat that steps has w
  unmoved : (s : St) (r : Rule s) (i id : ℕ) (v w : V) → get_elem? s.views id ≡ maybe.some v → (turn s ≢ 0 → id ≡ r.holder → (w.live ≡ true) × (w.turn ≡ true))
      → (w.live ≡ true → Knows by r.log (workers base) r.seat r.kind id (turn s) r.holder w) → (cs : List (ℕ × Option C)) → Rule (stepped s i (get_or s.words i 0) id cs w keeps)
  unmoved s r i id v w at keeps_turn mine cs = subst (λ (ws : List ℕ). Rule record { words = ws; homes = s.homes; views = set s.views id w }) (sym (set-get_or s.words i 0)) record {
    log = r.log;
    seat = r.seat;
    kind = r.kind;
    holder = r.holder;
    wide = r.wide;
    count = r.count;
    bounded = r.bounded;
    free = r.free;
    taken = λ ne. dite (ℕ_discrete r.holder id)
        (λ e. let t = keeps_turn ne (sym e) in (w, subst (λ (h : ℕ). get_elem? (set s.views id w) h ≡ maybe.some w) (sym e) (set_there s.views id v w at), t.0, t.1))
        (λ other. let t = r.taken ne in (t.0, set_else s.views id r.holder w other ∙ t.1, t.2, t.3));
    each_seat = each (λ j u. u.live ≡ true → Knows by r.log (workers base) r.seat r.kind j (turn s) r.holder u) s.views id w mine (λ j u other e. r.each_seat j u e);
  }

  not_holder : (s : St) (r : Rule s) (id : ℕ) (v : V) → get_elem? s.views id ≡ maybe.some v → v.turn ≡ false → turn s ≢ 0 → id ≡ r.holder → ⊥
  not_holder s r id v at idle ne e = let t = r.taken ne in
      let there : maybe.some t.0 ≡ maybe.some v = sym t.1 ∙ (ap (λ (k : ℕ). get_elem? s.views k) (sym e) ∙ at) in
      let same : t.0 ≡ v = maybe.some-injective t.0 v there in let yes_turn : v.turn ≡ true = ap (λ (u : V). u.turn) (sym same) ∙ t.3 in absurd (cc)

  pub wins : (slots id : ℕ) (me : M) → me.1 ≡ [] → me.0.live ≡ true → me.0.turn ≡ false → me.0.base ≡ Some base
      → Allows Rule slots id me 0 (λ n. either (eqb n 0) 1 n) (tried base_of log_of by (step slots 0 0 1 maybe.none) me)
  wins slots id me empty live idle same s r wide at _ = dite (ℕ_discrete (turn s) 0)
      (λ z. let h = r.free z in let b : C = h.0 in let w : V = held me.0 (log_of b) in let k = r.each_seat id me.0 at live in (
        w,
        takes 0 (Some b),
        h.1,
        subst (λ (n : ℕ). Rule (stepped s 0 n id me.1 w (takes 0 (Some b)))) (sym (ap (λ c. either c 1 (turn s)) (eq-eqb (turn s) 0 z))) (win s r id me.1 me.0 b at live z h.2),
        ((λ _. (b, ap (λ (l : List (ℕ × Option C)). (0, Some b) ∷ l) empty, refl, (subst (λ (l : List N). StartsWith l me.0.seen) (sym h.2) k.seen, ap (calls_by by me.0.worker) h.2 ∙ k.own.3), ap Some h.3 ∙ sym same)), λ ne. absurd (ne z)),
      ))
      (λ ne. (
        me.0,
        keeps,
        tt,
        subst (λ (n : ℕ). Rule (stepped s 0 n id me.1 me.0 keeps)) (sym (ap (λ c. either c 1 (turn s)) (ne_eqb (turn s) 0 ne)))
            (unmoved s r 0 id me.0 me.0 at (λ n e. absurd (not_holder s r id me.0 at idle n e)) (r.each_seat id me.0 at) me.1),
        ((λ z. absurd (ne z)), λ _. refl),
      ))

  -- where the numbers differ, an event of the one is none of the other
  apart_calls : (log log' : List N) (e : N) (seat kind : ℕ → ℕ) (id j k x : ℕ) (es : List N) → log' ≡ log ++ e ∷ [] → seat (by e) ≡ id → kind (by e) ≡ 0 → (j ≡ id → k ≢ 0)
      → Owns by log (workers base) seat kind j k x es → Owns by log' (workers base) seat kind j k x es
  apart_calls log log' e seat kind id j k x es longer its_seat its_kind apart o = (
    o.0,
    o.1,
    o.2,
    ap (calls_by by x) longer ∙ (calls_by-other by x log e (λ is. apart (sym o.1 ∙ (ap seat (sym is) ∙ its_seat)) (sym o.2 ∙ (ap kind (sym is) ∙ its_kind))) ∙ o.3),
  )

  append : (s : St) (r : Rule s) (id new : ℕ) (cs : List (ℕ × Option C)) (v : V) (log' : List N) (e : N) → get_elem? s.views id ≡ maybe.some v → v.live ≡ true → v.turn ≡ true
      → log' ≡ v.seen ++ e ∷ [] → by e ≡ v.worker → new ≡ length log' → Rule (stepped s 1 new id cs (added v log') keeps)
  append s r id new cs v log' e at live mine_turn is own new_is =
      let k = r.each_seat id v at live in let t = k.has_turn mine_turn in let w : V = added v log' in let wide = r.wide in
      let longer : log' ≡ r.log ++ e ∷ [] = is ∙ ap (λ (l : List N). l ++ e ∷ []) t.2 in
      let first : get_or (set s.words 1 new) 0 0 ≡ turn s = get_or-set_other s.words 1 0 new 0 (λ z. omega arith) in
      let count : get_or (set s.words 1 new) 1 0 ≡ new = get_or-set_same s.words 1 new 0 (omega arith) in
      let its_seat : r.seat (by e) ≡ id = ap r.seat own ∙ k.own.1 in let its_kind : r.kind (by e) ≡ 0 = ap r.kind own ∙ k.own.2 in
      let tail : drop (length v.seen) log' ≡ e ∷ [] = ap (drop (length v.seen)) is ∙ drop_front v.seen (e ∷ []) in
      let more : (seen : List N) → StartsWith r.log seen → StartsWith log' seen = λ seen h. starts_longer r.log log' seen e longer h in
      let small : by e < (workers base) = subst (λ (n : ℕ). n < (workers base)) (sym own) k.own.0 in
      let mine' : calls_by by v.worker log' ≡ w.mine = ap (calls_by by v.worker) longer ∙ (calls_by-own by v.worker r.log e own ∙ (ap (λ (l : List N). l ++ e ∷ []) k.own.3 ∙ ap (λ (l : List N). v.mine ++ l) (sym tail))) in
      let not_zero : (kd : ℕ) → 0 < kd → id ≡ id → kd ≢ 0 = λ kd l _ z. omega arith in
      record {
        log = log';
        seat = r.seat;
        kind = r.kind;
        holder = id;
        wide = length-set s.words 1 new ∙ wide;
        count = count ∙ new_is;
        bounded = subst (All (λ (x : N). by x < (workers base))) (sym longer) (All-push (λ (x : N). by x < (workers base)) r.log e r.bounded small);
        free = λ z. absurd (t.1 (sym first ∙ z));
        taken = λ _. (w, set_there s.views id v w at, live, mine_turn);
        each_seat = subst (λ (n : ℕ). (j : ℕ) (u : V) → get_elem? (set s.views id w) j ≡ maybe.some u → u.live ≡ true → Knows by log' (workers base) r.seat r.kind j n id u) (sym first)
            (each (λ j u. u.live ≡ true → Knows by log' (workers base) r.seat r.kind j (turn s) id u) s.views id w
            (λ _. record {
              seen = starts_self log';
              own = (k.own.0, k.own.1, k.own.2, mine');
              gives = All-weaker (λ x. Owns by r.log (workers base) r.seat r.kind id 1 x []) (λ x. Owns by log' (workers base) r.seat r.kind id 1 x [])
                  (λ x o. apart_calls r.log log' e r.seat r.kind id id 1 x [] longer its_seat its_kind (not_zero 1 (omega arith)) o) v.give k.gives;
              olds = All-weaker (OwnsOld by r.log (workers base) r.seat r.kind id) (OwnsOld by log' (workers base) r.seat r.kind id)
                  (λ x o. (apart_calls r.log log' e r.seat r.kind id id 2 x.worker x.mine longer its_seat its_kind (not_zero 2 (omega arith)) o.0, more x.seen o.1)) v.olds k.olds;
              has_turn = λ _. (refl, t.1, refl);
            })
            (λ j u other there lives. let ku = r.each_seat j u there lives in
            still r.log log' r.seat r.kind r.seat r.kind j (turn s) r.holder (turn s) id u more
            (λ kd x es o. apart_calls r.log log' e r.seat r.kind id j kd x es longer its_seat its_kind (λ same. absurd (other same)) o)
            (λ tu. absurd (other ((ku.has_turn tu).0 ∙ sym t.0))) ku));
      }

  pub appends : (slots id new : ℕ) (me : M) (b : C) (e : N) → me.1 ≡ (0, Some b) ∷ [] → me.0.live ≡ true → me.0.turn ≡ true → (log_of b) ≡ me.0.seen ++ e ∷ [] → by e ≡ me.0.worker
      → new ≡ length (log_of b) → Allows Rule slots id me 1 (λ _. new) (λ _. appended log_of (step slots 1 new 0 maybe.none) me new)
  appends slots id new me b e holds live mine_turn is own new_is s r wide at _ =
      let hand : carried log_of me.0.seen me.1 ≡ (log_of b) = ap (carried log_of me.0.seen) holds in let w : V = added me.0 (carried log_of me.0.seen me.1) in (
        w,
        keeps,
        tt,
        append s r id new me.1 me.0 (carried log_of me.0.seen me.1) e at live mine_turn (hand ∙ is) own (new_is ∙ ap length (sym hand)),
        refl,
      )

  release : (s : St) (r : Rule s) (id : ℕ) (v : V) (b : C) → get_elem? s.views id ≡ maybe.some v → v.live ≡ true → v.turn ≡ true → (log_of b) ≡ v.seen → (base_of b) ≡ base → length s.homes ≡ 1
      → Rule (stepped s 0 0 id ((0, Some b) ∷ []) (freed v) gives)
  release s r id v b at live mine_turn is same one =
      let k = r.each_seat id v at live in let t = k.has_turn mine_turn in let w : V = freed v in let wide = r.wide in
      let now : get_or (set s.words 0 0) 0 0 ≡ 0 = get_or-set_same s.words 0 0 0 (omega arith) in
      let count : get_or (set s.words 0 0) 1 0 ≡ get_or s.words 1 0 = get_or-set_other s.words 0 1 0 0 (λ z. omega arith) in record {
        log = r.log;
        seat = r.seat;
        kind = r.kind;
        holder = r.holder;
        wide = length-set s.words 0 0 ∙ wide;
        count = count ∙ r.count;
        bounded = r.bounded;
        free = λ _. (b, set_here s.homes 0 (maybe.some (Some b)) (omega arith), is ∙ t.2, same);
        taken = λ ne. absurd (ne now);
        each_seat = subst (λ (n : ℕ). (j : ℕ) (u : V) → get_elem? (set s.views id w) j ≡ maybe.some u → u.live ≡ true → Knows by r.log (workers base) r.seat r.kind j n r.holder u) (sym now)
            (each (λ j u. u.live ≡ true → Knows by r.log (workers base) r.seat r.kind j 0 r.holder u) s.views id w
            (λ _. record { seen = k.seen; own = k.own; gives = k.gives; olds = k.olds; has_turn = λ z. absurd (cc) })
            (λ j u other there lives. let ku = r.each_seat j u there lives in
            still_here r.log r.seat r.kind j (turn s) r.holder 0 r.holder u (λ tu. absurd (other ((ku.has_turn tu).0 ∙ sym t.0))) ku));
      }

  pub releases : (slots id : ℕ) (me : M) (b : C) → slots ≡ 1 → me.1 ≡ (0, Some b) ∷ [] → me.0.live ≡ true → me.0.turn ≡ true → (log_of b) ≡ me.0.seen → (base_of b) ≡ base
      → Allows Rule slots id me 0 (λ _. 0) (λ _. released (step slots 0 0 0 maybe.none) me 0)
  releases slots id me b one holds live mine_turn is same s r wide at _ = (
    freed me.0,
    gives,
    tt,
    subst (λ (cs : List (ℕ × Option C)). Rule (stepped s 0 0 id cs (freed me.0) gives)) (sym holds) (release s r id me.0 b at live mine_turn is same (wide ∙ one)),
    refl,
  )

  pub looks : (slots id : ℕ) (me : M) → me.0.live ≡ true → me.0.turn ≡ false → Allows Rule slots id me 1 (λ n. n) (looked by (step slots 1 0 0 maybe.none) me)
  looks slots id me live idle s r wide at _ = let k = r.each_seat id me.0 at live in let w : V = seeing me.0 r.log in (
    w,
    keeps,
    tt,
    unmoved s r 1 id me.0 w at (λ n e. absurd (not_holder s r id me.0 at idle n e))
        (λ _. record { seen = starts_self r.log; own = k.own; gives = k.gives; olds = k.olds; has_turn = λ z. absurd (cc) }) me.1,
    (
      refl,
      sym r.count,
      (k.seen, k.own.3),
      All-weaker (OwnsOld by r.log (workers base) r.seat r.kind id) (OldSees by r.log) (λ o t. (t.1, t.0.3)) me.0.olds k.olds,
    ),
  )

  -- a number that changes hands
  abbrev swapped : (ℕ → ℕ) → ℕ → ℕ → ℕ → ℕ
  swapped f x to y = cond (eqb y x) to (f y)

  swapped-at : (f : ℕ → ℕ) (x to y : ℕ) → y ≡ x → swapped f x to y ≡ to
  swapped-at f x to y e = ap (λ b. cond b to (f y)) (eq-eqb y x e)

  swapped-else : (f : ℕ → ℕ) (x to y : ℕ) → y ≢ x → swapped f x to y ≡ f y
  swapped-else f x to y ne = ap (λ b. cond b to (f y)) (ne_eqb y x ne)

  pub splits : (id x : ℕ) (v : V) → v.live ≡ true → v.turn ≡ false → Contains v.give x → Splits Rule id v (parted x v) (newcomer x v)
  splits id x v live idle mine s r at =
      let k = r.each_seat id v at live in
      let o : Owns by r.log (workers base) r.seat r.kind id 1 x [] = All-contains (λ y. Owns by r.log (workers base) r.seat r.kind id 1 y []) v.give x k.gives mine in
      let left : V = parted x v in let right : V = newcomer x v in let vs : List V = set s.views id left in
      let m : ℕ = length vs in let inside = within s.views id v at in let same : m ≡ length s.views = length-set s.views id left in
      let seat' : ℕ → ℕ = swapped r.seat x m in let kind' : ℕ → ℕ = swapped r.kind x 0 in
      let owns_else : (j kd y : ℕ) (es : List N) → y ≢ x → Owns by r.log (workers base) r.seat r.kind j kd y es → Owns by r.log (workers base) seat' kind' j kd y es =
      λ j kd y es ne t. (t.0, swapped-else r.seat x m y ne ∙ t.1, swapped-else r.kind x 0 y ne ∙ t.2, t.3) in
      let kept_all : (j : ℕ) (u : V) → j ≢ id → Knows by r.log (workers base) r.seat r.kind j (turn s) r.holder u → Knows by r.log (workers base) seat' kind' j (turn s) r.holder u =
      λ j u other ku. still r.log r.log r.seat r.kind seat' kind' j (turn s) r.holder (turn s) r.holder u (λ seen h. h)
      (λ kd y es t. owns_else j kd y es (λ e. other (sym t.1 ∙ (ap r.seat e ∙ o.1))) t) ku.has_turn ku in
      let not_x : (kd y : ℕ) (es : List N) → kd ≢ 1 → Owns by r.log (workers base) r.seat r.kind id kd y es → y ≢ x = λ kd y es ne t e. ne (sym t.2 ∙ (ap r.kind e ∙ o.2)) in
      record {
        log = r.log;
        seat = seat';
        kind = kind';
        holder = r.holder;
        wide = r.wide;
        count = r.count;
        bounded = r.bounded;
        free = r.free;
        taken = λ ne. let t = r.taken ne in (
          t.0,
          at_longer vs (right ∷ []) r.holder t.0 (set_else s.views id r.holder left (λ e. absurd (not_holder s r id v at idle ne (sym e))) ∙ t.1),
          t.2,
          t.3,
        );
        each_seat = λ j u there lives. ⊎_elim
            (λ (was : get_elem? vs j ≡ maybe.some u). each (λ j u. u.live ≡ true → Knows by r.log (workers base) seat' kind' j (turn s) r.holder u) s.views id left
            (λ _. record {
              seen = k.seen;
              own = owns_else id 0 v.worker v.mine (not_x 0 v.worker v.mine (λ z. omega arith) k.own) k.own;
              gives = all_without (λ y. Owns by r.log (workers base) r.seat r.kind id 1 y []) (λ y. Owns by r.log (workers base) seat' kind' id 1 y []) x (λ y ne t. owns_else id 1 y [] ne t) v.give k.gives;
              olds = All-weaker (OwnsOld by r.log (workers base) r.seat r.kind id) (OwnsOld by r.log (workers base) seat' kind' id)
                  (λ y t. (owns_else id 2 y.worker y.mine (not_x 2 y.worker y.mine (λ z. omega arith) t.0) t.0, t.1)) v.olds k.olds;
              has_turn = λ z. absurd (cc);
            })
            (λ j u other e lives. kept_all j u other (r.each_seat j u e lives)) j u was lives)
            (λ (t : (j ≡ m) × (right ≡ u)). subst (λ (z : ℕ × V). Knows by r.log (workers base) seat' kind' z.0 (turn s) r.holder z.1) (λ i. (sym t.0 i, t.1 i)) record {
              seen = k.seen;
              own = (o.0, swapped-at r.seat x m x refl, swapped-at r.kind x 0 x refl, o.3);
              gives = All-nil (λ y. Owns by r.log (workers base) seat' kind' m 1 y []);
              olds = All-nil (OwnsOld by r.log (workers base) seat' kind' m);
              has_turn = λ z. absurd (cc);
            })
            (at_snoc_place vs right u j there);
      }

  pub joins : (id : ℕ) (v : V) (other : ℕ) (w : V) → v.live ≡ true → v.turn ≡ false → w.live ≡ true → w.turn ≡ false → Joins Rule id v other w (joined_views v w) spent
  joins id v other w live idle live' idle' s r at apart there =
      let both : V = joined_views v w in let vs : List V = set s.views id both in
      let there' : get_elem? s.views other ≡ maybe.some w = sym (set_else s.views id other both apart) ∙ there in
      let k = r.each_seat id v at live in let kw = r.each_seat other w there' live' in
      let seat' : ℕ → ℕ = λ y. swapped (λ z. z) other id (r.seat y) in
      let kind' : ℕ → ℕ = λ y. cond (eqb (r.seat y) other) (cond (eqb (r.kind y) 0) 2 (r.kind y)) (r.kind y) in
      let stays : (j kd y : ℕ) (es : List N) → j ≢ other → Owns by r.log (workers base) r.seat r.kind j kd y es → Owns by r.log (workers base) seat' kind' j kd y es =
      λ j kd y es ne t. let far : r.seat y ≢ other = λ e. ne (sym t.1 ∙ e) in
      (t.0, swapped-else (λ z. z) other id (r.seat y) far ∙ t.1, ap (λ b. cond b (cond (eqb (r.kind y) 0) 2 (r.kind y)) (r.kind y)) (ne_eqb (r.seat y) other far) ∙ t.2, t.3) in
      let comes : (kd kd' y : ℕ) (es : List N) → cond (eqb kd 0) 2 kd ≡ kd' → Owns by r.log (workers base) r.seat r.kind other kd y es → Owns by r.log (workers base) seat' kind' id kd' y es =
      λ kd kd' y es is t. (
        t.0,
        swapped-at (λ z. z) other id (r.seat y) t.1,
        ap (λ b. cond b (cond (eqb (r.kind y) 0) 2 (r.kind y)) (r.kind y)) (eq-eqb (r.seat y) other t.1) ∙ (ap (λ (z : ℕ). cond (eqb z 0) 2 z) t.2 ∙ is),
        t.3,
      ) in
      let G : ℕ → Type 0 = λ y. Owns by r.log (workers base) seat' kind' id 1 y [] in
      let O : (Old N) → Type 0 = OwnsOld by r.log (workers base) seat' kind' id in
      let K : ℕ → V → Type 0 = λ j u. u.live ≡ true → Knows by r.log (workers base) seat' kind' j (turn s) r.holder u in
      let others : (j : ℕ) (u : V) → j ≢ other → K j u → K j u = λ j u ne h. h in
      let mine : K id both = λ _. record {
        seen = k.seen;
        own = stays id 0 v.worker v.mine (λ e. apart (sym e)) k.own;
        gives = All-append G v.give w.give
            (All-weaker (λ y. Owns by r.log (workers base) r.seat r.kind id 1 y []) G (λ y t. stays id 1 y [] (λ e. apart (sym e)) t) v.give k.gives)
            (All-weaker (λ y. Owns by r.log (workers base) r.seat r.kind other 1 y []) G (λ y t. comes 1 1 y [] refl t) w.give kw.gives);
        olds = All-append O v.olds (old_of w ∷ w.olds)
            (All-weaker (OwnsOld by r.log (workers base) r.seat r.kind id) O (λ y t. (stays id 2 y.worker y.mine (λ e. apart (sym e)) t.0, t.1)) v.olds k.olds)
            (All-cons O (old_of w) w.olds (comes 0 2 w.worker w.mine refl kw.own, kw.seen)
            (All-weaker (OwnsOld by r.log (workers base) r.seat r.kind other) O (λ y t. (comes 2 2 y.worker y.mine refl t.0, t.1)) w.olds kw.olds));
        has_turn = λ z. absurd (cc);
      } in
      record {
        log = r.log;
        seat = seat';
        kind = kind';
        holder = r.holder;
        wide = r.wide;
        count = r.count;
        bounded = r.bounded;
        free = r.free;
        taken = λ ne. let t = r.taken ne in (
          t.0,
          set_else vs other r.holder spent (λ e. absurd (not_holder s r other w there' idle' ne (sym e))) ∙ (set_else s.views id r.holder both (λ e. absurd (not_holder s r id v at idle ne (sym e))) ∙ t.1),
          t.2,
          t.3,
        );
        each_seat = λ j u e. ⊎_elim
            (λ (t : (j ≡ other) × (spent ≡ u)). λ lives. let dead : u.live ≡ false = ap (λ (z : V). z.live) (sym t.1) in absurd (cc))
            (λ (t : (j ≢ other) × (get_elem? vs j ≡ maybe.some u)). λ lives. ⊎_elim
            (λ (q : (j ≡ id) × (both ≡ u)). subst (λ (z : ℕ × V). K z.0 z.1) (λ i. (sym q.0 i, q.1 i)) mine lives)
            (λ (q : (j ≢ id) × (get_elem? s.views j ≡ maybe.some u)). let ku = r.each_seat j u q.1 lives in
            still r.log r.log r.seat r.kind seat' kind' j (turn s) r.holder (turn s) r.holder u (λ seen h. h) (λ kd y es o. stays j kd y es t.0 o) ku.has_turn ku)
            (at_set s.views id j both u t.1))
            (at_set vs other j spent u e);
      }

  pub opens : (b : C) → (log_of b) ≡ [] → (base_of b) ≡ base → 0 < (workers base) → Rule (opening (0 ∷ 0 ∷ []) (Some b ∷ []) (opener workers base))
  opens b empty same some_worker =
      let kind : ℕ → ℕ = λ y. cond (eqb y 0) 0 1 in let seat : ℕ → ℕ = λ y. 0 in record {
        log = [];
        seat = seat;
        kind = kind;
        holder = 0;
        wide = refl;
        count = refl;
        bounded = All-nil (λ (x : N). by x < (workers base));
        free = λ _. (b, refl, empty, same);
        taken = λ ne. absurd (ne refl);
        each_seat = λ j u e. ⊎_elim (λ (t : get_elem? [] j ≡ maybe.some u). absurd (maybe.some-ne-none u (sym t)))
            (λ (t : (j ≡ 0) × (opener workers base ≡ u)). subst (λ (z : ℕ × V). z.1.live ≡ true → Knows by [] (workers base) seat kind z.0 0 0 z.1) (λ i. (sym t.0 i, t.1 i))
            (λ _. record {
              seen = ([], refl);
              own = (some_worker, refl, refl, refl);
              gives = range_all (λ x. Owns by [] (workers base) seat kind 0 1 x []) 1 ((workers base) - 1) (λ x l m. (omega arith, refl, ap (λ b. cond b 0 1) (ne_eqb x 0 (λ z. omega arith)), refl));
              olds = All-nil (OwnsOld by [] (workers base) seat kind 0);
              has_turn = λ z. absurd (cc);
            }))
            (at_snoc_place [] (opener workers base) u j e);
      }

  pub closes : (id : ℕ) (v : V) (words : List ℕ) (slots : List (Option C)) → v.live ≡ true → v.turn ≡ false → AllBack (workers base) v → Final (Seen Rule id v) words slots
      → (b : C) × (get_elem? slots 0 ≡ maybe.some (Some b)) × ((base_of b) ≡ base) × Tallied by (workers base) v (log_of b)
  closes id v words slots live idle back (s, (r, at), _, _, homes) =
      let k = r.each_seat id v at live in
      let here : (x : ℕ) → x < (workers base) → r.seat x ≡ id = λ x l. ⊎_elim (λ (e : x ≡ v.worker). ap r.seat e ∙ k.own.1)
      (⊎_elim (λ (c : Contains v.give x). All-contains (λ y. r.seat y ≡ id) v.give x (All-weaker (λ y. Owns by r.log (workers base) r.seat r.kind id 1 y []) (λ y. r.seat y ≡ id) (λ y o. o.1) v.give k.gives) c)
      (λ (c : Contains (map (λ o. o.worker) v.olds) x). All-contains (λ y. r.seat y ≡ id) (map (λ o. o.worker) v.olds) x
      (All-map (λ y. r.seat y ≡ id) (λ (o : (Old N)). o.worker) v.olds (All-weaker (OwnsOld by r.log (workers base) r.seat r.kind id) (λ o. r.seat o.worker ≡ id) (λ o t. t.0.1) v.olds k.olds)) c))
      (back x l) in
      let nobody : turn s ≢ 0 → ⊥ = λ ne. let t = r.taken ne in let kt = r.each_seat r.holder t.0 t.1 t.2 in
      let same : id ≡ r.holder = sym {A = ℕ} (here t.0.worker kt.own.0) ∙ kt.own.1 in not_holder s r id v at idle ne same in
      let zero_turn : turn s ≡ 0 = dite (ℕ_discrete (turn s) 0) (λ z. z) (λ ne. absurd (nobody ne)) in
      let h = r.free zero_turn in let b : C = h.0 in
      let P : List N → Type 0 = λ l. Tallied by (workers base) v l in (
        b,
        homes 0 (Some b) h.1,
        h.3,
        subst P (sym h.2) record {
          own = (k.seen, k.own.3);
          olds = All-weaker (OwnsOld by r.log (workers base) r.seat r.kind id) (OldSees by r.log) (λ o t. (t.1, t.0.3)) v.olds k.olds;
          unused = All-weaker (λ y. Owns by r.log (workers base) r.seat r.kind id 1 y []) (λ x. calls_by by x r.log ≡ []) (λ y o. o.3) v.give k.gives;
          bounded = r.bounded;
        },
      )

module _ {N B : Type 0} (by : N → ℕ) where
  -- a whole hold: the turn is won at this history, the event is added, and the turn is given up
  pub makes : (v : View N B) (e : N) (log log' : List N) → log' ≡ log ++ e ∷ [] → by e ≡ v.worker → Sees by v log → AddsEvent by v e (freed (added (held v log) log'))
  makes v e log log' longer own sees = let between = sees.0.0 in let tail : drop (length log) log' ≡ e ∷ [] = ap (drop (length log)) longer ∙ drop_front log (e ∷ []) in
      let more : v.mine ++ drop (length log) log' ≡ v.mine ++ e ∷ [] = ap (λ (l : List N). v.mine ++ l) tail in (
        between,
        longer ∙ ap (λ (l : List N). l ++ e ∷ []) sees.0.1,
        more,
        ap (calls_by by v.worker) longer ∙ (calls_by-own by v.worker log e own ∙ (ap (λ (l : List N). l ++ e ∷ []) sees.1 ∙ sym more)),
        (refl, refl, refl),
        refl,
      )

  -- a hold without an event
  pub holds_on : (v : View N B) (log : List N) → Sees by v log → Holds by v (freed (held v log))
  holds_on v log sees = (sees.0, refl, sees.1, (refl, refl, refl), refl)

module _ {C N B : Type 0} (base_of : C → B) (log_of : C → List N) (by : N → ℕ) where
  -- what the winner of the turn has in hand
  pub takes_it : (m m' : LockSeat C N B) (x : C) → Won base_of log_of by m m' → m'.1 ≡ (0, Some x) ∷ [] → (m'.0 ≡ held m.0 (log_of x)) × Sees by m.0 (log_of x) × (Some (base_of x) ≡ m.0.base)
  takes_it m m' x (b, hand, view, sees, same) e = let both : Some b ≡ Some x = one_hand m'.1 0 (Some b) (Some x) hand e in let is : b ≡ x = cc in
      subst (λ (y : C). (m'.0 ≡ held m.0 (log_of y)) × Sees by m.0 (log_of y) × (Some (base_of y) ≡ m.0.base)) is (view, sees, same)

module _ {C N B : Type 0} (base_of : C → B) (log_of : C → List N) (by : N → ℕ) (workers : B → ℕ) (base : B) where
  -- what comes out of the slot at the end is a core
  pub closes_as : (id : ℕ) (v : View N B) (words : List ℕ) (slots : List (Option C)) (x : Option C) → v.live ≡ true → v.turn ≡ false → AllBack (workers base) v → Final (Seen (LockKept base_of log_of by workers base) id v) words slots
      → get_elem? slots 0 ≡ maybe.some x → (b : C) × (x ≡ Some b) × (base_of b ≡ base) × Tallied by (workers base) v (log_of b)
  closes_as id v words slots x live idle back final at = let t = closes base_of log_of by workers base id v words slots live idle back final in
      (t.0, maybe.some-injective x (Some t.0) (sym at ∙ t.1), t.2, t.3)

  pub closes_to : (id : ℕ) (v : View N B) (words : List ℕ) (slots : List (Option C)) (x : Option C) (y : C) → v.live ≡ true → v.turn ≡ false → AllBack (workers base) v → Final (Seen (LockKept base_of log_of by workers base) id v) words slots
      → get_elem? slots 0 ≡ maybe.some x → x ≡ Some y → (base_of y ≡ base) × Tallied by (workers base) v (log_of y)
  closes_to id v words slots x y live idle back final at is = let t = closes_as id v words slots x live idle back final at in
      let both : Some t.0 ≡ Some y = sym t.1 ∙ is in let same : t.0 ≡ y = cc in
      subst (λ (b : C). (base_of b ≡ base) × Tallied by (workers base) v (log_of b)) same (t.2, t.3)
