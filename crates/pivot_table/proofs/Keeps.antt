-- Each step on a pass's words keeps the rule.
use Rattle.std.proofs.Common.{◌≡◌, ◌≢◌, ℕ, zero, suc, add-one, ◌+◌, ◌-◌, ◌<◌, ◌≤◌, eqb, cond, ◌^◌, ◌⊎◌, inl, inr, List, [], ◌∷◌, ◌++◌, map, length, get_or, set, sym, refl, ap, ◌∙◌, subst, ⊎_elim, arith, length-set, get_or-set_other, get_or-set_same, eq-eqb, ne_eqb}
use Rattle.std.specs.Prelude.{slice_get, Contains, Option, Some, None}
use Rattle.std.proofs.lemmas.List.Elements.{All-append, All-push, All-nil, All-weaker, All-head, All-tail}
use Rattle.std.proofs.lemmas.List.{length-map, get_or-map, get_or_past}
use Rattle.std.specs.Option.{option_map}
use Rattle.std.proofs.lemmas.Option.{slice_get-get_or, slice_get-map, slice_get_within, get_or_from_slice_get}
use mathlib.Core.Logic.{dite}
use mathlib.Core.Option as maybe
use native.Mathlib.Decide.{ℕ_discrete, dec_lt}
use lib.ListN.{get_elem?}
use prog.Atomic.{either}
use Rattle.atomic_table.specs.Table.{State, Me, step, keeps, stepped, opening, Final, Seen, Allows, Splits, Joins}
use Rattle.atomic_table.proofs.Lists.{at_set, at_snoc}
use Rattle.pivot_table.proofs.Totals.{total-append, total_set, total_at, alone, halves, more_halvings, kept_none, given_none, first_none, second_none, no_parts, whole_parts}
use Rattle.pivot_table.specs.declared.law.Entry.{Entry}
use Rattle.pivot_table.specs.declared.law.View.{View}
use Rattle.pivot_table.specs.declared.law.Rows.{Rows}
use Rattle.pivot_table.specs.Law.{Kept, NamesRowOf, Agrees, IsAsTold, LeadsFit, Tallies, view, entry, total_by, rows_named, parts, halvings, AreWhole, kept_half, given_half, AreHeldOrWon, won, wins, was_held, claimed, looked_up, option_word, word_row}

same_length : {A B : Type 0} (f : A → B) (l : List A) → length (map f l) ≡ length l
same_length f l = length-map l f

-- what was told stays so where each word that is not 0 stays
still_told : (ws us : List ℕ) (told : List Entry) → ((c : ℕ) → 0 < get_or ws c 0 → get_or us c 0 ≡ get_or ws c 0) → Agrees ws told → Agrees us told
still_told ws us told stays a = All-weaker (IsAsTold ws) (IsAsTold us) (λ e was some_row. let w = was some_row in stays e.column (subst (λ (z : ℕ). 0 < z) (sym w) some_row) ∙ w) told a

won_else : (c i b n : ℕ) → c ≢ i → won c (entry i b n) ≡ 0
won_else c i b n ne = ap (λ t. cond t (cond (eqb b 0) (rows_named n) 0) 0) (ne_eqb i c (λ e. ne (sym e)))

won_here : (c i b n : ℕ) → c ≡ i → won c (entry i b n) ≡ cond (eqb b 0) (rows_named n) 0
won_here c i b n e = ap (λ t. cond t (cond (eqb b 0) (rows_named n) 0) 0) (eq-eqb i c (sym e))

-- no win where a column without a row gets none
won_idle : (c i b n : ℕ) → (b ≡ 0 → n ≡ 0) → won c (entry i b n) ≡ 0
won_idle c i b n h = dite (ℕ_discrete c i)
    (λ e. won_here c i b n e ∙ dite (ℕ_discrete b 0) (λ z. ap (λ q. cond q (rows_named n) 0) (eq-eqb b 0 z) ∙ ap rows_named (h z)) (λ nz. ap (λ q. cond q (rows_named n) 0) (ne_eqb b 0 nz)))
    (λ ne. won_else c i b n ne)

wins-snoc : (c : ℕ) (leads : List ℕ) (told : List Entry) (e : Entry) (shares : List ℕ) → wins c (view leads (told ++ e ∷ []) shares) ≡ total_by (won c) told + won c e
wins-snoc c leads told e shares = omega (arith, total-append (won c) told (e ∷ []))

abbrev Depth : View → ℕ
Depth v = halvings v.shares

abbrev Part : ℕ → View → ℕ
Part d v = parts d v.shares

-- it gave no column a row, and gives none
abbrev Idle : View → Type 0
Idle v = (v.leads ≡ []) × ((c : ℕ) → wins c v ≡ 0)

module _ {S : Type 0} (leads : List ℕ) (held : List (Option ℕ)) where
  abbrev Rule : State S View → Type 0
  Rule = Kept {S = S} leads held

  -- the word i becomes n, and the seat is told so
  told_one : (s : State S View) (r : Rule s) (i b n id : ℕ) (cs : List (ℕ × S)) (v : View) → b ≡ get_or s.words i 0 → i < length s.words → get_elem? s.views id ≡ maybe.some v
      → ((0 < get_or s.words i 0) → n ≡ get_or s.words i 0) → NamesRowOf leads i n → (v.leads ≡ [] → b ≡ 0 → n ≡ 0)
      → Rule (stepped s i n id cs (view v.leads (v.told ++ entry i b n ∷ []) v.shares) keeps)
  told_one s r i b n id cs v found inside at stay names idle =
      let w : View = view v.leads (v.told ++ entry i b n ∷ []) v.shares in
      let us : List ℕ = set s.words i n in
      let here : get_or us i 0 ≡ n = get_or-set_same s.words i n 0 inside in
      let else_where : (c : ℕ) → c ≢ i → get_or us c 0 ≡ get_or s.words c 0 = λ c ne. get_or-set_other s.words i c n 0 ne in
      let stays : (c : ℕ) → 0 < get_or s.words c 0 → get_or us c 0 ≡ get_or s.words c 0 =
      λ c some_row. dite (ℕ_discrete c i)
      (λ e. subst (λ (z : ℕ). get_or us z 0 ≡ get_or s.words z 0) (sym e) (here ∙ stay (subst (λ (z : ℕ). 0 < get_or s.words z 0) e some_row)))
      (λ ne. else_where c ne) in
      record {
        wide = length-set s.words i n ∙ r.wide;
        named = λ c l. dite (ℕ_discrete c i)
            (λ e. subst (λ (z : ℕ). NamesRowOf leads z (get_or us z 0)) (sym e) (subst (λ (z : ℕ). NamesRowOf leads i z) (sym here) names))
            (λ ne. subst (λ (z : ℕ). NamesRowOf leads c z) (sym (else_where c ne)) (r.named c (subst (λ (z : ℕ). c < z) (length-set s.words i n) l)));
        stays = λ c k h. let was = r.stays c k h in stays c (omega (arith, was)) ∙ was;
        each_seat = λ j u e. ⊎_elim
            (λ (t : (j ≡ id) × (w ≡ u)). subst (λ (z : View). Agrees us z.told) t.1 (All-push (IsAsTold us) v.told (entry i b n) (still_told s.words us v.told stays (r.each_seat id v at)) (λ _. here)))
            (λ (t : (j ≢ id) × (get_elem? s.views j ≡ maybe.some u)). still_told s.words us u.told stays (r.each_seat j u t.1))
            (at_set s.views id j w u e);
        once = λ c l. let l' : c < length s.words = subst (λ (z : ℕ). c < z) (length-set s.words i n) l in let was = r.once c l' in
            let t = total_set (wins c) s.views id v w at in let m = wins-snoc c v.leads v.told (entry i b n) v.shares in
            dite (ℕ_discrete c i)
            (λ e. let now : get_or us c 0 ≡ n = ap (λ (z : ℕ). get_or us z 0) e ∙ here in let old : get_or s.words c 0 ≡ b = ap (λ (z : ℕ). get_or s.words z 0) e ∙ sym found in
            let x = won_here c i b n e in dite (ℕ_discrete b 0)
            (λ z. let y : won c (entry i b n) ≡ rows_named n = x ∙ ap (λ q. cond q (rows_named n) 0) (eq-eqb b 0 z) in let none : rows_named (get_or s.words c 0) ≡ 0 = ap rows_named (old ∙ z) in let one : rows_named (get_or us c 0) ≡ rows_named n = ap rows_named now in omega arith)
            (λ nz. let y : won c (entry i b n) ≡ 0 = x ∙ ap (λ q. cond q (rows_named n) 0) (ne_eqb b 0 nz) in let same : n ≡ get_or s.words c 0 = stay (omega (arith, nz)) ∙ (sym found ∙ sym old) in
            let one : rows_named (get_or us c 0) ≡ rows_named (get_or s.words c 0) = ap rows_named (now ∙ same) in omega arith))
            (λ ne. let y = won_else c i b n ne in let one : rows_named (get_or us c 0) ≡ rows_named (get_or s.words c 0) = ap rows_named (else_where c ne) in omega arith);
        shared = λ d deep. let p = total_set (Part d) s.views id v w at in let q = total_set Depth s.views id v w at in let was = r.shared d (omega arith) in omega arith;
        spent = λ j u e none. ⊎_elim
            (λ (t : (j ≡ id) × (w ≡ u)). subst Idle t.1 (let was = r.spent id v at (ap (λ (z : View). z.shares) t.1 ∙ none) in
            (was.0, λ c. let m = wins-snoc c v.leads v.told (entry i b n) v.shares in let x = won_idle c i b n (idle was.0) in let y = was.1 c in omega arith)))
            (λ (t : (j ≢ id) × (get_elem? s.views j ≡ maybe.some u)). r.spent j u t.1 none)
            (at_set s.views id j w u e);
      }

  pub claims : (slots id i row : ℕ) (me : Me S View) → i < length held → me.0.leads ≡ leads → row < length leads → get_or leads row 0 ≡ i
      → Allows Rule slots id me i (λ n. either (eqb n 0) (row + 1) n) (claimed (step slots i 0 (row + 1) maybe.none) me)
  claims slots id i row me inside same row_in lead s r _ at _ =
      let n : ℕ = get_or s.words i 0 in
      let wide = r.wide in
      let m : ℕ = either (eqb n 0) (row + 1) n in
      let mine : NamesRowOf leads i (row + 1) = λ _. (omega arith, subst (λ (z : ℕ). get_or leads z 0 ≡ i) (omega arith) lead) in
      let there : NamesRowOf leads i n = r.named i (omega arith) in
      let names : NamesRowOf leads i m = dite (ℕ_discrete n 0) (λ e. subst (λ b. NamesRowOf leads i (either b (row + 1) n)) (sym (eq-eqb n 0 e)) mine)
      (λ ne. subst (λ b. NamesRowOf leads i (either b (row + 1) n)) (sym (ne_eqb n 0 ne)) there) in
      let stay : 0 < n → m ≡ n = λ l. ap (λ b. either b (row + 1) n) (ne_eqb n 0 (λ e. omega arith)) in
      let idle : me.0.leads ≡ [] → n ≡ 0 → m ≡ 0 = λ none _. let short : length leads ≡ 0 = ap length (sym same ∙ none) in absurd (omega arith) in
      (view me.0.leads (me.0.told ++ entry i n m ∷ []) me.0.shares, keeps, tt, told_one s r i n m id me.1 me.0 refl (omega arith) at stay names idle, (refl, subst (λ (z : List ℕ). NamesRowOf z i m) (sym same) names))

  pub looks : (slots id i : ℕ) (me : Me S View) → i < length held → me.0.leads ≡ leads
      → Allows Rule slots id me i (λ n. n) (looked_up (step slots i 0 0 maybe.none) me)
  looks slots id i me inside same s r _ at _ =
      let n : ℕ = get_or s.words i 0 in
      let wide = r.wide in
      let names : NamesRowOf leads i n = r.named i (omega arith) in
      (view me.0.leads (me.0.told ++ entry i n n ∷ []) me.0.shares, keeps, tt, told_one s r i n n id me.1 me.0 refl (omega arith) at (λ _. refl) names (λ _ z. z), (refl, subst (λ (z : List ℕ). NamesRowOf z i n) (sym same) names))

  -- the views alone change
  reseated : (s : State S View) (r : Rule s) (views : List View) → ((j : ℕ) (v : View) → get_elem? views j ≡ maybe.some v → Agrees s.words v.told) → ((c : ℕ) → total_by (wins c) views ≡ total_by (wins c) s.views)
      → ((d : ℕ) → total_by Depth views ≤ d → total_by (Part d) views ≡ 2 ^ d) → ((j : ℕ) (v : View) → get_elem? views j ≡ maybe.some v → v.shares ≡ [] → Idle v)
      → Rule record { words = s.words; homes = s.homes; views = views }
  reseated s r views each same shared spent = record {
    wide = r.wide;
    named = r.named;
    stays = r.stays;
    each_seat = each;
    once = λ c l. ap (λ (n : ℕ). n + was_held held c) (same c) ∙ r.once c l;
    shared = shared;
    spent = spent;
  }

  pub splits : (id : ℕ) (v : View) → Splits Rule id v (view v.leads v.told (kept_half v.shares)) (view v.leads [] (given_half v.shares))
  splits id v s r at =
      let left : View = view v.leads v.told (kept_half v.shares) in
      let right : View = view v.leads [] (given_half v.shares) in
      let vs : List View = set s.views id left in
      reseated s r (vs ++ right ∷ [])
      (λ j u e. ⊎_elim
      (λ (was : get_elem? vs j ≡ maybe.some u). ⊎_elim
      (λ (t : (j ≡ id) × (left ≡ u)). subst (λ (z : View). Agrees s.words z.told) t.1 (r.each_seat id v at))
      (λ (t : (j ≢ id) × (get_elem? s.views j ≡ maybe.some u)). r.each_seat j u t.1)
      (at_set s.views id j left u was))
      (λ (same : right ≡ u). subst (λ (z : View). Agrees s.words z.told) same (All-nil (IsAsTold s.words)))
      (at_snoc vs right u j e))
      (λ c. let a = total-append (wins c) vs (right ∷ []) in let b = total_set (wins c) s.views id v left at in omega arith)
      (λ d deep. let a = total-append (Part d) vs (right ∷ []) in let b = total_set (Part d) s.views id v left at in
      let p = total-append Depth vs (right ∷ []) in let q = total_set Depth s.views id v left at in let more = more_halvings v.shares in
      let was = r.shared d (omega arith) in let two = halves d v.shares (omega arith) in omega arith)
      (λ j u e none. ⊎_elim
      (λ (was : get_elem? vs j ≡ maybe.some u). ⊎_elim
      (λ (t : (j ≡ id) × (left ≡ u)). subst Idle t.1 (r.spent id v at (kept_none v.shares (ap (λ (z : View). z.shares) t.1 ∙ none))))
      (λ (t : (j ≢ id) × (get_elem? s.views j ≡ maybe.some u)). r.spent j u t.1 none)
      (at_set s.views id j left u was))
      (λ (same : right ≡ u). subst Idle same (let h = r.spent id v at (given_none v.shares (ap (λ (z : View). z.shares) same ∙ none)) in (h.0, λ c. refl)))
      (at_snoc vs right u j e))

  pub joins : (id : ℕ) (v : View) (other : ℕ) (w : View) → Joins Rule id v other w (view v.leads (v.told ++ w.told) (v.shares ++ w.shares)) (view [] [] [])
  joins id v other w s r at apart there =
      let b : View = view v.leads (v.told ++ w.told) (v.shares ++ w.shares) in
      let none : View = view [] [] [] in
      let there' : get_elem? s.views other ≡ maybe.some w = ⊎_elim (λ (t : (other ≡ id) × (b ≡ w)). absurd (apart t.0)) (λ (t : (other ≢ id) × (get_elem? s.views other ≡ maybe.some w)). t.1) (at_set s.views id other b w there) in
      let joined : Agrees s.words b.told = All-append (IsAsTold s.words) v.told w.told (r.each_seat id v at) (r.each_seat other w there') in
      reseated s r (set (set s.views id b) other none)
      (λ j u e. ⊎_elim
      (λ (t : (j ≡ other) × (none ≡ u)). subst (λ (z : View). Agrees s.words z.told) t.1 (All-nil (IsAsTold s.words)))
      (λ (t : (j ≢ other) × (get_elem? (set s.views id b) j ≡ maybe.some u)). ⊎_elim
      (λ (q : (j ≡ id) × (b ≡ u)). subst (λ (z : View). Agrees s.words z.told) q.1 joined)
      (λ (q : (j ≢ id) × (get_elem? s.views j ≡ maybe.some u)). r.each_seat j u q.1)
      (at_set s.views id j b u t.1))
      (at_set (set s.views id b) other j none u e))
      (λ c. let one = total_set (wins c) s.views id v b at in let two = total_set (wins c) (set s.views id b) other w none there in
      let sum : wins c b ≡ wins c v + wins c w = total-append (won c) v.told w.told in omega arith)
      (λ d deep. let one = total_set (Part d) s.views id v b at in let two = total_set (Part d) (set s.views id b) other w none there in
      let sum : parts d b.shares ≡ parts d v.shares + parts d w.shares = total-append (λ e. 2 ^ (d - e)) v.shares w.shares in
      let deep_one = total_set Depth s.views id v b at in let deep_two = total_set Depth (set s.views id b) other w none there in
      let deep_sum : halvings b.shares ≡ halvings v.shares + halvings w.shares = total-append (λ e. e) v.shares w.shares in
      let was = r.shared d (omega arith) in omega arith)
      (λ j u e empty. ⊎_elim
      (λ (t : (j ≡ other) × (none ≡ u)). subst Idle t.1 (refl, λ c. refl))
      (λ (t : (j ≢ other) × (get_elem? (set s.views id b) j ≡ maybe.some u)). ⊎_elim
      (λ (q : (j ≡ id) × (b ≡ u)). subst Idle q.1 (let both : v.shares ++ w.shares ≡ [] = ap (λ (z : View). z.shares) q.1 ∙ empty in
      let x = r.spent id v at (first_none v.shares w.shares both) in let y = r.spent other w there' (second_none v.shares w.shares both) in
      (x.0, λ c. let a = x.1 c in let z = y.1 c in let sum : wins c b ≡ wins c v + wins c w = total-append (won c) v.told w.told in omega arith)))
      (λ (q : (j ≢ id) × (get_elem? s.views j ≡ maybe.some u)). r.spent j u q.1 empty)
      (at_set s.views id j b u t.1))
      (at_set (set s.views id b) other j none u e))

  -- the words that the pass begins with
  pub opens : (xs : List S) → LeadsFit leads held → Rule (opening (map option_word held) xs (view leads [] (0 ∷ [])))
  opens xs fits = record {
    wide = same_length option_word held;
    named = λ c l. first_named c (omega (arith, same_length option_word held)) (get_or held c None) (slice_get-get_or held c None (omega (arith, same_length option_word held)));
    stays = λ c k h. word_at c (Some k) h;
    each_seat = λ j u e. ⊎_elim (λ (t : get_elem? [] j ≡ maybe.some u). absurd (maybe.some-ne-none u (sym t)))
        (λ (t : view leads [] (0 ∷ []) ≡ u). subst (λ (z : View). Agrees (map option_word held) z.told) t (All-nil (IsAsTold (map option_word held)))) (at_snoc [] (view leads [] (0 ∷ [])) u j e);
    once = λ c l. let l' : c < length held = omega (arith, same_length option_word held) in let e = ap rows_named (get_or-map option_word held c None 0 l') in omega arith;
    shared = λ d deep. omega (arith, whole_parts d);
    spent = λ j u e none. ⊎_elim (λ (t : get_elem? [] j ≡ maybe.some u). absurd (maybe.some-ne-none u (sym t)))
        (λ (t : view leads [] (0 ∷ []) ≡ u). let empty : 0 ∷ [] ≡ [] = ap (λ (z : View). z.shares) t ∙ none in absurd (cc)) (at_snoc [] (view leads [] (0 ∷ [])) u j e);
  }
    where
      word_at : (c : ℕ) (o : Option ℕ) → slice_get held c ≡ Some o → get_or (map option_word held) c 0 ≡ option_word o
      word_at c o h = get_or-map option_word held c None 0 (slice_get_within held c o h) ∙ ap option_word (get_or_from_slice_get held c o None h)

      first_named : (c : ℕ) → c < length held → (o : Option ℕ) → slice_get held c ≡ Some o → NamesRowOf leads c (get_or (map option_word held) c 0)
      first_named c l None h = subst (NamesRowOf leads c) (sym (word_at c None h)) (λ z. absurd (omega arith))
      first_named c l (Some k) h = subst (NamesRowOf leads c) (sym (word_at c (Some k) h)) (λ _. let f = fits c k h in let lt = f.0 in (omega arith, subst (λ (z : ℕ). get_or leads z 0 ≡ c) (omega arith) f.1))

pub word_fits : (leads : List ℕ) (held : List (Option ℕ)) (i : ℕ) → LeadsFit leads held → i < length held → option_word (get_or held i None) ≤ length leads
word_fits leads held i fits l = go (get_or held i None) (slice_get-get_or held i None l)
  where
    go : (o : Option ℕ) → slice_get held i ≡ Some o → option_word o ≤ length leads
    go None e = omega arith
    go (Some k) e = let f = fits i k e in omega arith

row_at : (words : List ℕ) (c k : ℕ) → c < length words → get_or words c 0 ≡ k + 1 → slice_get (map word_row words) c ≡ Some (Some k)
row_at words c k l e = slice_get-map word_row words c ∙ (ap (option_map word_row) (slice_get-get_or words c 0 l) ∙ ap (λ (n : ℕ). Some (word_row n)) (e ∙ add-one k))

word_from : (words : List ℕ) (c k : ℕ) → slice_get (map word_row words) c ≡ Some (Some k) → get_or words c 0 ≡ k + 1
word_from words c k h = from_option (slice_get words c) refl (sym (slice_get-map word_row words c) ∙ h)
  where
    from_option : (o : Option ℕ) → slice_get words c ≡ o → option_map word_row o ≡ Some (Some k) → get_or words c 0 ≡ k + 1
    from_option None e h' = absurd (cc)
    from_option (Some zero) e h' = absurd (cc)
    from_option (Some (suc n)) e h' = let same : n ≡ k = cc in get_or_from_slice_get words c (suc n) 0 e ∙ omega (arith, same)

in_words : (words : List ℕ) (c : ℕ) (o : Option ℕ) → slice_get (map word_row words) c ≡ Some o → c < length words
in_words words c o h = omega (arith, slice_get_within (map word_row words) c o h, same_length word_row words)

beyond : (words : List ℕ) (c k : ℕ) → ¬ (c < length words) → get_or words c 0 ≡ k + 1 → ⊥
beyond words c k outside e = let past : get_or words c 0 ≡ 0 = get_or_past words c 0 (omega (arith, outside)) in omega arith

-- a step that is counted as a win
won_means : (c : ℕ) (e : Entry) → 0 < won c e → (e.column ≡ c) × (e.before ≡ 0) × (0 < e.after)
won_means c e some = dite (ℕ_discrete e.column c)
    (λ a. let x : won c e ≡ cond (eqb e.before 0) (rows_named e.after) 0 = ap (λ t. cond t (cond (eqb e.before 0) (rows_named e.after) 0) 0) (eq-eqb e.column c a) in
    dite (ℕ_discrete e.before 0)
    (λ b. let y : won c e ≡ rows_named e.after = x ∙ ap (λ q. cond q (rows_named e.after) 0) (eq-eqb e.before 0 b) in (a, b, positive e.after (omega arith)))
    (λ b. let y : won c e ≡ 0 = x ∙ ap (λ q. cond q (rows_named e.after) 0) (ne_eqb e.before 0 b) in absurd (omega arith)))
    (λ a. let x : won c e ≡ 0 = ap (λ t. cond t (cond (eqb e.before 0) (rows_named e.after) 0) 0) (ne_eqb e.column c a) in absurd (omega arith))
  where
    positive : (n : ℕ) → 0 < rows_named n → 0 < n
    positive zero h = h
    positive (suc n) h = omega arith

-- a win that is counted was told
win_told : (c k : ℕ) (words : List ℕ) (told : List Entry) → Agrees words told → get_or words c 0 ≡ k + 1 → 0 < total_by (won c) told → Contains told (entry c 0 (k + 1))
win_told c k words [] agrees word some = absurd (omega arith)
win_told c k words (e ∷ told) agrees word some = dite (ℕ_discrete (won c e) 0)
    (λ none. later (win_told c k words told (All-tail (IsAsTold words) e told agrees) word (omega arith)))
    (λ here. let m = won_means c e (omega (arith, here)) in
    let was : get_or words e.column 0 ≡ e.after = All-head (IsAsTold words) e told agrees m.2 in
    let after : e.after ≡ k + 1 = sym was ∙ (ap (λ (z : ℕ). get_or words z 0) m.0 ∙ word) in
    let same : e ≡ entry c 0 (k + 1) = λ i. entry (m.0 i) (m.1 i) (after i) in (0, omega arith, same))
  where
    later : Contains told (entry c 0 (k + 1)) → Contains (e ∷ told) (entry c 0 (k + 1))
    later (i, l, at) = (suc i, omega arith, at)

module _ (leads : List ℕ) (held : List (Option ℕ)) {S : Type 0} where
  -- what the table ends with, read as rows
  pub tallies : (id : ℕ) (v : View) (words : List ℕ) (xs : List S) → Final (Seen (Kept leads held) id v) words xs → Tallies leads held v.told (map word_row words)
  tallies id v words xs (s, (r, at), is, _, _) = subst (λ (ws : List ℕ). Tallies leads held v.told (map word_row ws)) is record {
    wide = same_length word_row s.words ∙ r.wide;
    fits = λ c k h. let e = word_from s.words c k h in let l = in_words s.words c (Some k) h in let n = r.named c l (subst (λ (z : ℕ). 0 < z) (sym e) (omega arith)) in
        let n0 = n.0 in (omega arith, subst (λ (z : ℕ). get_or leads z 0 ≡ c) (ap (λ (z : ℕ). z - 1) e ∙ omega arith) n.1);
    stayed = λ c k h. let e = r.stays c k h in row_at s.words c k (subst (λ (z : ℕ). c < z) (sym r.wide) (slice_get_within held c (Some k) h)) e;
    as_told = All-weaker (IsAsTold s.words) (λ (e : Entry). (k : ℕ) → e.after ≡ k + 1 → slice_get (map word_row s.words) e.column ≡ Some (Some k))
        (λ e was k is_k. let w = was (omega arith) in row_at s.words e.column k (dite (dec_lt e.column (length s.words)) (λ y. y) (λ out. absurd (beyond s.words e.column k out (w ∙ is_k)))) (w ∙ is_k)) v.told (r.each_seat id v at);
  }

  -- a seat that has the whole pass was told all wins
  all_wins : (s : State S View) (r : Kept leads held s) (id : ℕ) (v : View) → get_elem? s.views id ≡ maybe.some v → AreWhole v.shares → (c : ℕ) → total_by (wins c) s.views ≡ wins c v
  all_wins s r id v at whole c =
      let d : ℕ = total_by Depth s.views in
      let all = r.shared d (omega arith) in
      let mine = whole d (total_at Depth s.views id v at) in
      alone (Part d) (wins c) s.views id v at (all ∙ sym mine) (λ j u e z. (r.spent j u e (no_parts d u.shares z)).1 c)

  pub held_or_won : (id : ℕ) (v : View) (words : List ℕ) (xs : List S) → Final (Seen (Kept leads held) id v) words xs → AreWhole v.shares → AreHeldOrWon held v.told (map word_row words)
  held_or_won id v words xs (s, (r, at), is, _, _) whole = subst (λ (ws : List ℕ). AreHeldOrWon held v.told (map word_row ws)) is (λ c k h.
      let word = word_from s.words c k h in let l = in_words s.words c (Some k) h in
      from_old c k word l (get_or held c None) refl)
    where
      from_old : (c k : ℕ) → get_or s.words c 0 ≡ k + 1 → c < length s.words → (o : Option ℕ) → get_or held c None ≡ o
          → (slice_get held c ≡ Some (Some k)) ⊎ Contains v.told (entry c 0 (k + 1))
      from_old c k word l None e =
          let none : was_held held c ≡ 0 = ap (λ (z : Option ℕ). rows_named (option_word z)) e in
          let one : rows_named (get_or s.words c 0) ≡ 1 = ap rows_named (word ∙ add-one k) in
          let once = r.once c l in let mine = all_wins s r id v at whole c in
          inr (win_told c k s.words v.told (r.each_seat id v at) word (omega arith))
      from_old c k word l (Some row) e =
          let there : slice_get held c ≡ Some (Some row) = slice_get-get_or held c None (subst (λ (z : ℕ). c < z) r.wide l) ∙ ap Some e in
          let stayed = r.stays c row there in
          let same : row ≡ k = omega (arith, stayed, word) in
          inl (there ∙ ap (λ (z : ℕ). Some (Some z)) same)

pub get_at : (ws : List ℕ) (i n : ℕ) → get_elem? ws i ≡ maybe.some n → get_or ws i 0 ≡ n
get_at [] i n e = absurd (maybe.some-ne-none n (sym e))
get_at (x ∷ xs) zero n e = maybe.some-injective x n e
get_at (x ∷ xs) (suc i) n e = get_at xs i n e

pub opens_as : {S : Type 0} (leads leads' : List ℕ) (held held' : List (Option ℕ)) (words : List ℕ) (xs : List S) → leads' ≡ leads → held' ≡ held → words ≡ map option_word held → LeadsFit leads held
    → Kept leads' held' (opening words xs (view leads' [] (0 ∷ [])))
opens_as leads leads' held held' words xs a b e fits =
    let P : List ℕ × List (Option ℕ) × List ℕ → Type 0 = λ t. Kept t.0 t.1 (opening t.2 xs (view t.0 [] (0 ∷ []))) in
    subst P (λ i. (sym a i, sym b i, sym e i)) (opens leads held xs fits)

pub tallies_as : {S : Type 0} (key rows : Rows) (id : ℕ) (v : View) (words : List ℕ) (xs : List S) (all : List (Option ℕ)) → key ≡ rows → all ≡ map word_row words → Final (Seen (Kept key.leads.items key.held.items) id v) words xs
    → Tallies rows.leads.items rows.held.items v.told all
tallies_as key rows id v words xs all e is f =
    let P : Rows × List (Option ℕ) → Type 0 = λ t. Tallies t.0.leads.items t.0.held.items v.told t.1 in
    subst P (λ i. (e i, sym is i)) (tallies key.leads.items key.held.items id v words xs f)

pub held_or_won_as : {S : Type 0} (key rows : Rows) (id : ℕ) (v : View) (words : List ℕ) (xs : List S) (all : List (Option ℕ)) → key ≡ rows → all ≡ map word_row words → Final (Seen (Kept key.leads.items key.held.items) id v) words xs
    → AreWhole v.shares → AreHeldOrWon rows.held.items v.told all
held_or_won_as key rows id v words xs all e is f whole =
    let P : Rows × List (Option ℕ) → Type 0 = λ t. AreHeldOrWon t.0.held.items v.told t.1 in
    subst P (λ i. (e i, sym is i)) (held_or_won key.leads.items key.held.items id v words xs f whole)
