-- New pairs, by the bits that say where their leads exceed the new one
use Rattle.std.proofs.Common.{List, [], ap, ap₂, arith, get_or, inl, inr, length, refl, subst, sym, ℕ, ◌++◌, ◌<◌, ◌∙◌, ◌∷◌, ◌≡◌, ◌≤◌, ◌⊎◌}
use Rattle.std.proofs.lemmas.Bool.{cases_lt}
use Rattle.std.proofs.lemmas.List.{get_or_append_left, get_or_push, length_push}
use Rattle.std.proofs.lemmas.Nat.{and_comm}
use Rattle.std.specs.Prelude.{bit_and}
use Rattle.formal_sums.specs.FormalSums.{FormalSum}
use Rattle.bases.specs.Leads.{leads}
use Rattle.pair_updates.proofs.RowMasks.{divisor_exceeds, implied_four, row_divisor, row_length}
use Rattle.pair_updates.proofs.ToldRows.{told_below}
use Rattle.pair_updates.specs.Dropping.{IsPairWithBits}
use Rattle.pair_updates.specs.FirstYields.{AreActive}
use Rattle.pair_updates.specs.LeadCriteria.{DividesLcm}
use Rattle.pair_updates.specs.Leads.{LeadsShown, sums_shown}
use Rattle.pair_updates.specs.Rows.{TellsAll, bits_above, lead_row}

module _ (m : LeadsShown) where
  abbrev G : List (FormalSum m.variables)
  G = sums_shown m

  -- where the lead of j divides the lcm of i and h, it exceeds lead h only where lead i does
  pub bits_within : (i h j : ℕ) → DividesLcm m (i, h) j → bit_and (bits_above m j h) (bits_above m i h) ≡ bits_above m j h
  bits_within i h j d =
      implied_four (lead_row m j) (lead_row m h) (lead_row m i) (lead_row m h)
      (λ t. divisor_exceeds 16 t (leads G j).1 (leads G i).1 (leads G h).1 (d.0, ap (λ z. z.1) d.1))

  -- so equal lcms have equal bits
  pub same_bits : (i h j : ℕ) → DividesLcm m (i, h) j → DividesLcm m (j, h) i → bits_above m j h ≡ bits_above m i h
  same_bits i h j a b =
      sym (bits_within i h j a) ∙ and_comm (bits_above m j h) (bits_above m i h) ∙ bits_within j h i b

  pub kept_within :
      (i h j a b : ℕ) → a ≡ bits_above m j h → b ≡ bits_above m i h → DividesLcm m (i, h) j → bit_and a b ≡ a
  kept_within i h j a b ea eb d = ap₂ bit_and ea eb ∙ bits_within i h j d ∙ sym ea

  pub kept_same :
      (i h j a b : ℕ) → a ≡ bits_above m j h → b ≡ bits_above m i h → DividesLcm m (i, h) j → DividesLcm m (j, h) i → a ≡ b
  kept_same i h j a b ea eb d e = ea ∙ same_bits i h j d e ∙ sym eb

  -- in a ring of at most sixteen variables a word that tells all and lies within that of i says so: the lead divides the lcm
  pub divides_told :
      (i h j a b : ℕ) → a ≡ bits_above m j h → b ≡ bits_above m i h → bit_and a b ≡ a → TellsAll a → m.variables ≤ 16
      → (leads G j).0 ≡ (leads G i).0 → DividesLcm m (i, h) j
  divides_told i h j a b ea eb within all few position =
      let d = row_divisor m.variables 16 (leads G j).1 (leads G i).1 (leads G h).1 few
      (told_below (lead_row m j) (lead_row m h) (lead_row m i) (row_length 16 (leads G j).1) (row_length 16 (leads G h).1) (row_length 16 (leads G i).1)
      (ap₂ bit_and (sym ea) (sym eb) ∙ within ∙ ea) (subst TellsAll ea all)) in
      (d.0, λ t. (position t, d.1 t))

  pub active_none : (h : ℕ) → AreActive m h [] []
  active_none h = record { len = refl; each = λ x lt. absurd (omega (arith, lt)) }

  -- one more active member
  pub active_pushed :
      (h i a : ℕ) (members above : List ℕ) → AreActive m h members above → IsPairWithBits m (record { i = i; j = h; above = a })
      → AreActive m h (members ++ i ∷ []) (above ++ a ∷ [])
  active_pushed h i a members above all met = record {
    len = let e = all.len in omega (arith, e, length_push members i, length_push above a);
    each = λ x lt. go x lt (cases_lt x (length members));
  }
    where
      at : (x k l : ℕ) → get_or (members ++ i ∷ []) x 0 ≡ k → get_or (above ++ a ∷ []) x 0 ≡ l → IsPairWithBits m (record { i = k; j = h; above = l })
          → IsPairWithBits m (record { i = get_or (members ++ i ∷ []) x 0; j = h; above = get_or (above ++ a ∷ []) x 0 })
      at x k l e f is =
          subst (λ z. IsPairWithBits m (record { i = z; j = h; above = get_or (above ++ a ∷ []) x 0 })) (sym e)
          (subst (λ z. IsPairWithBits m (record { i = k; j = h; above = z })) (sym f) is)

      go : (x : ℕ) → x < length (members ++ i ∷ []) → (x < length members) ⊎ (length members ≤ x)
          → IsPairWithBits m (record { i = get_or (members ++ i ∷ []) x 0; j = h; above = get_or (above ++ a ∷ []) x 0 })
      go x lt (inl l) =
          at x (get_or members x 0) (get_or above x 0) (get_or_append_left members (i ∷ []) 0 x l)
          (get_or_append_left above (a ∷ []) 0 x (let e = all.len in omega (arith, e, l))) (all.each x l)
      go x lt (inr l) =
          let e : x ≡ length members = omega (arith, lt, l, length_push members i) in
          let f : x ≡ length above = let q = all.len in omega (arith, e, q) in
          at x i a (ap (λ z. get_or (members ++ i ∷ []) z 0) e ∙ get_or_push members i 0 (length members) refl)
          (ap (λ z. get_or (above ++ a ∷ []) z 0) f ∙ get_or_push above a 0 (length above) refl) met
