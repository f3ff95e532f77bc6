-- A front of messages in order is in order, and of messages from a beat on is from that beat on.
use Rattle.std.proofs.Common.{◌≡◌, ℕ, zero, suc, ◌≤◌, List, [], ◌∷◌, ◌++◌, length, take, drop, inl, inr, ⊎_elim, sym, refl, ap, subst, le_trans, not-le_of_lt, ◌<◌, arith}
use Rattle.run_facts.specs.declared.mail.Flight.{Flight}
use Rattle.ring_links.specs.Flights.{MayFollow, AllFollow, IsOrdered, AllFrom, AllBy, Has, IsFront, AreGiven}

module _ {M : Type 0} where
  all_follow_front : (p : Flight M) (xs ys : List (Flight M)) → AllFollow p (xs ++ ys) → AllFollow p xs
  all_follow_front p [] ys h = tt
  all_follow_front p (x ∷ xs) ys h = (h.0, all_follow_front p xs ys h.1)

  pub ordered_front : (xs ys : List (Flight M)) → IsOrdered (xs ++ ys) → IsOrdered xs
  ordered_front [] ys h = tt
  ordered_front (x ∷ xs) ys h = (h.0, all_follow_front x xs ys h.1, ordered_front xs ys h.2)

  pub ordered_along : (xs ys zs : List (Flight M)) → xs ≡ ys ++ zs → IsOrdered xs → IsOrdered ys
  ordered_along xs ys zs e h = ordered_front ys zs (subst IsOrdered e h)

  all_follow_take : (p : Flight M) (n : ℕ) (xs : List (Flight M)) → AllFollow p xs → AllFollow p (take n xs)
  all_follow_take p zero xs h = tt
  all_follow_take p (suc n) [] h = tt
  all_follow_take p (suc n) (x ∷ xs) h = (h.0, all_follow_take p n xs h.1)

  pub ordered_take : (n : ℕ) (xs : List (Flight M)) → IsOrdered xs → IsOrdered (take n xs)
  ordered_take zero xs h = tt
  ordered_take (suc n) [] h = tt
  ordered_take (suc n) (x ∷ xs) h = (h.0, all_follow_take x n xs h.1, ordered_take n xs h.2)

  pub from_drop : (beat n m : ℕ) (xs : List (Flight M)) → n ≤ m → AllFrom beat (drop n xs) → AllFrom beat (drop m xs)
  from_drop beat zero zero xs le h = h
  from_drop beat zero (suc m) [] le h = tt
  from_drop beat zero (suc m) (x ∷ xs) le h = from_drop beat zero m xs (omega arith) h.1
  from_drop beat (suc n) zero xs le h = absurd (omega arith)
  from_drop beat (suc n) (suc m) [] le h = tt
  from_drop beat (suc n) (suc m) (x ∷ xs) le h = from_drop beat n m xs (omega arith) h

  -- one more message, of that beat or a later one
  pub from_next : (beat n : ℕ) (xs : List (Flight M)) (p : Flight M) → beat ≤ p.sent → AllFrom beat (drop n xs) → n ≤ length xs
      → AllFrom beat (drop n (xs ++ p ∷ []))
  from_next beat zero [] p le h short = (le, tt)
  from_next beat zero (x ∷ xs) p le h short = (h.0, from_next beat zero xs p le h.1 (omega arith))
  from_next beat (suc n) [] p le h short = absurd (omega arith)
  from_next beat (suc n) (x ∷ xs) p le h short = from_next beat n xs p le h (omega arith)

  pub from_lower : (low high : ℕ) (xs : List (Flight M)) → low ≤ high → AllFrom high xs → AllFrom low xs
  from_lower low high [] le h = tt
  from_lower low high (x ∷ xs) le h = (le_trans le h.0, from_lower low high xs le h.1)

  pub from_front : (beat n : ℕ) (xs ys : List (Flight M)) → AllFrom beat (drop n (xs ++ ys)) → AllFrom beat (drop n xs)
  from_front beat zero [] ys h = tt
  from_front beat zero (x ∷ xs) ys h = (h.0, from_front beat zero xs ys h.1)
  from_front beat (suc n) [] ys h = tt
  from_front beat (suc n) (x ∷ xs) ys h = from_front beat n xs ys h

  later_has : (beat : ℕ) (xs : List (Flight M)) (p : Flight M) → AllFrom beat xs → Has p xs → beat ≤ p.sent
  later_has beat [] p h at = absurd at
  later_has beat (x ∷ xs) p h at = ⊎_elim (λ (e : p ≡ x). subst (λ (q : Flight M). beat ≤ q.sent) (sym e) h.0) (λ (r : Has p xs). later_has beat xs p h.1 r) at

  given_before : (beat : ℕ) (got rest : List (Flight M)) (p : Flight M) → AllFrom beat rest → Has p (got ++ rest) → p.sent < beat → Has p got
  given_before beat [] rest p h at low = absurd (not-le_of_lt low (later_has beat rest p h at))
  given_before beat (x ∷ got) rest p h at low = ⊎_elim (λ (e : p ≡ x). inl e) (λ (r : Has p (got ++ rest)). inr (given_before beat got rest p h r low)) at

  -- what was sent in a beat that is closed was given
  pub front-given : (beat : ℕ) (got sent : List (Flight M)) → IsFront beat got sent → AreGiven beat got sent
  front-given beat got sent h p at low = given_before beat got h.0 p h.2 (subst (λ xs. Has p xs) h.1 at) low

  all_follow_next : (p : Flight M) (ps : List (Flight M)) (q : Flight M) → AllFollow p ps → MayFollow p q → AllFollow p (ps ++ q ∷ [])
  all_follow_next p [] q h may = (may, tt)
  all_follow_next p (x ∷ ps) q h may = (h.0, all_follow_next p ps q h.1 may)

  -- what may be sent next
  pub ordered_next : (sent arrival : ℕ) (ps : List (Flight M)) (q : Flight M) → IsOrdered ps → AllBy sent arrival ps → sent ≤ q.sent → arrival ≤ q.arrival → q.sent < q.arrival
      → IsOrdered (ps ++ q ∷ [])
  ordered_next sent arrival [] q h by s a ahead = (ahead, tt, tt)
  ordered_next sent arrival (p ∷ ps) q h by s a ahead =
      (h.0, all_follow_next p ps q h.1 (le_trans by.0 s, le_trans by.1 a), ordered_next sent arrival ps q h.2 by.2 s a ahead)

  pub by_next : (sent arrival : ℕ) (ps : List (Flight M)) (q : Flight M) → AllBy sent arrival ps → q.sent ≤ sent → q.arrival ≤ arrival → AllBy sent arrival (ps ++ q ∷ [])
  by_next sent arrival [] q h s a = (s, a, tt)
  by_next sent arrival (p ∷ ps) q h s a = (h.0, h.1, by_next sent arrival ps q h.2 s a)

  pub by_later : (sent arrival later after : ℕ) (ps : List (Flight M)) → sent ≤ later → arrival ≤ after → AllBy sent arrival ps → AllBy later after ps
  by_later sent arrival later after [] s a h = tt
  by_later sent arrival later after (p ∷ ps) s a h = (le_trans h.0 s, le_trans h.1 a, by_later sent arrival later after ps s a h.2)

module _ {A : Type 0} where
  -- the front of a front, and what is left of the whole behind it
  pub take_rest : (n : ℕ) (xs ys : List A) → n ≤ length xs → xs ++ ys ≡ take n xs ++ drop n (xs ++ ys)
  take_rest zero xs ys h = refl
  take_rest (suc n) [] ys h = absurd (omega arith)
  take_rest (suc n) (x ∷ xs) ys h = ap (λ l. x ∷ l) (take_rest n xs ys (omega arith))
