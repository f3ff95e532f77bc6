-- What stands under the numbers of a stream and a place: the message at the place of the row of the stream.
use Rattle.std.proofs.Common.{◌≡◌, ℕ, zero, suc, ◌+◌, ◌<◌, arith, Bool, true, false, ◌&&◌, ◌==◌, cond, List, [], ◌∷◌, ◌++◌, length, get_or, slice_get, Option, Some, None, if◌then◌else◌, refl, sym, ap, ◌∙◌}
use Rattle.std.specs.Option.{option_or}
use Rattle.std.specs.Ordering.{is_eq, nat_cmp, ordering_then}
use Rattle.std.proofs.lemmas.Bool.{eqb-true, eqb-false, eq-eqb, ne_eqb}
use Rattle.audit_frame.proofs.Tabled.{both_same, set_under_both}
use Rattle.audit_orders.specs.Carrying.{KeptMail, mail_under}
use Rattle.audit_orders.specs.Streams.{HasPosted, IsNext, in_stream, in_streams}
use Rattle.audit_orders.specs.declared.mail.Mail.{Mail}
use Rattle.audit_orders.proofs.Posting.{slice_more}

-- ---- lists one behind another

pub under_both : (s n : ℕ) (xs ys : KeptMail) → mail_under s n (xs ++ ys) ≡ option_or (mail_under s n xs) (mail_under s n ys)
under_both s n [] ys = refl
under_both s n (x ∷ xs) ys = go (is_eq (ordering_then (nat_cmp s x.0.0) (nat_cmp n x.0.1))) (under_both s n xs ys) where
  go : (b : Bool) → mail_under s n (xs ++ ys) ≡ option_or (mail_under s n xs) (mail_under s n ys)
      → cond b (Some x.1) (mail_under s n (xs ++ ys)) ≡ option_or (cond b (Some x.1) (mail_under s n xs)) (mail_under s n ys)
  go true e = refl
  go false e = e

or_none : (o : Option Mail) → option_or o None ≡ o
or_none None = refl
or_none (Some x) = refl

-- ---- rows

-- what the first message of a row has under two numbers, and those behind it
one_behind : (s n k m : ℕ) (mail : Mail) (row : List Mail)
    → mail_under s n (in_stream k m (mail ∷ row)) ≡ cond ((s == k) && (n == m)) (Some mail) (mail_under s n (in_stream k (m + 1) row))
one_behind s n k m mail row = ap (λ (b : Bool). cond b (Some mail) (mail_under s n (in_stream k (m + 1) row))) (both_same s n k m)

other_stream : (s n k m : ℕ) (row : List Mail) → (s == k) ≡ false → mail_under s n (in_stream k m row) ≡ None
other_stream s n k m [] e = refl
other_stream s n k m (mail ∷ row) e =
    one_behind s n k m mail row
    ∙ (ap (λ (b : Bool). cond (b && (n == m)) (Some mail) (mail_under s n (in_stream k (m + 1) row))) e
    ∙ other_stream s n k (m + 1) row e)

own_stream : (s n m j : ℕ) (row : List Mail) → n ≡ m + j → mail_under s n (in_stream s m row) ≡ slice_get row j
own_stream s n m j [] e = refl
own_stream s n m zero (mail ∷ row) e =
    one_behind s n s m mail row
    ∙ (ap (λ (b : Bool). cond (b && (n == m)) (Some mail) (mail_under s n (in_stream s (m + 1) row))) (eq-eqb s s refl)
    ∙ ap (λ (b : Bool). cond b (Some mail) (mail_under s n (in_stream s (m + 1) row))) (eq-eqb n m (omega (arith, e))))
own_stream s n m (suc j) (mail ∷ row) e =
    one_behind s n s m mail row
    ∙ (ap (λ (b : Bool). cond (b && (n == m)) (Some mail) (mail_under s n (in_stream s (m + 1) row))) (eq-eqb s s refl)
    ∙ (ap (λ (b : Bool). cond b (Some mail) (mail_under s n (in_stream s (m + 1) row))) (ne_eqb n m (λ g. absurd (omega (arith, e, g))))
    ∙ own_stream s n (m + 1) j row (omega (arith, e))))

none_below : (s n k : ℕ) (rows : List (List Mail)) → s < k → mail_under s n (in_streams k rows) ≡ None
none_below s n k [] low = refl
none_below s n k (row ∷ rows) low =
    under_both s n (in_stream k 0 row) (in_streams (k + 1) rows)
    ∙ (ap (λ (o : Option Mail). option_or o (mail_under s n (in_streams (k + 1) rows)))
    (other_stream s n k 0 row (ne_eqb s k (λ g. absurd (omega (arith, low, g)))))
    ∙ none_below s n (k + 1) rows (omega (arith, low)))

first_is : (s k : ℕ) → s ≡ k + 0 → k ≡ s
first_is s k e = omega (arith, e)

from_none : (n : ℕ) → n ≡ 0 + n
from_none n = omega (arith)

in_row : (s n k i : ℕ) (rows : List (List Mail)) → s ≡ k + i → mail_under s n (in_streams k rows) ≡ slice_get (get_or rows i []) n
in_row s n k i [] e = refl
in_row s n k zero (row ∷ rows) e =
    under_both s n (in_stream k 0 row) (in_streams (k + 1) rows)
    ∙ (ap (λ (o : Option Mail). option_or (mail_under s n (in_stream k 0 row)) o) (none_below s n (k + 1) rows (omega (arith, e)))
    ∙ (or_none (mail_under s n (in_stream k 0 row))
    ∙ (ap (λ (x : ℕ). mail_under s n (in_stream x 0 row)) (first_is s k e) ∙ own_stream s n 0 n row (from_none n))))
in_row s n k (suc i) (row ∷ rows) e =
    under_both s n (in_stream k 0 row) (in_streams (k + 1) rows)
    ∙ (ap (λ (o : Option Mail). option_or o (mail_under s n (in_streams (k + 1) rows)))
    (other_stream s n k 0 row (ne_eqb s k (λ g. absurd (omega (arith, e, g)))))
    ∙ in_row s n (k + 1) i rows (omega (arith, e)))

pub in_post : (s n : ℕ) (late : KeptMail) (rows : List (List Mail))
    → mail_under s n (late ++ in_streams 0 rows) ≡ option_or (mail_under s n late) (slice_get (get_or rows s []) n)
in_post s n late rows =
    under_both s n late (in_streams 0 rows) ∙ ap (λ (o : Option Mail). option_or (mail_under s n late) o) (in_row s n 0 s rows (from_none s))

-- ---- what is asked, and what is put in

pub mail_told : (s n : ℕ) (late view : KeptMail) (rows : List (List Mail)) (first second answer : Option Mail)
    → late ++ in_streams 0 rows ≡ view → first ≡ mail_under s n late → second ≡ slice_get (get_or rows s []) n
    → answer ≡ option_or first second → answer ≡ mail_under s n view
mail_told s n late view rows first second answer is one two told =
    told ∙ (ap (λ (o : Option Mail). option_or o second) one
    ∙ (ap (λ (o : Option Mail). option_or (mail_under s n late) o) two
    ∙ (sym (in_post s n late rows) ∙ ap (mail_under s n) is)))

-- a message more at the end of the row of a stream
pub mail_pushed : (stream place s n : ℕ) (mail : Mail) (late view : KeptMail) (old new : List (List Mail))
    → late ++ in_streams 0 old ≡ view → IsNext old late stream place → HasPosted stream mail old new
    → mail_under s n (late ++ in_streams 0 new) ≡ (if (stream == s) && (place == n) then Some mail else mail_under s n view)
mail_pushed stream place s n mail late view old new is next pushed =
    in_post s n late new
    ∙ (ap (λ (xs : KeptMail). option_or (mail_under s n xs) (slice_get (get_or new s []) n)) next.0
    ∙ (go (stream == s) refl
    ∙ ap (λ (o : Option Mail). cond ((stream == s) && (place == n)) (Some mail) o) before))
  where
    before : slice_get (get_or old s []) n ≡ mail_under s n view
    before =
        ap (λ (xs : KeptMail). option_or (mail_under s n xs) (slice_get (get_or old s []) n)) (sym next.0)
        ∙ (sym (in_post s n late old) ∙ ap (mail_under s n) is)

    go : (b : Bool) → (stream == s) ≡ b
        → slice_get (get_or new s []) n ≡ cond (b && (place == n)) (Some mail) (slice_get (get_or old s []) n)
    go true e =
        let here : s ≡ stream = sym (eqb-true stream s e) in
        ap (λ (k : ℕ). slice_get (get_or new k []) n) here
        ∙ (ap (λ (row : List Mail). slice_get row n) pushed.here
        ∙ (slice_more (get_or old stream []) mail n
        ∙ (ap (λ (k : ℕ). cond (k == n) (Some mail) (slice_get (get_or old stream []) n)) next.1
        ∙ ap (λ (k : ℕ). cond (place == n) (Some mail) (slice_get (get_or old k []) n)) (sym here))))
    go false e = ap (λ (row : List Mail). slice_get row n) (pushed.beside s (λ g. eqb-false stream s e (sym g)))

pub mail_late : (stream place s n : ℕ) (mail : Mail) (view old new : KeptMail) (rows : List (List Mail))
    → old ++ in_streams 0 rows ≡ view
    → mail_under s n new ≡ cond (is_eq (ordering_then (nat_cmp stream s) (nat_cmp place n))) (Some mail) (mail_under s n old)
    → mail_under s n (new ++ in_streams 0 rows) ≡ (if (stream == s) && (place == n) then Some mail else mail_under s n view)
mail_late stream place s n mail view old new rows is set =
    under_both s n new (in_streams 0 rows)
    ∙ (ap (λ (o : Option Mail). option_or o (mail_under s n (in_streams 0 rows))) (set_under_both stream place s n mail old old new refl set)
    ∙ (go ((stream == s) && (place == n))
    ∙ ap (λ (o : Option Mail). cond ((stream == s) && (place == n)) (Some mail) o)
    (sym (under_both s n old (in_streams 0 rows)) ∙ ap (mail_under s n) is)))
  where
    go : (b : Bool) → option_or (cond b (Some mail) (mail_under s n old)) (mail_under s n (in_streams 0 rows))
        ≡ cond b (Some mail) (option_or (mail_under s n old) (mail_under s n (in_streams 0 rows)))
    go true = refl
    go false = refl

-- a list of no length
pub nothing_in : {X : Type 0} (xs : List X) → length xs ≡ 0 → xs ≡ []
nothing_in [] e = refl
nothing_in (x ∷ xs) e = absurd (omega (arith, e))

-- a message more in a row, once there is one
pub pushed_here : (stream : ℕ) (mail : Mail) (old mid new : List (List Mail)) → ((k : ℕ) → get_or mid k [] ≡ get_or old k [])
    → HasPosted stream mail mid new → HasPosted stream mail old new
pushed_here stream mail old mid new same pushed = record {
  here = pushed.here ∙ ap (λ (row : List Mail). row ++ mail ∷ []) (same stream);
  beside = λ k apart. pushed.beside k apart ∙ same k;
}
