-- What is left to compare along a link, one entry on.
use Rattle.std.proofs.Common.{◌≡◌, ℕ, ◌+◌, ◌<◌, Bool, true, false, not, IsTrue, List, [], ◌∷◌, ◌++◌, length, drop, filter, get_or, Option, Some, None, is_some, MatchOption, refl, sym, ap, subst, ◌∙◌}
use Rattle.std.specs.Prelude.{◌↔◌}
use Rattle.std.proofs.lemmas.Bool.{false≢true}
use Rattle.std.proofs.lemmas.List.{at_drop_more}
use Rattle.std.proofs.lemmas.List.Elements.{filter-append}
use Rattle.tiger_base.specs.declared.message.Note.{Note}
use Rattle.node_kit.specs.declared.journal.Entry.{Entry}
use Rattle.run_facts.specs.Events.{Dated}
use Rattle.run_facts.specs.Carried.{sent_on, got_on, AreFrontOn, AreCarriedBy}
use Rattle.run_model.specs.declared.carrying.Half.TheVariants.{All}
use Rattle.run_model.specs.declared.carrying.Way.{Way}
use Rattle.run_model.specs.declared.carrying.Arrival.{Arrival}
use Rattle.run_model.specs.Ways.{life_by, is_of, halved, sent_in, got_in, CarriesOn, HalfCarries, BothCarry, WayCarries, got_from, IsNext}

-- of what was sent or got, and then more, that of the beats that are compared
halved_more : (way : Way) (whole here then : List (Dated Note)) → whole ≡ here ++ then
    → halved way whole ≡ halved way here ++ halved way then
halved_more way whole here then e =
    ap (halved way) e ∙ filter-append (λ (d : Dated Note). is_of way.half d.beat) here then

-- what was got from an entry on is what it says, and what was got behind it
pub got_step : (way : Way) (i : ℕ) (xs : List Entry) (d : Entry) → i < length xs
    → got_from way i xs ≡ got_in way (get_or xs i d) ++ got_from way (i + 1) xs
unfolding got_on
got_step way i xs d h = halved_more way _ _ _ (at_drop_more (got_on way.link.0) xs i d h)

pub sent_step : (way : Way) (i : ℕ) (xs : List Entry) (d : Entry) → i < length xs
    → halved way (sent_on way.link.0 (drop i xs))
    ≡ sent_in way (get_or xs i d) ++ halved way (sent_on way.link.0 (drop (i + 1) xs))
unfolding sent_on
sent_step way i xs d h = halved_more way _ _ _ (at_drop_more (sent_on way.link.0) xs i d h)

pub got_none : (way : Way) → halved way (got_on way.link.0 []) ≡ []
unfolding got_on
got_none way = refl

pub sent_none : (way : Way) → halved way (sent_on way.link.0 []) ≡ []
unfolding sent_on
sent_none way = refl

-- all are of the beats that are compared, if all beats are
all_kept : (ds : List (Dated Note)) → ds ≡ filter (λ d. true) ds
all_kept [] = refl
all_kept (d ∷ ds) = ap (λ rest. d ∷ rest) (all_kept ds)

-- a way whose receiver does not return carries as that of all beats does
by-back : (way : Way) (back : Option ℕ) (sent got : List (Dated Note)) → back ≡ None
    → AreFrontOn way.most way.beats (life_by way) (filter (λ d. true) sent) (filter (λ d. true) got)
    ↔ AreCarriedBy way.most way.beats (life_by way) back sent got
by-back way None sent got e = (
  (λ h.
      subst (λ (xs : List (Dated Note)). AreFrontOn way.most way.beats (life_by way) xs got) (sym (all_kept sent))
      (subst (λ (xs : List (Dated Note)). AreFrontOn way.most way.beats (life_by way) (filter (λ d. true) sent) xs)
      (sym (all_kept got)) h)),
  (λ g.
      subst (λ (xs : List (Dated Note)). AreFrontOn way.most way.beats (life_by way) (filter (λ d. true) sent) xs)
      (all_kept got)
      (subst (λ (xs : List (Dated Note)). AreFrontOn way.most way.beats (life_by way) xs got) (all_kept sent) g)),
)
by-back way (Some back) sent got e = absurd (cc)

pub none_back : (way : Way) (sender receiver : List Entry) → way.back ≡ None
    → HalfCarries (record way { half = All }) sender receiver ↔ WayCarries way sender receiver
none_back way sender receiver e = by-back way way.back (sent_on way.link.0 sender) (got_on way.link.0 receiver) e

-- and one whose receiver returns as both halves do
by-return : (way : Way) (o : Option ℕ) (back : ℕ) (sender receiver : List Entry) → o ≡ Some back
    → BothCarry way back sender receiver
    ↔ AreCarriedBy way.most way.beats (life_by way) o (sent_on way.link.0 sender) (got_on way.link.0 receiver)
by-return way None back sender receiver e = absurd (cc)
by-return way (Some x) back sender receiver e =
    let same : x ≡ back = cc in
    subst (λ (y : ℕ). BothCarry way back sender receiver
    ↔ AreCarriedBy way.most way.beats (life_by way) (Some y) (sent_on way.link.0 sender) (got_on way.link.0 receiver)) (sym same)
    ((λ h. h), (λ g. g))

pub some_back : (way : Way) (back : ℕ) (sender receiver : List Entry) → way.back ≡ Some back
    → BothCarry way back sender receiver ↔ WayCarries way sender receiver
some_back way back sender receiver e = by-return way way.back back sender receiver e

-- nothing more was sent, so nothing more may be got
pub on_end : (way : Way) (gs : List (Dated Note)) → gs ≡ [] → CarriesOn way [] gs
on_end way [] e = tt
on_end way (g ∷ gs) e = absurd (cc)

pub end_is : (way : Way) (gs : List (Dated Note)) → CarriesOn way [] gs → gs ≡ []
end_is way [] h = refl
end_is way (g ∷ gs) h = absurd h

-- whether nothing is left
pub none_left : (way : Way) (next : ℕ) (receiver : List Entry) (o : Option Arrival) (r : Bool)
    → MatchOption o (got_from way next receiver ≡ []) (IsNext way next receiver) → is_some o ≡ not r
    → IsTrue r ↔ CarriesOn way [] (got_from way next receiver)
none_left way next receiver None true h e = ((λ g. on_end way (got_from way next receiver) h), (λ g. refl))
none_left way next receiver None false h e = absurd (false≢true e)
none_left way next receiver (Some a) true h e = absurd (false≢true (sym e))
none_left way next receiver (Some a) false h e = (
  (λ g. absurd (false≢true g)),
  (λ g.
      let no = end_is way (got_from way next receiver) g in
      let one = h.first in
      absurd (cc (sym no ∙ one))),
)

-- from what an entry says to what is left behind it
pub step_on : (way : Way) (whole : Type 0) (now then : List (Dated Note)) (here before after : List (Dated Note)) → now ≡ here ++ then
    → (whole ↔ CarriesOn way now before) → (CarriesOn way (here ++ then) before ↔ CarriesOn way then after)
    → (whole ↔ CarriesOn way then after)
step_on way whole now then here before after e w s = (
  (λ g. s.0 (subst (λ xs. CarriesOn way xs before) e (w.0 g))),
  (λ g. w.1 (subst (λ xs. CarriesOn way xs before) (sym e) (s.1 g))),
)

pub step_stops : (way : Way) (whole : Type 0) (now then : List (Dated Note)) (here before : List (Dated Note)) → now ≡ here ++ then
    → (whole ↔ CarriesOn way now before) → ¬ CarriesOn way (here ++ then) before → IsTrue false ↔ whole
step_stops way whole now then here before e w s = (
  (λ g. absurd (false≢true g)),
  (λ g. absurd (s (subst (λ xs. CarriesOn way xs before) e (w.0 g)))),
)

pub joined : (P Q R : Type 0) → (P ↔ Q) → (R ↔ Q) → R ↔ P
joined P Q R p r = ((λ g. p.1 (r.0 g)), (λ g. r.1 (p.0 g)))
