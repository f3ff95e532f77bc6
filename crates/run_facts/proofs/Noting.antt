-- What holds of messages on a link holds of their notes.
use Rattle.std.proofs.Common.{◌≡◌, ℕ, List, [], ◌∷◌, ◌++◌, map, filter, true, false, refl, ap, sym}
use Rattle.std.proofs.Common.{◌∙◌, subst, ⊎_elim, inl, inr}
use Rattle.std.proofs.lemmas.List.{map-append}
use Rattle.std.proofs.lemmas.Bool.{cases_Bool}
use Rattle.tiger_base.specs.declared.message.Note.{Note}
use Rattle.link_timing.specs.Clock.{Clock, arrival_at, after_send}
use Rattle.node_kit.specs.Life.{Lifetime, ends_in}
use Rattle.run_facts.specs.Events.{Dated, noted_as}
use Rattle.run_facts.specs.Paced.{Passage, passages, is_heard, brought, AreMissed, AreGot, ArePacedOn}
use Rattle.run_facts.proofs.Rows.{all-map}

abbrev pub noted_pass : {M : Type 0} → (M → Note) → Passage M → Passage Note
noted_pass note f = record { sent = f.sent; arrival = f.arrival; item = note f.item }

passages-noted : {M : Type 0} (note : M → Note) (clock : Clock) (sent : List (Dated M))
    → passages clock (map (noted_as note) sent) ≡ map (noted_pass note) (passages clock sent)
passages-noted note clock [] = refl
passages-noted note clock (s ∷ ss) =
    ap (λ fs. noted_pass note (record { sent = s.beat; arrival = arrival_at clock s.beat; item = s.item }) ∷ fs)
    (passages-noted note (after_send clock s.beat) ss)

brought-noted : {M : Type 0} (note : M → Note) (fs : List (Passage M))
    → map (noted_as note) (map brought fs) ≡ map brought (map (noted_pass note) fs)
brought-noted note [] = refl
brought-noted note (f ∷ fs) = ap (λ ds. noted_as note (brought f) ∷ ds) (brought-noted note fs)

heard-noted : {M : Type 0} (note : M → Note) (life : Lifetime) (beats : ℕ) (fs : List (Passage M))
    → map (noted_pass note) (filter (is_heard life beats) fs) ≡ filter (is_heard life beats) (map (noted_pass note) fs)
heard-noted note life beats [] = refl
heard-noted note life beats (f ∷ fs) = ⊎_elim
    (λ (e : is_heard life beats f ≡ true). rw e (ap (λ gs. noted_pass note f ∷ gs) (heard-noted note life beats fs)))
    (λ (e : is_heard life beats f ≡ false). rw e (heard-noted note life beats fs))
    (cases_Bool (is_heard life beats f))

missed-noted : {M : Type 0} (note : M → Note) (life : Lifetime) (heard : List (Passage M)) (got : List (Dated M))
    → AreMissed life heard got → AreMissed life (map (noted_pass note) heard) (map (noted_as note) got)
missed-noted {M} note life heard got m =
    let to : Passage M → Passage Note = noted_pass note in
    record {
      early = map to m.early;
      missed = map to m.missed;
      late = map to m.late;
      split = ap (map to) m.split ∙ map-append to m.early (m.missed ++ m.late)
          ∙ ap (λ fs. map to m.early ++ fs) (map-append to m.missed m.late);
      kept = ap (map (noted_as note)) m.kept ∙ brought-noted note (m.early ++ m.late)
          ∙ ap (map brought) (map-append to m.early m.late);
      cut_off = all-map (λ (f : Passage Note). ends_in life f.arrival ≡ true) to m.missed m.cut_off;
      beyond = all-map (λ (f : Passage Note). ends_in life f.arrival ≡ false) to m.late m.beyond;
    }

pub paced-noted : {M : Type 0} (note : M → Note) (clock : Clock) (life : Lifetime) (beats : ℕ) (Came : Type 0)
    (sent got : List (Dated M))
    → ArePacedOn clock life beats Came sent got
    → ArePacedOn clock life beats Came (map (noted_as note) sent) (map (noted_as note) got)
paced-noted {M} note clock life beats Came sent got h =
    let heard = filter (is_heard life beats) (passages clock sent) in
    let same = heard-noted note life beats (passages clock sent) ∙ ap (filter (is_heard life beats))
    (sym (passages-noted note clock sent)) in
    subst (λ fs. AreGot life Came fs (map (noted_as note) got)) same (⊎_elim
    (λ (all : got ≡ map brought heard). inl (ap (map (noted_as note)) all ∙ brought-noted note heard))
    (λ (some : Came × AreMissed life heard got). inr (some.0, missed-noted note life heard got some.1))
    h)
