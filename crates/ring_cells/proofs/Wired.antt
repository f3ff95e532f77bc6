-- The ports of a share in a beat: which they are, that there is a channel for each, and that the beat is open on them.
use Rattle.std.proofs.Common.{◌≡◌, ℕ, zero, suc, ◌+◌, ◌<◌, ◌≤◌, List, [], ◌∷◌, map, length, true, false, Some, refl, ap, sym, ◌∙◌, subst, arith}
use Rattle.std.specs.Prelude.{slice_get}
use Rattle.std.specs.List.{AllByRecursion}
use Rattle.tiger_base.specs.declared.number.LinkNo.{LinkNo}
use Rattle.tiger_base.specs.declared.number.NodeNo.{NodeNo}
use Rattle.tiger_base.specs.declared.number.Stamp.{Stamp}
use Rattle.tiger_base.specs.declared.message.Note.{Note}
use Rattle.slot_plan.specs.declared.params.Params.{Params}
use Rattle.node_kit.specs.declared.course.Course.{Course}
use Rattle.node_kit.specs.declared.journal.Entry.{Entry}
use Rattle.node_kit.specs.Courses.{Setting, stamp_by}
use Rattle.node_kit.specs.Life.{Lifetime}
use Rattle.node_kit.specs.Links.{Links, links_of, link_count}
use Rattle.node_kit.specs.Steps.{Input, Deed}
use Rattle.node_kit.proofs.Ring.{ends_counted}
use Rattle.run_facts.specs.Events.{NodeEvent}
use Rattle.run_facts.specs.Rings.{Traffic, Ring}
use Rattle.run_facts.proofs.Rows.{same-element}
use Rattle.ring_engine.specs.Turns.{scene, KeepsReady}
use Rattle.ring_links.specs.Ends.{LineId}
use Rattle.ring_cells.specs.Shares.{Entrance, Exit, holds, come_to, IsEntrance, IsExit, IsFitted, AreWired, AreOpenTo, AreApart, links_in, links_out}
use Rattle.ring_cells.proofs.Pouring.{get-map, get-unmap}
use Rattle.ring_cells.proofs.Rows.{held-at, come-here}
use Rattle.ring_cells.proofs.Working.{At}

-- what holds at each place holds of all
all-by-place : {A : Type 0} (P : A → Type 0) (xs : List A) → ((q : ℕ) (x : A) → slice_get xs q ≡ Some x → P x) → AllByRecursion P xs
all-by-place P [] h = tt
all-by-place P (x ∷ xs) h = (h 0 x refl, all-by-place P xs (λ q y e. h (suc q) y e))

-- the port of a link is the one with its number
pub exit-is : {M S : Type 0} (line_of : ℕ → LineId) (note : M → Note) (step : S → Input M → Deed M S) (c : Course) (first : ℕ → S) (numbers : List NodeNo) (at : ℕ → ℕ) (events : ℕ → List (NodeEvent M))
    (channels : List (Traffic M)) (ins : List (Entrance M)) (outs : List (List (Exit M))) (l from : ℕ) → IsFitted c.plan.params numbers ins outs
    → (w : IsExit line_of note step c first numbers at events channels outs l from) → (q r : ℕ) (m : NodeNo) (row : List (Exit M)) (o : Exit M)
    → slice_get numbers q ≡ Some m → m.0 ≡ from → slice_get outs q ≡ Some row → slice_get row r ≡ Some o → o.link.0 ≡ l → w.port ≡ o
exit-is {M} line_of note step c first numbers at events channels ins outs l from seated w q r m row o seat is_from its_row there number =
    let link : ◌≡◌ {A = LinkNo} o.link (record { 0 = l }) = ap (λ (x : ℕ). record { 0 = x }) number in
    let member_is : w.member ≡ q = seated.once w.member q m (w.is_from ∙ ap (λ (x : ℕ). Some (record { 0 = x })) (sym is_from)) seat in
    let row_is : w.row ≡ row = same-element outs q w.row row (ap (slice_get outs) (sym member_is) ∙ w.its_row) its_row in
    let at_place : slice_get row w.place ≡ Some w.port = ap (λ (x : List (Exit M)). slice_get x w.place) (sym row_is) ∙ w.there in
    let place_is : w.place ≡ r = seated.outs_apart q row its_row w.place r o.link
    (get-map (λ (x : Exit M). x.link) row w.place w.port at_place ∙ ap Some (w.number ∙ sym link)) (get-map (λ (x : Exit M). x.link) row r o there) in
    same-element row r w.port o (ap (slice_get row) (sym place_is) ∙ at_place) there

pub entrance-is : {M : Type 0} (line_of : ℕ → LineId) (c : Course) (at : ℕ → ℕ) (events : ℕ → List (NodeEvent M)) (channels : List (Traffic M)) (numbers : List NodeNo) (ins : List (Entrance M))
    (outs : List (List (Exit M))) (l to : ℕ) → IsFitted c.plan.params numbers ins outs → (w : IsEntrance line_of c at events channels ins l to) → (r : ℕ) (i : Entrance M)
    → slice_get ins r ≡ Some i → i.link.0 ≡ l → w.port ≡ i
entrance-is {M} line_of c at events channels numbers ins outs l to seated w r i there number =
    let link : ◌≡◌ {A = LinkNo} i.link (record { 0 = l }) = ap (λ (x : ℕ). record { 0 = x }) number in
    let place_is : w.place ≡ r = seated.ins_apart w.place r i.link
    (get-map (λ (x : Entrance M). x.link) ins w.place w.port w.there ∙ ap Some (w.number ∙ sym link)) (get-map (λ (x : Entrance M). x.link) ins r i there) in
    same-element ins r w.port i (ap (slice_get ins) (sym place_is) ∙ w.there) there

module _ {M S : Type 0} (note : M → Note) (step : S → Input M → Deed M S) (stands : S → Params → ℕ → Type 0) (courses : List Course) (opened : List S) (line_of : ℕ → LineId)
    (numbers : List NodeNo) (dials : List Setting) (links : Links) (b q : ℕ) (ring : Ring M S) (ins : List (Entrance M)) (outs : List (List (Exit M)))
    (h : At note step stands courses opened line_of numbers dials links b q ring ins outs) where
  -- there is a channel for each link of an in-port, and of an out-port
  pub ins-wired : AreWired (length ring.channels) (links_in ins)
  ins-wired = all-by-place (λ (l : LinkNo). l.0 < length ring.channels) (links_in ins) (λ r l e.
      let w = get-unmap (λ (i : Entrance M). i.link) ins r l e in
      let lead = h.seated.ins_lead r w.0 w.1 in
      let low = ends_counted (links_of h.course.plan.params) w.0.link.0 (lead.from, lead.to) lead.ends in
      let same = ap (λ (k : LinkNo). k.0) w.2 in
      let count = h.manned.channels in omega (arith, low, same, count))

  -- each port has the line of its link
  pub in-lined : (r : ℕ) (i : Entrance M) → slice_get ins r ≡ Some i → i.line ≡ line_of i.link.0
  in-lined r i e =
      let lead = h.seated.ins_lead r i e in
      let w = h.share.into i.link.0 lead.from lead.to lead.outside lead.inside lead.ends in
      let same : w.port ≡ i = entrance-is line_of h.course (come_to numbers b q) h.events ring.channels numbers ins outs i.link.0 lead.to h.seated w r i e refl in
      subst (λ (x : Entrance M). x.line ≡ line_of x.link.0) same w.flow.its_line

  pub out-lined : (k r : ℕ) (row : List (Exit M)) (o : Exit M) → slice_get outs k ≡ Some row → slice_get row r ≡ Some o → o.line ≡ line_of o.link.0
  out-lined k r row o its_row e =
      let lead = h.seated.outs_lead k r row o its_row e in
      let m = lead.0 in
      let w = h.share.out_of o.link.0 m.0 lead.2.to (held-at numbers k m lead.1) lead.2.outside lead.2.ends in
      let same : w.port ≡ o = exit-is line_of note step h.course h.first numbers (come_to numbers b q) h.events ring.channels ins outs o.link.0 m.0 h.seated w k r m row o lead.1 refl its_row e refl in
      subst (λ (x : Exit M). x.line ≡ line_of x.link.0) same w.flow.its_line

  module _ (row : List (Exit M)) (its_row : slice_get outs q ≡ Some row) where
    pub row-wired : (ts : List (Traffic M)) → length ts ≡ length ring.channels → AreWired (length ts) (links_out row)
    row-wired ts size = all-by-place (λ (l : LinkNo). l.0 < length ts) (links_out row) (λ r l e.
        let w = get-unmap (λ (o : Exit M). o.link) row r l e in
        let lead = h.seated.outs_lead q r row w.0 its_row w.1 in
        let low = ends_counted (links_of h.course.plan.params) w.0.link.0 (lead.0.0, lead.2.to) lead.2.ends in
        let same = ap (λ (k : LinkNo). k.0) w.2 in
        let count = h.manned.channels in omega (arith, low, same, count, size))

    pub row-apart : AreApart (links_out row)
    row-apart = h.seated.outs_apart q row its_row

    -- the member at the place has not had its turn, so the beat is open on its ports
    pub row-open : AreOpenTo b row
    row-open = all-by-place (λ (o : Exit M). o.closed ≤ b) row (λ r o e.
        let lead = h.seated.outs_lead q r row o its_row e in
        let m = lead.0 in
        let w = h.share.out_of o.link.0 m.0 lead.2.to (held-at numbers q m lead.1) lead.2.outside lead.2.ends in
        let same : w.port ≡ o = exit-is line_of note step h.course h.first numbers (come_to numbers b q) h.events ring.channels ins outs o.link.0 m.0 h.seated w q r m row o lead.1 refl its_row e refl in
        let closed : w.port.closed ≡ come_to numbers b q m.0 = w.flow.its_closed in
        let here = come-here numbers b q m h.seated.once lead.1 in
        let is = ap (λ (x : Exit M). x.closed) same in
        omega (arith, closed, here, is))

  -- a turn makes no channel
  pub live-size : (m : NodeNo) (d : Setting) (stamp : Stamp) (s s' : S) (life life' : Lifetime) (j j' : List Entry) (ts : List (Traffic M)) (es : List (NodeEvent M)) → slice_get numbers q ≡ Some m
      → stamp ≡ stamp_by d b → slice_get ring.nodes q ≡ Some s → KeepsReady note step stands stamp.beat es (scene s life j ring.channels) (scene s' life' j' ts) → length ts ≡ length ring.channels
  live-size m d stamp s s' life life' j j' ts es seat shown here keeps =
      let then_b : KeepsReady note step stands b es (scene s life j ring.channels) (scene s' life' j' ts) =
      subst (λ (x : Stamp). KeepsReady note step stands x.beat es (scene s life j ring.channels) (scene s' life' j' ts)) shown keeps in
      let is = (then_b h.course.plan.params m.0 (record { stands_here = h.manned.stand q m s seat here; count = h.manned.channels; are_open = h.manned.are_open })).0 in
      sym is.count ∙ h.manned.channels
