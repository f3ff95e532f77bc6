-- An instance of which nothing is under way is settled.
use Rattle.std.proofs.Common.{◌≡◌, ◌∙◌, ℕ, ◌<◌, ◌&&◌, ◌||◌, Bool, true, false, cond, List, [], ◌∷◌, Some, None, Option, refl, sym, ap, subst}
use Rattle.std.specs.Prelude.{find}
use Rattle.std.specs.List.{list_any}
use Rattle.tiger_base.specs.declared.number.Instance.{Instance}
use Rattle.net_schedule.specs.declared.ring.Entry.{Entry}
use Rattle.net_schedule.specs.declared.ring.NetRing.{NetRing}
use Rattle.net_schedule.specs.declared.ring.Own.{Own}
use Rattle.net_schedule.specs.declared.packet.Packet.{Packet}
use Rattle.net_schedule.specs.declared.packet.Packet.TheVariants as packet
use Rattle.net_schedule.specs.Rings.{reaches, next_of, before}
use Rattle.net_schedule.specs.Cubs.{is_of, is_for, is_placed, waits}
use Rattle.net_schedule.specs.Worlds.{WorldState, cub_at}
use Rattle.net_schedule.specs.Links.{IsLink, IsWorld}
use Rattle.net_schedule.specs.Settled.{is_about, under_way, clears, decides, is_placed_at, wanted, IsInTalk, SettlesEach, SettlesAll}
use Rattle.net_schedule.proofs.Finds.{clash, one_some, never}
use Rattle.net_schedule.proofs.Places.{next_before}
use Rattle.net_schedule.proofs.Sound.{few_before}

-- A test that no packet passes is passed by none that another test would let through first.
none_less : (f g : Packet → Bool) (xs : List Packet) → ((p : Packet) → g p ≡ false → f p ≡ false) → list_any g xs ≡ false → list_any f xs ≡ false
none_less f g [] less e = refl
none_less f g (x ∷ xs) less e = cases (g x) refl e (λ h. none_less f g xs less h)
  where
    cases : (b : Bool) → g x ≡ b → (b || list_any g xs) ≡ false → (list_any g xs ≡ false → list_any f xs ≡ false) → (f x || list_any f xs) ≡ false
    cases true eb h ih = absurd (clash refl h)
    cases false eb h ih = rw (less x eb) (ih h)

clears_about : (d c : ℕ) (v : Instance) (p : Packet) → is_about v p ≡ false → clears d c v p ≡ false
clears_about d c v (packet.Reserve u at rate to) e = refl
clears_about d c v (packet.Confirm u to) e = rw e refl
clears_about d c v (packet.Refuse u quantum sum to) e = refl
clears_about d c v (packet.Release u to) e = rw e refl

decides_about : (d c : ℕ) (v : Instance) (p : Packet) → is_about v p ≡ false → decides d c v p ≡ false
decides_about d c v (packet.Reserve u at rate to) e = rw e refl
decides_about d c v (packet.Confirm u to) e = rw e refl
decides_about d c v (packet.Refuse u quantum sum to) e = rw e refl
decides_about d c v (packet.Release u to) e = refl

-- Between a cub and its successor what is kept is exactly what is wanted.
kept_exactly : (r : NetRing) (d c : ℕ) (own : List Own) (kept : List Entry) (sent out : List Packet) (v : Instance) → IsLink r d c own kept sent → IsInTalk d c own kept out
    → list_any (clears d c v) out ≡ false → find (is_for v) kept ≡ wanted r (find (is_of v) own)
kept_exactly r d c own kept sent out v link talk none = cases (find (is_for v) kept) refl (find (is_of v) own) refl
  where
    empty : (o : Own) → find (is_of v) own ≡ Some o → find (is_for v) kept ≡ None → (a b : Bool) → is_placed o.state ≡ a → reaches r o.entry.at ≡ b
        → ◌≡◌ {A = Option Entry} None (cond (a && b) (Some o.entry) None)
    empty o eo ek true true ea eb = absurd (never o.entry (link.placed v o eo ea eb) ek)
    empty o eo ek true false ea eb = refl
    empty o eo ek false b ea eb = refl

    full : (x : Entry) (o : Own) → find (is_of v) own ≡ Some o → o.entry ≡ x → reaches r x.at ≡ true → (a : Bool) → is_placed o.state ≡ a → is_placed o.state ≡ true
        → (b : Bool) → reaches r o.entry.at ≡ b → Some x ≡ cond (a && b) (Some o.entry) None
    full x o eo same far true ea p true eb = ap (λ (y : Entry). Some y) (sym same)
    full x o eo same far true ea p false eb = absurd (clash (subst (λ (y : Entry). reaches r y.at ≡ true) (sym same) far) eb)
    full x o eo same far false ea p b eb = absurd (clash p ea)

    cases : (k : Option Entry) → find (is_for v) kept ≡ k → (f : Option Own) → find (is_of v) own ≡ f → k ≡ wanted r f
    cases None ek None ef = refl
    cases None ek (Some o) ef = empty o ef ek (is_placed o.state) (reaches r o.entry.at) refl refl
    cases (Some x) ek None ef = let w = link.asked v x ek in absurd (never w.o w.found ef)
    cases (Some x) ek (Some o) ef =
        let w = link.asked v x ek in
        let line : (is_placed_at (find (is_of v) own) || list_any (clears d c v) out) ≡ true = talk.lines v x ek in
        let placed : is_placed o.state ≡ true = holds line in
        full x o ef (ap (λ (z : Own). z.entry) (one_some o w.o ef w.found) ∙ w.same) w.far (is_placed o.state) refl placed (reaches r o.entry.at) refl
      where
        first : (a b : Bool) → b ≡ false → (a || b) ≡ true → a ≡ true
        first true b fails e = refl
        first false b fails e = absurd (clash e fails)

        holds : (is_placed_at (find (is_of v) own) || list_any (clears d c v) out) ≡ true → is_placed o.state ≡ true
        holds line = subst (λ (z : Option Own). is_placed_at z ≡ true) ef (first (is_placed_at (find (is_of v) own)) (list_any (clears d c v) out) none line)

-- Each instance of which nothing is under way is settled.
pub settles_each : (w : WorldState) → IsWorld w → SettlesEach w
settles_each w h v quiet c low = (kept, idle)
  where
    kept : find (is_for v) (cub_at w c).kept ≡ wanted w.ring (find (is_of v) (cub_at w (before w.ring c)).own)
    kept =
        let less : before w.ring c < w.ring.cubs = few_before w.ring c h.ring low in
        let next : next_of w.ring (before w.ring c) ≡ c = next_before w.ring c h.ring low in
        subst (λ (n : ℕ). find (is_for v) (cub_at w n).kept ≡ wanted w.ring (find (is_of v) (cub_at w (before w.ring c)).own)) next
        (kept_exactly w.ring (before w.ring c) (next_of w.ring (before w.ring c)) (cub_at w (before w.ring c)).own (cub_at w (next_of w.ring (before w.ring c))).kept w.sent (under_way w) v
        (h.links (before w.ring c) less) (h.talks (before w.ring c) less)
        (none_less (clears (before w.ring c) (next_of w.ring (before w.ring c)) v) (is_about v) (under_way w) (clears_about (before w.ring c) (next_of w.ring (before w.ring c)) v) quiet))

    idle : waits (find (is_of v) (cub_at w c).own) ≡ false
    idle = cases (waits (find (is_of v) (cub_at w c).own)) refl
      where
        cases : (b : Bool) → waits (find (is_of v) (cub_at w c).own) ≡ b → b ≡ false
        cases true e = absurd (clash ((h.talks c low).asks v e) (none_less (decides c (next_of w.ring c) v) (is_about v) (under_way w) (decides_about c (next_of w.ring c) v) quiet))
        cases false e = refl

-- If nothing is under way, each is.
pub settles_all : (w : WorldState) → IsWorld w → SettlesAll w
settles_all w h none v = settles_each w h v (rw none refl)
