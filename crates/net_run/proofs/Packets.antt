-- The packets that are under way, and what an event adds to them.
use Rattle.std.proofs.Common.{◌≡◌, ◌∙◌, ℕ, zero, suc, ◌+◌, ◌-◌, ◌<◌, ◌≤◌, List, [], ◌∷◌, ◌++◌, length, map, Some, Option, refl, sym, ap, arith, append_assoc}
use Rattle.std.specs.Prelude.{slice_get}
use Rattle.std.specs.List.{range_with_len}
use Rattle.std.proofs.lemmas.List.{map-append, length-append, length_push}
use Rattle.net_schedule.specs.declared.packet.Packet.{Packet}
use Rattle.net_schedule.specs.declared.world.NetEvent.{NetEvent}
use Rattle.net_schedule.specs.Worlds.{cub_at, actor_of, turn_of, telling}
use Rattle.net_run.specs.Runs.{Running, done}
use Rattle.net_run.specs.Sent.{AreBelow, WereSent}
use Rattle.net_run.proofs.Ranges.{below_up}

-- the packets that are under way, the oldest first
abbrev pub packets_of : Running → List (Option Packet)
packets_of r = map (slice_get r.scene.world.sent) r.out

abbrev pub each_sent : List Packet → List (Option Packet)
each_sent more = map (λ (p : Packet). Some p) more

-- what an event sends
abbrev pub sent_by : Running → NetEvent → List Packet
sent_by r e = telling (cub_at r.scene.world (actor_of r.scene.world e)) (turn_of r.scene.world e)

-- the packet of an earlier number stays
at_front : (sent more : List Packet) (n : ℕ) → n < length sent → slice_get (sent ++ more) n ≡ slice_get sent n
at_front [] more n low = absurd (omega (arith, low))
at_front (p ∷ ps) more zero low = refl
at_front (p ∷ ps) more (suc n) low = at_front ps more n (omega (arith, low))

named_front : (sent more : List Packet) (out : List ℕ) → AreBelow (length sent) out → map (slice_get (sent ++ more)) out ≡ map (slice_get sent) out
named_front sent more [] h = refl
named_front sent more (n ∷ ns) h = rw (at_front sent more n h.0, named_front sent more ns h.1) refl

-- the numbers behind all earlier ones name what was sent then
at_end : (sent : List Packet) (p : Packet) (more : List Packet) → slice_get (sent ++ p ∷ more) (length sent) ≡ Some p
at_end [] p more = refl
at_end (q ∷ qs) p more = at_end qs p more

named_end : (sent more : List Packet) → map (slice_get (sent ++ more)) (range_with_len (length sent) (length more)) ≡ each_sent more
named_end sent [] = refl
named_end sent (p ∷ ps) =
    let moved : sent ++ p ∷ ps ≡ (sent ++ p ∷ []) ++ ps = sym (append_assoc sent (p ∷ []) ps) in
    let count : length sent + 1 ≡ length (sent ++ p ∷ []) = sym (length_push sent p) in
    let rest : map (slice_get (sent ++ p ∷ ps)) (range_with_len (length sent + 1) (length ps)) ≡ each_sent ps
    = ap (λ (all : List Packet). map (slice_get all) (range_with_len (length sent + 1) (length ps))) moved
    ∙ ap (λ (n : ℕ). map (slice_get ((sent ++ p ∷ []) ++ ps)) (range_with_len n (length ps))) count ∙ named_end (sent ++ p ∷ []) ps in
    ap (λ (o : Option Packet). o ∷ map (slice_get (sent ++ p ∷ ps)) (range_with_len (length sent + 1) (length ps))) (at_end sent p ps)
    ∙ ap (λ (os : List (Option Packet)). Some p ∷ os) rest

-- What an event sends goes behind what is under way.
pub out_done : (r : Running) (e : NetEvent) → WereSent r.scene.world r.out → packets_of (done r e) ≡ packets_of r ++ each_sent (sent_by r e)
out_done r e h = parts r.scene.world.sent (sent_by r e) r.out h
  where
    parts : (sent more : List Packet) (out : List ℕ) → AreBelow (length sent) out
        → map (slice_get (sent ++ more)) (out ++ range_with_len (length sent) (length (sent ++ more) - length sent)) ≡ map (slice_get sent) out ++ each_sent more
    parts sent more out low =
        let count : length (sent ++ more) - length sent ≡ length more = omega (arith, length-append sent more) in
        map-append (slice_get (sent ++ more)) out (range_with_len (length sent) (length (sent ++ more) - length sent))
        ∙ ap (λ (os : List (Option Packet)). os ++ map (slice_get (sent ++ more)) (range_with_len (length sent) (length (sent ++ more) - length sent))) (named_front sent more out low)
        ∙ ap (λ (n : ℕ). map (slice_get sent) out ++ map (slice_get (sent ++ more)) (range_with_len (length sent) n)) count
        ∙ ap (λ (os : List (Option Packet)). map (slice_get sent) out ++ os) (named_end sent more)

below_range : (a n m : ℕ) → a + n ≤ m → AreBelow m (range_with_len a n)
below_range a zero m le = tt
below_range a (suc n) m le = (omega (arith, le), below_range (a + 1) n m (omega (arith, le)))

pub below_append : (m : ℕ) (xs ys : List ℕ) → AreBelow m xs → AreBelow m ys → AreBelow m (xs ++ ys)
below_append m [] ys h g = g
below_append m (x ∷ xs) ys h g = (h.0, below_append m xs ys h.1 g)

pub sent_done : (r : Running) (e : NetEvent) → WereSent r.scene.world r.out → WereSent (done r e).scene.world (done r e).out
sent_done r e h = parts r.scene.world.sent (sent_by r e) r.out h
  where
    parts : (sent more : List Packet) (out : List ℕ) → AreBelow (length sent) out
        → AreBelow (length (sent ++ more)) (out ++ range_with_len (length sent) (length (sent ++ more) - length sent))
    parts sent more out low =
        let count = length-append sent more in
        below_append (length (sent ++ more)) out (range_with_len (length sent) (length (sent ++ more) - length sent))
        (below_up (length sent) (length (sent ++ more)) out (omega (arith, count)) low)
        (below_range (length sent) (length (sent ++ more) - length sent) (length (sent ++ more)) (omega (arith, count)))
