-- What cubs send, as the set of it has it, is what the journals say.
use Rattle.std.proofs.Common.{◌≡◌, ℕ, Bool, true, false, ◌&&◌, ◌==◌, not, cond, List, refl, ap, sym, ◌∙◌}
use Rattle.std.specs.List.{list_any}
use Rattle.std.specs.Ordering.{is_eq, nat_cmp, bool_cmp, ordering_then}
use Rattle.std.specs.declared.cmp.Ordering.{Ordering}
use Rattle.std.specs.Cmp.{unsigned_tied, tied_then}
use Rattle.std.proofs.lemmas.Bool.{eqb-true, eq-eqb, both_ways}
use Rattle.tiger_base.specs.declared.message.Note.TheVariants as note
use Rattle.node_kit.specs.declared.journal.Entry.{Entry}
use Rattle.node_kit.specs.declared.journal.What.{What}
use Rattle.node_kit.specs.declared.journal.What.TheVariants as what
use Rattle.run_facts.specs.Order.{beat_of}
use Rattle.run_model.specs.Served.{journal_at}
use Rattle.tiger_base.specs.Records.{same_want}
use Rattle.run_model.specs.Tests.{same_parcel, same_span, says, says_in}
use Rattle.audit_blocks.specs.declared.receipts.Receipt.{Receipt}
use Rattle.audit_blocks.specs.Cargo.{cargo_sent, parcel_of}
use Rattle.audit_blocks.specs.Dispatches.{is_dispatch}
use Rattle.audit_blocks.specs.Entries.{journals_noted}
use Rattle.audit_blocks.specs.Told.{is_cargo, sends_cargo}
use Rattle.audit_blocks.proofs.Journals.{any_at, any_alike, apart}

one_number : (m k : ℕ) (rest : Ordering) (same : Bool) → is_eq rest ≡ same → is_eq (ordering_then (nat_cmp m k) rest) ≡ ((m == k) && same)
one_number m k rest same e =
    sym (tied_then (nat_cmp m k) rest)
    ∙ (ap (λ (b : Bool). b && is_eq rest) (unsigned_tied m k)
    ∙ ap (λ (b : Bool). (m == k) && b) e)

one_flag : (a b : Bool) (rest : Ordering) (same : Bool) → is_eq rest ≡ same
    → is_eq (ordering_then (bool_cmp a b) rest) ≡ (cond a b (not b) && same)
one_flag true true rest same e = e
one_flag true false rest same e = refl
one_flag false true rest same e = refl
one_flag false false rest same e = e

nested : (l i s v f b p t o m n : Bool)
    → (l && (i && (s && (v && (f && (b && (p && (t && (o && (m && n))))))))))
    ≡ (((l && (((((i && s) && v) && f) && b) && p)) && t) && ((o && m) && n))
nested false i s v f b p t o m n = refl
nested true false s v f b p t o m n = refl
nested true true false v f b p t o m n = refl
nested true true true false f b p t o m n = refl
nested true true true true false b p t o m n = refl
nested true true true true true false p t o m n = refl
nested true true true true true true false t o m n = refl
nested true true true true true true true false o m n = refl
nested true true true true true true true true false m n = refl
nested true true true true true true true true true false n = refl
nested true true true true true true true true true true n = refl

dispatched : (node c : ℕ) (kind w : Bool) (q r : Receipt)
    → is_dispatch node kind q c w r
    ≡ ((node == c) && (cond kind w (not w) && same_parcel (parcel_of r) q.link q.want q.sent q.part))
dispatched node c kind w q r =
    one_number node c _ _ (one_flag kind w _ _ (one_number q.link.0 r.link.0 _ _ (one_number q.want.instance.0 r.want.instance.0 _ _
    (one_number q.want.slot.0 r.want.slot.0 _ _ (one_number q.want.visit r.want.visit _ _ (one_number q.want.file.0 r.want.file.0 _ _
    (one_number q.want.block r.want.block _ _ (one_number q.want.piece r.want.piece _ _ (one_number q.sent r.sent _ _
    (one_number q.part.file.0 r.part.file.0 _ _ (one_number q.part.from r.part.from _ _ (unsigned_tied q.part.len r.part.len))))))))))))
    ∙ ap (λ (b : Bool). (node == c) && (cond kind w (not w) && b))
    (nested (q.link.0 == r.link.0) (q.want.instance.0 == r.want.instance.0) (q.want.slot.0 == r.want.slot.0) (q.want.visit == r.want.visit)
    (q.want.file.0 == r.want.file.0) (q.want.block == r.want.block) (q.want.piece == r.want.piece) (q.sent == r.sent)
    (q.part.file.0 == r.part.file.0) (q.part.from == r.part.from) (q.part.len == r.part.len))

-- a message in the beat that it names is one of the beat which the parcel names
in_its_beat : (sent beat named : ℕ) (node l s k : Bool)
    → ((sent == beat) && (node && (k && ((l && (sent == named)) && s))))
    ≡ (node && ((beat == named) && (k && ((l && (sent == named)) && s))))
in_its_beat sent beat named node l s k = go (sent == beat) (sent == named) refl refl where
  go : (a b : Bool) → (sent == beat) ≡ a → (sent == named) ≡ b
      → (a && (node && (k && ((l && b) && s)))) ≡ (node && ((beat == named) && (k && ((l && b) && s))))
  go true true e f = ap (λ (t : Bool). node && (t && (k && ((l && true) && s)))) (sym (same e f))
    where
      same : (sent == beat) ≡ true → (sent == named) ≡ true → (beat == named) ≡ true
      same x y = eq-eqb beat named (sym (eqb-true sent beat x) ∙ eqb-true sent named y)
  go true false e f = none node k l (beat == named)
    where
      none : (n kk ll t : Bool) → (n && (kk && ((ll && false) && s))) ≡ (n && (t && (kk && ((ll && false) && s))))
      none true true true true = refl
      none true true true false = refl
      none true true false true = refl
      none true true false false = refl
      none true false ll true = refl
      none true false ll false = refl
      none false kk ll t = refl
  go false true e f = no node ∙ ap (λ (t : Bool). node && (t && (k && ((l && true) && s)))) (sym (other e f))
    where
      other : (sent == beat) ≡ false → (sent == named) ≡ true → (beat == named) ≡ false
      other x y = apart beat named (λ (z : beat ≡ named). both_ways (sent == beat) x (eq-eqb sent beat (eqb-true sent named y ∙ sym z)))

      no : (n : Bool) → false ≡ (n && false)
      no true = refl
      no false = refl
  go false false e f = gone node k l (beat == named)
    where
      gone : (n kk ll t : Bool) → false ≡ (n && (t && (kk && ((ll && false) && s))))
      gone true true true true = refl
      gone true true true false = refl
      gone true true false true = refl
      gone true true false false = refl
      gone true false ll true = refl
      gone true false ll false = refl
      gone false kk ll t = refl

nothing_said : (a b : Bool) → false ≡ (a && (b && false))
nothing_said true true = refl
nothing_said true false = refl
nothing_said false b = refl

entry_said : (node beat c : ℕ) (w : Bool) (r : Receipt) (e : What)
    → is_cargo node beat c w r (cargo_sent e) ≡ ((node == c) && ((beat == r.sent) && says w (parcel_of r) e))
entry_said node beat c w r (what.Sent link (note.Whole want sent part)) =
    let q : Receipt = record { link = link; want = want; sent = sent; part = part } in
    ap (λ (b : Bool). (sent == beat) && b) (dispatched node c true w q r)
    ∙ in_its_beat sent beat r.sent (node == c) ((link.0 == r.link.0) && same_want want r.want) (same_span part r.part) w
entry_said node beat c w r (what.Sent link (note.Piece want sent part)) =
    let q : Receipt = record { link = link; want = want; sent = sent; part = part } in
    ap (λ (b : Bool). (sent == beat) && b) (dispatched node c false w q r)
    ∙ in_its_beat sent beat r.sent (node == c) ((link.0 == r.link.0) && same_want want r.want) (same_span part r.part) (not w)
entry_said node beat c w r (what.Sent link other) = nothing_said (node == c) (beat == r.sent)
entry_said node beat c w r other = nothing_said (node == c) (beat == r.sent)

pub said_lines : (c : ℕ) (w : Bool) (r : Receipt) (js : List (List Entry))
    → list_any (sends_cargo c w r) (journals_noted 0 js) ≡ says_in w (parcel_of r) (journal_at js c)
said_lines c w r js =
    any_alike (sends_cargo c w r) (λ x. (x.node == c) && ((beat_of x == r.sent) && says w (parcel_of r) x.entry.what))
    (λ x. entry_said x.node (beat_of x) c w r x.entry.what) (journals_noted 0 js)
    ∙ any_at c (λ x. (beat_of x == r.sent) && says w (parcel_of r) x.entry.what)
    (λ e. (e.stamp.beat == r.sent) && says w (parcel_of r) e.what) js (λ e. refl)
