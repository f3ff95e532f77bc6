-- The tests of what was delivered are true exactly of what was.
use Rattle.std.proofs.Common.{◌≡◌, ℕ, ◌+◌, ◌-◌, ◌≤◌, Bool, true, false, ◌&&◌, IsTrue, nat_lt, nat_le, List, [], ◌∷◌, Option, Some, None, refl, subst, ⊎_elim, inl, inr, arith}
use Rattle.std.specs.Prelude.{◌==◌, ◌↔◌, ◌⊎◌}
use Rattle.std.specs.List.{list_any}
use Rattle.std.proofs.lemmas.Bool.{false≢true}
use Rattle.tiger_base.specs.declared.tenancy.Tenancy.{Tenancy}
use Rattle.tiger_base.specs.declared.tenancy.Want.{Want}
use Rattle.tiger_base.specs.Records.{same_want}
use Rattle.tiger_base.specs.declared.part.Span.{Span}
use Rattle.tiger_base.specs.declared.number.LinkNo.{LinkNo}
use Rattle.tiger_base.specs.declared.message.Note.{Note}
use Rattle.tiger_base.specs.declared.message.Note.TheVariants as note
use Rattle.slot_plan.specs.declared.params.Params.{Params}
use Rattle.slot_plan.specs.Times.{due, cub_of, time_of}
use Rattle.stripe_layout.specs.Places.{place_of}
use Rattle.stripe_layout.specs.declared.catalogue.Catalogue.{Catalogue}
use Rattle.stripe_layout.specs.declared.place.Place.{Place}
use Rattle.mirror_pieces.specs.Pieces.{piece_of, leaving}
use Rattle.node_kit.specs.declared.journal.What.{What}
use Rattle.node_kit.specs.declared.journal.What.TheVariants as what
use Rattle.node_kit.specs.declared.journal.Entry.{Entry}
use Rattle.run_model.specs.declared.parcels.Parcel.{Parcel}
use Rattle.run_model.specs.Fronts.{AnyByRecursion}
use Rattle.run_model.specs.Served.{journal_at, IsPut, IsVisitOf, wholes_got, pieces_got, pieces_numbered, want_of_visit, WasSent, CameWhole, PieceCame, CameInPieces, IsDelivered}
use Rattle.run_model.specs.Tests.{all_below, only, is_empty, same_span, same_parcel, says, says_in, is_about, was_sent, whole_fits, came_whole, piece_fits, piece_came, pieces_fit, came_in_pieces, visited, some_tenancy, came}
use Rattle.run_model.proofs.Reflects.{and_both, and_left, and_right, or_either, both, either, equal, less, at_most, any_gives, any, each_found, each_gives}

-- lists of one element and of none
only_one : {X : Type 0} (xs : List X) (x : X) → only xs ≡ Some x → xs ≡ x ∷ []
only_one [] x h = cc
only_one (y ∷ []) x h = cc
only_one (y ∷ z ∷ zs) x h = cc

empty_is : {X : Type 0} (xs : List X) → IsTrue (is_empty xs) → xs ≡ []
empty_is [] h = refl
empty_is (x ∷ xs) h = absurd (false≢true h)

-- records whose numbers are equal are the same
want_is : (a b : Want) → IsTrue (same_want a b) → a ≡ b
want_is a b h =
    let e5 : a.piece ≡ b.piece = (equal a.piece b.piece).0 (and_right _ _ h) in
    let h4 = and_left _ _ h in
    let e4 : a.block ≡ b.block = (equal a.block b.block).0 (and_right _ _ h4) in
    let h3 = and_left _ _ h4 in
    let e3 : a.file.0 ≡ b.file.0 = (equal a.file.0 b.file.0).0 (and_right _ _ h3) in
    let h2 = and_left _ _ h3 in
    let e2 : a.visit ≡ b.visit = (equal a.visit b.visit).0 (and_right _ _ h2) in
    let h1 = and_left _ _ h2 in
    let e1 : a.slot.0 ≡ b.slot.0 = (equal a.slot.0 b.slot.0).0 (and_right _ _ h1) in
    let e0 : a.instance.0 ≡ b.instance.0 = (equal a.instance.0 b.instance.0).0 (and_left _ _ h1) in
    λ i. record { instance = record { 0 = e0 i }; slot = record { 0 = e1 i }; visit = e2 i; file = record { 0 = e3 i }; block = e4 i; piece = e5 i }

eq-self : (n : ℕ) → IsTrue (n == n)
eq-self n = (equal n n).1 refl

want_self : (a : Want) → IsTrue (same_want a a)
want_self a = rw (eq-self a.instance.0, eq-self a.slot.0, eq-self a.visit, eq-self a.file.0, eq-self a.block, eq-self a.piece) refl

pub want_same : (a b : Want) → IsTrue (same_want a b) ↔ (a ≡ b)
want_same a b = ((λ h. want_is a b h), (λ e. rw e (want_self b)))

span_is : (a b : Span) → IsTrue (same_span a b) → a ≡ b
span_is a b h =
    let e2 : a.len ≡ b.len = (equal a.len b.len).0 (and_right _ _ h) in
    let h1 = and_left _ _ h in
    let e1 : a.from ≡ b.from = (equal a.from b.from).0 (and_right _ _ h1) in
    let e0 : a.file.0 ≡ b.file.0 = (equal a.file.0 b.file.0).0 (and_left _ _ h1) in
    λ i. record { file = record { 0 = e0 i }; from = e1 i; len = e2 i }

span_self : (a : Span) → IsTrue (same_span a a)
span_self a = rw (eq-self a.file.0, eq-self a.from, eq-self a.len) refl

pub span_same : (a b : Span) → IsTrue (same_span a b) ↔ (a ≡ b)
span_same a b = ((λ h. span_is a b h), (λ e. rw e (span_self b)))

-- a parcel as an entry has it
record IsParcel (x : Parcel) (link : LinkNo) (want : Want) (sent : ℕ) (part : Span) : Type 0 where
  link_same : link ≡ x.link
  want_same : want ≡ x.want
  sent_same : sent ≡ x.sent
  part_same : part ≡ x.span

parcel_is : (x : Parcel) (link : LinkNo) (want : Want) (sent : ℕ) (part : Span) → IsTrue (same_parcel x link want sent part) → IsParcel x link want sent part
parcel_is x link want sent part h =
    let h2 = and_left _ _ h in
    let h1 = and_left _ _ h2 in
    let e : link.0 ≡ x.link.0 = (equal link.0 x.link.0).0 (and_left _ _ h1) in
    record {
      link_same = λ i. record { 0 = e i };
      want_same = want_is want x.want (and_right _ _ h1);
      sent_same = (equal sent x.sent).0 (and_right _ _ h2);
      part_same = span_is part x.span (and_right _ _ h);
    }

parcel_gives : (x : Parcel) (link : LinkNo) (want : Want) (sent : ℕ) (part : Span) → link ≡ x.link → want ≡ x.want → sent ≡ x.sent → part ≡ x.span → IsTrue (same_parcel x link want sent part)
parcel_gives x link want sent part e0 e1 e2 e3 = rw (e0, e1, e2, e3, eq-self x.link.0, want_self x.want, eq-self x.sent, span_self x.span) refl

-- an entry says that a parcel was sent, whole or as a piece
whole_said : (x : Parcel) (w : What) → IsTrue (says true x w) ↔ (w ≡ what.Sent x.link (note.Whole x.want x.sent x.span))
whole_said x (what.Sent link (note.Whole want sent part)) = (
  (λ h. let e = parcel_is x link want sent part h in λ i. what.Sent (e.link_same i) (note.Whole (e.want_same i) (e.sent_same i) (e.part_same i))),
  (λ e. parcel_gives x link want sent part (cc) (cc) (cc) (cc)),
)
whole_said x (what.Sent link (note.Piece want sent part)) = ((λ h. absurd (false≢true h)), (λ e. absurd (cc)))
whole_said x (what.Sent link other) = ((λ h. absurd (false≢true h)), (λ e. absurd (cc)))
whole_said x other = ((λ h. absurd (false≢true h)), (λ e. absurd (cc)))

piece_said : (x : Parcel) (w : What) → IsTrue (says false x w) ↔ (w ≡ what.Sent x.link (note.Piece x.want x.sent x.span))
piece_said x (what.Sent link (note.Piece want sent part)) = (
  (λ h. let e = parcel_is x link want sent part h in λ i. what.Sent (e.link_same i) (note.Piece (e.want_same i) (e.sent_same i) (e.part_same i))),
  (λ e. parcel_gives x link want sent part (cc) (cc) (cc) (cc)),
)
piece_said x (what.Sent link (note.Whole want sent part)) = ((λ h. absurd (false≢true h)), (λ e. absurd (cc)))
piece_said x (what.Sent link other) = ((λ h. absurd (false≢true h)), (λ e. absurd (cc)))
piece_said x other = ((λ h. absurd (false≢true h)), (λ e. absurd (cc)))

-- a parcel's message
abbrev pub message : Bool → Parcel → Note
message true x = note.Whole x.want x.sent x.span
message false x = note.Piece x.want x.sent x.span

said : (whole : Bool) (x : Parcel) (w : What) → IsTrue (says whole x w) ↔ (w ≡ what.Sent x.link (message whole x))
said true x w = whole_said x w
said false x w = piece_said x w

said_in : (whole : Bool) (x : Parcel) (journal : List Entry)
    → IsTrue (says_in whole x journal) ↔ AnyByRecursion (λ e. (e.stamp.beat ≡ x.sent) × (e.what ≡ what.Sent x.link (message whole x))) journal
said_in whole x journal =
    any (λ e. (e.stamp.beat ≡ x.sent) × (e.what ≡ what.Sent x.link (message whole x)))
    (λ e. (e.stamp.beat == x.sent) && says whole x e.what)
    (λ e. both (e.stamp.beat == x.sent) (says whole x e.what) (e.stamp.beat ≡ x.sent) (e.what ≡ what.Sent x.link (message whole x)) (equal e.stamp.beat x.sent) (said whole x e.what))
    journal

pub sent_as : (p : Params) (journals : List (List Entry)) (cub : ℕ) (whole : Bool) (x : Parcel) (time : ℕ)
    → IsTrue (was_sent p journals cub whole x time) ↔ WasSent p journals cub x.link (message whole x) x.sent time
unfolding was_sent
sent_as p journals cub whole x time =
    let about = is_about p x.sent time in
    let within = nat_le time (time_of p x.sent + p.skew) in
    let before = nat_lt (time_of p x.sent) (time + p.beat) in
    let so = says_in whole x (journal_at journals cub) in (
      (λ h. record {
        says = (said_in whole x (journal_at journals cub)).0 (and_right about so h);
        low = (at_most time (time_of p x.sent + p.skew)).0 (and_left within before (and_left about so h));
        high = (less (time_of p x.sent) (time + p.beat)).0 (and_right within before (and_left about so h));
      }),
      (λ g. and_both about so
          (and_both within before ((at_most time (time_of p x.sent + p.skew)).1 g.low) ((less (time_of p x.sent) (time + p.beat)).1 g.high))
          ((said_in whole x (journal_at journals cub)).1 g.says)),
    )

-- where both are there, whether the whole block fits is what is said of them
record Fits {A B : Type 0} (o : Option A) (q : Option B) (test : A → B → Bool) : Type 0 where
  first : A
  second : B
  some_first : o ≡ Some first
  some_second : q ≡ Some second
  holds : IsTrue (test first second)

whole_found : (p : Params) (journals : List (List Entry)) (t : Tenancy) (n : ℕ) (o : Option Place) (q : Option Parcel)
    → IsTrue (whole_fits p journals t n o q) → Fits o q (λ block x. whole_fits p journals t n (Some block) (Some x))
whole_found p journals t n (Some block) (Some x) h = record { first = block; second = x; some_first = refl; some_second = refl; holds = h }
whole_found p journals t n None q h = absurd (false≢true h)
whole_found p journals t n (Some block) None h = absurd (false≢true h)

pub whole_came : (p : Params) (c : Catalogue) (journals : List (List Entry)) (t : Tenancy) (n : ℕ)
    → IsTrue (came_whole p c journals t n) ↔ CameWhole p c journals t n
unfolding came_whole
whole_came p c journals t n =
    let v = t.instance.0 in
    let none = is_empty (pieces_got p journals v n) in (
      (λ h.
          let f = whole_found p journals t n (place_of c t.file (n - t.first)) (only (wholes_got p journals v n)) (and_right none _ h) in
          let wants = same_want f.second.want (want_of_visit t n 0) in
          let spans = same_span f.second.span f.first.span in
          let sends = was_sent p journals (cub_of p n) true f.second (due p t.slot.0 n) in
          record {
            block = f.first;
            parcel = f.second;
            place = f.some_first;
            once = only_one (wholes_got p journals v n) f.second f.some_second;
            alone = empty_is (pieces_got p journals v n) (and_left none _ h);
            want = (want_same f.second.want (want_of_visit t n 0)).0 (and_left wants spans (and_left (wants && spans) sends f.holds));
            span = (span_same f.second.span f.first.span).0 (and_right wants spans (and_left (wants && spans) sends f.holds));
            sent = (sent_as p journals (cub_of p n) true f.second (due p t.slot.0 n)).0 (and_right (wants && spans) sends f.holds);
          }),
      (λ g.
          let wants = same_want g.parcel.want (want_of_visit t n 0) in
          let spans = same_span g.parcel.span g.block.span in
          let sends = was_sent p journals (cub_of p n) true g.parcel (due p t.slot.0 n) in
          rw (g.alone, g.place, g.once)
          (and_both (wants && spans) sends
          (and_both wants spans ((want_same g.parcel.want (want_of_visit t n 0)).1 g.want) ((span_same g.parcel.span g.block.span).1 g.span))
          ((sent_as p journals (cub_of p n) true g.parcel (due p t.slot.0 n)).1 g.sent))),
    )

-- a piece came
piece_found : (p : Params) (journals : List (List Entry)) (t : Tenancy) (n : ℕ) (block : Span) (k : ℕ) (q : Option Parcel)
    → IsTrue (piece_fits p journals t n block k q) → (x : Parcel) × (q ≡ Some x) × IsTrue (piece_fits p journals t n block k (Some x))
piece_found p journals t n block k (Some x) h = (x, refl, h)
piece_found p journals t n block k None h = absurd (false≢true h)

pub piece_has_come : (p : Params) (journals : List (List Entry)) (t : Tenancy) (n : ℕ) (block : Span) (k : ℕ)
    → IsTrue (piece_came p journals t n block k) ↔ PieceCame p journals t n block k
unfolding piece_came
piece_has_come p journals t n block k =
    let got = pieces_numbered k (pieces_got p journals t.instance.0 n) in
    let time = leaving (due p t.slot.0 n) k p.play p.pieces in (
      (λ h.
          let f = piece_found p journals t n block k (only got) h in
          let x = f.0 in
          let wants = same_want x.want (want_of_visit t n k) in
          let spans = same_span x.span (piece_of block p.pieces k) in
          let sends = was_sent p journals (cub_of p (n + k)) false x time in
          record {
            parcel = x;
            once = only_one got x f.1;
            want = (want_same x.want (want_of_visit t n k)).0 (and_left wants spans (and_left (wants && spans) sends f.2));
            span = (span_same x.span (piece_of block p.pieces k)).0 (and_right wants spans (and_left (wants && spans) sends f.2));
            sent = (sent_as p journals (cub_of p (n + k)) false x time).0 (and_right (wants && spans) sends f.2);
          }),
      (λ g.
          let wants = same_want g.parcel.want (want_of_visit t n k) in
          let spans = same_span g.parcel.span (piece_of block p.pieces k) in
          let sends = was_sent p journals (cub_of p (n + k)) false g.parcel time in
          rw g.once
          (and_both (wants && spans) sends
          (and_both wants spans ((want_same g.parcel.want (want_of_visit t n k)).1 g.want) ((span_same g.parcel.span (piece_of block p.pieces k)).1 g.span))
          ((sent_as p journals (cub_of p (n + k)) false g.parcel time).1 g.sent))),
    )

-- all of them did
all_pieces : (p : Params) (journals : List (List Entry)) (t : Tenancy) (n : ℕ) (block : Span)
    → IsTrue (all_below (λ before. piece_came p journals t n block (before + 1)) p.pieces)
    ↔ ((k : ℕ) → 1 ≤ k → k ≤ p.pieces → PieceCame p journals t n block k)
all_pieces p journals t n block =
    let test : ℕ → Bool = λ before. piece_came p journals t n block (before + 1) in (
      (λ h. λ k low high.
          let e : k - 1 + 1 ≡ k = omega arith in
          let one : IsTrue (test (k - 1)) = each_found test p.pieces h (k - 1) (omega arith) in
          subst (λ (j : ℕ). PieceCame p journals t n block j) e ((piece_has_come p journals t n block (k - 1 + 1)).0 one)),
      (λ g. each_gives test p.pieces (λ k l. (piece_has_come p journals t n block (k + 1)).1 (g (k + 1) (omega arith) (omega arith)))),
    )

pieces_found : (p : Params) (journals : List (List Entry)) (t : Tenancy) (n : ℕ) (o : Option Place)
    → IsTrue (pieces_fit p journals t n o) → (block : Place) × (o ≡ Some block) × IsTrue (pieces_fit p journals t n (Some block))
pieces_found p journals t n (Some block) h = (block, refl, h)
pieces_found p journals t n None h = absurd (false≢true h)

pub pieces_came : (p : Params) (c : Catalogue) (journals : List (List Entry)) (t : Tenancy) (n : ℕ)
    → IsTrue (came_in_pieces p c journals t n) ↔ CameInPieces p c journals t n
unfolding came_in_pieces
pieces_came p c journals t n =
    let none = is_empty (wholes_got p journals t.instance.0 n) in (
      (λ h.
          let f = pieces_found p journals t n (place_of c t.file (n - t.first)) (and_right none _ h) in
          record {
            block = f.0;
            place = f.1;
            none = empty_is (wholes_got p journals t.instance.0 n) (and_left none _ h);
            pieces = (all_pieces p journals t n f.0.span).0 f.2;
          }),
      (λ g. rw (g.none, g.place) ((all_pieces p journals t n g.block.span).1 g.pieces)),
    )

pub has_come : (p : Params) (c : Catalogue) (journals : List (List Entry)) (t : Tenancy) (n : ℕ)
    → IsTrue (came p c journals n t) ↔ (CameWhole p c journals t n ⊎ CameInPieces p c journals t n)
unfolding came
has_come p c journals t n =
    either (came_whole p c journals t n) (came_in_pieces p c journals t n) (CameWhole p c journals t n) (CameInPieces p c journals t n)
    (whole_came p c journals t n) (pieces_came p c journals t n)

-- an entry that puts an instance at a visit
record Puts (v n : ℕ) (test : Tenancy → Bool) (w : What) : Type 0 where
  tenancy : Tenancy
  is : w ≡ what.Put tenancy
  instance : tenancy.instance.0 ≡ v
  first : tenancy.first ≤ n
  last : n ≤ tenancy.last
  holds : IsTrue (test tenancy)

put_found : (v n : ℕ) (test : Tenancy → Bool) (w : What) → IsTrue (visited v n test w) → Puts v n test w
put_found v n test (what.Put t) h =
    let a = t.instance.0 == v in
    let b = nat_le t.first n in
    let c = nat_le n t.last in
    let h2 = and_left (a && b && c) (test t) h in
    let h1 = and_left (a && b) c h2 in
    record {
      tenancy = t;
      is = refl;
      instance = (equal t.instance.0 v).0 (and_left a b h1);
      first = (at_most t.first n).0 (and_right a b h1);
      last = (at_most n t.last).0 (and_right (a && b) c h2);
      holds = and_right (a && b && c) (test t) h;
    }
put_found v n test other h = absurd (false≢true h)

-- some entry of a journal, and of all journals, does
record Placed (v n : ℕ) (test : Tenancy → Bool) (Stands : Tenancy → Type 0) : Type 0 where
  tenancy : Tenancy
  stands : Stands tenancy
  instance : tenancy.instance.0 ≡ v
  first : tenancy.first ≤ n
  last : n ≤ tenancy.last
  holds : IsTrue (test tenancy)

moved : (v n : ℕ) (test : Tenancy → Bool) (P Q : Tenancy → Type 0) → ((t : Tenancy) → P t → Q t) → Placed v n test P → Placed v n test Q
moved v n test P Q f h = record {
  tenancy = h.tenancy;
  stands = f h.tenancy h.stands;
  instance = h.instance;
  first = h.first;
  last = h.last;
  holds = h.holds;
}

in_journal : (v n : ℕ) (test : Tenancy → Bool) (journal : List Entry) → IsTrue (list_any (λ e. visited v n test e.what) journal)
    → Placed v n test (λ t. AnyByRecursion (λ e. e.what ≡ what.Put t) journal)
in_journal v n test [] h = absurd (false≢true h)
in_journal v n test (e ∷ es) h = ⊎_elim
    (λ g. let q = put_found v n test e.what g in record {
      tenancy = q.tenancy;
      stands = inl q.is;
      instance = q.instance;
      first = q.first;
      last = q.last;
      holds = q.holds;
    })
    (λ g. moved v n test (λ t. AnyByRecursion (λ d. d.what ≡ what.Put t) es) (λ t. AnyByRecursion (λ d. d.what ≡ what.Put t) (e ∷ es)) (λ t a. inr a) (in_journal v n test es g))
    (or_either (visited v n test e.what) (list_any (λ d. visited v n test d.what) es) h)

in_journals : (v n : ℕ) (test : Tenancy → Bool) (journals : List (List Entry)) → IsTrue (some_tenancy journals v n test)
    → Placed v n test (IsPut journals)
in_journals v n test [] h = absurd (false≢true h)
in_journals v n test (j ∷ js) h = ⊎_elim
    (λ g. moved v n test (λ t. AnyByRecursion (λ d. d.what ≡ what.Put t) j) (IsPut (j ∷ js)) (λ t a. inl a) (in_journal v n test j g))
    (λ g. moved v n test (IsPut js) (IsPut (j ∷ js)) (λ t a. inr a) (in_journals v n test js g))
    (or_either (list_any (λ d. visited v n test d.what) j) (some_tenancy js v n test) h)

visited_gives : (v n : ℕ) (test : Tenancy → Bool) (t : Tenancy) (w : What) → t.instance.0 ≡ v → t.first ≤ n → n ≤ t.last → IsTrue (test t)
    → w ≡ what.Put t → IsTrue (visited v n test w)
visited_gives v n test t w e first last h is =
    rw (is, (equal t.instance.0 v).1 e, (at_most t.first n).1 first, (at_most n t.last).1 last) h

-- a test holds of a tenancy that was put so that a visit is one of its own
pub tenancy_found : (journals : List (List Entry)) (v n : ℕ) (test : Tenancy → Bool) → IsTrue (some_tenancy journals v n test)
    → (t : Tenancy) × IsVisitOf journals v n t × IsTrue (test t)
tenancy_found journals v n test h =
    let q = in_journals v n test journals h in
    (q.tenancy, record { put = q.stands; instance = q.instance; first = q.first; last = q.last }, q.holds)

pub tenancy_gives : (journals : List (List Entry)) (v n : ℕ) (test : Tenancy → Bool) (t : Tenancy) → IsVisitOf journals v n t → IsTrue (test t)
    → IsTrue (some_tenancy journals v n test)
tenancy_gives journals v n test t at h =
    any_gives (λ journal. AnyByRecursion (λ e. e.what ≡ what.Put t) journal) (λ journal. list_any (λ e. visited v n test e.what) journal)
    (λ journal. any_gives (λ e. e.what ≡ what.Put t) (λ e. visited v n test e.what)
    (λ e is. visited_gives v n test t e.what at.instance at.first at.last h is) journal)
    journals at.put

-- the test of what is delivered is true exactly of what is
pub delivered : (p : Params) (c : Catalogue) (journals : List (List Entry)) (v n : ℕ)
    → IsTrue (some_tenancy journals v n (came p c journals n)) ↔ IsDelivered p c journals v n
delivered p c journals v n = (
  (λ h.
      let q = tenancy_found journals v n (came p c journals n) h in
      record { tenancy = q.0; visited = q.1; came = (has_come p c journals q.0 n).0 q.2 }),
  (λ g. tenancy_gives journals v n (came p c journals n) g.tenancy g.visited ((has_come p c journals g.tenancy n).1 g.came)),
)
