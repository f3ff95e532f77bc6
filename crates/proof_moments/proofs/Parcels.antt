-- What was served in time was got: as the one whole block of its visit, or as the one piece of its number.
use Rattle.std.proofs.Common.{◌≡◌, ℕ, ◌+◌, ◌<◌, ◌≤◌, List, [], ◌∷◌, true, refl, sym, ap, subst, ◌∙◌, arith, ⊎_elim, inl, inr}
use Rattle.std.specs.Prelude.{◌==◌, ◌&&◌, ◌⊎◌, slice_get, Some, Option, unwrap_or}
use Rattle.std.specs.List.{flat_map}
use Rattle.std.proofs.lemmas.Bool.{eqb-true, eq-eqb}
use Rattle.tiger_base.specs.declared.tenancy.Tenancy.{Tenancy}
use Rattle.tiger_base.specs.declared.tenancy.Want.{Want}
use Rattle.tiger_base.specs.declared.message.Note.{Note}
use Rattle.tiger_base.specs.declared.message.Note.TheVariants as note
use Rattle.slot_plan.specs.declared.params.Params.{Params}
use Rattle.slot_plan.specs.Times.{time_of}
use Rattle.node_kit.specs.declared.journal.What.{What}
use Rattle.node_kit.specs.declared.journal.What.TheVariants as what
use Rattle.node_kit.specs.declared.journal.Entry.{Entry}
use Rattle.run_model.specs.declared.parcels.Parcel.{Parcel}
use Rattle.run_model.specs.Served.{journal_at, whole_in, piece_in, wholes_got, pieces_got, pieces_numbered, want_of_visit, WasSent}
use Rattle.run_model.proofs.Reflects.{and_left, and_right, and_both}
use Rattle.proof_schedule.specs.Facts.{Facts}
use Rattle.proof_pieces.specs.PieceFacts.{PieceFacts, leave}
use Rattle.proof_service.specs.ServiceFacts.{ServiceFacts}
use Rattle.proof_service.specs.Blocks.{LeftInTime}
use Rattle.proof_service.specs.Disks.{span_at}
use Rattle.proof_service.specs.Files.{IsStoredAt}
use Rattle.lists.specs.Elements.{In, IsBehind}
use Rattle.proof_moments.specs.Ties.{StandsIn}
use Rattle.proof_moments.proofs.Lists.{any_with}
use Rattle.lists.proofs.Elements.{chosen, in_right, from_filter}
use Rattle.proof_moments.specs.ParcelTies.{viewers, parcel}
use Rattle.proof_moments.specs.RecordedParcels.{Evidence, AreParcelsRecordedBut}
use Rattle.proof_moments.proofs.ParcelLists.{none_given, only_given, filter_given}
use Rattle.proof_moments.proofs.Notes.{IsPart, whole_parcel, piece_parcel, parcel_is}
use Rattle.proof_moments.proofs.Sends as sends

-- ---- entries that bring a whole block, or a piece, of an instance at a visit

pub record IsBrought (v n : ℕ) (x : Parcel) (m : Note) (w : What) : Type 0 where
  pub says : w ≡ what.Got x.link m
  pub instance : x.want.instance.0 ≡ v
  pub visit : x.want.visit ≡ n

pub whole_is : (v n : ℕ) (w : What) (x : Parcel) → In x (whole_in v n w)
    → IsBrought v n x (note.Whole x.want x.sent x.span) w
whole_is v n (what.Got link (note.Whole want sent part)) x i = chosen (λ (l : List Parcel). In x l
    → IsBrought v n x (note.Whole x.want x.sent x.span) (what.Got link (note.Whole want sent part)))
    (want.instance.0 == v && want.visit == n) (record { link = link; want = want; sent = sent; span = part } ∷ []) []
    (λ t k. ⊎_elim
    (λ e. record {
      says = ap (λ (y : Parcel). what.Got y.link (note.Whole y.want y.sent y.span)) (sym e);
      instance = ap (λ (y : Parcel). y.want.instance.0) e
          ∙ eqb-true _ _ (and_left (want.instance.0 == v) (want.visit == n) t);
      visit = ap (λ (y : Parcel). y.want.visit) e ∙ eqb-true _ _ (and_right (want.instance.0 == v) (want.visit == n) t);
    })
    (λ z. absurd z)
    k)
    (λ f k. absurd k)
    i
whole_is v n (what.Got link other) x i = absurd i
whole_is v n other x i = absurd i

pub piece_is : (v n : ℕ) (w : What) (x : Parcel) → In x (piece_in v n w)
    → IsBrought v n x (note.Piece x.want x.sent x.span) w
piece_is v n (what.Got link (note.Piece want sent part)) x i = chosen (λ (l : List Parcel). In x l
    → IsBrought v n x (note.Piece x.want x.sent x.span) (what.Got link (note.Piece want sent part)))
    (want.instance.0 == v && want.visit == n) (record { link = link; want = want; sent = sent; span = part } ∷ []) []
    (λ t k. ⊎_elim
    (λ e. record {
      says = ap (λ (y : Parcel). what.Got y.link (note.Piece y.want y.sent y.span)) (sym e);
      instance = ap (λ (y : Parcel). y.want.instance.0) e
          ∙ eqb-true _ _ (and_left (want.instance.0 == v) (want.visit == n) t);
      visit = ap (λ (y : Parcel). y.want.visit) e ∙ eqb-true _ _ (and_right (want.instance.0 == v) (want.visit == n) t);
    })
    (λ z. absurd z)
    k)
    (λ f k. absurd k)
    i
piece_is v n (what.Got link other) x i = absurd i
piece_is v n other x i = absurd i

whole_there : (t : Tenancy) (n : ℕ) (x : Parcel) (w : What) → x.want ≡ want_of_visit t n 0
    → w ≡ what.Got x.link (note.Whole x.want x.sent x.span)
    → whole_in t.instance.0 n w ≡ x ∷ []
whole_there t n x w wanted is =
    let instance : (x.want.instance.0 == t.instance.0) ≡ true = eq-eqb _ _ (ap (λ (z : Want). z.instance.0) wanted) in
    let visit : (x.want.visit == n) ≡ true = eq-eqb _ _ (ap (λ (z : Want). z.visit) wanted) in
    let both = and_both (x.want.instance.0 == t.instance.0) (x.want.visit == n) instance visit in
    ap (λ (v : What). whole_in t.instance.0 n v) is ∙ (rw both refl)

piece_there : (t : Tenancy) (n k : ℕ) (x : Parcel) (w : What) → x.want ≡ want_of_visit t n k
    → w ≡ what.Got x.link (note.Piece x.want x.sent x.span)
    → pieces_numbered k (piece_in t.instance.0 n w) ≡ x ∷ []
piece_there t n k x w wanted is =
    let instance : (x.want.instance.0 == t.instance.0) ≡ true = eq-eqb _ _ (ap (λ (z : Want). z.instance.0) wanted) in
    let visit : (x.want.visit == n) ≡ true = eq-eqb _ _ (ap (λ (z : Want). z.visit) wanted) in
    let both = and_both (x.want.instance.0 == t.instance.0) (x.want.visit == n) instance visit in
    let piece : (x.want.piece == k) ≡ true = eq-eqb _ _ (ap (λ (z : Want). z.piece) wanted) in
    let one : piece_in t.instance.0 n w ≡ x ∷ [] = ap (λ (v : What). piece_in t.instance.0 n v) is ∙ (rw both refl) in
    ap (λ (l : List Parcel). pieces_numbered k l) one ∙ (rw piece refl)

pub journal_is : (js : List (List Entry)) (n : ℕ) (j : List Entry) → slice_get js n ≡ Some j → journal_at js n ≡ j
unfolding journal_at
journal_is js n j at = ap (λ (o : Option (List Entry)). unwrap_or o []) at

module _ (p : Params) (a : Evidence) (r : Facts) (q : PieceFacts) (w : ServiceFacts) (end : ℕ)
    {Excused : Tenancy → ℕ → Type 0}
    (g : AreParcelsRecordedBut p a r q w end Excused) where
  -- what the viewers got whole is piece 0, and a piece has a number from 1 on
  pub got_whole : (e : Entry) (x : Parcel) → StandsIn a.journals (viewers p) e → e.what ≡ what.Got x.link
      (note.Whole x.want x.sent x.span) → x.want.piece ≡ 0
  got_whole e x s is =
      let c = g.ties.viewers.came e x.link (note.Whole x.want x.sent x.span) s is in
      (g.ties.tells.whole c.node c.entry x.link x.want x.sent x.span c.stands c.is).0

  pub got_piece : (e : Entry) (x : Parcel) → StandsIn a.journals (viewers p) e → e.what ≡ what.Got x.link
      (note.Piece x.want x.sent x.span) → 1 ≤ x.want.piece
  got_piece e x s is =
      let c = g.ties.viewers.came e x.link (note.Piece x.want x.sent x.span) s is in
      (g.ties.tells.piece c.node c.entry x.link x.want x.sent x.span c.stands c.is).0

  pub as_whole : (x : Parcel) → IsPart (note.Whole x.want x.sent x.span) x.want
  as_whole x = record { sent = x.sent; part = x.span; is = inl refl }

  pub as_piece : (x : Parcel) → IsPart (note.Piece x.want x.sent x.span) x.want
  as_piece x = record { sent = x.sent; part = x.span; is = inr refl }

  -- what was got of a visit of an instance was served
  pub record WasServedOf (v n j : ℕ) : Type 0 where
    pub node : ℕ
    pub tenancy : Tenancy
    pub beat : ℕ
    pub serves : q.Serves node tenancy n j beat
    pub instance : tenancy.instance.0 ≡ v

  pub served_of : (v n : ℕ) (e : Entry) (x : Parcel) (m : Note) → StandsIn a.journals (viewers p) e
      → IsBrought v n x m e.what → IsPart m x.want → WasServedOf v n x.want.piece
  served_of v n e x m s b k =
      let o = (sends.was_served p a r q w end g e x.link m x.want s b.says k) in
      record {
        node = o.node;
        tenancy = o.served.tenancy;
        beat = o.entry.stamp.beat;
        serves = subst (λ (i : ℕ). q.Serves o.node o.served.tenancy i x.want.piece o.entry.stamp.beat) b.visit
            o.served.serves;
        instance = ap (λ (z : Want). z.instance.0) (sym o.served.wanted) ∙ b.instance;
      }

  -- ---- what left in time came

  pub record HasArrived (c : ℕ) (t : Tenancy) (n j : ℕ) : Type 0 where
    pub brought : Parcel
    pub got : Entry
    pub stands : StandsIn a.journals (viewers p) got
    pub says : got.what ≡ what.Got brought.link (parcel brought.want brought.sent brought.span)
    pub wanted : brought.want ≡ want_of_visit t n j
    pub stored : IsStoredAt p a.catalogue t n
    pub right : brought.span ≡ span_at p stored.block.span j
    pub sent : WasSent p a.journals c brought.link (parcel brought.want brought.sent brought.span) brought.sent
        (leave p t n j)

  pub arrived : (c n j : ℕ) (t : Tenancy) → LeftInTime p q end c t n j → HasArrived c t n j
  arrived c n j t l =
      let x : Want = want_of_visit t n j in
      let k = g.ties.logs.served c n j l.beat t l.serves in
      let e : Entry = k.entry in
      let s = sends.parcel_served p a r q w end g c e x k.stands k.is in
      let o = g.blocks.once c c n j l.beat e.stamp.beat t s.tenancy l.serves s.serves
      (ap (λ (z : Want). z.instance.0) (sym s.wanted)) in
      let part = g.reads.parts c n j e.stamp.beat t k.is.part
      (subst (λ (u : Tenancy). w.Sends c u n j e.stamp.beat k.is.part) o.1 s.sends) in
      let beat = k.beat in
      let early = l.got in
      let got = g.ties.viewers.comes c e k.is.link (parcel x k.is.sent k.is.part) k.stands k.is.is s.way
      (omega arith) in
      let named = s.named in
      let sent : k.is.sent ≡ l.beat = omega arith in
      let low = l.low in
      let high = l.high in
      record {
        brought = record { link = k.is.link; want = x; sent = k.is.sent; span = k.is.part };
        got = got.entry;
        stands = got.stands;
        says = got.is;
        wanted = refl;
        stored = part.stored;
        right = part.right;
        sent = record {
          says = any_with (λ (f : Entry). (f.stamp.beat ≡ k.is.sent)
              × (f.what ≡ what.Sent k.is.link (parcel x k.is.sent k.is.part))) (journal_at a.journals c) e
              (subst (λ (es : List Entry). In e es) (sym (journal_is a.journals c k.stands.journal k.stands.at))
              k.stands.there)
              (sym named, k.is.is);
          low = subst (λ (b : ℕ). leave p t n j ≤ time_of p b + p.skew) (sym sent) low;
          high = subst (λ (b : ℕ). time_of p b < leave p t n j + p.beat) (sym sent) high;
        };
      }

  -- nothing else of the same piece came
  module _ (c n j : ℕ) (t : Tenancy) (h : HasArrived c t n j) where
    abbrev journal : List Entry
    journal = h.stands.journal

    is_part : IsPart (parcel h.brought.want h.brought.sent h.brought.span) h.brought.want
    is_part = parcel_is h.brought.want h.brought.sent h.brought.span

    nothing_else : (z : Entry) (x : Parcel) (m : Note) → IsBehind z h.got journal ⊎ IsBehind h.got z journal
        → IsBrought t.instance.0 n x m z.what → IsPart m x.want → x.want.piece ≡ j → ⊥
    nothing_else z x m side b k piece =
        let instance : x.want.instance.0 ≡ h.brought.want.instance.0 = b.instance ∙ ap (λ (y : Want). y.instance.0)
        (sym h.wanted) in
        let visit : x.want.visit ≡ h.brought.want.visit = b.visit ∙ ap (λ (y : Want). y.visit) (sym h.wanted) in
        let pieces : x.want.piece ≡ h.brought.want.piece = piece ∙ ap (λ (y : Want). y.piece) (sym h.wanted) in
        ⊎_elim
        (λ d. sends.got_once p a r q w end g d.front d.back z h.got x.link h.brought.link m
        (parcel h.brought.want h.brought.sent h.brought.span) x.want h.brought.want
        (h.stands.at ∙ ap (λ (l : List Entry). Some l) (sym d.is)) d.there b.says h.says k is_part
        (record { instance = sym instance; visit = sym visit; piece = sym pieces }))
        (λ d. sends.got_once p a r q w end g d.front d.back h.got z h.brought.link x.link
        (parcel h.brought.want h.brought.sent h.brought.span) m h.brought.want x.want
        (h.stands.at ∙ ap (λ (l : List Entry). Some l) (sym d.is)) d.there h.says b.says is_part k
        (record { instance = instance; visit = visit; piece = pieces }))
        side

    stands_by : (z : Entry) → IsBehind z h.got journal ⊎ IsBehind h.got z journal → StandsIn a.journals (viewers p) z
    stands_by z side = record {
      journal = journal;
      at = h.stands.at;
      there = ⊎_elim
          (λ d. subst (λ (l : List Entry). In z l) d.is (in_right z d.front (z ∷ d.back) (inl refl)))
          (λ d. subst (λ (l : List Entry). In z l) d.is (in_right z d.front (h.got ∷ d.back) (inr d.there)))
          side;
    }

  pub whole_once : (c n : ℕ) (t : Tenancy) (h : HasArrived c t n 0) → wholes_got p a.journals t.instance.0 n ≡
      h.brought ∷ []
  unfolding wholes_got
  whole_once c n t h =
      let v : ℕ = t.instance.0 in
      let says : h.got.what ≡ what.Got h.brought.link (note.Whole h.brought.want h.brought.sent h.brought.span) =
      h.says ∙ ap (λ (m : Note). what.Got h.brought.link m) (whole_parcel h.brought.want h.brought.sent
      h.brought.span (ap (λ (x : Want). x.piece) h.wanted)) in
      ap (λ (l : List Entry). flat_map (λ (e : Entry). whole_in v n e.what) l)
      (journal_is a.journals (viewers p) h.stands.journal h.stands.at)
      ∙ only_given (λ (e : Entry). whole_in v n e.what) h.stands.journal h.got h.brought h.stands.there
      (whole_there t n h.brought h.got.what h.wanted says)
      (λ z x side i.
      let b = whole_is v n z.what x i in
      nothing_else c n 0 t h z x (note.Whole x.want x.sent x.span) side b (as_whole x)
      (got_whole z x (stands_by c n 0 t h z side) b.says))

  pub piece_once : (c n k : ℕ) (t : Tenancy) (h : HasArrived c t n k) → 1 ≤ k
      → pieces_numbered k (pieces_got p a.journals t.instance.0 n) ≡ h.brought ∷ []
  unfolding pieces_got
  piece_once c n k t h some =
      let v : ℕ = t.instance.0 in
      let piece : h.brought.want.piece ≡ k = ap (λ (x : Want). x.piece) h.wanted in
      let says : h.got.what ≡ what.Got h.brought.link (note.Piece h.brought.want h.brought.sent h.brought.span) =
      h.says ∙ ap (λ (m : Note). what.Got h.brought.link m) (piece_parcel h.brought.want h.brought.sent
      h.brought.span (omega arith)) in
      ap (λ (l : List Entry). pieces_numbered k (flat_map (λ (e : Entry). piece_in v n e.what) l))
      (journal_is a.journals (viewers p) h.stands.journal h.stands.at)
      ∙ filter_given (λ (x : Parcel). x.want.piece == k) (λ (e : Entry). piece_in v n e.what) h.stands.journal
      ∙ only_given (λ (e : Entry). pieces_numbered k (piece_in v n e.what)) h.stands.journal h.got h.brought
      h.stands.there (piece_there t n k h.brought h.got.what h.wanted says)
      (λ z x side i.
      let f = from_filter (λ (y : Parcel). y.want.piece == k) x (piece_in v n z.what) i in
      let b = piece_is v n z.what x f.0 in
      nothing_else c n k t h z x (note.Piece x.want x.sent x.span) side b (as_piece x) (eqb-true _ _ f.1))

  -- ---- what did not come

  -- the viewers have a journal, if something arrived there
  stands_at : (j : List Entry) (e : Entry) → slice_get a.journals (viewers p) ≡ Some j → In e j
      → StandsIn a.journals (viewers p) e
  stands_at j e at i = record { journal = j; at = at; there = i }

  -- of a visit that was served whole no piece came
  pub no_pieces : (c n b : ℕ) (t : Tenancy) (j : List Entry) → slice_get a.journals (viewers p) ≡ Some j
      → q.Serves c t n 0 b → pieces_got p a.journals t.instance.0 n ≡ []
  unfolding pieces_got
  no_pieces c n b t j at whole =
      let v : ℕ = t.instance.0 in
      ap (λ (l : List Entry). flat_map (λ (e : Entry). piece_in v n e.what) l) (journal_is a.journals (viewers p) j at)
      ∙ none_given (λ (e : Entry). piece_in v n e.what) j
      (λ z x k i.
      let y = piece_is v n z.what x i in
      let s = stands_at j z at k in
      let o = served_of v n z x (note.Piece x.want x.sent x.span) s y (as_piece x) in
      let none = g.blocks.alone c o.node n x.want.piece b o.beat t o.tenancy whole o.serves o.instance in
      let some = got_piece z x s y.says in
      omega arith)

  -- and of one that was served in pieces no whole block
  pub no_whole : (c n k b : ℕ) (t : Tenancy) (j : List Entry) → slice_get a.journals (viewers p) ≡ Some j
      → q.Serves c t n k b → 1 ≤ k → wholes_got p a.journals t.instance.0 n ≡ []
  unfolding wholes_got
  no_whole c n k b t j at piece some =
      let v : ℕ = t.instance.0 in
      ap (λ (l : List Entry). flat_map (λ (e : Entry). whole_in v n e.what) l) (journal_is a.journals (viewers p) j at)
      ∙ none_given (λ (e : Entry). whole_in v n e.what) j
      (λ z x l i.
      let y = whole_is v n z.what x i in
      let s = stands_at j z at l in
      let o = served_of v n z x (note.Whole x.want x.sent x.span) s y (as_whole x) in
      let zero_is = got_whole z x s y.says in
      let whole : q.Serves o.node o.tenancy n 0 o.beat = subst (λ (i : ℕ). q.Serves o.node o.tenancy n i o.beat)
      zero_is o.serves in
      let none = g.blocks.alone o.node c n k o.beat b o.tenancy t whole piece (sym o.instance) in
      omega arith)
