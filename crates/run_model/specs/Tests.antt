-- The tests that the programs compute, each for a definition.
use Rattle.std.specs.Prelude.{ℕ, zero, suc, ◌+◌, ◌-◌, ◌%◌, Bool, true, false, not, ◌&&◌, ◌||◌, ◌==◌, nat_lt, nat_le, List, [], ◌∷◌, Option, Some, None, is_some, if◌then◌else◌}
use Rattle.std.specs.List.{list_any, list_all, flat_map}
use Rattle.tiger_base.specs.declared.number.Stamp.{Stamp}
use Rattle.tiger_base.specs.declared.number.LinkNo.{LinkNo}
use Rattle.tiger_base.specs.declared.tenancy.Tenancy.{Tenancy}
use Rattle.tiger_base.specs.declared.tenancy.Want.{Want}
use Rattle.tiger_base.specs.Records.{same_want}
use Rattle.tiger_base.specs.declared.part.Span.{Span}
use Rattle.tiger_base.specs.declared.message.Note.TheVariants as note
use Rattle.slot_plan.specs.declared.params.Params.{Params}
use Rattle.slot_plan.specs.Times.{due, cub_of, time_of, takeover}
use Rattle.stripe_layout.specs.Places.{place_of}
use Rattle.stripe_layout.specs.declared.catalogue.Catalogue.{Catalogue}
use Rattle.stripe_layout.specs.declared.place.Place.{Place}
use Rattle.mirror_pieces.specs.Pieces.{piece_of, leaving}
use Rattle.node_kit.specs.declared.journal.What.{What}
use Rattle.node_kit.specs.declared.journal.What.TheVariants as what
use Rattle.node_kit.specs.declared.journal.Entry.{Entry}
use Rattle.run_facts.specs.Commanded.{is_gone_of}
use Rattle.run_facts.specs.Timed.{is_died, is_returned, death_within}
use Rattle.node_kit.specs.declared.course.Course.{Course}
use Rattle.node_kit.specs.declared.course.Kept.{Kept}
use Rattle.node_kit.specs.Life.{Lifetime, death_of, back_of, lifetime_of}
use Rattle.node_kit.specs.Links.{Links, ends_of, leads_to, leads_from}
use Rattle.run_model.specs.declared.parcels.Parcel.{Parcel}
use Rattle.run_model.specs.declared.timing.End.{End}
use Rattle.run_model.specs.declared.parcels.Form.{Form}
use Rattle.run_model.specs.declared.parcels.Form.TheVariants.{Whole, Piece, AnyPiece}
use Rattle.run_model.specs.Excuses.{serves_after, lets_in_after}
use Rattle.run_model.specs.Served.{journal_at, whole_in, piece_in, wholes_got, pieces_got, pieces_numbered, want_of_visit}

-- whether a test holds of each number below a bound, and of one of them
abbrev pub all_below : (ℕ → Bool) → ℕ → Bool
all_below test zero = true
all_below test (suc n) = all_below test n && test n

abbrev pub some_below : (ℕ → Bool) → ℕ → Bool
some_below test zero = false
some_below test (suc n) = some_below test n || test n

-- whether a test holds of each element of a list and its number, numbers being counted from one on
abbrev pub each_from : {X : Type 0} → (ℕ → X → Bool) → ℕ → List X → Bool
each_from test n [] = true
each_from test n (x ∷ xs) = test n x && each_from test (n + 1) xs

-- the element of a list that has no other
abbrev pub only : {X : Type 0} → List X → Option X
only [] = None
only (x ∷ []) = Some x
only (x ∷ y ∷ ys) = None

abbrev pub is_empty : {X : Type 0} → List X → Bool
is_empty [] = true
is_empty (x ∷ xs) = false

abbrev pub same_span : Span → Span → Bool
same_span a b = (a.file.0 == b.file.0) && (a.from == b.from) && (a.len == b.len)

-- the parcel of an entry, of the form that is looked for
abbrev pub parcels_in : ℕ → ℕ → Form → What → List Parcel
parcels_in v visit Whole w = whole_in v visit w
parcels_in v visit (Piece k) w = pieces_numbered k (piece_in v visit w)
parcels_in v visit AnyPiece w = piece_in v visit w

abbrev pub parcels : ℕ → ℕ → Form → List Entry → List Parcel
parcels v visit form journal = flat_map (λ e. parcels_in v visit form e.what) journal

-- those that the viewers got of an instance at a visit
abbrev pub parcels_got : Params → List (List Entry) → ℕ → ℕ → Form → List Parcel
parcels_got p journals v visit Whole = wholes_got p journals v visit
parcels_got p journals v visit (Piece k) = pieces_numbered k (pieces_got p journals v visit)
parcels_got p journals v visit AnyPiece = pieces_got p journals v visit

-- whether an entry says that a parcel was sent, whole or as a piece
abbrev pub same_parcel : Parcel → LinkNo → Want → ℕ → Span → Bool
same_parcel x link want sent part = (link.0 == x.link.0) && same_want want x.want && (sent == x.sent) && same_span part x.span

abbrev pub says : Bool → Parcel → What → Bool
says whole x (what.Sent link (note.Whole want sent part)) = whole && same_parcel x link want sent part
says whole x (what.Sent link (note.Piece want sent part)) = not whole && same_parcel x link want sent part
says whole x other = false

-- whether a journal says so, in the beat that it names
abbrev pub says_in : Bool → Parcel → List Entry → Bool
says_in whole x journal = list_any (λ e. (e.stamp.beat == x.sent) && says whole x e.what) journal

-- whether a beat begins at most the skew before a time, and less than a beat after it
abbrev pub is_about : Params → ℕ → ℕ → Bool
is_about p beat time = nat_le time (time_of p beat + p.skew) && nat_lt (time_of p beat) (time + p.beat)

-- whether it was sent by a cub in its beat, and that beat is about a time
unfoldable pub was_sent : Params → List (List Entry) → ℕ → Bool → Parcel → ℕ → Bool
was_sent p journals cub whole x time = is_about p x.sent time && says_in whole x (journal_at journals cub)

-- whether a block came whole
abbrev pub whole_fits : Params → List (List Entry) → Tenancy → ℕ → Option Place → Option Parcel → Bool
whole_fits p journals t visit (Some block) (Some x) =
    same_want x.want (want_of_visit t visit 0) && same_span x.span block.span
    && was_sent p journals (cub_of p visit) true x (due p t.slot.0 visit)
whole_fits p journals t visit place parcel = false

unfoldable pub came_whole : Params → Catalogue → List (List Entry) → Tenancy → ℕ → Bool
came_whole p c journals t visit =
    is_empty (pieces_got p journals t.instance.0 visit)
    && whole_fits p journals t visit (place_of c t.file (visit - t.first)) (only (wholes_got p journals t.instance.0 visit))

-- whether a piece came, and all of them
abbrev pub piece_fits : Params → List (List Entry) → Tenancy → ℕ → Span → ℕ → Option Parcel → Bool
piece_fits p journals t visit block k None = false
piece_fits p journals t visit block k (Some x) =
    same_want x.want (want_of_visit t visit k) && same_span x.span (piece_of block p.pieces k)
    && was_sent p journals (cub_of p (visit + k)) false x (leaving (due p t.slot.0 visit) k p.play p.pieces)

unfoldable pub piece_came : Params → List (List Entry) → Tenancy → ℕ → Span → ℕ → Bool
piece_came p journals t visit block k =
    piece_fits p journals t visit block k (only (pieces_numbered k (pieces_got p journals t.instance.0 visit)))

abbrev pub all_pieces_came : Params → List (List Entry) → Tenancy → ℕ → Span → Bool
all_pieces_came p journals t visit block = all_below (λ before. piece_came p journals t visit block (before + 1)) p.pieces

abbrev pub pieces_fit : Params → List (List Entry) → Tenancy → ℕ → Option Place → Bool
pieces_fit p journals t visit None = false
pieces_fit p journals t visit (Some block) = all_pieces_came p journals t visit block.span

unfoldable pub came_in_pieces : Params → Catalogue → List (List Entry) → Tenancy → ℕ → Bool
came_in_pieces p c journals t visit =
    is_empty (wholes_got p journals t.instance.0 visit) && pieces_fit p journals t visit (place_of c t.file (visit - t.first))

-- whether an entry puts an instance so that a visit is one of its own, and a test holds of the tenancy
abbrev pub visited : ℕ → ℕ → (Tenancy → Bool) → What → Bool
visited v visit test (what.Put t) = (t.instance.0 == v) && nat_le t.first visit && nat_le visit t.last && test t
visited v visit test other = false

abbrev pub some_tenancy : List (List Entry) → ℕ → ℕ → (Tenancy → Bool) → Bool
some_tenancy journals v visit test = list_any (λ journal. list_any (λ e. visited v visit test e.what) journal) journals

unfoldable pub came : Params → Catalogue → List (List Entry) → ℕ → Tenancy → Bool
came p c journals visit t = came_whole p c journals t visit || came_in_pieces p c journals t visit

-- whether a read failed, at a cub and anywhere
abbrev pub is_failed_read : ℕ → ℕ → ℕ → What → Bool
is_failed_read v visit piece (what.ReadFailed want) = (want.instance.0 == v) && (want.visit == visit) && (want.piece == piece)
is_failed_read v visit piece other = false

abbrev pub read_failed : ℕ → ℕ → ℕ → List Entry → Bool
read_failed v visit piece journal = list_any (λ e. is_failed_read v visit piece e.what) journal

-- whether a journal has a death below a true time, and so late that another time is less than a span behind it
abbrev pub died_between : Params → ℕ → ℕ → ℕ → List Entry → Bool
died_between p late time end journal =
    list_any (λ e. is_died e.what && nat_lt time (time_of p e.stamp.beat + late) && nat_lt (time_of p e.stamp.beat) end) journal

-- and whether it has one that is a span or more before a time
abbrev pub died_before : Params → ℕ → ℕ → List Entry → Bool
died_before p early time journal = list_any (λ e. is_died e.what && nat_le (time_of p e.stamp.beat + early) time) journal

-- whether a journal has a return so early that a time is a span behind its reading, or later
abbrev pub was_back_by : ℕ → ℕ → List Entry → Bool
was_back_by span time journal = list_any (λ e. is_returned e.what && nat_le (e.stamp.reading + span) time) journal

-- whether a cub died before a piece had left, and was not back so early that it let the piece in
abbrev pub died_before_piece : Params → ℕ → List Entry → Bool
died_before_piece p time journal =
    died_before p 1 (time + p.beat) journal && not (was_back_by (lets_in_after p) time journal)

unfoldable pub piece_is_lost : Params → List (List Entry) → Tenancy → ℕ → ℕ → Bool
piece_is_lost p journals t visit k =
    list_any (read_failed t.instance.0 visit k) journals
    || died_before_piece p (leaving (due p t.slot.0 visit) k p.play p.pieces) (journal_at journals (cub_of p (visit + k)))

abbrev pub some_piece_is_lost : Params → List (List Entry) → Tenancy → ℕ → Bool
some_piece_is_lost p journals t visit = some_below (λ before. piece_is_lost p journals t visit (before + 1)) p.pieces

-- whether the cub of a visit was not back so early that it served the visit
abbrev pub is_unserved_back : Params → List (List Entry) → Tenancy → ℕ → Bool
is_unserved_back p journals t visit =
    (visit == t.first)
    || not (was_back_by (serves_after p) (due p t.slot.0 visit) (journal_at journals (cub_of p visit)))

unfoldable pub lost_in_pieces : Params → List (List Entry) → Tenancy → ℕ → Bool
lost_in_pieces p journals t visit =
    died_before p (takeover p) (due p t.slot.0 visit) (journal_at journals (cub_of p visit))
    && (is_unserved_back p journals t visit && some_piece_is_lost p journals t visit)

unfoldable pub lost_in_death : Params → List (List Entry) → Tenancy → ℕ → Bool
lost_in_death p journals t visit =
    died_between p (takeover p) (due p t.slot.0 visit) (due p t.slot.0 visit + p.beat) (journal_at journals (cub_of p visit))

-- whether an instance was stopped below a time
abbrev pub stopped_before : Params → ℕ → ℕ → List Entry → Bool
stopped_before p v time journal = list_any (λ e. is_gone_of v e.what && nat_lt (time_of p e.stamp.beat) time) journal

unfoldable pub was_stopped : Params → List (List Entry) → Tenancy → ℕ → Bool
was_stopped p journals t visit = list_any (stopped_before p t.instance.0 (due p t.slot.0 visit + p.play)) journals

unfoldable pub has_excuse : Params → List (List Entry) → ℕ → Tenancy → Bool
has_excuse p journals visit t =
    read_failed t.instance.0 visit 0 (journal_at journals (cub_of p visit))
    || (lost_in_pieces p journals t visit
    || ((lost_in_death p journals t visit && is_unserved_back p journals t visit) || was_stopped p journals t visit))

-- whether a reading is the true time of its beat or later, by the skew at most
abbrev pub is_read : Params → Entry → Bool
is_read p e = nat_le (time_of p e.stamp.beat) e.stamp.reading && nat_le e.stamp.reading (time_of p e.stamp.beat + p.skew)

-- whether neither a beat nor a reading falls along a journal, from a stamp on
abbrev pub rises_from : Stamp → List Entry → Bool
rises_from stamp [] = true
rises_from stamp (e ∷ es) = nat_le stamp.beat e.stamp.beat && nat_le stamp.reading e.stamp.reading && rises_from e.stamp es

-- whether no death stands in a journal
abbrev pub never_dies : List Entry → Bool
never_dies journal = list_all (λ e. not (is_died e.what)) journal

-- whether an entry before a death may be of a beat
abbrev pub is_until : Option ℕ → ℕ → ℕ → Bool
is_until None death beat = nat_lt beat death
is_until (Some left) death beat = nat_le beat death

-- whether an entry may stand behind a death, and whether all of these may
abbrev pub stands_later : ℕ → Entry → Bool
stands_later back e = not (is_died e.what) && nat_le back e.stamp.beat

abbrev pub is_later : Option ℕ → List Entry → Bool
is_later None journal = is_empty journal
is_later (Some back) journal = list_all (stands_later back) journal

-- whether the first death is in its beat, and what stands before it and behind it may stand there
abbrev pub ends_in_death : End → List Entry → Bool
ends_in_death end [] = false
ends_in_death end (e ∷ es) =
    if is_died e.what then (e.stamp.beat == end.death) && is_later end.back es
    else is_until end.left end.death e.stamp.beat && ends_in_death end es

abbrev pub dies_as : Lifetime → Option ℕ → List Entry → Bool
dies_as life None journal = never_dies journal
dies_as life (Some death) journal =
    ends_in_death (record { death = death; left = life.left; back = life.back }) journal

-- whether a journal is timed
unfoldable pub is_timed : Params → ℕ → Lifetime → List Entry → Bool
is_timed p beats life journal =
    list_all (is_read p) journal
    && (rises_from (record { beat = 0; reading = 0 }) journal
    && (list_all (λ e. nat_lt e.stamp.beat beats) journal && dies_as life (death_within beats life.death) journal))

-- whether an entry stands at the right end of its link
abbrev pub at_its_end : Links → ℕ → What → Bool
at_its_end t n (what.Got link message) = leads_to n (ends_of t link.0)
at_its_end t n (what.Sent link message) = leads_from n (ends_of t link.0)
at_its_end t n other = true

-- whether all entries of a node's journal do
abbrev pub at_ends : Links → ℕ → List Entry → Bool
at_ends t n journal = list_all (λ e. at_its_end t n e.what) journal

-- whether the journal of a node of a course is timed
abbrev pub timed_in : Course → ℕ → List Entry → Bool
timed_in c n journal = is_timed c.plan.params c.beats (lifetime_of c n) journal

-- whether a return, if there is one, is in a beat
abbrev pub is_in_beat : Option ℕ → ℕ → Bool
is_in_beat None beat = false
is_in_beat (Some back) beat = back == beat

-- whether an entry may stand behind one that is a death, or is none: it is the return, or is none
abbrev pub may_follow : Bool → Option ℕ → Entry → Bool
may_follow died back e = if is_returned e.what then died && is_in_beat back e.stamp.beat else not died

-- whether each of these entries may, the first of them behind one that is a death, or is none; and the last one is a
-- death only if no return is within the run
abbrev pub returns_as : Option ℕ → Option ℕ → Bool → List Entry → Bool
returns_as back within died [] = not (died && is_some within)
returns_as back within died (e ∷ es) = may_follow died back e && returns_as back within (is_died e.what) es

-- whether the journal of a node of a course tells its return
abbrev pub returns_in : Course → ℕ → List Entry → Bool
returns_in c n journal = returns_as (back_of c n) (death_within c.beats (back_of c n)) false journal

-- whether a cub or the next one lives on
abbrev pub one_lives : Course → ℕ → Bool
one_lives c n = not (is_some (death_of c n) && is_some (death_of c ((n + 1) % c.plan.params.cubs)))

-- whether all entries of a run are timed, no two cubs side by side die, and all journals tell of returns
abbrev pub is_timed_run : Kept → Bool
is_timed_run k =
    each_from (timed_in k.course) 0 k.journals
    && (all_below (one_lives k.course) k.course.plan.params.cubs && each_from (returns_in k.course) 0 k.journals)
