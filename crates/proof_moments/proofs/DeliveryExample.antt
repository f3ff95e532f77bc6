-- The journals of the worked run meet all ties.
use Rattle.std.proofs.Common.{◌≡◌, ℕ, ◌+◌, ◌*◌, ◌<◌, ◌≤◌, true, false, Some, refl, sym, ap, subst, ◌∙◌, arith, ⊎_elim, inl, inr}
use Rattle.std.specs.Prelude.{◌⊎◌, List, [], ◌∷◌, ◌++◌, slice_get}
use Rattle.tiger_base.specs.declared.number.CubNo.{CubNo}
use Rattle.tiger_base.specs.declared.number.LinkNo.{LinkNo}
use Rattle.tiger_base.specs.declared.number.Stamp.{Stamp}
use Rattle.tiger_base.specs.declared.tenancy.Ask.{Ask}
use Rattle.tiger_base.specs.declared.tenancy.Tenancy.{Tenancy}
use Rattle.tiger_base.specs.declared.message.Note.{Note}
use Rattle.tiger_base.specs.declared.message.Note.TheVariants as note
use Rattle.slot_plan.specs.Times.{cub_of}
use Rattle.node_kit.specs.declared.course.OrderKind.TheVariants as kind
use Rattle.node_kit.specs.declared.journal.Entry.{Entry}
use Rattle.node_kit.specs.declared.journal.What.{What}
use Rattle.node_kit.specs.declared.journal.What.TheVariants as what
use Rattle.run_model.specs.Orders.{IsOrdered}
use Rattle.run_model.specs.Served.{want_of_visit}
use Rattle.proof_schedule.specs.Facts.{Facts}
use Rattle.proof_schedule.specs.Laws.{Laws}
use Rattle.proof_schedule.specs.Logs.{Ticked, Put, Shows, Begun, Asked, AskedApart, Gone, Died, Returned, Believed}
use Rattle.proof_schedule.proofs.Follows.{runs}
use Rattle.proof_pieces.specs.PieceLogs.{Serves}
use Rattle.proof_pieces.proofs.Right.{right}
use Rattle.proof_service.specs.Example.{plan, order, viewer, bytes, one_run}
use Rattle.proof_service.specs.ServiceLogs.{Failed, Struck}
use Rattle.proof_service.proofs.ExampleLives.{goes_on}
use Rattle.proof_service.proofs.ExampleLog as log
use Rattle.proof_service.proofs.ExamplePieces as pieces
use Rattle.proof_service.proofs.ExamplePlan.{plan_is, time_is, due_is, cub_2, one_before}
use Rattle.proof_service.proofs.ExampleSchedule as schedule
use Rattle.proof_service.proofs.Example as blocks
use Rattle.proof_service.proofs.Follows.{runs_serve}
use Rattle.proof_service.proofs.TrueReads.{true_reads}
use Rattle.proof_service.proofs.PlacesExample as places
use Rattle.lists.specs.Elements.{In}
use Rattle.proof_moments.specs.Ties.{StandsIn, IsPutAt, Tells, Logged, Keeps, Besides}
use Rattle.proof_moments.specs.Recorded.{IsRecorded}
use Rattle.lists.proofs.Elements.{in_left, in_right}
use Rattle.proof_moments.proofs.Records.{was_taken}
use Rattle.proof_moments.proofs.Plain.{EachFrom, rises, alone}
use Rattle.proof_moments.proofs.Plain as written
use Rattle.proof_moments.specs.ParcelTies.{IsServing, TellsParcels, LogsParcels, WasSentOn, IsGotOn, ViewersGet}
use Rattle.proof_moments.specs.DeliveryExample.{sent_whole, got_whole, sent_first, got_first, sent_second, got_second, put, died, believed, journals, orders, ParcelTiesCanBeMet}

abbrev r : Facts
r = log.r

-- ---- which entries there are

-- what an entry of a node and a beat says is one of these
abbrev Says : ℕ → ℕ → What → Type 0
Says n b (what.Put t) = (n ≡ 0) × (t ≡ viewer) × (b ≡ 1)
Says n b what.Died = (n ≡ 1) × (b ≡ 20)
Says n b (what.Believed d) = (n ≡ 2) × (d ≡ record { 0 = 1 }) × (b ≡ 121)
Says n b (what.Sent link (note.Whole want sent part)) =
    (n ≡ 0) × (link ≡ record { 0 = 16 }) × (want ≡ want_of_visit viewer 0 0) × (sent ≡ 50) × (part ≡ bytes 0 4)
    × (b ≡ 50)
Says n b (what.Sent link (note.Piece want sent part)) =
    ((n ≡ 2) × (link ≡ record { 0 = 18 }) × (want ≡ want_of_visit viewer 1 1) × (sent ≡ 150) × (part ≡ bytes 4 2)
    × (b ≡ 150))
    ⊎ ((n ≡ 3) × (link ≡ record { 0 = 19 }) × (want ≡ want_of_visit viewer 1 2) × (sent ≡ 200) × (part ≡ bytes 6 2)
    × (b ≡ 200))
Says n b (what.Got link (note.Whole want sent part)) =
    (n ≡ 17) × (link ≡ record { 0 = 16 }) × (want ≡ want_of_visit viewer 0 0) × (sent ≡ 50) × (part ≡ bytes 0 4)
    × (b ≡ 51)
Says n b (what.Got link (note.Piece want sent part)) =
    ((n ≡ 17) × (link ≡ record { 0 = 18 }) × (want ≡ want_of_visit viewer 1 1) × (sent ≡ 150) × (part ≡ bytes 4 2)
    × (b ≡ 151))
    ⊎ ((n ≡ 17) × (link ≡ record { 0 = 19 }) × (want ≡ want_of_visit viewer 1 2) × (sent ≡ 200) × (part ≡ bytes 6 2)
    × (b ≡ 201))
Says n b other = ⊥

abbrev IsPlain : ℕ → List Entry → Type 0
IsPlain = written.IsPlain Says 201

empty : (n : ℕ) → IsPlain n []
empty n = written.empty Says 201 n

plain : EachFrom IsPlain 0 journals
plain = (
  record {
    says = ((refl, refl, refl), ((refl, refl, refl, refl, refl, refl), tt));
    apart = ((omega arith, tt), (tt, tt));
    low = ((omega arith, refl), ((omega arith, refl), tt));
  },
  (
    record { says = ((refl, refl), tt); apart = (tt, tt); low = ((omega arith, refl), tt) },
    (
      record {
        says = ((refl, refl, refl), (inl (refl, refl, refl, refl, refl, refl), tt));
        apart = ((omega arith, tt), (tt, tt));
        low = ((omega arith, refl), ((omega arith, refl), tt));
      },
      (
        record {
          says = (inr (refl, refl, refl, refl, refl, refl), tt);
          apart = (tt, tt);
          low =
              ((omega arith, refl), tt);
        },
        (
          empty 4,
          (
            empty 5,
            (
              empty 6,
              (
                empty 7,
                (
                  empty 8,
                  (
                    empty 9,
                    (
                      empty 10,
                      (
                        empty 11,
                        (
                          empty 12,
                          (
                            empty 13,
                            (
                              empty 14,
                              (
                                empty 15,
                                (
                                  empty 16,
                                  (
                                    record {
                                      says = (
                                        (refl, refl, refl, refl, refl, refl),
                                        (
                                          inl (refl, refl, refl, refl, refl, refl),
                                          (inr (refl, refl, refl, refl, refl, refl), tt),
                                        ),
                                      );
                                      apart = ((omega arith, (omega arith, tt)), ((omega arith, tt), (tt, tt)));
                                      low = ((omega arith, refl), ((omega arith, refl), ((omega arith, refl), tt)));
                                    },
                                    tt,
                                  ),
                                ),
                              ),
                            ),
                          ),
                        ),
                      ),
                    ),
                  ),
                ),
              ),
            ),
          ),
        ),
      ),
    ),
  ),
)

plain_at : (n : ℕ) (j : List Entry) → slice_get journals n ≡ Some j → IsPlain n j
plain_at n j at = written.plain_at Says 201 journals plain n j at

-- what an entry says, by what it is; and when it is written
said : (n : ℕ) (e : Entry) (v : What) → StandsIn journals n e → e.what ≡ v → Says n e.stamp.beat v
said n e v s is = written.said Says 201 journals plain n e v s is

low : (n : ℕ) (e : Entry) → StandsIn journals n e → (e.stamp.beat ≤ 201) × (e.stamp.reading ≡ e.stamp.beat * 10000)
low n e s = written.low Says 201 journals plain n e s

later : (n : ℕ) (xs ys : List Entry) (e f : Entry) → slice_get journals n ≡ Some (xs ++ e ∷ ys) → In f ys
    → e.stamp.beat < f.stamp.beat
later n xs ys e f at i = written.later Says 201 journals plain n xs ys e f at i

-- the entries, one by one
stands : (n : ℕ) (j : List Entry) (e : Entry) → slice_get journals n ≡ Some j → In e j → StandsIn journals n e
stands n j e at i = record { journal = j; at = at; there = i }

-- ---- the schedule

ordered : (a : Ask) → a ≡ order → IsOrdered orders a
ordered a e = inl (ap (λ (x : Ask). kind.Begin x) (sym e))

order_is : (a : Ask) → IsOrdered orders a → a ≡ order
order_is a h = ⊎_elim (λ q. let same : order ≡ a = cc in sym same) (λ n. absurd n) h

-- The viewer is put, and the laws of the schedule are met, as in the worked run of blocks.
put_in : r.Put 0 viewer 1
put_in = schedule.put_in 0 350 350 one_run log.timed log.worked

laws : Laws plan r
laws = schedule.laws 0 350 350 one_run log.timed log.worked

is_put_at : (stamp : Stamp) → stamp.beat ≡ 1 → stamp.reading ≡ stamp.beat * 10000 → IsPutAt plan r 0 stamp viewer
is_put_at stamp one read =
    let time = time_is stamp.beat in
    let visit = due_is 0 in
    record {
      small = omega arith;
      put = subst (λ (b : ℕ). r.Put 0 viewer b) (sym one) put_in;
      low = omega arith;
      high = omega arith;
      slot = omega arith;
      above = omega arith;
      below = omega arith;
    }

died_in : r.Died 1 20
died_in = log.worked.few (Died 1 20) (14, omega arith, refl)

believed_in : r.Believed 2 121
believed_in = log.worked.few (Believed 2 121) (15, omega arith, refl)

tells : Tells plan r orders journals
tells = record {
  put = λ n e t s is.
      let k = said n e (what.Put t) s is in
      subst (λ (m : ℕ). IsPutAt plan r m e.stamp t) (sym k.0) (subst (λ (u : Tenancy). IsPutAt plan r 0 e.stamp u)
      (sym k.1) (is_put_at e.stamp k.2 (low n e s).1));
  took = λ n e q s is. absurd (said n e (what.Took q) s is);
  gone = λ n e v s is. absurd (said n e (what.Gone v) s is);
  believed = λ n e d s is.
      let k = said n e (what.Believed d) s is in
      let one : d.0 ≡ 1 = ap (λ (c : CubNo). c.0) k.1 in
      let next : cub_of plan (d.0 + 1) ≡ 2 = ap (λ (m : ℕ). cub_of plan (m + 1)) one ∙ cub_2 in
      record {
        believed = subst (λ (m : ℕ). r.Believed m e.stamp.beat) (sym k.0) (subst (λ (b : ℕ). r.Believed 2 b)
            (sym k.2) believed_in);
        known = omega arith;
        behind = k.0 ∙ sym next;
      };
  died = λ n e small s is.
      let k = said n e what.Died s is in
      subst (λ (m : ℕ). r.Died m e.stamp.beat) (sym k.0) (subst (λ (b : ℕ). r.Died 1 b) (sym k.1) died_in);
  returned = λ n e small s is. absurd (said n e what.Returned s is);
  asked = λ n e link a small s is. absurd (said n e (what.Got link (note.Start false a)) s is);
  apart = λ n e link a small s is. absurd (said n e (what.Got link (note.Start true a)) s is);
}

-- the journals of the cubs that wrote something, and of the viewers
at_0 : slice_get journals 0 ≡ Some (put ∷ sent_whole ∷ [])
at_0 = refl

at_1 : slice_get journals 1 ≡ Some (died ∷ [])
at_1 = refl

at_2 : slice_get journals 2 ≡ Some (believed ∷ sent_first ∷ [])
at_2 = refl

at_3 : slice_get journals 3 ≡ Some (sent_second ∷ [])
at_3 = refl

at_viewers : slice_get journals 17 ≡ Some (got_whole ∷ got_first ∷ got_second ∷ [])
at_viewers = refl

-- nobody comes back
none_back : (c b : ℕ) → r.Returned c b → ⊥
none_back c b h = let k = log.worked.its (Returned c b) h in let late = k.2 in omega arith

logged : Logged plan r orders journals
logged = record {
  put = λ c b t h.
      let k = log.worked.its (Put c t b) h in
      record {
        entry = put;
        stands = record {
          journal = put ∷ sent_whole ∷ [];
          at = ap (λ (m : ℕ). slice_get journals m) k.0
              ∙ at_0;
          there = inl refl;
        };
        beat = sym k.2;
        is = ap (λ (u : Tenancy). what.Put u) (sym k.1);
      };
  gone = λ v b h. absurd (log.worked.its (Gone v b) h);
  died = λ c b h.
      let k = log.worked.its (Died c b) h in
      record {
        entry = died;
        stands = record { journal = died ∷ []; at = ap (λ (m : ℕ). slice_get journals m) k.0 ∙ at_1; there = inl refl };
        beat = sym k.1;
        is = refl;
      };
  returned = λ c b h. absurd (none_back c b h);
  believed = λ c d b h next small.
      let k = log.worked.its (Believed c b) h in
      let same : d ≡ 1 = one_before d 1 small (omega arith) (sym next ∙ k.0 ∙ sym cub_2) in
      record {
        entry = believed;
        stands = record {
          journal = believed ∷ sent_first ∷ [];
          at = ap (λ (m : ℕ). slice_get journals m) k.0
              ∙ at_2;
          there = inl refl;
        };
        beat = sym k.1;
        is = (record { 0 = 1 }, refl, sym same);
      };
  begun = λ ask b h. ordered ask (log.worked.its (Begun ask b) h).0;
}

-- nothing stands behind the death
none_since : (n : ℕ) (xs ys : List Entry) (e f : Entry) → slice_get journals n ≡ Some (xs ++ e ∷ ys)
    → e.what ≡ what.Died → In f ys → ⊥
none_since n xs ys e f at is i =
    let k = said n e what.Died (stands n (xs ++ e ∷ ys) e at (in_right e xs (e ∷ ys) (inl refl))) is in
    let one : Some (xs ++ e ∷ ys) ≡ Some (died ∷ []) = sym at ∙ (ap (λ (m : ℕ). slice_get journals m) k.0 ∙ at_1) in
    alone xs ys e f died (cc) i

keeps : Keeps plan r orders journals
keeps = record {
  rising = λ n j at. rises j (plain_at n j at).apart;
  one_put = λ n xs ys e f t u at is i f_is same. later n xs ys e f at i;
  belief_first = λ n xs ys e f t d at is i f_is. later n xs ys e f at i;
  put_first = λ n xs ys e q at is. absurd (said n e (what.Took q) (stands n (xs ++ e ∷ ys) e at
      (in_right e xs (e ∷ ys) (inl refl))) is);
  ended = λ n c b e s less small.
      let l = (low n e s).0 in
      ⊎_elim (λ k. inl (record { reading = k.reading; ticked = k.ticked }))
      (λ d. inr (record { died = d; away = λ w back. absurd (none_back c w back) }))
      (goes_on 0 350 350 one_run log.timed log.worked c b small (omega arith));
  since = λ n xs ys e f small at is i. absurd (none_since n xs ys e f at is i);
  shows = λ c b l upper lower q cut ticked i.
      let k = was_taken upper q i in
      absurd (said c k.0 (what.Took q) (stands c (upper ++ lower) k.0 cut.at (in_left k.0 upper lower k.1)) k.2);
  shown = λ c b l n t upper lower cut ticked s. absurd (log.worked.its (Shows c t n b) s);
  one_order = λ a b h k same. order_is a h ∙ sym (order_is b k);
}

besides : Besides plan r
besides = record {
  ended = λ c b l a t first d.
      let m = log.worked.its (Died c a) d in
      let one = m.0 in
      let when = m.1 in
      ⊎_elim
      (λ o. ⊎_elim (λ k. let early = k.1 in omega arith) (λ k. absurd (k.0 one)) o)
      (λ k. let late = k.1 in let high = k.2 in absurd (omega arith))
      (log.worked.its (Ticked c b l) t).1;
  returned = λ c x h. laws.run.returned h;
  apart = λ c d a b h k next. laws.run.apart h k next;
  put = λ c x a t h d. let k = (log.worked.its (Put c t x) h).0 in let m = (log.worked.its (Died c a) d).0 in absurd (omega arith);
  reads = λ c b l t. laws.run.reads t;
  undue = λ c n b t s. absurd (log.worked.its (Shows c t n b) s);
  waits = λ c y b l s n ask w by ticked first slot window.
      let one : (ask ≡ order) × (y ≡ 1) = ⊎_elim
      (λ a. let k = log.worked.its (Asked c ask y) a.0 in (k.1, k.2))
      (λ a. let k = log.worked.its (AskedApart c ask y) a.0 in (k.1, k.2))
      w.how in
      let beat = one.1 in
      inr (inl (record {
        cub = 0;
        tenancy = viewer;
        same = ap (λ (v : Ask). v.instance.0) (sym one.0);
        beat = 1;
        put = put_in;
        by = omega arith;
      }));
}

recorded : IsRecorded plan r orders journals
recorded = record {
  plan = plan_is;
  one = runs plan r plan_is laws;
  more = besides;
  tells = tells;
  logged = logged;
  keeps = keeps;
}

-- ---- blocks and pieces

-- each part that is sent is served
serving_whole : IsServing plan pieces.q pieces.w 0 (record { 0 = 16 }) (want_of_visit viewer 0 0) 50 (bytes 0 4) 50
serving_whole =
    record {
      tenancy = viewer;
      wanted = refl;
      serves = pieces.serves_in (inl (refl, refl, refl, refl));
      sends =
          (1, omega arith, refl);
      named = refl;
      way = refl;
    }

serving_first : IsServing plan pieces.q pieces.w 2 (record { 0 = 18 }) (want_of_visit viewer 1 1) 150 (bytes 4 2) 150
serving_first =
    record {
      tenancy = viewer;
      wanted = refl;
      serves = pieces.serves_in (inr (inl (refl, refl, refl, refl)));
      sends = (3, omega arith, refl);
      named = refl;
      way = refl;
    }

serving_second : IsServing plan pieces.q pieces.w 3 (record { 0 = 19 }) (want_of_visit viewer 1 2) 200 (bytes 6 2) 200
serving_second =
    record {
      tenancy = viewer;
      wanted = refl;
      serves = pieces.serves_in (inr (inr (refl, refl, refl, refl)));
      sends = (5, omega arith, refl);
      named = refl;
      way = refl;
    }

tells_parcels : TellsParcels plan pieces.q pieces.w journals
tells_parcels = record {
  whole = λ n e link want sent part s is.
      let k = said n e (what.Sent link (note.Whole want sent part)) s is in
      rw (k.0, k.1, k.2, k.3, k.4, k.5) (refl, serving_whole);
  piece = λ n e link want sent part s is. ⊎_elim
      (λ k. rw (k.0, k.1, k.2, k.3, k.4, k.5) (omega arith, serving_first))
      (λ k. rw (k.0, k.1, k.2, k.3, k.4, k.5) (omega arith, serving_second))
      (said n e (what.Sent link (note.Piece want sent part)) s is);
  asks = λ n e want s a. absurd (said n e (what.Sent a.link (note.ReadAsk want)) s a.is);
  failed = λ n e want s is. absurd (said n e (what.ReadFailed want) s is);
}

logs_parcels : LogsParcels pieces.q pieces.w journals
logs_parcels = record {
  served = λ c n j b t h.
      let k = pieces.is_piece (Serves c t n j b) h in
      rw k.0 (⊎_elim
      (λ a. rw (a.0, a.1, a.2, a.3) (record {
        entry = sent_whole;
        stands = stands 0 (put ∷ sent_whole ∷ []) sent_whole at_0 (inr (inl refl));
        beat = refl;
        is = record { link = record { 0 = 16 }; sent = 50; part = bytes 0 4; is = refl };
      }))
      (λ o. ⊎_elim
      (λ a. rw (a.0, a.1, a.2, a.3) (record {
        entry = sent_first;
        stands = stands 2 (believed ∷ sent_first ∷ []) sent_first at_2 (inr (inl refl));
        beat = refl;
        is = record { link = record { 0 = 18 }; sent = 150; part = bytes 4 2; is = refl };
      }))
      (λ a. rw (a.0, a.1, a.2, a.3) (record {
        entry = sent_second;
        stands = stands 3 (sent_second ∷ []) sent_second at_3 (inl refl);
        beat = refl;
        is = record { link = record { 0 = 19 }; sent = 200; part = bytes 6 2; is = refl };
      }))
      o)
      k.1);
  failed = λ c n j b t h. absurd (blocks.is_block (Failed c t n j b) h);
}

-- what the viewers got was sent a beat before
came : (n : ℕ) (e : Entry) (link : LinkNo) (m : Note) → StandsIn journals n e → e.what ≡ what.Got link m
    → WasSentOn plan journals link m e.stamp.beat
came n e link (note.Whole want sent part) s is =
    let k = said n e (what.Got link (note.Whole want sent part)) s is in
    rw (k.1, k.2, k.3, k.4, k.5) (record {
      node = 0;
      entry = sent_whole;
      stands = stands 0 (put ∷ sent_whole ∷ []) sent_whole at_0 (inr (inl refl));
      is = refl;
      later = omega arith;
      soon = omega arith;
    })
came n e link (note.Piece want sent part) s is = ⊎_elim
    (λ k. rw (k.1, k.2, k.3, k.4, k.5) (record {
      node = 2;
      entry = sent_first;
      stands = stands 2 (believed ∷ sent_first ∷ []) sent_first at_2 (inr (inl refl));
      is = refl;
      later = omega arith;
      soon = omega arith;
    }))
    (λ k. rw (k.1, k.2, k.3, k.4, k.5) (record {
      node = 3;
      entry = sent_second;
      stands = stands 3 (sent_second ∷ []) sent_second at_3 (inl refl);
      is = refl;
      later = omega arith;
      soon = omega arith;
    }))
    (said n e (what.Got link (note.Piece want sent part)) s is)
came n e link other s is = absurd (said n e (what.Got link other) s is)

comes : (n : ℕ) (e : Entry) (link : LinkNo) (m : Note) → StandsIn journals n e → e.what ≡ what.Sent link m
    → IsGotOn journals 17 link m
comes n e link (note.Whole want sent part) s is =
    let k = said n e (what.Sent link (note.Whole want sent part)) s is in
    rw (k.1, k.2, k.3, k.4) (record {
      entry = got_whole;
      stands = stands 17 (got_whole ∷ got_first ∷ got_second ∷
          []) got_whole at_viewers (inl refl);
      is = refl;
    })
comes n e link (note.Piece want sent part) s is = ⊎_elim
    (λ k. rw (k.1, k.2, k.3, k.4) (record {
      entry = got_first;
      stands = stands 17
          (got_whole ∷ got_first ∷ got_second ∷ []) got_first at_viewers (inr (inl refl));
      is = refl;
    }))
    (λ k. rw (k.1, k.2, k.3, k.4) (record {
      entry = got_second;
      stands = stands 17
          (got_whole ∷ got_first ∷ got_second ∷ []) got_second at_viewers (inr (inr (inl refl)));
      is = refl;
    }))
    (said n e (what.Sent link (note.Piece want sent part)) s is)
comes n e link other s is = absurd (said n e (what.Sent link other) s is)

-- nothing is got twice: what is got says in which beat
got_beat : (n k : ℕ) (e f : Entry) (link : LinkNo) (m : Note) → StandsIn journals n e → StandsIn journals k f
    → e.what ≡ what.Got link m → f.what ≡ what.Got link m → e.stamp.beat ≡ f.stamp.beat
got_beat n k e f link (note.Whole want sent part) s t e_is f_is =
    (said n e (what.Got link (note.Whole want sent part)) s e_is).5
    ∙ sym (said k f (what.Got link (note.Whole want sent part)) t f_is).5
got_beat n k e f link (note.Piece want sent part) s t e_is f_is = ⊎_elim
    (λ a. ⊎_elim
    (λ b. a.5 ∙ sym b.5)
    (λ b. let l = ap (λ (x : LinkNo). x.0) (sym a.1 ∙ b.1) in absurd (omega arith))
    (said k f (what.Got link (note.Piece want sent part)) t f_is))
    (λ a. ⊎_elim
    (λ b. let l = ap (λ (x : LinkNo). x.0) (sym a.1 ∙ b.1) in absurd (omega arith))
    (λ b. a.5 ∙ sym b.5)
    (said k f (what.Got link (note.Piece want sent part)) t f_is))
    (said n e (what.Got link (note.Piece want sent part)) s e_is)
got_beat n k e f link other s t e_is f_is = absurd (said n e (what.Got link other) s e_is)

get : ViewersGet plan journals 349
get = record {
  came = λ e link m s is. came 17 e link m s is;
  comes = λ n e link m s is ends late. comes n e link m s is;
  twice = λ xs ys e f link m at i e_is f_is.
      let first = stands 17 (xs ++ e ∷ ys) e at (in_right e xs (e ∷ ys) (inl refl)) in
      let second = stands 17 (xs ++ e ∷ ys) f at (in_right f xs (e ∷ ys) (inr i)) in
      let same = got_beat 17 17 e f link m first second e_is f_is in
      let less = later 17 xs ys e f at i in
      absurd (omega arith);
}

pub ties_met : ParcelTiesCanBeMet
ties_met = record {
  catalogue = places.laws_met.catalogue;
  files = places.laws_met.files;
  recorded = record {
    schedule = recorded;
    pieces = right plan r pieces.q plan_is laws pieces.pieces;
    blocks = runs_serve plan r pieces.q pieces.w 349 plan_is laws pieces.pieces
        blocks.met_with_death.blocks;
    reads = true_reads plan places.laws_met.catalogue r pieces.q pieces.w plan_is laws
        pieces.pieces places.laws_met.laws;
    ties = record {
      tells = tells_parcels;
      logs = logs_parcels;
      keeps = record {
        one_parcel = λ want n xs ys e f at i one two. let l = later n xs ys e f at i in omega arith;
        one_ask = λ want n xs ys e f at i one two. let l = later n xs ys e f at i in omega arith;
      };
      disks = record {
        refused = λ k n j y t h. absurd (blocks.is_block (Failed k t n j y) h);
        struck = λ disk b small h. absurd (blocks.is_block (Struck disk b) h);
      };
      viewers = get;
    };
  };
}
