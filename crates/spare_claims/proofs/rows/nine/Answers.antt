use Rattle.std.proofs.Common.{◌≡◌, List, [], ◌∷◌, refl, ⊎_elim, inl, inr, arith}
use Rattle.std.proofs.lemmas.Bool.{false≢true}
use Rattle.tiger_base.specs.Records.{own_of}
use Rattle.slot_plan.specs.Samples.{small}
use Rattle.slot_plan.specs.Times.{disk_of}
use Rattle.mirror_pieces.specs.Pieces.{piece_disk}
use Rattle.run_facts.specs.Order.{Noted}
use Rattle.disk_death.specs.Deaths.{death_of_disk}
use Rattle.run_model.specs.Samples.{seated, seat, three, put, took, gone, sends, gets, asks, asked, fails, believes, block, piece, want, bytes, ask, begins, ordered}
use Rattle.run_model.proofs.OnSamples.{on_samples, by-test, to-test}
use Rattle.spare_claims.specs.Samples.{lasting, ask_one, started, finished}
use Rattle.spare_claims.specs.Samples.Nine.{Puts, Views, Returns, Asks, Beliefs, Faults, Blocks, Turns, Starts}
use Rattle.spare_claims.proofs.Commands.{commanded, idle, beginning, stopping_then, nobody_waits, nobody_begins, put_then}
use Rattle.spare_claims.proofs.Excuses.{excused-to-test}
use Rattle.spare_claims.proofs.Runs.{meets_all, breaks_only, no_views_at_all}
use Rattle.spare_claims.proofs.rows.nine.Goals as goal

-- the block of disk 0, which is dead, comes in pieces
abbrev in_pieces : List Noted
in_pieces = started ask_one (put 0 1 (seat 0 0 0) ∷ asks 1 40 (want 0 0 1)
    ∷ sends 1 50 (piece 0 0 1 50 0 2) ∷ gets 1 51 (piece 0 0 1 50 0 2) ∷ asks 2 90 (want 0 0 2)
    ∷ sends 2 100 (piece 0 0 2 100 2 2) ∷ gets 2 101 (piece 0 0 2 100 2 2) ∷ [])

-- the logs by what is wrong with them
abbrev not_ordered : List Noted
not_ordered = seated ∷ []

abbrev nobodys : List Noted
nobodys = took 0 1 (own_of (seat 0 0 0) 0) ∷ []

abbrev late_block : List Noted
late_block = gone 10 0 ∷ sends 0 111 (block 0 0 111 0 4) ∷ []

abbrev asked_twice : List Noted
asked_twice = asks 0 40 (want 0 0 0) ∷ asks 0 41 (want 0 0 0) ∷ []

abbrev believed : List Noted
believed = believes 1 150 0 ∷ []

abbrev unasked : List Noted
unasked = fails 0 44 (want 0 0 0) ∷ []

abbrev missing : List Noted
missing = started ask_one (put 0 1 (seat 0 0 0) ∷ asks 0 40 (want 0 0 0) ∷ asked 0 41 (want 0 0 0) ∷ fails 0 43 (want 0 0 0) ∷ [])

abbrev out_of_turn : List Noted
out_of_turn = started ask (put 0 1 three ∷ sends 1 150 (block 0 1 150 4 4) ∷ gets 0 150 (block 0 0 50 0 4) ∷ [])

abbrev passed_over : List Noted
passed_over = started ask []

pub returns-clause-meets : goal.returns-clause-meets
unfolding on_samples death_of_disk
returns-clause-meets c s =
    meets_all s (lasting 0 20 250 ∷ []) (begins ask_one) 250 in_pieces refl
    (record {
      puts = λ w. (tt, (tt, (tt, (record { free = λ t e. absurd (cc); rightly = record { ask = ask_one; ordered = inl refl; asked = record { instance = refl; file = refl; count = omega arith; disk = refl }; slot = omega arith; window = refl; cub = inl refl; once = omega arith } }, (tt, (tt, (tt, (tt, (tt, (tt, tt))))))))));
      always = λ w. no_views_at_all in_pieces refl;
      local = λ w. ((λ n. tt), ((λ n. tt), ((λ n. tt), ((λ n. tt), ((λ n. tt), ((λ n. tt), ((λ n. tt), ((λ n. tt), ((λ n. tt), ((λ n. tt), tt))))))))));
      returns = λ w. (tt, (tt, (tt, (tt, (tt, (tt, (tt, (tt, (tt, (tt, tt))))))))));
      asks = λ w. record { instance = (((λ s n. refl), ((λ s n. refl), tt)), (((λ s n. refl), ((λ s n. refl), tt)), tt)); ask = (tt, (tt, (tt, (tt, (omega arith, (tt, (tt, (omega arith, (tt, (tt, tt)))))))))) };
      beliefs = λ w. (tt, (tt, (tt, (tt, (tt, (tt, (tt, (tt, (tt, (tt, tt))))))))));
      failures = λ w. (tt, (tt, (tt, (tt, (tt, (tt, (tt, (tt, (tt, (tt, tt))))))))));
      blocks = λ w. record { settled = (tt, (tt, (tt, ((λ n first last end. let e : n ≡ 0 = omega (arith, last) in rw e (inl (by-test s _ refl))), (tt, (tt, (tt, (tt, (tt, (tt, tt)))))))))); got = ((λ n. tt), ((λ n. tt), ((λ n. tt), ((λ n. tt), ((λ n. tt), ((λ n. tt), ((λ n. (omega arith, (omega arith, record { tenancy = seat 0 0 0; visited = record { put = inl (inr (inl refl)); instance = refl; first = omega arith; last = omega arith }; wanted = refl; block = record { disk = record { 0 = 0 }; span = bytes 0 4 }; place = refl; span = refl }))), ((λ n. tt), ((λ n. tt), ((λ n. (omega arith, (omega arith, record { tenancy = seat 0 0 0; visited = record { put = inl (inr (inl refl)); instance = refl; first = omega arith; last = omega arith }; wanted = refl; block = record { disk = record { 0 = 0 }; span = bytes 0 4 }; place = refl; span = refl }))), tt)))))))))) };
      turns = λ w. (((λ v n. omega (arith, n)), ((λ v n. omega (arith, n)), tt)), (((λ v n. omega (arith, n)), ((λ v n. omega (arith, n)), tt)), tt));
      patient = λ w. put_then ask_one in_pieces refl;
      commanded = λ w. commanded 250 (begins ask_one) in_pieces refl (beginning 1 249);
    })

pub returns-clause-puts : goal.returns-clause-puts
unfolding on_samples death_of_disk
returns-clause-puts c s =
    breaks_only s [] [] 2 not_ordered Puts refl
    (λ nine. nine.free) (λ h. h.0.rightly.ordered)
    (record {
      puts = λ w. absurd (w refl);
      always = λ w. no_views_at_all not_ordered refl;
      local = λ w. ((λ n. tt), tt);
      returns = λ w. (tt, tt);
      asks = λ w. record { instance = tt; ask = (tt, tt) };
      beliefs = λ w. (tt, tt);
      failures = λ w. (tt, tt);
      blocks = λ w. record { settled = ((λ n first last end. absurd (omega (arith, end))), tt); got = ((λ n. tt), tt) };
      turns = λ w. tt;
      patient = λ w. nobody_waits not_ordered;
      commanded = λ w. commanded 2 [] not_ordered refl (idle 2);
    })

pub returns-clause-views : goal.returns-clause-views
unfolding on_samples death_of_disk
returns-clause-views c s =
    breaks_only s [] [] 2 nobodys Views refl
    (λ nine. (nine.part.always, nine.part.local)) (λ h. (h.1.0 (omega arith)).came)
    (record {
      puts = λ w. (tt, tt);
      always = λ w. absurd (w refl);
      local = λ w. absurd (w refl);
      returns = λ w. (tt, tt);
      asks = λ w. record { instance = tt; ask = (tt, tt) };
      beliefs = λ w. (tt, tt);
      failures = λ w. (tt, tt);
      blocks = λ w. record { settled = (tt, tt); got = ((λ n. tt), tt) };
      turns = λ w. tt;
      patient = λ w. nobody_waits nobodys;
      commanded = λ w. commanded 2 [] nobodys refl (idle 2);
    })

pub returns-clause-returns : goal.returns-clause-returns
unfolding on_samples death_of_disk
returns-clause-returns c s =
    breaks_only s [] finished 112 late_block Returns refl
    (λ nine. nine.no_return) (λ h. let late = h.1.0.0 refl in omega (arith, late))
    (record {
      puts = λ w. (tt, (tt, tt));
      always = λ w. no_views_at_all late_block refl;
      local = λ w. ((λ n. tt), ((λ n. tt), tt));
      returns = λ w. absurd (w refl);
      asks = λ w. record { instance = (((λ s n. refl), tt), tt); ask = (tt, (tt, tt)) };
      beliefs = λ w. (tt, (tt, tt));
      failures = λ w. (tt, (tt, tt));
      blocks = λ w. record { settled = (tt, (tt, tt)); got = ((λ n. tt), ((λ n. tt), tt)) };
      turns = λ w. tt;
      patient = λ w. nobody_begins late_block;
      commanded = λ w. commanded 112 finished late_block refl stopping_then;
    })

pub returns-clause-asks : goal.returns-clause-asks
unfolding on_samples death_of_disk
returns-clause-asks c s =
    breaks_only s [] [] 42 asked_twice Asks refl
    (λ nine. nine.asked_once) (λ h. let count = h.ask.0 in omega (arith, count))
    (record {
      puts = λ w. (tt, (tt, tt));
      always = λ w. no_views_at_all asked_twice refl;
      local = λ w. ((λ n. tt), ((λ n. tt), tt));
      returns = λ w. (tt, (tt, tt));
      asks = λ w. absurd (w refl);
      beliefs = λ w. (tt, (tt, tt));
      failures = λ w. (tt, (tt, tt));
      blocks = λ w. record { settled = (tt, (tt, tt)); got = ((λ n. tt), ((λ n. tt), tt)) };
      turns = λ w. tt;
      patient = λ w. nobody_waits asked_twice;
      commanded = λ w. commanded 42 [] asked_twice refl (idle 42);
    })

pub returns-clause-beliefs : goal.returns-clause-beliefs
unfolding on_samples death_of_disk
returns-clause-beliefs c s =
    breaks_only s [] [] 151 believed Beliefs refl
    (λ nine. nine.true_belief) (λ h. let died = h.0 in absurd (cc))
    (record {
      puts = λ w. (tt, tt);
      always = λ w. no_views_at_all believed refl;
      local = λ w. ((λ n. tt), tt);
      returns = λ w. (tt, tt);
      asks = λ w. record { instance = tt; ask = (tt, tt) };
      beliefs = λ w. absurd (w refl);
      failures = λ w. (tt, tt);
      blocks = λ w. record { settled = (tt, tt); got = ((λ n. tt), tt) };
      turns = λ w. tt;
      patient = λ w. nobody_waits believed;
      commanded = λ w. commanded 151 [] believed refl (idle 151);
    })

pub returns-clause-faults : goal.returns-clause-faults
unfolding on_samples death_of_disk
returns-clause-faults c s =
    breaks_only s [] [] 45 unasked Faults refl
    (λ nine. nine.true_faults) (λ h. h.0)
    (record {
      puts = λ w. (tt, tt);
      always = λ w. no_views_at_all unasked refl;
      local = λ w. ((λ n. tt), tt);
      returns = λ w. (tt, tt);
      asks = λ w. record { instance = tt; ask = (tt, tt) };
      beliefs = λ w. (tt, tt);
      failures = λ w. absurd (w refl);
      blocks = λ w. record { settled = (tt, tt); got = ((λ n. tt), tt) };
      turns = λ w. tt;
      patient = λ w. nobody_waits unasked;
      commanded = λ w. commanded 45 [] unasked refl (idle 45);
    })

pub returns-clause-blocks : goal.returns-clause-blocks
unfolding on_samples death_of_disk disk_of piece_disk
returns-clause-blocks c s =
    breaks_only s (lasting 0 20 250 ∷ []) (begins ask_one) 250 missing Blocks refl
    (λ nine. nine.delivery) (λ h. ⊎_elim (λ d. false≢true (to-test s _ d)) (λ x. false≢true (excused-to-test small _ _ 0 0 x)) (h.settled.1.1.1.0 0 (omega arith) (omega arith) (omega arith)))
    (record {
      puts = λ w. (tt, (tt, (tt, (record { free = λ t e. absurd (cc); rightly = record { ask = ask_one; ordered = inl refl; asked = record { instance = refl; file = refl; count = omega arith; disk = refl }; slot = omega arith; window = refl; cub = inl refl; once = omega arith } }, (tt, (tt, (tt, tt)))))));
      always = λ w. no_views_at_all missing refl;
      local = λ w. ((λ n. tt), ((λ n. tt), ((λ n. tt), ((λ n. tt), ((λ n. tt), ((λ n. tt), ((λ n. tt), tt)))))));
      returns = λ w. (tt, (tt, (tt, (tt, (tt, (tt, (tt, tt)))))));
      asks = λ w. record { instance = tt; ask = (tt, (tt, (tt, (tt, (omega arith, (tt, (tt, tt))))))) };
      beliefs = λ w. (tt, (tt, (tt, (tt, (tt, (tt, (tt, tt)))))));
      failures = λ w. (tt, (tt, (tt, (tt, (tt, (tt, (inl (refl, inl (refl, omega arith, omega arith)), tt)))))));
      blocks = λ w. absurd (w refl);
      turns = λ w. tt;
      patient = λ w. put_then ask_one missing refl;
      commanded = λ w. commanded 250 (begins ask_one) missing refl (beginning 1 249);
    })

pub returns-clause-turns : goal.returns-clause-turns
unfolding on_samples death_of_disk
returns-clause-turns c s =
    breaks_only s [] ordered 151 out_of_turn Turns refl
    (λ nine. nine.in_order) (λ h. let before = h.0.0 refl (omega arith) in omega (arith, before))
    (record {
      puts = λ w. (tt, (tt, (tt, (record { free = λ t e. absurd (cc); rightly = record { ask = ask; ordered = inl refl; asked = record { instance = refl; file = refl; count = omega arith; disk = refl }; slot = omega arith; window = refl; cub = inl refl; once = omega arith } }, (tt, (tt, tt))))));
      always = λ w. no_views_at_all out_of_turn refl;
      local = λ w. ((λ n. tt), ((λ n. tt), ((λ n. tt), ((λ n. tt), ((λ n. tt), ((λ n. tt), tt))))));
      returns = λ w. (tt, (tt, (tt, (tt, (tt, (tt, tt))))));
      asks = λ w. record { instance = (((λ s n. refl), tt), tt); ask = (tt, (tt, (tt, (tt, (tt, (tt, tt)))))) };
      beliefs = λ w. (tt, (tt, (tt, (tt, (tt, (tt, tt))))));
      failures = λ w. (tt, (tt, (tt, (tt, (tt, (tt, tt))))));
      blocks = λ w. record { settled = (tt, (tt, (tt, ((λ n first last end. absurd (omega (arith, end))), (tt, (tt, tt)))))); got = ((λ n. tt), ((λ n. tt), ((λ n. tt), ((λ n. tt), ((λ n. tt), ((λ n. (refl, record { tenancy = three; visited = record { put = inl (inr (inl refl)); instance = refl; first = omega arith; last = omega arith }; wanted = refl; block = record { disk = record { 0 = 0 }; span = bytes 0 4 }; place = refl; span = refl })), tt)))))) };
      turns = λ w. absurd (w refl);
      patient = λ w. put_then ask out_of_turn refl;
      commanded = λ w. commanded 151 ordered out_of_turn refl (beginning 3 150);
    })

pub returns-clause-starts : goal.returns-clause-starts
unfolding on_samples death_of_disk
returns-clause-starts c s =
    breaks_only s [] ordered 2 passed_over Starts refl
    (λ nine. (nine.starts.patient, nine.starts.commanded)) (λ h. ⊎_elim (λ t. let holder = t.1 in absurd (cc)) (λ n. n) ((h.0 0 1 10000 (omega arith) (refl, refl, refl)).taken ask 1 0 (inl refl) (inl (refl, (refl, inl (refl, refl)))) refl refl (omega arith) refl refl))
    (record {
      puts = λ w. (tt, (tt, (tt, tt)));
      always = λ w. no_views_at_all passed_over refl;
      local = λ w. ((λ n. tt), ((λ n. tt), ((λ n. tt), tt)));
      returns = λ w. (tt, (tt, (tt, tt)));
      asks = λ w. record { instance = tt; ask = (tt, (tt, (tt, tt))) };
      beliefs = λ w. (tt, (tt, (tt, tt)));
      failures = λ w. (tt, (tt, (tt, tt)));
      blocks = λ w. record { settled = (tt, (tt, (tt, tt))); got = ((λ n. tt), ((λ n. tt), ((λ n. tt), tt))) };
      turns = λ w. tt;
      patient = λ w. absurd (w refl);
      commanded = λ w. absurd (w refl);
    })
