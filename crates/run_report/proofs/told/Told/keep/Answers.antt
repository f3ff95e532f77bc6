use Rattle.std.proofs.lemmas.Result.{on_ok_weaker}
use Rattle.run_report.proofs.Gathering.{put_more, stop_more, whole_more, piece_more, failed_more}
use Rattle.run_report.proofs.told.Told.keep.Goals as goal

pub returns-in-Controller : goal.returns-in-Controller
returns-in-Controller c =
    let e = c.args.e.now in
    rw c.in-Controller.is
    (on_ok_weaker c.keep_stop.result (λ kept all controller viewers told. record {
      put = λ v. put_more all e c.args.plan.now.params v _ _ (c.in_ok-keep_put.ensures v) (told.put v);
      stop = λ v. stop_more controller e v _ _ (kept v) (told.stop v);
      whole = told.whole;
      piece = told.piece;
      failed = λ v visit. failed_more all e v visit _ _ (c.in_ok-keep_failed.ensures v visit) (told.failed v visit);
    }) c.keep_stop.ensures)

pub returns-in_ok-keep_whole-in-Viewers : goal.returns-in_ok-keep_whole-in-Viewers
returns-in_ok-keep_whole-in-Viewers c =
    let e = c.args.e.now in
    rw c.in-Viewers.is
    (on_ok_weaker c.keep_piece.result (λ kept all controller viewers told. record {
      put = λ v. put_more all e c.args.plan.now.params v _ _ (c.in_ok-keep_put.ensures v) (told.put v);
      stop = told.stop;
      whole = λ v visit. whole_more viewers e v visit _ _ (c.in_ok-keep_whole-in-Viewers.ensures v visit) (told.whole v visit);
      piece = λ v visit k. piece_more viewers e v visit k _ _ (kept v visit k) (told.piece v visit k);
      failed = λ v visit. failed_more all e v visit _ _ (c.in_ok-keep_failed.ensures v visit) (told.failed v visit);
    }) c.keep_piece.ensures)

pub returns-in-Other : goal.returns-in-Other
returns-in-Other c =
    let e = c.args.e.now in
    rw c.in-Other.is
    (λ all controller viewers told. record {
      put = λ v. put_more all e c.args.plan.now.params v _ _ (c.in_ok-keep_put.ensures v) (told.put v);
      stop = told.stop;
      whole = told.whole;
      piece = told.piece;
      failed = λ v visit. failed_more all e v visit _ _ (c.in_ok-keep_failed.ensures v visit) (told.failed v visit);
    })
