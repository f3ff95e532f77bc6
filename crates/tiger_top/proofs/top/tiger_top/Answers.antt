use Rattle.std.proofs.Common.{◌≡◌, ℕ, List, [], get_or, sym, ap, subst, ◌∙◌}
use Rattle.tiger_input.specs.Words.{texts_of}
use Rattle.tiger_disks.specs.Ends.{InputEnd}
use Rattle.tiger_disks.specs.Words.{AsksDisks}
use Rattle.tiger_top.specs.Commands.{AsksJournal, AsksSpare}
use Rattle.tiger_top.specs.Statuses.{IfDisksStopped}
use Rattle.tiger_top.specs.declared.status.TopStatus.{TopStatus}
use Rattle.tiger_top.proofs.top.tiger_top.Goals as goal

abbrev second : List (List ℕ) → List ℕ
second words = get_or words 1 []

abbrev third : List (List ℕ) → List ℕ
third words = get_or words 2 []

pub returns-in-Tiger-clause-one_answer : goal.returns-in-Tiger-clause-one_answer
returns-in-Tiger-clause-one_answer g c = λ tigers all. rw c.by_tiger.ensures (c.tiger.ensures.one_answer all)

pub returns-in-Journal-clause-done : goal.returns-in-Journal-clause-done
returns-in-Journal-clause-done g c = λ tigers.
    let journal : AsksJournal (texts_of c.args.words.now.items) c.in-Journal.name.now c.in-Journal.workers = rw c.as_slice.ensures.value at c.in-Journal.ensures in
    absurd (tigers.no_journal c.in-Journal.name.now c.in-Journal.workers journal)

pub returns-in-Journal-clause-ran : goal.returns-in-Journal-clause-ran
returns-in-Journal-clause-ran g c = λ tigers.
    let journal : AsksJournal (texts_of c.args.words.now.items) c.in-Journal.name.now c.in-Journal.workers = rw c.as_slice.ensures.value at c.in-Journal.ensures in
    absurd (tigers.no_journal c.in-Journal.name.now c.in-Journal.workers journal)

pub returns-in-Journal-clause-sink : goal.returns-in-Journal-clause-sink
returns-in-Journal-clause-sink g c = λ tigers.
    let journal : AsksJournal (texts_of c.args.words.now.items) c.in-Journal.name.now c.in-Journal.workers = rw c.as_slice.ensures.value at c.in-Journal.ensures in
    absurd (tigers.no_journal c.in-Journal.name.now c.in-Journal.workers journal)

pub returns-in-Spare-clause-done : goal.returns-in-Spare-clause-done
returns-in-Spare-clause-done g c = λ tigers.
    let spare : AsksSpare (texts_of c.args.words.now.items) c.in-Spare.name.now c.in-Spare.workers = rw c.as_slice.ensures.value at c.in-Spare.ensures in
    absurd (tigers.no_spare c.in-Spare.name.now c.in-Spare.workers spare)

pub returns-in-Spare-clause-ran : goal.returns-in-Spare-clause-ran
returns-in-Spare-clause-ran g c = λ tigers.
    let spare : AsksSpare (texts_of c.args.words.now.items) c.in-Spare.name.now c.in-Spare.workers = rw c.as_slice.ensures.value at c.in-Spare.ensures in
    absurd (tigers.no_spare c.in-Spare.name.now c.in-Spare.workers spare)

pub returns-in-Spare-clause-sink : goal.returns-in-Spare-clause-sink
returns-in-Spare-clause-sink g c = λ tigers.
    let spare : AsksSpare (texts_of c.args.words.now.items) c.in-Spare.name.now c.in-Spare.workers = rw c.as_slice.ensures.value at c.in-Spare.ensures in
    absurd (tigers.no_spare c.in-Spare.name.now c.in-Spare.workers spare)

pub returns-in-Spare-clause-input : goal.returns-in-Spare-clause-input
returns-in-Spare-clause-input g c = λ tigers.
    let spare : AsksSpare (texts_of c.args.words.now.items) c.in-Spare.name.now c.in-Spare.workers = rw c.as_slice.ensures.value at c.in-Spare.ensures in
    absurd (tigers.no_spare c.in-Spare.name.now c.in-Spare.workers spare)

pub returns-in-Disks-clause-words : goal.returns-in-Disks-clause-words
returns-in-Disks-clause-words g c =
    let disks : AsksDisks (texts_of c.args.words.now.items) c.in-Disks.name.now c.in-Disks.image.now c.in-Disks.over = rw c.as_slice.ensures.value at c.in-Disks.ensures in
    let old = g.F.Files.state c.args.files.now in
    let new = g.F.Files.state c.write_image.new.files in (
      λ is. absurd (subst (λ (s : TopStatus). IfDisksStopped (InputEnd c.in-Disks.name.now old new) s) (rw c.without_ring-in-Disks.ensures at is) c.write_image.ensures.input),
      λ none. absurd (none.tigers.no_disks c.in-Disks.name.now c.in-Disks.image.now c.in-Disks.over disks),
    )

pub returns-in-Disks-clause-no_image : goal.returns-in-Disks-clause-no_image
returns-in-Disks-clause-no_image g c = λ none.
    let disks : AsksDisks (texts_of c.args.words.now.items) c.in-Disks.name.now c.in-Disks.image.now c.in-Disks.over = rw c.as_slice.ensures.value at c.in-Disks.ensures in
    absurd (none c.in-Disks.name.now c.in-Disks.image.now c.in-Disks.over disks)

pub returns-in-Disks-clause-done : goal.returns-in-Disks-clause-done
returns-in-Disks-clause-done g c = λ tigers.
    let disks : AsksDisks (texts_of c.args.words.now.items) c.in-Disks.name.now c.in-Disks.image.now c.in-Disks.over = rw c.as_slice.ensures.value at c.in-Disks.ensures in
    absurd (tigers.no_disks c.in-Disks.name.now c.in-Disks.image.now c.in-Disks.over disks)

pub returns-in-Disks-clause-input : goal.returns-in-Disks-clause-input
returns-in-Disks-clause-input g c = λ tigers.
    let disks : AsksDisks (texts_of c.args.words.now.items) c.in-Disks.name.now c.in-Disks.image.now c.in-Disks.over = rw c.as_slice.ensures.value at c.in-Disks.ensures in
    absurd (tigers.no_disks c.in-Disks.name.now c.in-Disks.image.now c.in-Disks.over disks)

pub returns-in-Disks-clause-sink : goal.returns-in-Disks-clause-sink
returns-in-Disks-clause-sink g c = λ tigers.
    let disks : AsksDisks (texts_of c.args.words.now.items) c.in-Disks.name.now c.in-Disks.image.now c.in-Disks.over = rw c.as_slice.ensures.value at c.in-Disks.ensures in
    absurd (tigers.no_disks c.in-Disks.name.now c.in-Disks.image.now c.in-Disks.over disks)

pub returns-in-Disks-clause-unread : goal.returns-in-Disks-clause-unread
returns-in-Disks-clause-unread g c = λ tigers.
    let disks : AsksDisks (texts_of c.args.words.now.items) c.in-Disks.name.now c.in-Disks.image.now c.in-Disks.over = rw c.as_slice.ensures.value at c.in-Disks.ensures in
    absurd (tigers.no_disks c.in-Disks.name.now c.in-Disks.image.now c.in-Disks.over disks)

pub returns-in-Disks-clause-disks_done : goal.returns-in-Disks-clause-disks_done
returns-in-Disks-clause-disks_done g c = λ name image over asked done.
    let disks : AsksDisks (texts_of c.args.words.now.items) c.in-Disks.name.now c.in-Disks.image.now c.in-Disks.over = rw c.as_slice.ensures.value at c.in-Disks.ensures in
    let same : c.in-Disks.name.now ≡ name = ap second (sym disks ∙ asked) in
    let image_is : c.in-Disks.image.now ≡ image = ap third (sym disks ∙ asked) in
    rw (← same, ← image_is) (c.write_image.ensures.done (rw c.without_ring-in-Disks.ensures at done))

pub returns-in-Disks-clause-disks_names : goal.returns-in-Disks-clause-disks_names
returns-in-Disks-clause-disks_names g c = λ name image over asked.
    let disks : AsksDisks (texts_of c.args.words.now.items) c.in-Disks.name.now c.in-Disks.image.now c.in-Disks.over = rw c.as_slice.ensures.value at c.in-Disks.ensures in
    let image_is : c.in-Disks.image.now ≡ image = ap third (sym disks ∙ asked) in
    rw (← image_is) c.write_image.ensures.names
