use Rattle.node_kit.specs.declared.course.Kept.{Kept}
use Rattle.run_facts.specs.Commanded.{AreCommanded}
use Rattle.run_model.specs.Orders.{PutsAreFair}
use Rattle.run_model.specs.Parts.{ViewsAreAlwaysPart, EntriesAreLocal}
use Rattle.run_claims.specs.Accounts.{ticks_in}
use Rattle.run_claims.specs.Returns.{NobodyComesBack}
use Rattle.run_claims.specs.Visits.{AreServedOnce}
use Rattle.run_claims.specs.Truths.{BeliefsAreTrue, FailuresAreTrue}
use Rattle.run_claims.specs.Served.{AreServed}
use Rattle.run_claims.specs.Turns.{AreInTurn}
use Rattle.run_claims.specs.Patience.{NobodyIsPassedOver}
use Rattle.outside.specs.Memory.{sunk_in, told_of}
use Rattle.tiger_input.specs.Words.{texts_of}
use Rattle.tiger_run.specs.Ending.{text_for}
use Rattle.promises.specs.Kept.{plan_in, log_in, end_in, clock_in}
use Rattle.promises.proofs.Words.{run_of, made_of, no_run_of, words_refused, refusal_of}
use Rattle.tiger_input.proofs.Told.{tells_all}
use Rattle.promises.proofs.Causes.{why_refused, runnable}
use Rattle.promises.proofs.Written.{report_written, summary_written, put_failed, no_memory, none_kept}
use Rattle.promises.proofs.Runs.{if_run_named, if_run_made, if_answer, if_meets, if_believes, if_promises}
use Rattle.promises.proofs.run_in_memory.Goals as goal

-- ---- what is written

pub returns-clause-report : goal.returns-clause-report
returns-clause-report g c = λ name workers ask is.
    let words = texts_of c.args.words.now.items in
    let run = run_of words name workers ask in
    report_written words name workers c.args.out.now c.tiger.new.out c.tiger.result.kept run (c.tiger.ensures.done is)

pub returns-clause-summary : goal.returns-clause-summary
returns-clause-summary g c = λ number ask is.
    let words = texts_of c.args.words.now.items in
    let make = made_of words number ask in
    summary_written words number c.args.out.now c.tiger.new.out c.tiger.result.kept make (c.tiger.ensures.done is)

pub returns-clause-front : goal.returns-clause-front
returns-clause-front g c =
    let text = text_for (texts_of c.args.words.now.items) in
    let ended = c.tiger.result in
    put_failed c.args.out.now c.tiger.new.out text ended.kept ended.status c.tiger.ensures.sink

pub returns-clause-no_memory : goal.returns-clause-no_memory
returns-clause-no_memory g c =
    let text = text_for (texts_of c.args.words.now.items) in
    let ended = c.tiger.result in
    no_memory c.args.out.now c.tiger.new.out text ended.kept ended.status c.tiger.ensures.sink

pub returns-clause-refused : goal.returns-clause-refused
returns-clause-refused g c = λ refused.
    let text = text_for (texts_of c.args.words.now.items) in
    let ended = c.tiger.result in
    let old = sunk_in c.args.out.now in
    let new = sunk_in c.tiger.new.out in
    let none = none_kept old new text ended.kept ended.status c.tiger.ensures.sink refused in
    (none, c.tiger.ensures.silent (refusal_of ended.status refused))

-- ---- of which run

pub returns-clause-run : goal.returns-clause-run
returns-clause-run g c = λ name workers ask.
    let words = texts_of c.args.words.now.items in
    let run = run_of words name workers ask in
    if_run_named c.args.files.now c.tiger.new.files words name workers c.tiger.result.kept run c.tiger.ensures.ran

pub returns-clause-made_run : goal.returns-clause-made_run
returns-clause-made_run g c = λ number ask.
    let words = texts_of c.args.words.now.items in
    let make = made_of words number ask in
    if_run_made c.args.files.now c.tiger.new.files words number c.tiger.result.kept make c.tiger.ensures.ran

pub returns-clause-one_answer : goal.returns-clause-one_answer
returns-clause-one_answer g c =
    let told = told_of c.args.files.now.entries in
    let answer = c.tiger.ensures.one_answer (tells_all c.args.files.now.entries) in
    if_answer told (texts_of c.args.words.now.items) c.tiger.result.kept answer

-- ---- the claims

pub returns-clause-free : goal.returns-clause-free
returns-clause-free g c =
    let words = texts_of c.args.words.now.items in
    if_meets c.args.files.now c.tiger.new.files words
    (λ (k : Kept). PutsAreFair (plan_in k) k.orders (log_in k))
    (λ k all. all.free) c.tiger.result.kept c.tiger.ensures.ran

pub returns-clause-part : goal.returns-clause-part
returns-clause-part g c =
    let words = texts_of c.args.words.now.items in
    if_meets c.args.files.now c.tiger.new.files words
    (λ (k : Kept). ViewsAreAlwaysPart (plan_in k) (log_in k))
    (λ k all. all.part.always) c.tiger.result.kept c.tiger.ensures.ran

pub returns-clause-local : goal.returns-clause-local
returns-clause-local g c =
    let words = texts_of c.args.words.now.items in
    if_meets c.args.files.now c.tiger.new.files words
    (λ (k : Kept). EntriesAreLocal (plan_in k) (log_in k))
    (λ k all. all.part.local) c.tiger.result.kept c.tiger.ensures.ran

pub returns-clause-no_return : goal.returns-clause-no_return
returns-clause-no_return g c =
    let words = texts_of c.args.words.now.items in
    if_meets c.args.files.now c.tiger.new.files words
    (λ (k : Kept). NobodyComesBack (plan_in k) (log_in k))
    (λ k all. all.no_return) c.tiger.result.kept c.tiger.ensures.ran

pub returns-clause-one_per_visit : goal.returns-clause-one_per_visit
returns-clause-one_per_visit g c =
    let words = texts_of c.args.words.now.items in
    if_meets c.args.files.now c.tiger.new.files words
    (λ (k : Kept). AreServedOnce (plan_in k) (log_in k))
    (λ k all. all.one_per_visit) c.tiger.result.kept c.tiger.ensures.ran

pub returns-clause-true_belief : goal.returns-clause-true_belief
returns-clause-true_belief g c =
    let words = texts_of c.args.words.now.items in
    if_meets c.args.files.now c.tiger.new.files words
    (λ (k : Kept). BeliefsAreTrue (log_in k))
    (λ k all. all.true_belief) c.tiger.result.kept c.tiger.ensures.ran

pub returns-clause-true_faults : goal.returns-clause-true_faults
returns-clause-true_faults g c =
    let words = texts_of c.args.words.now.items in
    if_meets c.args.files.now c.tiger.new.files words
    (λ (k : Kept). FailuresAreTrue (plan_in k) k.course.faults (log_in k))
    (λ k all. all.true_faults) c.tiger.result.kept c.tiger.ensures.ran

pub returns-clause-delivery : goal.returns-clause-delivery
returns-clause-delivery g c =
    let words = texts_of c.args.words.now.items in
    if_meets c.args.files.now c.tiger.new.files words
    (λ (k : Kept). AreServed (plan_in k) k.catalogue k.journals (end_in k) (log_in k))
    (λ k all. all.delivery) c.tiger.result.kept c.tiger.ensures.ran

pub returns-clause-in_order : goal.returns-clause-in_order
returns-clause-in_order g c =
    let words = texts_of c.args.words.now.items in
    if_meets c.args.files.now c.tiger.new.files words
    (λ (k : Kept). AreInTurn (plan_in k) (log_in k))
    (λ k all. all.in_order) c.tiger.result.kept c.tiger.ensures.ran

pub returns-clause-patient : goal.returns-clause-patient
returns-clause-patient g c =
    let words = texts_of c.args.words.now.items in
    if_meets c.args.files.now c.tiger.new.files words
    (λ (k : Kept). NobodyIsPassedOver (plan_in k) k.orders (ticks_in k.course) (log_in k))
    (λ k all. all.starts.patient) c.tiger.result.kept c.tiger.ensures.ran

pub returns-clause-commanded : goal.returns-clause-commanded
returns-clause-commanded g c =
    let words = texts_of c.args.words.now.items in
    if_meets c.args.files.now c.tiger.new.files words
    (λ (k : Kept). AreCommanded (plan_in k) k.course.beats (clock_in k) k.orders k.journals)
    (λ k all. all.starts.commanded) c.tiger.result.kept c.tiger.ensures.ran

pub returns-clause-belief_in_time : goal.returns-clause-belief_in_time
returns-clause-belief_in_time g c =
    let words = texts_of c.args.words.now.items in
    if_believes c.args.files.now c.tiger.new.files words c.tiger.result.kept c.tiger.ensures.ran

pub returns-clause-promises : goal.returns-clause-promises
returns-clause-promises g c =
    let words = texts_of c.args.words.now.items in
    if_promises c.args.files.now c.tiger.new.files words c.tiger.result.kept c.tiger.ensures.ran

-- ---- what is refused

pub returns-clause-words : goal.returns-clause-words
returns-clause-words g c =
    words_refused (texts_of c.args.words.now.items) c.tiger.result.status c.tiger.ensures.words

pub returns-clause-cause : goal.returns-clause-cause
returns-clause-cause g c = λ name workers ask.
    let words = texts_of c.args.words.now.items in
    let run = run_of words name workers ask in
    let status = c.tiger.result.status in
    why_refused c.args.files.now c.tiger.new.files name words workers status run c.tiger.ensures.input

pub returns-clause-complete : goal.returns-clause-complete
returns-clause-complete g c = λ name workers ask all none_failed put_all.
    let words = texts_of c.args.words.now.items in
    let run = run_of words name workers ask in
    c.tiger.ensures.complete (runnable c.args.files.now.entries words name workers run all) none_failed put_all

pub returns-clause-made : goal.returns-clause-made
returns-clause-made g c = λ number ask refused.
    let make = made_of (texts_of c.args.words.now.items) number ask in
    c.tiger.ensures.made number make (refusal_of c.tiger.result.status refused)

pub returns-clause-unread : goal.returns-clause-unread
returns-clause-unread g c = λ none. c.tiger.ensures.unread (no_run_of (texts_of c.args.words.now.items) none)
