-- The words that lines begin with.
use Rattle.std.specs.Prelude.{ℕ, List, codes}
use Rattle.audit_text.specs.declared.item.Word.{Word}
use Rattle.audit_text.specs.declared.item.Word.TheVariants as word

abbrev pub letters : Word → List ℕ
letters word.Tiger = codes "tiger"
letters word.Plan = codes "plan"
letters word.Beats = codes "beats"
letters word.Fixed = codes "fixed"
letters word.Drawn = codes "drawn"
letters word.Offsets = codes "offsets"
letters word.Death = codes "death"
letters word.Fault = codes "fault"
letters word.File = codes "file"
letters word.Begin = codes "begin"
letters word.Finish = codes "finish"
letters word.Node = codes "node"
letters word.Got = codes "got"
letters word.Sent = codes "sent"
letters word.Took = codes "took"
letters word.Dropped = codes "dropped"
letters word.Queued = codes "queued"
letters word.Unqueued = codes "unqueued"
letters word.Put = codes "put"
letters word.Gone = codes "gone"
letters word.ReadFailed = codes "readfailed"
letters word.Believed = codes "believed"
letters word.Died = codes "died"
letters word.Returned = codes "returned"
letters word.Digest = codes "digest"
letters word.End = codes "end"
