-- Pieces that are put one after the other.
use Rattle.std.proofs.Common.{◌≡◌, ℕ, ◌+◌, ◌-◌, ◌≤◌, List, ◌++◌, length, take, drop, Option, Some, None, sym, ap, subst, ◌∙◌, append_assoc, length-drop, arith}
use Rattle.std.proofs.lemmas.List.{length-take, take-take, take-append-drop}
use Rattle.outside.specs.Written.{SinkState, Appended, FrontAppended, SinkCause}
use Rattle.outside.specs.declared.sink.SinkFault.{SinkFault}
use Rattle.outside.specs.declared.sink.SinkFault.TheVariants as faults
use Rattle.tiger_input.specs.Ending.{IsWritten, TextCause}

pub Appended-more : (old mid new : Option (List ℕ)) (done piece : List ℕ) → Appended old mid done → Appended mid new piece → Appended old new (done ++ piece)
Appended-more None None None done piece a b = tt
Appended-more None None (Some new) done piece a b = b
Appended-more None (Some mid) new done piece a b = absurd a
Appended-more (Some old) None new done piece a b = absurd a
Appended-more (Some old) (Some mid) None done piece a b = b
Appended-more (Some old) (Some mid) (Some new) done piece a b = b ∙ rw a (simp append_assoc)

pub FrontAppended-more : (old mid new : Option (List ℕ)) (done piece rest all : List ℕ) → all ≡ done ++ (piece ++ rest) → Appended old mid done → FrontAppended mid new piece → FrontAppended old new all
FrontAppended-more old mid new done piece rest all e a f =
    (done ++ f.0, f.1 ++ rest, e ∙ ap (λ (q : List ℕ). done ++ (q ++ rest)) f.2 ∙ simp append_assoc, Appended-more old mid new done f.0 a f.3)

-- what was written before a piece failed is a front of the whole
pub TextCause-at : (fault : SinkFault) (old mid new : SinkState) (done piece rest all : List ℕ)
    → all ≡ done ++ (piece ++ rest) → IsWritten old mid done → mid.faults ≡ old.faults
    → SinkCause mid new piece fault → TextCause old new all fault
TextCause-at faults.Failed old mid new done piece rest all e a same cause =
    (omega (arith, cause.0), FrontAppended-more old.written mid.written new.written done piece rest all e a cause.1)
TextCause-at faults.NoMemory old mid new done piece rest all e a same cause =
    let stays = subst (λ (w : Option (List ℕ)). Appended old.written w done) (sym cause.1) a in
    (omega (arith, cause.0), (done, piece ++ rest, e, stays))

-- at most one put of a text fails
pub TextCause-faults : (fault : SinkFault) (old new : SinkState) (all : List ℕ)
    → TextCause old new all fault → new.faults ≤ old.faults + 1
TextCause-faults faults.Failed old new all cause = omega (arith, cause.0)
TextCause-faults faults.NoMemory old new all cause = omega (arith, cause.0)

-- a part of n bytes behind the first bytes of a text
pub part-within : (text : List ℕ) (done n : ℕ) → n ≤ length (take (length text - done) (drop done text)) → n ≤ length text - done
part-within text done n le = omega (arith, length-take (length text - done) (drop done text))

pub part-is : (text : List ℕ) (done n : ℕ) → n ≤ length text - done → take n (take (length text - done) (drop done text)) ≡ take n (drop done text)
part-is text done n le = take-take n (length text - done) (drop done text) le

pub length-part : (text : List ℕ) (done n : ℕ) → n ≤ length text - done → length (take n (drop done text)) ≡ n
length-part text done n le = omega (arith, length-take n (drop done text), length-drop done text)

pub around-part : (text : List ℕ) (done n : ℕ) → text ≡ take done text ++ (take n (drop done text) ++ drop n (drop done text))
around-part text done n = sym (ap (λ (q : List ℕ). take done text ++ q) (take-append-drop n (drop done text)) ∙ take-append-drop done text)
