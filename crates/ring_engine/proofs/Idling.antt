-- The nodes that are idle in a beat are passed over.
use Rattle.std.proofs.Common.{◌≡◌, ◌≢◌, ℕ, zero, suc, ◌+◌, List, [], ◌∷◌, Some, refl, ap, sym, ◌∙◌, subst, arith, ⊎_elim}
use Rattle.std.specs.Prelude.{slice_get, slice_set}
use Rattle.std.proofs.lemmas.Bool.{cases_eq}
use Rattle.tiger_base.specs.declared.number.Stamp.{Stamp}
use Rattle.tiger_base.specs.declared.number.LinkNo.{LinkNo}
use Rattle.tiger_base.specs.declared.number.NodeNo.{NodeNo}
use Rattle.node_kit.specs.declared.journal.Entry.{Entry}
use Rattle.node_kit.specs.Courses.{Setting, stamp_by}
use Rattle.node_kit.specs.Life.{Lifetime}
use Rattle.node_kit.specs.Links.{Links, in_links_of}
use Rattle.node_kit.specs.Steps.{Input, Deed}
use Rattle.run_facts.specs.Rings.{Traffic, Ring}
use Rattle.run_facts.proofs.Rows.{same-element}
use Rattle.ring_engine.specs.Idle.{IsIdle, AreIdle}
use Rattle.ring_engine.specs.Whole.{with_node}

-- one idle node more
pub idle-more : {M S : Type 0} (step : S → Input M → Deed M S) (beat from n : ℕ) (links : Links) (numbers : List NodeNo) (dials : List Setting) (nodes : List S) (lives : List Lifetime) (ts : List (Traffic M))
    (number : NodeNo) (d : Setting) (s : S) (life : Lifetime) → slice_get numbers n ≡ Some number → slice_get dials n ≡ Some d → slice_get nodes n ≡ Some s → slice_get lives n ≡ Some life
    → IsIdle step (stamp_by d beat) (in_links_of links number.0) s life ts
    → AreIdle step beat from n links numbers dials nodes lives ts → AreIdle step beat from (n + 1) links numbers dials nodes lives ts
idle-more {M} {S} step beat from n links numbers dials nodes lives ts number d s life hn hd hs hl is below k number' d' s' life' low high hn' hd' hs' hl' = ⊎_elim
    (λ (same : k ≡ n).
    let en : number ≡ number' = same-element numbers n number number' hn (ap (slice_get numbers) (sym same) ∙ hn') in
    let ed : d ≡ d' = same-element dials n d d' hd (ap (slice_get dials) (sym same) ∙ hd') in
    let es : s ≡ s' = same-element nodes n s s' hs (ap (slice_get nodes) (sym same) ∙ hs') in
    let el : life ≡ life' = same-element lives n life life' hl (ap (slice_get lives) (sym same) ∙ hl') in
    subst (λ (m : NodeNo). IsIdle step (stamp_by d' beat) (in_links_of links m.0) s' life' ts) en
    (subst (λ q. IsIdle step (stamp_by q beat) (in_links_of links number.0) s' life' ts) ed
    (subst (λ q. IsIdle step (stamp_by d beat) (in_links_of links number.0) q life' ts) es
    (subst (λ q. IsIdle step (stamp_by d beat) (in_links_of links number.0) s q ts) el is))))
    (λ (other : k ≢ n). below k number' d' s' life' low (omega arith) hn' hd' hs' hl')
    (cases_eq k n)

pub shown-idle : {M S : Type 0} (step : S → Input M → Deed M S) (stamp stamp' : Stamp) (links : List LinkNo) (s : S) (life : Lifetime) (ts : List (Traffic M)) → stamp ≡ stamp'
    → IsIdle step stamp links s life ts → IsIdle step stamp' links s life ts
shown-idle step stamp stamp' links s life ts same is = subst (λ q. IsIdle step q links s life ts) same is

set-same : {A : Type 0} (xs : List A) (n : ℕ) (x : A) → slice_get xs n ≡ Some x → slice_set xs n x ≡ xs
set-same [] n x e = refl
set-same (y ∷ ys) zero x e = let same : x ≡ y = same-element (y ∷ ys) zero x y e refl in ap (λ z. z ∷ ys) same
set-same (y ∷ ys) (suc n) x e = ap (λ zs. y ∷ zs) (set-same ys n x e)

-- a node that stays as it is changes nothing in the ring
pub with-same : {M S : Type 0} (r : Ring M S) (n : ℕ) (s : S) (life : Lifetime) (j : List Entry) → slice_get r.nodes n ≡ Some s → slice_get r.lives n ≡ Some life
    → slice_get r.journals n ≡ Some j → with_node r n s life j r.channels ≡ r
with-same r n s life j hs hl hj = rw (set-same r.nodes n s hs, set-same r.lives n life hl, set-same r.journals n j hj) refl
