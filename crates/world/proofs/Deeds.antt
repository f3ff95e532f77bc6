-- A node's step, once its outputs are written down and sent.
use Rattle.std.proofs.Common.{◌≡◌, ℕ, List, [], ◌∷◌, ◌++◌, map, Option, ap, sym, ◌∙◌, subst}
use Rattle.std.specs.List.{AllByRecursion}
use Rattle.tiger_base.specs.declared.number.Stamp.{Stamp}
use Rattle.tiger_base.specs.declared.number.LinkNo.{LinkNo}
use Rattle.tiger_base.specs.declared.message.Note.{Note}
use Rattle.slot_plan.specs.declared.params.Params.{Params}
use Rattle.node_kit.specs.declared.journal.What.TheVariants.{Got}
use Rattle.node_kit.specs.declared.journal.Entry.{Entry}
use Rattle.node_kit.specs.declared.outbox.Out.{Out}
use Rattle.node_kit.specs.Steps.{Input, Deed, Acts, entry_of}
use Rattle.node_kit.specs.Steps.Input.{Take, Tick}
use Rattle.ring_world.specs.Machine.{Way}
use Rattle.world.specs.Living.{StandsIn, HasDone, left_by}
use Rattle.world.specs.Posting.{posted, IsPostable}
use Rattle.world.proofs.Posts.{postable_all, postable_left}

module _ {M S : Type 0} (note : M → Note) (step : S → Input M → Deed M S) (stands : S → Params → ℕ → Type 0) (s s' : S) (before after cut : List (Out M)) (sends : Option ℕ)
    (left : cut ≡ left_by sends after) where
  outs_are : (i : Input M) → Acts note step stands i s s' before after → before ≡ [] → after ≡ (step s i).outs
  outs_are i acted none = acted.appended ∙ ap (λ os. os ++ (step s i).outs) none

  pub postable_event : (i : Input M) (k : ℕ) → Acts note step stands i s s' before after → before ≡ [] → StandsIn stands k s
      → AllByRecursion (IsPostable k) cut
  postable_event i k acted none at =
      subst (AllByRecursion (IsPostable k)) (sym (left ∙ ap (left_by sends) (outs_are i acted none)))
      (postable_left k sends (step s i).outs
      (postable_all note at.params at.number k (step s i).outs at.all (acted.allowed at.params at.number at.here)))

  pub has_taken : (stamp : Stamp) (link : LinkNo) (msg : M) (noted : Note) (j j1 j2 : List Entry) (ways ways' : List (Way M))
      → Acts note step stands (Take stamp link msg) s s' before after → before ≡ [] → noted ≡ note msg → j ≡ []
      → j1 ≡ j ++ (record { stamp = stamp; what = Got link noted }) ∷ [] → j2 ≡ j1 ++ map (entry_of note stamp) cut
      → ways' ≡ posted stamp.beat cut ways
      → HasDone note step stands (Take stamp link msg) sends s s' j2 ways ways'
  has_taken stamp link msg noted j j1 j2 ways ways' acted none says empty got wrote sent =
      let outs = left ∙ ap (left_by sends) (outs_are (Take stamp link msg) acted none) in
      record {
        state = acted.moved;
        journal = wrote ∙ ap (λ x. x ++ map (entry_of note stamp) cut)
            (got ∙ ap (λ x. x ++ (record { stamp = stamp; what = Got link noted }) ∷ []) empty ∙ ap (λ w. (record { stamp = stamp; what = Got link w }) ∷ []) says)
            ∙ ap (λ os. (record { stamp = stamp; what = Got link (note msg) }) ∷ map (entry_of note stamp) os) outs;
        ways = sent ∙ ap (λ os. posted stamp.beat os ways) outs;
        stays = acted.stays;
      }

  pub has_ticked : (stamp : Stamp) (j j2 : List Entry) (ways ways' : List (Way M))
      → Acts note step stands (Tick stamp) s s' before after → before ≡ [] → j ≡ []
      → j2 ≡ j ++ map (entry_of note stamp) cut → ways' ≡ posted stamp.beat cut ways
      → HasDone note step stands (Tick stamp) sends s s' j2 ways ways'
  has_ticked stamp j j2 ways ways' acted none empty wrote sent =
      let outs = left ∙ ap (left_by sends) (outs_are (Tick stamp) acted none) in
      record {
        state = acted.moved;
        journal = wrote ∙ ap (λ x. x ++ map (entry_of note stamp) cut) empty ∙ ap (map (entry_of note stamp)) outs;
        ways = sent ∙ ap (λ os. posted stamp.beat os ways) outs;
        stays = acted.stays;
      }
