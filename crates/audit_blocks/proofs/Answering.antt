-- How the answers of tables are read.
use Rattle.std.proofs.Common.{◌≡◌, ℕ, ◌+◌, Bool, true, false, ◌&&◌, not, nat_lt, List, Option, refl, ap, sym, ◌∙◌}
use Rattle.std.specs.Prelude.{is_some}
use Rattle.std.specs.List.{list_any}
use Rattle.slot_plan.specs.declared.params.Params.{Params}
use Rattle.slot_plan.specs.Times.{time_of}
use Rattle.node_kit.specs.declared.journal.Entry.{Entry}
use Rattle.run_facts.specs.Timed.{is_died}
use Rattle.run_model.specs.declared.parcels.Parcel.{Parcel}
use Rattle.run_model.specs.Tests.{is_empty, died_between}
use Rattle.audit_blocks.specs.declared.receipts.Came.{Came}
use Rattle.audit_blocks.specs.Told.{TellsCame}
use Rattle.audit_blocks.proofs.Journals.{any_alike}

twice : (b : Bool) → not (not b) ≡ b
twice true = refl
twice false = refl

unnegated : (a b : Bool) → not a ≡ not b → a ≡ b
unnegated a b e = sym (twice a) ∙ (ap not e ∙ twice b)

pub none_of : (o came : Option Came) (r : Bool) (ps qs : List Parcel) → is_some o ≡ not r → o ≡ came → TellsCame came ps → ps ≡ qs
    → r ≡ is_empty qs
none_of o came r ps qs none is tells same =
    unnegated r (is_empty qs)
    (sym none ∙ (ap (λ (q : Option Came). is_some q) is ∙ (tells.any ∙ ap (λ (q : List Parcel). not (is_empty q)) same)))

pub not_some : (has told any : Bool) (ps : List Parcel) → has ≡ told → told ≡ any → any ≡ not (is_empty ps) → not has ≡ is_empty ps
not_some has told any ps e f g = ap not (e ∙ (f ∙ g)) ∙ twice (is_empty ps)

pub grouped_deaths : (p : Params) (late time end : ℕ) (journal : List Entry)
    → list_any (λ e. is_died e.what && (nat_lt time (time_of p e.stamp.beat + late) && nat_lt (time_of p e.stamp.beat) end)) journal
    ≡ died_between p late time end journal
grouped_deaths p late time end journal =
    any_alike (λ e. is_died e.what && (nat_lt time (time_of p e.stamp.beat + late) && nat_lt (time_of p e.stamp.beat) end))
    (λ e. is_died e.what && nat_lt time (time_of p e.stamp.beat + late) && nat_lt (time_of p e.stamp.beat) end)
    (λ e. grouped (is_died e.what) (nat_lt time (time_of p e.stamp.beat + late)) (nat_lt (time_of p e.stamp.beat) end)) journal
  where
    grouped : (a b c : Bool) → (a && (b && c)) ≡ ((a && b) && c)
    grouped true b c = refl
    grouped false b c = refl
