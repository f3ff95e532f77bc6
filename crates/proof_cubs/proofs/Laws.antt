-- All laws of records, starts, heartbeats and deschedules that the cubs' own rules give of one life of each.
use Rattle.std.proofs.Common.{List}
use Rattle.slot_plan.specs.declared.params.Params.{Params}
use Rattle.slot_plan.specs.Conditions.{IsPlan}
use Rattle.node_kit.specs.declared.course.Order.{Order}
use Rattle.proof_schedule.specs.Facts.{Facts}
use Rattle.proof_lives.specs.Lives.{Lives}
use Rattle.proof_lives.proofs.Fitting.{Fits, alone_fits}
use Rattle.proof_lives.proofs.Once.{once}
use Rattle.proof_lives.specs.FactsBy.{Beyond, facts_by, facts_among, cubs_alone}
use Rattle.proof_lives.proofs.Cubs.{hold_laws}
use Rattle.proof_lives.specs.InOrder.{AreInOrder}
use Rattle.proof_lives.proofs.Meeting.{taken, meets, late}
use Rattle.proof_facts.specs.Laws.{CubRest, LifeLaws}
use Rattle.proof_cubs.specs.Claims.{CubsMeetTheLaws}
use Rattle.proof_cubs.proofs.Setting.{Setting}
use Rattle.proof_cubs.proofs.Coming.{comes}
use Rattle.proof_cubs.proofs.Inserting.{inserts, inserted, free}
use Rattle.proof_cubs.proofs.Sending.{sends, forwards}
use Rattle.proof_cubs.proofs.Showing.{shows}
use Rattle.proof_cubs.proofs.Waiting.{waits, waits_shown}
use Rattle.proof_cubs.proofs.Watching.{watch_laws, watches}

module _ (p : Params) (lives : Lives) (beyond : Beyond) (set : Setting p lives beyond) (orders : List Order)
    (order : AreInOrder p lives beyond orders) where
  abbrev R : Facts
  R = facts_by p lives beyond

  cub_rest : CubRest p R
  cub_rest = record {
    watch = watch_laws p lives beyond set;
    holds = hold_laws p set.plan lives set.lived set.formed beyond set.fits;
    comes = λ put. comes p lives beyond set put;
    once = λ a b same. once p lives orders set.plan order.started a b same;
    waits = λ s n k le w first slot window. waits p lives beyond set orders order s n k le w first slot window;
    waits_shown = λ s n k le w first slot window. waits_shown p lives beyond set orders order s n k le w first slot window;
    watches = λ w first. watches p lives beyond set w first;
  }

  laws_in : LifeLaws p R (facts_among p lives beyond)
  laws_in = record {
    states = record {
      inserts = λ put. inserts p lives beyond set put;
      inserted = λ w. inserted p lives beyond set w;
      free = λ put entered le slot. free p lives beyond set put entered le slot;
      taken = λ w. taken p lives beyond w;
      meets = λ got low high. meets p set.plan lives beyond orders order set.fits got low high;
      late = λ w back le. late p lives beyond set.lived set.fits w back le;
      sends = λ w. sends p lives beyond set w;
      ahead = λ w. w.ahead;
      forwards = λ entered le w first here more undue soon. forwards p lives beyond set entered le w here more undue soon;
      shows = λ w. shows p lives beyond set w;
    };
    rest = cub_rest;
  }

-- Whatever is known beyond the lives of cubs whose messages are in order, if it fits them, they meet the laws.
pub life_laws : (p : Params) (lives : Lives) (beyond : Beyond) (orders : List Order) → IsPlan p
    → AreInOrder p lives beyond orders → Fits p lives beyond → LifeLaws p (facts_by p lives beyond) (facts_among p lives beyond)
life_laws p lives beyond orders plan order fits =
    let set : Setting p lives beyond = record { plan = plan; lived = order.lived; formed = order.formed; fits = fits } in
    laws_in p lives beyond set orders order

pub cubs_meet : CubsMeetTheLaws
cubs_meet p lives orders plan order =
    life_laws p lives (cubs_alone p lives) orders plan order (alone_fits p lives)
