-- If nothing is stopped, the laws of stops and of deschedules hold, since they find no premise.
use Rattle.std.specs.Prelude.{ℕ}
use Rattle.slot_plan.specs.declared.params.Params.{Params}
use Rattle.proof_schedule.specs.Facts.{Facts}
use Rattle.proof_schedule.specs.HoldLaws.{HoldLaws}
use Rattle.proof_schedule.specs.StopLaws.{StopLaws}

-- Nothing is stopped, and no deschedule is sent or comes.
pub record IsWithoutStops (r : Facts) : Type 0 where
  pub gone : (v z : ℕ) → r.Gone v z → ⊥
  pub at : (v s n z : ℕ) → r.StoppedAt v s n z → ⊥
  pub waiting : (v d z : ℕ) → r.StoppedWaiting v d z → ⊥
  pub told : (a k v s q x : ℕ) → r.Told a k v s q x → ⊥
  pub reached : (c v y : ℕ) → r.Reached c v y → ⊥
  pub tag : (c v s q y : ℕ) → r.GotTag c v s q y → ⊥
  pub bare : (c v y : ℕ) → r.GotBare c v y → ⊥
  pub passed : (c v s q y : ℕ) → r.Passed c v s q y → ⊥

module _ (p : Params) (r : Facts) (none : IsWithoutStops r) where
  -- The controller's laws of stops hold,
  pub no_stops : StopLaws p r
  no_stops = record {
    how = λ {v} {z} h. absurd (none.gone v z h);
    gone_at = λ {v} {s} {n} {z} h. absurd (none.at v s n z h);
    gone_waiting = λ {v} {d} {z} h. absurd (none.waiting v d z h);
    gone_once = λ {v} {y} {z} h k. absurd (none.gone v y h);
    one_place = λ {v} {s} {n} {y} {u} {m} {z} h k. absurd (none.at v s n y h);
    one_way = λ {v} {s} {n} {y} {d} {z} h k. none.at v s n y h;
    place = λ {v} {s} {n} {z} h. absurd (none.at v s n z h);
    waiting = λ {v} {d} {z} h. absurd (none.waiting v d z h);
    unplaced = λ {c} {v} {d} {x} {z} {t} h i same. absurd (none.waiting v d z h);
    unheard = λ {c} {v} {d} {y} {z} {t} h i next same. absurd (none.waiting v d z h);
    up = λ {v} {d} {z} {c} {a} h low small. absurd (none.waiting v d z h);
  }

  -- and so do the cubs' laws of deschedules.
  pub no_holds : HoldLaws p r
  no_holds = record {
    reached = λ {c} {v} {y} h. absurd (none.reached c v y h);
    reached_tag = λ {c} {v} {s} {q} {y} h. absurd (none.tag c v s q y h);
    reached_bare = λ {c} {v} {y} h. absurd (none.bare c v y h);
    pass = λ {c} {v} {s} {q} {y} h. absurd (none.passed c v s q y h);
    passes = λ {c} {v} {s} {q} {y} {b} h w le life soon. absurd (none.passed c v s q y h);
    told = λ {a} {k} {v} {s} {q} {x} h. absurd (none.told a k v s q x h);
    told_next = λ {a} {k} {v} {s} {q} {x} h. absurd (none.told a k v s q x h);
    tag_passes = λ {c} {v} {s} {q} {y} h to. absurd (none.tag c v s q y h);
    record_passes = λ {c} {n} {x} {y} {t} h e life undue. absurd (none.bare c t.instance.0 y h);
    pass_once = λ {c} {v} {s} {q} {y} {u} {m} {z} h k le life. absurd (none.passed c v s q y h);
    took = λ {c} {n} {x} {b} {t} h k l life. absurd (none.reached c t.instance.0 b k);
  }
