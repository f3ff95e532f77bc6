-- What the worked runs share: by their one Put, records, states and starts meet their laws.
use Rattle.std.proofs.Common.{◌≡◌, ℕ, zero, suc, ◌+◌, ◌*◌, ◌<◌, ◌≤◌, refl, sym, ap, subst, ◌∙◌, arith, ⊎_elim, inl, inr, eq-or-lt_of_le}
use Rattle.std.specs.Prelude.{List, [], ◌∷◌}
use Rattle.std.specs.List.{Contains}
use Rattle.std.proofs.lemmas.List.Elements.{Contains-append_left, Contains-append_right, Contains-push}
use Rattle.tiger_base.specs.declared.tenancy.Ask.{Ask}
use Rattle.tiger_base.specs.declared.tenancy.Tenancy.{Tenancy}
use Rattle.slot_plan.specs.Times.{time_of, first_due, due, cub_of, disk_of}
use Rattle.slot_plan.specs.Samples.{small}
use Rattle.proof_schedule.specs.Example.{order, viewer, first_beat}
use Rattle.proof_schedule.specs.Facts.{Facts, IsFirstLife, IsSameLife}
use Rattle.proof_schedule.specs.LinkLaws.{LinkLaws, HeardIn}
use Rattle.proof_schedule.specs.StateLaws.{StateLaws, Inserts, IsShown}
use Rattle.proof_schedule.specs.StartLaws.{StartLaws, Comes}
use Rattle.proof_schedule.specs.Logs.{Fact, Came, Ticked, Beat}
use Rattle.proof_schedule.proofs.Lives.{first_same_life}
use Rattle.proof_schedule.proofs.Unstopped.{IsWithoutStops}

-- A fact is in a list.
pub record IsIn (f : Fact) (fs : List Fact) : Type 0 where
  pub there : Contains fs f

-- The first element of a list is in it.
pub head : {f : Fact} {fs : List Fact} → IsIn f (f ∷ fs)
head {f} {fs} = record { there = Contains-append_left (f ∷ []) fs f (Contains-push [] f) }

-- So is each of the rest.
pub tail : {f g : Fact} {fs : List Fact} → IsIn f fs → IsIn f (g ∷ fs)
tail {f} {g} {fs} h = record { there = Contains-append_right (g ∷ []) fs f h.there }

-- In beat 0 each of the first n cubs comes to its tick, ends the beat, and sends a heartbeat.
pub record IsFirst (n c : ℕ) : Type 0 where
  pub came : IsIn (Came c 0) (first_beat n)
  pub ticked : IsIn (Ticked c 0 0) (first_beat n)
  pub beats : IsIn (Beat c 0) (first_beat n)

-- The list of that beat says so.
pub in_first : (n c : ℕ) → c < n → IsFirst n c
in_first zero c l = absurd (omega arith)
in_first (suc n) c l = ⊎_elim
    (λ (e : c ≡ n).
    let one : IsFirst (suc n) n = record {
      came = head;
      ticked = tail head;
      beats = tail (tail head);
    } in
    subst (λ v. IsFirst (suc n) v) (sym e) one)
    (λ (k : c < n).
    let o = in_first n c k in
    record {
      came = tail (tail (tail o.came));
      ticked = tail (tail (tail o.ticked));
      beats = tail (tail (tail o.beats));
    })
    (eq-or-lt_of_le (let w : c ≤ n = omega arith in w))

-- When a beat of the small plan begins.
pub time_is : (b : ℕ) → time_of small b ≡ b * 10000
unfolding time_of
time_is b = refl

-- When the viewer's visit is due.
due_is : due small 1 0 ≡ 500000
unfolding due first_due
due_is = refl

-- The viewer's visit is cub 0's.
cub_is : cub_of small 0 ≡ 0
unfolding cub_of
cub_is = refl

-- The next cub is cub 1.
next_is : cub_of small (0 + 1) ≡ 1
unfolding cub_of
next_is = refl

-- The viewer's block is on disk 0.
disk_is : disk_of small 0 ≡ 0
unfolding disk_of
disk_is = refl

-- In run r cub 0, which never comes back, puts the viewer in beat 1, and nobody puts another one.
-- No state has come, and nothing is stopped.
pub record OnePut (r : Facts) : Type 0 where
  pub puts : {c b : ℕ} {t : Tenancy} → r.Put c t b → (c ≡ 0) × (t ≡ viewer) × (b ≡ 1)
  pub inserts : {c n b : ℕ} {t : Tenancy}
      → r.Inserted c t n b → (c ≡ 0) × (t ≡ viewer) × (n ≡ 0) × (b ≡ 1)
  pub shows : {c n b : ℕ} {t : Tenancy}
      → r.Shows c t n b → (c ≡ 0) × (t ≡ viewer) × (n ≡ 0) × (b ≡ 1)
  pub sends : {a k m b : ℕ} {t : Tenancy}
      → r.Sent a k t m b → (a ≡ 0) × (k ≡ 1) × (t ≡ viewer) × (m ≡ 0) × (b ≡ 1)
  pub orders : {ask : Ask} {b : ℕ} → r.Begun ask b → (ask ≡ order) × (b ≡ 0)
  pub asks : {c b : ℕ} {ask : Ask} → r.Asked c ask b → (c ≡ 0) × (ask ≡ order) × (b ≡ 1)
  pub no_apart : {c b : ℕ} {ask : Ask} → r.AskedApart c ask b → ⊥
  pub no_took : {c n b : ℕ} {t : Tenancy} → r.Took c t n b → ⊥
  pub no_got : {c m b : ℕ} {t : Tenancy} → r.Got c t m b → ⊥
  pub unstopped : IsWithoutStops r
  pub first : (b : ℕ) → IsFirstLife r 0 b
  pub came : r.Came 0 1
  pub ticked : r.Ticked 0 1 10000
  pub put : r.Put 0 viewer 1
  pub inserted : r.Inserted 0 viewer 0 1
  pub sent : r.Sent 0 1 viewer 0 1
  pub begun : r.Begun order 0
  pub asked : r.Asked 0 order 1

module _ (r : Facts) (o : OnePut r) where
  -- The links: one start has come, and no state.
  pub links : ((b : ℕ) → r.Came 1 b → IsSameLife r 1 1 b → 3 ≤ b → ⊥)
      → ((a x c b : ℕ) → r.Beat a x → r.Came c b → IsSameLife r c x b → x + 2 ≤ b
      → HeardIn r c x (x + 2))
      → LinkLaws small r
  links lost heard = record {
    carried = λ h. absurd (o.no_got h);
    arrives = λ {a} {k} {t} {m} {x} c b h to w life late.
        let q = o.sends h in
        let beat = q.4 in
        let next : c ≡ 1 = to ∙ next_to q.0 q.1 in
        let came = subst (λ v. r.Came v b) next w in
        let since = subst (λ v. IsSameLife r c v b) beat life in
        absurd (lost b came (subst (λ v. IsSameLife r v 1 b) next since) (omega arith));
    asked_from = λ {c} {ask} {y} h.
        let k = o.asks h in
        let y_is = k.2 in
        let begun = subst (λ v. r.Begun v 0) (sym k.1) o.begun in
        record { beat = 0; begun = begun; later = omega arith; soon = omega arith };
    apart_from = λ h. absurd (o.no_apart h);
    heard = λ {a} {x} c b h to w life late. heard a x c b h w life late;
    tag_from = λ {c} {v} {s} {q} {y} h. absurd (o.unstopped.tag c v s q y h);
    bare_from = λ {c} {v} {y} h. absurd (o.unstopped.bare c v y h);
    told_arrives = λ {a} {k} {v} {s} {q} {x} c b h to w life late.
        absurd (o.unstopped.told a k v s q x h);
    tag_arrives = λ {v} {s} {n} {x} c b h to w life late. absurd (o.unstopped.at v s n x h);
    bare_arrives = λ {v} {d} {x} c b h to w life late. absurd (o.unstopped.waiting v d x h);
  }
    where
      -- What cub 0 sends to the next cub goes to cub 1.
      next_to : {a k : ℕ} → a ≡ 0 → k ≡ 1 → cub_of small (a + k) ≡ 1
      next_to {a} {k} e f = ap (λ v. cub_of small (v + k)) e
          ∙ ap (λ v. cub_of small (0 + v)) f
          ∙ next_is

  -- The Put is in the window, at a visit of cub 0.
  put_is : Inserts small r 0 viewer 1
  put_is =
      let time = time_is 1 in
      let visit = due_is in
      record {
        reading = 10000;
        tick = record { came = o.came; low = omega arith; high = omega arith };
        whole = inl o.ticked;
        above = omega arith;
        below = omega arith;
        within = omega arith;
        entered = o.inserted;
        first = o.first 1;
        who = inl (record { own = sym cub_is; sent = o.sent });
      }

  -- What holds of the viewer's Put by cub 0 in beat 1 holds of each Put.
  of_put : (P : ℕ → Tenancy → ℕ → Type 0) → P 0 viewer 1 → {c x : ℕ} {t : Tenancy}
      → (c ≡ 0) × (t ≡ viewer) × (x ≡ 1) → P c t x
  of_put P one {c} {x} {t} k = subst (λ v. P v t x) (sym k.0)
      (subst (λ v. P 0 v x) (sym k.1) (subst (λ v. P 0 viewer v) (sym k.2) one))

  -- Records and states: one record enters and one state goes out, both by the Put.
  pub states : StateLaws small r
  states = record {
    inserts = λ h. of_put (λ c t x. Inserts small r c t x) put_is (o.puts h);
    inserted = λ {c} {t} {n} {x} h.
        let k = o.inserts h in
        let put = of_put (λ c t x. r.Put c t x) o.put {c = c} {x = x} {t = t} (k.0, k.1, k.3) in
        let first : t.first ≡ 0 = ap (λ (v : Tenancy). v.first) k.1 in
        let own = k.0 ∙ sym cub_is ∙ ap (λ v. cub_of small v) (sym first) in
        (put, inl (k.2 ∙ sym first, inl own));
    free = λ {c} {t} {u} {x} {y} h e le slot.
        let k = o.puts h in
        ⊎_elim
        (λ q. absurd (o.no_took q))
        (λ q. inl (ap (λ (v : Tenancy). v.instance.0) ((o.inserts q).1 ∙ sym k.1)))
        e;
    taken = λ h. absurd (o.no_took h);
    meets = λ h low high. absurd (o.no_got h);
    late = λ h back le. absurd (o.no_took h);
    sends = λ {a} {k} {t} {m} {x} h.
        let q = o.sends h in
        let put = of_put (λ c t x. r.Put c t x) o.put {c = a} {x = x} {t = t} (q.0, q.2, q.4) in
        let first : t.first ≡ 0 = ap (λ (v : Tenancy). v.first) q.2 in
        let own = q.0 ∙ sym cub_is ∙ ap (λ v. cub_of small v) (sym first) in
        inl (record { put = put; first = q.3 ∙ sym first; near = q.1; own = own });
    ahead = λ h. inl (o.sends h).1;
    forwards = λ {a} {t} {n} {y} {b} {l} e le w first own more undue soon. absurd (⊎_elim
        (λ k. o.no_took k)
        (λ k.
        let q = o.inserts k in
        let visit = q.2 in
        let last : t.last ≡ 0 = ap (λ (v : Tenancy). v.last) q.1 in
        let none : ⊥ = omega arith in
        none)
        e);
    shows = λ {c} {n} {b} {t} h. shown (o.shows h);
  }
    where
      -- The record stands after the tick of the Put, which is before it is due.
      shown : {c n b : ℕ} {t : Tenancy} → (c ≡ 0) × (t ≡ viewer) × (n ≡ 0) × (b ≡ 1)
          → IsShown small r c t n b
      shown {c} {n} {b} {t} k =
          let visit = due_is in
          let one : IsShown small r 0 viewer 0 1 = record {
            reading = 10000;
            ticked = o.ticked;
            undue = omega arith;
            beat = 1;
            entered = inr o.inserted;
            by = omega arith;
            since = λ x h le life. absurd (o.unstopped.reached 0 0 x h);
            life = first_same_life r 0 1 (o.first 1) 1;
          } in
          of_put (λ c t b. IsShown small r c t n b)
          (subst (λ v. IsShown small r 0 viewer v 1) (sym k.2) one) (k.0, k.1, k.3)

  -- The start of the Put is the one order's.
  start_is : Comes small r 0 viewer 1
  start_is = record {
    ask = order;
    asked = record { instance = refl; file = refl; count = refl; disk = sym disk_is };
    start = 1;
    came = inl o.asked;
    before = omega arith;
    since = λ x h le life. absurd (o.unstopped.reached 0 0 x h);
    unshown = λ u n y h same le. absurd (o.no_took h);
  }

  -- Starts: the one that came is put in the beat in which it came.
  pub starts : StartLaws small r
  starts = record {
    one_order = λ h k same.
        let a = o.orders h in
        let q = o.orders k in
        (q.0 ∙ sym a.0, q.1 ∙ sym a.1);
    gone_after = λ {ask} {o = b} {z} h k. absurd (o.unstopped.gone ask.instance.0 z k);
    comes = λ h. of_put (λ c t x. Comes small r c t x) start_is (o.puts h);
    once = λ h k same.
        let a = o.puts h in
        let q = o.puts k in
        (q.1 ∙ sym a.1, q.2 ∙ sym a.2);
    waits = λ {c} {ask} {y} {b} {l} s n k le w first slot window. ⊎_elim
        (λ a.
        let q = o.asks a.0 in
        let start = q.2 in
        inr (inl (record {
          beat = 1;
          tenancy = viewer;
          same = ap (λ (v : Ask). v.instance.0) (sym q.1);
          visit = 0;
          how = inl (subst (λ v. r.Put v viewer 1) (sym q.0) o.put);
          by = omega arith;
        })))
        (λ a. absurd (o.no_apart a.0))
        k.how;
  }
