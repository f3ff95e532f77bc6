-- What holds of the deaths that were read.
use Rattle.std.proofs.Common.{◌≡◌, ℕ, zero, suc, ◌+◌, ◌-◌, ◌%◌, ◌≤◌, ◌<◌, min, nat_le, Bool, true, false, cond, ◌||◌, List, [], ◌∷◌, ◌++◌, length, map, get_or, Option, Some, None, option_and_then, option_map, codes, Ok, refl, subst, sym, ap, ◌∙◌, arith, ⊎_elim, inl, inr}
use Rattle.std.specs.Prelude.{◌⊎◌, ◌==◌, IfSome, is_some, slice_get}
use Rattle.std.specs.List.{All, AllByRecursion, list_any, count_by, range_with_len}
use Rattle.std.proofs.lemmas.Bool.{cases_Bool, cases_eq, eq-eqb, ne_eqb, leb-true}
use Rattle.std.proofs.Math.Nat.{mod_self, mod-eq_of_lt, mod-lt}
use Rattle.std.proofs.lemmas.Bool.{false≢true}
use Rattle.std.proofs.lemmas.Option.{same_Some, slice_get-get_or}
use Rattle.std.proofs.lemmas.List.Elements.{All-map}
use Rattle.std.proofs.lemmas.List.Sums.{sum_by-cons}
use Rattle.std.proofs.lemmas.List.FromFn.{length-map-range_with_len, get_or-map-range_with_len, map-range_with_len_more}
use Rattle.serde_json.specs.Data.{Data}
use Rattle.serde_json.specs.Find.{get}
use Rattle.scenario_read.specs.declared.deaths.Death.{Death}
use Rattle.node_kit.specs.Courses.{CutsDeath, ReturnsLater}
use Rattle.json_look.specs.Json.{below_at, has_only, is_one_of}
use Rattle.scenario_read.specs.Items.{items_of}
use Rattle.scenario_read.specs.declared.deaths.DeathRows.{DeathRows}
use Rattle.scenario_read.specs.Deaths.{most_left, are_close, after_of, if_behind, return_of, death_in_beat, death_after, deaths_given, death_in, beat_of_death, cut_of_death, return_of_death, rows_of, by_cub, deaths_of}
use Rattle.json_look.proofs.Inversions.{then-some, map-some, tested-some, below_at-range}
use Rattle.scenario_read.proofs.Inversions.{bind-ok, ok-same}
use Rattle.scenario_read.proofs.ItemFacts.{AreRead, items_of-read, given_or-read}

-- one more cub
pub by_cub-more : (part : Death → Option ℕ) (ds : List Death) (n : ℕ) (so_far : List (Option ℕ)) (x : Option ℕ) → so_far ≡ by_cub part n ds
    → x ≡ option_and_then part (death_in ds n)
    → so_far ++ x ∷ [] ≡ by_cub part (n + 1) ds
unfolding by_cub
by_cub-more part ds n so_far x e f = rw (e, f) (sym (map-range_with_len_more (λ c. option_and_then part (death_in ds c)) 0 n n (omega arith)))

-- no two of the deaths are close
abbrev pub AreApart : ℕ → List Death → Type 0
AreApart cubs [] = Unit {0}
AreApart cubs (d ∷ ds) = AllByRecursion (λ e. are_close cubs d.cub e.cub ≡ false) ds × AreApart cubs ds

-- a return is in one of so many beats, two beats behind the death or later
abbrev pub IsReturnFrom : ℕ → ℕ → Option ℕ → Type 0
IsReturnFrom beats death back = IfSome back (λ b. (death + 2 ≤ b) × (b < beats))

pub record AreDeaths (cubs beats : ℕ) (ds : List Death) : Type 0 where
  pub early : AllByRecursion (λ d. d.beat < beats) ds
  pub few : AllByRecursion (λ d. IfSome d.after (λ k. k ≤ most_left)) ds
  pub backs : AllByRecursion (λ d. IsReturnFrom beats d.beat d.back) ds
  pub apart : AreApart cubs ds

each-push : {X : Type 0} (P : X → Type 0) (xs : List X) (x : X) → AllByRecursion P xs → P x → AllByRecursion P (xs ++ x ∷ [])
each-push P [] x all h = (h, tt)
each-push P (y ∷ ys) x all h = (all.0, each-push P ys x all.1 h)

either-false : (a b : Bool) → (a || b) ≡ false → (a ≡ false) × (b ≡ false)
either-false false b e = (refl, e)
either-false true b e = absurd (cc)

apart-push : (cubs : ℕ) (ds : List Death) (x : Death) → AreApart cubs ds → list_any (λ e. are_close cubs e.cub x.cub) ds ≡ false → AreApart cubs (ds ++ x ∷ [])
apart-push cubs [] x all none = (tt, tt)
apart-push cubs (d ∷ ds) x all none =
    let both = either-false (are_close cubs d.cub x.cub) (list_any (λ (e : Death). are_close cubs e.cub x.cub) ds) none in
    (each-push (λ (e : Death). are_close cubs d.cub e.cub ≡ false) ds x all.0 both.0, apart-push cubs ds x all.1 both.1)

-- a value behind a test that fails
passed-some : {A : Type 0} (b : Bool) (o : Option A) (y : A) → cond b None o ≡ Some y → (b ≡ false) × (o ≡ Some y)
passed-some false o y e = (refl, e)
passed-some true o y e = absurd (cc)

-- a death whose beat, cut and return are in their ranges, and which is not close to one in front
record IsDeathAfter (cubs beats : ℕ) (front : List Death) (x : Death) : Type 0 where
  early : x.beat < beats
  few : IfSome x.after (λ k. k ≤ most_left)
  back : IsReturnFrom beats x.beat x.back
  far : list_any (λ e. are_close cubs e.cub x.cub) front ≡ false

-- what is told of a cut is in its range
after-range : (d : Data) (o : Option ℕ) → after_of d ≡ Some o → IfSome o (λ k. k ≤ most_left)
unfolding after_of
after-range d o e = by (is_some (get (codes "after") d)) (below_at (codes "after") (most_left + 1) d) (λ n. below_at-range (codes "after") (most_left + 1) d n) e
  where
    by : (b : Bool) (given : Option ℕ) → ((n : ℕ) → given ≡ Some n → n < most_left + 1)
        → cond b (option_map Some given) (Some None) ≡ Some o → IfSome o (λ k. k ≤ most_left)
    by true (Some n) low e =
        let below : n < most_left + 1 = low n refl in
        let fits : n ≤ most_left = omega (arith, below) in
        subst (λ (q : Option ℕ). IfSome q (λ k. k ≤ most_left)) (same_Some (Some n) o e) fits
    by true None low e = absurd (cc)
    by false given low e = subst (λ (q : Option ℕ). IfSome q (λ k. k ≤ most_left)) (same_Some None o e) tt

-- a beat behind a death is the beat that was given
behind-range : (death given b : ℕ) → if_behind death given ≡ Some b → (death + 2 ≤ given) × (given ≡ b)
behind-range death given b e =
    let t = tested-some (nat_le (death + 2) given) (Some given) b e in
    (leb-true (death + 2) given t.0, same_Some given b t.1)

-- what is told of a return is in its range
return-range : (beats death : ℕ) (d : Data) (o : Option ℕ) → return_of beats death d ≡ Some o → IsReturnFrom beats death o
unfolding return_of
return-range beats death d o e = by (is_some (get (codes "back") d)) e
  where
    by : (b : Bool) → cond b (option_map Some (option_and_then (if_behind death) (below_at (codes "back") beats d))) (Some None) ≡ Some o
        → IsReturnFrom beats death o
    by true e =
        let told = map-some {B = Option ℕ} Some (option_and_then (if_behind death) (below_at (codes "back") beats d)) o e in
        let given = then-some (if_behind death) (below_at (codes "back") beats d) told.0 told.1 in
        let behind = behind-range death given.0 told.0 given.2 in
        let late : death + 2 ≤ told.0 = subst (λ (n : ℕ). death + 2 ≤ n) behind.1 behind.0 in
        let within : told.0 < beats = subst (λ (n : ℕ). n < beats) behind.1 (below_at-range (codes "back") beats d given.0 given.1) in
        subst (IsReturnFrom beats death) told.2 (late, within)
    by false e = subst (IsReturnFrom beats death) (same_Some None o e) tt

-- a death in a beat of the run
death_in_beat-sound : (cubs beats : ℕ) (front : List Death) (cub : ℕ) (d : Data) (beat : ℕ) (x : Death) → beat < beats
    → list_any (λ e. are_close cubs e.cub cub) front ≡ false → death_in_beat beats cub d beat ≡ Some x → IsDeathAfter cubs beats front x
unfolding death_in_beat
death_in_beat-sound cubs beats front cub d beat x early far e =
    let after = then-some (λ (a : Option ℕ). option_map {U = Death} (λ b. record { cub = cub; beat = beat; after = a; back = b }) (return_of beats beat d)) (after_of d) x e in
    let back = map-some {B = Death} (λ b. record { cub = cub; beat = beat; after = after.0; back = b }) (return_of beats beat d) x after.2 in
    subst (IsDeathAfter cubs beats front) back.2 (record {
      early = early;
      few = after-range d after.0 after.1;
      back = return-range beats beat d back.0 back.1;
      far = far;
    })

death_after-sound : (cubs beats : ℕ) (front : List Death) (d : Data) (x : Death) → death_after cubs beats front d ≡ Some x → IsDeathAfter cubs beats front x
unfolding death_after
death_after-sound cubs beats front d x e =
    let of_cub : ℕ → Option Death = λ cub. cond (list_any (λ (y : Death). are_close cubs y.cub cub) front) None (option_and_then (death_in_beat beats cub d) (below_at (codes "beat") beats d)) in
    let named = tested-some (has_only (is_one_of (codes "cub" ∷ codes "beat" ∷ codes "after" ∷ codes "back" ∷ [])) d) (option_and_then of_cub (below_at (codes "cub") cubs d)) x e in
    let cub = then-some of_cub (below_at (codes "cub") cubs d) x named.1 in
    let p = passed-some (list_any (λ (y : Death). are_close cubs y.cub cub.0) front) (option_and_then (death_in_beat beats cub.0 d) (below_at (codes "beat") beats d)) x cub.2 in
    let beat = then-some (death_in_beat beats cub.0 d) (below_at (codes "beat") beats d) x p.1 in
    death_in_beat-sound cubs beats front cub.0 d beat.0 x (below_at-range (codes "beat") beats d beat.0 beat.1) p.0 beat.2

death_after-keeps : (cubs beats : ℕ) (front : List Death) (d : Data) (x : Death) → AreDeaths cubs beats front → death_after cubs beats front d ≡ Some x → AreDeaths cubs beats (front ++ x ∷ [])
death_after-keeps cubs beats front d x h e =
    let p = death_after-sound cubs beats front d x e in
    record {
      early = each-push (λ (y : Death). y.beat < beats) front x h.early p.early;
      few = each-push (λ (y : Death). IfSome y.after (λ k. k ≤ most_left)) front x h.few p.few;
      backs = each-push (λ (y : Death). IsReturnFrom beats y.beat y.back) front x h.backs p.back;
      apart = apart-push cubs front x h.apart p.far;
    }

given-sound : (cubs beats : ℕ) (d : Data) (ds : List Death) → items_of 11 0 32 32 (death_after cubs beats) d ≡ Ok ds → AreRead (AreDeaths cubs beats) 0 32 ds
given-sound cubs beats d ds e = items_of-read 11 0 32 32 (death_after cubs beats) (AreDeaths cubs beats) d ds (death_after-keeps cubs beats) (record { early = tt; few = tt; backs = tt; apart = tt }) e

deaths_given-sound : (cubs beats : ℕ) (d : Data) (ds : List Death) → deaths_given cubs beats d ≡ Ok ds → AreRead (AreDeaths cubs beats) 0 32 ds
unfolding deaths_given
deaths_given-sound cubs beats d ds e =
    given_or-read (AreRead (AreDeaths cubs beats) 0 32) [] (items_of 11 0 32 32 (death_after cubs beats)) (get (codes "deaths") d) ds
    (record { kept = record { early = tt; few = tt; backs = tt; apart = tt }; low = omega arith; high = omega arith })
    (λ f. given-sound cubs beats f ds) e

-- ---- the deaths by cub

-- where the first death is another cub's, the rest decides
other_cub : (d : Death) (ds : List Death) (c : ℕ) → (d.cub == c) ≡ false → death_in (d ∷ ds) c ≡ death_in ds c
other_cub d ds c e = rw e refl

no_death : (ds : List Death) (c : ℕ) → AllByRecursion (λ e. (e.cub == c) ≡ false) ds → death_in ds c ≡ None
no_death [] c none = refl
no_death (d ∷ ds) c none = other_cub d ds c none.0 ∙ no_death ds c none.1

-- what holds of each death holds of a cub's
pub of_each : (P : Death → Type 0) (ds : List Death) (c : ℕ) → AllByRecursion P ds → IfSome (death_in ds c) P
of_each P [] c all = tt
of_each P (d ∷ ds) c all = ⊎_elim
    (λ (e : (d.cub == c) ≡ true). rw e all.0)
    (λ (e : (d.cub == c) ≡ false). rw e (of_each P ds c all.1))
    (cases_Bool (d.cub == c))

differ : (a b : ℕ) → (a == b) ≡ false → a ≡ b → ⊥
differ a b e same = false≢true (sym e ∙ eq-eqb a b same)

-- three numbers that a pair that is not close does not make equal
pub record AreFar (cubs a b : ℕ) : Type 0 where
  pub other : a ≡ b → ⊥
  pub after : (a + 1) % cubs ≡ b → ⊥
  pub before : (b + 1) % cubs ≡ a → ⊥

far : (cubs a b : ℕ) → are_close cubs a b ≡ false → AreFar cubs a b
unfolding are_close
far cubs a b e =
    let p = either-false ((a == b) || ((a + 1) % cubs == b)) ((b + 1) % cubs == a) e in
    let q = either-false (a == b) ((a + 1) % cubs == b) p.0 in
    record { other = differ a b q.0; after = differ ((a + 1) % cubs) b q.1; before = differ ((b + 1) % cubs) a p.1 }

-- of the cubs that stand side by side with one that dies, none is among those that are far from it
none_after : (cubs a b : ℕ) (ds : List Death) → (a + 1) % cubs ≡ b → AllByRecursion (λ e. are_close cubs a e.cub ≡ false) ds → AllByRecursion (λ e. (e.cub == b) ≡ false) ds
none_after cubs a b [] next all = tt
none_after cubs a b (d ∷ ds) next all = (ne_eqb d.cub b (λ same. (far cubs a d.cub all.0).after (next ∙ sym same)), none_after cubs a b ds next all.1)

none_before : (cubs a b : ℕ) (ds : List Death) → (a + 1) % cubs ≡ b → AllByRecursion (λ e. are_close cubs b e.cub ≡ false) ds → AllByRecursion (λ e. (e.cub == a) ≡ false) ds
none_before cubs a b [] next all = tt
none_before cubs a b (d ∷ ds) next all =
    (ne_eqb d.cub a (λ same. (far cubs b d.cub all.0).before (ap (λ (k : ℕ). (k + 1) % cubs) same ∙ next)), none_before cubs a b ds next all.1)

-- of two different cubs side by side one does not die
pub one_lives : (cubs a b : ℕ) (ds : List Death) → (a ≡ b → ⊥) → (a + 1) % cubs ≡ b → AreApart cubs ds → (death_in ds a ≡ None) ⊎ (death_in ds b ≡ None)
one_lives cubs a b [] ne next apart = inl refl
one_lives cubs a b (d ∷ ds) ne next apart = ⊎_elim
    (λ (e : d.cub ≡ a).
    let far_ones = subst (λ (k : ℕ). AllByRecursion (λ x. are_close cubs k x.cub ≡ false) ds) e apart.0 in
    inr (other_cub d ds b (ne_eqb d.cub b (λ same. ne (sym e ∙ same))) ∙ no_death ds b (none_after cubs a b ds next far_ones)))
    (λ (no : d.cub ≡ a → ⊥). ⊎_elim
    (λ (e : d.cub ≡ b).
    let far_ones = subst (λ (k : ℕ). AllByRecursion (λ x. are_close cubs k x.cub ≡ false) ds) e apart.0 in
    inl (other_cub d ds a (ne_eqb d.cub a no) ∙ no_death ds a (none_before cubs a b ds next far_ones)))
    (λ (nor : d.cub ≡ b → ⊥). ⊎_elim
    (λ (x : death_in ds a ≡ None). inl (other_cub d ds a (ne_eqb d.cub a no) ∙ x))
    (λ (y : death_in ds b ≡ None). inr (other_cub d ds b (ne_eqb d.cub b nor) ∙ y))
    (one_lives cubs a b ds ne next apart.1))
    (cases_eq d.cub b))
    (cases_eq d.cub a)

-- how many cubs from a on die
abbrev beat_in : List Death → ℕ → Option ℕ
beat_in ds c = option_and_then beat_of_death (death_in ds c)

abbrev dying : List Death → ℕ → ℕ → ℕ
dying ds a n = count_by is_some (map (beat_in ds) (range_with_len a n))

dying-suc : (ds : List Death) (a n : ℕ) → dying ds a (suc n) ≡ cond (is_some (beat_in ds a)) 1 0 + dying ds (a + 1) n
dying-suc ds a n = sum_by-cons (λ (o : Option ℕ). cond (is_some o) 1 0) (beat_in ds a) (map (beat_in ds) (range_with_len (a + 1) n))

none_dying : (a n : ℕ) → dying [] a n ≡ 0
none_dying a zero = refl
none_dying a (suc n) = let rest = none_dying (a + 1) n in let head = dying-suc [] a n in omega arith

counted-most : (o : Option ℕ) → cond (is_some o) 1 0 ≤ 1
counted-most (Some x) = omega arith
counted-most None = omega arith

-- one more death makes one more cub die at most, and none where its cub is passed
one_more : (d : Death) (ds : List Death) (a n : ℕ) → dying (d ∷ ds) a n ≤ dying ds a n + min 1 (d.cub + 1 - a)
one_more d ds a zero = omega arith
one_more d ds a (suc n) = ⊎_elim
    (λ (e : d.cub ≡ a).
    let rest = one_more d ds (a + 1) n in
    let head = counted-most (beat_in (d ∷ ds) a) in
    omega (arith, rest, head, dying-suc (d ∷ ds) a n, dying-suc ds a n))
    (λ (ne : d.cub ≡ a → ⊥).
    let rest = one_more d ds (a + 1) n in
    let head = ap {B = ℕ} (λ (o : Option Death). cond (is_some (option_and_then beat_of_death o)) 1 0) (other_cub d ds a (ne_eqb d.cub a ne)) in
    omega (arith, rest, head, dying-suc (d ∷ ds) a n, dying-suc ds a n))
    (cases_eq d.cub a)

pub few_dying : (ds : List Death) (a n : ℕ) → count_by is_some (map (beat_in ds) (range_with_len a n)) ≤ length ds
few_dying [] a n = omega (arith, none_dying a n)
few_dying (d ∷ ds) a n = omega (arith, one_more d ds a n, few_dying ds a n)

-- what a part of a death keeps to, a row of it keeps to
part-kept : (part : Death → Option ℕ) (P : ℕ → Type 0) (o : Option Death) → IfSome o (λ d. IfSome (part d) P) → IfSome (option_and_then part o) P
part-kept part P (Some d) h = h
part-kept part P None h = tt

all_kept : (part : Death → Option ℕ) (P : ℕ → Type 0) (ds : List Death) (n : ℕ) → AllByRecursion (λ d. IfSome (part d) P) ds
    → All (λ o. IfSome o P) (by_cub part n ds)
unfolding by_cub
all_kept part P ds n all =
    All-map (λ (o : Option ℕ). IfSome o P) (λ c. option_and_then part (death_in ds c)) (range_with_len 0 n)
    (λ k d lt. part-kept part P (death_in ds (get_or (range_with_len 0 n) k d)) (of_each (λ d. IfSome (part d) P) ds (get_or (range_with_len 0 n) k d) all))

pub row_at : (part : Death → Option ℕ) (ds : List Death) (cubs n : ℕ) → n < cubs → slice_get (by_cub part cubs ds) n ≡ Some (option_and_then part (death_in ds n))
unfolding by_cub
row_at part ds cubs n lt =
    let at : ℕ → Option ℕ = λ c. option_and_then part (death_in ds c) in
    slice_get-get_or (map at (range_with_len 0 cubs)) n None (omega (arith, length-map-range_with_len at 0 cubs))
    ∙ ap Some (get_or-map-range_with_len at 0 cubs n n None lt (omega arith))

row-length : (part : Death → Option ℕ) (ds : List Death) (cubs : ℕ) → length (by_cub part cubs ds) ≡ cubs
unfolding by_cub
row-length part ds cubs = length-map-range_with_len (λ c. option_and_then part (death_in ds c)) 0 cubs

few-row : (ds : List Death) (cubs : ℕ) → count_by is_some (by_cub beat_of_death cubs ds) ≤ length ds
unfolding by_cub
few-row ds cubs = few_dying ds 0 cubs

-- a cut of a cub that dies
cut-by : (beat : ℕ) (after : Option ℕ) → CutsDeath (Some beat) after
cut-by beat None = tt
cut-by beat (Some left) = tt

cut-with-death : (o : Option Death) → CutsDeath (option_and_then beat_of_death o) (option_and_then cut_of_death o)
cut-with-death None = tt
cut-with-death (Some d) = cut-by d.beat d.after

-- a return of a cub that dies
return-by : (beats beat : ℕ) (back : Option ℕ) → IsReturnFrom beats beat back → ReturnsLater (Some beat) back
return-by beats beat None h = tt
return-by beats beat (Some b) h = h.0

return-with-death : (beats : ℕ) (o : Option Death) → IfSome o (λ d. IsReturnFrom beats d.beat d.back)
    → ReturnsLater (option_and_then beat_of_death o) (option_and_then return_of_death o)
return-with-death beats None h = tt
return-with-death beats (Some d) h = return-by beats d.beat d.back h

-- a return is in one of the run's beats
return-early : (beats : ℕ) (ds : List Death) → AllByRecursion (λ d. IsReturnFrom beats d.beat d.back) ds
    → AllByRecursion (λ d. IfSome d.back (λ b. b < beats)) ds
return-early beats [] all = tt
return-early beats (d ∷ ds) all = (by d.back all.0, return-early beats ds all.1)
  where
    by : (back : Option ℕ) → IsReturnFrom beats d.beat back → IfSome back (λ b. b < beats)
    by None h = tt
    by (Some b) h = h.1

-- what holds of the deaths by cub
pub record AreByCub (cubs beats : ℕ) (deaths cuts backs : List (Option ℕ)) : Type 0 where
  pub count : length deaths ≡ cubs
  pub cut_count : length cuts ≡ cubs
  pub back_count : length backs ≡ cubs
  pub few : count_by is_some deaths ≤ 32
  pub early : All (λ o. IfSome o (λ b. b < beats)) deaths
  pub few_after : All (λ o. IfSome o (λ k. k ≤ most_left)) cuts
  pub early_back : All (λ o. IfSome o (λ b. b < beats)) backs
  pub apart : (n : ℕ) → n < cubs → (slice_get deaths n ≡ Some None) ⊎ (slice_get deaths ((n + 1) % cubs) ≡ Some None)
  pub cut_deaths : (n : ℕ) → n < cubs → (death cut : Option ℕ) → slice_get deaths n ≡ Some death → slice_get cuts n ≡ Some cut
      → CutsDeath death cut
  pub returns_later : (n : ℕ) → n < cubs → (death back : Option ℕ) → slice_get deaths n ≡ Some death → slice_get backs n ≡ Some back
      → ReturnsLater death back

next_differs : (cubs n : ℕ) → 2 ≤ cubs → n < cubs → n ≡ (n + 1) % cubs → ⊥
next_differs cubs n some lt same = ⊎_elim
    (λ (e : n + 1 ≡ cubs). let z : (n + 1) % cubs ≡ 0 = ap (λ (k : ℕ). k % cubs) e ∙ mod_self cubs in omega arith)
    (λ (ne : n + 1 ≡ cubs → ⊥). let z : (n + 1) % cubs ≡ n + 1 = mod-eq_of_lt {n = n + 1} {m = cubs} (omega arith) in omega arith)
    (cases_eq (n + 1) cubs)

-- of a cub's death and another part of it what is said of both holds in the rows
both_at : (P : Option ℕ → Option ℕ → Type 0) (part : Death → Option ℕ) (ds : List Death) (cubs n : ℕ) → n < cubs
    → P (option_and_then beat_of_death (death_in ds n)) (option_and_then part (death_in ds n)) → (death other : Option ℕ)
    → slice_get (by_cub beat_of_death cubs ds) n ≡ Some death → slice_get (by_cub part cubs ds) n ≡ Some other → P death other
both_at P part ds cubs n lt h death other d k =
    let at = row_at beat_of_death ds cubs n lt in
    let there = row_at part ds cubs n lt in
    subst (λ (x : Option ℕ). P x other) (same_Some _ death (sym at ∙ d))
    (subst (λ (y : Option ℕ). P (option_and_then beat_of_death (death_in ds n)) y) (same_Some _ other (sym there ∙ k)) h)

rows-sound : (cubs beats : ℕ) (ds : List Death) → 2 ≤ cubs → AreRead (AreDeaths cubs beats) 0 32 ds
    → AreByCub cubs beats (by_cub beat_of_death cubs ds) (by_cub cut_of_death cubs ds) (by_cub return_of_death cubs ds)
rows-sound cubs beats ds some r =
    let none : (n : ℕ) → n < cubs → death_in ds n ≡ None → slice_get (by_cub beat_of_death cubs ds) n ≡ Some None =
    λ n lt e. row_at beat_of_death ds cubs n lt ∙ ap (λ o. Some (option_and_then beat_of_death o)) e in
    record {
      count = row-length beat_of_death ds cubs;
      cut_count = row-length cut_of_death ds cubs;
      back_count = row-length return_of_death ds cubs;
      few = let high = r.high in omega (arith, few-row ds cubs, high);
      early = all_kept beat_of_death (λ b. b < beats) ds cubs r.kept.early;
      few_after = all_kept cut_of_death (λ k. k ≤ most_left) ds cubs r.kept.few;
      early_back = all_kept return_of_death (λ b. b < beats) ds cubs (return-early beats ds r.kept.backs);
      apart = λ n lt. ⊎_elim
          (λ (x : death_in ds n ≡ None). inl (none n lt x))
          (λ (y : death_in ds ((n + 1) % cubs) ≡ None). inr (none ((n + 1) % cubs) (mod-lt (n + 1) {m = cubs} (omega arith)) y))
          (one_lives cubs n ((n + 1) % cubs) ds (next_differs cubs n some lt) refl r.kept.apart);
      cut_deaths = λ n lt. both_at CutsDeath cut_of_death ds cubs n lt (cut-with-death (death_in ds n));
      returns_later = λ n lt. both_at ReturnsLater return_of_death ds cubs n lt
          (return-with-death beats (death_in ds n) (of_each (λ d. IsReturnFrom beats d.beat d.back) ds n r.kept.backs));
    }

pub deaths_of-sound : (cubs beats : ℕ) (d : Data) (rows : DeathRows) → 2 ≤ cubs → deaths_of cubs beats d ≡ Ok rows
    → AreByCub cubs beats rows.deaths rows.cuts rows.backs
unfolding deaths_of
deaths_of-sound cubs beats d rows some e =
    let a = bind-ok (deaths_given cubs beats d) (λ ds. Ok (rows_of cubs ds)) rows e in
    subst (λ (q : DeathRows). AreByCub cubs beats q.deaths q.cuts q.backs) (ok-same (rows_of cubs a.0) rows a.2)
    (rows-sound cubs beats a.0 some (deaths_given-sound cubs beats d a.0 a.1))
