-- Which tenancies the controller knows: those that it was told of, each from then on; and which starts its orders have.
use Rattle.std.proofs.Common.{◌≡◌, ℕ, zero, suc, ◌<◌, ◌≤◌, ◌==◌, List, [], ◌∷◌, Bool, true, cond, Option, Some, None, refl, sym, ap, subst, ◌∙◌, arith, ⊎_elim, inl, inr, eq-or-lt_of_le}
use Rattle.std.specs.Prelude.{◌⊎◌}
use Rattle.std.specs.Option.{option_or}
use Rattle.std.proofs.lemmas.Bool.{eqb-true, eq-eqb}
use Rattle.tiger_base.specs.declared.number.Instance.{Instance}
use Rattle.tiger_base.specs.declared.number.LinkNo.{LinkNo}
use Rattle.tiger_base.specs.declared.number.Stamp.{Stamp}
use Rattle.tiger_base.specs.declared.tenancy.Ask.{Ask}
use Rattle.tiger_base.specs.declared.tenancy.Tenancy.{Tenancy}
use Rattle.tiger_base.specs.declared.message.Msg.{Msg}
use Rattle.tiger_base.specs.declared.message.Msg.TheVariants as msg
use Rattle.tiger_base.specs.Notes.{noted}
use Rattle.slot_plan.specs.declared.params.Params.{Params}
use Rattle.node_kit.specs.declared.course.Order.{Order}
use Rattle.node_kit.specs.declared.course.OrderKind.{OrderKind}
use Rattle.node_kit.specs.declared.course.OrderKind.TheVariants.{Begin, Finish}
use Rattle.node_kit.specs.declared.journal.What.TheVariants as what
use Rattle.node_kit.specs.Form.{is_in_form}
use Rattle.node_kit.specs.Steps.{Input}
use Rattle.node_kit.specs.Steps.Input.{Take, Tick}
use Rattle.run_facts.specs.Commanded.{place_of}
use Rattle.controller_core.specs.declared.known.Known.{Known}
use Rattle.controller_core.specs.Orders.{start_by, start_of}
use Rattle.controller_core.specs.State.{tenancy_of}
use Rattle.controller_core.specs.Rules.{taking}
use Rattle.proof_controller.proofs.Taking.{found, taking_tells}
use Rattle.lists.proofs.Elements.{chosen}
use Rattle.proof_controller.specs.Controllers.{command, known_at, IsOrdered}
use Rattle.proof_controller.proofs.CommandedOnce.{same_places}

pub some_same : {X : Type 0} (a b : X) → Some a ≡ Some b → a ≡ b
some_same a b e = cc

abbrev pub at_beat : ℕ → OrderKind → Order
at_beat b w = record { beat = b; what = w }

-- the start of an instance is ordered
pub start_from : (orders : List Order) (v : Instance) (ask : Ask) → start_of orders v ≡ Some ask → IsOrdered orders ask × (ask.instance.0 ≡ v.0)
start_from [] v ask e = absurd (cc)
start_from (o ∷ rest) v ask e = go o.what refl (λ q. later (start_from rest v ask q)) e
  where
    later : IsOrdered rest ask × (ask.instance.0 ≡ v.0) → IsOrdered (o ∷ rest) ask × (ask.instance.0 ≡ v.0)
    later r = ((r.0.0, inr r.0.1), r.1)

    go : (w : OrderKind) → o.what ≡ w → (start_of rest v ≡ Some ask → IsOrdered (o ∷ rest) ask × (ask.instance.0 ≡ v.0)) → option_or (start_by v w) (start_of rest v) ≡ Some ask
        → IsOrdered (o ∷ rest) ask × (ask.instance.0 ≡ v.0)
    go (Begin a) s more e =
        chosen (λ (x : Option Ask). option_or x (start_of rest v) ≡ Some ask → IsOrdered (o ∷ rest) ask × (ask.instance.0 ≡ v.0)) (a.instance.0 == v.0) (Some a) None
        (λ t e.
        let same : a ≡ ask = some_same a ask e in
        let there : at_beat o.beat (Begin ask) ≡ o = ap (at_beat o.beat) (ap (λ (x : Ask). Begin x) (sym same) ∙ sym s) in
        ((o.beat, inl there), ap (λ (x : Ask). x.instance.0) (sym same) ∙ eqb-true _ _ t))
        (λ _ e. more e)
        e
    go (Finish w) s more e = more e

-- a message tells of one tenancy at most
pub place_from : (p : Params) (link : LinkNo) (m : Msg) (v : Instance) (t : Tenancy) → found v (place_of p (what.Got link (noted m))) ≡ Some t → (m ≡ msg.Placed t) × (t.instance.0 ≡ v.0)
place_from p link (msg.Placed u) v t e =
    chosen (λ (ts : List Tenancy). found v ts ≡ Some t → (msg.Placed u ≡ msg.Placed t) × (t.instance.0 ≡ v.0)) (is_in_form p (noted (msg.Placed u))) (u ∷ []) []
    (λ _ e.
    chosen (λ (o : Option Tenancy). o ≡ Some t → (msg.Placed u ≡ msg.Placed t) × (t.instance.0 ≡ v.0)) (u.instance.0 == v.0) (Some u) None
    (λ q e. let same : u ≡ t = some_same u t e in (ap (λ (x : Tenancy). msg.Placed x) same, ap (λ (x : Tenancy). x.instance.0) (sym same) ∙ eqb-true _ _ q))
    (λ _ e. absurd (cc))
    e)
    (λ _ e. absurd (cc))
    e
place_from p link other v t e = absurd (cc)

-- how a tenancy comes to be known in an event
abbrev pub IsTold : Params → List Order → Input Msg → Known → Instance → Tenancy → Type 0
IsTold p orders input known v t =
    (tenancy_of known.placed v ≡ Some t) ⊎ ((stamp : Stamp) × (link : LinkNo) × (input ≡ Take stamp link (msg.Placed t)) × (t.instance.0 ≡ v.0))

pub known_from : (p : Params) (orders : List Order) (input : Input Msg) (known : Known) (v : Instance) (t : Tenancy) → tenancy_of (command p orders input known).state.placed v ≡ Some t
    → IsTold p orders input known v t
known_from p orders (Take stamp link m) known v t e = go (tenancy_of known.placed v) refl (taking_tells p link m known v ∙ e)
  where
    go : (o : Option Tenancy) → tenancy_of known.placed v ≡ o → option_or o (found v (place_of p (what.Got link (noted m)))) ≡ Some t → IsTold p orders (Take stamp link m) known v t
    go (Some u) s e = inl (s ∙ e)
    go None s e = let r = place_from p link m v t e in inr (stamp, link, ap (λ (x : Msg). Take stamp link x) r.0, r.1)
known_from p orders (Tick stamp) known v t e = inl (ap (λ (ts : List Tenancy). tenancy_of ts v) (sym (same_places p orders stamp known)) ∙ e)

pub known_stays : (p : Params) (orders : List Order) (input : Input Msg) (known : Known) (v : Instance) (t : Tenancy) → tenancy_of known.placed v ≡ Some t
    → tenancy_of (command p orders input known).state.placed v ≡ Some t
known_stays p orders (Take stamp link m) known v t e =
    sym (taking_tells p link m known v) ∙ ap (λ (o : Option Tenancy). option_or o (found v (place_of p (what.Got link (noted m))))) e
known_stays p orders (Tick stamp) known v t e = ap (λ (ts : List Tenancy). tenancy_of ts v) (same_places p orders stamp known) ∙ e

-- of whom it is told in form, of him it knows a place
pub known_after : (p : Params) (t : Tenancy) (known : Known) → is_in_form p (noted (msg.Placed t)) ≡ true → (u : Tenancy) × (tenancy_of (taking p (msg.Placed t) known).placed t.instance ≡ Some u)
known_after p t known form = go (tenancy_of known.placed t.instance) refl
  where
    link : LinkNo
    link = record { 0 = 0 }

    told : found t.instance (place_of p (what.Got link (noted (msg.Placed t)))) ≡ Some t
    told = ap (λ (b : Bool). found t.instance (cond b (t ∷ []) [])) form ∙ ap (λ (b : Bool). cond b (Some t) None) (eq-eqb t.instance.0 t.instance.0 refl)

    tells : (o : Option Tenancy) → tenancy_of known.placed t.instance ≡ o → option_or o (Some t) ≡ tenancy_of (taking p (msg.Placed t) known).placed t.instance
    tells o e =
        ap (λ (x : Option Tenancy). option_or x (Some t)) (sym e)
        ∙ (ap (λ (x : Option Tenancy). option_or (tenancy_of known.placed t.instance) x) (sym told) ∙ taking_tells p link (msg.Placed t) known t.instance)

    go : (o : Option Tenancy) → tenancy_of known.placed t.instance ≡ o → (u : Tenancy) × (tenancy_of (taking p (msg.Placed t) known).placed t.instance ≡ Some u)
    go (Some u) e = (u, sym (tells (Some u) e))
    go None e = (t, sym (tells None e))

module _ (p : Params) (orders : List Order) (inputs : ℕ → Input Msg) where
  -- who is known was told of
  pub record ToldBefore (i : ℕ) (v : Instance) (t : Tenancy) : Type 0 where
    pub at : ℕ
    pub before : at < i
    pub stamp : Stamp
    pub link : LinkNo
    pub is : inputs at ≡ Take stamp link (msg.Placed t)
    pub same : t.instance.0 ≡ v.0

  pub told_before : (i : ℕ) (v : Instance) (t : Tenancy) → tenancy_of (known_at p orders inputs i).placed v ≡ Some t → ToldBefore i v t
  told_before zero v t e = absurd (cc)
  told_before (suc i) v t e = ⊎_elim
      (λ q. let r = told_before i v t q in let b = r.before in record { at = r.at; before = omega arith; stamp = r.stamp; link = r.link; is = r.is; same = r.same })
      (λ q. record { at = i; before = omega arith; stamp = q.0; link = q.1; is = q.2; same = q.3 })
      (known_from p orders (inputs i) (known_at p orders inputs i) v t e)

  -- and stays known
  pub known_later : (i j : ℕ) (v : Instance) (t : Tenancy) → i ≤ j → tenancy_of (known_at p orders inputs i).placed v ≡ Some t → tenancy_of (known_at p orders inputs j).placed v ≡ Some t
  known_later i zero v t low e = let z : i ≡ 0 = omega arith in subst (λ n. tenancy_of (known_at p orders inputs n).placed v ≡ Some t) z e
  known_later i (suc j) v t low e = ⊎_elim
      (λ (same : i ≡ suc j). subst (λ n. tenancy_of (known_at p orders inputs n).placed v ≡ Some t) same e)
      (λ (less : i < suc j). known_stays p orders (inputs j) (known_at p orders inputs j) v t (known_later i j v t (omega arith) e))
      (eq-or-lt_of_le low)

  pub known_told : (i j : ℕ) (stamp : Stamp) (link : LinkNo) (t : Tenancy) → i < j → inputs i ≡ Take stamp link (msg.Placed t) → is_in_form p (noted (msg.Placed t)) ≡ true
      → (u : Tenancy) × (tenancy_of (known_at p orders inputs j).placed t.instance ≡ Some u)
  known_told i j stamp link t low e form =
      let k = known_after p t (known_at p orders inputs i) form in
      (k.0, known_later (suc i) j t.instance k.0 low (ap (λ (x : Input Msg). tenancy_of (command p orders x (known_at p orders inputs i)).state.placed t.instance) e ∙ k.1))
