-- What is sent to the viewers is served, each part of a visit once; and so it is got once.
use Rattle.std.proofs.Common.{◌≡◌, ℕ, ◌+◌, ◌<◌, ◌≤◌, List, ◌∷◌, ◌++◌, true, false, Some, refl, sym, ap, subst, ◌∙◌, arith, ⊎_elim, inl, inr}
use Rattle.std.specs.Prelude.{◌==◌, slice_get}
use Rattle.std.proofs.lemmas.Bool.{cases_Bool, eqb-true}
use Rattle.tiger_base.specs.declared.number.LinkNo.{LinkNo}
use Rattle.tiger_base.specs.declared.tenancy.Tenancy.{Tenancy}
use Rattle.tiger_base.specs.declared.tenancy.Want.{Want}
use Rattle.tiger_base.specs.declared.message.Note.{Note}
use Rattle.slot_plan.specs.declared.params.Params.{Params}
use Rattle.node_kit.specs.declared.journal.What.TheVariants as what
use Rattle.node_kit.specs.declared.journal.Entry.{Entry}
use Rattle.run_model.specs.Served.{want_of_visit}
use Rattle.proof_schedule.specs.Facts.{Facts}
use Rattle.proof_pieces.specs.PieceFacts.{PieceFacts}
use Rattle.proof_service.specs.ServiceFacts.{ServiceFacts}
use Rattle.lists.specs.Elements.{In}
use Rattle.proof_moments.specs.Ties.{StandsIn}
use Rattle.lists.proofs.Elements.{in_right}
use Rattle.proof_moments.specs.ParcelTies.{viewers, parcel, SendsParcel, IsServing}
use Rattle.proof_moments.specs.RecordedParcels.{Evidence, AreParcelsRecordedBut}
use Rattle.lists.proofs.Cuts.{which_first}
use Rattle.proof_moments.proofs.Notes.{IsPart, whole_parcel, piece_parcel, numbered_parcel}

-- two wants are of one piece of one visit of one instance
pub record AreSame (x y : Want) : Type 0 where
  pub instance : y.instance.0 ≡ x.instance.0
  pub visit : y.visit ≡ x.visit
  pub piece : y.piece ≡ x.piece

-- two entries of a journal, one behind the other
stands_first : (js : List (List Entry)) (n : ℕ) (xs ys : List Entry) (e : Entry)
    → slice_get js n ≡ Some (xs ++ e ∷ ys) → StandsIn js n e
stands_first js n xs ys e at = record { journal = xs ++ e ∷ ys; at = at; there = in_right e xs (e ∷ ys) (inl refl) }

stands_behind : (js : List (List Entry)) (n : ℕ) (xs ys : List Entry) (e f : Entry)
    → slice_get js n ≡ Some (xs ++ e ∷ ys) → In f ys → StandsIn js n f
stands_behind js n xs ys e f at i = record { journal = xs ++ e ∷ ys; at = at; there = in_right f xs (e ∷ ys) (inr i) }

module _ (p : Params) (a : Evidence) (r : Facts) (q : PieceFacts) (w : ServiceFacts) (end : ℕ)
    {Excused : Tenancy → ℕ → Type 0}
    (g : AreParcelsRecordedBut p a r q w end Excused) where
  -- a note that was sent and carries a part was served
  pub serving : (n : ℕ) (e : Entry) (link : LinkNo) (m : Note) (want : Want) → StandsIn a.journals n e
      → e.what ≡ what.Sent link m → (k : IsPart m want)
      → IsServing p q w n link want k.sent k.part e.stamp.beat × (m ≡ parcel want k.sent k.part)
  serving n e link m want s is k = ⊎_elim
      (λ whole. let t = g.ties.tells.whole n e link want k.sent k.part s (is ∙ ap (λ (o : Note). what.Sent link o)
      whole) in
      (t.1, whole ∙ sym (whole_parcel want k.sent k.part t.0)))
      (λ piece. let t = g.ties.tells.piece n e link want k.sent k.part s (is ∙ ap (λ (o : Note). what.Sent link o)
      piece) in
      (t.1, piece ∙ sym (piece_parcel want k.sent k.part t.0)))
      k.is

  pub parcel_served : (n : ℕ) (e : Entry) (want : Want) → StandsIn a.journals n e → (k : SendsParcel want e)
      → IsServing p q w n k.link want k.sent k.part e.stamp.beat
  parcel_served n e want s k = ⊎_elim
      (λ (t : (want.piece == 0) ≡ true).
      (g.ties.tells.whole n e k.link want k.sent k.part s (k.is ∙ ap (λ (m : Note). what.Sent k.link m)
      (whole_parcel want k.sent k.part (eqb-true _ _ t)))).1)
      (λ (f : (want.piece == 0) ≡ false).
      (g.ties.tells.piece n e k.link want k.sent k.part s (k.is ∙ ap (λ (m : Note). what.Sent k.link m)
      (numbered_parcel want k.sent k.part f))).1)
      (cases_Bool (want.piece == 0))

  -- two entries that send one piece of one visit are of one node and beat, and send the same
  pub sent_once : (n m : ℕ) (e f : Entry) (x y : Want) → StandsIn a.journals n e → SendsParcel x e
      → StandsIn a.journals m f → SendsParcel y f → AreSame x y
      → (m ≡ n) × (y ≡ x) × (f.stamp.beat ≡ e.stamp.beat)
  sent_once n m e f x y se ke sf kf same =
      let one = parcel_served n e x se ke in
      let two = parcel_served m f y sf kf in
      let t = one.tenancy in
      let u = two.tenancy in
      let there : q.Serves m u x.visit x.piece f.stamp.beat =
      subst (λ (v : ℕ). q.Serves m u v x.piece f.stamp.beat) same.visit
      (subst (λ (j : ℕ). q.Serves m u y.visit j f.stamp.beat) same.piece two.serves) in
      let instance : u.instance.0 ≡ t.instance.0 = sym (ap (λ (z : Want). z.instance.0) two.wanted) ∙ same.instance
      ∙ ap (λ (z : Want). z.instance.0) one.wanted in
      let o = g.blocks.once n m x.visit x.piece e.stamp.beat f.stamp.beat t u one.serves there instance in
      let as_one : y ≡ want_of_visit t x.visit x.piece =
      two.wanted
      ∙ ap (λ (v : ℕ). want_of_visit u v y.piece) same.visit
      ∙ ap (λ (j : ℕ). want_of_visit u x.visit j) same.piece
      ∙ ap (λ (z : Tenancy). want_of_visit z x.visit x.piece) o.1 in
      (o.0, as_one ∙ sym one.wanted, o.2)

  -- so none of them stands behind another in one journal
  pub not_behind : (n : ℕ) (xs ys : List Entry) (e f : Entry) (x y : Want) → slice_get a.journals n ≡ Some
      (xs ++ e ∷ ys) → In f ys → SendsParcel x e → SendsParcel y f → AreSame x y → ⊥
  not_behind n xs ys e f x y at i ke kf same =
      let o = sent_once n n e f x y (stands_first a.journals n xs ys e at) ke (stands_behind a.journals n xs ys e f
      at i) kf same in
      let later = g.ties.keeps.one_parcel x n xs ys e f at i ke (subst (λ (z : Want). SendsParcel z f) o.1 kf) in
      let beat = o.2 in
      omega arith

  -- a part that the viewers got was served, and how it was sent
  pub record WasServed (link : LinkNo) (m : Note) (want : Want) (y : ℕ) : Type 0 where
    pub node : ℕ
    pub entry : Entry
    pub stands : StandsIn a.journals node entry
    pub sends : SendsParcel want entry
    pub is : entry.what ≡ what.Sent link m
    pub served : IsServing p q w node sends.link want sends.sent sends.part entry.stamp.beat
    pub note : m ≡ parcel want sends.sent sends.part
    pub later : entry.stamp.beat < y
    pub soon : y ≤ entry.stamp.beat + p.delay

  pub was_served : (e : Entry) (link : LinkNo) (m : Note) (want : Want) → StandsIn a.journals (viewers p) e
      → e.what ≡ what.Got link m → IsPart m want
      → WasServed link m want e.stamp.beat
  was_served e link m want s is k =
      let c = g.ties.viewers.came e link m s is in
      let v = serving c.node c.entry link m want c.stands c.is k in
      record {
        node = c.node;
        entry = c.entry;
        stands = c.stands;
        sends = record {
          link = link;
          sent = k.sent;
          part = k.part;
          is = c.is ∙ ap (λ (o : Note). what.Sent link o)
              v.1;
        };
        is = c.is;
        served = v.0;
        note = v.1;
        later = c.later;
        soon = c.soon;
      }

  -- of two entries that got one piece of one visit none stands behind the other
  pub got_once : (xs ys : List Entry) (e f : Entry) (link road : LinkNo) (m o : Note) (x y : Want)
      → slice_get a.journals (viewers p) ≡ Some (xs ++ e ∷ ys) → In f ys
      → e.what ≡ what.Got link m → f.what ≡ what.Got road o → IsPart m x → IsPart o y → AreSame x y → ⊥
  got_once xs ys e f link road m o x y at i e_is f_is mx oy same =
      let one = was_served e link m x (stands_first a.journals (viewers p) xs ys e at) e_is mx in
      let two = was_served f road o y (stands_behind a.journals (viewers p) xs ys e f at i) f_is oy in
      let k = sent_once one.node two.node one.entry two.entry x y one.stands one.sends two.stands two.sends same in
      let j : List Entry = one.stands.journal in
      let at_two : StandsIn a.journals one.node two.entry = subst (λ (n : ℕ). StandsIn a.journals n two.entry) k.0
      two.stands in
      let journal : Some at_two.journal ≡ Some j = sym at_two.at ∙ one.stands.at in
      let there : In two.entry j = subst (λ (l : List Entry). In two.entry l) (let s : at_two.journal ≡ j = cc in s)
      at_two.there in
      let back : AreSame y x = record {
        instance = sym same.instance;
        visit = sym same.visit;
        piece = sym same.piece;
      } in
      ⊎_elim
      (λ (equal : one.entry ≡ two.entry).
      let said : what.Sent link m ≡ what.Sent road o = sym one.is ∙ ap (λ (z : Entry). z.what) equal ∙ two.is in
      let ways : link ≡ road = cc in
      let notes : m ≡ o = cc in
      let again : f.what ≡ what.Got link m = f_is ∙ ap (λ (l : LinkNo). what.Got l o) (sym ways)
      ∙ ap (λ (z : Note). what.Got link z) (sym notes) in
      let t = g.ties.viewers.twice xs ys e f link m at i e_is again in
      let as_parcel : what.Sent link m ≡ what.Sent link (parcel x one.sends.sent one.sends.part) = ap
      (λ (z : Note). what.Sent link z) one.note in
      not_behind t.node t.before t.behind t.first t.second x x t.at t.there
      (record { link = link; sent = one.sends.sent; part = one.sends.part; is = t.first_is ∙ as_parcel })
      (record { link = link; sent = one.sends.sent; part = one.sends.part; is = t.second_is ∙ as_parcel })
      (record { instance = refl; visit = refl; piece = refl }))
      (λ other. ⊎_elim
      (λ b. not_behind one.node b.front b.back one.entry two.entry x y (one.stands.at
      ∙ ap (λ (l : List Entry). Some l) (sym b.is)) b.there one.sends two.sends same)
      (λ b. not_behind one.node b.front b.back two.entry one.entry y x (one.stands.at
      ∙ ap (λ (l : List Entry). Some l) (sym b.is)) b.there two.sends one.sends back)
      other)
      (which_first one.entry two.entry j one.stands.there there)
