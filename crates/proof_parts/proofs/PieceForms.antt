-- Each piece record that a cub keeps, at an input or within a tick, is in form and for this cub.
use Rattle.std.proofs.Common.{◌≡◌, ℕ, ◌<◌, ◌≤◌, ap, subst, sym, arith}
use Rattle.tiger_base.specs.declared.number.Stamp.{Stamp}
use Rattle.tiger_base.specs.declared.tenancy.PieceState.{PieceState}
use Rattle.tiger_base.specs.declared.message.Msg.{Msg}
use Rattle.slot_plan.specs.declared.params.Params.{Params}
use Rattle.slot_plan.specs.Conditions.{IsPlan}
use Rattle.node_kit.specs.Steps.{Deed, Input, stamp_of}
use Rattle.node_kit.specs.Steps.Input.{Tick}
use Rattle.cub_rules.specs.declared.store.Store.{Store}
use Rattle.cub_rules.specs.State.{IsStoreOf, IsPieceAt}
use Rattle.cub_changes.proofs.Chains.{forward_is}
use Rattle.cub_changes.proofs.Numbers.{piece_parts}
use Rattle.proof_lives.specs.Lives.{Lives, AreLives, store_at}
use Rattle.lists.specs.Elements.{In}
use Rattle.proof_lives.proofs.Lines.{kept_at}
use Rattle.lists.proofs.Each.{all_in}
use Rattle.proof_lives.proofs.Ticking.{before_forwarding, kept_before}
use Rattle.proof_facts.specs.Pieces.{before_reading}

-- the number of a piece in form
pub numbered : (p : Params) (c : ℕ) (x : PieceState) → IsPieceAt p c x → (1 ≤ x.piece) × (x.piece ≤ p.pieces)
numbered p c x f = let q = piece_parts p x f.in_form in (q.low, q.high)

module _ (p : Params) (plan : IsPlan p) (lives : Lives) (are : AreLives p lives) where
  kept : (c i : ℕ) → c < p.cubs → i ≤ lives.count c → IsStoreOf p c (store_at p c (lives.input c) i)
  kept c i small low = kept_at p c plan small (lives.input c) i (λ k l. (are c small).short k (omega arith))

  pub piece_at : (c i : ℕ) (x : PieceState) → c < p.cubs → i ≤ lives.count c
      → In x (store_at p c (lives.input c) i).pieces.items → IsPieceAt p c x
  piece_at c i x small low there = all_in (IsPieceAt p c) x (store_at p c (lives.input c) i).pieces.items
      (kept c i small low).pieces there

  kept_within : (c i : ℕ) (stamp : Stamp) → c < p.cubs → i < lives.count c → lives.input c i ≡ Tick stamp
      → IsStoreOf p c (before_forwarding p c stamp (store_at p c (lives.input c) i))
  kept_within c i stamp small low is =
      let e : stamp.reading ≡ (stamp_of (lives.input c i)).reading = ap (λ (k : Input Msg). (stamp_of k).reading)
      (sym is) in
      let short = (are c small).short i low in
      kept_before p c stamp plan small (store_at p c (lives.input c) i) (kept c i small (omega arith)) (omega arith)

  pub unasked_within : (c i : ℕ) (stamp : Stamp) (x : PieceState) → c < p.cubs → i < lives.count c
      → lives.input c i ≡ Tick stamp
      → In x (before_reading p c stamp (store_at p c (lives.input c) i)).unasked.items
      → IsPieceAt p c x
  unasked_within c i stamp x small low is there =
      let g : Store = before_forwarding p c stamp (store_at p c (lives.input c) i) in
      all_in (IsPieceAt p c) x g.unasked.items (kept_within c i stamp small low is).unasked
      (subst (λ (d : Deed Msg Store). In x d.state.unasked.items) (forward_is p c stamp g) there)
