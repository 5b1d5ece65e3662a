-- The datagrams of a frame that takes what waits on a board.
use Rattle.std.proofs.Common.{◌≡◌, ◌≢◌, ◌⊎◌, inl, inr, ℕ, ◌+◌, ◌<◌, ◌≤◌, List, [], ◌∷◌, Option, refl, sym, subst, ◌∙◌, arith}
use Rattle.std.specs.List.{All}
use Rattle.std.proofs.lemmas.List.Elements.{All-append, All-cons, All-nil}
use Rattle.ecat_frame.specs.Frame.{Pdu}
use Rattle.wire_frames.specs.Out.{sent_to}
use Rattle.wire_frames.specs.declared.numbered.Carried.{Carried}
use Rattle.site_wire.specs.Orders.{datagram_of}
use Rattle.site_wire.specs.declared.answers.Answer.{Answer}
use Rattle.site_wire.specs.declared.order.Order.{Order}
use Rattle.site_wire.specs.declared.joining.Stage.{Stage}
use Rattle.site_wire.specs.declared.joining.Stage.TheVariants as stage
use Rattle.site_wire.specs.Joining.{Collects, leaves, takes, ComesToRest, ReportedOf, Waited, WaitsNoMore, stage_of}

-- one more datagram that waited; what waits now waited before
module _ (stations : List ℕ) (old now new : List Stage) (frame later : List Pdu)
    (fewer : (other : ℕ) → WaitsNoMore (stage_of old other) (stage_of now other)) (all : All (Waited stations old) frame) where
  pub all_waited : {slave : ℕ} → Collects stations slave now new frame later → All (Waited stations old) later
  all_waited {slave} (leaves same is) = subst (All (Waited stations old)) (sym is) all
  all_waited {slave} (takes order address waits reaches stages is) =
      let d : Pdu = sent_to (datagram_of order) address in
      let waited : Waited stations old d = record {
        slave = slave;
        order = order;
        waits = fewer slave order waits;
        address = address;
        reaches = reaches;
        is = refl;
      } in
      subst (All (Waited stations old)) (sym is)
      (All-append (Waited stations old) frame (d ∷ []) all (All-cons (Waited stations old) d [] waited (All-nil (Waited stations old))))

  -- the same, by the stations as they are now
  pub all_waited_now : {slave : ℕ} (current : List ℕ) → current ≡ stations → Collects current slave now new frame later → All (Waited stations old) later
  all_waited_now {slave} current same takes_it = all_waited (subst (λ (s : List ℕ). Collects s slave now new frame later) same takes_it)

-- nothing is put into the frame
pub leaves_it : (stations : List ℕ) (slave : ℕ) (stages : List Stage) (frame later : List Pdu) → later ≡ frame
    → Collects stations slave stages stages frame later
leaves_it stations slave stages frame later is = leaves refl is

-- ANSWERS

module _ (carried : Option Carried) where
  -- the datagram was in the frame under way
  pub comes_to : (old new : Stage) (order : Order) (address place : ℕ) (answer : Option Answer) → old ≡ stage.Sent order address place
      → new ≡ stage.Answered answer → ReportedOf (datagram_of order) address place carried answer → ComesToRest carried old new
  comes_to old new order address place answer was is reported = subst (λ (s : Stage). ComesToRest carried s new) (sym was) (answer, is, reported)

  -- it wasn't
  pub stays_at : (old : Stage) → ((order : Order) (address place : ℕ) → old ≢ stage.Sent order address place) → ComesToRest carried old old
  stays_at stage.Vacant not = refl
  stays_at (stage.Waits order) not = refl
  stays_at (stage.Sent order address place) not = absurd (not order address place refl)
  stays_at (stage.Answered answer) not = refl

  module _ (first mid new : List Stage) (slave : ℕ) (others : (other : ℕ) → other ≢ slave → stage_of new other ≡ stage_of mid other) where
    -- those up to one have their answers, and so has this one
    pub one_done : ((k : ℕ) → k < slave → ComesToRest carried (stage_of first k) (stage_of mid k))
        → ((k : ℕ) → slave ≤ k → stage_of mid k ≡ stage_of first k) → ComesToRest carried (stage_of mid slave) (stage_of new slave)
        → (k : ℕ) → k < slave + 1 → ComesToRest carried (stage_of first k) (stage_of new k)
    one_done done rest this k near = by (sides k near)
      where
        sides : (j : ℕ) → j < slave + 1 → (j < slave) ⊎ (j ≡ slave)
        sides j less = grind arith

        by : (k < slave) ⊎ (k ≡ slave) → ComesToRest carried (stage_of first k) (stage_of new k)
        by (inl before) =
            subst (ComesToRest carried (stage_of first k)) (sym (others k (λ same. absurd (omega (arith, before, same))))) (done k before)
        by (inr same) = subst (λ (j : ℕ). ComesToRest carried (stage_of first j) (stage_of new j)) (sym same)
            (subst (λ (s : Stage). ComesToRest carried s (stage_of new slave)) (rest slave (omega arith)) this)

    pub none_after : ((k : ℕ) → slave ≤ k → stage_of mid k ≡ stage_of first k) → (k : ℕ) → slave + 1 ≤ k → stage_of new k ≡ stage_of first k
    none_after rest k far = others k (λ same. absurd (omega (arith, far, same))) ∙ rest k (omega (arith, far))
