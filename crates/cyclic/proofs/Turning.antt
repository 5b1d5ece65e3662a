-- The outcome of the frame of a turn.
use Rattle.std.proofs.Common.{◌≡◌, ℕ, ◌+◌, ◌-◌, ◌≤◌, Bool, true, false, cond, List, [], ◌∷◌, ◌++◌, length, take, drop, replicate, slice_get, Some, Result, Ok, Err, refl, sym, ap, subst, ◌∙◌, length-append, length-drop, inl, inr, arith}
use Rattle.std.proofs.lemmas.Bool.Decides.{eqb_tells}
use Rattle.std.proofs.lemmas.List.{length-replicate, drop-replicate, take-replicate, take_all}
use Rattle.std.proofs.Math.Seq.{take-append-add}
use Rattle.ecat_frame.specs.Frame.{Pdu}
use Rattle.site_core.specs.declared.fault.DeviceFault.{DeviceFault}
use Rattle.site_core.specs.declared.fault.DeviceFault.TheVariants as device
use Rattle.site_core.specs.State.{Seen}
use Rattle.site_core.specs.Exchange.{AreReplies}
use Rattle.sii_image.specs.ProcessImage.{ProcessImageParts}
use Rattle.cyclic.specs.declared.fault.CycleFault.{CycleFault}
use Rattle.cyclic.specs.declared.fault.CycleFault.TheVariants as cycle
use Rattle.cyclic.specs.Exchange.{compared, Gives, LeavesAll, Exchanges}
use Rattle.cyclic.specs.Turn.{turn_order, Given, given_by, GivesTurn, TakesTurn}
use Rattle.cyclic.proofs.Exchanging.{one_reply, compared_right, compared_wrong}

given : ProcessImageParts → Pdu → List ℕ → Bool → Given
given image reply inputs b =
    cond b (record { result = Ok reply.counter; inputs = drop image.outputs reply.content })
    (record { result = Err (cycle.WrongCounter reply.counter image.counter); inputs = inputs })

pub gives_fault : (image : ProcessImageParts) (reply : Pdu) (inputs : List ℕ) (fault : CycleFault) → Err fault ≡ compared image.counter reply.counter
    → record { result = Err fault; inputs = inputs } ≡ given_by image reply inputs
unfolding given
gives_fault image reply inputs fault is =
    elim (eqb_tells reply.counter image.counter) [
      | inl right ↦ let wrong : ◌≡◌ {A = Result (Unit {0}) CycleFault} (Err fault) (Ok tt) = is ∙ sym (compared_right image.counter reply.counter right.1) in absurd cc
      | inr wrong ↦
          let so : ◌≡◌ {A = Result (Unit {0}) CycleFault} (Err fault) (Err (cycle.WrongCounter reply.counter image.counter)) = is ∙ sym (compared_wrong image.counter reply.counter wrong.1) in
          let fault_is : fault ≡ cycle.WrongCounter reply.counter image.counter = cc in
          let e : ◌≡◌ {A = Given} (record { result = Err fault; inputs = inputs }) (given image reply inputs false) = ap (λ (f : CycleFault). record { result = Err f; inputs = inputs }) fault_is in
          e ∙ sym (ap (given image reply inputs) wrong.0)
    ]

pub gives_counter : (image : ProcessImageParts) (reply : Pdu) (inputs : List ℕ) → Ok tt ≡ compared image.counter reply.counter
    → record { result = Ok image.counter; inputs = drop image.outputs reply.content } ≡ given_by image reply inputs
unfolding given
gives_counter image reply inputs is =
    elim (eqb_tells reply.counter image.counter) [
      | inl right ↦
          let e : ◌≡◌ {A = Given} (record { result = Ok image.counter; inputs = drop image.outputs reply.content }) (given image reply inputs true) =
          ap (λ n. record { result = Ok n; inputs = drop image.outputs reply.content }) (sym right.1) in
          e ∙ sym (ap (given image reply inputs) right.0)
      | inr wrong ↦ let so : ◌≡◌ {A = Result (Unit {0}) CycleFault} (Ok tt) (Err (cycle.WrongCounter reply.counter image.counter)) = is ∙ sym (compared_wrong image.counter reply.counter wrong.1) in absurd cc
    ]

turn_fails : (image : ProcessImageParts) (answer : Result (List Pdu) DeviceFault) (inputs : List ℕ) (fault : CycleFault) → Gives image.counter answer (Err fault)
    → GivesTurn image answer inputs (record { result = Err fault; inputs = inputs })
turn_fails image (Ok []) inputs fault gives = absurd gives
turn_fails image (Ok (reply ∷ [])) inputs fault gives = gives_fault image reply inputs fault gives
turn_fails image (Ok (reply ∷ other ∷ others)) inputs fault gives = absurd gives
turn_fails image (Err device.Disk) inputs fault gives = absurd gives
turn_fails image (Err device.Lost) inputs fault gives = let is : fault ≡ cycle.Lost = cc in ap (λ (f : CycleFault). record { result = Err f; inputs = inputs }) is
turn_fails image (Err device.Stopped) inputs fault gives = let is : fault ≡ cycle.Stopped = cc in ap (λ (f : CycleFault). record { result = Err f; inputs = inputs }) is

-- the result of a call, as another call returns it
leaves_reported : (count : ℕ) (old : Seen) (fault : CycleFault) (new : Seen) → LeavesAll {T = Unit {0}} count old (Err fault) new → LeavesAll {T = ℕ} count old (Err fault) new
leaves_reported count old fault new leaves = record {
  calls = leaves.calls;
  past = leaves.past;
  clock = leaves.clock;
  adds_nothing = leaves.adds_nothing;
  same = λ not. leaves.same (λ e. not (let is : fault ≡ cycle.Stopped = cc in ap Err is));
  stopped = λ e. leaves.stopped (let is : fault ≡ cycle.Stopped = cc in ap Err is);
  counted = leaves.counted;
  follows = leaves.follows;
  going = λ some stops. let was = leaves.going some stops in (let is : fault ≡ cycle.Stopped = cc in ap Err is);
  nothing = leaves.nothing;
}

pub turn_failed : (image : ProcessImageParts) (outputs inputs : List ℕ) (expected : ℕ) → expected ≡ image.counter → (sent : List Pdu) → sent ≡ turn_order image outputs ∷ []
    → (old : Seen) (fault : CycleFault) (result : Result ℕ CycleFault) → result ≡ Err fault → (back : List Pdu) (new : Seen)
    → Exchanges expected sent old (Err fault) back new → TakesTurn image outputs inputs old result inputs new
turn_failed image outputs inputs expected counter sent order old fault result is back new exchanges =
    let here : Exchanges image.counter (turn_order image outputs ∷ []) old (Err fault) back new =
    subst (λ (s : List Pdu). Exchanges image.counter s old (Err fault) back new) order (subst (λ n. Exchanges n sent old (Err fault) back new) counter exchanges) in
    let failed : TakesTurn image outputs inputs old (Err fault) inputs new =
    record { answer = here.answer; turn = here.turn; gives = turn_fails image here.answer inputs fault here.gives; leaves = leaves_reported 1 old fault new here.leaves } in
    subst (λ (r : Result ℕ CycleFault). TakesTurn image outputs inputs old r inputs new) (sym is) failed

-- ---- What the frame brought.

-- one datagram of as many bytes
pub record Brings (image : ProcessImageParts) (outputs : List ℕ) (back : List Pdu) (reply : Pdu) : Type 0 where
  pub alone : back ≡ reply ∷ []
  pub length_is : length reply.content ≡ length outputs + image.inputs

pub brought : (image : ProcessImageParts) (outputs : List ℕ) (sent back : List Pdu) → sent ≡ turn_order image outputs ∷ [] → AreReplies sent back → (reply : Pdu) → slice_get back 0 ≡ Some reply
    → Brings image outputs back reply
brought image outputs sent back order replies reply here =
    let one : length sent ≡ 1 = ap length order in
    let first = one_reply sent back one replies in
    let same : Some first.0 ≡ Some reply = sym (ap (λ (b : List Pdu). slice_get b 0) first.1) ∙ here in
    let is : first.0 ≡ reply = cc in
    let alone : back ≡ reply ∷ [] = first.1 ∙ ap (λ (p : Pdu). p ∷ []) is in
    let both : AreReplies (turn_order image outputs ∷ []) (reply ∷ []) =
    subst (λ (b : List Pdu). AreReplies (turn_order image outputs ∷ []) b) alone (subst (λ (s : List Pdu). AreReplies s back) order replies) in
    record {
      alone = alone;
      length_is = both.0.length ∙ length-append outputs (replicate image.inputs 0) ∙ ap (λ n. length outputs + n) (length-replicate image.inputs 0);
    }

pub turn_taken : (image : ProcessImageParts) (outputs inputs left : List ℕ) (expected : ℕ) → expected ≡ image.counter → (sent : List Pdu) → sent ≡ turn_order image outputs ∷ []
    → (old : Seen) (back : List Pdu) (new : Seen) → Exchanges expected sent old (Ok tt) back new → (reply : Pdu) → back ≡ reply ∷ [] → left ≡ drop image.outputs reply.content
    → TakesTurn image outputs inputs old (Ok expected) left new
turn_taken image outputs inputs left expected counter sent order old back new exchanges reply alone left_is =
    let here : Exchanges image.counter (turn_order image outputs ∷ []) old (Ok tt) back new =
    subst (λ (s : List Pdu). Exchanges image.counter s old (Ok tt) back new) order (subst (λ n. Exchanges n sent old (Ok tt) back new) counter exchanges) in
    let answer_is : here.answer ≡ Ok (reply ∷ []) = (here.brings refl).0 ∙ ap Ok alone in
    let gives : Gives image.counter (Ok (reply ∷ [])) (Ok tt) = subst (λ (a : Result (List Pdu) DeviceFault). Gives image.counter a (Ok tt)) answer_is here.gives in
    let given_so : GivesTurn image (Ok (reply ∷ [])) inputs (record { result = Ok image.counter; inputs = drop image.outputs reply.content }) = gives_counter image reply inputs gives in
    let taken : TakesTurn image outputs inputs old (Ok image.counter) (drop image.outputs reply.content) new = record {
      answer = here.answer;
      turn = here.turn;
      gives = subst (λ (a : Result (List Pdu) DeviceFault). GivesTurn image a inputs (record { result = Ok image.counter; inputs = drop image.outputs reply.content })) (sym answer_is) given_so;
      leaves = record {
        calls = here.leaves.calls;
        past = here.leaves.past;
        clock = here.leaves.clock;
        adds_nothing = here.leaves.adds_nothing;
        same = λ not. here.leaves.same (λ e. absurd cc);
        stopped = λ e. absurd cc;
        counted = here.leaves.counted;
        follows = here.leaves.follows;
        going = λ some stops. absurd (let was = here.leaves.going some stops in absurd cc);
        nothing = here.leaves.nothing;
      };
    } in
    subst (λ n. TakesTurn image outputs inputs old (Ok n) left new) (sym counter)
    (subst (λ (l : List ℕ). TakesTurn image outputs inputs old (Ok image.counter) l new) (sym left_is) taken)

-- ---- Its bytes.

pub content_is : (n : ℕ) (outputs content : List ℕ) (inputs : ℕ) → length outputs + inputs ≤ n → content ≡ outputs ++ drop (length outputs) (replicate n 0)
    → take (length outputs + inputs) content ≡ outputs ++ replicate inputs 0
content_is n outputs content inputs room is =
    let few : inputs ≤ n - length outputs = omega arith in
    ap (λ (l : List ℕ). take (length outputs + inputs) l) (is ∙ ap (λ (l : List ℕ). outputs ++ l) (drop-replicate (length outputs) n 0))
    ∙ take-append-add outputs (replicate (n - length outputs) 0) inputs
    ∙ ap (λ (l : List ℕ). outputs ++ l) (take-replicate inputs (n - length outputs) 0 few)

pub rest_is : (content : List ℕ) (from n : ℕ) → from ≡ n → take (length content - from) (drop from content) ≡ drop n content
rest_is content from n same =
    let all : length (drop from content) ≤ length content - from = omega (arith, length-drop from content) in
    take_all (length content - from) (drop from content) all ∙ ap (λ k. drop k content) same

pub rest_size : (content : List ℕ) (from n : ℕ) → length content ≡ from + n → length (drop from content) ≡ n
rest_size content from n size = omega (arith, length-drop from content)
