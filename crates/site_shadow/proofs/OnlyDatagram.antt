-- A frame of one datagram, which is answered in place.
use Rattle.std.proofs.Common.{◌≡◌, ℕ, ◌+◌, ◌%◌, ◌<◌, Bool, true, false, List, [], ◌∷◌, length, take, Some, slice_get, refl, sym, ap, subst, ◌∙◌, arith}
use Rattle.ecat_frame.specs.Frame.{Pdu}
use Rattle.ecat_frame.specs.Answer.{answered}
use Rattle.esc_model.specs.Datagrams.{served_datagram}
use Rattle.site_core.specs.Exchange.{AreReplies}
use Rattle.site_core.specs.State.{State, Seen, words_held}
use Rattle.ecat_frame.specs.declared.copies.DatagramHeader.{DatagramHeader}
use Rattle.ecat_frame.specs.Copies.{IsOnly}
use Rattle.site_shadow.specs.Going.{TakesOne, Went, Passed}
use Rattle.site_shadow.proofs.LineHalves.{held-half}
use Rattle.site_shadow.proofs.GoingThrough.{Went-none, Went-more}

-- what comes back is as long as what was sent
pub reply-long : (sent answer : List Pdu) (header : DatagramHeader) (buffer : List ℕ) → IsOnly sent header buffer → AreReplies sent answer
    → (x : Pdu) → slice_get answer 0 ≡ Some x → length (take header.count buffer) ≡ length x.content
reply-long [] answer header buffer only replies x at = let one = only.one in absurd (omega arith)
reply-long (d ∷ ds) [] header buffer only replies x at = absurd replies
reply-long (d ∷ ds) (r ∷ rs) header buffer only replies x at =
    let sent_is : d ≡ only.copied.datagram = (let e : Some d ≡ Some only.copied.datagram = only.copied.at in cc) in
    let reply_is : r ≡ x = (let e : Some r ≡ Some x = at in cc) in
    ap length only.copied.content ∙ ap (λ (p : Pdu). length p.content) (sym sent_is) ∙ sym replies.0.length ∙ ap (λ (p : Pdu). length p.content) reply_is

answered-back : (sent : List Pdu) (d : Pdu) (content : List ℕ) (counter : ℕ) → length sent ≡ 1 → slice_get sent 0 ≡ Some d
    → answered (answered sent 0 content counter) 0 d.content d.counter ≡ sent
answered-back [] d content counter one at = absurd cc
answered-back (e ∷ []) d content counter one at = let same : e ≡ d = (let i : Some e ≡ Some d = at in cc) in rw same refl
answered-back (e ∷ f ∷ rest) d content counter one at = absurd (omega arith)

-- with its old content and counter it is as it was sent
pub put_back : (old : Seen) (slave : ℕ) (sent answer left : List Pdu) (header : DatagramHeader) (buffer : List ℕ) (new : Seen) → IsOnly sent header buffer
    → TakesOne old slave 0 sent answer new → left ≡ answered answer 0 (take header.count buffer) header.counter → left ≡ sent
put_back old slave sent answer left header buffer new only takes left_is =
    let d : Pdu = only.copied.datagram in
    let content : List ℕ = (served_datagram takes.rested takes.datagram).content in
    let counter : ℕ = (takes.datagram.counter + (served_datagram takes.rested takes.datagram).added) % 65536 in
    left_is
    ∙ ap (λ (a : List Pdu). answered a 0 (take header.count buffer) header.counter) takes.answer_is
    ∙ ap (λ (c : List ℕ). answered (answered sent 0 content counter) 0 c header.counter) only.copied.content
    ∙ ap (λ (n : ℕ). answered (answered sent 0 content counter) 0 d.content n) (sym only.copied.counter)
    ∙ answered-back sent d content counter only.one only.copied.at

-- the half took it, and it was the whole frame
pub Passed-only : (old : Seen) (slave : ℕ) (sent answer : List Pdu) (stops : Bool) (middle : List State) (left : List Pdu) (new : Seen)
    → 0 < words_held old slave → length sent ≡ 1 → TakesOne old slave 0 sent answer new → middle ≡ new.state ∷ []
    → (stops ≡ false → left ≡ answer) → (stops ≡ true → left ≡ sent) → Passed old slave sent stops middle left new
Passed-only old slave sent answer stops middle left new owned one takes middle_is entire kept =
    let held = held-half old slave owned in
    let went : Went old slave sent 1 (new.state ∷ []) answer new = Went-more old slave sent 0 [] sent old answer new (omega arith) (Went-none old slave held.0 sent held.1) takes in
    record {
      count = 1;
      answer = answer;
      went = subst (λ (m : List State). Went old slave sent 1 m answer new) (sym middle_is) went;
      entire = λ going. (sym one, entire going);
      kept = kept;
    }
