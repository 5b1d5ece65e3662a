-- A word in flight that is told again or read back, and all that is sent for a datagram.
use Rattle.std.proofs.Common.{◌≡◌, ℕ, Bool, true, false, List, [], ◌∷◌, ◌++◌, Option, Some, None, refl, sym, ap, subst, ◌∙◌}
use Rattle.std.proofs.Common.{inl, inr}
use Rattle.std.specs.Prelude.{IsTrue, if◌then◌else◌, IsSome}
use Rattle.std.specs.Option.{option_map}
use Rattle.std.proofs.lemmas.Bool.Decides.{eqb_tells}
use Rattle.std.proofs.lemmas.List.Elements.{All-cons, All-nil, All-weaker}
use Rattle.ecat_frame.specs.Frame.{Pdu}
use Rattle.esc_model.specs.Bytes.{station_of}
use Rattle.esc_model.specs.Orders.{station}
use Rattle.esc_model.specs.declared.rest.WordWrite.{WordWrite}
use Rattle.esc_model.specs.SlaveHalf.{SlaveHalf, is_busy, in_flight}
use Rattle.site_shadow.specs.declared.device.Resting.{Resting}
use Rattle.site_shadow.specs.declared.device.Resting.TheVariants as resting
use Rattle.site_wire.specs.Due.{WritesControl}
use Rattle.site_wire.specs.Known.{IsKnown}
use Rattle.site_wire.specs.Answering.{found_of}
use Rattle.site_wire.specs.declared.answers.Answer.{Answer}
use Rattle.site_wire.specs.declared.sending.Exchange.{Exchange}
use Rattle.site_wire.specs.Sent.{Exchanged, exchanged, Sends}
use Rattle.site_wire.specs.Following.{IsOwnTo, SendsOwn, TellsWord, ReadsBack, RestsBy, stays, read_back, rests_with, FollowsUp, Carries, waits}
use Rattle.site_wire.specs.Following.{known, passes, follows_up, SendsFirst, is_lost, comes_back, SendsFor, IsDueTo, CarriesFrame}
use Rattle.site_wire.proofs.Living.{lives_parts, lives_station}
use Rattle.site_wire.proofs.Due.{writing_by}
use Rattle.site_wire.proofs.Sends.{sends_none, sends_then, both_own}

-- FOLLOWED UP

-- What tells a word tells it behind other calls too.
pub tells_later : (slave word value : ℕ) (first second : List Exchanged) → TellsWord slave word value second → TellsWord slave word value (first ++ second)
tells_later slave word value first second tells real later near lives =
    let parts = lives_parts first second real later lives in
    tells parts.mid later (lives_station first real parts.mid parts.before ∙ near) parts.afterwards

module _ (slave : ℕ) (half : SlaveHalf) (write : WordWrite) where
  -- the word stays in flight
  pub up_nothing : (sent : List Exchange) (how : Resting) → how ≡ resting.Stays → FollowsUp slave half write sent sent how
  up_nothing sent how is = subst (FollowsUp slave half write sent sent) (sym is)
      (record { calls = []; sends = sends_none sent; own = All-nil (IsOwnTo slave half); rests = stays })

  pub up_own : (old new : List Exchange) (how : Resting) → how ≡ resting.Stays → SendsOwn slave half old new → FollowsUp slave half write old new how
  up_own old new how is own = subst (FollowsUp slave half write old new) (sym is)
      (record { calls = own.calls; sends = own.sends; own = own.own; rests = stays })

  pub up_unread : (old new : List Exchange) (result : Option ℕ) (how : Resting) → how ≡ resting.Stays → ReadsBack slave half write.word old new result
      → FollowsUp slave half write old new how
  up_unread old new result how is back = subst (FollowsUp slave half write old new) (sym is)
      (record { calls = back.calls; sends = back.sends; own = back.own; rests = stays })

  -- it ends as it was read back
  pub up_read : (old new : List Exchange) (value : ℕ) (result : Option ℕ) (how : Resting) → result ≡ Some value → how ≡ rests_with write value
      → ReadsBack slave half write.word old new result → FollowsUp slave half write old new how
  up_read old new value result how is ends back = subst (FollowsUp slave half write old new) (sym ends)
      (record { calls = back.calls; sends = back.sends; own = back.own; rests = read_back value (back.tells value is) })

  -- the word that was to be written was read back
  pub up_well : (old new : List Exchange) (result : Option ℕ) → result ≡ Some write.value → ReadsBack slave half write.word old new result
      → FollowsUp slave half write old new resting.Well
  up_well old new result is back = up_read old new write.value result resting.Well is well back
    where
      well : resting.Well ≡ rests_with write write.value
      well = elim (eqb_tells write.value write.value) [
        | inl same ↦ ap (λ (b : Bool). if b then resting.Well else resting.FailedWith write.value) (sym same.0)
        | inr other ↦ absurd (other.1 refl)
      ]

  -- the one after the other
  pub up_then : (old mid new : List Exchange) (result : Option ℕ) (how : Resting) → ReadsBack slave half write.word old mid result → FollowsUp slave half write mid new how
      → FollowsUp slave half write old new how
  up_then old mid new result how back up = record {
    calls = back.calls ++ up.calls;
    sends = sends_then old mid new back.calls up.calls back.sends up.sends;
    own = both_own slave half back.calls up.calls back.own up.own;
    rests = later up.rests;
  }
    where
      later : {how : Resting} → RestsBy slave write up.calls how → RestsBy slave write (back.calls ++ up.calls) how
      later stays = stays
      later (read_back value tells) = read_back value (tells_later slave write.word value back.calls up.calls tells)

-- ALL THAT IS SENT

-- nothing came back
pub none_came : (answer : Option Answer) → answer ≡ None → IsSome answer → ⊥
none_came None is some = absurd cc
none_came (Some answer) is some = absurd cc

-- a half is busy while a word is in flight
pub is_busy_of : (half : SlaveHalf) (write : WordWrite) → in_flight half.activity ≡ Some write → IsTrue (is_busy half.activity)
is_busy_of half write flying = ap is_busy (writing_by half.activity write flying)

module _ (slave : ℕ) (half : SlaveHalf) (d : Pdu) where
  abbrev ToThis : Exchanged → Type 0
  ToThis call = station_of call.sent.address ≡ station slave

  -- the answer that came
  came : (answer : Option Answer) → IsSome answer → (found : Pdu) × (option_map found_of answer ≡ Some found)
  came (Some answer) some = (found_of answer, refl)
  came None none = absurd cc

  -- it is sent first
  once_first : (answer : Option Answer) → (IsTrue (is_busy half.activity) → ¬ WritesControl d) → ¬ IsKnown half d
      → SendsFirst slave half d (exchanged d (option_map found_of answer) ∷ [])
  once_first (Some answer) may news = comes_back (found_of answer) [] may news (All-nil (IsOwnTo slave half))
  once_first None may news = is_lost may news

  -- the datagram, and nothing after it
  pub for_once : (old new : List Exchange) (answer : Option Answer) (is_over : Bool) (how : Resting) → how ≡ resting.Stays → station_of d.address ≡ station slave
      → Sends old new (exchanged d (option_map found_of answer) ∷ []) → (is_over ≡ false → IsSome answer)
      → (IsTrue (is_busy half.activity) → ¬ WritesControl d) → ¬ IsKnown half d → (is_over ≡ false → in_flight half.activity ≡ None)
      → SendsFor slave half d old new is_over how
  for_once old new answer is_over how is to sends back may news quiet = record {
    calls = exchanged d (option_map found_of answer) ∷ [];
    first = once_first answer may news;
    sends = sends;
    to = All-cons ToThis (exchanged d (option_map found_of answer)) [] to
        (All-nil ToThis);
    carries = λ going.
        let found = came answer (back going) in
        subst (λ (a : Option Pdu). Carries slave half d (exchanged d a ∷ []) how) (sym found.1)
        (subst (Carries slave half d (exchanged d (Some found.0) ∷ [])) (sym is) (passes found.0 may (quiet going) news));
  }

  -- the datagram, and what follows it up
  pub for_word : (old mid new : List Exchange) (answer : Answer) (write : WordWrite) (is_over : Bool) (how : Resting) → station_of d.address ≡ station slave
      → Sends old mid (exchanged d (Some (found_of answer)) ∷ []) → ¬ WritesControl d → in_flight half.activity ≡ Some write
      → FollowsUp slave half write mid new how → SendsFor slave half d old new is_over how
  for_word old mid new answer write is_over how to sends quiet flying up = record {
    calls = exchanged d (Some (found_of answer)) ∷ up.calls;
    first = comes_back (found_of answer) up.calls (λ _. quiet) (λ is. absurd (let e : None ≡ Some write = sym is.quiet ∙ flying in cc)) up.own;
    sends = sends_then old mid new (exchanged d (Some (found_of answer)) ∷ []) up.calls sends up.sends;
    to = All-cons ToThis (exchanged d (Some (found_of answer))) up.calls to
        (All-weaker (IsOwnTo slave half) ToThis (λ call own. own.to) up.calls up.own);
    carries = λ going. follows_up (found_of answer) write up.calls how quiet flying up.own up.rests;
  }

-- A FRAME

module _ (slave number : ℕ) (half : SlaveHalf) (frame : List Pdu) (same : number ≡ slave) where
  -- nothing is sent for the datagram
  by_itself : (d : Pdu) (sent : List Exchange) (is_over : Bool) (how : Resting) → IsDueTo number half frame d → Carries slave half d [] how
      → CarriesFrame slave half frame sent sent is_over how
  by_itself d sent is_over how due carries = record {
    calls = [];
    first = inl refl;
    sends = sends_none sent;
    to = All-nil (λ (call : Exchanged). station_of call.sent.address ≡ station slave);
    carries = λ going. (d, subst (λ (n : ℕ). IsDueTo n half frame d) same due, carries);
  }

  pub frame_known : (d : Pdu) (sent : List Exchange) (is_over : Bool) → IsDueTo number half frame d → IsKnown half d
      → CarriesFrame slave half frame sent sent is_over resting.Well
  frame_known d sent is_over due is = by_itself d sent is_over resting.Well due (known is)

  pub frame_ignored : (d : Pdu) (sent : List Exchange) (is_over : Bool) → IsDueTo number half frame d → IsTrue (is_busy half.activity) × WritesControl d
      → CarriesFrame slave half frame sent sent is_over resting.Stays
  frame_ignored d sent is_over due is = by_itself d sent is_over resting.Stays due (waits is.0 is.1)

  -- it is sent
  pub frame_sent : (d : Pdu) (old new : List Exchange) (is_over : Bool) (how : Resting) → IsDueTo number half frame d → SendsFor number half d old new is_over how
      → CarriesFrame slave half frame old new is_over how
  frame_sent d old new is_over how due sent =
      subst (λ (n : ℕ). CarriesFrame n half frame old new is_over how) same (record {
        calls = sent.calls;
        first = inr (d, due, sent.first);
        sends = sent.sends;
        to = sent.to;
        carries = λ going. (d, due, sent.carries going);
      })

-- the site is over
pub frame_over : (slave : ℕ) (half : SlaveHalf) (frame : List Pdu) (old new : List Exchange) (is_over : Bool) (how : Resting) → new ≡ old → is_over ≡ true
    → CarriesFrame slave half frame old new is_over how
frame_over slave half frame old new is_over how same over =
    subst (λ (s : List Exchange). CarriesFrame slave half frame old s is_over how) (sym same) (record {
      calls = [];
      first = inl refl;
      sends = sends_none old;
      to = All-nil (λ (call : Exchanged). station_of call.sent.address ≡ station slave);
      carries = λ going. absurd (let e : true ≡ false = sym over ∙ going in cc);
    })
