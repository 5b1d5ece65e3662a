-- Frames that go out, once or several times.
use Rattle.std.proofs.Common.{◌≡◌, ℕ, zero, suc, ◌+◌, ◌<◌, Bool, true, false, List, [], ◌∷◌, ◌++◌, length, replicate, sym, ap, subst, ◌∙◌, arith}
use Rattle.std.proofs.Common.{append-nil, append_assoc, length-append}
use Rattle.std.specs.Prelude.{nat_lt}
use Rattle.std.proofs.lemmas.Bool.{le-ltb, lt-ltb}
use Rattle.std.proofs.lemmas.List.{length-replicate, replicate_more}
use Rattle.ecat_frame.specs.Frame.{Pdu}
use Rattle.wire_frames.specs.Out.{GoesOut, goes, GoesTo, IsGiven, numbered, sent_to}

-- From the one to the other the frame goes out so many times.
abbrev pub GoneOut : (times : ℕ) → (frame : List Pdu) → (old new : List (List Pdu)) → Type 0
GoneOut times frame old new = new ≡ old ++ replicate times frame

pub none_yet : (frame : List Pdu) (old : List (List Pdu)) → GoneOut 0 frame old old
none_yet frame old = sym (append-nil old)

-- once more
pub once_more : (frame : List Pdu) (times : ℕ) (old mid new later : List (List Pdu)) → GoneOut times frame old mid → new ≡ mid ++ frame ∷ []
    → later ≡ new → GoneOut (times + 1) frame old later
once_more frame times old mid new later before is same =
    same ∙ is ∙ ap (λ (m : List (List Pdu)). m ++ frame ∷ []) before ∙ append_assoc old (replicate times frame) (frame ∷ [])
    ∙ ap (λ (more : List (List Pdu)). old ++ more) (replicate_more times frame)

-- whether it went out more than once
pub more_than_once : (frame : List Pdu) (times : ℕ) (old new : List (List Pdu)) → GoneOut (times + 1) frame old new
    → nat_lt 0 times ≡ nat_lt (length old + 1) (length new)
more_than_once frame times old new gone = by times long
  where
    long : length new ≡ length old + (times + 1)
    long = ap (length {A = List Pdu}) gone ∙ length-append old (replicate (times + 1) frame)
        ∙ ap (λ (n : ℕ). length old + n) (length-replicate (times + 1) frame)

    by : (t : ℕ) → length new ≡ length old + (t + 1) → nat_lt 0 t ≡ nat_lt (length old + 1) (length new)
    by zero is = sym (le-ltb (length old + 1) (length new) (omega (arith, is)))
    by (suc t) is = lt-ltb 0 (suc t) (omega arith) ∙ sym (lt-ltb (length old + 1) (length new) (omega (arith, is)))

module _ (Takes : List ℕ → Type 0) where
  -- it came back
  pub came_back : (frame : List Pdu) (times : ℕ) (old new : List (List Pdu)) → times < 3 → GoneOut (times + 1) frame old new → IsGiven Takes frame
      → GoesOut Takes frame old new true
  came_back frame times old new few gone given = goes (times + 1) (omega arith) (omega (arith, few)) (λ lost. absurd cc) given gone

  -- it didn't
  pub never_came : (frame : List Pdu) (times : ℕ) (old new : List (List Pdu)) → times ≡ 3 → GoneOut times frame old new
      → (0 < times → IsGiven Takes frame) → GoesOut Takes frame old new false
  never_came frame times old new three gone given =
      goes times (omega (arith, three)) (omega (arith, three)) (λ lost. three) (given (omega (arith, three))) gone

  -- the same frame, and what came of it
  pub goes_as : (frame other : List Pdu) (old mid new : List (List Pdu)) (is_back back : Bool) → frame ≡ other → mid ≡ old → is_back ≡ back
      → GoesOut Takes frame mid new is_back → GoesOut Takes other old new back
  goes_as frame other old mid new is_back back is same came goes_out = subst (GoesOut Takes other old new) came
      (subst (λ (m : List (List Pdu)). GoesOut Takes other m new is_back) same (subst (λ (f : List Pdu). GoesOut Takes f mid new is_back) is goes_out))

  -- this datagram alone
  pub goes_to : (asked : Pdu) (address number : ℕ) (frame : List Pdu) (old new : List (List Pdu)) (is_back back : Bool)
      → frame ≡ sent_to asked address ∷ [] → is_back ≡ back → GoesOut Takes (numbered frame number) old new is_back
      → GoesTo Takes asked address old new back
  goes_to asked address number frame old new is_back back is same out = record {
    number = number;
    goes = subst (GoesOut Takes (numbered (sent_to asked address ∷ []) number) old new) same
        (subst (λ (f : List Pdu). GoesOut Takes (numbered f number) old new is_back) is out);
  }
