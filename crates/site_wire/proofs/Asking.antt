-- How often a datagram is asked: twice it may be asked again.
use Rattle.std.proofs.Common.{◌≡◌, ◌⊎◌, inl, inr, ℕ, ◌≤◌, true, false, Option, Some, None, refl, sym, ap, subst, ◌∙◌, arith}
use Rattle.std.specs.Prelude.{IfSome, IsSomeAnd}
use Rattle.std.specs.Option.{option_map}
use Rattle.ecat_frame.specs.Frame.{Pdu}
use Rattle.site_wire.specs.Due.{begins_work}
use Rattle.site_wire.specs.Answering.{found_of, marked, IsUncounted}
use Rattle.site_wire.specs.declared.answers.Answer.{Answer}
use Rattle.site_wire.specs.Reaching.{IsAskedAgain, MayAsk, stays, asks, waits, Turns, once, again, Asks}

module _ {L : Type 0} (Passes : L → L → Pdu → Option Answer → Type 0) (asked : Pdu) where
  -- an answer for which it is asked again was counted by no slave
  not_again : (last : Option Answer) → ¬ IsSomeAnd last (IsUncounted asked) → ¬ IsSomeAnd last (IsAskedAgain asked)
  not_again None not is = is
  not_again (Some answer) not is = not is.uncounted

  works_once : (answer : Answer) → begins_work asked ≡ true → ¬ IsAskedAgain asked answer
  works_once answer works is = absurd (let e : true ≡ false = sym works ∙ is.no_work in cc)

  marked_reported : (found : Option Answer) → option_map found_of (option_map marked found) ≡ option_map found_of found
  marked_reported None = refl
  marked_reported (Some answer) = refl

  marked_again : (found : Option Answer) → IfSome (option_map marked found) (λ it. it.again ≡ true)
  marked_again None = tt
  marked_again (Some answer) = refl

  -- what is marked was there
  unmarked : (found : Option Answer) (uncounted : Answer) → option_map marked found ≡ Some uncounted → (before : Answer) × (found ≡ Some before) × (marked before ≡ uncounted)
  unmarked None uncounted is = absurd cc
  unmarked (Some before) uncounted is = (before, refl, (let e : Some (marked before) ≡ Some uncounted = is in cc))

  -- the last turn, as it is told
  last_turn : (old new : L) (times : ℕ) (found answer : Option Answer) → times ≤ 3 → Turns Passes asked old times new found → answer ≡ option_map marked found
      → (times ≡ 3) ⊎ ¬ IsSomeAnd found (IsAskedAgain asked) → Asks Passes asked old new answer
  last_turn old new times found answer few turns is ends = record {
    times = times;
    few = few;
    last = found;
    turns = turns;
    ends = ends;
    reported = ap (option_map found_of) is ∙ marked_reported found;
    asked_again = λ more. subst (λ (a : Option Answer). IfSome a (λ it. it.again ≡ true)) (sym is) (marked_again found);
    may_be_busy = λ uncounted works. subst (λ (a : Option Answer). IfSome a (λ it. it.again ≡ true)) (sym is) (marked_again found);
  }

  -- whether it was counted doesn't go by whether the slave may have taken it before
  mark : (answer : Answer) → IsUncounted asked answer → IsUncounted asked (marked answer)
  mark answer is = record {
    is_answer = record {
      command = is.is_answer.command;
      index = is.is_answer.index;
      address = is.is_answer.address;
      length = is.is_answer.length;
      short = is.is_answer.short;
      written = is.is_answer.written;
    };
    counter = is.counter;
  }

  unmark : (answer : Answer) → IsUncounted asked (marked answer) → IsUncounted asked answer
  unmark answer is = record {
    is_answer = record {
      command = is.is_answer.command;
      index = is.is_answer.index;
      address = is.is_answer.address;
      length = is.is_answer.length;
      short = is.is_answer.short;
      written = is.is_answer.written;
    };
    counter = is.counter;
  }

  marked_not : (found : Option Answer) → ¬ IsSomeAnd (option_map marked found) (IsUncounted asked) → ¬ IsSomeAnd found (IsUncounted asked)
  marked_not None not is = is
  marked_not (Some answer) not is = not (mark answer is)

  -- it isn't asked again
  no_more : (before found : Option Answer) (uncounted : Answer) → ¬ IsSomeAnd before (IsUncounted asked) → found ≡ before → found ≡ Some uncounted
      → ¬ IsUncounted asked uncounted
  no_more before found uncounted not same was is =
      not (subst (λ (a : Option Answer). IsSomeAnd a (IsUncounted asked)) (sym was ∙ same) is)

  abbrev T : (old : L) → (times : ℕ) → (new : L) → Option Answer → Type 0
  T old times new found = Turns Passes asked old times new found

  module _ (l0 l1 l2 l3 : L) (a1 a2 a3 : Option Answer) (first : Passes l0 l1 asked a1) where
    -- asked once
    just_once : l3 ≡ l1 → option_map found_of a3 ≡ option_map found_of a1 → ¬ IsSomeAnd a1 (IsAskedAgain asked)
        → (IsSomeAnd a1 (IsUncounted asked) → begins_work asked ≡ true → IfSome a3 (λ it. it.again ≡ true)) → Asks Passes asked l0 l3 a3
    just_once same is not busy = record {
      times = 1;
      few = omega arith;
      last = a1;
      turns = subst (λ (l : L). T l0 1 l a1) (sym same) (once l1 a1 first);
      ends = inr not;
      reported = is;
      asked_again = λ more. absurd (omega (arith, more));
      may_be_busy = busy;
    }

    then_stays : ¬ IsSomeAnd a1 (IsUncounted asked) → l2 ≡ l1 → a2 ≡ a1 → MayAsk Passes asked l2 l3 a2 a3 → Asks Passes asked l0 l3 a3
    then_stays not same is (stays _ same2 is2) =
        just_once (same2 ∙ same) (ap (option_map found_of) (is2 ∙ is)) (not_again a1 not) (λ uncounted works. absurd (not uncounted))
    then_stays not same is (asks u _ was ask _ _) = absurd (no_more a1 a2 u not is was ask.uncounted)
    then_stays not same is (waits u was uncounted _ _ _) = absurd (no_more a1 a2 u not is was uncounted)

    then_asks : (u : Answer) (found : Option Answer) → a1 ≡ Some u → IsAskedAgain asked u → Passes l1 l2 asked found → a2 ≡ option_map marked found
        → MayAsk Passes asked l2 l3 a2 a3 → Asks Passes asked l0 l3 a3
    then_asks u found was ask pass is may = by may
      where
        twice : T l0 2 l2 found
        twice = again 1 l1 l2 u found (subst (T l0 1 l1) was (once l1 a1 first)) ask pass

        by : MayAsk Passes asked l2 l3 a2 a3 → Asks Passes asked l0 l3 a3
        by (stays not same is2) = last_turn l0 l3 2 found a3 (omega arith) (subst (λ (l : L). T l0 2 l found) (sym same) twice) (is2 ∙ is)
            (inr (not_again found (marked_not found (subst (λ (a : Option Answer). ¬ IsSomeAnd a (IsUncounted asked)) is not))))
        by (asks u2 found2 was2 ask2 pass2 is2) =
            let before = unmarked found u2 (sym is ∙ was2) in
            let ask_before : IsAskedAgain asked before.0 = record {
              uncounted = unmark before.0 (subst (IsUncounted asked) (sym before.2) ask2.uncounted);
              no_work = ask2.no_work;
            } in
            last_turn l0 l3 3 found2 a3 (omega arith) (again 2 l2 l3 before.0 found2 (subst (T l0 2 l2) before.1 twice) ask_before pass2) is2 (inl refl)
        by (waits u2 was2 uncounted works same is2) = absurd (works_once u works ask)

    then_waits : (u : Answer) → a1 ≡ Some u → IsUncounted asked u → begins_work asked ≡ true → l2 ≡ l1 → a2 ≡ Some (marked u)
        → MayAsk Passes asked l2 l3 a2 a3 → Asks Passes asked l0 l3 a3
    then_waits u was uncounted works same is (stays not _ _) =
        absurd (not (subst (λ (a : Option Answer). IsSomeAnd a (IsUncounted asked)) (sym is) (mark u uncounted)))
    then_waits u was uncounted works same is (asks u2 _ _ ask _ _) = absurd (works_once u2 works ask)
    then_waits u was uncounted works same is (waits u2 was2 _ _ same2 is2) =
        let u2_is : u2 ≡ marked u = (let e : Some u2 ≡ Some (marked u) = sym was2 ∙ is in cc) in
        just_once (same2 ∙ same)
        (ap (option_map found_of) is2 ∙ ap (λ (a : Answer). Some (found_of (marked a))) u2_is ∙ sym (ap (option_map found_of) was))
        (subst (λ (a : Option Answer). ¬ IsSomeAnd a (IsAskedAgain asked)) (sym was) (works_once u works))
        (λ _ _. subst (λ (a : Option Answer). IfSome a (λ it. it.again ≡ true)) (sym is2) refl)

    pub all_asked : MayAsk Passes asked l1 l2 a1 a2 → MayAsk Passes asked l2 l3 a2 a3 → Asks Passes asked l0 l3 a3
    all_asked (stays not same is) second = then_stays not same is second
    all_asked (asks u found was ask pass is) second = then_asks u found was ask pass is second
    all_asked (waits u was uncounted works same is) second = then_waits u was uncounted works same is second

  -- WHETHER ONCE MORE

  pub may_none : (line : L) (before answer : Option Answer) → before ≡ None → answer ≡ None → MayAsk Passes asked line line before answer
  may_none line before answer is none = stays
      (λ some. absurd (subst (λ (a : Option Answer). IsSomeAnd a (IsUncounted asked)) is some)) refl (none ∙ sym is)

  pub may_never : (line : L) (before answer : Option Answer) (found : Answer) → before ≡ Some found → ¬ IsUncounted asked found → answer ≡ Some found
      → MayAsk Passes asked line line before answer
  may_never line before answer found is not same = stays
      (λ some. absurd (not (subst (λ (a : Option Answer). IsSomeAnd a (IsUncounted asked)) is some))) refl (same ∙ sym is)

  pub may_ask : (old new : L) (before answer : Option Answer) (found : Answer) (next : Option Answer) → before ≡ Some found
      → IsUncounted asked found × (begins_work asked ≡ false) → Passes old new asked next → answer ≡ option_map marked next
      → MayAsk Passes asked old new before answer
  may_ask old new before answer found next is uncounted passes same =
      asks found next is (record { uncounted = uncounted.0; no_work = uncounted.1 }) passes same

  pub may_wait : (line : L) (before answer : Option Answer) (found : Answer) → before ≡ Some found
      → IsUncounted asked found × (begins_work asked ≡ true) → answer ≡ Some (marked found) → MayAsk Passes asked line line before answer
  may_wait line before answer found is uncounted same = waits found is uncounted.0 uncounted.1 refl same
