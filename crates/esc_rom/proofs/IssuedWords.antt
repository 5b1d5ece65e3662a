-- Words that are issued: the pairs that a power cut may leave, and the answers of `issue`.
use Rattle.std.proofs.Common.{◌≡◌, ◌≢◌, ◌⊎◌, ℕ, ◌^◌, ◌<◌, ◌==◌, true, false, List, [], ◌∷◌, ◌++◌, map, Some, slice_get, slice_set, Result, Ok, Err, refl, sym, ap, subst, ◌∙◌, inl, inr, arith}
use Rattle.std.specs.Int.{w16, w32, to_le_bytes}
use Rattle.std.proofs.lemmas.List.{set-set}
use Rattle.ecat_frame.specs.Frame.{Pdu}
use Rattle.esc_model.specs.SlaveHalf.{SlaveHalf, Activity, Writing, MayRest, MayHold, MayLeave}
use Rattle.esc_model.specs.Datagrams.{served_datagram, Receives}
use Rattle.esc_model.specs.Orders.{address_of, write_order}
use Rattle.esc_model.specs.WordAccess.{TakesWord}
use Rattle.esc_model.proofs.Resting.{MayLeave-same, MayLeave-idle, MayRest-leaves}
use Rattle.esc_model.proofs.WordTaking.{Issues, passed, has, word_issues}
use Rattle.site_core.specs.declared.fault.DeviceFault.{DeviceFault}
use Rattle.site_core.specs.declared.fault.DeviceFault.TheVariants as device
use Rattle.site_core.specs.declared.answers.Issued.{Issued}
use Rattle.site_core.specs.declared.answers.Issued.TheVariants as issued
use Rattle.site_core.specs.State.{State, Pair, Seen, HalfGoes, Leaves, EachMayLeave, with_half}
use Rattle.site_core.specs.Calls.{ExchangesFrame}
use Rattle.site_core.specs.Passes.{LeavesOnly, StaysWithin}
use Rattle.site_core.proofs.Halves.{EachMayLeave-at, EachMayLeave-exchanged}
use Rattle.site_core.proofs.Moments.{Leaves-less}
use Rattle.site_core.proofs.Runs.{Passes-stays}
use Rattle.site_core.proofs.Times.{Calls-follows, Calls-clock}
use Rattle.esc_rom.specs.Access.{DiffersAtWord, WordMayDiffer, BecomesIssued, IssuesWord}
use Rattle.esc_rom.proofs.States.{slice_set-same, slice_get-set, HalfGoes-weaker}
use Rattle.esc_rom.proofs.Exchanges.{exchange_passes, Answers, back_half, lost_half}
use Rattle.esc_rom.proofs.Writes.{counter_says}

-- what a power cut may leave of a half that has taken a word: the words that it had, but for this one
flying : (activity : Activity) (words left : List ℕ) (word value : ℕ) → activity ≡ Writing word value → MayHold activity words left → (held : ℕ) × (left ≡ slice_set words word held)
flying activity words left word value is holds = subst (λ (a : Activity). MayHold a words left) is holds

taken_leaves : (slave word value : ℕ) (half later : SlaveHalf) (left : List ℕ) (t : TakesWord slave word value half later) → MayLeave later left
    → ((held : ℕ) × (left ≡ slice_set t.rested.words word held)) ⊎ (left ≡ t.rested.words)
taken_leaves slave word value half later left t leaves = elim t.writes [
  | inl writing ↦
      let f = flying later.activity later.words left word value writing.0 leaves in
      inl (f.0, f.1 ∙ ap (λ (w : List ℕ). slice_set w word f.0) t.words)
  | inr refused ↦ inr (MayLeave-idle later left refused.0 leaves ∙ t.words)
]

-- a pair that is left once the half has taken the word differs at this word from one that was left before
taken_differs : (old : State) (slave word value : ℕ) (half later : SlaveHalf) (pair : Pair) → slice_get old.halves slave ≡ Some half → TakesWord slave word value half later
    → Leaves (with_half old slave later) pair → (before : Pair) × Leaves old before × DiffersAtWord before slave word pair
taken_differs old slave word value half later pair here t leaves =
    (before, record { disk = leaves.disk; words = before_words }, (refl, differs))
  where
    base : List ℕ
    base = t.rested.words

    before : Pair
    before = record pair { words = slice_set pair.words slave base }

    at : (left : List ℕ) × (slice_get pair.words slave ≡ Some left) × MayLeave later left
    at = EachMayLeave-at (slice_set old.halves slave later) pair.words slave later (slice_get-set old.halves slave half later here) leaves.words

    base_left : MayLeave half base
    base_left = MayRest-leaves half t.rested base t.rests (MayLeave-same t.rested)

    before_words : EachMayLeave old.halves (slice_set pair.words slave base)
    before_words =
        subst (λ (hs : List SlaveHalf). EachMayLeave hs (slice_set pair.words slave base))
        (set-set old.halves slave later half ∙ slice_set-same old.halves slave half here)
        (EachMayLeave-exchanged (slice_set old.halves slave later) pair.words slave half base base_left leaves.words)

    same_by : (words : List ℕ) → at.0 ≡ words → slice_set pair.words slave words ≡ pair.words
    same_by words is = slice_set-same pair.words slave words (at.1 ∙ ap Some is)

    differs : (pair.words ≡ before.words) ⊎ ((words : List ℕ) × (held : ℕ) × (slice_get before.words slave ≡ Some words) × (pair.words ≡ slice_set before.words slave (slice_set words word held)))
    differs = elim (taken_leaves slave word value half later at.0 t at.2) [
      | inr same ↦ inl (sym (same_by base same))
      | inl other ↦ inr (
        base,
        other.0,
        slice_get-set pair.words slave at.0 base at.1,
        sym (set-set pair.words slave base (slice_set base word other.0) ∙ same_by (slice_set base word other.0) other.1),
      )
    ]

-- the same, whatever the half made of the datagram
left_after : (old : Seen) (slave word value : ℕ) (half rested : SlaveHalf) → slave < 64 → word < 2 ^ 16 → value < 2 ^ 16 → slice_get old.state.halves slave ≡ Some half → MayRest half rested
    → LeavesOnly (WordMayDiffer old slave word) (with_half old.state slave (served_datagram rested (write_order slave word value)).half)
left_after old slave word value half rested near word_fits value_fits here rests pair leaves =
    by (word_issues slave word value half rested near word_fits value_fits rests)
  where
    by : Issues slave word value half rested → WordMayDiffer old slave word pair
    by (passed same none why) = (
      pair,
      Leaves-less old.state slave half (served_datagram rested (write_order slave word value)).half pair here
          (λ left there. MayRest-leaves half rested left rests (subst (λ (h : SlaveHalf). MayLeave h left) same there)) leaves,
      (refl, inl refl),
    )
    by (has t one) = taken_differs old.state slave word value half (served_datagram rested (write_order slave word value)).half pair here t leaves

module _ (old : Seen) (slave word value : ℕ) (new : Seen) (near : slave < 64) (word_fits : word < 2 ^ 16) (value_fits : value < 2 ^ 16) where
  issue_stays : {result : Result (Unit {0}) DeviceFault} {answer : List Pdu} → ExchangesFrame old slave (write_order slave word value ∷ []) result answer new
      → StaysWithin (WordMayDiffer old slave word) old new
  issue_stays {result} {answer} sends =
      Passes-stays (WordMayDiffer old slave word) old new
      (exchange_passes (WordMayDiffer old slave word) old slave (write_order slave word value) result answer new
      (λ pair leaves. (pair, leaves, (refl, inl refl)))
      (λ half rested here rests. left_after old slave word value half rested near word_fits value_fits here rests) sends)

  issue_answers : {raw : Result (Unit {0}) DeviceFault} {answer : List Pdu} (is_issued : Issued) → raw ≢ Err device.Stopped
      → ExchangesFrame old slave (write_order slave word value ∷ []) raw answer new → HalfGoes (BecomesIssued old slave word value new is_issued) old.state slave new.state
      → IssuesWord old slave word value (Ok is_issued) new
  issue_answers {raw} is_issued not sends goes = record {
    stays = issue_stays sends;
    half = λ i is. subst (λ (u : Issued). HalfGoes (BecomesIssued old slave word value new u) old.state slave new.state) (let e : is_issued ≡ i = cc in e) goes;
    follows = Calls-follows old (map (with_half old.state slave) sends.laters) raw new sends.call;
    clock = Calls-clock old (map (with_half old.state slave) sends.laters) raw new sends.call;
    never_fewer = let counted = sends.call.counted in omega arith;
    turns = sends.turns;
    stopped = (λ stop. absurd (not (sends.call.stopped.0 stop)), λ was. absurd cc);
    only_stopped = tt;
  }

  pub issue_cut : (result : Result Issued DeviceFault) → result ≡ Err device.Stopped
      → ExchangesFrame old slave (write_order slave word value ∷ []) (Err device.Stopped) (write_order slave word value ∷ []) new
      → IssuesWord old slave word value result new
  issue_cut result is sends = subst (λ (r : Result Issued DeviceFault). IssuesWord old slave word value r new) (sym is) (record {
    stays = issue_stays sends;
    half = λ i was. absurd cc;
    follows = Calls-follows old (map (with_half old.state slave) sends.laters) (Err device.Stopped) new sends.call;
    clock = Calls-clock old (map (with_half old.state slave) sends.laters) (Err device.Stopped) new sends.call;
    never_fewer = let counted = sends.call.counted in omega arith;
    turns = sends.turns;
    stopped = (λ stops. refl, λ was. sends.call.stopped.1 refl);
    only_stopped = refl;
  })

  pub issue_lost : ExchangesFrame old slave (write_order slave word value ∷ []) (Err device.Lost) (write_order slave word value ∷ []) new
      → IssuesWord old slave word value (Ok issued.Lost) new
  issue_lost sends = issue_answers issued.Lost (λ e. absurd cc) sends (HalfGoes-weaker (lost_half old slave (write_order slave word value) new sends) (λ half later here there lost. (took half later lost.2, lost.1)))
    where
      by : (half rested later : SlaveHalf) → MayRest half rested → later ≡ (served_datagram rested (write_order slave word value)).half → Issues slave word value half rested → MayRest half later ⊎ TakesWord slave word value half later
      by half rested later rests is (passed same none why) = inl (subst (λ (h : SlaveHalf). MayRest half h) (sym (is ∙ same)) rests)
      by half rested later rests is (has t one) = inr (subst (λ (h : SlaveHalf). TakesWord slave word value half h) (sym is) t)

      took : (half later : SlaveHalf) → (later ≡ half) ⊎ Receives (write_order slave word value) half later → MayRest half later ⊎ TakesWord slave word value half later
      took half later (inl same) = inl (inl same)
      took half later (inr r) = by half r.rested later r.rests r.is (word_issues slave word value half r.rested near word_fits value_fits r.rests)

  -- a frame that came back, by its working counter
  abbrev Counted : ℕ → ℕ → Type 0
  Counted counter added = (((counter == 1) ≡ true) × (added ≡ 1)) ⊎ (((counter == 1) ≡ false) × (added ≡ 0))

  counted_so : (datagram : Pdu) (half later : SlaveHalf) (answers : Answers (write_order slave word value) datagram half later) → Counted datagram.counter (served_datagram answers.rested (write_order slave word value)).added
  counted_so datagram half later answers = counter_says answers.rested (address_of slave 0x0502) (to_le_bytes w16 0x0201 ++ to_le_bytes w32 word ++ to_le_bytes w16 value) datagram.counter (ap (λ (d : Pdu). d.counter) answers.reply)

  pub issue_taken : (datagram : Pdu) → (datagram.counter == 1) ≡ true → ExchangesFrame old slave (write_order slave word value ∷ []) (Ok tt) (datagram ∷ []) new
      → IssuesWord old slave word value (Ok issued.Taken) new
  issue_taken datagram counted sends =
      issue_answers issued.Taken (λ e. absurd cc) sends (HalfGoes-weaker (back_half old slave (write_order slave word value) new datagram sends) (λ half later here there answers.
      by half later answers (word_issues slave word value half answers.rested near word_fits value_fits answers.rests) (counted_so datagram half later answers)))
    where
      by : (half later : SlaveHalf) (answers : Answers (write_order slave word value) datagram half later) → Issues slave word value half answers.rested
          → Counted datagram.counter (served_datagram answers.rested (write_order slave word value)).added → TakesWord slave word value half later
      by half later answers (has t _) so = subst (λ (h : SlaveHalf). TakesWord slave word value half h) (sym answers.is) t
      by half later answers (passed same none why) (inl one) = absurd (let e = one.1 in omega arith)
      by half later answers (passed same none why) (inr not) = absurd (let e : true ≡ false = sym counted ∙ not.0 in cc)

  pub issue_not_taken : (datagram : Pdu) → (datagram.counter == 1) ≡ false → ExchangesFrame old slave (write_order slave word value ∷ []) (Ok tt) (datagram ∷ []) new
      → IssuesWord old slave word value (Ok issued.NotTaken) new
  issue_not_taken datagram uncounted sends =
      issue_answers issued.NotTaken (λ e. absurd cc) sends (HalfGoes-weaker (back_half old slave (write_order slave word value) new datagram sends) (λ half later here there answers.
      by half later answers (word_issues slave word value half answers.rested near word_fits value_fits answers.rests) (counted_so datagram half later answers)))
    where
      by : (half later : SlaveHalf) (answers : Answers (write_order slave word value) datagram half later) → Issues slave word value half answers.rested
          → Counted datagram.counter (served_datagram answers.rested (write_order slave word value)).added → BecomesIssued old slave word value new issued.NotTaken half later
      by half later answers (passed same _ why) so = (subst (λ (h : SlaveHalf). MayRest half h) (sym (answers.is ∙ same)) answers.rests, why)
      by half later answers (has t one) (inl counted) = absurd (let e : true ≡ false = sym counted.0 ∙ uncounted in cc)
      by half later answers (has t one) (inr none) = absurd (let e = none.1 in omega arith)
