-- What a real slave is that was asked for a word and the next one, was polled until it showed that it is idle without an error, and told them.
use Rattle.std.proofs.Common.{◌≡◌, ◌⊎◌, inl, inr, ℕ, ◌+◌, ◌-◌, ◌*◌, ◌/◌, ◌%◌, ◌^◌, ◌<◌, ◌||◌, Bool}
use Rattle.std.proofs.Common.{true, false, nat_le, List, [], ◌∷◌, ◌++◌, Option, Some, None, slice_index, slice_range, refl, sym, ap, subst}
use Rattle.std.proofs.Common.{◌∙◌, arith}
use Rattle.std.specs.Prelude.{◌==◌, if◌then◌else◌}
use Rattle.std.specs.List.{All}
use Rattle.std.proofs.lemmas.List.Elements.{All-nil, All-cons, All-head, All-tail}
use Rattle.std.proofs.lemmas.Bool.Decides.{eqb_tells, leb_tells}
use Rattle.ecat_frame.specs.Command.{command_of}
use Rattle.ecat_frame.specs.Frame.{Pdu}
use Rattle.esc_model.specs.Bytes.{station_of, word_at}
use Rattle.esc_model.specs.Orders.{station, poll_order, fetch_order}
use Rattle.esc_model.specs.SlaveHalf.{SlaveHalf, Outcome, Activity, Idle, Reading, is_busy, MayEnd, MayRest, MayHold, replied, shown_bytes, begun}
use Rattle.esc_model.specs.SlaveHalf.{with_command_errors, with_stored}
use Rattle.esc_model.specs.Datagrams.{served_datagram}
use Rattle.esc_model.proofs.Addressing.{register_is}
use Rattle.esc_model.proofs.Resting.{MayRest-idle}
use Rattle.esc_model.proofs.Status.{idle_not_busy, no_error}
use Rattle.esc_model.proofs.Writing.{elsewhere, busy, done, Writes, control_writes, begun_refused, begun_read}
use Rattle.esc_model.proofs.WordTaking.{number_back, or_first}
use Rattle.site_wire.specs.Answers.{has_status, shown_status}
use Rattle.site_wire.specs.Answering.{ShowsPair, shown_by}
use Rattle.site_wire.specs.declared.answers.AccessState.{AccessState}
use Rattle.site_wire.specs.declared.answers.AccessState.TheVariants as shown
use Rattle.site_wire.specs.declared.amending.Tried.{Tried}
use Rattle.site_wire.specs.declared.amending.Tried.TheVariants as tried
use Rattle.site_wire.specs.Following.{IsOwnTo, SendsOwn, EndsWell, Polls, TellsWord, TellsPair, TriesPair, ReadsBack}
use Rattle.site_wire.specs.RealSlaves.{IsLike, Serves, Answered, Lives}
use Rattle.site_wire.specs.declared.sending.Exchange.{Exchange}
use Rattle.site_wire.specs.Sent.{Exchanged, exchanged, Sends}
use Rattle.site_wire.proofs.Living.{servings_keep, lives_station, lives_keep, lives_parts, lives_once}
use Rattle.site_wire.proofs.Showing.{same_flags, ShowsStatus, shows_status, status_in, reads_only, read_replied, status_shown}
use Rattle.site_wire.specs.Orders.{words_content, words_order}
use Rattle.site_wire.proofs.Sends.{IsPoll, station_is, sends_then, one_own, both_own, words_own, read_own, polls_own}
use Rattle.site_wire.proofs.Taking.{true_or_false, served_other}

-- TWO WORDS THAT WERE LOADED

-- The slave is idle or reads, and unless it shows an error, its first words of data are this word and the next one.
record HasLoaded (word : ℕ) (real : SlaveHalf) : Type 0 where
  activity : (real.activity ≡ Idle) ⊎ (real.activity ≡ Reading)
  loaded : real.registers.command_error ≡ false → real.registers.enable_error ≡ false
      → (real.registers.first ≡ slice_index real.words word) × (real.registers.second ≡ slice_index real.words (word + 1))

-- a half that is like it, with the same first words of data
loaded_like : (word : ℕ) (half later : SlaveHalf) → HasLoaded word half → IsLike half later → later.registers.first ≡ half.registers.first
    → later.registers.second ≡ half.registers.second → HasLoaded word later
loaded_like word half later has like first second = by has.activity
  where
    with_words : (later.activity ≡ Idle) ⊎ (later.activity ≡ Reading) → later.words ≡ half.words → HasLoaded word later
    with_words activity words = record {
      activity = activity;
      loaded = λ command enable.
          let is = has.loaded (sym like.registers.command_error ∙ command) (sym like.registers.enable_error ∙ enable) in (
            first ∙ is.0 ∙ ap (λ (w : List ℕ). slice_index w word) (sym words),
            second ∙ is.1 ∙ ap (λ (w : List ℕ). slice_index w (word + 1)) (sym words),
          );
    }

    by : (half.activity ≡ Idle) ⊎ (half.activity ≡ Reading) → HasLoaded word later
    by (inl idle) = with_words (inl (like.activity ∙ idle)) (subst (λ (t : Activity). MayHold t half.words later.words) idle like.words)
    by (inr reading) = with_words (inr (like.activity ∙ reading)) (subst (λ (t : Activity). MayHold t half.words later.words) reading like.words)

-- a half that came to rest
loaded_rests : (word : ℕ) (half rested : SlaveHalf) → HasLoaded word half → MayRest half rested → HasLoaded word rested
loaded_rests word half rested has (inl same) = subst (HasLoaded word) (sym same) has
loaded_rests word half rested has (inr ends) = by has.activity
  where
    ended : MayEnd Reading half rested → HasLoaded word rested
    ended (inl well) = subst (HasLoaded word) (sym well) (record { activity = inl refl; loaded = has.loaded })
    ended (inr fails) = record {
      activity = inl (ap (λ (h : SlaveHalf). h.activity) fails.rested_is);
      loaded = λ command enable.
          absurd (no_error rested.registers.command_error rested.registers.enable_error command enable fails.error);
    }

    by : (half.activity ≡ Idle) ⊎ (half.activity ≡ Reading) → HasLoaded word rested
    by (inl idle) = absurd (subst (λ (t : Activity). MayEnd t half rested) idle ends)
    by (inr reading) = ended (subst (λ (t : Activity). MayEnd t half rested) reading ends)

-- THE COMMAND TO READ THEM

-- the half once the command is stored and judged
module _ (half : SlaveHalf) (word held : ℕ) (small : word < 2 ^ 16) where
  abbrev asked : SlaveHalf
  asked = with_command_errors (with_stored half 2 (words_content word held))

  asked_address : asked.registers.address ≡ word
  asked_address = number_back word small

  asked_loads : half.activity ≡ Idle → HasLoaded word (begun asked)
  asked_loads idle = elim (true_or_false asked.registers.command_error) [
    | inl error ↦
        let either : (asked.registers.command_error || asked.registers.enable_error) ≡ true =
        or_first asked.registers.command_error asked.registers.enable_error error in
        subst (HasLoaded word) (sym (begun_refused asked either)) (record {
          activity = inl idle;
          loaded = λ command enable. absurd (no_error asked.registers.command_error asked.registers.enable_error command enable either);
        })
    | inr fine ↦
        let neither : (asked.registers.command_error || asked.registers.enable_error) ≡ false = rw fine refl in
        subst (HasLoaded word) (sym (begun_read asked neither refl)) (record {
          activity = inr refl;
          loaded = λ command enable. (
            ap (λ (a : ℕ). slice_index half.words a) asked_address,
            ap (λ (a : ℕ). slice_index half.words (a + 1)) asked_address,
          );
        })
  ]

module _ (slave word held : ℕ) (near : slave < 64) (small : word < 2 ^ 16) where
  order_writes : (half : SlaveHalf)
      → Writes half slave (is_busy half.activity ≡ false) (begun (asked half word held small)) (served_datagram half (words_order slave word held))
  order_writes half = control_writes half slave (words_content word held) near refl refl refl

  -- a half that counted the command has loaded them
  counted_loads : (half : SlaveHalf) → (0 + (served_datagram half (words_order slave word held)).added) % 65536 ≡ 1
      → HasLoaded word (served_datagram half (words_order slave word held)).half
  counted_loads half counted = by (order_writes half)
    where
      by : Writes half slave (is_busy half.activity ≡ false) (begun (asked half word held small)) (served_datagram half (words_order slave word held))
          → HasLoaded word (served_datagram half (words_order slave word held)).half
      by (elsewhere not same none) = absurd (omega (arith, counted, none))
      by (busy b same none) = absurd (omega (arith, counted, none))
      by (done here b is one) = subst (HasLoaded word) (sym is) (asked_loads half word held small (idle_not_busy half.activity b))

  -- a half that has loaded them still has
  again_loads : (half : SlaveHalf) → HasLoaded word half → HasLoaded word (served_datagram half (words_order slave word held)).half
  again_loads half has = by (order_writes half)
    where
      by : Writes half slave (is_busy half.activity ≡ false) (begun (asked half word held small)) (served_datagram half (words_order slave word held))
          → HasLoaded word (served_datagram half (words_order slave word held)).half
      by (elsewhere not same none) = subst (HasLoaded word) (sym same) has
      by (busy b same none) = subst (HasLoaded word) (sym same) has
      by (done here b is one) = subst (HasLoaded word) (sym is) (asked_loads half word held small (idle_not_busy half.activity b))

  asks : (mid later : SlaveHalf) (found : Pdu) → found.counter ≡ 1 → Serves (words_order slave word held) mid found later → HasLoaded word later
  asks mid later found counted serves =
      loaded_like word (served_datagram serves.takes.rested (words_order slave word held)).half later
      (counted_loads serves.takes.rested (sym serves.takes.answer.counter ∙ counted)) serves.takes.half serves.first serves.second

  asks_again : (mid later : SlaveHalf) (found : Pdu) → Serves (words_order slave word held) mid found later → HasLoaded word mid
      → HasLoaded word later
  asks_again mid later found serves has =
      loaded_like word (served_datagram serves.takes.rested (words_order slave word held)).half later
      (again_loads serves.takes.rested (loaded_rests word mid serves.takes.rested has serves.takes.rests))
      serves.takes.half serves.first serves.second

  -- one of the answers was counted
  asked_once : (real later : SlaveHalf) (found : Pdu) → found.counter ≡ 1 → Answered (words_order slave word held) real found later
      → HasLoaded word later
  asked_once real later found counted answered =
      servings_keep (words_order slave word held) (HasLoaded word) asks_again answered.after later answered.afterwards
      (asks answered.mid answered.after found counted answered.reported)

-- READS

-- a read leaves a half as it is
read_same : (half : SlaveHalf) (d : Pdu) → d.command ≡ 4 → (served_datagram half d).half ≡ half
read_same half d reads = served_other half (command_of d.command) d.address d.content (reads_only half d reads)

reads_loaded : (word : ℕ) (d : Pdu) → d.command ≡ 4 → (mid later : SlaveHalf) (found : Pdu) → Serves d mid found later → HasLoaded word mid
    → HasLoaded word later
reads_loaded word d reads mid later found serves has =
    let rested = serves.takes.rested in
    loaded_like word (served_datagram rested d).half later
    (subst (HasLoaded word) (sym (read_same rested d reads)) (loaded_rests word mid rested has serves.takes.rests))
    serves.takes.half serves.first serves.second

-- An idle slave stays so, with its words and the first words of data.
record Stays (mid later : SlaveHalf) : Type 0 where
  activity : later.activity ≡ Idle
  words : later.words ≡ mid.words
  first : later.registers.first ≡ mid.registers.first
  second : later.registers.second ≡ mid.registers.second

idle_stays : (d : Pdu) → d.command ≡ 4 → (mid later : SlaveHalf) (found : Pdu) → mid.activity ≡ Idle → Serves d mid found later → Stays mid later
idle_stays d reads mid later found idle serves =
    let rested = serves.takes.rested in
    let same : (served_datagram rested d).half ≡ mid = read_same rested d reads ∙ MayRest-idle mid rested idle serves.takes.rests in
    let like : IsLike mid later = subst (λ (h : SlaveHalf). IsLike h later) same serves.takes.half in
    record {
      activity = like.activity ∙ idle;
      words = subst (λ (t : Activity). MayHold t mid.words later.words) idle like.words;
      first = serves.first ∙ ap (λ (h : SlaveHalf). h.registers.first) same;
      second = serves.second ∙ ap (λ (h : SlaveHalf). h.registers.second) same;
    }

-- The slave is idle, and its first words of data are this word and the next one.
record Holds (word : ℕ) (real : SlaveHalf) : Type 0 where
  idle : real.activity ≡ Idle
  first : real.registers.first ≡ slice_index real.words word
  second : real.registers.second ≡ slice_index real.words (word + 1)

holds_on : (word : ℕ) (d : Pdu) → d.command ≡ 4 → (mid later : SlaveHalf) (found : Pdu) → Serves d mid found later → Holds word mid → Holds word later
holds_on word d reads mid later found serves holds =
    let stays = idle_stays d reads mid later found holds.idle serves in
    record {
      idle = stays.activity;
      first = stays.first ∙ holds.first ∙ ap (λ (w : List ℕ). slice_index w word) (sym stays.words);
      second = stays.second ∙ holds.second ∙ ap (λ (w : List ℕ). slice_index w (word + 1)) (sym stays.words);
    }

-- The slave is idle, and this word and the next one have these values.
abbrev Has : (word first second : ℕ) → SlaveHalf → Type 0
Has word first second real = (real.activity ≡ Idle) × (slice_index real.words word ≡ first) × (slice_index real.words (word + 1) ≡ second)

has_on : (word first second : ℕ) (d : Pdu) → d.command ≡ 4 → (mid later : SlaveHalf) (found : Pdu) → Serves d mid found later
    → Has word first second mid → Has word first second later
has_on word first second d reads mid later found serves has =
    let stays = idle_stays d reads mid later found has.0 serves in (
      stays.activity,
      ap (λ (w : List ℕ). slice_index w word) stays.words ∙ has.1,
      ap (λ (w : List ℕ). slice_index w (word + 1)) stays.words ∙ has.2,
    )

-- THE POLLS

not_well : (busy failed : Bool) → failed ≡ true → (if busy then shown.Busy else if failed then shown.Failed else shown.Well) ≡ shown.Well → ⊥
not_well true failed is well = absurd cc
not_well false true is well = absurd cc
not_well false false is well = absurd cc

-- an answer that shows an idle slave without an error
well_shown : (found : Pdu) → shown_by (shown_status found) ≡ shown.Well → ShowsStatus found × (status_in found < 0x20)
well_shown found well = by (true_or_false (has_status found))
  where
    low : shown_by (Some (status_in found)) ≡ shown.Well → status_in found < 0x20
    low is = elim (leb_tells 0x20 (status_in found)) [
      | inr fine ↦ fine.1
      | inl error ↦ absurd (not_well (nat_le 0x80 (status_in found)) (nat_le 0x20 (status_in found)) error.0 is)
    ]

    by : (has_status found ≡ true) ⊎ (has_status found ≡ false) → ShowsStatus found × (status_in found < 0x20)
    by (inl has) = (
      shows_status found has,
      low (sym (ap (λ (b : Bool). shown_by (if b then Some (status_in found) else None)) has) ∙ well),
    )
    by (inr none) =
        absurd (let e : shown.Nothing ≡ shown.Well = sym (ap (λ (b : Bool). shown_by (if b then Some (status_in found) else None)) none) ∙ well in cc)

-- A slave that shows so in a read holds them.
poll_holds : (word : ℕ) (d : Pdu) → d.command ≡ 4 → d.counter ≡ 0 → (mid later : SlaveHalf) (found : Pdu) → shown_by (shown_status found) ≡ shown.Well
    → Serves d mid found later → HasLoaded word mid → Holds word later
poll_holds word d reads fresh mid later found well serves has =
    let rested = serves.takes.rested in
    let shows = well_shown found well in
    let zero : status_in found / 0x20 ≡ 0 = omega (arith, shows.1) in
    let clear = same_flags rested.registers.command_error rested.registers.enable_error (is_busy rested.activity) false false false
    (status_shown rested d found fresh serves.takes.answer shows.0 ∙ zero) in
    let same = read_same rested d reads in
    let command : later.registers.command_error ≡ false =
    serves.takes.half.registers.command_error ∙ ap (λ (h : SlaveHalf). h.registers.command_error) same ∙ clear.0 in
    let enable : later.registers.enable_error ≡ false =
    serves.takes.half.registers.enable_error ∙ ap (λ (h : SlaveHalf). h.registers.enable_error) same ∙ clear.1 in
    let loaded = (reads_loaded word d reads mid later found serves has).loaded command enable in
    record {
      idle = serves.takes.half.activity ∙ ap (λ (h : SlaveHalf). h.activity) same ∙ idle_not_busy rested.activity clear.2;
      first = loaded.0;
      second = loaded.1;
    }

all_front : (P : Exchanged → Type 0) (front afterwards : List Exchanged) → All P (front ++ afterwards) → All P front
all_front P [] afterwards all = All-nil P
all_front P (call ∷ front) afterwards all =
    All-cons P call front (All-head P call (front ++ afterwards) all) (all_front P front afterwards (All-tail P call (front ++ afterwards) all))

all_last : (P : Exchanged → Type 0) (front : List Exchanged) (last : Exchanged) → All P (front ++ last ∷ []) → P last
all_last P [] last all = All-head P last [] all
all_last P (call ∷ front) last all = all_last P front last (All-tail P call (front ++ last ∷ []) all)

polls_hold : (slave word : ℕ) → slave < 64 → (polls : List Exchanged) → All (IsPoll slave) polls → EndsWell polls
    → (real later : SlaveHalf) → real.station ≡ station slave → HasLoaded word real → Lives polls real later → Holds word later
polls_hold slave word near polls all ends real later at has lives =
    let last = exchanged ends.poll (Some ends.found) in
    let each = subst (All (IsPoll slave)) ends.split all in
    let parts = lives_parts ends.front (last ∷ []) real later (subst (λ (l : List Exchanged). Lives l real later) ends.split lives) in
    let is : ends.poll ≡ poll_order slave = all_last (IsPoll slave) ends.front last each in
    let reads : ends.poll.command ≡ 4 = ap (λ (d : Pdu). d.command) is in
    let here : station_of ends.poll.address ≡ parts.mid.station =
    ap (λ (d : Pdu). station_of d.address) is ∙ station_is slave 0x0502 near ∙ sym (lives_station ends.front real parts.mid parts.before ∙ at) in
    let answered : Answered ends.poll parts.mid ends.found later = lives_once last ends.found parts.mid later here refl parts.afterwards in
    let front_has = lives_keep ends.front (HasLoaded word) (IsPoll slave)
    (λ call a b lost poll. reads_loaded word call.sent (ap (λ (d : Pdu). d.command) poll) a b lost)
    (all_front (IsPoll slave) ends.front (last ∷ []) each) real parts.mid parts.before has in
    let before = servings_keep ends.poll (HasLoaded word) (reads_loaded word ends.poll reads) parts.mid answered.mid answered.before front_has in
    servings_keep ends.poll (Holds word) (holds_on word ends.poll reads) answered.after later answered.afterwards
    (poll_holds word ends.poll reads (ap (λ (d : Pdu). d.counter) is) answered.mid answered.after ends.found ends.well answered.reported before)

-- THE TWO WORDS

two_bytes : (n : ℕ) → n % 256 + 256 * (n / 256) ≡ n
two_bytes n = omega arith

fetch_tells : (slave word : ℕ) → slave < 64 → (mid later : SlaveHalf) (fetched : Pdu) (pair : List ℕ) → ShowsPair fetched pair
    → Serves (fetch_order slave) mid fetched later → Holds word mid → Has word (word_at pair 0) (word_at pair 2) later
fetch_tells slave word near mid later fetched pair shows serves holds =
    let rested = serves.takes.rested in
    let stays = idle_stays (fetch_order slave) refl mid later fetched holds.idle serves in
    let same : rested ≡ mid = MayRest-idle mid rested holds.idle serves.takes.rests in
    let counted = sym serves.takes.answer.counter ∙ shows.counter in
    let replies : served_datagram rested (fetch_order slave) ≡ replied rested 8 (0 ∷ 0 ∷ 0 ∷ 0 ∷ []) =
    (read_replied rested (fetch_order slave) refl refl counted).1
    ∙ ap (λ (n : ℕ). replied rested (n - 0x0500) (0 ∷ 0 ∷ 0 ∷ 0 ∷ [])) (register_is slave 0x0508 near) in
    let content : pair ≡ slice_range (shown_bytes rested) 8 12 =
    sym shows.content ∙ serves.shows refl (register_is slave 0x0508 near) ∙ ap (λ (t : Outcome). t.content) replies in
    let first : word_at pair 0 ≡ rested.registers.first = ap (λ (l : List ℕ). word_at l 0) content ∙ two_bytes rested.registers.first in
    let second : word_at pair 2 ≡ rested.registers.second = ap (λ (l : List ℕ). word_at l 2) content ∙ two_bytes rested.registers.second in (
      stays.activity,
      ap (λ (w : List ℕ). slice_index w word) stays.words ∙ sym (first ∙ ap (λ (h : SlaveHalf). h.registers.first) same ∙ holds.first),
      ap (λ (w : List ℕ). slice_index w (word + 1)) stays.words ∙ sym (second ∙ ap (λ (h : SlaveHalf). h.registers.second) same ∙ holds.second),
    )

-- A slave that counted the command, showed that it is idle without an error, and told two words, has these words.
pub tells_pair : (slave word held : ℕ) → slave < 64 → word < 2 ^ 16 → (taken : Pdu) → taken.counter ≡ 1
    → (polls : List Exchanged) → All (IsPoll slave) polls → EndsWell polls
    → (fetched : Pdu) (pair : List ℕ) → ShowsPair fetched pair
    → TellsPair slave word pair (exchanged (words_order slave word held) (Some taken) ∷ (polls ++ exchanged (fetch_order slave) (Some fetched) ∷ []))
tells_pair slave word held near small taken counted polls all ends fetched pair shows real later at lives =
    let call = exchanged (words_order slave word held) (Some taken) in
    let fetch = exchanged (fetch_order slave) (Some fetched) in
    let begins = lives_parts (call ∷ []) (polls ++ fetch ∷ []) real later lives in
    let loaded = asked_once slave word held near small real begins.mid taken counted
    (lives_once call taken real begins.mid (station_is slave 0x0502 near ∙ sym at) refl begins.before) in
    let at_mid = lives_station (call ∷ []) real begins.mid begins.before ∙ at in
    let rest = lives_parts polls (fetch ∷ []) begins.mid later begins.afterwards in
    let holds = polls_hold slave word near polls all ends begins.mid rest.mid at_mid loaded rest.before in
    let at_end = lives_station polls begins.mid rest.mid rest.before ∙ at_mid in
    let reported = lives_once fetch fetched rest.mid later (station_is slave 0x0508 near ∙ sym at_end) refl rest.afterwards in
    servings_keep (fetch_order slave) (Has word (word_at pair 0) (word_at pair 2))
    (has_on word (word_at pair 0) (word_at pair 2) (fetch_order slave) refl)
    reported.after later reported.afterwards
    (fetch_tells slave word near reported.mid reported.after fetched pair shows reported.reported
    (servings_keep (fetch_order slave) (Holds word) (holds_on word (fetch_order slave) refl) rest.mid reported.mid reported.before holds))

-- ONE TRY

module _ (slave word held : ℕ) (half : SlaveHalf) (near : slave < 64) (old mid : List Exchange) (taken : Option Pdu)
    (asks_it : Sends old mid (exchanged (words_order slave word held) taken ∷ [])) where
  -- it doesn't come back
  pub tried_asking : (result : Option Tried) → ((pair : List ℕ) → result ≡ Some (tried.Read pair) → ⊥) → TriesPair slave half word old mid result
  tried_asking result never = record {
    calls = exchanged (words_order slave word held) taken ∷ [];
    sends = asks_it;
    own = one_own slave half (exchanged (words_order slave word held) taken) (words_own slave word held half taken near);
    tells = λ pair is. absurd (never pair is);
  }

  module _ (polled : List Exchange) (shown_is : Option AccessState) (polls : Polls slave mid polled shown_is) where
    -- the calls up to the last poll
    abbrev calls_polled : List Exchanged
    calls_polled = exchanged (words_order slave word held) taken ∷ polls.calls

    sends_polled : Sends old polled calls_polled
    sends_polled = sends_then old mid polled (exchanged (words_order slave word held) taken ∷ []) polls.calls asks_it polls.sends

    own_polled : All (IsOwnTo slave half) calls_polled
    own_polled = both_own slave half (exchanged (words_order slave word held) taken ∷ []) polls.calls
        (one_own slave half (exchanged (words_order slave word held) taken) (words_own slave word held half taken near))
        (polls_own slave half near polls.calls polls.polls)

    -- nothing is fetched
    pub tried_polling : (result : Option Tried) → ((pair : List ℕ) → result ≡ Some (tried.Read pair) → ⊥)
        → TriesPair slave half word old polled result
    tried_polling result never = record { calls = calls_polled; sends = sends_polled; own = own_polled; tells = λ pair is. absurd (never pair is) }

    -- two words are fetched
    pub tried_fetching : (new : List Exchange) (fetched : Option Pdu) → Sends polled new (exchanged (fetch_order slave) fetched ∷ []) → (result : Option Tried)
        → ((pair : List ℕ) → result ≡ Some (tried.Read pair) → TellsPair slave word pair (calls_polled ++ exchanged (fetch_order slave) fetched ∷ []))
        → TriesPair slave half word old new result
    tried_fetching new fetched sends result tells = record {
      calls = calls_polled ++ exchanged (fetch_order slave) fetched ∷ [];
      sends = sends_then old polled new calls_polled (exchanged (fetch_order slave) fetched ∷ []) sends_polled sends;
      own = both_own slave half calls_polled (exchanged (fetch_order slave) fetched ∷ []) own_polled
          (one_own slave half (exchanged (fetch_order slave) fetched) (read_own slave 0x0508 half (0 ∷ 0 ∷ 0 ∷ 0 ∷ []) fetched near));
      tells = tells;
    }

    -- and told
    pub tried_reading : (small : word < 2 ^ 16) (came : Pdu) → taken ≡ Some came → came.counter ≡ 1 → shown_is ≡ Some shown.Well
        → (new : List Exchange) (fetched : Option Pdu) (found : Pdu) (pair : List ℕ) → fetched ≡ Some found → ShowsPair found pair
        → Sends polled new (exchanged (fetch_order slave) fetched ∷ []) → TriesPair slave half word old new (Some (tried.Read pair))
    tried_reading small came taken_is counted well new fetched found pair fetched_is shows sends =
        tried_fetching new fetched sends (Some (tried.Read pair)) (λ other is.
        subst (λ (a : Option Pdu). TellsPair slave word other
        (exchanged (words_order slave word held) a ∷ polls.calls ++ exchanged (fetch_order slave) fetched ∷ []))
        (sym taken_is)
        (subst (λ (a : Option Pdu). TellsPair slave word other
        (exchanged (words_order slave word held) (Some came) ∷ polls.calls ++ exchanged (fetch_order slave) a ∷ [])) (sym fetched_is)
        (tells_pair slave word held near small came counted polls.calls polls.polls (polls.well well) found other
        (subst (ShowsPair found) (pair_is pair other is) shows))))
      where
        pair_is : (a b : List ℕ) → Some (tried.Read a) ≡ Some (tried.Read b) → a ≡ b
        pair_is a b is = cc

-- THE WORD

-- of two words the one with this number
word_of : (words pair : List ℕ) (word value : ℕ) → (word % 2 ≡ 0 → value ≡ word_at pair 0) → (word % 2 ≡ 1 → value ≡ word_at pair 2)
    → slice_index words (word - word % 2) ≡ word_at pair 0 → slice_index words (word - word % 2 + 1) ≡ word_at pair 2 → slice_index words word ≡ value
word_of words pair word value even odd first second = by (eqb_tells (word % 2) 0)
  where
    by : (((word % 2 == 0) ≡ true) × (word % 2 ≡ 0)) ⊎ (((word % 2 == 0) ≡ false) × (word % 2 ≡ 0 → ⊥)) → slice_index words word ≡ value
    by (inl is) =
        let here : word ≡ word - word % 2 = omega (arith, is.1) in
        ap (λ (n : ℕ). slice_index words n) here ∙ first ∙ sym (even is.1)
    by (inr not) =
        let one : word % 2 ≡ 1 = omega (arith, not.1) in
        let here : word ≡ word - word % 2 + 1 = omega (arith, one) in
        ap (λ (n : ℕ). slice_index words n) here ∙ second ∙ sym (odd one)

-- Of two words the one that was to be read is told, whatever was sent before.
tells_word : (slave word value : ℕ) (pair : List ℕ) → (word % 2 ≡ 0 → value ≡ word_at pair 0) → (word % 2 ≡ 1 → value ≡ word_at pair 2)
    → (before calls : List Exchanged) → TellsPair slave (word - word % 2) pair calls → TellsWord slave word value (before ++ calls)
tells_word slave word value pair even odd before calls tells real later at lives =
    let parts = lives_parts before calls real later lives in
    let reported = tells parts.mid later (lives_station before real parts.mid parts.before ∙ at) parts.afterwards in
    (reported.0, word_of later.words pair word value even odd reported.1 reported.2)

module _ (slave : ℕ) (half : SlaveHalf) (word : ℕ) (old mid new : List Exchange) where
  -- a try sends what is a device's own
  pub own_tried : (result : Option Tried) → SendsOwn slave half old mid → TriesPair slave half word mid new result → SendsOwn slave half old new
  own_tried result before tries = record {
    calls = before.calls ++ tries.calls;
    sends = sends_then old mid new before.calls tries.calls before.sends tries.sends;
    own = both_own slave half before.calls tries.calls before.own tries.own;
  }

-- no word is told
pub reads_nothing : (slave : ℕ) (half : SlaveHalf) (word : ℕ) (old new : List Exchange) (result : Option ℕ) → result ≡ None → SendsOwn slave half old new
    → ReadsBack slave half word old new result
reads_nothing slave half word old new result none sends = record {
  calls = sends.calls;
  sends = sends.sends;
  own = sends.own;
  tells = λ value is. absurd (let e : None ≡ Some value = sym none ∙ is in cc);
}

-- A try told two words, and of them the one that was to be read is told.
pub reads_word : (slave : ℕ) (half : SlaveHalf) (word value : ℕ) (old mid new : List Exchange) (pair : List ℕ) (result : Option Tried) → result ≡ Some (tried.Read pair)
    → (word % 2 ≡ 0 → value ≡ word_at pair 0) → (word % 2 ≡ 1 → value ≡ word_at pair 2) → SendsOwn slave half old mid
    → TriesPair slave half (word - word % 2) mid new result → ReadsBack slave half word old new (Some value)
reads_word slave half word value old mid new pair result read even odd before tries =
    record {
      calls = before.calls ++ tries.calls;
      sends = sends_then old mid new before.calls tries.calls before.sends tries.sends;
      own = both_own slave half before.calls tries.calls before.own tries.own;
      tells = λ other is. subst (λ (v : ℕ). TellsWord slave word v (before.calls ++ tries.calls)) (same is)
          (tells_word slave word value pair even odd before.calls tries.calls (tries.tells pair read));
    }
  where
    same : {a b : ℕ} → Some a ≡ Some b → a ≡ b
    same is = cc
