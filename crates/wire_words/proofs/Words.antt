-- Words that came over a wire, as they are read.
use Rattle.std.proofs.Common.{◌≡◌, ◌≢◌, ◌⊎◌, true, inl, inr, Some, None, ℕ, ◌+◌, ◌-◌, ◌*◌, ◌/◌, ◌%◌, ◌<◌, ◌≤◌, List, [], ◌∷◌, ◌++◌, length, take, drop}
use Rattle.std.proofs.Common.{slice_index, slice_index_or, slice_set, get_or-set_other, get_or-set_same, below_more, Option, IfSome}
use Rattle.std.proofs.Common.{refl, sym, ◌∙◌, ap, subst, arith}
use Rattle.std.specs.Int.{w16, to_le_bytes}
use Rattle.std.proofs.Math.Seq.{take-add}
use Rattle.std.proofs.lemmas.List.{append-nil, length-drop, length-take-le, take-append-drop, take_all, take-take}
use Rattle.std.proofs.lemmas.List.Elements.{All-cons, All-nil}
use Rattle.wire_frames.specs.Came.{Answered, Reported}
use Rattle.wire_frames.specs.declared.asking.Reply.{Reply}
use Rattle.wire_frames.specs.declared.stations.Stations.{Stations}
use Rattle.wire_words.specs.Reading.{GoesOn, IsUnderWay, bytes_loaded, has_reported, read_of}
use Rattle.wire_words.specs.Words.{ShowsEight, DataRead, alone, polled, ReadCame, PairCame, WordsRead, AreOther, read_command}
use Rattle.wire_words.specs.declared.reader.Phase.{Phase}
use Rattle.wire_words.specs.declared.reader.Phase.TheVariants as phase
use Rattle.wire_words.specs.declared.reader.Reader.{Reader}
use Rattle.wire_words.specs.declared.reading.Read.{Read}
use Rattle.wire_words.specs.declared.reading.ReadSize.{ReadSize}
use Rattle.wire_words.specs.declared.reading.ReadSize.TheVariants.{Four, Eight}

-- four bytes that are other ones
pub four_other : (a b c d held : ℕ) → a ≢ held → b ≢ held → c ≢ held → d ≢ held → AreOther held (a ∷ b ∷ c ∷ d ∷ [])
four_other a b c d held na nb nc nd =
    All-cons is a (b ∷ c ∷ d ∷ []) na (All-cons is b (c ∷ d ∷ []) nb (All-cons is c (d ∷ []) nc (All-cons is d [] nd (All-nil is))))
  where
    is : ℕ → Type 0
    is byte = byte ≢ held

module _ (Gives : List ℕ → Type 0) where
  -- two words in the first four bytes of a read, or in the others
  front_came : (from word : ℕ) (bytes : List ℕ) → 4 ≤ length bytes → ReadCame Gives from word bytes → PairCame Gives from word (take 4 bytes)
  front_came from word bytes enough came = record {
    start = word;
    before = [];
    after = drop 4 bytes;
    came = subst (λ (b : List ℕ). ReadCame Gives from word b) (sym (take-append-drop 4 bytes)) came;
    place = omega arith;
    four = length-take-le 4 bytes enough;
  }

  back_came : (from word : ℕ) (bytes : List ℕ) → length bytes ≡ 8 → ReadCame Gives from word bytes → PairCame Gives from (word + 2) (drop 4 bytes)
  back_came from word bytes eight came = record {
    start = word;
    before = take 4 bytes;
    after = [];
    came = subst (λ (b : List ℕ). ReadCame Gives from word b) (sym (append-nil (take 4 bytes ++ drop 4 bytes) ∙ take-append-drop 4 bytes)) came;
    place = let four : length (take 4 bytes) ≡ 4 = length-take-le 4 bytes (omega (arith, eight)) in omega (arith, four);
    four = let rest : length (drop 4 bytes) ≡ length bytes - 4 = length-drop 4 bytes in omega (arith, rest, eight);
  }

  -- the words of a read
  words_read : (from word held : ℕ) (how : ReadSize) (content : List ℕ) → length content ≡ 8 → Answered Gives from 5 0x0502 (read_command word held)
      → DataRead Gives from (take (bytes_loaded how) content) → AreOther held (take 4 content) → (how ≡ Eight → ShowsEight Gives from)
      → WordsRead Gives from word (read_of how content)
  words_read from word held Four content eight taken read other shows = record {
    first = subst (λ (b : List ℕ). PairCame Gives from word b) (take_all 4 (take 4 content) (omega (arith, four)))
        (front_came from word (take 4 content) (omega (arith, four)) (record {
          held = held;
          taken = taken;
          read = read;
          loaded = subst (λ (b : List ℕ). AreOther held b) (sym (take_all 4 (take 4 content) (omega (arith, four)))) other;
          size = inl four;
        }));
    others = tt;
  }
    where
      four : length (take 4 content) ≡ 4
      four = length-take-le 4 content (omega (arith, eight))
  words_read from word held Eight content eight taken read other shows = record {
    first = front_came from word content (omega (arith, eight)) came;
    others = back_came from word content eight came;
  }
    where
      came : ReadCame Gives from word content
      came = record {
        held = held;
        taken = taken;
        read = subst (λ (b : List ℕ). DataRead Gives from b) (take_all 8 content (omega (arith, eight))) read;
        loaded = other;
        size = inr (eight, shows refl);
      }

  pair_is : (how : ReadSize) (bytes : List ℕ) → (read_of how bytes).pair ≡ take 4 bytes
  pair_is Four bytes = refl
  pair_is Eight bytes = refl

  -- the same, as the reply to a fetch of so many bytes tells them
  pub words_fetched : (from word held : ℕ) (how : ReadSize) (count : ℕ) (empty : List ℕ) (reply : Reply) → count ≡ bytes_loaded how → count ≤ 8
      → length empty ≡ 14 → length reply.content ≡ 14 → reply.counter ≡ 1 → Answered Gives from 5 0x0502 (read_command word held)
      → Reported Gives from 4 0x0508 (take count empty) reply → AreOther held (read_of how (take 8 reply.content)).pair
      → (how ≡ Eight → ShowsEight Gives from) → WordsRead Gives from word (read_of how (take 8 reply.content))
  words_fetched from word held how count empty reply is most zeros kept counted taken reported other shows =
      words_read from word held how (take 8 reply.content) (length-take-le 8 reply.content (omega (arith, kept))) taken
      (alone (subst (λ (b : List ℕ). Answered Gives from 4 0x0508 b) same (reported counted (λ _. omega (arith, front, most)))))
      (subst (λ (b : List ℕ). AreOther held b) (pair_is how (take 8 reply.content)) other) shows
    where
      front : length (take count empty) ≡ count
      front = length-take-le count empty (omega (arith, most, zeros))

      same : take (length (take count empty)) reply.content ≡ take (bytes_loaded how) (take 8 reply.content)
      same = rw (front, sym is) (sym (take-take count 8 reply.content most))

  -- and as the reply to a poll with so many of them does
  pub words_polled : (from word held : ℕ) (how : ReadSize) (count : ℕ) (empty : List ℕ) (reply : Reply) → count ≡ 6 + bytes_loaded how → count ≤ 14
      → length empty ≡ 14 → length reply.content ≡ 14 → reply.counter ≡ 1 → Answered Gives from 5 0x0502 (read_command word held)
      → Reported Gives from 4 0x0502 (take count empty) reply → AreOther held (read_of how (drop 6 reply.content)).pair
      → (how ≡ Eight → ShowsEight Gives from) → WordsRead Gives from word (read_of how (drop 6 reply.content))
  words_polled from word held how count empty reply is most zeros kept counted taken reported other shows =
      words_read from word held how (drop 6 reply.content) (length-drop 6 reply.content ∙ omega (arith, kept)) taken
      (polled (take 6 reply.content) (length-take-le 6 reply.content (omega (arith, kept)))
      (subst (λ (b : List ℕ). Answered Gives from 4 0x0502 b) same (reported counted (λ _. omega (arith, front, most)))))
      (subst (λ (b : List ℕ). AreOther held b) (pair_is how (drop 6 reply.content)) other) shows
    where
      front : length (take count empty) ≡ count
      front = length-take-le count empty (omega (arith, most, zeros))

      same : take (length (take count empty)) reply.content ≡ take 6 reply.content ++ take (bytes_loaded how) (drop 6 reply.content)
      same = rw (front, is) (take-add 6 (bytes_loaded how) reply.content)

  -- A poll that shows bit 6 of control and status.
  pub eight_shown : (from count status : ℕ) (empty : List ℕ) (reply : Reply) → 2 ≤ count → count ≤ 14 → length empty ≡ 14 → reply.counter ≡ 1
      → take 2 reply.content ≡ to_le_bytes w16 status → Reported Gives from 4 0x0502 (take count empty) reply → (status / 0x40) % 2 ≡ 1
      → ShowsEight Gives from
  eight_shown from count status empty reply least most zeros counted word reported bit = record {
    status = status;
    rest = take (count - 2) (drop 2 reply.content);
    shown = subst (λ (b : List ℕ). Answered Gives from 4 0x0502 b) same (reported counted (λ _. omega (arith, front, most)));
    bit = bit;
  }
    where
      front : length (take count empty) ≡ count
      front = length-take-le count empty (omega (arith, most, zeros))

      entire : count ≡ 2 + (count - 2)
      entire = omega (arith, least)

      same : take (length (take count empty)) reply.content ≡ to_le_bytes w16 status ++ take (count - 2) (drop 2 reply.content)
      same = rw front (ap (λ n. take n reply.content) entire ∙ take-add 2 (count - 2) reply.content
          ∙ ap (λ (b : List ℕ). b ++ take (count - 2) (drop 2 reply.content)) word)

  -- A reader that goes on behind one that polls or fetches, with what it saw.
  pub under_way_on : (status : ℕ) (before after : Reader) → IsUnderWay Gives before → ((status / 0x40) % 2 ≡ 1 → ShowsEight Gives before.station)
      → (has_reported after.phase ≡ true → GoesOn status before after) → IsUnderWay Gives after
  under_way_on status before after under shows goes = record {
    reported = λ is. reported_on (goes is) is;
    eight = λ is. eight_on (goes (subst (λ (p : Phase). has_reported p ≡ true) (sym is) refl)) is;
  }
    where
      reported_on : GoesOn status before after → has_reported after.phase ≡ true → Answered Gives after.station 5 0x0502 (read_command after.word after.held)
      reported_on on is =
          subst (λ (f : ℕ). Answered Gives f 5 0x0502 (read_command after.word after.held)) (sym on.stays.station)
          (subst (λ (w : ℕ). Answered Gives before.station 5 0x0502 (read_command w after.held)) (sym on.stays.word)
          (subst (λ (h : ℕ). Answered Gives before.station 5 0x0502 (read_command before.word h)) (sym (on.reported is).1) (under.reported (on.reported is).0)))

      shown : (before.phase ≡ phase.Fetches Eight) ⊎ ((status / 0x40) % 2 ≡ 1) → ShowsEight Gives before.station
      shown (inl was) = under.eight was
      shown (inr bit) = shows bit

      eight_on : GoesOn status before after → after.phase ≡ phase.Fetches Eight → ShowsEight Gives after.station
      eight_on on is = subst (λ (f : ℕ). ShowsEight Gives f) (sym on.stays.station) (shown (on.eight is))

  -- one that has seen nothing new
  pub under_way_yet : (before after : Reader) → IsUnderWay Gives before → (has_reported after.phase ≡ true → GoesOn 0 before after)
      → IsUnderWay Gives after
  under_way_yet before after under goes = under_way_on 0 before after under (λ bit. absurd (omega (arith, bit))) goes

  -- The reader after the reply to a poll with so many bytes, which shows this control and status.
  pub under_way_polled : (reader next : Reader) (status count : ℕ) (empty : List ℕ) (reply : Reply) → 2 ≤ count → count ≤ 14 → length empty ≡ 14
      → reply.counter ≡ 1 → take 2 reply.content ≡ to_le_bytes w16 status → Reported Gives reader.station 4 0x0502 (take count empty) reply
      → IsUnderWay Gives reader → GoesOn status reader next → IsUnderWay Gives next
  under_way_polled reader next status count empty reply least most zeros counted word reported under goes =
      under_way_on status reader next under (eight_shown reader.station count status empty reply least most zeros counted word reported) (λ _. goes)

  -- words that are given, if some are, are these
  some_read : (from word : ℕ) (found : Option Read) (read : Read) (Other : Type 0) → IfSome found (λ words. (words ≡ read) × Other)
      → (Other → WordsRead Gives from word read) → IfSome found (WordsRead Gives from word)
  some_read from word None read Other given came = tt
  some_read from word (Some words) read Other given came = subst (λ (r : Read). WordsRead Gives from word r) (sym given.0) (came given.1)

  -- the words that the reply to a fetch gives, if they are loaded
  pub read_fetched : (reader : Reader) (how : ReadSize) (count : ℕ) (empty : List ℕ) (reply : Reply) (bytes : List ℕ) (read : Read)
      (found : Option Read) → count ≡ bytes_loaded how → count ≤ 8 → length empty ≡ 14 → length reply.content ≡ 14 → reply.counter ≡ 1
      → IsUnderWay Gives reader → reader.phase ≡ phase.Fetches how → Reported Gives reader.station 4 0x0508 (take count empty) reply
      → bytes ≡ take 8 reply.content → read ≡ read_of how bytes → IfSome found (λ words. (words ≡ read) × AreOther reader.held read.pair)
      → IfSome found (WordsRead Gives reader.station reader.word)
  read_fetched reader how count empty reply bytes read found is most zeros kept counted under fetches reported front words given =
      some_read reader.station reader.word found read (AreOther reader.held read.pair) given here
    where
      same : read ≡ read_of how (take 8 reply.content)
      same = words ∙ ap (read_of how) front

      here : AreOther reader.held read.pair → WordsRead Gives reader.station reader.word read
      here other = subst (λ (r : Read). WordsRead Gives reader.station reader.word r) (sym same)
          (words_fetched reader.station reader.word reader.held how count empty reply is most zeros kept counted
          (under.reported (subst (λ (p : Phase). has_reported p ≡ true) (sym fetches) refl)) reported
          (subst (λ (r : Read). AreOther reader.held r.pair) same other)
          (λ eight. under.eight (fetches ∙ ap phase.Fetches eight)))

  -- the words that the reply to a poll gives, if the slave is idle and they are loaded
  pub read_polled : (reader next : Reader) (status : ℕ) (how : ReadSize) (count : ℕ) (empty : List ℕ) (reply : Reply) (bytes : List ℕ) (read : Read)
      (found : Option Read) → count ≡ 6 + bytes_loaded how → count ≤ 14 → length empty ≡ 14 → length reply.content ≡ 14 → reply.counter ≡ 1
      → take 2 reply.content ≡ to_le_bytes w16 status → IsUnderWay Gives reader → GoesOn status reader next → next.phase ≡ phase.Fetches how
      → Reported Gives reader.station 4 0x0502 (take count empty) reply → bytes ≡ drop 6 reply.content → read ≡ read_of how bytes
      → IfSome found (λ words. (words ≡ read) × AreOther next.held read.pair) → IfSome found (WordsRead Gives reader.station reader.word)
  read_polled reader next status how count empty reply bytes read found is most zeros kept counted word under goes fetches reported rest words given =
      some_read reader.station reader.word found read (AreOther next.held read.pair) given here
    where
      same : read ≡ read_of how (drop 6 reply.content)
      same = words ∙ ap (read_of how) rest

      before : (has_reported reader.phase ≡ true) × (next.held ≡ reader.held)
      before = goes.reported (subst (λ (p : Phase). has_reported p ≡ true) (sym fetches) refl)

      shows : how ≡ Eight → ShowsEight Gives reader.station
      shows eight = subst (λ (f : ℕ). ShowsEight Gives f) goes.stays.station
          ((under_way_polled reader next status count empty reply (omega (arith, is)) most zeros counted word reported under goes).eight
          (fetches ∙ ap phase.Fetches eight))

      here : AreOther next.held read.pair → WordsRead Gives reader.station reader.word read
      here other = subst (λ (r : Read). WordsRead Gives reader.station reader.word r) (sym same)
          (words_polled reader.station reader.word reader.held how count empty reply is most zeros kept counted (under.reported before.0) reported
          (subst (λ (h : ℕ). AreOther h (read_of how (drop 6 reply.content)).pair) before.1
          (subst (λ (r : Read). AreOther next.held r.pair) same other)) shows)

  -- The words of a read by the addresses that a wire had before, where the ones that were known before it are too.
  pub read_on : (a b : Stations) (slave word : ℕ) (next : Option (List ℕ)) (read : Read) → a ≡ b
      → (IfSome next (PairCame Gives (slice_index a.by_slave slave) word) → WordsRead Gives (slice_index a.by_slave slave) word read)
      → IfSome next (PairCame Gives (slice_index b.by_slave slave) word) → WordsRead Gives (slice_index b.by_slave slave) word read
  read_on a b slave word next read same = subst (λ (s : Stations). IfSome next (PairCame Gives (slice_index s.by_slave slave) word)
      → WordsRead Gives (slice_index s.by_slave slave) word read) same

  pub next_on : (from place : ℕ) (next : Option (List ℕ)) → IfSome next (PairCame Gives from (2 * place + 2))
      → IfSome next (PairCame Gives from (2 * (place + 1)))
  next_on from place next = subst (λ (n : ℕ). IfSome next (PairCame Gives from n)) (omega arith)

  -- two words more of the first 64
  pub block_more : (from place : ℕ) (block : List (List ℕ)) (pair : List ℕ) (at : ℕ) → at ≡ place → place < length block
      → ((k : ℕ) → k < place → PairCame Gives from (2 * k) (slice_index_or block k [])) → PairCame Gives from (2 * place) pair
      → (k : ℕ) → k < place + 1 → PairCame Gives from (2 * k) (slice_index_or (slice_set block at pair) k [])
  block_more from place block pair at is near all here =
      subst (λ (n : ℕ). (k : ℕ) → k < place + 1 → PairCame Gives from (2 * k) (slice_index_or (slice_set block n pair) k [])) (sym is)
      (below_more (λ (k : ℕ). PairCame Gives from (2 * k) (slice_index_or (slice_set block place pair) k [])) place
      (λ k less. let ne : k ≢ place = omega arith in rw get_or-set_other (all k less))
      (let lt : place < length block = near in rw get_or-set_same here))
