-- A journal's file in which what is left without a slave was written over what was there.
use Rattle.std.proofs.Common.{◌≡◌, inl, inr, ℕ, ◌+◌, ◌/◌, ◌%◌, ◌^◌, ◌<◌, ◌≤◌, eqb, List, [], ◌∷◌, ◌++◌, length, map, take, drop, refl, sym, ap, subst, ◌∙◌, append_assoc, arith, length-append, length-take, length-drop, take-append-drop}
use Rattle.std.specs.Prelude.{All, ◌≢◌}
use Rattle.std.specs.Int.{w32}
use Rattle.std.proofs.lemmas.Bool.{eq-eqb, ne_eqb}
use Rattle.std.proofs.lemmas.List.{append-nil, map-append}
use Rattle.std.proofs.lemmas.List.Elements.{filter-append, All-append, All-from_recursion, All-weaker, All-nil}
use Rattle.jrn_format.specs.declared.journal.Batch.{Batch}
use Rattle.jrn_format.specs.declared.journal.Journal.{Journal}
use Rattle.jrn_format.specs.declared.journal.Form.{Form}
use Rattle.jrn_format.specs.declared.journal.Form.TheVariants.{One, Two, Moving}
use Rattle.jrn_format.specs.declared.journal.Spelling.{Spelling}
use Rattle.jrn_format.specs.declared.journal.Spelling.TheVariants.{Plain, WithGeneration}
use Rattle.jrn_format.specs.Batch.{CanStand}
use Rattle.jrn_format.specs.Area.{IsLive}
use Rattle.jrn_format.specs.Header.{header_bytes, field_at}
use Rattle.jrn_format.specs.Journal.{HasLive, IsInOrder, IsJournal}
use Rattle.jrn_format.proofs.FileLaws.{changed_bytes}
use Rattle.jrn_format.proofs.OpenLaws.{StandIn, all_stand, stated_capacity}
use Rattle.jrn_release.specs.Without.{batch_without, of_half, over, placed, CanBeSpelt, IsWithout}
use Rattle.jrn_release.proofs.Less.{over_fits, over_lives, are_within, are_of}

-- THE BATCHES OF A HALF

those_in : (half : ℕ) (batches : List Batch) → StandIn half batches → of_half half batches ≡ batches
those_in half [] all = refl
those_in half (batch ∷ batches) all = rw (eq-eqb batch.half half all.0) (ap (λ (t : List Batch). batch ∷ t) (those_in half batches all.1))

none_in : (half away : ℕ) (batches : List Batch) → half ≢ away → StandIn away batches → of_half half batches ≡ []
none_in half away [] differ all = refl
none_in half away (batch ∷ batches) differ all = rw (ne_eqb batch.half half (λ e. differ (sym e ∙ all.0))) (none_in half away batches differ all.1)

-- of the batches of both halves, in either order, those of one
module _ (half away : ℕ) (own others : List Batch) (differ : half ≢ away) (own_in : StandIn half own) (others_in : StandIn away others) where
  of_front : of_half half (own ++ others) ≡ own
  of_front = filter-append (λ (b : Batch). eqb b.half half) own others ∙ ap (λ (t : List Batch). t ++ of_half half others) (those_in half own own_in)
      ∙ ap (λ (t : List Batch). own ++ t) (none_in half away others differ others_in) ∙ append-nil own

  of_back : of_half half (others ++ own) ≡ own
  of_back = filter-append (λ (b : Batch). eqb b.half half) others own ∙ ap (λ (t : List Batch). t ++ of_half half own) (none_in half away others differ others_in)
      ∙ those_in half own own_in

of_first : (firsts seconds batches : List Batch) → StandIn 0 firsts → StandIn 1 seconds → IsInOrder firsts seconds batches → of_half 0 batches ≡ firsts
of_first firsts seconds batches one two (inl h) = ap (of_half 0) h.1 ∙ of_front 0 1 firsts seconds (λ e. absurd (omega (arith, e))) one two
of_first firsts seconds batches one two (inr h) = ap (of_half 0) h.1 ∙ of_back 0 1 firsts seconds (λ e. absurd (omega (arith, e))) one two

of_second : (firsts seconds batches : List Batch) → StandIn 0 firsts → StandIn 1 seconds → IsInOrder firsts seconds batches → of_half 1 batches ≡ seconds
of_second firsts seconds batches one two (inl h) = ap (of_half 1) h.1 ∙ of_back 1 0 seconds firsts (λ e. absurd (omega (arith, e))) two one
of_second firsts seconds batches one two (inr h) = ap (of_half 1) h.1 ∙ of_front 1 0 seconds firsts (λ e. absurd (omega (arith, e))) two one

in_order : (slave : ℕ) (firsts seconds batches : List Batch) → IsInOrder firsts seconds batches
    → IsInOrder (map (batch_without slave) firsts) (map (batch_without slave) seconds) (map (batch_without slave) batches)
in_order slave firsts seconds batches (inl h) =
    inl ((h.0.0, are_of slave h.0.0 firsts h.0.1, are_of slave ((h.0.0 + 1) % 256) seconds h.0.2), ap (map (batch_without slave)) h.1 ∙ map-append (batch_without slave) firsts seconds)
in_order slave firsts seconds batches (inr h) =
    inr ((h.0.0, are_of slave h.0.0 seconds h.0.1, are_of slave ((h.0.0 + 1) % 256) firsts h.0.2), ap (map (batch_without slave)) h.1 ∙ map-append (batch_without slave) seconds firsts)

-- BYTES

-- a part of which the beginning is overwritten
put_front : (bytes front part back others : List ℕ) → bytes ≡ front ++ (part ++ back) → length others ≤ length part
    → placed (length front) others bytes ≡ front ++ ((others ++ drop (length others) part) ++ back)
put_front bytes front part back others is le =
    let middle = take (length others) part in
    let rest = drop (length others) part in
    let split : bytes ≡ front ++ (middle ++ (rest ++ back)) =
    is ∙ ap (λ (p : List ℕ). front ++ (p ++ back)) (sym (take-append-drop (length others) part)) ∙ ap (λ (l : List ℕ). front ++ l) (append_assoc middle rest back) in
    changed_bytes bytes front middle others (rest ++ back) split (omega (arith, length-take (length others) part, le))
    ∙ ap (λ (l : List ℕ). front ++ l) (sym (append_assoc others rest back))

as_long : (part others : List ℕ) → length others ≤ length part → length (others ++ drop (length others) part) ≡ length part
as_long part others le = omega (arith, length-append others (drop (length others) part), length-drop (length others) part, le)

-- A JOURNAL

-- the header of a journal has 8 bytes
eight : (version slaves capacity : ℕ) → length (header_bytes version slaves capacity) ≡ 8
eight version slaves capacity = refl

module _ (slave : ℕ) (file sizes : List ℕ) (batches : List Batch) where
  -- VERSION 1

  module _ (h : IsJournal file sizes (record { form = One; batches = batches })) where
    own_one : of_half 0 batches ≡ batches
    own_one = those_in 0 batches (all_stand Plain 0 batches h.live.starts.can_stand)

    pub fits_one : (others : List ℕ) → others ≡ over slave Plain (of_half 0 batches) → 8 + length others ≤ length file
    fits_one others is =
        omega (
          arith,
          ap length is,
          ap (λ (bs : List Batch). length (over slave Plain bs)) own_one,
          over_fits slave Plain 0 h.area batches h.live,
          ap length h.has_area.header.spelt,
          eight h.has_area.version (length sizes) (length h.area),
          length-append (header_bytes h.has_area.version (length sizes) (length h.area)) (h.area ++ h.has_area.rest),
          length-append h.area h.has_area.rest,
        )

    pub placed_one : (others new : List ℕ) → others ≡ over slave Plain (of_half 0 batches) → new ≡ placed 8 others file
        → IsJournal new sizes (record { form = One; batches = map (batch_without slave) batches })
    placed_one others new is put =
        let all : others ≡ over slave Plain batches = is ∙ ap (over slave Plain) own_one in
        let le : length others ≤ length h.area = omega (arith, ap length all, over_fits slave Plain 0 h.area batches h.live) in
        let area = others ++ drop (length others) h.area in
        let long : length area ≡ length h.area = as_long h.area others le in
        let rest = h.has_area.rest in
        let bytes : new ≡ header_bytes h.has_area.version (length sizes) (length h.area) ++ (area ++ rest) =
        put ∙ put_front file (header_bytes h.has_area.version (length sizes) (length h.area)) h.area rest others h.has_area.header.spelt le in
        record {
          area = area;
          has_area = record {
            version = h.has_area.version;
            rest = rest;
            header = record {
              slaves_fit = h.has_area.header.slaves_fit;
              capacity_fits = subst (λ (n : ℕ). n < 2 ^ 32) (sym long) h.has_area.header.capacity_fits;
              spelt = bytes ∙ ap (λ (n : ℕ). header_bytes h.has_area.version (length sizes) n ++ (area ++ rest)) (sym long);
            };
            is_form = h.has_area.is_form;
            capacity = (omega (arith, long, h.has_area.capacity.0), omega (arith, long, h.has_area.capacity.1));
          };
          live = subst (λ (o : List ℕ). IsLive Plain 0 (o ++ drop (length o) h.area) (map (batch_without slave) batches)) (sym all) (over_lives slave Plain 0 h.area batches h.live);
          within = are_within slave sizes batches h.within;
        }

  -- VERSION 2

  module _ (h : IsJournal file sizes (record { form = Two; batches = batches })) where
    abbrev first : List ℕ
    first = h.live.first

    abbrev second : List ℕ
    second = h.live.second

    abbrev head : List ℕ
    head = header_bytes h.has_area.version (length sizes) (length h.area)

    abbrev back : List ℕ
    back = h.live.halves.last ++ h.has_area.rest

    own_first : of_half 0 batches ≡ h.live.firsts
    own_first = of_first h.live.firsts h.live.seconds batches (all_stand WithGeneration 0 h.live.firsts h.live.first_live.starts.can_stand)
        (all_stand WithGeneration 1 h.live.seconds h.live.second_live.starts.can_stand) h.live.in_order

    own_second : of_half 1 batches ≡ h.live.seconds
    own_second = of_second h.live.firsts h.live.seconds batches (all_stand WithGeneration 0 h.live.firsts h.live.first_live.starts.can_stand)
        (all_stand WithGeneration 1 h.live.seconds h.live.second_live.starts.can_stand) h.live.in_order

    area_size : length h.area ≡ length first + length second + length h.live.halves.last
    area_size = omega (arith, ap length h.live.halves.entire, length-append first (second ++ h.live.halves.last), length-append second h.live.halves.last)

    -- where the second half begins
    pub begins : field_at w32 4 file / 2 ≡ length first
    begins = omega (arith, stated_capacity file (length sizes) Two h.area h.has_area, area_size, h.live.halves.equal, h.live.halves.odd)

    in_parts : file ≡ head ++ (first ++ (second ++ back))
    in_parts = h.has_area.header.spelt ∙ ap (λ (l : List ℕ). head ++ l) (ap (λ (l : List ℕ). l ++ h.has_area.rest) h.live.halves.entire
        ∙ append_assoc first (second ++ h.live.halves.last) h.has_area.rest ∙ ap (λ (l : List ℕ). first ++ l) (append_assoc second h.live.halves.last h.has_area.rest))

    pub file_size : length file ≡ 8 + length first + length second + length back
    file_size = omega (
      arith,
      ap length in_parts,
      eight h.has_area.version (length sizes) (length h.area),
      length-append head (first ++ (second ++ back)),
      length-append first (second ++ back),
      length-append second back,
    )

    module _ (low high : List ℕ) (low_is : low ≡ over slave WithGeneration (of_half 0 batches)) (high_is : high ≡ over slave WithGeneration (of_half 1 batches)) where
      all_low : low ≡ over slave WithGeneration h.live.firsts
      all_low = low_is ∙ ap (over slave WithGeneration) own_first

      all_high : high ≡ over slave WithGeneration h.live.seconds
      all_high = high_is ∙ ap (over slave WithGeneration) own_second

      pub low_fits : length low ≤ length first
      low_fits = omega (arith, ap length all_low, over_fits slave WithGeneration 0 first h.live.firsts h.live.first_live)

      pub high_fits : length high ≤ length second
      high_fits = omega (arith, ap length all_high, over_fits slave WithGeneration 1 second h.live.seconds h.live.second_live)

      pub placed_two : (mid new : List ℕ) → mid ≡ placed 8 low file → new ≡ placed (8 + length first) high mid
          → IsJournal new sizes (record { form = Two; batches = map (batch_without slave) batches })
      placed_two mid new put put_again =
          let first_new = low ++ drop (length low) first in
          let second_new = high ++ drop (length high) second in
          let front = head ++ first_new in
          let area = first_new ++ (second_new ++ h.live.halves.last) in
          let first_long = as_long first low low_fits in
          let second_long = as_long second high high_fits in
          let long : length area ≡ length h.area =
          omega (arith, area_size, first_long, second_long, length-append first_new (second_new ++ h.live.halves.last), length-append second_new h.live.halves.last) in
          let at : length front ≡ 8 + length first =
          omega (arith, first_long, length-append head first_new, eight h.has_area.version (length sizes) (length h.area)) in
          let mid_is : mid ≡ front ++ (second ++ back) =
          put ∙ put_front file head first (second ++ back) low in_parts low_fits ∙ sym (append_assoc head first_new (second ++ back)) in
          let new_is : new ≡ front ++ (second_new ++ back) =
          put_again ∙ ap (λ (n : ℕ). placed n high mid) (sym at) ∙ put_front mid front second back high mid_is high_fits in
          let bytes : new ≡ head ++ (area ++ h.has_area.rest) =
          new_is ∙ append_assoc head first_new (second_new ++ back)
          ∙ ap (λ (l : List ℕ). head ++ l) (ap (λ (l : List ℕ). first_new ++ l) (sym (append_assoc second_new h.live.halves.last h.has_area.rest))
          ∙ sym (append_assoc first_new (second_new ++ h.live.halves.last) h.has_area.rest)) in
          record {
            area = area;
            has_area = record {
              version = h.has_area.version;
              rest = h.has_area.rest;
              header = record {
                slaves_fit = h.has_area.header.slaves_fit;
                capacity_fits = subst (λ (n : ℕ). n < 2 ^ 32) (sym long) h.has_area.header.capacity_fits;
                spelt = bytes ∙ ap (λ (n : ℕ). header_bytes h.has_area.version (length sizes) n ++ (area ++ h.has_area.rest)) (sym long);
              };
              is_form = h.has_area.is_form;
              capacity = (omega (arith, long, h.has_area.capacity.0), omega (arith, long, h.has_area.capacity.1));
            };
            live = record {
              first = first_new;
              second = second_new;
              halves = record { equal = omega (arith, first_long, second_long, h.live.halves.equal); last = h.live.halves.last; odd = h.live.halves.odd; entire = refl };
              firsts = map (batch_without slave) h.live.firsts;
              seconds = map (batch_without slave) h.live.seconds;
              first_live = subst (λ (o : List ℕ). IsLive WithGeneration 0 (o ++ drop (length o) first) (map (batch_without slave) h.live.firsts)) (sym all_low)
                  (over_lives slave WithGeneration 0 first h.live.firsts h.live.first_live);
              second_live = subst (λ (o : List ℕ). IsLive WithGeneration 1 (o ++ drop (length o) second) (map (batch_without slave) h.live.seconds)) (sym all_high)
                  (over_lives slave WithGeneration 1 second h.live.seconds h.live.second_live);
              in_order = in_order slave h.live.firsts h.live.seconds batches h.live.in_order;
            };
            within = are_within slave sizes batches h.within;
          }

-- ANY FORM

-- a header fits into the file
pub long_enough : (file sizes : List ℕ) (journal : Journal) → IsJournal file sizes journal → 8 ≤ length file
long_enough file sizes journal h =
    omega (
      arith,
      ap length h.has_area.header.spelt,
      eight h.has_area.version (length sizes) (length h.area),
      length-append (header_bytes h.has_area.version (length sizes) (length h.area)) (h.area ++ h.has_area.rest),
    )

spelt_live : (spelling : Spelling) (half : ℕ) (area : List ℕ) (batches : List Batch) → IsLive spelling half area batches → All CanBeSpelt batches
spelt_live spelling half area batches lives =
    All-weaker (CanStand spelling half) CanBeSpelt (λ batch can. can.payload) batches (All-from_recursion (CanStand spelling half) batches lives.starts.can_stand)

spelt_in_order : (firsts seconds batches : List Batch) → All CanBeSpelt firsts → All CanBeSpelt seconds → IsInOrder firsts seconds batches → All CanBeSpelt batches
spelt_in_order firsts seconds batches one two (inl h) = subst (All CanBeSpelt) (sym h.1) (All-append CanBeSpelt firsts seconds one two)
spelt_in_order firsts seconds batches one two (inr h) = subst (All CanBeSpelt) (sym h.1) (All-append CanBeSpelt seconds firsts two one)

spelt_in : (form : Form) (area : List ℕ) (batches : List Batch) → HasLive form area batches → All CanBeSpelt batches
spelt_in One area batches live = spelt_live Plain 0 area batches live
spelt_in Two area batches live =
    spelt_in_order live.firsts live.seconds batches (spelt_live WithGeneration 0 live.first live.firsts live.first_live)
    (spelt_live WithGeneration 1 live.second live.seconds live.second_live) live.in_order
spelt_in Moving area batches live = subst (All CanBeSpelt) (sym live) (All-nil CanBeSpelt)

-- each batch fits into its fields
pub can_be_spelt : (file sizes : List ℕ) (journal : Journal) → IsJournal file sizes journal → All CanBeSpelt journal.batches
can_be_spelt file sizes journal h = spelt_in journal.form h.area journal.batches h.live

-- A FILE OF ONE FORM

as_form : (journal : Journal) (form : Form) → journal.form ≡ form → journal ≡ record { form = form; batches = journal.batches }
as_form journal form is = ap (λ (f : Form). record { form = f; batches = journal.batches }) is

module _ (slave : ℕ) (file sizes : List ℕ) (journal : Journal) (h : IsJournal file sizes journal) where
  pub one_fits : journal.form ≡ One → 8 + length (over slave Plain (of_half 0 journal.batches)) ≤ length file
  one_fits is = fits_one slave file sizes journal.batches (subst (IsJournal file sizes) (as_form journal One is) h) (over slave Plain (of_half 0 journal.batches)) refl

  pub one_released : (new : List ℕ) → journal.form ≡ One → new ≡ placed 8 (over slave Plain (of_half 0 journal.batches)) file → IsWithout slave sizes file new
  one_released new is put =
      let own = subst (IsJournal file sizes) (as_form journal One is) h in
      record {
        journal = record { form = One; batches = journal.batches };
        was = own;
        is = placed_one slave file sizes journal.batches own (over slave Plain (of_half 0 journal.batches)) new refl put;
      }

  pub first_fits : journal.form ≡ Two → 8 + length (over slave WithGeneration (of_half 0 journal.batches)) ≤ length file
  first_fits is =
      let own = subst (IsJournal file sizes) (as_form journal Two is) h in
      let first = over slave WithGeneration (of_half 0 journal.batches) in
      let second = over slave WithGeneration (of_half 1 journal.batches) in
      omega (arith, file_size slave file sizes journal.batches own, low_fits slave file sizes journal.batches own first second refl refl)

  pub second_fits : journal.form ≡ Two → 8 + field_at w32 4 file / 2 + length (over slave WithGeneration (of_half 1 journal.batches)) ≤ length file
  second_fits is =
      let own = subst (IsJournal file sizes) (as_form journal Two is) h in
      let first = over slave WithGeneration (of_half 0 journal.batches) in
      let second = over slave WithGeneration (of_half 1 journal.batches) in
      let begin = begins slave file sizes journal.batches own in
      let size = file_size slave file sizes journal.batches own in
      let fit = high_fits slave file sizes journal.batches own first second refl refl in
      omega (arith, begin, size, fit)

  pub two_released : (new : List ℕ) → journal.form ≡ Two
      → new ≡ placed (8 + field_at w32 4 file / 2) (over slave WithGeneration (of_half 1 journal.batches)) (placed 8 (over slave WithGeneration (of_half 0 journal.batches)) file)
      → IsWithout slave sizes file new
  two_released new is put =
      let own = subst (IsJournal file sizes) (as_form journal Two is) h in
      let first = over slave WithGeneration (of_half 0 journal.batches) in
      let second = over slave WithGeneration (of_half 1 journal.batches) in
      let mid = placed 8 first file in
      let again = put ∙ ap (λ (n : ℕ). placed (8 + n) second mid) (begins slave file sizes journal.batches own) in
      record {
        journal = record { form = Two; batches = journal.batches };
        was = own;
        is = placed_two slave file sizes journal.batches own first second refl refl mid new refl again;
      }

  pub moving_released : (new : List ℕ) → journal.form ≡ Moving → new ≡ file → IsWithout slave sizes file new
  moving_released new is same =
      let own = subst (IsJournal file sizes) (as_form journal Moving is) h in
      let stays : IsJournal file sizes (record { form = Moving; batches = map (batch_without slave) journal.batches }) = record {
        area = own.area;
        has_area = own.has_area;
        live = ap (map (batch_without slave)) own.live;
        within = are_within slave sizes journal.batches own.within;
      } in
      record {
        journal = record { form = Moving; batches = journal.batches };
        was = own;
        is = subst (λ (bytes : List ℕ). IsJournal bytes sizes (record { form = Moving; batches = map (batch_without slave) journal.batches })) (sym same) stays;
      }

-- after the first half was written over, the file is as long as before
pub as_long_between : (at : ℕ) (others bytes : List ℕ) → at + length others ≤ length bytes → length (placed at others bytes) ≡ length bytes
as_long_between at others bytes le =
    omega (
      arith,
      length-append (take at bytes ++ others) (drop (at + length others) bytes),
      length-append (take at bytes) others,
      length-take at bytes,
      length-drop (at + length others) bytes,
      le,
    )
