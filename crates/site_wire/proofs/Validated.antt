-- Commands that are judged by registers that are the same.
use Rattle.std.proofs.Common.{◌≡◌, ℕ, ◌+◌, ◌%◌, ◌≤◌, ◌||◌, ◌&&◌, Bool, true, false, nat_lt, nat_le, List, length}
use Rattle.std.proofs.Common.{slice_index, refl, sym, ap, ◌∙◌, arith}
use Rattle.std.specs.Prelude.{◌==◌, if◌then◌else◌}
use Rattle.std.proofs.lemmas.Bool.{eqb-true}
use Rattle.esc_model.specs.SlaveHalf.{SlaveHalf, with_stored, with_command_errors, begun, fetching, writing}
use Rattle.site_wire.proofs.Stored.{address_covered, first_covered, control_same, command_same, command_given}

-- the half with its content stored, and its command judged
abbrev pub validated : SlaveHalf → ℕ → List ℕ → SlaveHalf
validated half at over = with_command_errors (with_stored half at over)

-- what a command that was judged does
pub data Doing : Type 0 where
  Nothing : Doing
  Fetches : Doing
  Writes : Doing

pub doing : (error : Bool) (command : ℕ) → Doing
doing error command = if error then Nothing else if command == 1 then Fetches else if command == 2 then Writes else Nothing

abbrev pub doing_of : SlaveHalf → Doing
doing_of half = doing (half.registers.command_error || half.registers.enable_error) half.registers.command

abbrev pub done : Doing → SlaveHalf → SlaveHalf
done Nothing half = half
done Fetches half = fetching half
done Writes half = writing half

pub begun_is : (half : SlaveHalf) → begun half ≡ done (doing_of half) half
unfolding doing
begun_is half = by (half.registers.command_error || half.registers.enable_error) (half.registers.command == 1) (half.registers.command == 2)
  where
    by : (error reads writes : Bool)
        → (if error then half else if reads then fetching half else if writes then writing half else half)
        ≡ done (if error then Nothing else if reads then Fetches else if writes then Writes else Nothing) half
    by true reads writes = refl
    by false true writes = refl
    by false false true = refl
    by false false false = refl

-- without a command nothing is done
does_nothing : (half : SlaveHalf) → half.registers.command ≡ 0 → doing_of half ≡ Nothing
unfolding doing
does_nothing half zero = (rw zero refl) ∙ by (half.registers.command_error || half.registers.enable_error)
  where
    by : (error : Bool) → (if error then Nothing else Nothing) ≡ Nothing
    by true = refl
    by false = refl

pub fetches_command : (half : SlaveHalf) → doing_of half ≡ Fetches → half.registers.command ≡ 1
unfolding doing
fetches_command half is =
    eqb-true half.registers.command 1
    (by (half.registers.command_error || half.registers.enable_error) (half.registers.command == 1) (half.registers.command == 2) is)
  where
    by : (error reads writes : Bool) → (if error then Nothing else if reads then Fetches else if writes then Writes else Nothing) ≡ Fetches → reads ≡ true
    by true reads writes e = absurd cc
    by false true writes e = refl
    by false false true e = absurd cc
    by false false false e = absurd cc

pub writes_command : (half : SlaveHalf) → doing_of half ≡ Writes → half.registers.command ≡ 2
unfolding doing
writes_command half is =
    eqb-true half.registers.command 2
    (by (half.registers.command_error || half.registers.enable_error) (half.registers.command == 1) (half.registers.command == 2) is)
  where
    by : (error reads writes : Bool) → (if error then Nothing else if reads then Fetches else if writes then Writes else Nothing) ≡ Writes → writes ≡ true
    by true reads writes e = absurd cc
    by false true writes e = absurd cc
    by false false true e = refl
    by false false false e = absurd cc

-- the errors of a command, by what it is judged by
command_error_by : (offered : Bool) (command address count : ℕ) → Bool
command_error_by offered command address count =
    offered || nat_lt 2 command || ((command == 1 && nat_le count (address + 1)) || (command == 2 && nat_le count address))

-- without a command the word isn't looked at
error_zero : (offered : Bool) (address other count others : ℕ) → command_error_by offered 0 address count ≡ command_error_by offered 0 other others
unfolding command_error_by
error_zero offered address other count others = refl

enable_error_by : (command control : ℕ) → Bool
enable_error_by command control = command == 2 && control % 2 == 0

command_error_is : (half : SlaveHalf) → (with_command_errors half).registers.command_error
    ≡ command_error_by half.registers.offered half.registers.command half.registers.address (length half.words)
unfolding command_error_by
command_error_is half = refl

enable_error_is : (half : SlaveHalf) → (with_command_errors half).registers.enable_error ≡ enable_error_by half.registers.command half.registers.control
unfolding enable_error_by
enable_error_is half = refl

-- The same command in both, with the same errors.
pub record SameCommand (a b : SlaveHalf) : Type 0 where
  pub station : b.station ≡ a.station
  pub offered : b.registers.offered ≡ a.registers.offered
  pub forced : b.registers.forced ≡ a.registers.forced
  pub command_error : b.registers.command_error ≡ a.registers.command_error
  pub enable_error : b.registers.enable_error ≡ a.registers.enable_error
  pub command : b.registers.command ≡ a.registers.command

-- A command with all that it needs: none; or the number of a word; or that and its value.
pub data Needs (content : List ℕ) : Type 0 where
  none : 2 ≤ length content → slice_index content 1 % 8 ≡ 0 → Needs content
  reads : 6 ≤ length content → slice_index content 1 % 8 ≡ 1 → Needs content
  writes : 8 ≤ length content → slice_index content 1 % 8 ≡ 2 → Needs content

pub needs_covers : (content : List ℕ) → Needs content → 2 ≤ length content
needs_covers content (none covers is) = covers
needs_covers content (reads covers is) = omega arith
needs_covers content (writes covers is) = omega arith

module _ (a b : SlaveHalf) (over : List ℕ) (needs : Needs over) where
  commands_same : (with_stored b 2 over).registers.command ≡ (with_stored a 2 over).registers.command
  commands_same = command_same a b 2 over (omega arith) (omega (arith, needs_covers over needs))

  error_named : 6 ≤ length over
      → (with_stored b 2 over).registers.offered ≡ (with_stored a 2 over).registers.offered → length b.words ≡ length a.words
      → (validated b 2 over).registers.command_error ≡ (validated a 2 over).registers.command_error
  error_named covers offered count =
      command_error_is (with_stored b 2 over)
      ∙ rw (offered, commands_same, address_covered a b 2 over (omega arith) (omega arith), count) refl
      ∙ sym (command_error_is (with_stored a 2 over))

  error_none : (with_stored a 2 over).registers.command ≡ 0
      → (with_stored b 2 over).registers.offered ≡ (with_stored a 2 over).registers.offered
      → (validated b 2 over).registers.command_error ≡ (validated a 2 over).registers.command_error
  error_none zero offered =
      let r = (with_stored a 2 over).registers in
      let s = (with_stored b 2 over).registers in
      command_error_is (with_stored b 2 over)
      ∙ ap (λ (n : ℕ). command_error_by s.offered n s.address (length b.words)) (commands_same ∙ zero)
      ∙ ap (λ (o : Bool). command_error_by o 0 s.address (length b.words)) offered
      ∙ error_zero r.offered s.address r.address (length b.words) (length a.words)
      ∙ ap (λ (n : ℕ). command_error_by r.offered n r.address (length a.words)) (sym zero)
      ∙ sym (command_error_is (with_stored a 2 over))

  error_same : (with_stored b 2 over).registers.offered ≡ (with_stored a 2 over).registers.offered → length b.words ≡ length a.words
      → (validated b 2 over).registers.command_error ≡ (validated a 2 over).registers.command_error
  error_same offered count = by needs
    where
      by : Needs over → (validated b 2 over).registers.command_error ≡ (validated a 2 over).registers.command_error
      by (none covers is) = error_none (command_given a b 2 over refl covers ∙ is) offered
      by (reads covers is) = error_named covers offered count
      by (writes covers is) = error_named (omega arith) offered count

  pub validated_same : b.station ≡ a.station
      → (with_stored b 2 over).registers.offered ≡ (with_stored a 2 over).registers.offered
      → (with_stored b 2 over).registers.forced ≡ (with_stored a 2 over).registers.forced
      → length b.words ≡ length a.words → SameCommand (validated a 2 over) (validated b 2 over)
  validated_same station offered forced count =
      let control : (with_stored b 2 over).registers.control ≡ (with_stored a 2 over).registers.control =
      control_same a b 2 over (omega arith) (omega (arith, needs_covers over needs)) in
      record {
        station = station;
        offered = offered;
        forced = forced;
        command_error = error_same offered count;
        enable_error = enable_error_is (with_stored b 2 over) ∙ rw (commands_same, control) refl ∙ sym (enable_error_is (with_stored a 2 over));
        command = commands_same;
      }

  -- what the command names is the same
  pub address_needed : (d : Doing) → doing_of (validated a 2 over) ≡ d → ¬ (d ≡ Nothing) → (validated b 2 over).registers.address ≡ (validated a 2 over).registers.address
  address_needed d is some = by needs
    where
      by : Needs over → (validated b 2 over).registers.address ≡ (validated a 2 over).registers.address
      by (none covers zero) = absurd (some (sym is ∙ does_nothing (validated a 2 over) (command_given a b 2 over refl covers ∙ zero)))
      by (reads covers one) = address_covered a b 2 over (omega arith) (omega arith)
      by (writes covers two) = address_covered a b 2 over (omega arith) (omega arith)

  pub first_needed : doing_of (validated a 2 over) ≡ Writes → (validated b 2 over).registers.first ≡ (validated a 2 over).registers.first
  first_needed is = by needs
    where
      command_is_two : (validated a 2 over).registers.command ≡ 2
      command_is_two = writes_command (validated a 2 over) is

      by : Needs over → (validated b 2 over).registers.first ≡ (validated a 2 over).registers.first
      by (none covers zero) = absurd (let e : slice_index over 1 % 8 ≡ 2 = sym (command_given a b 2 over refl covers) ∙ command_is_two in omega arith)
      by (reads covers one) = absurd (let e : slice_index over 1 % 8 ≡ 2 = sym (command_given a b 2 over refl (omega arith)) ∙ command_is_two in omega arith)
      by (writes covers two) = first_covered a b 2 over (omega arith) (omega arith)

doing_same : (a b : SlaveHalf) → SameCommand a b → doing_of b ≡ doing_of a
doing_same a b same = rw (same.command_error, same.enable_error, same.command) refl

-- the second does what the first does
pub begun_as : (a b : SlaveHalf) → SameCommand a b → begun b ≡ done (doing_of a) b
begun_as a b same = begun_is b ∙ ap (λ (d : Doing). done d b) (doing_same a b same)
