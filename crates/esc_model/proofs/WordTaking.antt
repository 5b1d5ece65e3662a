-- What the command to write a word does to a half.
use Rattle.std.proofs.Common.{◌≡◌, ◌≢◌, ◌⊎◌, ℕ, ◌+◌, ◌*◌, ◌/◌, ◌%◌, ◌^◌, ◌<◌, ◌||◌, Bool, true, false, nat_le, List, ◌++◌, length, refl, sym, ap, subst, ◌∙◌, inl, inr, arith}
use Rattle.std.specs.Int.{w16, w32, to_le_bytes}
use Rattle.std.specs.Prelude.{◌==◌, if◌then◌else◌}
use Rattle.std.proofs.lemmas.Bool.{or_from, lt-leb}
use Rattle.std.proofs.lemmas.Bool.Decides.{leb_tells}
use Rattle.esc_model.specs.Registers.{access_byte}
use Rattle.esc_model.specs.SlaveHalf.{SlaveHalf, Writing, is_busy, MayRest, begun, with_command_errors, with_stored, writing}
use Rattle.esc_model.specs.Datagrams.{served_datagram}
use Rattle.esc_model.proofs.Resting.{MayRest-idle}
use Rattle.esc_model.specs.Orders.{station, write_order}
use Rattle.esc_model.specs.WordAccess.{IsIdle, IsWritingOrInError, TakesWord}
use Rattle.esc_model.specs.Laws.{BeginsWord, IssueBegins}
use Rattle.esc_model.proofs.Resting.{MayRest-station}
use Rattle.esc_model.proofs.Status.{idle_not_busy}
use Rattle.esc_model.proofs.Writing.{Writes, elsewhere, busy, done, control_writes, begun_refused, begun_write, true_or_false}

or_second : (a b : Bool) → (a || b) ≡ false → b ≡ false
or_second true b is = absurd cc
or_second false b is = is

inside_of : (a : Bool) (len address : ℕ) → (a || nat_le len address) ≡ false → address < len
inside_of a len address is = elim (leb_tells len address) [
  | inl beyond ↦ absurd (let e : true ≡ false = sym beyond.0 ∙ or_second a (nat_le len address) is in cc)
  | inr inside ↦ inside.1
]

pub or_first : (a b : Bool) → a ≡ true → (a || b) ≡ true
or_first a b is = rw is refl

-- the number of a word in two bytes of four, and a value in two
pub number_back : (word : ℕ) → word < 2 ^ 16
    → word % 256 + 256 * (word / 256 % 256) + 65536 * (word / 65536 % 256 + 256 * (word / 16777216 % 256)) ≡ word
number_back word small = omega arith

pub value_back : (value : ℕ) → value < 2 ^ 16 → value % 256 + 256 * (value / 256 % 256) ≡ value
value_back value small = omega arith

abbrev content_of : (word value : ℕ) → List ℕ
content_of word value = to_le_bytes w16 0x0201 ++ to_le_bytes w32 word ++ to_le_bytes w16 value

writing_is : {a b c d : ℕ} → a ≡ b → c ≡ d → Writing a c ≡ Writing b d
writing_is e f = cc

-- bit 0 of the access byte
pub offered_again : (offered forced : Bool) → (((if offered then 1 else 0) + (if forced then 2 else 0)) % 2 == 1) ≡ offered
offered_again true true = refl
offered_again true false = refl
offered_again false true = refl
offered_again false false = refl

-- the registers once the word is stored and judged
module _ (half : SlaveHalf) (word value : ℕ) (word_fits : word < 2 ^ 16) (value_fits : value < 2 ^ 16) where
  abbrev stored : SlaveHalf
  stored = with_command_errors (with_stored half 2 (content_of word value))

  address_is : stored.registers.address ≡ word
  address_is = number_back word word_fits

  first_is : stored.registers.first ≡ value
  first_is = value_back value value_fits

  inside_by : stored.registers.command_error ≡ false → word < length half.words
  inside_by fine = subst (λ (a : ℕ). a < length half.words) address_is (inside_of _ (length half.words) stored.registers.address fine)

  refused : IsIdle half → stored.registers.command_error ≡ true → (begun stored ≡ stored) × IsWritingOrInError word value stored
  refused idle error =
      let either : (stored.registers.command_error || stored.registers.enable_error) ≡ true = or_first stored.registers.command_error stored.registers.enable_error error in
      (begun_refused stored either, inr (idle, either))

  taken_up : stored.registers.command_error ≡ false → (begun stored ≡ writing stored) × IsWritingOrInError word value (writing stored)
  taken_up fine =
      let neither : (stored.registers.command_error || stored.registers.enable_error) ≡ false = rw fine refl in
      (begun_write stored neither refl, inl (writing_is address_is first_is, inside_by fine))

  -- where the EEPROM isn't offered to the PDI, and the word is one of the device, it begins
  pub issue_begun : half.registers.offered ≡ false → word < length half.words → BeginsWord word value half (begun stored)
  issue_begun not_offered inside =
      let still : (access_byte half.registers % 2 == 1) ≡ false = offered_again half.registers.offered half.registers.forced ∙ not_offered in
      let near : nat_le (length half.words) stored.registers.address ≡ false = subst (λ (a : ℕ). nat_le (length half.words) a ≡ false) (sym address_is) (lt-leb (length half.words) word inside) in
      let fine : stored.registers.command_error ≡ false =
      or_from ((access_byte half.registers % 2 == 1) || false) (nat_le (length half.words) stored.registers.address) (or_from (access_byte half.registers % 2 == 1) false still refl) near in
      let neither : (stored.registers.command_error || stored.registers.enable_error) ≡ false = rw fine refl in
      subst (BeginsWord word value half) (sym (begun_write stored neither refl)) (record { activity = writing_is address_is first_is; words = refl; station = refl })

  -- it has taken the word, and its words are as they were
  pub word_taken : IsIdle half → IsWritingOrInError word value (begun stored) × ((begun stored).words ≡ half.words) × ((begun stored).station ≡ half.station)
  word_taken idle = elim (true_or_false stored.registers.command_error) [
    | inl error ↦ let r = refused idle error in
        subst (λ (h : SlaveHalf). IsWritingOrInError word value h × (h.words ≡ half.words) × (h.station ≡ half.station)) (sym r.0) (r.1, refl, refl)
    | inr fine ↦ let t = taken_up fine in
        subst (λ (h : SlaveHalf). IsWritingOrInError word value h × (h.words ≡ half.words) × (h.station ≡ half.station)) (sym t.0) (t.1, refl, refl)
  ]

write_writes : (half : SlaveHalf) (slave word value : ℕ) → slave < 64
    → Writes half slave (is_busy half.activity ≡ false) (begun (with_command_errors (with_stored half 2 (content_of word value)))) (served_datagram half (write_order slave word value))
write_writes half slave word value near = control_writes half slave (content_of word value) near refl refl refl

-- a half that became idle and took the datagram, or passed it on
pub data Issues (slave word value : ℕ) (half : SlaveHalf) (rested : SlaveHalf) : Type 0 where
  passed : (served_datagram rested (write_order slave word value)).half ≡ rested → (served_datagram rested (write_order slave word value)).added ≡ 0
      → (¬ IsIdle half ⊎ (half.station ≢ station slave)) → Issues slave word value half rested
  has : TakesWord slave word value half (served_datagram rested (write_order slave word value)).half → (served_datagram rested (write_order slave word value)).added ≡ 1
      → Issues slave word value half rested

not_idle : (half rested : SlaveHalf) → MayRest half rested → is_busy rested.activity ≡ true → ¬ IsIdle half
not_idle half rested rests b idle =
    let same : rested ≡ half = MayRest-idle half rested idle rests in
    let e : is_busy rested.activity ≡ false = ap (λ (h : SlaveHalf). is_busy h.activity) same ∙ ap is_busy idle in
    absurd cc

pub word_issues : (slave word value : ℕ) (half rested : SlaveHalf) → slave < 64 → word < 2 ^ 16 → value < 2 ^ 16 → MayRest half rested → Issues slave word value half rested
word_issues slave word value half rested near word_fits value_fits rests = by (write_writes rested slave word value near)
  where
    by : Writes rested slave (is_busy rested.activity ≡ false) (begun (with_command_errors (with_stored rested 2 (content_of word value)))) (served_datagram rested (write_order slave word value))
        → Issues slave word value half rested
    by (elsewhere not same none) = passed same none (inr (λ is. not (MayRest-station half rested rests ∙ is)))
    by (busy b same none) = passed same none (inl (not_idle half rested rests b))
    by (done here b is one) =
        let idle : IsIdle rested = idle_not_busy rested.activity b in
        let facts = word_taken rested word value word_fits value_fits idle in
        has (record {
          rested = rested;
          rests = rests;
          idle = idle;
          counted = one;
          is = refl;
          station = ap (λ (h : SlaveHalf). h.station) is ∙ facts.2 ∙ MayRest-station half rested rests;
          words = ap (λ (h : SlaveHalf). h.words) is ∙ facts.1;
          writes = subst (λ (h : SlaveHalf). IsWritingOrInError word value h) (sym is) facts.0;
        }) one

-- ISSUE

pub issue_begins : IssueBegins
issue_begins slave word value half near word_fits value_fits here idle not_offered inside = by (write_writes half slave word value near)
  where
    by : Writes half slave (is_busy half.activity ≡ false) (begun (with_command_errors (with_stored half 2 (content_of word value)))) (served_datagram half (write_order slave word value))
        → BeginsWord word value half (served_datagram half (write_order slave word value)).half × ((served_datagram half (write_order slave word value)).added ≡ 1)
    by (elsewhere not same none) = absurd (not here)
    by (busy b same none) = let e : is_busy half.activity ≡ false = ap is_busy idle in absurd cc
    by (done _ b is one) = (
      subst (BeginsWord word value half) (sym is) (issue_begun half word value word_fits value_fits not_offered inside),
      one,
    )
