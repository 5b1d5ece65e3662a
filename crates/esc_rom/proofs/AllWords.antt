-- Reading all words of a slave.
use Rattle.std.proofs.lemmas.Bool.Decides.{eqb_tells}
use Rattle.std.specs.Prelude.{unwrap_or}
use Rattle.std.proofs.Common.{◌≡◌, ℕ, suc, ◌+◌, ◌*◌, ◌/◌, ◌<◌, ◌≤◌, true, false, List, [], ◌∷◌, length, length-set, get_or-set_same, get_or-set_other, slice_set, option_map, Option, Some, None, slice_get, slice_index, Result, Ok, Err, refl, sym, ap, subst, ◌∙◌, inl, inr, arith}
use Rattle.esc_model.specs.SlaveHalf.{SlaveHalf, in_flight}
use Rattle.esc_model.specs.WordAccess.{IsAt, IsIdle, OnlyRests}
use Rattle.esc_model.proofs.OnlyResting.{OnlyRests-then, OnlyRests-none, OnlyRests-length, MayRest-only}
use Rattle.site_core.specs.State.{Seen, HalfGoes, clock, words_held}
use Rattle.site_core.proofs.Times.{Follows-clock}
use Rattle.rom_steps.specs.declared.back.Rested.{Rested}
use Rattle.esc_rom.specs.declared.fault.RomFault.{RomFault}
use Rattle.esc_rom.specs.declared.fault.RomFault.TheVariants as rom
use Rattle.rom_steps.specs.declared.back.WordPair.{WordPair}
use Rattle.esc_rom.specs.Runs.{Quiet, Ran, StopsQuietly, Waited}
use Rattle.esc_rom.specs.WordPairs.{ReadsPair, ReadsAll}
use Rattle.esc_rom.specs.Access.{BecomesRead, BecomesUnread, ReadsWords}
use Rattle.esc_rom.proofs.Runs.{Quiet-none, Ran-then, Ran-weaker}
use Rattle.esc_rom.proofs.Past.{Ran-tied, NeverIdle-waited, NeverIdle-after}
use Rattle.esc_rom.proofs.SettledWords.{seen_idle, seen_here}
use Rattle.esc_rom.proofs.States.{HalfGoes-weaker}

-- the half became idle, has the station address, and the first words are read
pub record Filled (slave : ℕ) (words : List ℕ) (count : ℕ) (half now : SlaveHalf) : Type 0 where
  pub only : OnlyRests half now
  pub idle : IsIdle now
  pub at : IsAt slave now
  pub same : (at : ℕ) → at < count → slice_index words at ≡ slice_index now.words at

pub filled_none : {a b : Seen} {slave : ℕ} {words : List ℕ} (rested : Rested) → Ran (Waited a slave b (Some rested)) a slave 10000 b → Ran (Filled slave words 0) a slave 10000 b
filled_none {slave = slave} rested ran = Ran-weaker (omega arith) (λ half later here there waited. record {
  only = MayRest-only half later waited.0;
  idle = seen_idle slave rested later waited.1;
  at = seen_here slave rested later waited.1;
  same = λ at below. absurd (omega arith);
}) ran

-- two more words
two_more : (words held : List ℕ) (count first second : ℕ) → count + 1 < length words → ((at : ℕ) → at < count → slice_index words at ≡ slice_index held at)
    → first ≡ slice_index held count → second ≡ slice_index held (count + 1)
    → (at : ℕ) → at < count + 2 → slice_index (slice_set (slice_set words count first) (count + 1) second) at ≡ slice_index held at
two_more words held count first second room below is_first is_second at near =
    elim (eqb_tells at (count + 1)) [
      | inl last ↦
          let long : count + 1 < length (slice_set words count first) = omega (arith, length-set words count first) in
          ap (λ (i : ℕ). slice_index (slice_set (slice_set words count first) (count + 1) second) i) last.1
          ∙ get_or-set_same (slice_set words count first) (count + 1) second 0 long ∙ is_second ∙ ap (λ (i : ℕ). slice_index held i) (sym last.1)
      | inr not_last ↦ get_or-set_other (slice_set words count first) (count + 1) at second 0 not_last.1 ∙ elim (eqb_tells at count) [
        | inl here ↦
            ap (λ (i : ℕ). slice_index (slice_set words count first) i) here.1
            ∙ get_or-set_same words count first 0 (omega arith) ∙ is_first ∙ ap (λ (i : ℕ). slice_index held i) (sym here.1)
        | inr before ↦ get_or-set_other words count at first 0 before.1 ∙ below at (let a = not_last.1 in let b = before.1 in omega arith)
      ]
    ]

pub filled_more : {a b c : Seen} {slave count m n : ℕ} {words : List ℕ} {pair : WordPair} → count + 1 < length words → m + 30006 ≤ n → Ran (Filled slave words count) a slave m b
    → Ran (ReadsPair b slave count c (Some pair)) b slave 30006 c → Ran (Filled slave (slice_set (slice_set words count pair.first) (count + 1) pair.second) (count + 2)) a slave n c
filled_more {count = count} {words = words} {pair = pair} room within ran more = Ran-then within (λ half mid later filled read. record {
  only = OnlyRests-then half mid later filled.only read.only;
  idle = read.idle;
  at = read.only.station ∙ filled.at;
  same = let held : later.words ≡ mid.words = (OnlyRests-none mid later (ap in_flight filled.idle) read.only).0 in
      two_more words later.words count pair.first pair.second room (λ at below. filled.same at below ∙ ap (λ (w : List ℕ). slice_index w at) (sym held)) read.first read.second;
}) ran more

-- what is read is not all
pub filled_not : {a b c : Seen} {slave : ℕ} (pair : ℕ) {m n : ℕ} {words : List ℕ} → 2 * pair + 1 < length words → m + 30006 ≤ n → Ran (Filled slave words (2 * pair)) a slave m b
    → Ran (ReadsPair b slave (2 * pair) c None) b slave 30006 c → Ran (ReadsAll a slave c words false) a slave n c
filled_not {a} {b} {c} {slave} pair inside within ran more = Ran-then within (λ half mid later filled reads. (
  OnlyRests-then half mid later filled.only reads.1.0,
  elim reads.1.1 [
    | inl never ↦ inl (NeverIdle-after a b c slave (Follows-clock a b ran.quiet.follows) never)
    | inr tries ↦ inr (record {
      from = clock b;
      after = Follows-clock a b ran.quiet.follows;
      began = record { half = mid; later = mid; first = reads.0; last = reads.0; goes = (filled.idle, filled.at) };
      word = 2 * pair;
      even = omega arith;
      inside = inside;
      tries = tries filled.at;
    })
  ],
)) ran (Ran-tied more)

-- lists of one length with the same elements are equal
equal_by_index : (xs ys : List ℕ) → length xs ≡ length ys → ((at : ℕ) → at < length xs → slice_index xs at ≡ slice_index ys at) → xs ≡ ys
equal_by_index [] [] long same = refl
equal_by_index [] (y ∷ ys) long same = absurd (omega arith)
equal_by_index (x ∷ xs) [] long same = absurd (omega arith)
equal_by_index (x ∷ xs) (y ∷ ys) long same =
    let head : x ≡ y = same 0 (omega arith) in
    let tail : xs ≡ ys = equal_by_index xs ys (omega arith) (λ at below. same (suc at) (omega arith)) in
    cc

pub filled_all : {a b : Seen} {slave count m n : ℕ} {words : List ℕ} → count ≡ length words → m ≤ n → Ran (Filled slave words count) a slave m b → Ran (ReadsAll a slave b words true) a slave n b
filled_all {words = words} all within ran = Ran-weaker within (λ half now here there filled. (
  filled.only,
  λ long.
      let same_length : length now.words ≡ length words = OnlyRests-length half now filled.only ∙ sym long in
      (filled.idle, sym (equal_by_index words now.words (sym same_length) (λ at below. filled.same at (omega arith)))),
)) ran

pub never_rests : {a b : Seen} {slave : ℕ} (words : List ℕ) {most : ℕ} → 10000 ≤ most → Ran (Waited a slave b None) a slave 10000 b → Ran (ReadsAll a slave b words false) a slave most b
never_rests {a} {b} {slave} words within ran = Ran-weaker within (λ half later here there waited. (MayRest-only half later waited.0, inl (NeverIdle-waited a a b slave (omega arith) waited.1))) ran

-- THE ANSWERS

-- the slave has as many words as were counted
held_here : (old : Seen) (slave : ℕ) (half : SlaveHalf) → slice_get old.state.halves slave ≡ Some half → words_held old slave ≡ length half.words
held_here old slave half here = ap (λ (o : Option SlaveHalf). unwrap_or (option_map (λ (h : SlaveHalf). length h.words) o) 0) here

same_most : (old : Seen) (long size : ℕ) (new : Seen) → long ≡ size → Quiet old (10000 + 30006 * (long / 2)) new → Quiet old (10000 + 30006 * (size / 2)) new
same_most old long size new is quiet = subst (λ (n : ℕ). Quiet old (10000 + 30006 * (n / 2)) new) is quiet

module _ (old : Seen) (slave size long : ℕ) (new : Seen) (is : long ≡ size) where
  pub reads_ok : (words : List ℕ) → length words ≡ words_held old slave → Ran (ReadsAll old slave new words true) old slave (10000 + 30006 * (long / 2)) new → ReadsWords old slave size (Ok words) new
  reads_ok words held ran = record {
    quiet = same_most old long size new is ran.quiet;
    read = λ w same. subst (λ (v : List ℕ). HalfGoes (BecomesRead v) old.state slave new.state) (let e : words ≡ w = cc in e)
        (HalfGoes-weaker ran.half (λ half later here there all. let so = all.1 (held ∙ held_here old slave half here) in (all.0, so.0, so.1)));
    dead = λ was. absurd cc;
    memory = λ was. absurd cc;
    stopped = λ was. absurd cc;
    going = λ stops. absurd (ran.going stops);
    faults = tt;
  }

  pub reads_dead : (words : List ℕ) → length words ≡ size → Ran (ReadsAll old slave new words false) old slave (10000 + 30006 * (long / 2)) new → ReadsWords old slave size (Err (rom.SlaveDead slave)) new
  reads_dead words held ran = record {
    quiet = same_most old long size new is ran.quiet;
    read = λ w was. absurd cc;
    dead = λ was. subst (λ (n : ℕ). HalfGoes (BecomesUnread old slave n new) old.state slave new.state) held ran.half;
    memory = λ was. absurd cc;
    stopped = λ was. absurd cc;
    going = λ stops. absurd (ran.going stops);
    faults = inr (inr refl);
  }

  pub reads_cut : (result : Result (List ℕ) RomFault) → result ≡ Err rom.Stopped → StopsQuietly old (10000 + 30006 * (long / 2)) new → ReadsWords old slave size result new
  reads_cut result stopped cut = subst (λ (r : Result (List ℕ) RomFault). ReadsWords old slave size r new) (sym stopped) (record {
    quiet = same_most old long size new is cut.quiet;
    read = λ w was. absurd cc;
    dead = λ was. absurd cc;
    memory = λ was. absurd cc;
    stopped = λ was. cut.stopped;
    going = λ stops. inl refl;
    faults = inr (inl refl);
  })

pub reads_refused : (old : Seen) (slave size : ℕ) (result : Result (List ℕ) RomFault) → result ≡ Err rom.Memory → ReadsWords old slave size result old
reads_refused old slave size result refused = subst (λ (r : Result (List ℕ) RomFault). ReadsWords old slave size r old) (sym refused) (record {
  quiet = Quiet-none old (10000 + 30006 * (size / 2));
  read = λ w was. absurd cc;
  dead = λ was. absurd cc;
  memory = λ was. refl;
  stopped = λ was. absurd cc;
  going = λ stops. inr refl;
  faults = inl refl;
})
