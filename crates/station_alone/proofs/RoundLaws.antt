-- A round of a recovery, and whether there is another.
use Rattle.std.proofs.Common.{◌≡◌, ◌⊎◌, inl, inr, ℕ, ◌+◌, ◌^◌, ◌<◌, ◌≤◌, Bool, true, false, List, [], length, refl, sym, ◌∙◌, ap, subst, arith, Ok}
use Rattle.std.specs.Prelude.{is_some, if◌then◌else◌}
use Rattle.std.specs.List.{sum_by}
use Rattle.std.proofs.lemmas.Bool.{cases_lt}
use Rattle.sii_words.specs.declared.run.Run.{Run}
use Rattle.jrn_format.specs.declared.journal.Entry.{Entry}
use Rattle.jrn_format.specs.Halves.{live}
use Rattle.site_core.specs.State.{clock}
use Rattle.book_model.specs.Entries.{runs_of}
use Rattle.book_model.specs.Book.{Book, is_closed, is_version_2}
use Rattle.book_model.specs.Open.{migrate}
use Rattle.book_model.specs.Reading.{live_bytes}
use Rattle.site_journal.specs.Left.{calls_left}
use Rattle.site_journal.specs.Recovering.{GetsNearer}
use Rattle.site_journal.proofs.DiskLaws.{asked-for}
use Rattle.site_journal.proofs.EndLaws.{nothing-left, without-byte}
use Rattle.site_journal.proofs.WordLaws.{few-issued}
use Rattle.station_alone.specs.declared.choice.Choice.TheVariants as choices
use Rattle.station_alone.specs.declared.choice.Answer.{Answer}
use Rattle.station_alone.specs.declared.choice.Answer.TheVariants.{Did, Idle}
use Rattle.station_alone.specs.Station.{Station, Stands}
use Rattle.station_alone.specs.Steps.{AsksMigration}
use Rattle.station_alone.specs.Keeping.{GoesOn, Keeps}
use Rattle.station_alone.specs.Recovery.{LeadsTo}
use Rattle.station_alone.specs.Rounds.{AnotherRound, DiskRests, is_did, IsSmall, IsUnfinished, IsWorking, MovesOrRests, RestUpTo, Rounds, ServesSlave, SlaveRests, Works}
use Rattle.station_alone.proofs.KeepLaws.{goes-within}
use Rattle.station_alone.proofs.RowLaws.{leads-one, slaves-of, works-none, works-then}

-- ---- in the middle of a round

-- the disk and the first `count` slaves were served
pub record InRound (words count : ℕ) (old now : Station) : Type 0 where
  pub works : Works words old now
  pub few : words ≤ count
  pub moves : MovesOrRests (RestUpTo count) old now

pub round-begins : (old now : Station) → Works 0 old now → MovesOrRests DiskRests old now → InRound 0 0 old now
round-begins old now works (inl less) = record { works = works; few = omega arith; moves = inl less }
round-begins old now works (inr rests) = record { works = works; few = omega arith; moves = inr (rests.0, (rests.1, λ i within. absurd (omega arith))) }

rest-one : (count i : ℕ) (book : Book) → RestUpTo count book → SlaveRests count book → i < count + 1 → (i < count) ⊎ (count ≤ i) → SlaveRests i book
rest-one count i book before here within (inl less) = before.1 i less
rest-one count i book before here within (inr more) = subst (λ (k : ℕ). SlaveRests k book) (omega arith) here

goes-by : (words n count : ℕ) (a b c : Station) → MovesOrRests (RestUpTo count) a b → MovesOrRests (SlaveRests count) b c → MovesOrRests (RestUpTo (count + 1)) a c
goes-by words n count a b c (inl first) (inl second) = inl (omega arith)
goes-by words n count a b c (inl first) (inr second) = inl (subst (λ (s : Station). calls_left s.book < calls_left a.book) (sym second.0) first)
goes-by words n count a b c (inr first) (inl second) = inl (subst (λ (s : Station). calls_left c.book < calls_left s.book) first.0 second)
goes-by words n count a b c (inr first) (inr second) =
    let here : SlaveRests count a.book = subst (λ (s : Station). SlaveRests count s.book) first.0 second.1 in
    inr (second.0 ∙ first.0, (first.1.0, λ i within. rest-one count i a.book first.1 here within (cases_lt i count)))

pub round-goes : (words n count : ℕ) (a b c : Station) → InRound words count a b → ServesSlave count (Ok n) b c → InRound (words + n) (count + 1) a c
round-goes words n count a b c round serves = record {
  works = works-then words n a b c round.works serves.goes;
  few = let one = serves.few in let few = round.few in omega (arith, one, few);
  moves = goes-by words n count a b c round.moves serves.moves;
}

-- the line keeps its slaves
pub same-count : (words : ℕ) (a b : Station) → IsWorking a → Works words a b → length b.book.slaves ≡ length a.book.slaves
same-count words a b working works =
    let now = slaves-of b works.working in
    let before = slaves-of a working in
    let same : length b.book.words ≡ length a.book.words = ap (λ (w : List (List ℕ)). length w) works.kept.session.words in
    omega (arith, now, before, same)

-- where all rest, nothing is unfinished
all-rest : (book : Book) → IsUnfinished book → (live book.halves ≡ []) × (book.is_migrating ≡ false) → ⊥
all-rest book (inl some) none = some none.0
all-rest book (inr asked) none = let never : true ≡ false = sym asked ∙ none.1 in absurd cc

ends-by : (words : ℕ) (a b : Station) → IsWorking a → IsUnfinished a.book → MovesOrRests (RestUpTo (length a.book.slaves)) a b → calls_left b.book < calls_left a.book
ends-by words a b working unfinished (inl less) = less
ends-by words a b working unfinished (inr rests) =
    absurd (all-rest a.book unfinished (nothing-left a.book working.recovering working.sound (record { disk = rests.1.0; slaves = rests.1.1 })))

pub round-ends : (words count : ℕ) (a b : Station) → IsWorking a → IsUnfinished a.book → count ≡ length a.book.slaves → InRound words count a b → Rounds (Ok words) a b
round-ends words count a b working unfinished all round =
    record { goes = round.works; nearer = ends-by words a b working unfinished (subst (λ (n : ℕ). MovesOrRests (RestUpTo n) a b) all round.moves) }

-- ---- whether there is more to do

pub asks-live : (s : Station) → IsWorking s → 0 < live_bytes s.book → AnotherRound true s s
asks-live s working some = record {
  works = works-none s working;
  left = omega arith;
  yes = λ is. inl (λ none. let zero_is = (without-byte s.book).1 none in omega (arith, zero_is, some));
  no = λ not. absurd (not refl);
}

-- what is asked for
data AskedFor (book : Book) : Type 0 where
  refused : is_version_2 book.form ≡ true → migrate book ≡ (false, book) → AskedFor book
  asked : migrate book ≡ (true, record book { is_migrating = true }) → AskedFor book

asked-by : (book : Book) (two : Bool) → is_closed book ≡ false → is_version_2 book.form ≡ two → AskedFor book
asked-by book true going form = refused form (rw (going, form) refl)
asked-by book false going form = asked (rw (going, form) refl)

module _ (old new : Station) (working : IsWorking old) (stands : Stands new) (goes : GoesOn [] 0 old new) (keeps : Keeps [] old new) (none : live_bytes old.book ≡ 0) where
  -- the book is asked, and nothing is done
  works : new.book ≡ (migrate old.book).1 → new.seen ≡ old.seen → is_some new.book.fault ≡ false → LeadsTo old new → Works 0 old new
  works book seen sound leads =
      let near : GetsNearer 0 0 old.book new.book = subst (GetsNearer 0 0 old.book) (sym book) (asked-for old.book working.recovering) in
      let left = near.left in
      let time : clock new.seen ≡ clock old.seen = ap clock seen in
      record {
        working = record { stands = stands; recovering = near.recovering; sound = sound };
        kept = record { session = goes-within [] 0 (calls_left old.book) old new goes (omega (arith, time)); keeps = keeps };
        leads = leads;
        left = omega (arith, time, left);
        issued = near.issued;
      }

  asks-by : (answer : Answer) → AskedFor old.book → AsksMigration old answer new → ((answer ≡ Did) × AnotherRound true old new) ⊎ ((answer ≡ Idle) × AnotherRound false old new)
  asks-by answer (refused form is) asks =
      let same : new.book ≡ old.book = asks.book ∙ ap (λ (a : Bool × Book). a.1) is in
      let idle : answer ≡ Idle = asks.answered ∙ ap (λ (a : Bool × Book). if a.0 then Did else Idle) is in
      inr (
        idle,
        record {
          works = works asks.book asks.seen (ap (λ (b : Book). is_some b.fault) same ∙ working.sound) (leads-one choices.Migrate answer old new tt asks);
          left = let n : calls_left new.book ≡ calls_left old.book = ap calls_left same in omega (arith, n);
          yes = λ more. absurd cc;
          no = λ not. (ap (λ (b : Book). live b.halves) same ∙ (without-byte old.book).0 none, ap (λ (b : Book). is_version_2 b.form) same ∙ form);
        },
      )
  asks-by answer (asked is) asks =
      let goes_to : new.book ≡ record old.book { is_migrating = true } = asks.book ∙ ap (λ (a : Bool × Book). a.1) is in
      let did : answer ≡ Did = asks.answered ∙ ap (λ (a : Bool × Book). if a.0 then Did else Idle) is in
      inl (
        did,
        record {
          works = works asks.book asks.seen (ap (λ (b : Book). is_some b.fault) goes_to ∙ working.sound) (leads-one choices.Migrate answer old new tt asks);
          left = let n : calls_left new.book ≡ calls_left old.book = ap calls_left goes_to in omega (arith, n);
          yes = λ more. inr (ap (λ (b : Book). b.is_migrating) goes_to);
          no = λ not. absurd (not refl);
        },
      )

  pub asks-migration : (answer : Answer) → AsksMigration old answer new → ((answer ≡ Did) × AnotherRound true old new) ⊎ ((answer ≡ Idle) × AnotherRound false old new)
  asks-migration answer asks =
      asks-by answer (asked-by old.book (is_version_2 old.book.form) (rw (working.recovering.going, working.sound) refl) refl) asks

pub asks-did : (old new : Station) (answer : Answer) → IsWorking old → Stands new → GoesOn [] 0 old new → Keeps [] old new → live_bytes old.book ≡ 0 → AsksMigration old answer new → AnotherRound (is_did answer) old new
asks-did old new answer working stands goes keeps none asks = elim (asks-migration old new working stands goes keeps none answer asks) [
  | inl did ↦ subst (λ (a : Answer). AnotherRound (is_did a) old new) (sym did.0) did.1
  | inr idle ↦ subst (λ (a : Answer). AnotherRound (is_did a) old new) (sym idle.0) idle.1
]

-- ---- all rounds

-- one round more, after the question whether there is more to do
pub works-round : (words n : ℕ) (a b c d : Station) → Works words a b → Works 0 b c → Works n c d → Works (words + n) a d
works-round words n a b c d one none two =
    let e : (words + 0) + n ≡ words + n = omega arith in
    subst (λ (k : ℕ). Works k a d) e (works-then (words + 0) n a c d (works-then words 0 a b c one none) two)

-- all words that are issued can be counted
pub can-count : (words : ℕ) (a d : Station) → IsSmall a.book → Works words a d → words < 2 ^ 64
can-count words a d small works =
    let few = few-issued d.book works.working.recovering in
    let found : d.book.found ≡ a.book.found = works.kept.session.found in
    let same : sum_by (λ (run : Run). length run.words) (runs_of d.book.found) ≡ sum_by (λ (run : Run). length run.words) (runs_of a.book.found) = ap (λ (l : List Entry). sum_by (λ (run : Run). length run.words) (runs_of l)) found in
    let issued = works.issued in
    omega (arith, few, same, issued, small)
