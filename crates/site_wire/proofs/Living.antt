-- What real slaves are after what was sent to them.
use Rattle.std.proofs.Common.{inl, ◌≡◌, ◌≢◌, ℕ, List, [], ◌∷◌, ◌++◌, Some, None, refl, sym, ap, subst, ◌∙◌}
use Rattle.std.specs.List.{All}
use Rattle.std.proofs.lemmas.List.Elements.{All-nil, All-cons, All-head, All-tail}
use Rattle.ecat_frame.specs.Command.{command_of}
use Rattle.ecat_frame.specs.Frame.{Pdu}
use Rattle.esc_model.specs.Bytes.{station_of}
use Rattle.esc_model.specs.SlaveHalf.{SlaveHalf}
use Rattle.esc_model.specs.Datagrams.{served_datagram}
use Rattle.esc_model.proofs.Resting.{MayHold-same, MayRest-station}
use Rattle.esc_model.proofs.Serving.{Goes-served}
use Rattle.site_wire.specs.Sent.{Exchanged, exchanged}
use Rattle.site_wire.specs.RealSlaves.{DefinedServes, IsLike, Serves, Servings, none, more, Answered, Lives, ends, answers, is_silent, of_another}
use Rattle.site_wire.specs.RealSlaves.{IsSoFar, nothing, under_way, and_more}

-- THE SLAVE OF THE DEFINITION

IsLike-refl : (half : SlaveHalf) → IsLike half half
IsLike-refl half = record {
  station = refl;
  activity = refl;
  registers = record { offered = refl; forced = refl; command_error = refl; enable_error = refl };
  words = MayHold-same half.activity half.words;
}

pub defined_serves : DefinedServes
defined_serves d half = record {
  takes = record {
    rested = half;
    rests = inl refl;
    half = IsLike-refl (served_datagram half d).half;
    answer = record { command = refl; index = refl; address = refl; length = refl; counter = refl; read = λ reads k inside. refl };
  };
  first = refl;
  second = refl;
  shows = λ reads at. refl;
}

-- WHAT A DATAGRAM KEEPS

-- What each taking keeps, any number of them keeps.
pub servings_keep : (d : Pdu) (P : SlaveHalf → Type 0) → ((mid later : SlaveHalf) (found : Pdu) → Serves d mid found later → P mid → P later)
    → (real later : SlaveHalf) → Servings d real later → P real → P later
servings_keep d P keeps real later none holds = holds
servings_keep d P keeps real later (more mid _ lost before serves) holds =
    keeps mid later lost serves (servings_keep d P keeps real mid before holds)

pub answered_keeps : (d : Pdu) (P : SlaveHalf → Type 0) → ((mid later : SlaveHalf) (found : Pdu) → Serves d mid found later → P mid → P later)
    → (real later : SlaveHalf) (found : Pdu) → Answered d real found later → P real → P later
answered_keeps d P keeps real later found answered holds =
    servings_keep d P keeps answered.after later answered.afterwards
    (keeps answered.mid answered.after found answered.reported (servings_keep d P keeps real answered.mid answered.before holds))

-- The station address stays.
serves_station : (d : Pdu) (mid later : SlaveHalf) (found : Pdu) → Serves d mid found later → later.station ≡ mid.station
serves_station d mid later found serves =
    serves.takes.half.station ∙ (Goes-served serves.takes.rested (command_of d.command) d.address d.content).station
    ∙ MayRest-station mid serves.takes.rested serves.takes.rests

servings_station : (d : Pdu) (real later : SlaveHalf) → Servings d real later → later.station ≡ real.station
servings_station d real later serves =
    servings_keep d (λ (h : SlaveHalf). h.station ≡ real.station) (λ mid end found one same. serves_station d mid end found one ∙ same) real later serves refl

answered_station : (d : Pdu) (real later : SlaveHalf) (found : Pdu) → Answered d real found later → later.station ≡ real.station
answered_station d real later found answered =
    answered_keeps d (λ (h : SlaveHalf). h.station ≡ real.station) (λ mid end lost one same. serves_station d mid end lost one ∙ same) real later found answered refl

pub lives_station : (log : List Exchanged) (real later : SlaveHalf) → Lives log real later → later.station ≡ real.station
lives_station [] real later (ends _) = refl
lives_station (call ∷ log) real later (answers _ _ found _ mid _ here is answered afterwards) =
    lives_station log mid later afterwards ∙ answered_station call.sent real mid found answered
lives_station (call ∷ log) real later (is_silent _ _ _ mid _ here is serves afterwards) =
    lives_station log mid later afterwards ∙ servings_station call.sent real mid serves
lives_station (call ∷ log) real later (of_another _ _ _ _ other afterwards) = lives_station log real later afterwards

-- WHAT IS SENT KEEPS

-- What each datagram keeps, all of them keep.
pub lives_keep : (log : List Exchanged) (P : SlaveHalf → Type 0) (Q : Exchanged → Type 0)
    → ((call : Exchanged) (mid later : SlaveHalf) (found : Pdu) → Q call → Serves call.sent mid found later → P mid → P later) → All Q log
    → (real later : SlaveHalf) → Lives log real later → P real → P later
lives_keep [] P Q keeps all real later (ends _) holds = holds
lives_keep (call ∷ log) P Q keeps all real later (answers _ _ found _ mid _ here is answered afterwards) holds =
    lives_keep log P Q keeps (All-tail Q call log all) mid later afterwards
    (answered_keeps call.sent P (λ a b lost. keeps call a b lost (All-head Q call log all)) real mid found answered holds)
lives_keep (call ∷ log) P Q keeps all real later (is_silent _ _ _ mid _ here is serves afterwards) holds =
    lives_keep log P Q keeps (All-tail Q call log all) mid later afterwards
    (servings_keep call.sent P (λ a b lost. keeps call a b lost (All-head Q call log all)) real mid serves holds)
lives_keep (call ∷ log) P Q keeps all real later (of_another _ _ _ _ other afterwards) holds =
    lives_keep log P Q keeps (All-tail Q call log all) real later afterwards holds

-- What goes to another station leaves a slave as it is.
pub lives_untouched : (log : List Exchanged) (station : ℕ) (real later : SlaveHalf) → All (λ call. station_of call.sent.address ≡ station) log
    → station ≢ real.station → Lives log real later → later ≡ real
lives_untouched [] station real later all other (ends _) = refl
lives_untouched (call ∷ log) station real later all other (answers _ _ found _ mid _ here is answered afterwards) =
    absurd (other (sym (All-head (λ (c : Exchanged). station_of c.sent.address ≡ station) call log all) ∙ here))
lives_untouched (call ∷ log) station real later all other (is_silent _ _ _ mid _ here is serves afterwards) =
    absurd (other (sym (All-head (λ (c : Exchanged). station_of c.sent.address ≡ station) call log all) ∙ here))
lives_untouched (call ∷ log) station real later all other (of_another _ _ _ _ not afterwards) =
    lives_untouched log station real later (All-tail (λ (c : Exchanged). station_of c.sent.address ≡ station) call log all) other afterwards

-- PARTS

-- a slave through two parts of what was sent
pub record Between (first second : List Exchanged) (real later : SlaveHalf) : Type 0 where
  pub mid : SlaveHalf
  pub before : Lives first real mid
  pub afterwards : Lives second mid later

pub lives_parts : (first second : List Exchanged) (real later : SlaveHalf) → Lives (first ++ second) real later → Between first second real later
lives_parts [] second real later lives = record { mid = real; before = ends real; afterwards = lives }
lives_parts (call ∷ first) second real later (answers _ _ found _ mid _ here is answered afterwards) =
    let rest = lives_parts first second mid later afterwards in
    record { mid = rest.mid; before = answers call first found real mid rest.mid here is answered rest.before; afterwards = rest.afterwards }
lives_parts (call ∷ first) second real later (is_silent _ _ _ mid _ here is serves afterwards) =
    let rest = lives_parts first second mid later afterwards in
    record { mid = rest.mid; before = is_silent call first real mid rest.mid here is serves rest.before; afterwards = rest.afterwards }
lives_parts (call ∷ first) second real later (of_another _ _ _ _ other afterwards) =
    let rest = lives_parts first second real later afterwards in
    record { mid = rest.mid; before = of_another call first real rest.mid other rest.before; afterwards = rest.afterwards }

-- One datagram to this station came back.
pub lives_once : (call : Exchanged) (found : Pdu) (real later : SlaveHalf) → station_of call.sent.address ≡ real.station → call.answer ≡ Some found
    → Lives (call ∷ []) real later → Answered call.sent real found later
lives_once call found real later here is (answers _ _ other _ mid _ to came answered (ends _)) =
    subst (λ (f : Pdu). Answered call.sent real f mid) (let same : Some other ≡ Some found = sym came ∙ is in cc) answered
lives_once call found real later here is (is_silent _ _ _ mid _ to none_came serves afterwards) = absurd (let same : None ≡ Some found = sym none_came ∙ is in cc)
lives_once call found real later here is (of_another _ _ _ _ other afterwards) = absurd (other here)

-- One datagram to this station didn't come back.
pub lives_silent : (call : Exchanged) (real later : SlaveHalf) → station_of call.sent.address ≡ real.station → call.answer ≡ None
    → Lives (call ∷ []) real later → Servings call.sent real later
lives_silent call real later here is (answers _ _ other _ mid _ to came answered (ends _)) = absurd (let same : Some other ≡ None = sym came ∙ is in cc)
lives_silent call real later here is (is_silent _ _ _ mid _ to none_came serves (ends _)) = serves
lives_silent call real later here is (of_another _ _ _ _ other afterwards) = absurd (other here)

-- A PART OF WHAT WAS SENT

-- A part of what was sent before; or all of that, and a part of what was sent later.
pub data Parts (first second part : List Exchanged) : Type 0 where
  early : IsSoFar first part → Parts first second part
  late : (later : List Exchanged) → part ≡ first ++ later → IsSoFar second later → Parts first second part

pub so_far_parts : (first second part : List Exchanged) → IsSoFar (first ++ second) part → Parts first second part
so_far_parts [] second part so_far = late part refl so_far
so_far_parts (call ∷ first) second _ (nothing _) = early (nothing (call ∷ first))
so_far_parts (call ∷ first) second _ (under_way _ _) = early (under_way call first)
so_far_parts (call ∷ first) second _ (and_more _ _ part so_far) = by (so_far_parts first second part so_far)
  where
    by : Parts first second part → Parts (call ∷ first) second (call ∷ part)
    by (early is) = early (and_more call first part is)
    by (late later same is) = late later (ap (λ (l : List Exchanged). call ∷ l) same) is

pub so_far_none : (part : List Exchanged) → IsSoFar [] part → part ≡ []
so_far_none _ (nothing _) = refl

-- what is so of each datagram, whatever came back of it
pub so_far_all : (Q : Exchanged → Type 0) → ((call : Exchanged) → Q call → Q (exchanged call.sent None)) → (all part : List Exchanged)
    → IsSoFar all part → All Q all → All Q part
so_far_all Q lost all _ (nothing _) holds = All-nil Q
so_far_all Q lost (call ∷ all) _ (under_way _ _) holds =
    All-cons Q (exchanged call.sent None) [] (lost call (All-head Q call all holds)) (All-nil Q)
so_far_all Q lost (call ∷ all) _ (and_more _ _ part so_far) holds =
    All-cons Q call part (All-head Q call all holds) (so_far_all Q lost all part so_far (All-tail Q call all holds))
