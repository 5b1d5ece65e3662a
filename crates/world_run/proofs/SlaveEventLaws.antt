-- Actions for a slave that begin and end, as events of a world.
use Rattle.std.proofs.Common.{◌≡◌, ◌∙◌, inl, inr, ℕ, suc, ◌<◌, Bool, true, false, List, [], ◌∷◌, length, Option, Some, None, slice_get, slice_index_or, refl, sym, ap, subst, arith}
use Rattle.esc_model.specs.SlaveHalf.{SlaveHalf, Activity, Idle, Reading, Writing, in_flight, MayRest, MayEnd, MayStop, IsTorn, settled, with_errors}
use Rattle.esc_model.specs.WordAccess.{IsIdle, IsWell}
use Rattle.esc_model.proofs.OnlyResting.{OnlyRests-same}
use Rattle.site_core.specs.declared.answers.Issued.TheVariants.{Taken, NotTaken, Lost}
use Rattle.site_core.specs.declared.answers.Settled.TheVariants.{Written, Again, Dead}
use Rattle.site_core.specs.Disk.{Disk}
use Rattle.site_core.specs.State.{EachMayStop, with_half}
use Rattle.book_model.specs.declared.next.RomNext.{RomNext}
use Rattle.book_model.specs.declared.next.RomNext.TheVariants as next
use Rattle.book_model.specs.declared.next.RomOutcome.{RomOutcome}
use Rattle.book_model.specs.declared.next.RomOutcome.TheVariants as outcomes
use Rattle.book_model.specs.Book.{Book, Operation, NoOperation, Issuing, Unsettled, Settling, slave_at}
use Rattle.book_model.specs.RomSteps.{rom_next, rom_done}
use Rattle.book_model.specs.Steps.{TakesOrNot, MayBegin, took_after, MayComeBack}
use Rattle.book_model.proofs.LineLaws.{half-there}
use Rattle.book_model.proofs.OutcomeLaws.{set-same}
use Rattle.world_law.specs.World as law
use Rattle.world_law.specs.World.{World, Reported}
use Rattle.world_law.specs.Happenings.{fault_reported, with_book}
use Rattle.world_run.specs.declared.half.WordEnd.{WordEnd}
use Rattle.world_run.specs.declared.half.WordEnd.TheVariants.{Well, Failed}
use Rattle.world_run.specs.declared.happenings.Event.TheVariants as events
use Rattle.world_run.specs.declared.happenings.Left.{Left}
use Rattle.world_run.specs.Left.{ended_half, torn_half, word_left, TornBy}
use Rattle.world_run.specs.Sides.{Sides, HandsTo, HandsWord, ComesToRest}
use Rattle.world_run.specs.Torn.{StopsAs}
use Rattle.world_run.specs.Progress.{asked_of}
use Rattle.world_run.specs.Returns.{MayReturn}
use Rattle.world_run.specs.Step.{Happened, happens, cannot, sides_of}
use Rattle.world_run.proofs.EventLaws.{some-one, stops-disk}

-- another book, and other halves and marks
abbrev pub with_sides : World → Book → Sides → World
with_sides world book sides = record { book = Some book; state = record world.state { halves = sides.halves }; took = sides.took }

-- ---- something begins

takes-or-not : (slave : ℕ) (takes : Bool) (word value : ℕ) (half : SlaveHalf) (taken : Bool) (later : SlaveHalf) → HandsTo slave takes word value half taken later → TakesOrNot taken slave word value half later
takes-or-not slave takes word value half true later hands = (hands.only refl).1
takes-or-not slave takes word value half false later hands = inl (hands.stays refl)

pub issues-word : (world : World) (book later : Book) (slave : ℕ) (takes : Bool) (word value : ℕ) (sides : Sides) → world.book ≡ Some book → (rom_next book slave).0 ≡ next.Issue word value
    → later ≡ (rom_next book slave).1 → HandsWord slave takes word value (sides_of world) sides → Happened (events.RomIssue slave takes) world (with_sides world later sides)
issues-word world book later slave takes word value sides up answer goes hands =
    happens law.Nothing (
      book,
      up,
      (
        refl,
        record {
          half = hands.half;
          here = hands.here;
          taken = hands.taken;
          after = hands.later;
          may = subst (λ (n : RomNext). MayBegin n slave hands.taken hands.half hands.later) (sym answer) (takes-or-not slave takes word value hands.half hands.taken hands.later hands.hands);
          is = ap (λ (b : Book). with_sides world b sides) goes ∙ ap (with_sides world (rom_next book slave).1) hands.is
              ∙ ap (λ (n : RomNext). record { book = Some (rom_next book slave).1; state = with_half world.state slave hands.later; took = took_after n world.took slave hands.taken }) (sym answer);
        },
      ),
    ) chosen
  where
    chosen : (other : Book) (w v : ℕ) → world.book ≡ Some other → (rom_next other slave).0 ≡ next.Issue w v → HandsWord slave takes w v (sides_of world) (sides_of (with_sides world later sides))
    chosen other w v there is =
        let one : book ≡ other = some-one book other world.book up there in
        let both : next.Issue word value ≡ next.Issue w v = sym answer ∙ ap (λ (b : Book). (rom_next b slave).0) one ∙ is in
        let ew : word ≡ w = cc in
        let ev : value ≡ v = cc in
        subst (λ (x : ℕ). HandsWord slave takes x v (sides_of world) sides) ew (subst (λ (y : ℕ). HandsWord slave takes word y (sides_of world) sides) ev hands)

abbrev pub IsQuiet : RomNext → Type 0
IsQuiet (next.Issue word value) = ⊥
IsQuiet (next.Settle taken) = Unit {0}
IsQuiet next.Idle = Unit {0}
IsQuiet next.Stop = Unit {0}

quiet-begins : (answer : RomNext) (slave : ℕ) (half : SlaveHalf) → IsQuiet answer → MayBegin answer slave false half half
quiet-begins (next.Issue word value) slave half quiet = absurd quiet
quiet-begins (next.Settle taken) slave half quiet = refl
quiet-begins next.Idle slave half quiet = refl
quiet-begins next.Stop slave half quiet = refl

quiet-took : (answer : RomNext) (took : List Bool) (slave : ℕ) → IsQuiet answer → took_after answer took slave false ≡ took
quiet-took (next.Issue word value) took slave quiet = absurd quiet
quiet-took (next.Settle taken) took slave quiet = refl
quiet-took next.Idle took slave quiet = refl
quiet-took next.Stop took slave quiet = refl

-- the world with a half put in its own place
same-half : (world : World) (book : Book) (slave : ℕ) (half : SlaveHalf) (took : List Bool) → slice_get world.state.halves slave ≡ Some half → took ≡ world.took
    → record { book = Some book; state = with_half world.state slave half; took = took } ≡ with_book world book
same-half world book slave half took here same =
    ap (λ (halves : List SlaveHalf). record { book = Some book; state = record world.state { halves = halves }; took = took }) (set-same world.state.halves slave half here)
    ∙ ap (λ (t : List Bool). record { book = Some book; state = world.state; took = t }) same

pub issues-nothing : (world : World) (book later : Book) (slave : ℕ) (takes : Bool) (answer : RomNext) → world.book ≡ Some book → slave < length world.state.halves → answer ≡ (rom_next book slave).0 → IsQuiet answer
    → later ≡ (rom_next book slave).1 → Happened (events.RomIssue slave takes) world (with_book world later)
issues-nothing world book later slave takes answer up inside is quiet goes =
    let there = half-there world.state.halves slave inside in
    let quiet_there : IsQuiet (rom_next book slave).0 = subst IsQuiet is quiet in
    happens law.Nothing (
      book,
      up,
      (
        refl,
        record {
          half = there.0;
          here = there.1;
          taken = false;
          after = there.0;
          may = quiet-begins (rom_next book slave).0 slave there.0 quiet_there;
          is = ap (with_book world) goes ∙ sym (same-half world (rom_next book slave).1 slave there.0 (took_after (rom_next book slave).0 world.took slave false) there.1 (quiet-took (rom_next book slave).0 world.took slave quiet_there));
        },
      ),
    ) chosen
  where
    chosen : (other : Book) (w v : ℕ) → world.book ≡ Some other → (rom_next other slave).0 ≡ next.Issue w v → HandsWord slave takes w v (sides_of world) (sides_of (with_book world later))
    chosen other w v up_other answers =
        let one : book ≡ other = some-one book other world.book up up_other in
        absurd (subst IsQuiet (is ∙ ap (λ (b : Book). (rom_next b slave).0) one ∙ answers) quiet)

-- ---- an action for a slave ends

same-one : (halves : List SlaveHalf) (slave : ℕ) (a b : SlaveHalf) → slice_get halves slave ≡ Some a → slice_get halves slave ≡ Some b → a ≡ b
same-one halves slave a b here there = let both : Some a ≡ Some b = sym here ∙ there in cc

module _ (slave : ℕ) (sides : Sides) (half : SlaveHalf) (here : slice_get sides.halves slave ≡ Some half) where
  may-back : (operation : Operation) (outcome : RomOutcome) → MayReturn (asked_of operation) outcome slave sides → MayComeBack (slice_index_or sides.took slave false) operation outcome half half
  may-back NoOperation outcome may = absurd may
  may-back (Unsettled word value taken) outcome may = absurd may
  may-back (Issuing word value) (outcomes.Issued Taken) may = (may, refl)
  may-back (Issuing word value) (outcomes.Issued NotTaken) may = (may, refl)
  may-back (Issuing word value) (outcomes.Issued Lost) may = refl
  may-back (Issuing word value) (outcomes.Settled how) may = absurd may
  may-back (Issuing word value) outcomes.Stopped may = OnlyRests-same half
  may-back (Settling word value taken) (outcomes.Issued how) may = absurd may
  may-back (Settling word value taken) (outcomes.Settled Written) may = (may.0, subst IsWell (same-one sides.halves slave may.1.half half may.1.here here) may.1.well, refl)
  may-back (Settling word value taken) (outcomes.Settled Again) may = (subst IsIdle (same-one sides.halves slave may.half half may.here here) may.idle, OnlyRests-same half)
  may-back (Settling word value taken) (outcomes.Settled Dead) may = OnlyRests-same half
  may-back (Settling word value taken) outcomes.Stopped may = OnlyRests-same half

  back-may : (operation : Operation) (outcome : RomOutcome) (later : SlaveHalf) → MayComeBack (slice_index_or sides.took slave false) operation outcome half later → MayReturn (asked_of operation) outcome slave sides
  back-may NoOperation outcome later may = absurd may
  back-may (Unsettled word value taken) outcome later may = absurd may
  back-may (Issuing word value) (outcomes.Issued Taken) later may = may.0
  back-may (Issuing word value) (outcomes.Issued NotTaken) later may = may.0
  back-may (Issuing word value) (outcomes.Issued Lost) later may = tt
  back-may (Issuing word value) (outcomes.Settled how) later may = absurd may
  back-may (Issuing word value) outcomes.Stopped later may = tt
  back-may (Settling word value taken) (outcomes.Issued how) later may = absurd may
  back-may (Settling word value taken) (outcomes.Settled Written) later may = (may.0, record { half = half; here = here; well = may.1 })
  back-may (Settling word value taken) (outcomes.Settled Again) later may = record { half = half; here = here; idle = may.0 }
  back-may (Settling word value taken) (outcomes.Settled Dead) later may = tt
  back-may (Settling word value taken) outcomes.Stopped later may = tt

pub comes-back : (world : World) (book later : Book) (slave : ℕ) (outcome : RomOutcome) → world.book ≡ Some book → slave < length world.state.halves
    → MayReturn (asked_of (slave_at book slave).operation) outcome slave (sides_of world) → later ≡ rom_done book slave outcome → Happened (events.RomDone slave outcome) world (with_book world later)
comes-back world book later slave outcome up inside may goes =
    let there = half-there world.state.halves slave inside in
    happens (fault_reported (rom_done book slave outcome)) (
      book,
      up,
      (
        refl,
        record {
          half = there.0;
          here = there.1;
          after = there.0;
          may = may-back slave (sides_of world) there.0 there.1 (slave_at book slave).operation outcome may;
          is = ap (with_book world) goes ∙ sym (same-half world (rom_done book slave outcome) slave there.0 world.took there.1 refl);
        },
      ),
    ) refl

pub never-back : (world : World) (book : Book) (slave : ℕ) (outcome : RomOutcome) → world.book ≡ Some book
    → ¬ MayReturn (asked_of (slave_at book slave).operation) outcome slave (sides_of world) → Happened (events.RomDone slave outcome) world world
never-back world book slave outcome up not = cannot (λ reported later h.
    let r = h.2.1 in
    not (subst (λ (b : Book). MayReturn (asked_of (slave_at b slave).operation) outcome slave (sides_of world)) (some-one h.0 book world.book h.1 up)
    (back-may slave (sides_of world) r.half r.here (slave_at h.0 slave).operation outcome r.after r.may))) refl

-- ---- a slave comes to rest

ended-rests : (end : WordEnd) (activity : Activity) (half : SlaveHalf) → half.activity ≡ activity → MayRest half (ended_half end (in_flight activity) half)
ended-rests Well Idle half is = inl refl
ended-rests (Failed left) Idle half is = inl refl
ended-rests Well Reading half is = inl refl
ended-rests (Failed left) Reading half is = inl refl
ended-rests Well (Writing word value) half is = inr (subst (λ (a : Activity). MayEnd a half (with_errors (settled half word value) false false)) (sym is) (inl refl))
ended-rests (Failed left) (Writing word value) half is =
    inr (subst (λ (a : Activity). MayEnd a half (with_errors (settled half word left) true half.registers.enable_error)) (sym is) (inr (record { left = left; ends = record { error = refl; rested_is = refl } })))

pub comes-to-rest : (world : World) (slave : ℕ) (end : WordEnd) (sides : Sides) → ComesToRest slave end (sides_of world) sides
    → Happened (events.RomResolve slave end) world (record { book = world.book; state = record world.state { halves = sides.halves }; took = sides.took })
comes-to-rest world slave end sides rests =
    happens law.Nothing (
      refl,
      record {
        half = rests.half;
        here = rests.here;
        later = ended_half end (in_flight rests.half.activity) rests.half;
        new_is = ap (λ (s : Sides). record world.state { halves = s.halves }) rests.is;
        goes = ended-rests end rests.half.activity rests.half refl;
      },
      ap (λ (t : List Bool). record { book = world.book; state = record world.state { halves = sides.halves }; took = t }) (ap (λ (s : Sides). s.took) rests.is),
    ) rests

-- ---- a stop

torn-stops : (left : Option ℕ) (activity : Activity) (half : SlaveHalf) → half.activity ≡ activity → MayStop half (torn_half left (in_flight activity) half)
torn-stops None activity half is = inl refl
torn-stops (Some left) Idle half is = inl refl
torn-stops (Some left) Reading half is = inl refl
torn-stops (Some left) (Writing word value) half is = inr (subst (λ (a : Activity). IsTorn a half (settled half word left)) (sym is) (left, refl))

each-stops : (halves laters : List SlaveHalf) → length laters ≡ length halves
    → ((k : ℕ) (half : SlaveHalf) → slice_get halves k ≡ Some half → (later : SlaveHalf) × (slice_get laters k ≡ Some later) × MayStop half later) → EachMayStop halves laters
each-stops [] [] same each = tt
each-stops [] (l ∷ ls) same each = absurd (omega arith)
each-stops (h ∷ hs) [] same each = absurd (omega arith)
each-stops (h ∷ hs) (l ∷ ls) same each =
    let first = each 0 h refl in
    let e : l ≡ first.0 = (let both : Some l ≡ Some first.0 = first.1 in cc) in
    (subst (MayStop h) (sym e) first.2, each-stops hs ls (omega arith) (λ k half here. each (suc k) half here))

pub stops : (world : World) (left : Left) (disk : Disk) (sides : Sides) → StopsAs left.bytes.items world.state.disk disk → TornBy left.words.items world.state.halves sides.halves → sides.took ≡ world.took
    → Happened (events.Stop left) world (record { book = None; state = record { disk = disk; halves = sides.halves }; took = sides.took })
stops world left disk sides on_disk torn same =
    happens law.Nothing (
      refl,
      record {
        disk = stops-disk left.bytes.items world.state.disk disk on_disk;
        halves = each-stops world.state.halves sides.halves torn.count (λ k half here. (torn_half (word_left left.words.items k) (in_flight half.activity) half, torn.each k half here, torn-stops (word_left left.words.items k) half.activity half refl));
      },
      ap (λ (t : List Bool). record { book = None; state = record { disk = disk; halves = sides.halves }; took = t }) same,
    ) (on_disk, torn)
