-- OldFits stays true when an action on an old journal begins.
use Rattle.std.proofs.Common.{◌≡◌, ◌≢◌, ℕ, zero, suc, ◌+◌, ◌≤◌, Bool, true, false, List, [], ◌∷◌, ◌++◌, length, take, refl, sym, ◌∙◌, ap, subst, arith, append_assoc, Option, Some, None}
use Rattle.std.specs.Prelude.{not, is_some, if◌then◌else◌}
use Rattle.std.proofs.lemmas.List.{append-nil}
use Rattle.jrn_format.specs.declared.journal.Batch.{Batch}
use Rattle.jrn_format.specs.declared.journal.Form.{Form}
use Rattle.jrn_format.specs.declared.journal.Form.TheVariants.{One, Two, Moving}
use Rattle.jrn_format.specs.declared.journal.Spelling.TheVariants.{Plain}
use Rattle.jrn_format.specs.Batch.{spelt_after}
use Rattle.jrn_format.specs.Area.{spelt_batches, IsLive}
use Rattle.jrn_format.specs.Halves.{Halves, live}
use Rattle.site_core.specs.Disk.{Disk, write_begun}
use Rattle.book_model.specs.Cells.{is_any}
use Rattle.book_model.specs.declared.next.DiskNext.{DiskNext}
use Rattle.book_model.specs.declared.next.DiskNext.TheVariants as next
use Rattle.book_model.specs.Entries.{live_runs}
use Rattle.book_model.specs.Book.{Book, Doing, Resting, Payload, PayloadSync, OpenGate, OpenSync, CloseGate, CloseSync, FarGate, Mark, MarkSync, Version, VersionSync, is_version_2, queued, half_at, all_cells}
use Rattle.book_model.specs.DiskSteps.{action_of, begun, doing_next, disk_next}
use Rattle.book_model.specs.Reading.{runs_settled}
use Rattle.book_model.specs.Frame.{JournalFrame, room, IsJournalFrame}
use Rattle.book_model.specs.Doing.{Retiring}
use Rattle.book_model.specs.Events.{begun_on}
use Rattle.book_model.proofs.BeginLaws.{BegunAs, appends, retires, migrates, rests, begun-as}
use Rattle.book_model.specs.OldFile.{IsVersioned, after, area, mark_bytes, IsEmptied, OldAtRest, OldClosing, BeforeVersion}
use Rattle.book_model.specs.OldDoing.{undivided, OldDoingFits, OldFits}
use Rattle.book_model.specs.OldQueue.{OldCanBegin}
use Rattle.book_model.proofs.RangeLaws.{torn-begun, torn-none}
use Rattle.book_model.proofs.OldCarryLaws.{OldCarries, old-goes}
use Rattle.book_model.proofs.NextLaws.{nothing-begun}
use Rattle.book_model.proofs.SettledLaws.{and-right, and-left}

-- ---- where the gates are

pub first-gate : (book : Book) → book.halves ≡ undivided book.halves.older → half_at book book.halves.at ≡ 8
first-gate book one = ap (λ (h : Halves). half_at book h.at) one ∙ omega arith

pub far-gate : (frame : JournalFrame) (book : Book) → book.capacity ≡ frame.capacity → half_at book 1 ≡ 8 + room frame
far-gate frame book same = rw same (omega arith)

-- ---- the bytes that will be written

cut : (l : List ℕ) → 1 ≤ length l → (first : ℕ) × (rest : List ℕ) × (l ≡ first ∷ rest)
cut [] long = absurd (omega arith)
cut (x ∷ l) long = (x, l, refl)

record MarkIn (l : List ℕ) : Type 0 where
  pub gate : ℕ
  pub mark : List ℕ
  pub rest : List ℕ
  pub four : length mark ≡ 4
  pub is : l ≡ gate ∷ (mark ++ rest)

mark_in : (l : List ℕ) → 5 ≤ length l → MarkIn l
mark_in [] long = absurd (omega arith)
mark_in (g ∷ []) long = absurd (omega arith)
mark_in (g ∷ a ∷ []) long = absurd (omega arith)
mark_in (g ∷ a ∷ b ∷ []) long = absurd (omega arith)
mark_in (g ∷ a ∷ b ∷ c ∷ []) long = absurd (omega arith)
mark_in (g ∷ a ∷ b ∷ c ∷ d ∷ l) long = record { gate = g; mark = a ∷ b ∷ c ∷ d ∷ []; rest = l; four = refl; is = refl }

first-taken : (n x y : ℕ) (xs ys : List ℕ) → 1 ≤ n → take n (x ∷ xs) ≡ y ∷ ys → x ≡ y
first-taken zero x y xs ys some is = absurd (omega arith)
first-taken (suc n) x y xs ys some is = cc

-- the first byte of the area is that of the first half
area-first : (frame : JournalFrame) (gate y : ℕ) (rest second ys : List ℕ) → IsJournalFrame frame → area frame (gate ∷ rest) second ≡ y ∷ ys → gate ≡ y
area-first frame gate y rest second ys is_frame is =
    let most = is_frame.is_capacity in
    first-taken frame.capacity gate y ((rest ++ second) ++ frame.last) ys (omega (arith, most)) is

-- ---- a retire

opened : (area : List ℕ) (batches : List Batch) → batches ≢ [] → IsLive Plain 0 area batches → (rest : List ℕ) × (area ≡ 0xA5 ∷ rest)
opened area [] some lives = absurd (some refl)
opened area (b ∷ batches) some lives = ((spelt_after Plain b.generation b.entries ++ spelt_batches Plain batches) ++ lives.rest, lives.starts.spelt)

close-of : (frame : JournalFrame) (batches : List Batch) (disk : Disk) → IsJournalFrame frame → batches ≢ [] → OldAtRest frame One batches disk → OldClosing frame batches 0xA5 disk
close-of frame batches disk is_frame some r =
    let most = is_frame.is_capacity in
    let f = cut r.first (omega (arith, r.versioned.room, most)) in
    let o = opened (area frame r.first r.second) batches some r.live in
    let gate : f.0 ≡ 0xA5 = area-first frame f.0 0xA5 f.1 r.second o.0 is_frame (ap (λ (l : List ℕ). area frame l r.second) (sym f.2) ∙ o.1) in
    let first : r.first ≡ 0xA5 ∷ f.1 = f.2 ∙ ap (λ (g : ℕ). g ∷ f.1) gate in
    let version : r.version ≡ 1 = r.is_form in
    record {
      rest = f.1;
      second = r.second;
      versioned = subst (λ (l : List ℕ). IsVersioned frame 1 l r.second disk.bytes) first (subst (λ (n : ℕ). IsVersioned frame n r.first r.second disk.bytes) version r.versioned);
      live = subst (λ (l : List ℕ). IsLive Plain 0 (area frame l r.second) batches) first r.live;
      torn = torn-none 8 1 disk r.synced r.entire;
    }

close-again : (frame : JournalFrame) (batches : List Batch) (gate : ℕ) (disk : Disk) → OldClosing frame batches gate disk → OldClosing frame batches gate (write_begun disk 8 1)
close-again frame batches gate disk c = record { rest = c.rest; second = c.second; versioned = c.versioned; live = c.live; torn = torn-begun 8 1 8 1 disk c.torn (omega arith) (omega arith) }

-- ---- a migration

-- what is still open in a file in which nothing is live: the mark and the far gate
record IsKnown (frame : JournalFrame) (form : Form) (disk : Disk) : Type 0 where
  pub mark : List ℕ
  pub far : ℕ
  pub before : BeforeVersion frame form mark far disk

same-mark : (gate one two three four y : ℕ) (rest tail : List ℕ) → gate ∷ one ∷ two ∷ three ∷ four ∷ rest ≡ y ∷ 0x4d ∷ 0x49 ∷ 0x47 ∷ 0x32 ∷ tail → (gate ≡ y) × (one ∷ two ∷ three ∷ four ∷ [] ≡ mark_bytes)
same-mark gate one two three four y rest tail is = (cc, cc)

marked-four : (mark : List ℕ) (gate y : ℕ) (rest tail : List ℕ) → length mark ≡ 4 → gate ∷ (mark ++ rest) ≡ y ∷ (mark_bytes ++ tail) → (gate ≡ y) × (mark ≡ mark_bytes)
marked-four [] gate y rest tail long is = absurd (omega arith)
marked-four (a ∷ []) gate y rest tail long is = absurd (omega arith)
marked-four (a ∷ b ∷ []) gate y rest tail long is = absurd (omega arith)
marked-four (a ∷ b ∷ c ∷ []) gate y rest tail long is = absurd (omega arith)
marked-four (a ∷ b ∷ c ∷ d ∷ []) gate y rest tail long is = same-mark gate a b c d y rest tail is
marked-four (a ∷ b ∷ c ∷ d ∷ e ∷ mark) gate y rest tail long is = absurd (omega arith)

known : (frame : JournalFrame) (form : Form) (disk : Disk) → IsJournalFrame frame → is_version_2 form ≡ false → OldAtRest frame form [] disk → IsKnown frame form disk
known frame One disk is_frame old r =
    let most = is_frame.is_capacity in
    let m = mark_in r.first (omega (arith, r.versioned.room, most)) in
    let s = cut r.second (omega (arith, r.versioned.room, r.versioned.file.equal, most)) in
    let closes = r.live.ends in
    let starts : area frame r.first r.second ≡ closes.0 ∷ closes.1 = r.live.starts.spelt ∙ closes.3 in
    let gate : m.gate ≡ closes.0 = area-first frame m.gate closes.0 (m.mark ++ m.rest) r.second closes.1 is_frame (ap (λ (l : List ℕ). area frame l r.second) (sym m.is) ∙ starts) in
    let version : r.version ≡ 1 = r.is_form in
    let e : IsEmptied frame 1 m.mark s.0 disk.bytes = record {
      gate = m.gate;
      first = m.rest;
      second = s.1;
      closed = subst (λ (g : ℕ). g ≢ 0xA5) (sym gate) closes.2;
      four = m.four;
      versioned = subst (λ (n : ℕ). IsVersioned frame n (m.gate ∷ (m.mark ++ m.rest)) (s.0 ∷ s.1) disk.bytes) version
          (subst (λ (l : List ℕ). IsVersioned frame r.version (m.gate ∷ (m.mark ++ m.rest)) l disk.bytes) s.2 (subst (λ (l : List ℕ). IsVersioned frame r.version l r.second disk.bytes) m.is r.versioned));
    } in
    record { mark = m.mark; far = s.0; before = (e, torn-none 9 (room frame) disk r.synced r.entire) }
known frame Two disk is_frame old r = absurd cc
known frame Moving disk is_frame old r =
    let most = is_frame.is_capacity in
    let m = mark_in r.first (omega (arith, r.versioned.room, most)) in
    let s = cut r.second (omega (arith, r.versioned.room, r.versioned.file.equal, most)) in
    let marked = r.is_form.2 in
    let starts : m.gate ∷ (m.mark ++ ((m.rest ++ r.second) ++ frame.last)) ≡ marked.0 ∷ (mark_bytes ++ marked.1) =
    flat m.gate m.mark m.rest r.second frame.last ∙ ap (λ (l : List ℕ). after frame l r.second) (sym m.is) ∙ marked.3 in
    let both = marked-four m.mark m.gate marked.0 ((m.rest ++ r.second) ++ frame.last) marked.1 m.four starts in
    let e : IsEmptied frame r.version m.mark s.0 disk.bytes = record {
      gate = m.gate;
      first = m.rest;
      second = s.1;
      closed = subst (λ (g : ℕ). g ≢ 0xA5) (sym both.0) marked.2;
      four = m.four;
      versioned = subst (λ (l : List ℕ). IsVersioned frame r.version (m.gate ∷ (m.mark ++ m.rest)) l disk.bytes) s.2 (subst (λ (l : List ℕ). IsVersioned frame r.version l r.second disk.bytes) m.is r.versioned);
    } in
    record { mark = m.mark; far = s.0; before = (r.version, r.is_form.0, r.is_form.1, both.1, e, torn-none (8 + room frame) 1 disk r.synced r.entire) }
  where
    flat : (gate : ℕ) (mark rest second last : List ℕ) → gate ∷ (mark ++ ((rest ++ second) ++ last)) ≡ ((gate ∷ (mark ++ rest)) ++ second) ++ last
    flat gate mark rest second last = simp append_assoc refl

far-again : (frame : JournalFrame) (form : Form) (mark : List ℕ) (far : ℕ) (disk : Disk) → BeforeVersion frame form mark far disk → BeforeVersion frame form mark far (write_begun disk (8 + room frame) 1)
far-again frame One mark far disk b = (b.0, torn-begun 9 (room frame) (8 + room frame) 1 disk b.1 (omega (arith, long b.0)) (omega arith))
  where
    long : IsEmptied frame 1 mark far disk.bytes → 1 ≤ room frame
    long e = omega (arith, e.versioned.room)
far-again frame Two mark far disk b = b
far-again frame Moving mark far disk b = (b.0, b.1, b.2, b.3, b.4, torn-begun (8 + room frame) 1 (8 + room frame) 1 disk b.5 (omega arith) (omega arith))

-- ---- whatever is begun

abbrev pub Handed : JournalFrame → Book → Disk → Doing → Type 0
Handed frame book disk doing = OldDoingFits frame book doing (begun_on (action_of book doing) disk)

goes-on : (frame : JournalFrame) (book : Book) (disk : Disk) → IsJournalFrame frame → book.capacity ≡ frame.capacity → book.halves ≡ undivided book.halves.older → (doing : Doing) → doing ≢ Resting → OldDoingFits frame book doing disk → Handed frame book disk doing
goes-on frame book disk is_frame same one Resting other f = absurd (other refl)
goes-on frame book disk is_frame same one (Payload place entries) other f = absurd f
goes-on frame book disk is_frame same one (PayloadSync place entries) other f = absurd f
goes-on frame book disk is_frame same one (OpenGate place entries) other f = absurd f
goes-on frame book disk is_frame same one (OpenSync place entries) other f = absurd f
goes-on frame book disk is_frame same one CloseGate other f =
    (f.0, f.1, (f.2.0, subst (λ (n : ℕ). OldClosing frame book.halves.older f.2.0 (write_begun disk n 1)) (sym (first-gate book one)) (close-again frame book.halves.older f.2.0 disk f.2.1)))
goes-on frame book disk is_frame same one CloseSync other f = f
goes-on frame book disk is_frame same one FarGate other f =
    (f.0, (f.1.0, f.1.1, subst (λ (n : ℕ). BeforeVersion frame book.form f.1.0 f.1.1 (write_begun disk n 1)) (sym (far-gate frame book same)) (far-again frame book.form f.1.0 f.1.1 disk f.1.2)))
goes-on frame book disk is_frame same one Mark other f =
    (f.0, f.1, (f.2.0, mark-again book.form f.1 f.2.1))
  where
    mark-again : (form : Form) → form ≡ One → BeforeVersion frame form f.2.0 0 disk → BeforeVersion frame form f.2.0 0 (write_begun disk 9 4)
    mark-again One is b = let most = is_frame.is_capacity in (b.0, torn-begun 9 (room frame) 9 4 disk b.1 (omega arith) (omega (arith, most)))
    mark-again Two is b = b
    mark-again Moving is b = absurd cc
goes-on frame book disk is_frame same one MarkSync other f = f
goes-on frame book disk is_frame same one Version other f = (f.0, (f.1.0, record { emptied = f.1.1.emptied; torn = torn-begun 1 1 1 1 disk f.1.1.torn (omega arith) (omega arith) }))
goes-on frame book disk is_frame same one VersionSync other f = f

pub none-any : (batches : List Batch) → not (is_any batches) ≡ true → batches ≡ []
none-any [] is = refl
none-any (b ∷ batches) is = absurd cc

some-any : (batches : List Batch) → is_any batches ≡ true → batches ≢ []
some-any [] is none = absurd cc
some-any (b ∷ batches) is none = absurd cc

close-in : (frame : JournalFrame) (book : Book) (disk : Disk) → IsJournalFrame frame → is_version_2 book.form ≡ false → Retiring book → (form : Form) → book.form ≡ form → OldAtRest frame form book.halves.older disk → OldDoingFits frame book CloseGate disk
close-in frame book disk is_frame old settles One is r = (is, settles, (0xA5, close-of frame book.halves.older disk is_frame settles.some r))
close-in frame book disk is_frame old settles Two is r = let no = ap is_version_2 is in absurd cc
close-in frame book disk is_frame old settles Moving is r = absurd (settles.some r.live)

begins : (frame : JournalFrame) (book : Book) (disk : Disk) → OldCanBegin frame book → OldFits frame book disk → OldAtRest frame book.form book.halves.older disk → (doing : Doing) → BegunAs book doing → Handed frame book disk doing
begins frame book disk can fits rest doing (appends place some is so) = let none : is_any (queued book) ≡ false = ap is_any can.none in absurd cc
begins frame book disk can fits rest doing (rests so) = subst (Handed frame book disk) (sym so) rest
begins frame book disk can fits rest doing (retires may so) =
    let tests = runs_settled (all_cells book.slaves) (live_runs book.halves.newer) (live_runs book.halves.older) in
    let older : live book.halves ≡ book.halves.older = ap live fits.halves ∙ append-nil book.halves.older in
    let some : book.halves.older ≢ [] = some-any book.halves.older (ap is_any (sym older) ∙ and-left (is_any (live book.halves)) tests may) in
    let settles : Retiring book = record { settled = can.tested (and-right (is_any (live book.halves)) tests may); some = some } in
    subst (Handed frame book disk) (sym so)
    (goes-on frame book disk can.is_frame can.capacity fits.halves CloseGate (λ e. absurd cc) (close-in frame book disk can.is_frame fits.old settles book.form refl rest))
begins frame book disk can fits rest doing (migrates may so) =
    let older : live book.halves ≡ book.halves.older = ap live fits.halves ∙ append-nil book.halves.older in
    let none : book.halves.older ≡ [] = sym older ∙ none-any (live book.halves) (and-right book.is_migrating (not (is_any (live book.halves))) may) in
    let k = known frame book.form disk can.is_frame fits.old (subst (λ (l : List Batch). OldAtRest frame book.form l disk) none rest) in
    subst (Handed frame book disk) (sym so) (goes-on frame book disk can.is_frame can.capacity fits.halves FarGate (λ e. absurd cc) (none, (k.mark, k.far, k.before)))

next-doing : (frame : JournalFrame) (book : Book) (disk : Disk) → OldCanBegin frame book → OldFits frame book disk → (doing : Doing) → OldDoingFits frame book doing disk → Handed frame book disk (doing_next book doing)
next-doing frame book disk can fits Resting f = begins frame book disk can fits f (begun book) (begun-as book)
next-doing frame book disk can fits (Payload place entries) f = absurd f
next-doing frame book disk can fits (PayloadSync place entries) f = absurd f
next-doing frame book disk can fits (OpenGate place entries) f = absurd f
next-doing frame book disk can fits (OpenSync place entries) f = absurd f
next-doing frame book disk can fits CloseGate f = goes-on frame book disk can.is_frame can.capacity fits.halves CloseGate (λ e. absurd cc) f
next-doing frame book disk can fits CloseSync f = f
next-doing frame book disk can fits FarGate f = goes-on frame book disk can.is_frame can.capacity fits.halves FarGate (λ e. absurd cc) f
next-doing frame book disk can fits Mark f = goes-on frame book disk can.is_frame can.capacity fits.halves Mark (λ e. absurd cc) f
next-doing frame book disk can fits MarkSync f = f
next-doing frame book disk can fits Version f = goes-on frame book disk can.is_frame can.capacity fits.halves Version (λ e. absurd cc) f
next-doing frame book disk can fits VersionSync f = f

-- ---- what is handed out

abbrev Begun : JournalFrame → Disk → DiskNext × Book → Type 0
Begun frame disk answer = OldFits frame answer.1 (begun_on (Some answer.0) disk)

handed : (frame : JournalFrame) (book : Book) (disk : Disk) (action : Option DiskNext) → OldFits frame book disk → book.is_handed_out ≡ false → is_some book.fault ≡ false → action_of book (doing_next book book.doing) ≡ action
    → Handed frame book disk (doing_next book book.doing) → Begun frame disk (disk_next book)
handed frame book disk None fits out ok is done =
    let e : disk_next book ≡ (if book.is_finished then next.Stop else next.Idle, book) = rw (out, ok, is) refl in
    subst (Begun frame disk) (sym e) (subst (OldFits frame book) (sym (nothing-begun book.is_finished disk)) fits)
handed frame book disk (Some action) fits out ok is done =
    let doing = doing_next book book.doing in
    let later : Book = record book { doing = doing; is_handed_out = true } in
    let e : disk_next book ≡ (action, later) = rw (out, ok, is) refl in
    let carries : OldCarries book later = record { form = refl; halves = refl; retires = λ r. r } in
    subst (Begun frame disk) (sym e)
    (old-goes frame book later disk (begun_on (Some action) disk) carries fits doing refl (subst (λ (a : Option DiskNext). OldDoingFits frame book doing (begun_on a disk)) is done))

by-fault : (frame : JournalFrame) (book : Book) (disk : Disk) (failed : Bool) → OldCanBegin frame book → OldFits frame book disk → book.is_handed_out ≡ false → is_some book.fault ≡ failed → Begun frame disk (disk_next book)
by-fault frame book disk true can fits out ok = let e : disk_next book ≡ (next.Stop, book) = rw (out, ok) refl in subst (Begun frame disk) (sym e) fits
by-fault frame book disk false can fits out ok = handed frame book disk (action_of book (doing_next book book.doing)) fits out ok refl (next-doing frame book disk can fits book.doing fits.holds)

by-out : (frame : JournalFrame) (book : Book) (disk : Disk) (out : Bool) → OldCanBegin frame book → OldFits frame book disk → book.is_handed_out ≡ out → Begun frame disk (disk_next book)
by-out frame book disk true can fits out = let e : disk_next book ≡ (next.Idle, book) = rw out refl in subst (Begun frame disk) (sym e) fits
by-out frame book disk false can fits out = by-fault frame book disk (is_some book.fault) can fits out refl

pub old-begins : (frame : JournalFrame) (book : Book) (disk : Disk) → OldCanBegin frame book → OldFits frame book disk → OldFits frame (disk_next book).1 (begun_on (Some (disk_next book).0) disk)
old-begins frame book disk can fits = by-out frame book disk book.is_handed_out can fits refl
