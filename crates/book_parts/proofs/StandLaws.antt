-- The ledger's invariant holds again as commands are accepted, and as their entries are appended and become durable.
use Rattle.std.proofs.Common.{◌≡◌, ◌∙◌, ℕ, ◌+◌, ◌*◌, ◌^◌, ◌<◌, ◌≤◌, List, [], ◌∷◌, ◌++◌, length, take, drop, refl, sym, ap, subst, arith, zero-add, length-append, length-drop}
use Rattle.std.specs.Prelude.{All, IsOk}
use Rattle.std.proofs.lemmas.List.{take-append-le, drop-append-le, take_all, drop_all}
use Rattle.std.proofs.lemmas.List.Elements.{All-nil, All-push, All-drop, All-weaker}
use Rattle.std.proofs.lemmas.List.Sums.{sum_by-le}
use Rattle.sii_words.specs.Plant.{words_of}
use Rattle.sii_image.specs.NewLayouts.{with_each}
use Rattle.sii_words.specs.declared.run.Run.{Run}
use Rattle.sii_words.specs.Run.{runs_between}
use Rattle.sii_words.specs.Redo.{redone}
use Rattle.sii_edit.specs.declared.command.Command.{Command}
use Rattle.sii_edit.specs.declared.applying.Change.{Change}
use Rattle.sii_edit.specs.Command.{outcome}
use Rattle.sii_edit.specs.Fold.{after, contents, AreAccepted}
use Rattle.sii_edit.proofs.FoldLaws.{contents-push}
use Rattle.jrn_format.specs.declared.journal.Entry.{Entry}
use Rattle.jrn_format.specs.Batch.{AreCountedRuns, IsCountedRun, entry_size}
use Rattle.jrn_format.specs.Halves.{entries_size}
use Rattle.jrn_format.proofs.SizeLaws.{payload_size, payload_one_more}
use Rattle.book_model.specs.declared.refusal.TheConstants.{QUEUE}
use Rattle.book_model.proofs.CommandLaws.{entries-push, length-entries}
use Rattle.book_parts.specs.Change.{IsChangeOf}
use Rattle.book_parts.specs.Ledger.{Ledger, contents_of, own, queued, opened, with_command, gone_durable}
use Rattle.book_parts.specs.Stands.{ContentsStand, EntriesStand, IsSized, Stands}
use Rattle.book_parts.proofs.ChangeLaws.{change-after, change-runs, change-ok, counted}

-- the entry of a command with this change
abbrev pub entry_of : Ledger → Change → Entry
entry_of ledger change = record { number = length ledger.accepted; runs = change.runs.items }

-- one command more has one entry more
own-push : (ledger : Ledger) (command : Command) (change : Change) → IsChangeOf (contents_of ledger) command change
    → own (with_command ledger command) ≡ own ledger ++ entry_of ledger change ∷ []
own-push ledger command change is =
    entries-push 0 ledger.base ledger.accepted command
    ∙ ap (λ (n : ℕ). own ledger ++ record { number = n; runs = runs_between (contents_of ledger) (after (contents_of ledger) command) } ∷ []) (zero-add (length ledger.accepted))
    ∙ ap (λ (runs : List Run). own ledger ++ record { number = length ledger.accepted; runs = runs } ∷ []) (change-runs (contents_of ledger) command change is)

length-own : (ledger : Ledger) → length (own ledger) ≡ length ledger.accepted
length-own ledger = length-entries 0 ledger.base ledger.accepted

taken-push : (n k : ℕ) (xs : List Entry) (x : Entry) → n + k ≤ length xs → take k (drop n (xs ++ x ∷ [])) ≡ take k (drop n xs)
taken-push n k xs x few =
    ap (take k) (drop-append-le n xs (x ∷ []) (omega (arith, few)))
    ∙ take-append-le k (drop n xs) (x ∷ []) (omega (arith, few, length-drop n xs))

pub queued-push : (ledger : Ledger) (command : Command) (change : Change) → ledger.durable + ledger.begun ≤ length ledger.accepted → IsChangeOf (contents_of ledger) command change
    → queued (with_command ledger command) ≡ queued ledger ++ entry_of ledger change ∷ []
queued-push ledger command change few is =
    let x = entry_of ledger change in
    ap (λ (l : List Entry). drop (ledger.durable + ledger.begun) l) (own-push ledger command change is)
    ∙ drop-append-le (ledger.durable + ledger.begun) (own ledger) (x ∷ []) (omega (arith, few, length-own ledger))

entries-accepted : (ledger : Ledger) (begun queue : List Entry) (command : Command) (change : Change)
    → EntriesStand ledger begun queue → IsChangeOf (contents_of ledger) command change
    → EntriesStand (with_command ledger command) begun (queue ++ entry_of ledger change ∷ [])
entries-accepted ledger begun queue command change stands is =
    let x = entry_of ledger change in
    let few : ledger.durable + ledger.begun ≤ length (own ledger) = omega (arith, stands.few, length-own ledger) in
    record {
      are_appended = stands.are_appended ∙ sym (ap (λ (l : List Entry). take ledger.begun (drop ledger.durable l)) (own-push ledger command change is) ∙ taken-push ledger.durable ledger.begun (own ledger) x few);
      are_queued = ap (λ (l : List Entry). l ++ x ∷ []) stands.are_queued ∙ sym (queued-push ledger command change stands.few is);
      few = omega (arith, stands.few, length-append ledger.accepted (command ∷ []));
    }

accepted-push : (base : List (List ℕ)) (commands : List Command) (command : Command)
    → AreAccepted base commands → IsOk (outcome (contents base commands) command) → AreAccepted base (commands ++ command ∷ [])
accepted-push base [] command each is = (is, tt)
accepted-push base (first ∷ commands) command each is = (each.0, accepted-push (after base first) commands command each.1 is)

contents-accepted : (ledger : Ledger) (now layout : List (List ℕ)) (command : Command) (change : Change)
    → ContentsStand ledger.base ledger.accepted now layout → IsChangeOf (contents_of ledger) command change
    → ContentsStand ledger.base (ledger.accepted ++ command ∷ []) (redone now change.runs.items) (with_each layout change.layouts)
contents-accepted ledger now layout command change stands is =
    let runs = change.runs.items in
    let layouts = change.layouts in
    let plant = contents_of ledger in
    record {
      are_accepted = accepted-push ledger.base ledger.accepted command stands.are_accepted (change-ok plant command change is);
      is_contents = ap (λ (p : List (List ℕ)). redone p runs) stands.is_contents ∙ sym (contents-push ledger.base ledger.accepted command ∙ change-after plant command change is);
      is_layout = ap (λ (p : List (List ℕ)). with_each p layouts) (stands.is_layout ∙ stands.is_contents) ∙ is.layouts ∙ sym (ap (λ (p : List (List ℕ)). redone p runs) stands.is_contents);
    }

sized-push : (entries : List Entry) (bytes : ℕ) (x : Entry) → IsSized entries bytes → length entries < QUEUE → IsSized (entries ++ x ∷ []) (bytes + entry_size x.runs)
sized-push entries bytes x sized few =
    record {
      few = omega (arith, few, length-append entries (x ∷ []));
      size = omega (arith, sized.size, payload_one_more entries x);
    }

pub stands-accepted : (ledger : Ledger) (now layout : List (List ℕ)) (begun queue : List Entry) (begun_bytes queue_bytes : ℕ) (command : Command) (change : Change)
    → Stands ledger now layout begun begun_bytes queue queue_bytes → IsChangeOf (contents_of ledger) command change → AreCountedRuns change.runs.items → length (queued ledger) < QUEUE
    → Stands (with_command ledger command) (redone now change.runs.items) (with_each layout change.layouts) begun begun_bytes (queue ++ entry_of ledger change ∷ []) (queue_bytes + entry_size change.runs.items)
stands-accepted ledger now layout begun queue begun_bytes queue_bytes command change stands is runs room =
    let x = entry_of ledger change in
    record {
      contents = contents-accepted ledger now layout command change stands.contents is;
      entries = entries-accepted ledger begun queue command change stands.entries is;
      counts = record {
        words = stands.counts.words;
        runs = subst (All (λ (e : Entry). AreCountedRuns e.runs)) (sym (own-push ledger command change is)) (All-push (λ (e : Entry). AreCountedRuns e.runs) (own ledger) x stands.counts.runs runs);
      };
      begun_sized = stands.begun_sized;
      queue_sized = sized-push queue queue_bytes x stands.queue_sized (omega (arith, room, ap length stands.entries.are_queued));
    }

-- ---- entries go on

empty-size : IsSized [] 8
empty-size = record { few = omega arith; size = omega (arith, payload_size []) }

pub stands-opened : (base : List (List ℕ)) → ((slave : ℕ) → length (words_of base slave) ≤ 4096) → Stands (opened base) base base [] 8 [] 8
stands-opened base few =
    record {
      contents = record { are_accepted = tt; is_contents = refl; is_layout = refl };
      entries = record { are_appended = refl; are_queued = refl; few = omega arith };
      counts = record { words = few; runs = All-nil (λ (e : Entry). AreCountedRuns e.runs) };
      begun_sized = empty-size;
      queue_sized = empty-size;
    }

pub stands-begun : (ledger : Ledger) (now layout : List (List ℕ)) (begun queue : List Entry) (begun_bytes queue_bytes : ℕ)
    → Stands ledger now layout begun begun_bytes queue queue_bytes → ledger.begun ≡ 0
    → Stands (record ledger { begun = length queue }) now layout queue queue_bytes [] 8
stands-begun ledger now layout begun queue begun_bytes queue_bytes stands none =
    let all = drop ledger.durable (own ledger) in
    let is : queue ≡ all = stands.entries.are_queued ∙ ap (λ (n : ℕ). drop n (own ledger)) (omega (arith, none)) in
    let total : length queue + ledger.durable ≡ length (own ledger) = omega (arith, ap length is, length-drop ledger.durable (own ledger), length-own ledger, stands.entries.few) in
    record {
      contents = stands.contents;
      entries = record {
        are_appended = is ∙ sym (take_all (length queue) all (omega (arith, ap length is)));
        are_queued = sym (drop_all (ledger.durable + length queue) (own ledger) (omega (arith, total)));
        few = omega (arith, total, length-own ledger);
      };
      counts = stands.counts;
      begun_sized = stands.queue_sized;
      queue_sized = empty-size;
    }

pub stands-durable : (ledger : Ledger) (now layout : List (List ℕ)) (begun queue : List Entry) (begun_bytes queue_bytes : ℕ)
    → Stands ledger now layout begun begun_bytes queue queue_bytes
    → Stands (gone_durable ledger) now layout [] 8 queue queue_bytes
stands-durable ledger now layout begun queue begun_bytes queue_bytes stands =
    record {
      contents = stands.contents;
      entries = record {
        are_appended = refl;
        are_queued = stands.entries.are_queued ∙ ap (λ (n : ℕ). drop n (own ledger)) (omega arith);
        few = omega (arith, stands.entries.few);
      };
      counts = stands.counts;
      begun_sized = empty-size;
      queue_sized = stands.queue_sized;
    }

-- ---- bounds

size-bound : (runs : List Run) → AreCountedRuns runs → entry_size runs ≤ 2 ^ 34
size-bound runs counted =
    let each : All (λ run. 6 + 2 * length run.words ≤ 131076) runs = All-weaker IsCountedRun (λ (run : Run). 6 + 2 * length run.words ≤ 131076) (λ run c. omega (arith, c.1)) runs counted.1 in
    omega (arith, counted.0, sum_by-le (λ (run : Run). 6 + 2 * length run.words) 131076 runs each)

queue-bound : (entries : List Entry) → length entries ≤ 1024 → All (λ e. AreCountedRuns e.runs) entries → entries_size entries < 2 ^ 48
queue-bound entries few each =
    let sizes : All (λ e. entry_size e.runs ≤ 2 ^ 34) entries = All-weaker (λ (e : Entry). AreCountedRuns e.runs) (λ (e : Entry). entry_size e.runs ≤ 2 ^ 34) (λ e c. size-bound e.runs c) entries each in
    omega (arith, few, payload_size entries, sum_by-le (λ (e : Entry). entry_size e.runs) (2 ^ 34) entries sizes)

-- a queue's bytes are far from too many
pub queue-fits : (ledger : Ledger) (now layout : List (List ℕ)) (begun queue : List Entry) (begun_bytes queue_bytes : ℕ)
    → Stands ledger now layout begun begun_bytes queue queue_bytes → queue_bytes < 2 ^ 48
queue-fits ledger now layout begun queue begun_bytes queue_bytes stands =
    let P : Entry → Type 0 = λ e. AreCountedRuns e.runs in
    let each : All P queue = subst (All P) (sym stands.entries.are_queued) (All-drop P (ledger.durable + ledger.begun) (own ledger) stands.counts.runs) in
    omega (arith, stands.queue_sized.size, queue-bound queue stands.queue_sized.few each)

pub queued-fits : (ledger : Ledger) (now layout : List (List ℕ)) (begun queue : List Entry) (begun_bytes queue_bytes : ℕ)
    → Stands ledger now layout begun begun_bytes queue queue_bytes → entries_size (queued ledger) < 2 ^ 48
queued-fits ledger now layout begun queue begun_bytes queue_bytes stands =
    omega
    (arith, queue-fits ledger now layout begun queue begun_bytes queue_bytes stands, stands.queue_sized.size, ap (λ (l : List Entry). entries_size l) stands.entries.are_queued)
