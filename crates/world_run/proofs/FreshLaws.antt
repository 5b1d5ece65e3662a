-- A line on a disk that was just formatted.
use Rattle.std.proofs.Common.{◌≡◌, ◌∙◌, ℕ, ◌≤◌, Bool, None, List, [], ◌++◌, length, replicate, refl, sym, ap, subst, arith, append-nil}
use Rattle.std.specs.List.{AllByRecursion}
use Rattle.std.proofs.lemmas.List.{length-replicate}
use Rattle.sii_edit.specs.Fitting.{PlantFits}
use Rattle.jrn_format.specs.Header.{header_bytes, IsCapacity}
use Rattle.esc_model.specs.SlaveHalf.{SlaveHalf}
use Rattle.esc_model.specs.WordAccess.{IsIdle}
use Rattle.site_core.specs.Disk.{Disk}
use Rattle.site_core.specs.State.{State}
use Rattle.site_journal.proofs.EmptyLaws.{zeros_halved}
use Rattle.book_model.specs.Kept.{Kept}
use Rattle.book_model.specs.Machine.{Machine}
use Rattle.book_model.specs.Opening.{words_in, IsAllSynced}
use Rattle.world_law.specs.World.{World}
use Rattle.world_law.specs.Law.{IsFormatted, MachineFits, Starts, blank}
use Rattle.world_law.proofs.FormatLaws.{formatted-starts}
use Rattle.world_run.specs.Torn.{synced_of}

formatted : (slaves capacity : ℕ) → slaves ≤ 64 → IsCapacity capacity → IsFormatted slaves (header_bytes 2 slaves capacity ++ replicate capacity 0)
formatted slaves capacity few is =
    let area : List ℕ = replicate capacity 0 in
    let long : length area ≡ capacity = length-replicate {A = ℕ} capacity 0 in
    let closed = zeros_halved capacity is in
    record {
      area = area;
      rest = [];
      slaves_fit = omega arith;
      capacity = subst IsCapacity (sym long) is;
      is = ap (λ (l : List ℕ). header_bytes 2 slaves capacity ++ l) (sym (append-nil area)) ∙ ap (λ (n : ℕ). header_bytes 2 slaves n ++ (area ++ [])) (sym long);
      first = closed.first;
      second = closed.second;
      halves = closed.halves;
      first_gate = closed.first_gate;
      second_gate = closed.second_gate;
    }

pub fresh-starts : (halves : List SlaveHalf) (took : List Bool) (contents : List (List ℕ)) (slaves capacity : ℕ) (disk : Disk) → disk ≡ synced_of (header_bytes 2 slaves capacity ++ replicate capacity 0)
    → slaves ≡ length halves → slaves ≤ 64 → IsCapacity capacity → words_in halves ≡ contents → AllByRecursion IsIdle halves → length took ≡ length halves → PlantFits contents
    → Starts (record { book = None; state = record { disk = disk; halves = halves }; took = took }) (blank contents)
fresh-starts halves took contents slaves capacity disk is count few capacity_is words idle long fits =
    let bytes = header_bytes 2 slaves capacity ++ replicate capacity 0 in
    let made : State = record { disk = synced_of bytes; halves = halves } in
    let ready = subst (λ (n : ℕ). IsFormatted n bytes) count (formatted slaves capacity few capacity_is) in
    let entire = formatted-starts made took ready (record { all = refl; entire = omega arith }) idle long (subst PlantFits (sym words) fits) in
    subst (λ (c : List (List ℕ)). Starts (record { book = None; state = record { disk = disk; halves = halves }; took = took }) (blank c)) words
    (subst (λ (d : Disk). Starts (record { book = None; state = record { disk = d; halves = halves }; took = took }) (blank (words_in halves))) (sym is) entire)

-- a disk of bytes with a journal that is kept, all of them synced
pub kept-starts : (world : World) (bytes : List ℕ) (machine : Machine) → world.book ≡ None → world.state.disk ≡ synced_of bytes → AllByRecursion IsIdle world.state.halves
    → length world.took ≡ length world.state.halves → Kept bytes (words_in world.state.halves) machine → MachineFits machine → Starts world machine
kept-starts world bytes machine down is idle long kept fits = record {
  down = down;
  synced = subst IsAllSynced (sym is) (record { all = refl; entire = omega arith });
  idle = idle;
  kept = subst (λ (d : Disk). Kept d.bytes (words_in world.state.halves) machine) (sym is) kept;
  took = long;
  fits = fits;
}
