-- A power cut at a desk, with each device anywhere in its job.
use Rattle.std.proofs.Common.{◌∙◌, ℕ, List, [], refl, sym, ap, subst}
use Rattle.std.proofs.lemmas.List.{append-nil, length-map}
use Rattle.esc_model.specs.SlaveHalf.{SlaveHalf}
use Rattle.site_core.specs.Disk.{Disk}
use Rattle.site_core.specs.State.{State, Seen, Pair}
use Rattle.site_core.specs.Passes.{LeavesOnly}
use Rattle.site_shadow.specs.Unsynced.{of_bytes}
use Rattle.station_jobs.specs.declared.log.Assignment.{Assignment}
use Rattle.station_jobs.specs.Jobs.{Led}
use Rattle.station_jobs.specs.Left.{LeftInProgress}
use Rattle.station_jobs.specs.Flushing.{DoesAction, LeftInAction}
use Rattle.station_jobs.specs.Working.{CallsSlave, LeftInCall}
use Rattle.station_jobs.proofs.ActionLaws.{flushed}
use Rattle.station_jobs.proofs.CallLaws.{worked}
use Rattle.desk_book.specs.declared.call.Call.{Call}
use Rattle.desk_laws.specs.Joined.{AllGo, DiskGoes, SlaveGoes}
use Rattle.desk_laws.proofs.Ending.{desk-kept}
use Rattle.kept_files.specs.Cuts.{IsAt, DiskCut, SlaveCut, AllCut, CutIsKept}
use Rattle.kept_files.proofs.Fixed.{still, fixed, fixed_only, fixed_leaves, still_at, still_from}

-- the jobs that have returned led the site there
done_led : {J O : Type 0} (Does : J → O → Seen → Seen → Type 0) (log : List (Assignment J O)) (start : Seen) (at : IsAt Does log start) → Led Does at.done start at.mid
done_led Does log start at = record {
  done = at.done;
  last = [];
  log_is = sym (append-nil at.done);
  mid = at.mid;
  in_turn = at.in_turn;
  ends = refl;
}

-- a state that leaves one pair leaves only what this one has
only_this : (Q : Pair → Type 0) (pair : Pair) → Q pair → LeavesOnly Q (fixed pair)
only_this Q pair has left leaves = subst Q (sym (fixed_only pair left leaves)) has

disk_goes : (calls : List Call) (old : Disk) (pair : Pair) → DiskCut calls old pair.disk → DiskGoes calls old (fixed pair).disk
disk_goes calls old pair cut = record {
  done = cut.at.done;
  out = cut.at.out;
  log_is = cut.at.log_is;
  may_be_out = cut.at.may_be_out;
  start = cut.start;
  mid = cut.at.mid;
  flushed = flushed cut.at.done cut.start cut.at.mid (done_led DoesAction _ cut.start cut.at);
  now = fixed cut.pair;
  stands = only_this (LeftInProgress LeftInAction cut.at.out cut.at.mid.state) cut.pair cut.left;
  began = cut.began;
  is = ap of_bytes cut.is;
}

slave_goes : (calls : List Call) (slave : ℕ) (old : SlaveHalf) (words : List ℕ) → SlaveCut calls slave old words → SlaveGoes calls slave old (still words)
slave_goes calls slave old words cut = record {
  done = cut.at.done;
  out = cut.at.out;
  log_is = cut.at.log_is;
  may_be_out = cut.at.may_be_out;
  start = cut.start;
  mid = cut.at.mid;
  worked = worked slave cut.at.done cut.start cut.at.mid (done_led (CallsSlave slave) _ cut.start cut.at);
  now = fixed cut.pair;
  stands = only_this (LeftInProgress (LeftInCall slave) cut.at.out cut.at.mid.state) cut.pair cut.left;
  began = cut.began;
  is = still_at cut.pair.words slave words cut.is;
}

all_go : (calls : List Call) (old : State) (pair : Pair) → AllCut calls old pair → AllGo calls old (fixed pair)
all_go calls old pair cut = record {
  disk = disk_goes calls old.disk pair cut.disk;
  count = length-map pair.words still ∙ cut.count;
  slaves = λ slave half later here there.
      let one = still_from pair.words slave later there in
      subst (λ (h : SlaveHalf). SlaveGoes calls slave half h) (sym one.2) (slave_goes calls slave half one.0 (cut.slaves slave half one.0 here one.1));
}

pub cut_is_kept : CutIsKept
cut_is_kept machine journal old calls pair opened answered cut =
    let kept = desk-kept machine journal old (fixed pair) calls opened answered (all_go calls old pair cut) in
    record { k = kept.k; may_keep = kept.may_keep; base = kept.base; kept = kept.kept pair (fixed_leaves pair) }
