-- A line that was taken apart in memory, whose parts got devices, and which no desk has served.
use Rattle.std.proofs.Common.{◌≡◌, ◌∙◌, ℕ, suc, List, [], ◌∷◌, ◌++◌, length, Option, Some, None, refl, sym, ap, subst}
use Rattle.std.specs.List.{AllByRecursion, AllZip}
use Rattle.site_core.specs.Passes.{LeavesOnly}
use Rattle.site_core.specs.State.{Leaves, Pair, Seen, State}
use Rattle.site_core.proofs.Runs.{Passes-none, Passes-stays}
use Rattle.site_shadow.specs.Site.{SiteValue}
use Rattle.sii_edit.specs.declared.command.Command.{Command}
use Rattle.station_alone.specs.Station.{Station}
use Rattle.station_jobs.specs.declared.log.SlaveLog.{SlaveLog}
use Rattle.station_jobs.specs.Ends.{Stay}
use Rattle.station_jobs.specs.Left.{ServedJobs}
use Rattle.station_threads.specs.declared.closing.Ends.{Ends}
use Rattle.station_threads.specs.Parts.{IsEndOfSlave}
use Rattle.station_threads.specs.Places.{AllPlaced}
use Rattle.station_threads.specs.Sites.{IsEndOfTurns}
use Rattle.script_session.specs.declared.logs.DeskLog.{DeskLog}
use Rattle.script_session.specs.declared.logs.PartLog.{PartLog}
use Rattle.script_session.specs.declared.logs.UnservedLog.TheVariants as unserved
use Rattle.script_session.specs.Parts.{AreSame, AreReportedOf, BeginsWith, IsSeparate, IsServable, Sites, Telling}
use Rattle.script_session.specs.AtDesk as at_desk
use Rattle.script_session.specs.AtDesk.{IsUnservedReported}
use Rattle.station_line.specs.Site.{IsFollowed}

-- one item more in each list
pub zip_more : {A B : Type 0} (R : A → B → Type 0) (xs : List A) (ys : List B) (x : A) (y : B) → AllZip R xs ys → R x y
    → AllZip R (xs ++ x ∷ []) (ys ++ y ∷ [])
zip_more R [] [] x y all one = (one, tt)
zip_more R [] (b ∷ ys) x y all one = absurd all
zip_more R (a ∷ xs) [] x y all one = absurd all
zip_more R (a ∷ xs) (b ∷ ys) x y all one = (all.0, zip_more R xs ys x y all.1 one)

-- Sites in the same states are taken apart of the same line.
pub same_servable : (capacity : ℕ) (entire : State) (sites same : Sites) → AreSame sites same → IsServable capacity entire sites
    → IsServable capacity entire same
same_servable capacity entire sites same are is = record {
  separate = record {
    disk = ap (λ (s : SiteValue). s.seen.state.disk) are.disk ∙ is.separate.disk;
    new = ap (λ (s : SiteValue). s.seen.past) are.disk ∙ is.separate.new;
    slaves = subst (AllPlaced BeginsWith 0 entire.halves) (sym are.slaves) is.separate.slaves;
  };
  own = record {
    owned = record {
      of_disk = rw are.disk is.own.owned.of_disk;
      of_slaves = rw are.slaves is.own.owned.of_slaves;
      of_cycle = rw are.cycle is.own.owned.of_cycle;
    };
    long = rw are.disk is.own.long;
  };
}

-- ---- ends of parts that were not served

-- where no job was done, a power cut leaves what it may leave of the site as it is
none_served : {J O : Type 0} (Does : J → O → Seen → Seen → Type 0) (Returns : J → O → State → State → Type 0)
    (InProgress : J → State → Pair → Type 0) (seen : Seen) → ServedJobs Does Returns InProgress [] seen seen
none_served Does Returns InProgress seen = record {
  led = record { done = []; last = []; log_is = refl; mid = seen; in_turn = refl; ends = refl };
  left = λ pair since.
      let still = Passes-stays (Leaves seen.state) seen seen (Passes-none (LeavesOnly (Leaves seen.state)) seen (λ pair leaves. leaves)) in
      record { done = []; others = []; log_is = refl; mid = seen.state; in_turn = refl; left = still.left pair since };
}

abbrev unserved_end : ℕ → SiteValue → Stay SiteValue SlaveLog
unserved_end slave site = record { start = site; site = site; log = record { slave = slave; jobs = [] } }

abbrev unserved_ends : ℕ → List SiteValue → List (Stay SiteValue SlaveLog)
unserved_ends slave [] = []
unserved_ends slave (site ∷ sites) = unserved_end slave site ∷ unserved_ends (suc slave) sites

as_many : (slave : ℕ) (sites : List SiteValue) → length (unserved_ends slave sites) ≡ length sites
as_many slave [] = refl
as_many slave (site ∷ sites) = ap suc (as_many (suc slave) sites)

are_ends : (slave : ℕ) (sites : List SiteValue)
    → AllPlaced (λ place (site : SiteValue) (end : Stay SiteValue SlaveLog). IsEndOfSlave place site end) slave sites (unserved_ends slave sites)
are_ends slave [] = tt
are_ends slave (site ∷ sites) = (record { slave_is = refl; start = refl }, are_ends (suc slave) sites)

none_done : (slave : ℕ) (sites : List SiteValue)
    → AllByRecursion (λ (end : Stay SiteValue SlaveLog). (end.site ≡ end.start) × (end.log.jobs ≡ [])) (unserved_ends slave sites)
none_done slave [] = tt
none_done slave (site ∷ sites) = ((refl, refl), none_done (suc slave) sites)

abbrev unserved_cycle : {L : Type 0} → Option SiteValue → Option (Stay SiteValue (List L))
unserved_cycle (Some site) = Some (record { start = site; site = site; log = [] })
unserved_cycle None = None

is_end : (L : Type 0) (cycle : Option SiteValue) → IsEndOfTurns cycle (unserved_cycle {L = L} cycle)
is_end L (Some site) = refl
is_end L None = tt

abbrev all_unserved : Sites → Ends SiteValue
all_unserved sites = record {
  flusher = record { start = sites.disk; site = sites.disk; log = [] };
  workers = record {
    ptr = sites.slaves.ptr;
    len = sites.slaves.len;
    cap = sites.slaves.cap;
    alloc = sites.slaves.alloc;
    items = unserved_ends 0 sites.slaves.items;
    ok = (sites.slaves.ok.0 ∙ sym (as_many 0 sites.slaves.items), sites.slaves.ok.1);
    small = sites.slaves.small;
  };
  cycle = unserved_cycle sites.cycle;
}

-- ---- what is told of their devices

module _ {D T : Type 0} (follows : D → Seen → Type 0) (well : D → Type 0) (tells : D → T → Type 0) where
  tell_of : (slave : ℕ) (sites : List SiteValue) (reported : List (PartLog T))
      → AllZip (λ (site : SiteValue) (part : PartLog T). IsFollowed (Telling follows well tells part) site.seen) sites reported
      → AreReportedOf follows well tells reported (unserved_ends slave sites)
  tell_of slave [] [] all = tt
  tell_of slave [] (part ∷ reported) all = absurd all
  tell_of slave (site ∷ sites) [] all = absurd all
  tell_of slave (site ∷ sites) (part ∷ reported) all =
      (record { worked = none_served _ _ _ site.seen; followed = all.0 }, tell_of (suc slave) sites reported all.1)

  pub separate_reported : (opened : Station) (commands : List Command) (seen : Seen) (sites : Sites) (reported : DeskLog T) (line : PartLog T)
      → seen ≡ opened.seen → IsSeparate seen.state sites → IsFollowed (Telling follows well tells line) seen → reported.line ≡ line
      → IsFollowed (Telling follows well tells reported.disk) sites.disk.seen
      → AllZip (λ (site : SiteValue) (part : PartLog T). IsFollowed (Telling follows well tells part) site.seen) sites.slaves.items reported.slaves.items
      → IsUnservedReported follows well tells opened commands (unserved.Separate reported)
  separate_reported opened commands seen sites reported line of_seen separate before same disk slaves =
      at_desk.separate reported
      (record {
        sites = sites;
        separate = subst (λ (s : Seen). IsSeparate s.state sites) of_seen separate;
        ends = all_unserved sites;
        of_sites = record { flusher = refl; workers = are_ends 0 sites.slaves.items; cycle = is_end _ sites.cycle };
      })
      (record { disk = (refl, refl); slaves = none_done 0 sites.slaves.items })
      (record {
        before = subst (IsFollowed (Telling follows well tells reported.line)) of_seen
            (subst (λ (part : PartLog T). IsFollowed (Telling follows well tells part) seen) (sym same) before);
        flushed = none_served _ _ _ sites.disk.seen;
        disk = disk;
        slaves = tell_of 0 sites.slaves.items reported.slaves.items slaves;
      })
